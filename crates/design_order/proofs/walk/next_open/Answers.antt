-- A net that isn't listed and can't come wants an argument.
use Rattle.std.proofs.Common.{◌≡◌, ◌∙◌, sym, true, false}
use Rattle.design_circuit.specs.Job.{driver_in}
use Rattle.design_order.proofs.Listings.{come_from}
use Rattle.design_order.proofs.walk.next_open.Goals as goal

pub unreachable-requires : goal.unreachable-requires
unreachable-requires c =
    let none = sym c.first_open_of.ensures ∙ c.in-None.is in
    let clash : true ≡ false = sym (come_from (driver_in c.args.design.now) c.args.flags.now c.args.net c.requires.open_ none) ∙ c.requires.stuck in
    cc
