-- A copy's position copies what the position of its net copies.
use Rattle.std.proofs.Common.{◌≡◌, ◌∙◌, slice_index, sym, ap, subst, arith}
use Rattle.std.specs.List.{AllByRecursion}
use Rattle.std.proofs.lemmas.List.{get_or_default}
use Rattle.design_circuit.specs.Circuit.{job_in}
use Rattle.design_circuit.specs.Fits.{StandsBefore}
use Rattle.design_circuit.specs.Order.{arguments_of_driver}
use Rattle.design_circuit.specs.declared.design.Driver.{Driver}
use Rattle.design_circuit.specs.declared.design.Driver.TheVariants.{Copy}
use Rattle.wave_bytes.specs.Roots.{IsRootBehind}
use Rattle.wave_bytes.specs.Rows.{nth_root}
use Rattle.wave_bytes.proofs.roots.root_behind.Goals as goal

pub returns-in-Copy : goal.returns-in-Copy
returns-in-Copy c =
    let j = job_in c.args.circuit.now in
    let position = c.args.position in
    let net = c.in-Copy.copied in
    let roots = c.args.roots.now in
    let driver : j.driver (slice_index j.order position) ≡ Copy net =
    ap j.driver (sym c.net-net.ensures) ∙ sym c.driver_at.ensures ∙ c.in-Copy.is in
    let stands = subst (λ (d : Driver). AllByRecursion (StandsBefore j position) (arguments_of_driver d)) driver
    (c.args.circuit.now.fits.fits_job.arguments position c.requires.position) in
    let place = c.position.ensures.place in
    let long = c.requires.roots.long in
    let before = stands.0.before in
    IsRootBehind.copied net driver before
    (get_or_default roots c.position.result 0 c.position.result (omega (arith, place, before, long))
    ∙ ap (nth_root roots) place)
