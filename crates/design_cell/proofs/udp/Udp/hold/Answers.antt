-- The two outputs agree exactly where level rows give one bit at both states.
use Rattle.std.proofs.Common.{◌≡◌, true}
use Rattle.design_cell.specs.Value.{IsKnown}
use Rattle.design_cell.proofs.Holds.{hold_exact, hold_unknown}
use Rattle.design_cell.proofs.udp.Udp.hold.Goals as goal

pub returns-then-is_known-clause-exact : goal.returns-then-is_known-clause-exact
returns-then-is_known-clause-exact c = λ bit known.
    rw c.agreed.ensures (hold_exact c.args.self.now c.args.pins.now c.level_output-zero.result c.level_output.result bit c.level_output-zero.ensures.exact c.level_output.ensures.exact known)

pub returns-else-is_known-clause-exact : goal.returns-else-is_known-clause-exact
returns-else-is_known-clause-exact c = λ bit known.
    let unknown : IsKnown c.level_output-zero.result → ⊥ = λ is. (let told : c.is_known.result ≡ true = c.is_known.ensures.1 is in cc) in
    hold_unknown c.args.self.now c.args.pins.now c.level_output-zero.result bit c.level_output-zero.ensures.exact unknown known
