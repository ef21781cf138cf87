-- Choices by numbers are choices by lists of values.
use Rattle.std.proofs.Common.{◌∙◌, sym}
use Rattle.design_cell.proofs.Clocks.{clock_sound, clock_complete}
use Rattle.design_cell.proofs.udp.Udp.is_clock.Goals as goal

pub returns-clause-exact : goal.returns-clause-exact
returns-clause-exact c = (
  λ h. clock_sound c.args.self.now c.args.dead c.args.pin c.requires.pin (sym c.acts_at_some.ensures ∙ h),
  λ is. c.acts_at_some.ensures ∙ clock_complete c.args.self.now c.args.dead c.args.pin c.requires.pin is,
)
