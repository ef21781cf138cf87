-- Where no pin changed, the state stays.
use Rattle.std.proofs.Common.{◌∙◌}
use Rattle.design_cell.proofs.Nexts.{next_unchanged}
use Rattle.design_cell.proofs.udp.Udp.next.Goals as goal

pub returns-clause-unchanged : goal.returns-clause-unchanged
returns-clause-unchanged c = λ same. c.next_by.ensures.value ∙ next_unchanged c.args.self.now c.args.clocks c.args.old.now c.args.new.now c.args.q same
