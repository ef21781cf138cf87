-- What the definitions compute stands in the lemmas.
use Rattle.law_model.proofs.WorkedRegisters.{open_carries, open_holds, reset_carries, reset_holds}
use Rattle.law_model.proofs.worked.levels_by_hand.Goals as goal

pub returns-clause-open_carries : goal.returns-clause-open_carries
returns-clause-open_carries c = open_carries

pub returns-clause-open_holds : goal.returns-clause-open_holds
returns-clause-open_holds c = open_holds

pub returns-clause-reset_carries : goal.returns-clause-reset_carries
returns-clause-reset_carries c = reset_carries

pub returns-clause-reset_holds : goal.returns-clause-reset_holds
returns-clause-reset_holds c = reset_holds
