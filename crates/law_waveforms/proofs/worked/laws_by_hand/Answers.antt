-- The definitions compute.
use Rattle.std.proofs.Common.{refl}
use Rattle.design_circuit.specs.Rule.{rule, arguments}
use Rattle.law_model.specs.Assignment.{for_every}
use Rattle.law_model.specs.Class.{classes}
use Rattle.law_model.specs.Root.{roots}
use Rattle.law_waveforms.proofs.worked.laws_by_hand.Goals as goal

pub returns-clause-root : goal.returns-clause-root
unfolding rule arguments for_every classes roots
returns-clause-root c = refl

pub returns-clause-none_before : goal.returns-clause-none_before
returns-clause-none_before c = refl

pub returns-clause-all_before : goal.returns-clause-all_before
returns-clause-all_before c = refl

pub returns-clause-reshown : goal.returns-clause-reshown
returns-clause-reshown c = refl

pub returns-clause-set_to_one : goal.returns-clause-set_to_one
returns-clause-set_to_one c = refl

pub returns-clause-set_to_zero : goal.returns-clause-set_to_zero
returns-clause-set_to_zero c = refl
