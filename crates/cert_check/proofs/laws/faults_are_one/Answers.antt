-- The laws.
use Rattle.cert_check.proofs.OneFault.{no_fault, one_fault}
use Rattle.cert_check.proofs.laws.faults_are_one.Goals as goal

pub returns-clause-one : goal.returns-clause-one
returns-clause-one c = one_fault

pub returns-clause-none : goal.returns-clause-none
returns-clause-none c = no_fault
