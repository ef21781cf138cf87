-- A code's text comes to one thing.
use Rattle.std.proofs.Common.{Ok, Err, ap}
use Rattle.replay_code.specs.Code.{Code}
use Rattle.replay_code.proofs.OneCode.{faults_one, says_no_fault, says_one}
use Rattle.base_run.specs.Phases.{IsOne}
use Rattle.cmd_phases.specs.Code.{CodeComes}

pub one_code : (c : Code) → IsOne (CodeComes c)
one_code c (Ok a) (Ok b) first second = ap Ok (says_one c a b first second)
one_code c (Ok a) (Err f) first second = absurd (says_no_fault c a f first second)
one_code c (Err e) (Ok b) first second = absurd (says_no_fault c b e second first)
one_code c (Err e) (Err f) first second = ap Err (faults_one c e f first second)
