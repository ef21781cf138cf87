-- What the functions of src/laws.rt ensure: words have one meaning, an answer says what is promised, and a repair's own
-- certificate is in order for a check of its job.
use Rattle.std.specs.Prelude.{◌≡◌, ℕ, ◌≤◌, Bool, List, Ok, length}
use Rattle.cmd_phases.specs.Code.{text_limit}
use Rattle.base_run.specs.Phases.{Answer, ComesTo}
use Rattle.cmd_set.specs.Command.{ReportsInputs}
use Rattle.cmd_set.specs.Set.{Means, MeansOnly, Values, inputs_of, phases_of}
use Rattle.base_shelf.specs.Shelf.{Files}
use Rattle.cmd_program.specs.Check.{CheckValues, IsCheckable}
use Rattle.cmd_program.specs.Commands.{command_of}
use Rattle.cmd_program.specs.Headline.{Headline}
use Rattle.cmd_program.specs.Repair.{RepairValues}

-- Words have at most one meaning.
abbrev pub WordsMeanOne : Type 0
WordsMeanOne = (words : List (List ℕ)) (v : Values command_of) → Means command_of words v
    → MeansOnly command_of words v

-- What a command of the set finds, of files that the shelf reports if it reads any, says what is promised.
abbrev pub AnswersSay : Type 0
AnswersSay = (told : Bool) (files : Files) (line : List (List ℕ)) (words : Values command_of) (answer : Answer)
    → ReportsInputs (inputs_of command_of words) told → Means command_of line words
    → ComesTo told files (phases_of command_of words) (Ok answer) → (command_of words.0).Says files words.1 answer

-- A check of what a repair wrote: of the same job, with logs of as many clauses.
pub record IsCheckOf (w : RepairValues) (check : CheckValues) : Type 0 where
  pub job : check.job ≡ w.job
  pub limits : check.limits ≡ w.limits

-- Its certificate, where it isn't too long, is in order for such a check: which so ends with status 0, faults of files
-- and want of memory aside.
abbrev pub OwnIsCheckable : Type 0
OwnIsCheckable = (w : RepairValues) (check : CheckValues) (netlist recording vcd code cert report : List ℕ)
    → Headline w netlist recording vcd code cert report → IsCheckOf w check → length cert ≤ text_limit
    → IsCheckable check netlist recording cert
