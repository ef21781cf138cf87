-- The files that each command reads.
use Rattle.std.specs.Prelude.{List, Contains}
use Rattle.cmd_program.specs.Commands.{command_of}
use Rattle.base_line.specs.Line.{Text}
use Rattle.base_run.specs.Reading.{ReadsAmong, ReadsSurely}
use Rattle.cmd_set.specs.Set.{Values, inputs_of, phases_of}

abbrev pub read_by : Values command_of → List Text
read_by w = inputs_of command_of w

-- The law of the list: each file that the phases read is listed, and nothing is found before each that is listed was
-- read.
pub record ReadsAsListed (w : Values command_of) : Type 0 where
  pub only : ReadsAmong (read_by w) (phases_of command_of w)
  pub each : (name : Text) → Contains (read_by w) name
      → ReadsSurely name (command_of w.0).most (phases_of command_of w)
