-- The files that the program reads.
use Rattle.std.specs.Prelude.{List}
use Rattle.base_line.specs.Line.{Text}
use Rattle.cmd_trim.specs.Words.{TrimValues}

abbrev pub read_by : TrimValues → List Text
read_by w = w.files
