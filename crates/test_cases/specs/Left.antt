-- What is left of a case file.
use Rattle.std.specs.Prelude.{ℕ, length}
use Rattle.test_cases.specs.declared.line.Lines.{Lines}

-- How many bytes are left.
abbrev pub lines_left : Lines → ℕ
lines_left lines = length lines.rest.now
