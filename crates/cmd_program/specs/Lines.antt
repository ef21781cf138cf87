-- Which lines of bits a report has, as an option says.
use Rattle.std.specs.Prelude.{◌≡◌, Option, Some, None, codes}
use Rattle.base_line.specs.Line.{Text}
use Rattle.report_bits.specs.declared.lines.ReportLines.{ReportLines}
use Rattle.report_bits.specs.declared.lines.ReportLines.TheVariants as named

abbrev pub lines_word : ReportLines → Text
lines_word named.All = codes "all"
lines_word named.Changes = codes "changes"

-- The lines that are named, those of all moments where none are.
abbrev pub IsLines : Option Text → ReportLines → Type 0
IsLines None lines = lines ≡ named.All
IsLines (Some text) lines = text ≡ lines_word lines
