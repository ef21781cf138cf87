-- What was to come comes after the words so far.
use Rattle.std.proofs.Common.{◌≡◌, length}
use Rattle.base_scan.specs.declared.gap.Gap.TheVariants.{White}
use Rattle.sat_dimacs.specs.Lines.{on_line, words_in}
use Rattle.sat_dimacs.specs.Machine.{reach}
use Rattle.sat_dimacs.proofs.read.read_words.Given as goal

abbrev pub invariant-words : goal.invariant-words
invariant-words l =
    reach l.fn.start (on_line l.number (words_in White l.line)) ≡ reach l.progress (on_line l.number l.words)

abbrev pub decreases-words : goal.decreases-words
decreases-words l = length l.words
