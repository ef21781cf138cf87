-- What the option of a report's lines gives is one.
use Rattle.std.proofs.Common.{◌≡◌, ◌∙◌, ℕ, length, Option, Some, None, codes, refl, sym, ap, arith}
use Rattle.cmd_program.specs.Lines.{IsLines, lines_word}
use Rattle.base_line.specs.Line.{Text}
use Rattle.report_bits.specs.declared.lines.ReportLines.{ReportLines}
use Rattle.report_bits.specs.declared.lines.ReportLines.TheVariants as named

two_words : codes "all" ≡ codes "changes" → ⊥
two_words same = let long : ◌≡◌ {A = ℕ} 3 7 = ap (λ (l : Text). length l) same in omega (arith, long)

one_word : (text : Text) (a b : ReportLines) → text ≡ lines_word a → text ≡ lines_word b → a ≡ b
one_word text named.All named.All first second = refl
one_word text named.All named.Changes first second = absurd (two_words (sym first ∙ second))
one_word text named.Changes named.All first second = absurd (two_words (sym second ∙ first))
one_word text named.Changes named.Changes first second = refl

pub one_lines : (o : Option Text) (a b : ReportLines) → IsLines o a → IsLines o b → a ≡ b
one_lines None a b first second = first ∙ sym second
one_lines (Some text) a b first second = one_word text a b first second
