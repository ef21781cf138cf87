-- Runs of the machine, one after the other.
use Rattle.std.proofs.Common.{◌≡◌, ℕ, ◌+◌, List, [], ◌∷◌, ◌++◌, length, Result, Ok, Err, refl, sym, ◌∙◌, ap, arith}
use Rattle.sat_dimacs.specs.declared.fault.DimacsFault.{DimacsFault}
use Rattle.sat_dimacs.specs.declared.kind.Kind.{Kind}
use Rattle.sat_dimacs.specs.Lines.{Word, words_from, words_of_line}
use Rattle.sat_dimacs.specs.Machine.{LinesView, State, on_ok, reach, step}
use Rattle.sat_dimacs.specs.Reading.{RefusesDimacs, TakesLine}
use Rattle.sat_dimacs.specs.declared.refusal.DimacsErr.{DimacsErr}
use Rattle.sat_dimacs.specs.declared.refusal.DimacsErr.TheVariants.{Refused, Memory}

pub reach_append : (s : State) (ws vs : List Word) → reach s (ws ++ vs) ≡ on_ok (reach s ws) (λ t. reach t vs)
reach_append s [] vs = refl
reach_append s (w ∷ ws) vs =
    elim (step s w.line w.bytes) as (λ r. on_ok r (λ t. reach t (ws ++ vs)) ≡ on_ok (on_ok r (λ t. reach t ws)) (λ t. reach t vs)) [
      | Ok t ↦ reach_append t ws vs
      | Err fault ↦ refl
    ]

-- After one line more.
pub line_reached : (kind : Kind) (s : State) (old new : LinesView) (number : ℕ) (line : List ℕ) (r : Result State DimacsFault)
    → number ≡ old.number → TakesLine old line new → reach s (words_of_line kind number line) ≡ r
    → reach s (words_from kind old.number old.lines) ≡ on_ok r (λ t. reach t (words_from kind new.number new.lines))
line_reached kind s old new number line r number_is taken reached =
    ap (λ ls. reach s (words_from kind old.number ls)) taken.lines
    ∙ (reach_append s (words_of_line kind old.number line) (words_from kind (old.number + 1) new.lines)
    ∙ (ap (λ n. on_ok (reach s (words_of_line kind n line)) (λ t. reach t (words_from kind (old.number + 1) new.lines))) (sym number_is)
    ∙ (ap (λ o. on_ok o (λ t. reach t (words_from kind (old.number + 1) new.lines))) reached
    ∙ ap (λ n. on_ok r (λ t. reach t (words_from kind n new.lines))) (sym taken.number))))

pub line_counted : (old new : LinesView) (n : ℕ) (line : List ℕ) → TakesLine old line new → old.number + length old.lines ≡ n
    → new.number + length new.lines ≡ n
line_counted old new n line taken before = omega (arith, before, taken.number, ap length taken.lines)

-- A line that is refused.
pub line_refused : (kind : Kind) (s : State) (wanted : Result State DimacsFault) (old new : LinesView) (number : ℕ) (line : List ℕ)
    (e : DimacsErr) → wanted ≡ reach s (words_from kind old.number old.lines) → number ≡ old.number → TakesLine old line new
    → RefusesDimacs (reach s (words_of_line kind number line)) e → RefusesDimacs wanted e
line_refused kind s wanted old new number line (Refused fault) before number_is taken refused =
    before ∙ line_reached kind s old new number line (Err fault) number_is taken refused
line_refused kind s wanted old new number line Memory before number_is taken refused = tt
