-- A text that has a fault, the first one, is refused for it.
use Rattle.std.proofs.Common.{◌≡◌, ℕ, ◌+◌, ◌<◌, ◌≤◌, true, false, cond, List, [], ◌∷◌, ◌++◌, length, Option, Some, None, Result, Ok, Err, refl, sym, ◌∙◌, ap, arith}
use Rattle.std.specs.Prelude.{ℤ, nat_abs, nat_le, nat_lt, ◌&&◌}
use Rattle.std.specs.List.{AllByRecursion}
use Rattle.std.proofs.lemmas.Bool.Decides.{nat_tests}
use Rattle.std.proofs.lemmas.List.{length-append}
use Rattle.sat_proof.specs.declared.clause.Cnf.{Cnf}
use Rattle.sat_dimacs.specs.declared.fault.DimacsFault.{DimacsFault}
use Rattle.sat_dimacs.specs.declared.fault.DimacsFault.TheVariants.{Syntax, Range, Count}
use Rattle.base_scan.specs.declared.gap.Gap.TheVariants.{Blank}
use Rattle.sat_dimacs.specs.declared.header.Header.{Header}
use Rattle.sat_dimacs.specs.declared.kind.Kind.TheVariants.{OfLog}
use Rattle.sat_dimacs.specs.declared.refusal.DimacsErr.{DimacsErr}
use Rattle.sat_dimacs.specs.declared.refusal.DimacsErr.TheVariants.{Refused, Memory}
use Rattle.sat_dimacs.specs.Faults.{IsCnfFault, IsFaultAt, IsFaultAtEnd, IsFaultOf, IsFirstFault, IsLogFault, after_header, count_at, count_end, line_after, no_header, no_line, range_at, syntax_at, syntax_end}
use Rattle.sat_dimacs.specs.Grammar.{IsHeader, is_idle, words_after}
use Rattle.sat_dimacs.specs.Laws.{CnfIsRefused, LogIsRefused}
use Rattle.sat_dimacs.specs.Lines.{Word, lines_in, words_from, words_in}
use Rattle.sat_dimacs.specs.Machine.{LinesView, State, are_all, are_short, before_lines, finish, formula_after, formula_in, formula_of, header_in, header_of, header_on, is_full, is_nothing, literal_of, log_in, needed, on_ok, reach, start, step, take_number, taken}
use Rattle.sat_dimacs.specs.Numbers.{IsNumber}
use Rattle.sat_dimacs.specs.Reading.{ReadsDimacs}
use Rattle.sat_dimacs.proofs.AgainLaws.{at_state, front_again}
use Rattle.sat_dimacs.proofs.HeaderLaws.{header_found, header_in_again, header_with, view_at}
use Rattle.sat_dimacs.proofs.NumberLaws.{LiteralIs, literal_law, literal_read, no_number, one_number, past_vars}
use Rattle.sat_dimacs.proofs.PartLaws.{lines_end}
use Rattle.sat_dimacs.proofs.ReachLaws.{reach_append}
use Rattle.sat_dimacs.proofs.TextLaws.{IsFormulaErr, IsFormulaOk}

-- A word at fault.
literal_wrong : (vars line : ℕ) (word : List ℕ) → ((n : ℤ) → IsNumber word n → ⊥) → literal_of vars line word ≡ Err (Syntax line)
literal_wrong vars line word none = by (literal_of vars line word) (literal_law vars line word)
  where
    by : (r : Result ℤ DimacsFault) → LiteralIs vars line word r → r ≡ Err (Syntax line)
    by (Ok l) h = absurd (none l h.0)
    by (Err fault) (no_number wrong fault_is) = ap (λ f. Err f) fault_is
    by (Err fault) (past_vars n number more fault_is) = absurd (none n number)

literal_past : (vars line : ℕ) (word : List ℕ) (n : ℤ) → IsNumber word n → vars < nat_abs n → literal_of vars line word ≡ Err (Range line)
literal_past vars line word n is more = by (literal_of vars line word) (literal_law vars line word)
  where
    by : (r : Result ℤ DimacsFault) → LiteralIs vars line word r → r ≡ Err (Range line)
    by (Ok l) h =
        let same : nat_abs l ≡ nat_abs n = ap nat_abs (one_number word l n h.0 is) in
        let small : nat_abs l ≤ vars = h.1 in
        absurd (omega (arith, same, more, small))
    by (Err fault) (no_number wrong fault_is) = absurd (wrong n is)
    by (Err fault) (past_vars m number over fault_is) = ap (λ f. Err f) fault_is

abbrev refused : DimacsFault → Result State DimacsFault
refused fault = Err fault

full_at : (n : ℕ) → nat_le n n ≡ true
full_at n = grind (arith, nat_tests)

full_again : (vars : ℕ) (count : Option ℕ) (clauses : List (List ℤ)) (literals : List ℤ) → literals ≡ [] → count ≡ Some (length clauses)
    → is_full (at_state vars count clauses literals) ≡ true
full_again vars count clauses literals none many =
    ap (λ ls. is_nothing ls && are_all count (length clauses)) none
    ∙ (ap (λ k. are_all k (length clauses)) many ∙ full_at (length clauses))

word_refused : (vars : ℕ) (count : Option ℕ) (clauses : List (List ℤ)) (literals : List ℤ) (w : Word) (fault : DimacsFault)
    → IsFaultAt vars count clauses literals w fault → step (at_state vars count clauses literals) w.line w.bytes ≡ Err fault
word_refused vars count clauses literals w fault (syntax_at none is) =
    ap (λ r. on_ok r (take_number (at_state vars count clauses literals) w.line)) (literal_wrong vars w.line w.bytes none)
    ∙ ap refused (sym is)
word_refused vars count clauses literals w fault (range_at n number more is) =
    ap (λ r. on_ok r (take_number (at_state vars count clauses literals) w.line)) (literal_past vars w.line w.bytes n number more)
    ∙ ap refused (sym is)
word_refused vars count clauses literals w fault (count_at n number small none many is) =
    ap (λ r. on_ok r (take_number (at_state vars count clauses literals) w.line)) (literal_read vars w.line w.bytes n number small)
    ∙ (ap (λ t. cond t (refused (Count w.line)) (Ok (taken (at_state vars count clauses literals) n)))
    (full_again vars count clauses literals none many) ∙ ap refused (sym is))

-- The end at fault.
short_at : (n c : ℕ) → n < c → nat_lt n c ≡ true
short_at n c less = grind (arith, nat_tests)

abbrev refused_end : DimacsFault → Result (List (List ℤ)) DimacsFault
refused_end fault = Err fault

end_refused : (vars : ℕ) (count : Option ℕ) (clauses : List (List ℤ)) (literals : List ℤ) (after : ℕ) (fault : DimacsFault)
    → IsFaultAtEnd count clauses literals after fault → finish after (at_state vars count clauses literals) ≡ Err fault
end_refused vars count clauses [] after fault (syntax_end some is) = absurd (some refl)
end_refused vars count clauses (l ∷ ls) after fault (syntax_end some is) = ap refused_end (sym is)
end_refused vars count clauses literals after fault (count_end n none many few is) =
    ap (λ ls. finish after (at_state vars count clauses ls)) none
    ∙ (ap (λ k. cond (are_short k (length clauses)) (refused_end (Count after)) (Ok clauses)) many
    ∙ (ap (λ t. cond t (refused_end (Count after)) (Ok clauses)) (short_at (length clauses) n few) ∙ ap refused_end (sym is)))

-- What stands after words that are in order.
rest_refused : (vars : ℕ) (count : Option ℕ) (clauses : List (List ℤ)) (literals : List ℤ) (rest : List Word) (after : ℕ)
    (fault : DimacsFault) → IsFaultOf vars count clauses literals rest after fault
    → on_ok (reach (at_state vars count clauses literals) rest) (finish after) ≡ Err fault
rest_refused vars count clauses literals [] after fault is = end_refused vars count clauses literals after fault is
rest_refused vars count clauses literals (w ∷ ws) after fault is =
    ap (λ r. on_ok (on_ok r (λ t. reach t ws)) (finish after)) (word_refused vars count clauses literals w fault is)

pub words_refused : (vars : ℕ) (count : Option ℕ) (words : List Word) (after : ℕ) (fault : DimacsFault)
    → IsFirstFault vars count words after fault → on_ok (reach (start vars count) words) (finish after) ≡ Err fault
words_refused vars count words after fault is =
    ap (λ ws. on_ok (reach (start vars count) ws) (finish after)) is.split
    ∙ (ap (λ r. on_ok r (finish after)) (reach_append (start vars count) is.front is.rest)
    ∙ (ap (λ r. on_ok (on_ok r (λ t. reach t is.rest)) (finish after))
    (front_again vars count is.front is.clauses is.unended is.stand is.few)
    ∙ rest_refused vars count is.clauses is.unended is.rest after fault is.at))

-- Lines without a header.
abbrev no_line_at : ℕ → Result (Header × LinesView) DimacsFault
no_line_at number = Err (Syntax number)

idle_again : (number : ℕ) (lines : List (List ℕ)) → AllByRecursion (λ l. is_idle l ≡ true) lines
    → header_in number lines ≡ no_line_at (number + length lines)
idle_again number [] idle = let same : number ≡ number + length {A = List ℕ} [] = omega arith in ap no_line_at same
idle_again number (l ∷ lines) idle =
    let same : number + 1 + length lines ≡ number + length (l ∷ lines) = omega arith in
    ap (λ t. cond t (header_in (number + 1) lines) (on_ok (header_on number l) (before_lines (number + 1) lines))) idle.0
    ∙ (idle_again (number + 1) lines idle.1 ∙ ap no_line_at same)

no_header_of : (line : List ℕ) → ((vars count : ℕ) → IsHeader line vars count → ⊥) → header_of (words_in Blank line) ≡ None
no_header_of line none = by (header_of (words_in Blank line)) refl
  where
    by : (o : Option Header) → header_of (words_in Blank line) ≡ o → o ≡ None
    by None is = refl
    by (Some header) is = absurd (none header.vars header.count (header_found line header is))

other_again : (number : ℕ) (front : List (List ℕ)) (line : List ℕ) (rest : List (List ℕ)) → AllByRecursion (λ l. is_idle l ≡ true) front
    → is_idle line ≡ false → ((vars count : ℕ) → IsHeader line vars count → ⊥)
    → header_in number (front ++ line ∷ rest) ≡ no_line_at (number + length front)
other_again number [] line rest idle first none =
    let same : number ≡ number + length {A = List ℕ} [] = omega arith in
    ap (λ t. cond t (header_in (number + 1) rest) (on_ok (header_on number line) (before_lines (number + 1) rest))) first
    ∙ (ap (λ o. on_ok (needed number o) (before_lines (number + 1) rest)) (no_header_of line none) ∙ ap no_line_at same)
other_again number (l ∷ front) line rest idle first none =
    let same : number + 1 + length front ≡ number + length (l ∷ front) = omega arith in
    ap (λ t. cond t (header_in (number + 1) (front ++ line ∷ rest)) (on_ok (header_on number l) (before_lines (number + 1) (front ++ line ∷ rest)))) idle.0
    ∙ (other_again (number + 1) front line rest idle.1 first none ∙ ap no_line_at same)

-- Formulas.
pub formula_refused : (text : List ℕ) (fault : DimacsFault) → IsCnfFault text fault → formula_in text ≡ Err fault
formula_refused text fault (no_line idle is) =
    let same : 1 + length (lines_in text) ≡ line_after text = omega (arith, lines_end text) in
    ap (λ r. on_ok r formula_after) (idle_again 1 (lines_in text) idle)
    ∙ ap (λ f. Err f) (ap (λ n. Syntax n) same ∙ sym is)
formula_refused text fault (no_header front line rest first none is) =
    let same : 1 + length front ≡ length front + 1 = omega arith in
    ap (λ ls. on_ok (header_in 1 ls) formula_after) first.split
    ∙ (ap (λ r. on_ok r formula_after) (other_again 1 front line rest first.idle first.first none)
    ∙ ap (λ f. Err f) (ap (λ n. Syntax n) same ∙ sym is))
formula_refused text fault (after_header front line rest vars count first is fails) =
    let same : 1 + length front + 1 ≡ length front + 2 = omega arith in
    let end : length front + 2 + length rest ≡ line_after text =
    omega (arith, lines_end text, ap length first.split, length-append front (line ∷ rest)) in
    ap (λ ls. on_ok (header_in 1 ls) formula_after) first.split
    ∙ (ap (λ r. on_ok r formula_after) (header_in_again 1 vars count front line rest first.idle first.first is)
    ∙ (ap (λ n. formula_after (header_with vars count, view_at n rest)) same
    ∙ (ap (λ n. on_ok (on_ok (reach (start vars (Some count)) (words_after front rest)) (finish n)) (formula_of vars)) end
    ∙ ap (λ r. on_ok r (formula_of vars)) (words_refused vars (Some count) (words_after front rest) (line_after text) fault fails))))

abbrev good : {X : Type 0} → X → Result X DimacsFault
good x = Ok x

not_both : {X : Type 0} (r : Result X DimacsFault) (x : X) (fault : DimacsFault) → r ≡ good x → r ≡ Err fault → ⊥
not_both r x fault ok err = absurd cc

same_fault : {X : Type 0} (r : Result X DimacsFault) (found fault : DimacsFault) → r ≡ Err found → r ≡ Err fault → found ≡ fault
same_fault r found fault one other = cc

pub cnf_refused : (text : List ℕ) (result : Result Cnf DimacsErr) → IsFormulaOk text result → IsFormulaErr text result
    → CnfIsRefused text result
cnf_refused text (Ok cnf) ok err fault is =
    not_both (formula_in text) (record { vars = cnf.vars; clauses = cnf.clauses }) fault ok (formula_refused text fault is)
cnf_refused text (Err Memory) ok err fault is = tt
cnf_refused text (Err (Refused found)) ok err fault is = same_fault (formula_in text) found fault err (formula_refused text fault is)

-- Logs.
log_in_refused : (text : List ℕ) (vars : ℕ) (fault : DimacsFault) → IsLogFault text vars fault → log_in text vars ≡ Err fault
log_in_refused text vars fault is =
    let end : 1 + length (lines_in text) ≡ line_after text = omega (arith, lines_end text) in
    ap (λ n. on_ok (reach (start vars None) (words_from OfLog 1 (lines_in text))) (finish n)) end
    ∙ words_refused vars None (words_from OfLog 1 (lines_in text)) (line_after text) fault is

pub log_refused : (text : List ℕ) (vars : ℕ) (result : Result (List (List ℤ)) DimacsErr) → ReadsDimacs (log_in text vars) result
    → LogIsRefused text vars result
log_refused text vars (Ok log) reads fault is = not_both (log_in text vars) log fault reads (log_in_refused text vars fault is)
log_refused text vars (Err Memory) reads fault is = tt
log_refused text vars (Err (Refused found)) reads fault is =
    same_fault (log_in text vars) found fault reads (log_in_refused text vars fault is)
