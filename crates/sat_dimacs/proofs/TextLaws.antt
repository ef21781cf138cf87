-- What a text comes to is what it stands for, or its first fault.
use Rattle.std.proofs.Common.{◌≡◌, ℕ, ◌+◌, ◌≤◌, List, [], ◌∷◌, length, Option, Some, None, Result, Ok, Err, refl, sym, subst, ◌∙◌, ap, arith}
use Rattle.std.specs.Prelude.{ℤ, nat_abs, IfOk, IfErr, IfSome}
use Rattle.std.specs.List.{All, AllByRecursion}
use Rattle.std.proofs.lemmas.List.{length-append}
use Rattle.std.proofs.lemmas.List.Elements.{All-from_recursion}
use Rattle.sat_proof.specs.Log.{Fit}
use Rattle.sat_proof.specs.declared.clause.Cnf.{Cnf}
use Rattle.sat_dimacs.specs.declared.fault.DimacsFault.{DimacsFault}
use Rattle.sat_dimacs.specs.declared.fault.DimacsFault.TheVariants.{Syntax}
use Rattle.sat_dimacs.specs.declared.header.Header.{Header}
use Rattle.sat_dimacs.specs.declared.kind.Kind.TheVariants.{OfCnf, OfLog}
use Rattle.sat_dimacs.specs.declared.refusal.DimacsErr.{DimacsErr}
use Rattle.sat_dimacs.specs.declared.refusal.DimacsErr.TheVariants.{Refused, Memory}
use Rattle.sat_dimacs.specs.Faults.{IsCnfFault, IsLogFault, after_header, fault_in, line_after, no_header, no_line}
use Rattle.sat_dimacs.specs.Grammar.{AreLiterals, IsCnfText, IsHeader, IsLogText, StandFor, words_after}
use Rattle.sat_dimacs.specs.Laws.{CnfIsRead, LogIsRead}
use Rattle.sat_dimacs.specs.Lines.{Word, lines_in, words_from}
use Rattle.sat_dimacs.specs.Machine.{Formula, LinesView, State, clauses_in, finish, formula_after, formula_in, formula_of, header_in, log_in, on_ok, reach, start}
use Rattle.sat_dimacs.specs.Reading.{ReadsDimacs}
use Rattle.sat_dimacs.proofs.AgainLaws.{words_again}
use Rattle.sat_dimacs.proofs.PartLaws.{lines_end}
use Rattle.sat_dimacs.proofs.HeaderLaws.{FoundAt, HeaderIs, all_idle, header_in_again, header_law, header_with, other_line, view_at}
use Rattle.sat_dimacs.proofs.StandLaws.{RunIs, words_law}

-- Clauses that are read are over the variables.
all_abs : (vars : ℕ) (ls : List ℤ) → AreLiterals vars ls → AllByRecursion (λ l. nat_abs l ≤ vars) ls
all_abs vars [] h = tt
all_abs vars (l ∷ ls) h = (h.0.within, all_abs vars ls h.1)

all_fit : (vars : ℕ) (cs : List (List ℤ)) → AllByRecursion (AreLiterals vars) cs → AllByRecursion (λ c. All (λ l. nat_abs l ≤ vars) c) cs
all_fit vars [] h = tt
all_fit vars (c ∷ cs) h = (All-from_recursion (λ l. nat_abs l ≤ vars) c (all_abs vars c h.0), all_fit vars cs h.1)

stand_fit : (vars : ℕ) (words : List Word) (cs : List (List ℤ)) → StandFor vars words cs [] → Fit vars cs
stand_fit vars words cs stand = All-from_recursion (λ c. All (λ l. nat_abs l ≤ vars) c) cs (all_fit vars cs stand.fit)

pub fit_after : (vars : ℕ) (count : Option ℕ) (s t : State) (words : List Word) (after : ℕ) (result : Result (List (List ℤ)) DimacsErr)
    → s ≡ start vars count → reach s words ≡ Ok t → ReadsDimacs (finish after t) result → IfOk result (Fit vars)
fit_after vars count s t words after (Ok cs) is reached reads =
    stand_fit vars words cs (subst (RunIs vars count words after) whole (words_law vars count words after)).0
  where
    whole : on_ok (reach (start vars count) words) (finish after) ≡ Ok cs
    whole = ap (λ u. on_ok (reach u words) (finish after)) (sym is) ∙ (ap (λ r. on_ok r (finish after)) reached ∙ reads)
fit_after vars count s t words after (Err e) is reached reads = tt

-- Formulas.
abbrev pub FormulaIs : List ℕ → Result Formula DimacsFault → Type 0
FormulaIs text (Ok formula) = IsCnfText text formula.vars formula.clauses
FormulaIs text (Err fault) = IsCnfFault text fault

number_at : (text : List ℕ) (header : Header) (view : LinesView) (found : FoundAt 1 (lines_in text) header view)
    → view.number ≡ length found.front + 2
number_at text header view found = omega (arith, found.number_is)

end_at : (text : List ℕ) (header : Header) (view : LinesView) (found : FoundAt 1 (lines_in text) header view)
    → view.number + length view.lines ≡ line_after text
end_at text header view found =
    omega (arith, lines_end text, found.number_is, ap length found.lines_are, ap length found.first.split, length-append found.front (found.line ∷ found.rest))

words_at : (text : List ℕ) (header : Header) (view : LinesView) (found : FoundAt 1 (lines_in text) header view)
    → words_from OfCnf view.number view.lines ≡ words_after found.front found.rest
words_at text header view found =
    ap (λ n. words_from OfCnf n view.lines) (number_at text header view found)
    ∙ ap (words_from OfCnf (length found.front + 2)) found.lines_are

clauses_law : (text : List ℕ) (header : Header) (view : LinesView) (found : FoundAt 1 (lines_in text) header view)
    (r : Result (List (List ℤ)) DimacsFault)
    → RunIs header.vars (Some header.count) (words_after found.front found.rest) (line_after text) r
    → FormulaIs text (on_ok r (formula_of header.vars))
clauses_law text header view found (Ok clauses) run = record {
  front = found.front;
  header = found.line;
  rest = found.rest;
  first = found.first;
  is = subst (λ n. IsHeader found.line header.vars n) (sym run.1) found.is;
  stand = run.0;
}
clauses_law text header view found (Err fault) run =
    after_header found.front found.line found.rest header.vars header.count found.first found.is run

found_law : (text : List ℕ) (header : Header) (view : LinesView) → FoundAt 1 (lines_in text) header view
    → FormulaIs text (formula_after (header, view))
found_law text header view found =
    clauses_law text header view found (clauses_in OfCnf (start header.vars (Some header.count)) view)
    (subst (λ ws. RunIs header.vars (Some header.count) ws (line_after text) (clauses_in OfCnf (start header.vars (Some header.count)) view))
    (words_at text header view found)
    (subst (λ n. RunIs header.vars (Some header.count) (words_from OfCnf view.number view.lines) n
    (clauses_in OfCnf (start header.vars (Some header.count)) view)) (end_at text header view found)
    (words_law header.vars (Some header.count) (words_from OfCnf view.number view.lines) (view.number + length view.lines))))

pub formula_law : (text : List ℕ) → FormulaIs text (formula_in text)
formula_law text = by (header_in 1 (lines_in text)) (header_law 1 (lines_in text))
  where
    by : (r : Result (Header × LinesView) DimacsFault) → HeaderIs 1 (lines_in text) r → FormulaIs text (on_ok r formula_after)
    by (Ok found) h = found_law text found.0 found.1 h
    by (Err fault) (all_idle idle is) =
        let same : 1 + length (lines_in text) ≡ line_after text = omega (arith, lines_end text) in no_line idle (is ∙ ap (λ n. Syntax n) same)
    by (Err fault) (other_line front line rest first none is) =
        let same : 1 + length front ≡ length front + 1 = omega arith in no_header front line rest first none (is ∙ ap (λ n. Syntax n) same)

pub formula_again : (text : List ℕ) (vars : ℕ) (clauses : List (List ℤ)) → IsCnfText text vars clauses
    → formula_in text ≡ formula_of vars clauses
formula_again text vars clauses is =
    let same : 1 + length is.front + 1 ≡ length is.front + 2 = omega arith in
    ap (λ ls. on_ok (header_in 1 ls) formula_after) is.first.split
    ∙ (ap (λ r. on_ok r formula_after) (header_in_again 1 vars (length clauses) is.front is.header is.rest is.first.idle is.first.first is.is)
    ∙ (ap (λ n. formula_after (header_with vars (length clauses), view_at n is.rest)) same
    ∙ ap (λ r. on_ok r (formula_of vars))
    (words_again vars (Some (length clauses)) (words_after is.front is.rest) clauses (length is.front + 2 + length is.rest) is.stand refl)))

-- What the reader of formulas ensures.
abbrev pub IsFormulaOk : List ℕ → Result Cnf DimacsErr → Type 0
IsFormulaOk text result = IfOk result (λ cnf. formula_in text ≡ formula_of cnf.vars cnf.clauses)

abbrev pub IsFormulaErr : List ℕ → Result Cnf DimacsErr → Type 0
IsFormulaErr text result = IfErr result (λ e. IfSome (fault_in e) (λ fault. formula_in text ≡ Err fault))

pub cnf_found : (text : List ℕ) (result : Result Cnf DimacsErr) → IsFormulaOk text result
    → IfOk result (λ cnf. IsCnfText text cnf.vars cnf.clauses)
cnf_found text (Ok cnf) ok = subst (FormulaIs text) ok (formula_law text)
cnf_found text (Err e) ok = tt

abbrev formula_with : ℕ → List (List ℤ) → Formula
formula_with vars clauses = record { vars = vars; clauses = clauses }

same_vars : (v w : ℕ) (cs ds : List (List ℤ)) → formula_of v cs ≡ formula_of w ds → (v ≡ w) × (cs ≡ ds)
same_vars v w cs ds is =
    let same : formula_with v cs ≡ formula_with w ds = cc in
    (ap (λ (f : Formula). f.vars) same, ap (λ (f : Formula). f.clauses) same)

not_fault : (r : Result Formula DimacsFault) (vars : ℕ) (cs : List (List ℤ)) (fault : DimacsFault) → r ≡ formula_of vars cs → r ≡ Err fault → ⊥
not_fault r vars cs fault good bad = absurd cc

pub cnf_only : (text : List ℕ) (result : Result Cnf DimacsErr) → IsFormulaOk text result → IsFormulaErr text result → CnfIsRead text result
cnf_only text (Ok cnf) ok err vars clauses is =
    same_vars cnf.vars vars cnf.clauses clauses (sym ok ∙ formula_again text vars clauses is)
cnf_only text (Err Memory) ok err vars clauses is = refl
cnf_only text (Err (Refused fault)) ok err vars clauses is =
    absurd (not_fault (formula_in text) vars clauses fault (formula_again text vars clauses is) err)

pub cnf_first : (text : List ℕ) (result : Result Cnf DimacsErr) → IsFormulaErr text result
    → IfErr result (λ e. IfSome (fault_in e) (IsCnfFault text))
cnf_first text (Ok cnf) err = tt
cnf_first text (Err Memory) err = tt
cnf_first text (Err (Refused fault)) err = subst (FormulaIs text) err (formula_law text)

-- Logs.
abbrev pub LogIs : List ℕ → ℕ → Result (List (List ℤ)) DimacsFault → Type 0
LogIs text vars (Ok log) = IsLogText text vars log
LogIs text vars (Err fault) = IsLogFault text vars fault

pub log_law : (text : List ℕ) (vars : ℕ) → LogIs text vars (log_in text vars)
log_law text vars =
    by (log_in text vars)
    (subst (λ n. RunIs vars None words n (log_in text vars)) same (words_law vars None words (1 + length (lines_in text))))
  where
    words : List Word
    words = words_from OfLog 1 (lines_in text)

    same : 1 + length (lines_in text) ≡ line_after text
    same = omega (arith, lines_end text)

    by : (r : Result (List (List ℤ)) DimacsFault) → RunIs vars None (words_from OfLog 1 (lines_in text)) (line_after text) r → LogIs text vars r
    by (Ok log) run = run.0
    by (Err fault) run = run

pub log_again : (text : List ℕ) (vars : ℕ) (log : List (List ℤ)) → IsLogText text vars log → log_in text vars ≡ Ok log
log_again text vars log is = words_again vars None (words_from OfLog 1 (lines_in text)) log (1 + length (lines_in text)) is tt

pub log_found : (text : List ℕ) (vars : ℕ) (result : Result (List (List ℤ)) DimacsErr) → ReadsDimacs (log_in text vars) result
    → IfOk result (IsLogText text vars)
log_found text vars (Ok log) reads = subst (LogIs text vars) reads (log_law text vars)
log_found text vars (Err e) reads = tt

abbrev done : List (List ℤ) → Result (List (List ℤ)) DimacsFault
done log = Ok log

same_log : (l k : List (List ℤ)) → done l ≡ done k → l ≡ k
same_log l k is = cc

not_refused : (r : Result (List (List ℤ)) DimacsFault) (log : List (List ℤ)) (fault : DimacsFault) → r ≡ done log → r ≡ Err fault → ⊥
not_refused r log fault good bad = absurd cc

pub log_only : (text : List ℕ) (vars : ℕ) (result : Result (List (List ℤ)) DimacsErr) → ReadsDimacs (log_in text vars) result
    → LogIsRead text vars result
log_only text vars (Ok found) reads log is = same_log found log (sym reads ∙ log_again text vars log is)
log_only text vars (Err Memory) reads log is = refl
log_only text vars (Err (Refused fault)) reads log is =
    absurd (not_refused (log_in text vars) log fault (log_again text vars log is) reads)

pub log_first : (text : List ℕ) (vars : ℕ) (result : Result (List (List ℤ)) DimacsErr) → ReadsDimacs (log_in text vars) result
    → IfErr result (λ e. IfSome (fault_in e) (IsLogFault text vars))
log_first text vars (Ok log) reads = tt
log_first text vars (Err Memory) reads = tt
log_first text vars (Err (Refused fault)) reads = subst (LogIs text vars) reads (log_law text vars)
