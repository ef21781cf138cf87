-- Two texts come to one thing.
use Rattle.std.proofs.Common.{◌≡◌, ◌∙◌, ℕ, ◌+◌, ◌<◌, ℤ, List, length, Result, Ok, Err, ◌⊎◌, inl, inr, refl, sym, ap, subst}
use Rattle.std.specs.Prelude.{IfErr, IfOk, IfSome, IsErrAnd}
use Rattle.std.proofs.lemmas.Bool.{cases_order}
use Rattle.sat_dimacs.specs.Faults.{IsCnfFault, IsLogFault, fault_in as fault_in_text}
use Rattle.sat_dimacs.specs.Grammar.{IsCnfText, IsLogText}
use Rattle.sat_dimacs.specs.Machine.{Formula, log_in}
use Rattle.sat_dimacs.specs.declared.fault.DimacsFault.{DimacsFault}
use Rattle.sat_dimacs.specs.declared.refusal.DimacsErr.{DimacsErr}
use Rattle.sat_dimacs.specs.declared.refusal.DimacsErr.TheVariants.{Refused as TextRefused, Memory as TextMemory}
use Rattle.sat_dimacs.proofs.FaultLaws.{formula_refused, log_refused}
use Rattle.sat_dimacs.proofs.TextLaws.{formula_again, log_again}
use Rattle.sat_proof.specs.Log.{DoesFollow, IsBadLine, IsFirstBad, Refutes}
use Rattle.sat_prove.specs.Proof.{AreTexts, IsChecked, IsProofAnswer, IsProof, IsProofFault, IsUnchecked, ProofComes, err_of_text, fault_in}
use Rattle.sat_prove.specs.declared.fault.ProofFault.{ProofFault}
use Rattle.sat_prove.specs.declared.fault.ProofFault.TheVariants.{Text, Log}
use Rattle.sat_prove.specs.declared.refusal.ProofErr.{ProofErr}
use Rattle.sat_prove.specs.declared.refusal.ProofErr.TheVariants.{Refused, Memory}

-- ---- a formula's text

abbrev formula_with : ℕ → List (List ℤ) → Formula
formula_with vars clauses = record { vars = vars; clauses = clauses }

formulas_same : (a b : Formula) → ◌≡◌ {A = Result Formula DimacsFault} (Ok a) (Ok b) → a ≡ b
formulas_same a b same = cc

ok_is_no_err : {X : Type 0} (x : X) (fault : DimacsFault) → ◌≡◌ {A = Result X DimacsFault} (Ok x) (Err fault) → ⊥
ok_is_no_err x fault same = cc

faults_same : {X : Type 0} (a b : DimacsFault) → ◌≡◌ {A = Result X DimacsFault} (Err a) (Err b) → a ≡ b
faults_same a b same = cc

one_formula : (cnf : List ℕ) (v w : ℕ) (cs ds : List (List ℤ)) → IsCnfText cnf v cs → IsCnfText cnf w ds → formula_with v cs ≡ formula_with w ds
one_formula cnf v w cs ds first second =
    formulas_same (formula_with v cs) (formula_with w ds) (sym (formula_again cnf v cs first) ∙ formula_again cnf w ds second)

stands_and_fails : (cnf : List ℕ) (v : ℕ) (cs : List (List ℤ)) (fault : DimacsFault) → IsCnfText cnf v cs → IsCnfFault cnf fault → ⊥
stands_and_fails cnf v cs fault is fails =
    ok_is_no_err (formula_with v cs) fault (sym (formula_again cnf v cs is) ∙ formula_refused cnf fault fails)

one_cnf_fault : (cnf : List ℕ) (a b : DimacsFault) → IsCnfFault cnf a → IsCnfFault cnf b → a ≡ b
one_cnf_fault cnf a b first second = faults_same {X = Formula} a b (sym (formula_refused cnf a first) ∙ formula_refused cnf b second)

-- ---- a log's text

logs_same : (a b : List (List ℤ)) → ◌≡◌ {A = Result (List (List ℤ)) DimacsFault} (Ok a) (Ok b) → a ≡ b
logs_same a b same = cc

one_log : (log : List ℕ) (vars : ℕ) (a b : List (List ℤ)) → IsLogText log vars a → IsLogText log vars b → a ≡ b
one_log log vars a b first second = logs_same a b (sym (log_again log vars a first) ∙ log_again log vars b second)

log_stands_and_fails : (log : List ℕ) (vars : ℕ) (lines : List (List ℤ)) (fault : DimacsFault) → IsLogText log vars lines → IsLogFault log vars fault → ⊥
log_stands_and_fails log vars lines fault is fails = log_refused log vars (Ok lines) (log_again log vars lines is) fault fails

one_log_fault : (log : List ℕ) (vars : ℕ) (a b : DimacsFault) → IsLogFault log vars a → IsLogFault log vars b → a ≡ b
one_log_fault log vars a b first second = by (log_in log vars) refl
  where
    by : (r : Result (List (List ℤ)) DimacsFault) → log_in log vars ≡ r → a ≡ b
    by (Ok lines) same = absurd (log_refused log vars (Ok lines) same a first)
    by (Err found) same = sym (log_refused log vars (Err (TextRefused found)) same a first) ∙ log_refused log vars (Err (TextRefused found)) same b second

-- ---- a log's clauses

refutes_and_fails : (clauses lines : List (List ℤ)) (line : ℕ) → Refutes clauses lines → IsBadLine clauses lines line → ⊥
refutes_and_fails clauses lines line is (IsFirstBad.inside k at below kept fails) = fails (is.each k below)
refutes_and_fails clauses lines line is (IsFirstBad.ending at kept fails) = fails is.ends

one_place : (Keeps : ℕ → Type 0) (k m : ℕ) → ((j : ℕ) → j < k → Keeps j) → (Keeps k → ⊥) → ((j : ℕ) → j < m → Keeps j) → (Keeps m → ⊥) → k ≡ m
one_place Keeps k m kept fails kept_too fails_too = by (cases_order k m)
  where
    by : (k ≡ m) ⊎ ((k < m) ⊎ (m < k)) → k ≡ m
    by (inl same) = same
    by (inr (inl less)) = absurd (fails (kept_too k less))
    by (inr (inr more)) = absurd (fails_too (kept m more))

one_line : (clauses lines : List (List ℤ)) (a b : ℕ) → IsBadLine clauses lines a → IsBadLine clauses lines b → a ≡ b
one_line clauses lines a b (IsFirstBad.inside k at below kept fails) (IsFirstBad.inside m at_too below_too kept_too fails_too) =
    at ∙ ap (λ (n : ℕ). n + 1) (one_place (DoesFollow clauses lines) k m kept fails kept_too fails_too) ∙ sym at_too
one_line clauses lines a b (IsFirstBad.inside k at below kept fails) (IsFirstBad.ending at_too kept_too fails_too) = absurd (fails (kept_too k below))
one_line clauses lines a b (IsFirstBad.ending at kept fails) (IsFirstBad.inside m at_too below_too kept_too fails_too) = absurd (fails_too (kept m below_too))
one_line clauses lines a b (IsFirstBad.ending at kept fails) (IsFirstBad.ending at_too kept_too fails_too) = at ∙ sym at_too

one_unchecked : (clauses lines : List (List ℤ)) (a b : ProofFault) → IsUnchecked clauses lines a → IsUnchecked clauses lines b → a ≡ b
one_unchecked clauses lines a b first second =
    first.is ∙ ap (λ (n : ℕ). Log n) (one_line clauses lines first.clause second.clause first.bad second.bad) ∙ sym second.is

-- ---- two texts

module _ (cnf log : List ℕ) where
  -- The same formula and the same log.
  same_texts : (v w : ℕ) (cs ds ls ms : List (List ℤ)) → AreTexts cnf log v cs ls → AreTexts cnf log w ds ms → (cs ≡ ds) × (ls ≡ ms)
  same_texts v w cs ds ls ms first second =
      let same = one_formula cnf v w cs ds first.formula second.formula in
      let vars : v ≡ w = ap (λ (f : Formula). f.vars) same in (
        ap (λ (f : Formula). f.clauses) same,
        one_log log w ls ms (subst (λ (n : ℕ). IsLogText log n ls) vars first.log_is) second.log_is,
      )

  same_vars : (v w : ℕ) (cs ds : List (List ℤ)) → IsCnfText cnf v cs → IsCnfText cnf w ds → v ≡ w
  same_vars v w cs ds first second = ap (λ (f : Formula). f.vars) (one_formula cnf v w cs ds first second)

  one_count : (a b : ℕ) → IsProof cnf log a → IsProof cnf log b → a ≡ b
  one_count a b first second =
      let same = same_texts first.vars second.vars first.clauses second.clauses first.lines second.lines first.texts second.texts in
      first.checked.count_is ∙ ap (λ (l : List (List ℤ)). length l) same.1 ∙ sym second.checked.count_is

  proof_and_fault : (a : ℕ) (fault : ProofFault) → IsProof cnf log a → IsProofFault cnf log fault → ⊥
  proof_and_fault a fault is (IsProofFault.of_formula found fails same) = stands_and_fails cnf is.vars is.clauses found is.texts.formula fails
  proof_and_fault a fault is (IsProofFault.of_log vars clauses found stands fails same) =
      let vars_same = same_vars is.vars vars is.clauses clauses is.texts.formula stands in
      log_stands_and_fails log vars is.lines found (subst (λ (n : ℕ). IsLogText log n is.lines) vars_same is.texts.log_is) fails
  proof_and_fault a fault is (IsProofFault.of_clause vars clauses lines texts fails) =
      let same = same_texts is.vars vars is.clauses clauses is.lines lines is.texts texts in
      let moved = subst (λ (cs : List (List ℤ)). Refutes cs is.lines) same.0 is.checked.refutes in
      refutes_and_fails clauses lines fails.clause (subst (λ (ls : List (List ℤ)). Refutes clauses ls) same.1 moved) fails.bad

  one_fault : (a b : ProofFault) → IsProofFault cnf log a → IsProofFault cnf log b → a ≡ b
  one_fault a b (IsProofFault.of_formula f fails is) (IsProofFault.of_formula g fails_too is_too) =
      is ∙ ap (λ (d : DimacsFault). Text d) (one_cnf_fault cnf f g fails fails_too) ∙ sym is_too
  one_fault a b (IsProofFault.of_formula f fails is) (IsProofFault.of_log vars clauses g stands fails_too is_too) = absurd (stands_and_fails cnf vars clauses f stands fails)
  one_fault a b (IsProofFault.of_formula f fails is) (IsProofFault.of_clause vars clauses lines texts fails_too) = absurd (stands_and_fails cnf vars clauses f texts.formula fails)
  one_fault a b (IsProofFault.of_log vars clauses f stands fails is) (IsProofFault.of_formula g fails_too is_too) = absurd (stands_and_fails cnf vars clauses g stands fails_too)
  one_fault a b (IsProofFault.of_log v cs f stands fails is) (IsProofFault.of_log w ds g stands_too fails_too is_too) =
      let vars = same_vars v w cs ds stands stands_too in
      is ∙ ap (λ (d : DimacsFault). Text d) (one_log_fault log w f g (subst (λ (n : ℕ). IsLogFault log n f) vars fails) fails_too) ∙ sym is_too
  one_fault a b (IsProofFault.of_log v cs f stands fails is) (IsProofFault.of_clause w ds lines texts fails_too) =
      let vars = same_vars w v ds cs texts.formula stands in
      absurd (log_stands_and_fails log v lines f (subst (λ (n : ℕ). IsLogText log n lines) vars texts.log_is) fails)
  one_fault a b (IsProofFault.of_clause v cs ls texts fails) (IsProofFault.of_formula g fails_too is_too) = absurd (stands_and_fails cnf v cs g texts.formula fails_too)
  one_fault a b (IsProofFault.of_clause v cs ls texts fails) (IsProofFault.of_log w ds g stands fails_too is_too) =
      let vars = same_vars v w cs ds texts.formula stands in
      absurd (log_stands_and_fails log w ls g (subst (λ (n : ℕ). IsLogText log n ls) vars texts.log_is) fails_too)
  one_fault a b (IsProofFault.of_clause v cs ls texts fails) (IsProofFault.of_clause w ds ms texts_too fails_too) =
      let same = same_texts v w cs ds ls ms texts texts_too in
      let moved = subst (λ (xs : List (List ℤ)). IsUnchecked xs ls a) same.0 fails in
      one_unchecked ds ms a b (subst (λ (xs : List (List ℤ)). IsUnchecked ds xs a) same.1 moved) fails_too

  pub one_proof : (a b : Result ℕ ProofFault) → ProofComes cnf log a → ProofComes cnf log b → a ≡ b
  one_proof (Ok m) (Ok n) first second = ap Ok (one_count m n first second)
  one_proof (Ok m) (Err f) first second = absurd (proof_and_fault m f first second)
  one_proof (Err e) (Ok n) first second = absurd (proof_and_fault n e second first)
  one_proof (Err e) (Err f) first second = ap Err (one_fault e f first second)

-- What is found, or the fault, is what the texts come to.
pub exact : (cnf log : List ℕ) (result : Result ℕ ProofErr) → IfOk result (IsProof cnf log)
    → IfErr result (λ e. IfSome (fault_in e) (IsProofFault cnf log)) → IsProofAnswer cnf log result
exact cnf log (Ok count) found fault wanted comes = one_proof cnf log wanted (Ok count) comes found
exact cnf log (Err (Refused e)) found fault wanted comes = one_proof cnf log wanted (Err e) comes fault
exact cnf log (Err Memory) found fault wanted comes = tt

-- ---- what a reader answers

-- A refusal that is handed on.
pub handed_on : (P : ProofFault → Type 0) (result : Result ℕ ProofErr) (e : ProofErr) → IsErrAnd result (λ f. f ≡ e) → IfSome (fault_in e) P
    → IfErr result (λ f. IfSome (fault_in f) P)
handed_on P (Ok count) e is fails = absurd is
handed_on P (Err f) e is fails = subst (λ (g : ProofErr). IfSome (fault_in g) P) (sym is) fails

pub text_fails : (cnf log : List ℕ) (e : DimacsErr) → IfSome (fault_in_text e) (IsCnfFault cnf) → IfSome (fault_in (err_of_text e)) (IsProofFault cnf log)
text_fails cnf log (TextRefused found) fails = IsProofFault.of_formula found fails refl
text_fails cnf log TextMemory fails = tt

pub log_fails : (cnf log : List ℕ) (vars : ℕ) (clauses : List (List ℤ)) (e : DimacsErr) → IsCnfText cnf vars clauses
    → IfSome (fault_in_text e) (IsLogFault log vars) → IfSome (fault_in (err_of_text e)) (IsProofFault cnf log)
log_fails cnf log vars clauses (TextRefused found) stands fails = IsProofFault.of_log vars clauses found stands fails refl
log_fails cnf log vars clauses TextMemory stands fails = tt

module _ (cnf log : List ℕ) (vars : ℕ) (clauses lines : List (List ℤ)) (stands : IsCnfText cnf vars clauses) (logged : IsLogText log vars lines) where
  texts : AreTexts cnf log vars clauses lines
  texts = record { formula = stands; log_is = logged }

  pub proof_found : (result : Result ℕ ProofErr) → IfOk result (IsChecked clauses lines) → IfOk result (IsProof cnf log)
  proof_found (Ok count) is = record { vars = vars; clauses = clauses; lines = lines; texts = texts; checked = is }
  proof_found (Err e) is = tt

  pub clause_fails : (result : Result ℕ ProofErr) → IfErr result (λ e. IfSome (fault_in e) (IsUnchecked clauses lines))
      → IfErr result (λ e. IfSome (fault_in e) (IsProofFault cnf log))
  clause_fails (Ok count) is = tt
  clause_fails (Err (Refused e)) is = IsProofFault.of_clause vars clauses lines texts is
  clause_fails (Err Memory) is = tt
