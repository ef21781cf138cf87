-- The positions on which the recording acts.
use Rattle.std.proofs.Common.{◌≡◌, ℕ, ◌+◌, ◌<◌, Bool, true, false, Contains, List, [], ◌∷◌, ◌++◌, length}
use Rattle.std.proofs.Common.{slice_index, length-append, refl, sym, ◌∙◌, arith, subst, inl, ⊎_elim}
use Rattle.std.proofs.Math.ListN.{get_or-append}
use Rattle.std.proofs.Math.Seq.{get_or-append_seam}
use Rattle.std.proofs.lemmas.Bool.{cases_eq}
use Rattle.std.proofs.lemmas.List.{get_or_default}
use Rattle.design_circuit.specs.declared.design.Driver.{Driver}
use Rattle.design_circuit.specs.declared.design.Driver.TheVariants.{Cell, Constant, Copy, Input, Register, Undriven}
use Rattle.design_circuit.specs.Job.{Job}
use Rattle.replay_fans.specs.Marks.{OnlyMore}
use Rattle.replay_fans.specs.Nets.{driver_on, net_on}
use Rattle.replay_fans.proofs.Marking.{clear_before}
use Rattle.wave_bytes.specs.OfQuiet.{is_first_round, IsRecordedOn}
use Rattle.replay_due.specs.Due.{is_due}
use Rattle.wave_due.specs.Sources.{AreSources, AreSourcesDue, AreStirredDue, is_source}

-- One position more, which is one, or isn't.
in_longer : (xs : List ℕ) (y p : ℕ) → Contains xs p → Contains (xs ++ y ∷ []) p
in_longer xs y p (k, less, is) = (
  k,
  (let long = length-append xs (y ∷ []) in omega (arith, long, less)),
  get_or-append xs (y ∷ []) p k less ∙ is,
)

at_last : (xs : List ℕ) (y : ℕ) → Contains (xs ++ y ∷ []) y
at_last xs y = (
  length xs,
  (let long = length-append xs (y ∷ []) in omega (arith, long)),
  get_or-append_seam xs y [] y,
)

pub source_more : (j : Job) (end : ℕ) (sources : List ℕ) → end < j.width → AreSources j end sources
    → AreSources j (end + 1) (sources ++ end ∷ [])
source_more j end sources low are = record {
  within = λ i less. ⊎_elim
      (λ (same : i ≡ length sources). subst (λ k. slice_index (sources ++ end ∷ []) k < j.width) (sym same)
      (subst (λ n. n < j.width) (sym (get_or-append_seam sources end [] 0)) low))
      (λ (other : i ≡ length sources → ⊥). (
      let long = length-append sources (end ∷ []) in
      let front : i < length sources = omega (arith, long, less, other) in
      subst (λ n. n < j.width) (sym (get_or-append sources (end ∷ []) 0 i front)) (are.within i front)))
      (cases_eq i (length sources));
  all = λ p less is. ⊎_elim
      (λ (same : p ≡ end). subst (Contains (sources ++ end ∷ [])) (sym same) (at_last sources end))
      (λ (other : p ≡ end → ⊥). in_longer sources end p (are.all p (omega (arith, less, other)) is)) (cases_eq p end);
}

no_source : (b : Bool) → b ≡ false → b ≡ true → ⊥
no_source true isnt is = cc
no_source false isnt is = cc

pub source_same : (j : Job) (end : ℕ) (sources : List ℕ) → is_source (driver_on j end) ≡ false
    → AreSources j end sources
    → AreSources j (end + 1) sources
source_same j end sources none are = record {
  within = are.within;
  all = λ p less is. ⊎_elim
      (λ (same : p ≡ end). absurd (no_source (is_source (driver_on j end)) none
      (subst (λ k. is_source (driver_on j k) ≡ true) same is)))
      (λ (other : p ≡ end → ⊥). are.all p (omega (arith, less, other)) is) (cases_eq p end);
}

-- Within a moment nothing is stirred.
pub unstirred : (j : Job) (step net : ℕ) (driver : Driver) → is_first_round j step ≡ false
    → IsRecordedOn j step net driver
unstirred j step net Input later = inl later
unstirred j step net Undriven later = later
unstirred j step net (Constant bit) later = tt
unstirred j step net (Copy argument) later = tt
unstirred j step net (Cell table pins) later = tt
unstirred j step net (Register latching) later = tt

-- At its start what is no source isn't.
other_unstirred : (j : Job) (step net : ℕ) (driver : Driver) → is_source driver ≡ false → IsRecordedOn j step net driver
other_unstirred j step net Input none = absurd (no_source true none refl)
other_unstirred j step net Undriven none = absurd (no_source true none refl)
other_unstirred j step net (Constant bit) none = tt
other_unstirred j step net (Copy argument) none = tt
other_unstirred j step net (Cell table pins) none = tt
other_unstirred j step net (Register latching) none = tt

-- One source more is due, or isn't stirred.
pub sources_more : (j : Job) (step : ℕ) (sources : List ℕ) (n : ℕ) (old new : List ℕ) → OnlyMore old new
    → (is_due new (slice_index sources n) ≡ false
    → IsRecordedOn j step (net_on j (slice_index sources n)) (driver_on j (slice_index sources n)))
    → AreSourcesDue j step sources n old → AreSourcesDue j step sources (n + 1) new
sources_more j step sources n old new more here due = λ i less none. ⊎_elim
    (λ (same : i ≡ n). subst (λ k. IsRecordedOn j step (net_on j (slice_index sources k))
    (driver_on j (slice_index sources k)))
    (sym same) (here (subst (λ k. is_due new (slice_index sources k) ≡ false) same none)))
    (λ (other : i ≡ n → ⊥). due i (omega (arith, less, other))
    (clear_before old new (slice_index sources i) more none)) (cases_eq i n)

by_source : {P : Type 0} (b : Bool) → (b ≡ true → P) → (b ≡ false → P) → P
by_source true held lacks = held refl
by_source false held lacks = lacks refl

-- Once all sources are, so is every position.
pub all_stirred : (j : Job) (step : ℕ) (sources due : List ℕ) → AreSources j j.width sources
    → AreSourcesDue j step sources (length sources) due → AreStirredDue j step due
all_stirred j step sources due are marked = λ p low none. by_source (is_source (driver_on j p))
    (λ (is : is_source (driver_on j p) ≡ true). there p none (are.all p low is))
    (λ (isnt : is_source (driver_on j p) ≡ false). other_unstirred j step (net_on j p) (driver_on j p) isnt)
  where
    there : (p : ℕ) → is_due due p ≡ false → Contains sources p → IsRecordedOn j step (net_on j p) (driver_on j p)
    there p none (k, less, is) =
        let here : slice_index sources k ≡ p = get_or_default sources k 0 p less ∙ is in
        subst (λ q. IsRecordedOn j step (net_on j q) (driver_on j q)) here
        (marked k less (subst (λ q. is_due due q ≡ false) (sym here) none))

-- At first there is none.
pub no_sources : (j : Job) → AreSources j 0 []
no_sources j = record {
  within = λ i less. absurd (omega (arith, less));
  all = λ p less is. absurd (omega (arith, less));
}
