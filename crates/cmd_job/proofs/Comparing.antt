-- What the first fault of a recording numbers is there, and the answer reports it.
use Rattle.std.proofs.Common.{◌≡◌, inl, inr, ℕ, zero, suc, ◌<◌, ◌==◌, Bool, true, false, List, [], ◌∷◌, length, get_or}
use Rattle.std.proofs.Common.{Option, None, Some, Result, Ok, Err, refl, sym, ap, subst, ◌∙◌, arith, eq-eqb, ⊎_elim}
use Rattle.std.specs.Prelude.{find, unwrap_or, All, IsOk, slice_index_or}
use Rattle.std.proofs.lemmas.Bool.Decides.{eqb_tells}
use Rattle.design_circuit.specs.Parts.{PartsFit}
use Rattle.design_circuit.specs.Job.{Job}
use Rattle.design_circuit.specs.declared.design.Design.{Design}
use Rattle.design_circuit.proofs.OrdersFit.{job_fits}
use Rattle.design_circuit.specs.Force.{forced_by}
use Rattle.design_circuit.specs.Handed.{IsReplay, IsReplayUnder}
use Rattle.design_circuit.specs.History.{HistoryView}
use Rattle.design_circuit.specs.declared.force.Event.{Event}
use Rattle.recording_binding.specs.Binding.{FitsBinding, FitsBound}
use Rattle.recording_binding.specs.Bounds.{IsOf}
use Rattle.recording_binding.specs.declared.binding.Binding.{Binding}
use Rattle.recording_binding.specs.declared.binding.Bound.{Bound}
use Rattle.recording_reader.specs.Recording.{Recording, width_at}
use Rattle.replay_history.specs.Fault.{IsFirstFault, TellsFaultless, TellsFirst, bound_at, no_variable}
use Rattle.replay_history.specs.declared.differ.Differ.{Differ}
use Rattle.replay_history.specs.declared.differ.Differ.TheVariants as differ
use Rattle.replay_history.specs.declared.differ.DifferErr.{DifferErr}
use Rattle.replay_history.specs.declared.differ.DifferErr.TheVariants.{Differs, Memory as OutOfMemory}
use Rattle.cmd_job.specs.Netlist.{FitsNetlist}
use Rattle.cmd_job.specs.Compared.{IsReplayAnswer, IsThere, bound_in, job_for, refusal_for}
use Rattle.cmd_job.specs.declared.compare_refusal.CompareErr.{CompareErr}
use Rattle.cmd_job.specs.declared.compare_refusal.CompareErr.TheVariants.{Refused}
use Rattle.cmd_job.specs.declared.compare_refusal.CompareRefusal.{CompareRefusal}
use Rattle.cmd_job.specs.Recorded.{FitsRecorded}
use Rattle.cmd_job.specs.declared.netlist.Netlist.{Netlist}
use Rattle.cmd_job.specs.declared.recorded.Recorded.{Recorded}

-- The circuit of a job fits.
pub circuit_fits : (netlist : Netlist) (recorded : Recorded) → FitsNetlist netlist
    → FitsRecorded netlist.design recorded → PartsFit netlist.design netlist.order recorded.stim
circuit_fits netlist recorded fits own = record {
  fits_job = job_fits netlist.design netlist.order recorded.stim fits.design fits.order own.stim own.some_round own.few_rounds;
  fits_stim = own.stim;
}

one_number : (m n : ℕ) → (m == n) ≡ true → m ≡ n
one_number m n is = elim (eqb_tells m n) as (λ _. m ≡ n) [
  | inl same ↦ same.1
  | inr other ↦ absurd (let bad : true ≡ false = sym is ∙ other.0 in cc)
]

found_here : (p : Bound → Bool) (b : Bound) (bounds : List Bound) → p b ≡ true → find p (b ∷ bounds) ≡ Some b
found_here p b bounds is = rw is refl

found_later : (p : Bound → Bool) (b : Bound) (bounds : List Bound) → p b ≡ false → find p (b ∷ bounds) ≡ find p bounds
found_later p b bounds is = rw is refl

-- Bound variables with one number are as wide.
module _ (recording : Recording) (number : ℕ) where
  wide_here : (b : Bound) (bounds : List Bound) → IsOf recording b → (b.variable == number) ≡ true
      → length (bound_in (b ∷ bounds) number).bits ≡ width_at recording number
  wide_here b bounds known is =
      let found : find (λ (c : Bound). c.variable == number) (b ∷ bounds) ≡ Some b = found_here (λ (c : Bound). c.variable == number) b bounds is in
      let same : b.variable ≡ number = one_number b.variable number is in
      ap (λ (o : Option Bound). length (unwrap_or o no_variable).bits) found ∙ (known.wide ∙ ap (width_at recording) same)

  wide_later : (b : Bound) (bounds : List Bound) (w : ℕ) → length (bound_in bounds number).bits ≡ w
      → (b.variable == number) ≡ false → length (bound_in (b ∷ bounds) number).bits ≡ w
  wide_later b bounds w wide is =
      let found = found_later (λ (c : Bound). c.variable == number) b bounds is in
      ap (λ (o : Option Bound). length (unwrap_or o no_variable).bits) found ∙ wide

  found_wide : (bounds : List Bound) (place : ℕ) → place < length bounds → All (IsOf recording) bounds
      → (slice_index_or bounds place no_variable).variable ≡ number
      → length (bound_in bounds number).bits ≡ width_at recording number
  found_wide [] place within known same = absurd (omega arith)
  found_wide (b ∷ bounds) zero within known same = wide_here b bounds (known 0 b (omega arith)) (eq-eqb b.variable number same)
  found_wide (b ∷ bounds) (suc place) within known same =
      let later = found_wide bounds place (omega arith) (λ k d inside. known (suc k) d (omega arith)) same in
      elim (eqb_tells b.variable number) as (λ _. length (bound_in (b ∷ bounds) number).bits ≡ width_at recording number) [
        | inl here ↦ wide_here b bounds (known 0 b (omega arith)) here.0
        | inr other ↦ wide_later b bounds (width_at recording number) later other.0
      ]

module _ (netlist : Netlist) (recorded : Recorded) (own : FitsRecorded netlist.design recorded) where
  moment_in : (moment : ℕ) → moment < length recorded.stim.times → moment < length recorded.recording.times
  moment_in moment within = let times = own.times in rw times within

  -- What the first fault numbers is there.
  pub is_there : (d : Differ) → IsFirstFault (job_for netlist recorded) recorded.recording recorded.binding d → IsThere netlist recorded d
  is_there (differ.Unsettled net moment kept next) first = let fault = first.fault in (fault.within, moment_in moment first.within)
  is_there (differ.Disagrees variable bit moment was replayed) first =
      let fault = (first.fault).1 in
      let bit_in = fault.first in
      let here = own.variables fault.place no_variable fault.within in
      let wide = found_wide recorded.recording variable recorded.binding.bound fault.place fault.within own.variables fault.variable_is in
      let same : length (bound_in recorded.binding.bound variable).bits ≡ length (bound_at recorded.binding fault.place).bits =
      wide ∙ sym (here.wide ∙ ap (width_at recorded.recording) fault.variable_is) in
      (rw same bit_in.within, moment_in moment first.within)

-- A variable that is found is one of the bound ones.
found_fits : (P : Bound → Type 0) (p : Bound → Bool) (bounds : List Bound) (b : Bound) → All P bounds → find p bounds ≡ Some b → P b
found_fits P p [] b all found = absurd (let bad : None ≡ Some b = found in cc)
found_fits P p (c ∷ bounds) b all found =
    let later : find p bounds ≡ Some b → P b = λ there. found_fits P p bounds b (λ k d inside. all (suc k) d (omega arith)) there in
    by_test (p c) refl later
  where
    by_test : (test : Bool) → p c ≡ test → (find p bounds ≡ Some b → P b) → P b
    by_test true is later = (let same : Some c ≡ Some b = sym (found_here p c bounds is) ∙ found in let one : c ≡ b = cc in subst P one (all 0 c (omega arith)))
    by_test false is later = later (sym (found_later p c bounds is) ∙ found)

pub found_net : (design : Design) (binding : Binding) (number bit : ℕ) (b : Bound) → FitsBinding design binding
    → find (λ (c : Bound). c.variable == number) binding.bound ≡ Some b
    → bit < length (bound_in binding.bound number).bits → get_or b.bits bit 0 < length design.nets
found_net design binding number bit b fits found within =
    let own : FitsBound design b = found_fits (FitsBound design) (λ (c : Bound). c.variable == number) binding.bound b fits.each found in
    let same : bound_in binding.bound number ≡ b = ap (λ (o : Option Bound). unwrap_or o no_variable) found in
    own.nets bit 0 (subst (λ (c : Bound). bit < length c.bits) same within)

-- Without events nothing is forced.
pub unforced : (j : Job) (events : List Event) (history : HistoryView) → events ≡ [] → IsReplayUnder j (forced_by j events) history → IsReplay j history
unforced j events history none is = subst (λ (l : List Event). IsReplayUnder j (forced_by j l) history) none is

-- Where the recording is compared: a fault is reported as it is.
pub answer_refused : (netlist : Netlist) (recorded : Recorded) (d : Differ) (refusal : CompareRefusal) (result : Result (Unit {0}) DifferErr) → result ≡ Err (Differs d)
    → TellsFaultless (job_for netlist recorded) recorded.recording recorded.binding result
    → TellsFirst (job_for netlist recorded) recorded.recording recorded.binding result → refusal ≡ refusal_for netlist recorded d
    → (answer : Result HistoryView CompareErr) → answer ≡ Err (Refused refusal) → IsReplayAnswer netlist recorded answer
answer_refused netlist recorded d refusal result is faultless first named answer ends = record {
  replayed = λ none. ⊎_elim (λ ok. absurd (not_ok result d is ok)) (λ out. absurd (not_out result d is out)) (faultless none);
  refused = λ e refused. ⊎_elim (λ there. inl (
      ends ∙ ap (λ (r : CompareRefusal). Err (Refused r))
      (named ∙ (ap (refusal_for netlist recorded) (same_fault result d refused.differ is there) ∙ sym refused.reported)))) (λ out. absurd (not_out result d is out)) (first refused.differ refused.first);
}
  where
    not_ok : (r : Result (Unit {0}) DifferErr) (x : Differ) → r ≡ Err (Differs x) → IsOk r → ⊥
    not_ok (Ok u) x same ok = cc
    not_ok (Err y) x same ok = let bad : false ≡ true = ok in cc

    not_out : (r : Result (Unit {0}) DifferErr) (x : Differ) → r ≡ Err (Differs x) → r ≡ Err OutOfMemory → ⊥
    not_out r x here there = cc

    same_fault : (r : Result (Unit {0}) DifferErr) (x y : Differ) → r ≡ Err (Differs x) → r ≡ Err (Differs y) → x ≡ y
    same_fault r x y here there = cc

-- A recording that agrees isn't refused.
pub answer_agrees : (netlist : Netlist) (recorded : Recorded) (result : Result (Unit {0}) DifferErr) (u : Unit {0}) → result ≡ Ok u
    → TellsFirst (job_for netlist recorded) recorded.recording recorded.binding result
    → (history : HistoryView) (answer : Result HistoryView CompareErr) → answer ≡ Ok history → IsReplayAnswer netlist recorded answer
answer_agrees netlist recorded result u is first history answer ends = record {
  replayed = λ none. inl (ok_by answer history ends);
  refused = λ e refused. ⊎_elim (λ there. absurd (not_both result u (Differs refused.differ) is there)) (λ out. absurd (not_both result u OutOfMemory is out)) (first refused.differ refused.first);
}
  where
    ok_by : (r : Result HistoryView CompareErr) (h : HistoryView) → r ≡ Ok h → IsOk r
    ok_by (Ok x) h same = refl
    ok_by (Err e) h same = absurd cc

    not_both : (r : Result (Unit {0}) DifferErr) (x : Unit {0}) (e : DifferErr) → r ≡ Ok x → r ≡ Err e → ⊥
    not_both r x e here there = cc
