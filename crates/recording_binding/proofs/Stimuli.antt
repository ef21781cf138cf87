-- A recording whose variables are bound has one stimulus.
use mathlib.Core.HLevel.{is_prop→PathP}
use native.Mathlib.Bridge.{le_prop}
use native.Mathlib.Nat.{ℕ_set}
use Rattle.std.proofs.Common.{◌≡◌, ◌∙◌, ℕ, ◌<◌, ◌≤◌, ◌^◌, List, [], Option, All, length, sym, arith, slice_index_or}
use Rattle.std.proofs.Props.{props}
use Rattle.std.proofs.lemmas.List.{ext_get_or}
use Rattle.design_cell.specs.declared.value.Value.{Value}
use Rattle.design_cell.specs.declared.value.Value.TheVariants.{X}
use Rattle.design_circuit.specs.declared.design.Design.{Design}
use Rattle.design_circuit.specs.declared.stim.RegisterRules.{RegisterRules}
use Rattle.design_circuit.specs.declared.stim.Stim.{Stim}
use Rattle.recording_binding.specs.StimOf.{IsRow, IsStimOf, input_value, start_value}
use Rattle.recording_binding.specs.declared.inputs.Holder.{Holder}
use Rattle.recording_reader.specs.Recording.{Recording}

one_row : (design : Design) (value : ℕ → Value) (a b : List Value) → IsRow design value a → IsRow design value b → a ≡ b
one_row design value a b first second =
    let long = first.long in
    let wide = second.long in
    ext_get_or X a b (omega (arith, long, wide))
    (λ net within. first.values net (omega (arith, long, within)) ∙ sym (second.values net (omega (arith, long, within))))

-- Stimuli with the same data are the same: what is always true of one has one proof.
pub one_stim_by : (a b : Stim) → a.times ≡ b.times → a.rounds ≡ b.rounds → a.inputs ≡ b.inputs → a.rules ≡ b.rules → a.starts ≡ b.starts → a ≡ b
one_stim_by a b times rounds inputs rules starts = λ i. record {
  times = times i;
  rounds = rounds i;
  inputs = inputs i;
  rules = rules i;
  starts = starts i;
  some_moment = is_prop→PathP (λ k. 0 < length (times k)) (λ k. le_prop) a.some_moment b.some_moment i;
  few_moments = is_prop→PathP (λ k. length (times k) < 2 ^ 28) (λ k. le_prop) a.few_moments b.few_moments i;
  some_round = is_prop→PathP (λ k. 0 < rounds k) (λ k. le_prop) a.some_round b.some_round i;
  few_rounds = is_prop→PathP (λ k. rounds k ≤ 16) (λ k. le_prop) a.few_rounds b.few_rounds i;
  rows = is_prop→PathP (λ k. length (inputs k) ≡ length (times k)) (λ k. ℕ_set (length (inputs k)) (length (times k))) a.rows b.rows i;
  small_times = is_prop→PathP (λ k. All (λ time. time < 2 ^ 64) (times k)) (λ k. Prim.hlevel props) a.small_times b.small_times i;
}

module _ (design : Design) (recording : Recording) (holder : ℕ → Option Holder) (rounds : ℕ) (rules : RegisterRules) (a b : Stim)
    (first : IsStimOf design recording holder rounds rules a) (second : IsStimOf design recording holder rounds rules b) where
  same_inputs : a.inputs ≡ b.inputs
  same_inputs =
      let many = first.many in
      let others = second.many in
      ext_get_or [] a.inputs b.inputs (omega (arith, many, others))
      (λ moment within. (let inside : moment < length recording.times = omega (arith, many, within) in
      one_row design (input_value design recording holder moment) (slice_index_or a.inputs moment []) (slice_index_or b.inputs moment [])
      (first.rows moment inside) (second.rows moment inside)))

  pub same_stim : a ≡ b
  same_stim = one_stim_by a b (first.times ∙ sym second.times) (first.as_many ∙ sym second.as_many) same_inputs
      (first.ruled ∙ sym second.ruled) (one_row design (start_value design recording holder rules.start) a.starts b.starts first.starts second.starts)
