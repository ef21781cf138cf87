-- Steps and places within a history.
use Rattle.std.proofs.Common.{◌≡◌, ℕ, ◌-◌, ◌*◌, ◌<◌, ◌≤◌, ◌^◌, List, length, arith, All, subst}
use Rattle.std.proofs.Math.Nat.{mul_comm, mul-le-mul_left}
use Rattle.std.proofs.lemmas.Nat.{mul-add-lt}
use Rattle.design_circuit.specs.History.{HistoryView}
use Rattle.design_circuit.specs.declared.design.Design.{Design}
use Rattle.design_circuit.specs.declared.stim.Stim.{Stim}
use Rattle.recording_binding.specs.Binding.{FitsBound}
use Rattle.recording_binding.specs.declared.binding.Bound.{Bound}
use Rattle.design_circuit.specs.Settled.{last_round}
use Rattle.recording_writer.specs.Rows.{HasEnds, MomentView}
use Rattle.recording_writer.specs.Steps.{HasBits, HasMoments, HasStep}
use Rattle.recording_writer.specs.Text.{HasSteps}

-- the bits of a binding that fits are nets of the history
pub has_bits : (design : Design) (bound : List Bound) (history : HistoryView) → All (FitsBound design) bound → history.nets ≡ length design.nets → All (HasBits history) bound
has_bits design bound history h nets = λ k d lt. let b = h k d lt in record { some = b.some; all = λ i x l. rw nets (b.nets i x l) }

-- The last round of a moment is one of the steps of all moments.
pub last_within : (moments rounds moment : ℕ) → 0 < rounds → moment < moments → last_round rounds moment < moments * rounds
last_within moments rounds moment some less =
    let below = mul-add-lt moment rounds (rounds - 1) moments less (omega (arith, some)) in
    omega (arith, below, some, mul_comm rounds moments)

-- So few moments of so few rounds each have steps below 2^32.
steps_small : (moments rounds : ℕ) → moments < 2 ^ 28 → rounds ≤ 16 → moments * rounds < 2 ^ 32
steps_small moments rounds few short =
    let wide = mul-le-mul_left moments short in
    omega (arith, wide, few)

-- The moments have the last steps of one of them and of the one before.
pub has_ends : (view : MomentView) (moments : ℕ) → HasMoments view.history moments view.rounds → view.moment < moments → HasEnds view
has_ends view moments has less = record {
  here = has.last view.moment less;
  before = has.last (view.moment - 1) (omega (arith, less));
}

-- A history of all steps of a stimulus has each step of its moments.
pub has_moments : (design : Design) (stim : Stim) (history : HistoryView) → HasSteps design stim history → HasMoments history (length stim.times) stim.rounds
has_moments design stim history has =
    let moments = length stim.times in
    record {
      few = stim.few_moments;
      steps = there;
      last = λ moment less. there (last_round stim.rounds moment) (last_within moments stim.rounds moment stim.some_round less);
    }
  where
    there : (step : ℕ) → step < length stim.times * stim.rounds → HasStep history step
    there step less = record {
      small = omega (arith, less, steps_small (length stim.times) stim.rounds stim.few_moments stim.few_rounds);
      places = λ net within.
          let low : net < length design.nets = subst (λ n. net < n) has.nets within in
          let below = mul-add-lt step (length design.nets) net (length stim.times * stim.rounds) less low in
          record { net = within; step = rw (has.nets, has.places) below };
    }
