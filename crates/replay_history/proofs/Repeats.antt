-- Places of a step and of the one before.
use Rattle.std.proofs.Common.{◌≡◌, ℕ, zero, suc, ◌+◌, ◌-◌, ◌*◌, ◌<◌, Option, slice_index, sym, ap, ◌∙◌, arith}
use Rattle.design_cell.specs.declared.value.Value.{Value}
use Rattle.design_circuit.specs.Fits.{Fits}
use Rattle.design_circuit.specs.Handed.{shown_of}
use Rattle.design_circuit.specs.History.{HistoryView}
use Rattle.design_circuit.specs.Job.{Job, at}
use Rattle.design_circuit.specs.Replay.{Held}
use Rattle.replay_fans.proofs.Positions.{at_there}
use Rattle.replay_history.specs.Filled.{IsFilled, replayed}

-- A place of the step before comes before every place of a step.
pub step_before : (w step p q : ℕ) → 0 < step → p < w → (step - 1) * w + p < step * w + q
step_before w zero p q later within = absurd (omega arith)
step_before w (suc step) p q later within = let e : suc step - 1 ≡ step = omega arith in let more : suc step * w ≡ step * w + w = omega arith in rw e (omega (arith, more, within))

-- What is read of a net at a step and one step before is what the replay shows there.
pub record ReadsBoth (j : Job) (forced : ℕ → Option Value) (step net : ℕ) (shown before : Value) : Type 0 where
  pub now : shown ≡ (replayed j forced (at j step net)).shown
  pub earlier : before ≡ (replayed j forced (at j (step - 1) net)).shown

pub reads_both : (j : Job) → Fits j → (forced : ℕ → Option Value) (history : HistoryView) (step position net : ℕ) (shown before : Value) → position < j.width → 0 < step → net ≡ slice_index j.order position → IsFilled j forced (step * j.width + position + 1) history → shown ≡ shown_of j history (at j step net) → before ≡ shown_of j history (at j (step - 1) net) → ReadsBoth j forced step (slice_index j.order position) shown before
reads_both j fits forced history step position net shown before within later net_is filled shown_is before_is =
    let here : at j step net ≡ step * j.width + position = ap (at j step) net_is ∙ at_there j fits step position within in
    let there : at j (step - 1) net ≡ (step - 1) * j.width + position = ap (at j (step - 1)) net_is ∙ at_there j fits (step - 1) position within in
    let less = step_before j.width step position position later within in
    let first : shown ≡ (replayed j forced (step * j.width + position)).shown = shown_is ∙ ap (shown_of j history) here ∙ ap (λ (held : Held). held.shown) (filled.held (step * j.width + position) (omega arith)) in
    let second : before ≡ (replayed j forced ((step - 1) * j.width + position)).shown = before_is ∙ ap (shown_of j history) there ∙ ap (λ (held : Held). held.shown) (filled.held ((step - 1) * j.width + position) (omega (arith, less))) in
    record {
      now = first ∙ ap (λ (place : ℕ). (replayed j forced place).shown) (sym (at_there j fits step position within));
      earlier = second ∙ ap (λ (place : ℕ). (replayed j forced place).shown) (sym (at_there j fits (step - 1) position within));
    }
