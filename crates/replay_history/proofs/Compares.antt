-- A history that is the replay, read at the last step of a moment.
use Rattle.std.proofs.Common.{◌≡◌, ℕ, ◌+◌, ◌*◌, ◌<◌, ◌≤◌, ◌==◌, None, false, refl, ap, ◌∙◌, arith, slice_index_or}
use Rattle.std.proofs.Math.Nat.{mul-le-mul_right, mul_comm}
use Rattle.std.proofs.lemmas.Grind.{common_steps}
use Rattle.design_cell.specs.declared.value.Value.{Value}
use Rattle.design_circuit.specs.declared.design.Driver.TheVariants.{Register}
use Rattle.design_circuit.specs.declared.design.Latching.{Latching}
use Rattle.design_circuit.specs.Fits.{Fits, FitsDriver}
use Rattle.design_circuit.specs.Handed.{IsReplay, held_of, shown_of}
use Rattle.design_circuit.specs.History.{HistoryView}
use Rattle.design_circuit.specs.Job.{Job, at, places_of}
use Rattle.design_circuit.specs.Order.{position_of}
use Rattle.design_circuit.specs.Register.{updated}
use Rattle.design_circuit.specs.Replay.{Held, blank, replay, shown_at, kept_at}
use Rattle.design_circuit.specs.Settled.{last_step}
use Rattle.design_circuit.proofs.Rules.{agree_on, old_below, new_below, position_in, updated_reads}
use Rattle.replay_history.proofs.Replays.{replay_held}
use Rattle.replay_history.proofs.Writing.{place_within}

-- What it has at a place is what the replay has there.
pub held_is : (j : Job) (history : HistoryView) (place : ℕ) → IsReplay j history → place < places_of j → held_of j history place ≡ slice_index_or (replay j (place + 1)) place blank
held_is j history place is within = is.held place within ∙ replay_held j (λ place. None) (places_of j) place within

pub shown_is : (j : Job) (history : HistoryView) (place : ℕ) → IsReplay j history → place < places_of j → shown_of j history place ≡ shown_at j place
shown_is j history place is within = ap (λ (held : Held). held.shown) (held_is j history place is within)

-- The last step of a moment is one of the job's.
pub last_within : (j : Job) → Fits j → (moment : ℕ) → moment < j.moments → last_step j moment < j.moments * j.rounds
last_within j fits moment within =
    let more : (moment + 1) * j.rounds ≤ j.moments * j.rounds = mul-le-mul_right j.rounds (omega arith) in
    let some = fits.some_round in
    omega (arith, more, some)

pub net_place : (j : Job) → Fits j → (step net : ℕ) → step < j.moments * j.rounds → net < j.width → at j step net < places_of j
net_place j fits step net less within = place_within j step (position_of j.order net) less (position_in j fits net within)

-- The update after a step, from the values of the history.
pub update_same : (j : Job) → Fits j → (history : HistoryView) (step net : ℕ) (latching : Latching) (kept : Value) → IsReplay j history → step < j.moments * j.rounds → net < j.width → j.driver net ≡ Register latching → updated j (shown_of j history) kept (step + 1) latching ≡ updated j (shown_at j) kept (step + 1) latching
update_same j fits history step net latching kept is less within driver =
    updated_reads j (shown_of j history) (shown_at j) kept kept (step + 1) latching
    (agree_on (shown_of j history) (shown_at j) n _ agree (old_below j fits (step + 1) 0 latching fit later))
    (agree_on (shown_of j history) (shown_at j) n _ agree (new_below j fits (step + 1) 0 latching fit later))
    refl
  where
    n : ℕ
    n = (step + 1) * j.width + 0

    later : ((step + 1) == 0) ≡ false
    later = grind (arith, common_steps)

    fit : FitsDriver j.udps j.width (Register latching)
    fit = rw driver at (fits.pins net within)

    agree : (k : ℕ) → k < n → shown_of j history k ≡ shown_at j k
    agree k low =
        let more : (step + 1) * j.width ≤ (j.moments * j.rounds) * j.width = mul-le-mul_right j.width (omega arith) in
        let turned = mul_comm (j.moments * j.rounds) j.width in
        shown_is j history k is (omega (arith, low, more, turned))

-- What the code reads of a net, once its step is the last of a moment.
pub kept_last : (j : Job) → Fits j → (history : HistoryView) (step moment net : ℕ) (kept : Value) → IsReplay j history → moment < j.moments → net < j.width → step ≡ last_step j moment → kept ≡ (held_of j history (at j step net)).kept → kept ≡ kept_at j (at j (last_step j moment) net)
kept_last j fits history step moment net kept is low within step_is kept_is =
    let inside = net_place j fits (last_step j moment) net (last_within j fits moment low) within in
    kept_is ∙ ap (λ (n : ℕ). (held_of j history (at j n net)).kept) step_is ∙ ap (λ (held : Held). held.kept) (held_is j history (at j (last_step j moment) net) is inside)

pub next_last : (j : Job) → Fits j → (history : HistoryView) (step moment net : ℕ) (latching : Latching) (kept next : Value) → IsReplay j history → moment < j.moments → net < j.width → j.driver net ≡ Register latching → step ≡ last_step j moment → kept ≡ kept_at j (at j (last_step j moment) net) → next ≡ updated j (shown_of j history) kept (step + 1) latching → next ≡ updated j (shown_at j) (kept_at j (at j (last_step j moment) net)) (last_step j moment + 1) latching
next_last j fits history step moment net latching kept next is low within driver step_is kept_is next_is =
    next_is
    ∙ ap (λ (n : ℕ). updated j (shown_of j history) kept (n + 1) latching) step_is
    ∙ update_same j fits history (last_step j moment) net latching kept is (last_within j fits moment low) within driver
    ∙ ap (λ (k : Value). updated j (shown_at j) k (last_step j moment + 1) latching) kept_is

pub shown_last : (j : Job) → Fits j → (history : HistoryView) (step moment net : ℕ) (shown : Value) → IsReplay j history → moment < j.moments → net < j.width → step ≡ last_step j moment → shown ≡ shown_of j history (at j step net) → shown ≡ shown_at j (at j (last_step j moment) net)
shown_last j fits history step moment net shown is low within step_is shown_is_ =
    let inside = net_place j fits (last_step j moment) net (last_within j fits moment low) within in
    shown_is_ ∙ ap (λ (n : ℕ). shown_of j history (at j n net)) step_is ∙ shown_is j history (at j (last_step j moment) net) is inside
