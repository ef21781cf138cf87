-- What the history shows at a step and one step before.
use Rattle.std.proofs.Common.{◌≡◌, ℕ, ◌+◌, ◌-◌, ◌*◌, ◌<◌, Bool, true, false, List, length, sym, ap, ◌∙◌, arith, subst}
use Rattle.design_cell.specs.declared.value.Value.{Value}
use Rattle.design_circuit.specs.Fits.{Fits}
use Rattle.design_circuit.specs.Handed.{HasPlaces, held_of, shown_of}
use Rattle.design_circuit.specs.History.{HasPlace, HistoryView, held_in, net_place}
use Rattle.design_circuit.specs.Job.{Job, net_of}
use Rattle.design_circuit.specs.Order.{position_of}
use Rattle.design_circuit.specs.Replay.{Held}
use Rattle.design_circuit.specs.Row.{AreWritten, IsBlankAt, IsUnwritten}
use Rattle.design_circuit.proofs.Handed.{has_place}
use Rattle.replay_fans.specs.Marks.{AreChangesDue}
use Rattle.replay_fans.specs.Nets.{net_on}
use Rattle.replay_fans.proofs.Positions.{net_within, position_there}
use Rattle.base_ledger.specs.declared.change.Change.{Change}
use Rattle.law_model.specs.Class.{before}
use Rattle.wave_bytes.specs.OfQuiet.{spot_at}
use Rattle.wave_bytes.proofs.LawsOfQuiet.{before_on, net_is, step_on}
use Rattle.replay_due.specs.Due.{AreAllDue, is_due}
use Rattle.wave_due.specs.Sources.{ShowsOn}

-- What it has at a place of a step is what it has for the net.
held_there : (j : Job) (history : HistoryView) (step p : ℕ) → p < j.width
    → held_of j history (spot_at j step p) ≡ held_in history (net_place step (net_on j p))
held_there j history step p low =
    ap (λ s. held_in history (net_place s (net_of j (spot_at j step p)))) (step_on j step p low)
    ∙ ap (λ n. held_in history (net_place step n)) (net_is j step p low)

shown_there : (j : Job) (history : HistoryView) (step p : ℕ) → p < j.width
    → shown_of j history (spot_at j step p) ≡ (held_in history (net_place step (net_on j p))).shown
shown_there j history step p low = ap (λ (h : Held). h.shown) (held_there j history step p low)

one_before : (j : Job) → Fits j → (step p : ℕ) → 0 < step → p < j.width
    → before j (spot_at j step p) ≡ spot_at j (step - 1) p
one_before j fits step p later low =
    let more : step - 1 + 1 ≡ step = omega (arith, later) in
    ap (λ s. before j (spot_at j s p)) (sym more) ∙ before_on j fits (step - 1) p low

-- So it shows the same at both where it has the same for the net.
same_shown : (j : Job) → Fits j → (history : HistoryView) (step p : ℕ) → 0 < step → p < j.width
    → held_in history (net_place step (net_on j p)) ≡ held_in history (net_place (step - 1) (net_on j p))
    → shown_of j history (spot_at j step p) ≡ shown_of j history (before j (spot_at j step p))
same_shown j fits history step p later low same =
    shown_there j history step p low ∙ ap (λ (h : Held). h.shown) same
    ∙ sym (shown_there j history (step - 1) p low) ∙ ap (shown_of j history) (sym (one_before j fits step p later low))

has_net : (j : Job) → Fits j → (history : HistoryView) (step p : ℕ) → HasPlaces j history
    → step < j.moments * j.rounds → p < j.width → HasPlace history (net_place step (net_on j p))
has_net j fits history step p places within low = has_place j history (net_place step (net_on j p)) places
    (record { step = within; net = net_within j fits p low })

not_due : (b : Bool) → b ≡ true → b ≡ false → ⊥
not_due true is isnt = cc
not_due false is isnt = cc

-- What isn't due wasn't written.
unwritten_there : (j : Job) → Fits j → (changes : List Change) (due : List ℕ) (p : ℕ) → p < j.width
    → AreChangesDue j (length changes) changes due → is_due due p ≡ false → IsUnwritten changes (net_on j p)
unwritten_there j fits changes due p low marked none i less is =
    not_due (is_due due p)
    (subst (λ k. is_due due k ≡ true) (ap (position_of j.order) is ∙ position_there j fits p low) (marked i less)) none

pub written_shows : (j : Job) → Fits j → (history : HistoryView) (step : ℕ) (changes : List Change) (due : List ℕ)
    → HasPlaces j history → 0 < step → step < j.moments * j.rounds → AreWritten history step changes
    → AreChangesDue j (length changes) changes due → ShowsOn j (shown_of j history) step 0 due
written_shows j fits history step changes due places later within written marked = λ p from low none.
    same_shown j fits history step p later low
    (written.others (net_on j p) (has_net j fits history step p places within low)
    (unwritten_there j fits changes due p low marked none))

-- Two blank steps show the same.
pub blank_shows : (j : Job) → Fits j → (history : HistoryView) (step : ℕ) (due : List ℕ) → HasPlaces j history
    → 0 < step
    → step < j.moments * j.rounds → IsBlankAt history step → IsBlankAt history (step - 1)
    → ShowsOn j (shown_of j history) step 0 due
blank_shows j fits history step due places later within here there = λ p from low none.
    same_shown j fits history step p later low (here (net_on j p) (has_net j fits history step p places within low)
    ∙ sym (there (net_on j p) (has_net j fits history (step - 1) p places (omega (arith, within)) low)))

pub all_shows : (j : Job) (shown : ℕ → Value) (step : ℕ) (due : List ℕ) → AreAllDue due j.width
    → ShowsOn j shown step 0 due
all_shows j shown step due all = λ p from low none. absurd (not_due (is_due due p) (all p low) none)
