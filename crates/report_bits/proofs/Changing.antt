-- The ends of a step as they are put, one after the other.
use Rattle.std.proofs.Common.{◌≡◌, ℕ, zero, suc, ◌+◌, ◌-◌, ◌*◌, ◌<◌, ◌≤◌, ◌⊎◌, List, length, set, slice_index, sym, ap, ◌∙◌, arith, subst, below_more, ⊎_elim, inl, inr}
use Rattle.std.proofs.lemmas.Bool.{cases_eq}
use Rattle.design_circuit.specs.History.{held_in}
use Rattle.design_circuit.specs.Order.{position_of}
use Rattle.design_circuit.specs.Replay.{Held}
use Rattle.design_circuit.specs.Row.{AreWritten}
use Rattle.design_circuit.specs.declared.place.Place.{Place}
use Rattle.design_circuit.proofs.Handed.{handed_places}
use Rattle.design_circuit.proofs.Rules.{position_in}
use Rattle.replay_fans.proofs.Positions.{position_there as position_again}
use Rattle.base_ledger.specs.Change.{AreInWidth, change_position, nth_change}
use Rattle.base_ledger.specs.declared.change.Change.{Change}
use Rattle.report_bits.specs.Ends.{AreBrought, IsShownIn, end_in, nth_end}
use Rattle.report_bits.specs.Finished.{IsStillAt}
use Rattle.report_bits.specs.declared.ends.End.{End}
use Rattle.report_bits.proofs.Ending.{brought_put, end_kept, put_here, put_other}
use Rattle.report_bits.proofs.Steps.{place_in_step, position_there}
use Rattle.wave_proved.specs.Contents.{Contents, IsWave, job, shown_in}

-- One position more is put.
pub all_put : (c : Contents) (step : ℕ) (ends new : List End) (position : ℕ)
    → new ≡ set ends position (end_in c step position) → position < length ends
    → ((p : ℕ) → p < position → nth_end ends p ≡ end_in c step p)
    → (p : ℕ) → p < position + 1 → nth_end new p ≡ end_in c step p
all_put c step ends new position is within before =
    below_more (λ p. nth_end new p ≡ end_in c step p) position
    (λ p less. ap (λ (l : List End). nth_end l p) is
    ∙ put_other c step ends position p (λ same. omega (arith, less, same)) ∙ before p less)
    (ap (λ (l : List End). nth_end l position) is ∙ put_here c step ends position within)

-- A net is among the first changes, or isn't.
find_net : (changes : List Change) (net n : ℕ)
    → ((i : ℕ) × (i < n) × (change_position (nth_change changes i) ≡ net))
    ⊎ ((i : ℕ) → i < n → change_position (nth_change changes i) ≡ net → ⊥)
find_net changes net zero = inr (λ i less. absurd (omega (arith, less)))
find_net changes net (suc n) =
    ⊎_elim (λ found. inl (found.0, omega (arith, found.1), found.2))
    (λ none. ⊎_elim (λ is. inl (n, omega arith, is)) (λ other. inr (λ i less is.
    ⊎_elim (λ same. other (ap (λ k. change_position (nth_change changes k)) (sym same) ∙ is))
    (λ differ. none i (omega (arith, less, differ)) is) (cases_eq i n)))
    (cases_eq (change_position (nth_change changes n)) net))
    (find_net changes net n)

module _ (c : Contents) (wave : IsWave c) (step : ℕ) where
  -- The ends of the nets of the first changes are those of the step.
  abbrev pub AreListed : List Change → ℕ → List End → Type 0
  AreListed changes n ends = (i : ℕ) → i < n
      → nth_end ends (position_of c.order (change_position (nth_change changes i)))
      ≡ end_in c step (position_of c.order (change_position (nth_change changes i)))

  pub change_low : (changes : List Change) → AreInWidth c.history.nets changes → (i : ℕ) → i < length changes
      → position_of c.order (change_position (nth_change changes i)) < length c.design.nets
  change_low changes inside i less =
      let low = inside i less in
      let nets = (handed_places (job c) c.history wave.handed).nets in
      let fits = wave.fits.fits_job in
      let all = fits.all in
      let there = position_in (job c) fits (change_position (nth_change changes i)) (omega (arith, low, nets)) in
      omega (arith, there, all)

  pub change_put : (changes : List Change) (ends new : List End) (n position : ℕ) → AreInWidth c.history.nets changes
      → n < length changes → position ≡ position_of c.order (change_position (nth_change changes n))
      → length ends ≡ length c.design.nets → new ≡ set ends position (end_in c step position)
      → AreListed changes n ends → AreListed changes (n + 1) new
  change_put changes ends new n position inside less at long is listed =
      let low = change_low changes inside n less in
      let within : position < length ends = omega (arith, low, at, long) in
      let brought : AreBrought c step ends new =
      subst (AreBrought c step ends) (sym is) (brought_put c step ends position within) in
      below_more (λ i. nth_end new (position_of c.order (change_position (nth_change changes i)))
      ≡ end_in c step (position_of c.order (change_position (nth_change changes i)))) n
      (λ i early. end_kept c step ends new (position_of c.order (change_position (nth_change changes i)))
      (change_low changes inside i (omega (arith, early, less))) brought (listed i early))
      (subst (λ (p : ℕ). nth_end new p ≡ end_in c step p) at
      (ap (λ (l : List End). nth_end l position) is ∙ put_here c step ends position within))

  -- A place of a net that has what it had shows what it showed.
  pub shown_still : (position : ℕ) → position < length c.design.nets
      → held_in c.history (record { step = step; net = slice_index c.order position })
      ≡ held_in c.history (record { step = step - 1; net = slice_index c.order position })
      → shown_in c (step * length c.design.nets + position) ≡ shown_in c ((step - 1) * length c.design.nets + position)
  shown_still position low same =
      ap (λ (q : Place). (held_in c.history q).shown) (place_in_step (job c) step position low)
      ∙ ap (λ (h : Held). h.shown) same
      ∙ ap (λ (q : Place). (held_in c.history q).shown) (sym (place_in_step (job c) (step - 1) position low))

  -- Where all changes are put, each end is the step's, or the history shows what it showed.
  pub changes_shown : (changes : List Change) (ends : List End) → (step + 1) * length c.design.nets ≤ length c.written
      → AreWritten c.history step changes → AreListed changes (length changes) ends
      → (position : ℕ) → position < length c.design.nets → IsShownIn c step ends position
  changes_shown changes ends whole written listed position low =
      let net = slice_index c.order position in
      ⊎_elim (λ found. inl (at found.0 found.1 found.2))
      (λ none. inr (shown_still position low (written.others net (position_there c wave step position whole low) none)))
      (find_net changes net (length changes))
    where
      at : (i : ℕ) → i < length changes → change_position (nth_change changes i) ≡ slice_index c.order position
          → nth_end ends position ≡ end_in c step position
      at i less is =
          let same = ap (position_of c.order) is ∙ position_again (job c) wave.fits.fits_job position low in
          subst (λ (p : ℕ). nth_end ends p ≡ end_in c step p) same (listed i less)

  -- So it is at a step at which the history is still.
  pub still_shown : (ends : List End) → (step + 1) * length c.design.nets ≤ length c.written → IsStillAt c.history step
      → (position : ℕ) → position < length c.design.nets → IsShownIn c step ends position
  still_shown ends whole still position low =
      inr (shown_still position low (still (slice_index c.order position)
      (position_there c wave step position whole low)))
