-- What isn't due keeps its letter.
use Rattle.std.proofs.Common.{◌≡◌, ◌∙◌, ℕ, ◌+◌, ◌-◌, ◌*◌, ◌<◌, ◌≤◌, ◌==◌, true, false, List, length, ap, arith, refl}
use Rattle.std.proofs.Common.{subst, sym, ⊎_elim}
use Rattle.std.proofs.Math.Nat.{mul-le-mul_right}
use Rattle.std.proofs.lemmas.Bool.{cases_eq, cases_lt, le-ltb, lt-ltb, ne_eqb}
use Rattle.std.specs.Prelude.{Contains, slice_index}
use Rattle.design_cell.specs.Value.{letter_of}
use Rattle.design_circuit.specs.Fits.{Fits}
use Rattle.design_circuit.specs.History.{HasPlace, net_place}
use Rattle.design_circuit.specs.Order.{position_of}
use Rattle.design_circuit.specs.Replay.{Held}
use Rattle.design_circuit.specs.Waveform.{written_at}
use Rattle.design_circuit.specs.declared.waveform.Written.{Written}
use Rattle.design_circuit.proofs.OrderLemmas.{net_at_position}
use Rattle.design_circuit.proofs.Rules.{position_in}
use Rattle.replay_fans.specs.Marks.{OnlyMore}
use Rattle.replay_fans.proofs.Marking.{clear_before}
use Rattle.recording_writer.specs.Readers.{KeepLetters}
use Rattle.recording_writer.specs.Steps.{HasStep}
use Rattle.replay_history.specs.Watched.{AreReadersDue}
use Rattle.replay_due.specs.Due.{is_due}
use Rattle.replay_due.specs.Readers.{ReadersView, readers_of}
use Rattle.wave_proved.specs.Contents.{Contents, job}
use Rattle.wave_proved.specs.Row.{AreAnewAt, AreSameFrom, anew_behind, anew_next, anew_position}
use Rattle.wave_bytes.specs.declared.anew.Anew.{Anew}
use Rattle.recording_shown.specs.History.{shown_history}
use Rattle.recording_shown.proofs.Showing.{shown_there}

module _ (c : Contents) (readers : ReadersView) (step : ℕ) where
  abbrev w : ℕ
  w = (job c).width

  -- Each of the first positions of a step has what it has a step before, or the readers of its net are due.
  abbrev pub KeptTo : ℕ → List ℕ → Type 0
  KeptTo n due = (position reader : ℕ) → position < n
      → Contains (readers_of readers (slice_index (job c).order position)) reader → is_due due reader ≡ false
      → written_at c.written (step * w + position) ≡ written_at c.written ((step - 1) * w + position)

  pub kept_none : (due : List ℕ) → KeptTo 0 due
  kept_none due position reader less contains clear = absurd (omega (arith, less))

  -- So do those up to the next one that was written anew.
  pub kept_same : (first next : ℕ) (due : List ℕ) → AreSameFrom (job c) c.written step first next → KeptTo first due
      → KeptTo next due
  kept_same first next due same kept position reader less contains clear =
      ⊎_elim (λ low. kept position reader low contains clear) (λ high. same position high less)
      (cases_lt position first)

  -- The readers of that one become due.
  pub kept_due : (position : ℕ) (old new : List ℕ) → OnlyMore old new
      → AreReadersDue readers (slice_index (job c).order position) new → KeptTo position old → KeptTo (position + 1) new
  kept_due position old new more marked kept p reader less contains clear =
      ⊎_elim (λ same. (let P : ℕ → Type 0 = λ q. Contains (readers_of readers (slice_index (job c).order q)) reader in
      let some = marked reader (subst P same contains) in
      let no : true ≡ false = sym some ∙ clear in cc))
      (λ differ. kept p reader (omega (arith, less, differ)) contains (clear_before old new reader more clear))
      (cases_eq p position)

  -- Up to a place that was written anew, and with it.
  pub kept_more : (anew : List Anew) (i : ℕ) (old new : List ℕ) → AreAnewAt (job c) c.written step anew
      → i < length anew → OnlyMore old new
      → AreReadersDue readers (slice_index (job c).order (anew_position (job c) step anew i)) new
      → KeptTo (anew_behind (job c) step anew i) old → KeptTo (anew_behind (job c) step anew (i + 1)) new
  kept_more anew i old new are less more marked kept =
      let here = anew_position (job c) step anew i in
      let next : anew_next (job c) step anew i ≡ here = rw (lt-ltb i (length anew) less) refl in
      let one : i + 1 - 1 ≡ i = omega arith in
      let more_than : (i + 1 == 0) ≡ false = ne_eqb (i + 1) 0 (λ is. omega (arith, is)) in
      let behind : here + 1 ≡ anew_behind (job c) step anew (i + 1) = rw (more_than, one) refl in
      let before : KeptTo here old = subst (λ (n : ℕ). KeptTo n old) next
      (kept_same (anew_behind (job c) step anew i) (anew_next (job c) step anew i) old
      (are.same i (omega (arith, less))) kept) in
      subst (λ (n : ℕ). KeptTo n new) behind (kept_due here old new more marked before)

  -- Behind the last one, to the end of the step.
  pub kept_all : (anew : List Anew) (due : List ℕ) → AreAnewAt (job c) c.written step anew
      → KeptTo (anew_behind (job c) step anew (length anew)) due → KeptTo w due
  kept_all anew due are kept =
      let last = length anew in
      let next : anew_next (job c) step anew last ≡ w = rw (le-ltb last (length anew) (omega arith)) refl in
      subst (λ (n : ℕ). KeptTo n due) next
      (kept_same (anew_behind (job c) step anew last) (anew_next (job c) step anew last) due
      (are.same last (omega arith)) kept)

  earlier_place : (net : ℕ) → HasPlace (shown_history c) (net_place step net)
      → HasPlace (shown_history c) (net_place (step - 1) net)
  earlier_place net has =
      let before : (step - 1) * w ≤ step * w = mul-le-mul_right w (omega arith) in
      let inside = has.step in
      record { net = has.net; step = omega (arith, before, inside) }

  -- A net whose readers aren't due has the letter that it had.
  pub kept_letters : (due : List ℕ) → Fits (job c) → HasStep (shown_history c) step → KeptTo w due
      → KeepLetters (shown_history c) readers (step - 1) step due
  kept_letters due fits has kept reader net within contains clear =
      let here = has.places net within in
      let shown : Held → ℕ = λ held. letter_of held.shown in
      ap shown (shown_there c step net here)
      ∙ ap (λ (v : Written). letter_of v.value)
      (kept (position_of (job c).order net) reader (position_in (job c) fits net within)
      (subst P (sym net_is) contains) clear)
      ∙ sym (ap shown (shown_there c (step - 1) net (earlier_place net here)))
    where
      P : ℕ → Type 0
      P n = Contains (readers_of readers n) reader

      net_is : slice_index (job c).order (position_of (job c).order net) ≡ net
      net_is =
          let all = fits.all in
          let at = fits.ordering.each net (omega (arith, all, within)) in
          net_at_position (job c).order net at.0 at.1 at.2
