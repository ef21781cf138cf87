-- What isn't due in a moment has what it had in the moment before.
use Rattle.std.proofs.Common.{◌≡◌, ℕ, zero, suc, ◌+◌, ◌-◌, ◌*◌, ◌<◌, ◌≤◌, ◌==◌, ◌||◌, Bool, true, false, Option, None, Some, List, [], ◌∷◌, length, slice_index, slice_index_or, refl, sym, ap, ◌∙◌, arith, subst, ⊎_elim}
use Rattle.std.specs.Prelude.{Contains, All}
use Rattle.std.specs.List.{AllByRecursion, list_any}
use Rattle.std.proofs.lemmas.Bool.{cases_eq, cases_lt}
use Rattle.design_cell.specs.declared.value.Value.{Value}
use Rattle.design_circuit.specs.declared.design.Driver.{Driver}
use Rattle.design_circuit.specs.declared.design.Driver.TheVariants.{Input, Undriven, Constant, Copy, Cell, Register}
use Rattle.design_circuit.specs.Fits.{Fits}
use Rattle.design_circuit.specs.Handed.{HasPlaces, IsReplay}
use Rattle.design_circuit.specs.History.{HasPlace, HistoryView, net_place}
use Rattle.design_circuit.specs.Job.{Job, at}
use Rattle.design_circuit.specs.Order.{net_pins}
use Rattle.design_circuit.specs.Register.{pins_at}
use Rattle.design_circuit.specs.Replay.{Held, kept_at, shown_at}
use Rattle.design_circuit.specs.Row.{AreWritten}
use Rattle.design_circuit.specs.Settled.{IsSettledAt, last_round, last_step}
use Rattle.base_ledger.specs.Change.{change_position, nth_change}
use Rattle.base_ledger.specs.declared.change.Change.{Change}
use Rattle.recording_binding.specs.Bounds.{IsOf}
use Rattle.recording_binding.specs.declared.binding.Binding.{Binding}
use Rattle.recording_reader.specs.Recording.{Recording}
use Rattle.recording_moments.specs.Changed.{AreChanged}
use Rattle.replay_due.specs.Due.{GainsAll, NoneBetween, is_due}
use Rattle.replay_due.specs.Readers.{ReadersView, readers_of}
use Rattle.replay_fans.specs.Nets.{driver_on, looked_at}
use Rattle.replay_fans.specs.Readings.{AreReaders}
use Rattle.replay_fans.specs.Marks.{OnlyMore}
use Rattle.replay_fans.proofs.Positions.{looked_within}
use Rattle.replay_fans.proofs.Marking.{clear_before}
use Rattle.replay_history.specs.Fault.{HasNoFault, bound_at, no_variable}
use Rattle.replay_history.specs.Read.{shown_in}
use Rattle.replay_history.specs.Sides.{AreSides, SettlesIn, job_beside}
use Rattle.replay_history.specs.Watched.{AgreeUnlessDue, AreAtRest, AreBitsWithin, AreDueTo, AreReadersDue, AreRecordedAsBefore, AreWatchers, IsNumberDue, ShowSame, ShowSameIn}
use Rattle.replay_history.specs.declared.sides.Sides.{Sides}
use Rattle.replay_history.specs.declared.watchers.Watchers.{Watchers}
use Rattle.replay_history.proofs.Compares.{last_within, net_place as place_of_net, shown_is}
use Rattle.replay_history.proofs.Places.{has_step, shown_at_net}
use Rattle.replay_history.proofs.Quiet.{all_two, later_kept}
use Rattle.replay_history.proofs.Replays.{pins_same}
use Rattle.replay_history.proofs.Sweeps.{contained, or_true}

-- What is gained is due, and what was due still is.
pub gains_more : (old new xs : List ℕ) → GainsAll old new xs → OnlyMore old new
gains_more old new xs gains position was = gains position ∙ ap (λ (b : Bool). b || list_any (λ p. p == position) xs) was

pub gains_due : (old new xs : List ℕ) (reader : ℕ) → GainsAll old new xs → Contains xs reader → is_due new reader ≡ true
gains_due old new xs reader gains has =
    gains reader ∙ ap (λ (b : Bool). is_due old reader || b) (contained xs has.0 reader has.1 has.2) ∙ or_true (is_due old reader)

-- One change more.
pub due_more : (readers : ReadersView) (changes : List Change) (n : ℕ) (old new : List ℕ) → OnlyMore old new → AreReadersDue readers (change_position (nth_change changes n)) new → AreDueTo readers changes n old → AreDueTo readers changes (n + 1) new
due_more readers changes n old new more here due i less reader has =
    ⊎_elim (λ same. (let P : ℕ → Type 0 = λ k. AreReadersDue readers (change_position (nth_change changes k)) new in subst P (sym same) here reader has)) (λ differ. more reader (due i (omega (arith, less, differ)) reader has)) (cases_eq i n)

-- The net at a position is settled.
abbrev pub SettlesOn : Sides → ℕ → ℕ → Type 0
SettlesOn sides moment position = SettlesIn sides moment (slice_index (job_beside sides).order position) ((job_beside sides).driver (slice_index (job_beside sides).order position))

-- The last step of the moment before.
pub last_before : (rounds moment : ℕ) → 0 < rounds → 0 < moment → last_round rounds (moment - 1) ≡ moment * rounds - 1
last_before rounds zero some later = absurd (omega (arith, later))
last_before rounds (suc m) some later =
    let e : suc m - 1 ≡ m = omega arith in
    let whole : suc m * rounds ≡ m * rounds + rounds = omega arith in
    rw e (omega (arith, whole, some))

pub first_later : (rounds moment : ℕ) → 0 < rounds → 0 < moment → 0 < moment * rounds
first_later rounds zero some later = absurd (omega (arith, later))
first_later rounds (suc m) some later =
    let whole : suc m * rounds ≡ m * rounds + rounds = omega arith in
    omega (arith, whole, some)

-- Nets of which no reader is due are still.
module _ (sides : Sides) (are : AreSides sides) where
  abbrev j : Job
  j = job_beside sides

  there : (step net : ℕ) → step < j.moments * j.rounds → net < j.width → HasPlace sides.history.now (net_place step net)
  there step net less within =
      let places = are.history.places in
      let nets = places.nets in
      let room = (has_step j sides.history.now step places less).room in
      record { net = omega (arith, within, nets); step = omega (arith, within, nets, room) }

  pub written_same : (readers : ReadersView) (step : ℕ) (changes : List Change) (due : List ℕ) → step < j.moments * j.rounds → AreWritten sides.history.now step changes → AreDueTo readers changes (length changes) due → ShowSame sides readers (step - 1) step due
  written_same readers step changes due less written marked reader net within has clear =
      ap (λ (held : Held). held.shown) (written.others net (there step net less within) (λ i low same. (let P : ℕ → Type 0 = λ n. Contains (readers_of readers n) reader in
      let some : is_due due reader ≡ true = marked i low reader (subst P (sym same) has) in
      let no : true ≡ false = sym some ∙ clear in cc)))

  pub same_more : (readers : ReadersView) (earlier before step : ℕ) (old new : List ℕ) → OnlyMore old new → ShowSame sides readers earlier before old → ShowSame sides readers before step new → ShowSame sides readers earlier step new
  same_more readers earlier before step old new more first second reader net within has clear =
      second reader net within has clear ∙ first reader net within has (clear_before old new reader more clear)

  pub same_kept : (readers : ReadersView) (earlier step : ℕ) (old new : List ℕ) → OnlyMore old new → ShowSame sides readers earlier step old → ShowSame sides readers earlier step new
  same_kept readers earlier step old new more same reader net within has clear = same reader net within has (clear_before old new reader more clear)

  pub same_none : (readers : ReadersView) (step : ℕ) (due : List ℕ) → ShowSame sides readers step step due
  same_none readers step due reader net within has clear = refl

  -- The rounds of a moment, one more each time, from the last one of the moment before.
  pub rounds_none : (readers : ReadersView) (first : ℕ) (due : List ℕ) → ShowSame sides readers (first - 1) (first + 0 - 1) due
  rounds_none readers first due =
      let e : first - 1 ≡ first + 0 - 1 = omega arith in
      let P : ℕ → Type 0 = λ n. ShowSame sides readers (first - 1) n due in
      subst P e (same_none readers (first - 1) due)

  pub rounds_more : (readers : ReadersView) (first round : ℕ) (old new : List ℕ) → OnlyMore old new → ShowSame sides readers (first - 1) (first + round - 1) old → ShowSame sides readers (first + round - 1) (first + round) new → ShowSame sides readers (first - 1) (first + (round + 1) - 1) new
  rounds_more readers first round old new more before here =
      let e : first + round ≡ first + (round + 1) - 1 = omega arith in
      let P : ℕ → Type 0 = λ n. ShowSame sides readers (first - 1) n new in
      subst P e (same_more readers (first - 1) (first + round - 1) (first + round) old new more before here)

  pub rounds_all : (readers : ReadersView) (moment first round : ℕ) (due : List ℕ) → 0 < moment → first ≡ last_step j moment - (j.rounds - 1) → round ≡ j.rounds → ShowSame sides readers (first - 1) (first + round - 1) due → ShowSameIn sides readers moment due
  rounds_all readers moment first round due later first_is all same =
      let some = sides.circuit.fits.fits_job.some_round in
      let before = last_before j.rounds moment some later in
      let more = first_later j.rounds moment some later in
      let from : first - 1 ≡ last_step j (moment - 1) = omega (arith, first_is, before, some, more) in
      let to : first + round - 1 ≡ last_step j moment = omega (arith, first_is, all, some, more) in
      let P : ℕ → Type 0 = λ n. ShowSame sides readers (first - 1) n due in
      let Q : ℕ → Type 0 = λ n. ShowSame sides readers n (last_step j moment) due in
      subst Q from (subst P to same)

  -- What the history shows is what the replay shows.
  shows : (step net : ℕ) → step < j.moments * j.rounds → net < j.width → shown_at j (at j step net) ≡ shown_in sides.history.now step net
  shows step net less within =
      let fits = sides.circuit.fits.fits_job in
      sym (shown_is j sides.history.now (at j step net) are.history (place_of_net j fits step net less within)) ∙ shown_at_net j fits sides.history.now step net within

  -- A register whose nets show at a step what they show one step before is settled.
  settled_by : (step net : ℕ) (driver : Driver) → 0 < step → AllByRecursion (λ n. shown_at j (at j step n) ≡ shown_at j (at j (step - 1) n)) (looked_at driver) → IsSettledAt j step net driver
  settled_by step net Input later same = tt
  settled_by step net Undriven later same = tt
  settled_by step net (Constant bit) later same = tt
  settled_by step net (Copy argument) later same = tt
  settled_by step net (Cell table pins) later same = tt
  settled_by step net (Register latching) later same =
      let two : step + 1 - 2 ≡ step - 1 = omega arith in
      let one : step + 1 - 1 ≡ step = omega arith in
      let still : pins_at j (shown_at j) step latching.pins ≡ pins_at j (shown_at j) (step - 1) latching.pins = pins_same (λ n. shown_at j (at j step n)) (λ n. shown_at j (at j (step - 1) n)) latching.pins same in
      let back : pins_at j (shown_at j) (step + 1 - 2) latching.pins ≡ pins_at j (shown_at j) (step + 1 - 1) latching.pins = ap (λ (s : ℕ). pins_at j (shown_at j) s latching.pins) two ∙ sym still ∙ sym (ap (λ (s : ℕ). pins_at j (shown_at j) s latching.pins) one) in
      later_kept j (shown_at j) (kept_at j (at j step net)) (step + 1) latching (omega (arith, later)) back

  -- So the registers that aren't due are.
  pub at_rest : (registers : ReadersView) (moment : ℕ) (due : List ℕ) → 0 < last_step j moment → moment < j.moments → AreReaders j looked_at registers → ShowSame sides registers (last_step j moment - 1) (last_step j moment) due → AreAtRest sides moment due
  at_rest registers moment due later low readers same position within clear =
      settled_by (last_step j moment) (slice_index j.order position) (driver_on j position) later
      (all_two (λ net. net < j.width) (λ net. Contains (readers_of registers net) position) (λ net. shown_at j (at j (last_step j moment) net) ≡ shown_at j (at j (last_step j moment - 1) net)) (looked_at (driver_on j position)) each (looked_within j sides.circuit.fits.fits_job position within) (readers.has position within))
    where
      less : last_step j moment < j.moments * j.rounds
      less = last_within j sides.circuit.fits.fits_job moment low

      each : (net : ℕ) → net < j.width → Contains (readers_of registers net) position → shown_at j (at j (last_step j moment) net) ≡ shown_at j (at j (last_step j moment - 1) net)
      each net inside has =
          shows (last_step j moment) net less inside
          ∙ same position net inside has clear
          ∙ sym (shows (last_step j moment - 1) net (omega (arith, less)) inside)

  -- A bound variable that isn't due agrees where it did in the moment before.
  pub agree_still : (binding : Binding) (watchers : Watchers) (moment : ℕ) (due : List ℕ) → AreWatchers sides binding watchers → AreBitsWithin j.width binding → All (IsOf sides.recording.now) binding.bound → moment < j.moments → ShowSameIn sides watchers.variables moment due → AreRecordedAsBefore sides.recording.now watchers.numbers.items moment due → HasNoFault j sides.recording.now binding (moment - 1) → AgreeUnlessDue sides binding moment due
  agree_still binding watchers moment due watch nets of low same recorded before number within clear bit inside =
      let b = bound_at binding number in
      let net = slice_index b.bits bit in
      let fits = sides.circuit.fits.fits_job in
      let there = nets number bit within inside in
      recorded b.variable number (of number no_variable within).known (watch.numbers number within) clear bit
      ∙ before.agrees number no_variable within bit inside
      ∙ shows (last_step j (moment - 1)) net (last_within j fits (moment - 1) (omega (arith, low))) there
      ∙ sym (same number net there (watch.bits number bit within inside) clear)
      ∙ sym (shows (last_step j moment) net (last_within j fits moment low) there)

-- A variable that isn't among those that change is recorded as before.
pub recorded_still : (recording : Recording) (numbers : List (Option ℕ)) (moment : ℕ) (changed : List ℕ) (due : List ℕ) → 0 < moment → AreChanged recording moment changed → ((k : ℕ) → k < length changed → IsNumberDue numbers (slice_index changed k) due) → AreRecordedAsBefore recording numbers moment due
recorded_still recording numbers moment changed due later are marked variable number known is clear bit =
    let P : ℕ → Type 0 = λ v. slice_index_or numbers v None ≡ Some number in
    let quiet = are.others variable known (λ k less same. (let some : is_due due number ≡ true = marked k less number (subst P (sym same) is) in let no : true ≡ false = sym some ∙ clear in cc)) in
    quiet.same bit later

pub number_more : (numbers : List (Option ℕ)) (variable : ℕ) (old new : List ℕ) → OnlyMore old new → IsNumberDue numbers variable old → IsNumberDue numbers variable new
number_more numbers variable old new more due number is = more number (due number is)

-- What holds of each number so far or of each that isn't due holds up to the next that is.
pub up_to_next : (P : ℕ → Type 0) (due : List ℕ) (count from to : ℕ) → NoneBetween due from to → ((n : ℕ) → n < count → is_due due n ≡ false → P n) → ((n : ℕ) → n < from → n < count → P n) → (n : ℕ) → n < to → n < count → P n
up_to_next P due count from to none rest so_far n less within =
    ⊎_elim (λ early. so_far n early within) (λ late. rest n within (none n late less)) (cases_lt n from)

pub up_to_more : (P : ℕ → Type 0) (count here : ℕ) → P here → ((n : ℕ) → n < here → n < count → P n) → (n : ℕ) → n < here + 1 → n < count → P n
up_to_more P count here holds so_far n less within =
    ⊎_elim (λ same. subst P (sym same) holds) (λ differ. so_far n (omega (arith, less, differ)) within) (cases_eq n here)
