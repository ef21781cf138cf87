-- Variables that aren't due show what they showed, so they have no line.
use Rattle.std.proofs.Common.{◌≡◌, ℕ, zero, suc, ◌+◌, ◌-◌, ◌<◌, ◌≤◌, ◌==◌, true, false, List, [], ◌∷◌, ◌++◌, All, length, drop, slice_index, slice_index_or, refl, sym, ap, ◌∙◌, arith, subst, append_assoc, below_more, ⊎_elim}
use Rattle.std.specs.Prelude.{Contains}
use Rattle.std.proofs.lemmas.Bool.{cases_lt, eq-eqb}
use Rattle.std.proofs.lemmas.List.{drop_all, get_or_default}
use Rattle.design_cell.specs.Value.{letter_of}
use Rattle.design_circuit.specs.History.{HistoryView}
use Rattle.design_circuit.specs.Replay.{Held}
use Rattle.design_circuit.specs.Row.{AreWritten}
use Rattle.design_circuit.specs.Settled.{last_round}
use Rattle.base_ledger.specs.Change.{change_position, nth_change}
use Rattle.base_ledger.specs.declared.change.Change.{Change}
use Rattle.recording_binding.specs.declared.binding.Binding.{Binding}
use Rattle.recording_binding.specs.declared.binding.Bound.{Bound}
use Rattle.replay_fans.specs.Marks.{OnlyMore}
use Rattle.replay_fans.proofs.Marking.{clear_before}
use Rattle.replay_history.proofs.Watching.{last_before}
use Rattle.replay_history.specs.Fault.{bound_at, no_variable}
use Rattle.replay_history.specs.Watched.{AreDueTo}
use Rattle.replay_due.specs.Due.{NoneBetween, is_due}
use Rattle.replay_due.specs.Readers.{ReadersView, readers_of}
use Rattle.recording_writer.specs.Moments.{are_same, change_line, changed_lines, letter_at, moment_lines, time_line}
use Rattle.recording_writer.specs.Readers.{AreReadersOf, KeepLetters, KeepLettersIn, SameUnlessDue}
use Rattle.recording_writer.specs.Steps.{HasBits, HasMoments, HasStep}
use Rattle.recording_writer.specs.declared.readers.BitReaders.{BitReaders}
use Rattle.recording_writer.proofs.Grown.{rest_is}
use Rattle.recording_writer.proofs.Places.{last_within}

-- What stays from each step of a moment's rounds to the next stays over all of them.
rounds_same : (f : ℕ → ℕ) (first rounds : ℕ) → ((round : ℕ) → round < rounds → f (first + round) ≡ f (first + round - 1)) → f (first + rounds - 1) ≡ f (first - 1)
rounds_same f first zero each =
    let none : first + 0 - 1 ≡ first - 1 = omega arith in
    ap f none
rounds_same f first (suc n) each =
    let last : first + suc n - 1 ≡ first + n = omega arith in
    ap f last ∙ each n (omega arith) ∙ rounds_same f first n (λ round less. each round (omega (arith, less)))

-- A net that isn't written has the letter that it had.
pub written_kept : (history : HistoryView) (readers : ReadersView) (step : ℕ) (changes : List Change) (due : List ℕ) → HasStep history step → AreWritten history step changes → AreDueTo readers changes (length changes) due → KeepLetters history readers (step - 1) step due
written_kept history readers step changes due has written marked reader net within contains clear =
    ap (λ (held : Held). letter_of held.shown) (written.others net (has.places net within) unwritten)
  where
    unwritten : (i : ℕ) → i < length changes → change_position (nth_change changes i) ≡ net → ⊥
    unwritten i low same =
        let P : ℕ → Type 0 = λ n. Contains (readers_of readers n) reader in
        let some : is_due due reader ≡ true = marked i low reader (subst P (sym same) contains) in
        let no : true ≡ false = sym some ∙ clear in cc

-- The rounds from a step on, one more each time.
pub rounds_more : (history : HistoryView) (readers : ReadersView) (first round : ℕ) (old new : List ℕ) → OnlyMore old new → ((r : ℕ) → r < round → KeepLetters history readers (first + r - 1) (first + r) old) → KeepLetters history readers (first + round - 1) (first + round) new → (r : ℕ) → r < round + 1 → KeepLetters history readers (first + r - 1) (first + r) new
rounds_more history readers first round old new more before here =
    let P : ℕ → Type 0 = λ r. KeepLetters history readers (first + r - 1) (first + r) new in
    below_more P round (λ r less reader net within contains clear. before r less reader net within contains (clear_before old new reader more clear)) here

pub rounds_all : (history : HistoryView) (readers : ReadersView) (rounds moment first : ℕ) (due : List ℕ) → 0 < rounds → 0 < moment → first ≡ last_round rounds moment - (rounds - 1) → ((r : ℕ) → r < rounds → KeepLetters history readers (first + r - 1) (first + r) due) → KeepLettersIn history readers rounds moment due
rounds_all history readers rounds moment first due some later first_is each reader net within contains clear =
    let before = last_before rounds moment some later in
    let from : first - 1 ≡ last_round rounds (moment - 1) = omega (arith, first_is, before, some) in
    let to : first + rounds - 1 ≡ last_round rounds moment = omega (arith, first_is, some) in
    let f : ℕ → ℕ = λ step. letter_at history step net in
    sym (ap f to) ∙ rounds_same f first rounds (λ r less. each r less reader net within contains clear) ∙ ap f from

-- The steps of a moment's rounds are there.
pub round_step : (history : HistoryView) (moments rounds moment first round : ℕ) → HasMoments history moments rounds → 0 < rounds → moment < moments → first ≡ last_round rounds moment - (rounds - 1) → round < rounds → HasStep history (first + round)
round_step history moments rounds moment first round has some less first_is low =
    let last = last_within moments rounds moment some less in
    has.steps (first + round) (omega (arith, last, first_is, low, some))

-- Nets that keep their letters show the same.
all_letters : (history : HistoryView) (step before : ℕ) (nets : List ℕ) → ((bit : ℕ) → bit < length nets → letter_at history step (slice_index nets bit) ≡ letter_at history before (slice_index nets bit)) → are_same history step before nets ≡ true
all_letters history step before [] each = refl
all_letters history step before (net ∷ nets) each =
    let here : (letter_at history step net == letter_at history before net) ≡ true = eq-eqb (letter_at history step net) (letter_at history before net) (each zero (omega arith)) in
    rw (here, all_letters history step before nets (λ bit less. each (suc bit) (omega (arith, less)))) refl

-- So do variables that aren't due.
pub same_unless_due : (history : HistoryView) (binding : Binding) (readers : BitReaders) (rounds moment : ℕ) (due : List ℕ) → All (HasBits history) binding.bound → AreReadersOf history.nets binding readers → KeepLettersIn history readers.table rounds moment due → SameUnlessDue history binding.bound (last_round rounds moment) (last_round rounds (moment - 1)) due
same_unless_due history binding readers rounds moment due has are kept number within clear =
    let bits = (bound_at binding number).bits in
    all_letters history (last_round rounds moment) (last_round rounds (moment - 1)) bits
    (λ bit inside. kept number (slice_index bits bit) ((has number no_variable within).all bit 0 inside) (are.bits number bit within inside) clear)

module _ (history : HistoryView) (step before : ℕ) (bound : List Bound) where
  -- the lines of the variables from one on
  abbrev lines_of : ℕ → List ℕ
  lines_of number = changed_lines history step before number (drop number bound)

  abbrev IsSame : ℕ → Type 0
  IsSame number = are_same history step before (slice_index_or bound number no_variable).bits ≡ true

  pub lines_past : (number : ℕ) → length bound ≤ number → lines_of number ≡ []
  lines_past number past =
      let none : drop number bound ≡ [] = drop_all number bound past in
      rw none refl

  no_line : (number : ℕ) → number < length bound → IsSame number → lines_of number ≡ lines_of (number + 1)
  no_line number within same =
      let b = slice_index_or bound number no_variable in
      let none : change_line history step before number b.bits ≡ [] = rw same refl in
      ap (changed_lines history step before number) (rest_is bound number b within (get_or_default bound number no_variable b within))
      ∙ ap (λ (lines : List ℕ). lines ++ lines_of (number + 1)) none

  pass : (number : ℕ) → (number < length bound → IsSame number) → lines_of number ≡ lines_of (number + 1)
  pass number same =
      ⊎_elim (λ within. no_line number within (same within)) (λ past. lines_past number past ∙ sym (lines_past (number + 1) (omega (arith, past)))) (cases_lt number (length bound))

  skip : (count from : ℕ) → ((n : ℕ) → from ≤ n → n < count + from → n < length bound → IsSame n) → lines_of from ≡ lines_of (count + from)
  skip zero from same =
      let none : from ≡ 0 + from = omega arith in
      ap lines_of none
  skip (suc count) from same =
      let next : count + (from + 1) ≡ suc count + from = omega arith in
      pass from (λ within. same from (omega arith) (omega arith) within)
      ∙ skip count (from + 1) (λ n low high within. same n (omega (arith, low)) (omega (arith, high)) within)
      ∙ ap lines_of next

  -- Up to the next one that is due there is no line.
  pub to_next : (due : List ℕ) (from to : ℕ) → SameUnlessDue history bound step before due → from ≤ to → NoneBetween due from to → lines_of from ≡ lines_of to
  to_next due from to same forward none =
      let whole : (to - from) + from ≡ to = omega (arith, forward) in
      skip (to - from) from (λ n low high within. same n within (none n low (omega (arith, high, forward)))) ∙ ap lines_of whole

-- A later moment has the lines of what changed.
later_lines : (history : HistoryView) (rounds : ℕ) (bound : List Bound) (moment time : ℕ) → 0 < moment → moment_lines history rounds bound moment time ≡ time_line time ++ changed_lines history (last_round rounds moment) (last_round rounds (moment - 1)) 0 bound
later_lines history rounds bound zero time later = absurd (omega (arith, later))
later_lines history rounds bound (suc m) time later =
    let before : suc m - 1 ≡ m = omega arith in
    rw before refl

pub marked_lines : (history : HistoryView) (rounds : ℕ) (bound : List Bound) (moment time : ℕ) (text timed : List ℕ) → 0 < moment → timed ≡ text ++ time_line time → timed ++ changed_lines history (last_round rounds moment) (last_round rounds (moment - 1)) 0 bound ≡ text ++ moment_lines history rounds bound moment time
marked_lines history rounds bound moment time text timed later put =
    let lines = changed_lines history (last_round rounds moment) (last_round rounds (moment - 1)) 0 bound in
    ap (λ (t : List ℕ). t ++ lines) put
    ∙ append_assoc text (time_line time) lines
    ∙ ap (λ (all : List ℕ). text ++ all) (sym (later_lines history rounds bound moment time later))
