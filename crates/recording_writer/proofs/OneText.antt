-- Histories that show the same have one text.
use Rattle.std.proofs.Common.{◌≡◌, ℕ, zero, suc, ◌+◌, ◌<◌, ◌≤◌, List, [], ◌∷◌, All, length, refl, ap, arith}
use Rattle.design_cell.specs.Value.{letter_of}
use Rattle.design_circuit.specs.History.{HistoryView}
use Rattle.design_circuit.specs.declared.design.Design.{Design}
use Rattle.design_circuit.specs.declared.stim.Stim.{Stim}
use Rattle.recording_binding.specs.Binding.{FitsBinding, FitsBound}
use Rattle.recording_binding.specs.declared.binding.Binding.{Binding}
use Rattle.recording_binding.specs.declared.binding.Bound.{Bound}
use Rattle.recording_writer.specs.Laws.{ShowTheSame}
use Rattle.design_circuit.specs.Settled.{last_round}
use Rattle.recording_writer.specs.Moments.{are_same, change_line, changed_lines, letter_at, letters, lines_from, moment_lines, value_line, value_lines}
use Rattle.recording_writer.specs.Text.{vcd_text}

-- Two histories have the same letters at a step for the nets below a number.
abbrev SameLetters : HistoryView → HistoryView → ℕ → ℕ → Type 0
SameLetters first second nets step = (net : ℕ) → net < nets → letter_at first step net ≡ letter_at second step net

-- Each of a list's nets is below a number.
abbrev AreBelow : ℕ → List ℕ → Type 0
AreBelow nets xs = All (λ net. net < nets) xs

module _ (first second : HistoryView) (nets : ℕ) where
  letters_same : (step : ℕ) → SameLetters first second nets step → (xs : List ℕ) → AreBelow nets xs → letters first step xs ≡ letters second step xs
  letters_same step same [] below = refl
  letters_same step same (net ∷ xs) below =
      rw (same net (below 0 0 (omega arith)), letters_same step same xs (λ k d less. below (suc k) d (omega (arith, less)))) refl

  tests_same : (step before : ℕ) → SameLetters first second nets step → SameLetters first second nets before → (xs : List ℕ) → AreBelow nets xs → are_same first step before xs ≡ are_same second step before xs
  tests_same step before now past [] below = refl
  tests_same step before now past (net ∷ xs) below =
      let low = below 0 0 (omega arith) in
      rw (now net low, past net low, tests_same step before now past xs (λ k d less. below (suc k) d (omega (arith, less)))) refl

  value_same : (step number : ℕ) (xs : List ℕ) → SameLetters first second nets step → AreBelow nets xs → value_line first step number xs ≡ value_line second step number xs
  value_same step number xs same below = rw (letters_same step same xs below) refl

  change_same : (step before number : ℕ) (xs : List ℕ) → SameLetters first second nets step → SameLetters first second nets before → AreBelow nets xs → change_line first step before number xs ≡ change_line second step before number xs
  change_same step before number xs now past below = rw (tests_same step before now past xs below, value_same step number xs now below) refl

module _ (first second : HistoryView) (design : Design) where
  -- The nets of a binding's bits are those of the design.
  values_same : (step number : ℕ) (bound : List Bound) → SameLetters first second (length design.nets) step → All (FitsBound design) bound → value_lines first step number bound ≡ value_lines second step number bound
  values_same step number [] same fit = refl
  values_same step number (b ∷ bs) same fit =
      rw (value_same first second (length design.nets) step number b.bits same (fit 0 b (omega arith)).nets, values_same step (number + 1) bs same (λ k d less. fit (suc k) d (omega (arith, less)))) refl

  changes_same : (step before number : ℕ) (bound : List Bound) → SameLetters first second (length design.nets) step → SameLetters first second (length design.nets) before → All (FitsBound design) bound → changed_lines first step before number bound ≡ changed_lines second step before number bound
  changes_same step before number [] now past fit = refl
  changes_same step before number (b ∷ bs) now past fit =
      rw (change_same first second (length design.nets) step before number b.bits now past (fit 0 b (omega arith)).nets, changes_same step before (number + 1) bs now past (λ k d less. fit (suc k) d (omega (arith, less)))) refl

  -- They have the same letters at the last round of each of so many moments.
  abbrev SameMoments : ℕ → ℕ → Type 0
  SameMoments rounds moments = (moment : ℕ) → moment < moments → SameLetters first second (length design.nets) (last_round rounds moment)

  moment_same : (rounds moments : ℕ) (bound : List Bound) → SameMoments rounds moments → All (FitsBound design) bound → (moment time : ℕ) → moment < moments → moment_lines first rounds bound moment time ≡ moment_lines second rounds bound moment time
  moment_same rounds moments bound same fit zero time less = rw (values_same (last_round rounds 0) 0 bound (same 0 less) fit) refl
  moment_same rounds moments bound same fit (suc moment) time less =
      rw (changes_same (last_round rounds (suc moment)) (last_round rounds moment) 0 bound (same (suc moment) less) (same moment (omega (arith, less))) fit) refl

  lines_same : (rounds moments : ℕ) (bound : List Bound) → SameMoments rounds moments → All (FitsBound design) bound → (moment : ℕ) (times : List ℕ) → moment + length times ≤ moments → lines_from first rounds bound moment times ≡ lines_from second rounds bound moment times
  lines_same rounds moments bound same fit moment [] few = refl
  lines_same rounds moments bound same fit moment (time ∷ times) few =
      rw (moment_same rounds moments bound same fit moment time (omega (arith, few)), lines_same rounds moments bound same fit (moment + 1) times (omega (arith, few))) refl

pub text_same : (design : Design) (binding : Binding) (stim : Stim) (first second : HistoryView) → FitsBinding design binding → ShowTheSame design stim first second → vcd_text design binding stim first ≡ vcd_text design binding stim second
unfolding vcd_text
text_same design binding stim first second fits same =
    rw (lines_same first second design stim.rounds (length stim.times) binding.bound (λ moment less net low. ap letter_of (same moment net less low)) fits.each 0 stim.times (omega arith)) refl
