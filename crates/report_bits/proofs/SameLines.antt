-- Bits of which the same is told as in the moment before have no line of a change.
use Rattle.std.proofs.Common.{◌≡◌, ℕ, ◌-◌, ◌<◌, ◌==◌, Bool, true, false, List, [], slice_index, refl, ap, ◌∙◌, arith}
use Rattle.std.specs.Prelude.{◌&&◌, bytes_eq, if◌then◌else◌}
use Rattle.std.proofs.lemmas.Bool.{eq-eqb, ne_eqb}
use Rattle.design_cell.specs.declared.value.Value.{Value}
use Rattle.design_cell.specs.declared.value.Value.TheVariants.{Zero, One, X, Z}
use Rattle.design_cell.specs.Value.{letter_of}
use Rattle.design_circuit.specs.Settled.{last_step}
use Rattle.design_circuit.specs.declared.place.Place.{Place}
use Rattle.design_circuit.specs.declared.waveform.Mark.{Mark}
use Rattle.design_circuit.specs.declared.waveform.Mark.TheVariants.{Certain, Unknown, Undecided}
use Rattle.design_circuit.specs.declared.waveform.Written.{Written}
use Rattle.replay_fans.specs.Marks.{OnlyMore}
use Rattle.replay_fans.proofs.Marking.{clear_before}
use Rattle.report_bits.specs.Bits.{is_told_again, is_told_anew, place_in, recorded_in, result_of, told_bit}
use Rattle.report_bits.specs.Marked.{IsToldSame, QuietUnlessDue, SameUnlessDue, ShownUnlessDue, WrittenUnlessDue, bit_of}
use Rattle.report_bits.specs.declared.lines.ReportLines.TheVariants as named
use Rattle.wave_proved.specs.Contents.{Contents, job, written_of}

abbrev are_same : Value → Written → Value → Written → Bool
are_same value written other there =
    letter_of value == letter_of other
    && bytes_eq (result_of written.mark written.value) (result_of there.mark there.value)

same_result : (mark : Mark) (value : Value) → bytes_eq (result_of mark value) (result_of mark value) ≡ true
same_result Certain Zero = refl
same_result Certain One = refl
same_result Certain X = refl
same_result Certain Z = refl
same_result Unknown value = refl
same_result Undecided value = refl

same_self : (value : Value) (written : Written) → are_same value written value written ≡ true
same_self value written =
    rw (eq-eqb (letter_of value) (letter_of value) refl, same_result written.mark written.value) refl

told_again : (c : Contents) (place other : Place) → recorded_in c place ≡ recorded_in c other
    → written_of c place ≡ written_of c other → is_told_again c place other ≡ true
told_again c place other recorded written =
    ap (λ (v : Value). are_same v (written_of c place) (recorded_in c other) (written_of c other)) recorded
    ∙ ap (λ (w : Written). are_same (recorded_in c other) w (recorded_in c other) (written_of c other)) written
    ∙ same_self (recorded_in c other) (written_of c other)

untold : (c : Contents) (moment net : ℕ) → 0 < moment
    → IsToldSame c (last_step (job c) (moment - 1)) (last_step (job c) moment) net
    → is_told_anew c (bit_of moment net) ≡ false
untold c moment net later same =
    let first : (moment == 0) ≡ false = ne_eqb moment 0 (λ is. omega (arith, later, is)) in
    let again = told_again c (place_in c moment net) (place_in c (moment - 1) net) same.recorded same.written in
    rw (first, again) refl

no_line : (told : Bool) (line : List ℕ) → told ≡ false → (if told then line else []) ≡ []
no_line told line clear = ap (λ (b : Bool). if b then line else []) clear

-- Where each bit that isn't due has what it has in the moment before, none of these has a line.
pub quiet_same : (c : Contents) (moment : ℕ) (nets due : List ℕ) → 0 < moment
    → SameUnlessDue c nets (last_step (job c) (moment - 1)) (last_step (job c) moment) due
    → QuietUnlessDue c named.Changes moment nets due
quiet_same c moment nets due later same number within clear =
    let net = slice_index nets number in
    no_line (is_told_anew c (bit_of moment net)) (told_bit c (bit_of moment net))
    (untold c moment net later (same number within clear))

-- ---- from step to step

pub same_none : (c : Contents) (nets : List ℕ) (step : ℕ) (due : List ℕ) → SameUnlessDue c nets step step due
same_none c nets step due number within clear = record { recorded = refl; written = refl }

pub same_step : (c : Contents) (nets : List ℕ) (step : ℕ) (old new : List ℕ) → OnlyMore old new
    → WrittenUnlessDue c nets step old → ShownUnlessDue c nets step new → SameUnlessDue c nets (step - 1) step new
same_step c nets step old new more written shown number within clear = record {
  recorded = shown number within clear;
  written = written number within (clear_before old new number more clear);
}

pub same_more : (c : Contents) (nets : List ℕ) (earlier before step : ℕ) (old new : List ℕ) → OnlyMore old new
    → SameUnlessDue c nets earlier before old → SameUnlessDue c nets before step new
    → SameUnlessDue c nets earlier step new
same_more c nets earlier before step old new more first second number within clear =
    let was = first number within (clear_before old new number more clear) in
    let now = second number within clear in
    record { recorded = now.recorded ∙ was.recorded; written = now.written ∙ was.written }
