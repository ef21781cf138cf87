-- The next place of a sound waveform, where it is quiet.
use Rattle.std.proofs.Common.{◌≡◌, ℕ, Bool, true, false, None, List, [], length, refl, sym, ap, ◌∙◌, arith, subst}
use Rattle.design_cell.specs.declared.value.Value.{Value}
use Rattle.design_cell.specs.Value.{IsKnown, bit_value}
use Rattle.design_circuit.specs.declared.waveform.Mark.{Mark}
use Rattle.design_circuit.specs.declared.waveform.Mark.TheVariants.{Certain, Unknown, Undecided}
use Rattle.design_circuit.specs.declared.waveform.Written.{Written}
use Rattle.design_circuit.specs.Job.{Job}
use Rattle.design_circuit.specs.Waveform.{certain, certain_by, written_at}
use Rattle.law_model.specs.Class.{before, class_of}
use Rattle.law_model.specs.Growth.{NextLines, NextSaid}
use Rattle.law_model.specs.Sound.{IsOptimistic}
use Rattle.law_model.specs.Yields.{carried_of, certain_bit, written_by}
use Rattle.law_model.specs.declared.class.ClassByNumber.{ClassByNumber}
use Rattle.law_model.specs.declared.class.ClassByNumber.TheVariants.{Local, Free, Carried, Line}
use Rattle.law_model.proofs.CarryLaw.{back_of}
use Rattle.law_model.specs.declared.limits.Limits.{Limits}
use Rattle.law_quiet.specs.Laws.{RepeatLaw, SaidLaw, SaysTheSame, carried_on}
use Rattle.wave_class.proofs.MovedRules.{as_it_is}
use Rattle.law_quiet.proofs.QuietClasses.{quiet_law}
use Rattle.law_quiet.proofs.QuietTests.{quiet_later}
use Rattle.law_quiet.proofs.SoundQuiet.{agrees_before}

-- What a class that says the same makes of its place.
certain_same : (mark : Mark) (value shown : Value) (bit : Bool) → certain_by mark value ≡ bit_value bit
    → certain_bit bit ≡ carried_of false mark value shown
certain_same Certain value shown bit is = ap (λ v. with_value v) (sym (as_it_is value ∙ is))
  where
    with_value : Value → Written
    with_value v = record { value = v; mark = Certain }
certain_same Unknown value shown false is = cc
certain_same Unknown value shown true is = cc
certain_same Undecided value shown false is = cc
certain_same Undecided value shown true is = cc

says_written : (shown : ℕ → Value) (j : Job) (waveform : List Written) (place : ℕ) (class : ClassByNumber)
    → SaysTheSame j (certain waveform) place class
    → written_by (written_at waveform) class None (shown place) ≡ carried_on shown j waveform place
unfolding certain
says_written shown j waveform place (Local bit) says =
    certain_same (written_at waveform (before j place)).mark (written_at waveform (before j place)).value (shown place)
    bit says
says_written shown j waveform place Free says = absurd says
says_written shown j waveform place (Carried from inverted) says = rw (says.0, says.1) refl
says_written shown j waveform place Line says = absurd says

says_lines : (j : Job) (limits : Limits) (waveform : List Written) (place : ℕ) (class : ClassByNumber)
    → SaysTheSame j (certain waveform) place class → NextLines j limits waveform [] class
says_lines j limits waveform place (Local bit) says = refl
says_lines j limits waveform place Free says = absurd says
says_lines j limits waveform place (Carried from inverted) says = refl
says_lines j limits waveform place Line says = absurd says

pub said_law : SaidLaw
said_law j limits shown waveform lines fits sound within rests =
    let n = length waveform in
    let says = quiet_law j (certain waveform) n fits within
    (agrees_before j limits shown waveform lines sound n (omega arith)) rests in
    record {
      within = within;
      lines = says_lines j limits waveform n (class_of j (certain waveform) n) says;
      as_said = sym (says_written shown j waveform n (class_of j (certain waveform) n) says);
    }

-- Where the history shows the same, that is what the place before has.
carried_same : (mark : Mark) (value shown : Value) → ((mark ≡ Certain → ⊥) → value ≡ shown)
    → record { value = value; mark = mark } ≡ carried_of false mark value shown
carried_same Certain value shown uncertain = ap (λ v. with_value v) (sym (as_it_is value))
  where
    with_value : Value → Written
    with_value v = record { value = v; mark = Certain }
carried_same Unknown value shown uncertain = let same = uncertain (λ e. cc) in rw same refl
carried_same Undecided value shown uncertain = let same = uncertain (λ e. cc) in rw same refl

honest_same : (mark : Mark) (value shown : Value) → (IsKnown shown → value ≡ shown)
    → (mark ≡ Unknown → IsKnown shown → ⊥) → IsOptimistic mark value shown → ⊥
honest_same Certain value shown known none optimistic = optimistic.1 (known optimistic.0)
honest_same Unknown value shown known none optimistic = none refl optimistic
honest_same Undecided value shown known none optimistic = optimistic

pub repeat_law : RepeatLaw
repeat_law j limits shown waveform lines fits sound within rests same =
    let n = length waveform in
    let back = before j n in
    let less = back_of j fits n within (quiet_later j (certain waveform) (class_of j (certain waveform)) n rests) in
    let w = written_at waveform back in
    let said = said_law j limits shown waveform lines fits sound within rests in
    let here : written_at waveform back ≡ carried_on shown j waveform n = carried_same w.mark w.value (shown n)
    (λ uncertain. sound.shows.uncertain back less uncertain ∙ sym same) in
    record {
      said = subst (λ x. NextSaid j limits shown waveform x []) (sym here) said;
      honest = subst (λ v. IsOptimistic w.mark w.value v → ⊥) (sym same) (honest_same w.mark w.value (shown back)
          (sound.shows.known back less) (sound.shows.open_ back less));
    }
