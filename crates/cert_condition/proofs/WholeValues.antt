-- Whole tables by number.
use Rattle.std.proofs.Common.{◌≡◌, ℕ, ◌+◌, ◌<◌, ◌^◌, List, [], ◌∷◌, ◌++◌, length, sym, ap, ◌∙◌, arith, subst, ⊎_elim, slice_index_or, length-append}
use Rattle.std.proofs.Math.ListN.{get_or-append}
use Rattle.std.proofs.Math.Seq.{get_or-append_seam}
use Rattle.std.proofs.lemmas.Bool.{cases_eq}
use Rattle.design_cell.specs.declared.value.Value.{Value}
use Rattle.design_cell.specs.declared.value.Value.TheVariants.{X}
use Rattle.std.proofs.Common.{◌*◌}
use Rattle.design_circuit.specs.Job.{Job, number_of, places_of}
use Rattle.design_circuit.specs.Filling.{IsPlace}
use Rattle.design_circuit.specs.declared.place.Place.{Place}
use Rattle.design_circuit.proofs.Reaching.{step_small}
use Rattle.design_circuit.proofs.Rules.{position_in}
use Rattle.design_circuit.specs.Fits.{Fits}
use Rattle.design_circuit.specs.Waveform.{certain}
use Rattle.law_model.specs.Mask.{mask_of, masked}
use Rattle.law_model.proofs.AssignmentNumbers.{mask_small, masked_agrees}
use Rattle.wave_proved.specs.Contents.{Contents, IsWave, arguments_in, job, rule_in}
use Rattle.cert_condition.specs.TurnNodes.{AreFirstValues, AreWholeValues}
use Rattle.cert_condition.proofs.TurnChoices.{rule_reads_places}

pub first_none : (c : Contents) (place : ℕ) (values : List Value) → values ≡ [] → AreFirstValues c place 0 values
first_none c place values none = record {
  long = ap length none;
  are = λ number less. absurd (omega (arith, less));
}

pub first_more : (c : Contents) (place count : ℕ) (old new : List Value) (value : Value) → AreFirstValues c place count old
    → value ≡ rule_in c place count → new ≡ old ++ value ∷ [] → AreFirstValues c place (count + 1) new
first_more c place count old new value first is more = subst (AreFirstValues c place (count + 1)) (sym more) (record {
  long = length-append old (value ∷ []) ∙ (let long = first.long in omega (arith, long));
  are = λ number less. ⊎_elim
      (λ (last : number ≡ count). (let seam : slice_index_or (old ++ value ∷ []) count X ≡ value =
      subst (λ n. slice_index_or (old ++ value ∷ []) n X ≡ value) first.long (get_or-append_seam old value [] X) in
      subst (λ n. slice_index_or (old ++ value ∷ []) n X ≡ rule_in c place n) (sym last) (seam ∙ is)))
      (λ (other : number ≡ count → ⊥). get_or-append old (value ∷ []) X number
      (let long = first.long in omega (arith, long, less, other)) ∙ first.are number (omega (arith, less, other)))
      (cases_eq number count);
})

pub whole_all : (c : Contents) (place count : ℕ) (values : List Value) → IsWave c → place < places_of (job c)
    → count ≡ 2 ^ length (arguments_in c place) → AreFirstValues c place count values → AreWholeValues c place values
whole_all c place count values wave within all first = record {
  long = first.long ∙ all;
  are = λ bits. first.are (mask_of (arguments_in c place) bits)
      (let small = mask_small (arguments_in c place) bits in omega (arith, small, all))
      ∙ rule_reads_places (job c) wave.fits.fits_job (certain c.written) place within
      (masked (arguments_in c place) (mask_of (arguments_in c place) bits)) bits
      (masked_agrees (arguments_in c place) bits);
}

-- The number of a place is below the count.
pub number_within : (j : Job) → Fits j → (place : Place) → IsPlace j place → number_of j place < places_of j
number_within j fits place is =
    let room = step_small j.width place.step (j.moments * j.rounds) is.step in
    let low = position_in j fits place.net is.net in
    omega (arith, room, low)
