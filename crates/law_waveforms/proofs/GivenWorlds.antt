-- Worlds in which each place is given the bit that a function says.
use Rattle.std.proofs.Common.{◌≡◌, ℕ, ◌+◌, ◌<◌, ◌≤◌, Bool, true, false, List, length, map, refl, sym, ◌∙◌, arith, ⊎_elim}
use Rattle.std.specs.List.{AllByRecursion}
use Rattle.std.proofs.lemmas.Bool.{cases_Bool}
use Rattle.design_cell.specs.declared.value.Value.{Value}
use Rattle.design_cell.specs.Value.{bit_value}
use Rattle.design_circuit.specs.declared.place.Place.{Place}
use Rattle.design_circuit.specs.declared.waveform.Written.{Written}
use Rattle.design_circuit.specs.Filling.{IsFilling, bit_of}
use Rattle.design_circuit.specs.Fits.{Fits, place_at}
use Rattle.design_circuit.specs.Job.{Job, places_of}
use Rattle.design_circuit.specs.Waveform.{certain}
use Rattle.design_circuit.specs.World.{world_bit}
use Rattle.design_circuit.proofs.Numbers.{bit_of_at, filling_at}
use Rattle.design_circuit.proofs.Worlds.{world_bit_local, world_is}
use Rattle.law_model.specs.Cone.{source_filling}
use Rattle.law_model.specs.Places.{among, places_where}
use Rattle.law_model.specs.Sound.{Sound}
use Rattle.law_model.specs.declared.line.Line.{Line as ALine}
use Rattle.law_model.proofs.CarryLaw.{TrueWorld}
use Rattle.law_model.proofs.ConeWorlds.{source_worlds}
use Rattle.law_model.proofs.Cones.{cone_self}
use Rattle.law_model.proofs.PlacesWhere.{among_all, in_picked, picked_in, picked_rises}
use Rattle.law_model.proofs.SoundWorlds.{certain_settles, true_world}
use Rattle.law_model.proofs.SourceFillings.{source_among, source_filling_is, source_given, sources_alone}
use Rattle.law_model.specs.declared.limits.Limits.{Limits}
use Rattle.law_waveforms.specs.Sources.{CutLaw}

-- Among the places below a bound at which a function has 1 is each place with its bit.
picked_bit : (given : ℕ → Bool) (n k : ℕ) → k < n → among (places_where given n) k ≡ given k
picked_bit given n k less =
    ⊎_elim (λ (one : given k ≡ true). (picked_in given n k less one ∙ sym one))
    (λ (other : given k ≡ false). ⊎_elim (λ (h : among (places_where given n) k ≡ true).
    (let one = (in_picked given n k h).1 in let e : true ≡ false = sym one ∙ other in cc))
    (λ (h : among (places_where given n) k ≡ false). h ∙ sym other)
    (cases_Bool (among (places_where given n) k))) (cases_Bool (given k))

-- Up to a place a function is the bits of a filling, and certain places have their values in the world of every filling.
pub given_world : (j : Job) (limits : Limits) → Fits j → (shown : ℕ → Value) (waveform : List Written) (lines : List ALine)
    → Sound j limits shown waveform lines → (place : ℕ) → place ≤ length waveform → place < places_of j
    → (given : ℕ → Bool) → TrueWorld j (certain waveform) given (world_bit j (certain waveform) given) place
given_world j limits fits shown waveform lines sound place up within given = record {
  within = within;
  world = λ k low. world_is j fits c given k (omega (arith, low, within));
  exact = λ k bit less known. same k less
      ∙ certain_settles j limits shown waveform lines sound k bit (omega (arith, less, up)) known own filled;
}
  where
    c : ℕ → Value
    c = certain waveform

    numbers : List ℕ
    numbers = places_where given (place + 1)

    low_numbers : AllByRecursion (λ k. k < places_of j) numbers
    low_numbers = among_all (λ k. k < places_of j) numbers
        (λ k h. (let low = (in_picked given (place + 1) k h).0 in omega (arith, low, within)))

    own : List Place
    own = map (place_at j) numbers

    filled : IsFilling j own
    filled = filling_at j numbers fits.ordering fits.all low_numbers (picked_rises given (place + 1))

    same : (k : ℕ) → k < place → world_bit j c given k ≡ world_bit j c (bit_of j own) k
    same k less = world_bit_local j fits c c given (bit_of j own) k (omega (arith, less, within)) (λ i low. refl)
        (λ i low. sym (bit_of_at j numbers i fits.ordering fits.all low_numbers
        ∙ picked_bit given (place + 1) i (omega (arith, low, less))))

-- A certain place has its value.
pub given_certain : (j : Job) (limits : Limits) → Fits j → (shown : ℕ → Value) (waveform : List Written) (lines : List ALine)
    → Sound j limits shown waveform lines → (place : ℕ) (bit : Bool) → place < length waveform
    → certain waveform place ≡ bit_value bit → (given : ℕ → Bool) → world_bit j (certain waveform) given place ≡ bit
given_certain j limits fits shown waveform lines sound place bit less known given =
    world_bit_local j fits c c given (bit_of j own) place within (λ i low. refl)
    (λ i low. sym (bit_of_at j numbers i fits.ordering fits.all low_numbers ∙ picked_bit given (place + 1) i low))
    ∙ certain_settles j limits shown waveform lines sound place bit less known own filled
  where
    c : ℕ → Value
    c = certain waveform

    within : place < places_of j
    within = (let all = sound.within in omega (arith, all, less))

    numbers : List ℕ
    numbers = places_where given (place + 1)

    low_numbers : AllByRecursion (λ k. k < places_of j) numbers
    low_numbers = among_all (λ k. k < places_of j) numbers
        (λ k h. (let low = (in_picked given (place + 1) k h).0 in omega (arith, low, within)))

    own : List Place
    own = map (place_at j) numbers

    filled : IsFilling j own
    filled = filling_at j numbers fits.ordering fits.all low_numbers (picked_rises given (place + 1))

-- The bit of a place rests on what its sources are given.
pub given_cut : (j : Job) (limits : Limits) → Fits j → (shown : ℕ → Value) (waveform : List Written) (lines : List ALine)
    → Sound j limits shown waveform lines → (place : ℕ) → place ≤ length waveform → place < places_of j
    → (given : ℕ → Bool) → world_bit j (certain waveform) given place
    ≡ world_bit j (certain waveform) (bit_of j (source_filling j (certain waveform) place given)) place
given_cut j limits fits shown waveform lines sound place up within given =
    let c = certain waveform in
    let own = source_filling j c place given in
    source_worlds j fits c given (bit_of j own) (world_bit j c given) (world_bit j c (bit_of j own)) place place
    (given_world j limits fits shown waveform lines sound place up within given)
    (true_world j limits fits shown waveform lines sound place up within own
    (source_filling_is j fits c place given within))
    (λ i source. sym (source_given j fits c place given i within source)) (cone_self j fits c place within)

pub cut_law : CutLaw
cut_law j limits shown waveform lines fits sound given place reach = record {
  filling = source_filling_is j fits (certain waveform) place given reach.within;
  alone = λ k listed. source_among j fits (certain waveform) place k reach.within
      (sources_alone j fits (certain waveform) place given k reach.within listed);
  same = given_cut j limits fits shown waveform lines sound place reach.written reach.within given;
}
