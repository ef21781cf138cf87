-- The way from a place to its root, and the fillings that are stated there.
use Rattle.std.proofs.Common.{◌≡◌, ℕ, ◌<◌, ◌≤◌, Bool, true, false, List, sym, refl, ap, ◌∙◌, arith, subst, length}
use Rattle.design_cell.specs.declared.value.Value.{Value}
use Rattle.design_circuit.specs.declared.place.Place.{Place}
use Rattle.design_circuit.specs.declared.waveform.Mark.{Mark}
use Rattle.design_circuit.specs.declared.waveform.Mark.TheVariants.{Certain, Unknown, Undecided}
use Rattle.design_circuit.specs.declared.waveform.Written.{Written}
use Rattle.design_circuit.specs.Job.{Job, number_of}
use Rattle.design_circuit.specs.Waveform.{certain, written_at}
use Rattle.law_model.specs.Class.{flipped}
use Rattle.law_model.specs.Cone.{is_carried}
use Rattle.law_model.specs.Line.{GivesBoth}
use Rattle.law_model.specs.Root.{Root}
use Rattle.law_model.specs.Sound.{SoundBy}
use Rattle.law_model.specs.Stated.{pair_of, stated, swapped}
use Rattle.law_model.specs.declared.class.ClassByNumber.{ClassByNumber}
use Rattle.law_model.specs.declared.class.ClassByNumber.TheVariants.{Local, Free, Carried, Line}
use Rattle.law_model.specs.declared.line.Line.{Line as ALine}
use Rattle.law_model.proofs.Roots.{carried_below, root_carried, root_own}
use Rattle.law_model.specs.declared.limits.Limits.{Limits}
use Rattle.wave_proved.specs.Contents.{Contents, IsWave, IsWritten, class_in, job}
use Rattle.wave_proved.specs.Pairs.{AreStated, GiveBoth, IsUnknown, root_in, stated_at_root, stated_in}

-- A way leads from the place of a number to one with the same root.
pub record IsWay (c : Contents) (number place : ℕ) (inverted : Bool) : Type 0 where
  pub low : place ≤ number
  pub place_is : (root_in c place).place ≡ (root_in c number).place
  pub inverted_is : flipped inverted (root_in c place).inverted ≡ (root_in c number).inverted

pub way_start : (c : Contents) (number : ℕ) → IsWay c number number false
way_start c number = record { low = omega arith; place_is = refl; inverted_is = refl }

flipped_twice : (a b bit : Bool) → flipped (flipped a b) bit ≡ flipped a (flipped b bit)
flipped_twice false b bit = refl
flipped_twice true false bit = refl
flipped_twice true true false = refl
flipped_twice true true true = refl

-- It goes on along the place that a place is carried from.
pub way_more : (c : Contents) (number place : ℕ) (inverted : Bool) (from : ℕ) (flips : Bool) → IsWave c
    → number < length c.written → IsWay c number place inverted → class_in c place ≡ Carried from flips
    → IsWay c number from (flipped inverted flips)
way_more c number place inverted from flips wave written way is =
    let up = wave.holds.sound.within in
    let low = way.low in
    let root = root_carried (job c) wave.fits.fits_job (certain c.written) place from flips (omega arith) is in
    let less = carried_below (job c) wave.fits.fits_job (certain c.written) place from flips (omega arith) is in
    record {
      low = omega (arith, less, low);
      place_is = sym (ap (λ (r : Root). r.place) root) ∙ way.place_is;
      inverted_is = flipped_twice inverted flips (root_in c from).inverted
          ∙ sym (ap (λ (r : Root). flipped inverted r.inverted) root) ∙ way.inverted_is;
    }

pub way_less : (c : Contents) (number place : ℕ) (inverted : Bool) (from : ℕ) (flips : Bool) → IsWave c
    → number < length c.written → IsWay c number place inverted → class_in c place ≡ Carried from flips → from < place
way_less c number place inverted from flips wave written way is =
    let up = wave.holds.sound.within in
    let low = way.low in
    carried_below (job c) wave.fits.fits_job (certain c.written) place from flips (omega arith) is

-- It ends at the root.
pub not_carried : (class : ClassByNumber) → ((from : ℕ) → (inverted : Bool) → class ≡ Carried from inverted → ⊥)
    → is_carried class ≡ false
not_carried (Local bit) other = refl
not_carried Free other = refl
not_carried (Carried from inverted) other = absurd (other from inverted refl)
not_carried Line other = refl

pub way_end : (c : Contents) (number place : ℕ) (inverted : Bool) → IsWay c number place inverted
    → is_carried (class_in c place) ≡ false
    → (place ≡ (root_in c number).place) × (inverted ≡ (root_in c number).inverted)
way_end c number place inverted way free =
    let own = root_own (job c) (certain c.written) place free in (
      sym (ap (λ (r : Root). r.place) own) ∙ way.place_is,
      flipped_none inverted ∙ sym (ap (λ (r : Root). flipped inverted r.inverted) own) ∙ way.inverted_is,
    )
  where
    flipped_none : (b : Bool) → b ≡ flipped b false
    flipped_none false = refl
    flipped_none true = refl

-- What is stated for a place is what is stated at its root, swapped where the way inverts.
pub stated_from : (c : Contents) (number place : ℕ) (inverted : Bool) (zero one : List Place)
    → place ≡ (root_in c number).place → inverted ≡ (root_in c number).inverted
    → pair_of zero one ≡ stated_at_root c place → swapped inverted (pair_of zero one) ≡ stated_in c number
stated_from c number place inverted zero one place_is inverted_is is =
    ap (swapped inverted) is ∙ ap (λ (p : ℕ). swapped inverted (stated_at_root c p)) place_is
    ∙ ap (λ (b : Bool). swapped b (stated_at_root c (root_in c number).place)) inverted_is

both_by : (j : Job) (limits : Limits) (waveform : List Written) (lines : List ALine) (place : ℕ) (mark : Mark) (value : Value)
    → mark ≡ Unknown → SoundBy j limits waveform lines place mark value
    → GivesBoth j waveform place (stated j (certain waveform) lines place)
both_by j limits waveform lines place Certain value is sound = cc
both_by j limits waveform lines place Unknown value is sound = sound
both_by j limits waveform lines place Undecided value is sound = cc

-- The fillings that are stated for an unknown place give both bits.
pub stated_give_both : (c : Contents) (place : Place) (fillings : List Place × List Place) → IsWave c
    → IsWritten c place → IsUnknown c place → AreStated c place fillings → GiveBoth c place fillings
stated_give_both c place fillings wave written unknown are =
    let number = number_of (job c) place in
    subst (GivesBoth (job c) c.written number) (sym are)
    (both_by (job c) c.limits c.written c.lines number (written_at c.written number).mark
    (written_at c.written number).value unknown (wave.holds.sound.exact number written.written))
