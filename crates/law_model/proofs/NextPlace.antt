-- What is known of the next place of a sound waveform, by its class.
use Rattle.std.proofs.Common.{◌≡◌, ℕ, ◌<◌, ◌≤◌, not, Bool, true, false, List, [], ◌∷◌, length, refl, sym, ap, ◌∙◌, arith, subst, Some}
use Rattle.design_cell.specs.declared.value.Value.{Value}
use Rattle.design_cell.specs.declared.value.Value.TheVariants.{Zero, One, X, Z}
use Rattle.design_cell.specs.Value.{bit_value}
use Rattle.design_circuit.specs.declared.place.Place.{Place}
use Rattle.design_circuit.specs.declared.waveform.Written.{Written}
use Rattle.design_circuit.specs.declared.waveform.Mark.{Mark}
use Rattle.design_circuit.specs.declared.waveform.Mark.TheVariants.{Certain, Unknown, Undecided}
use Rattle.design_circuit.specs.Job.{Job, number_of, places_of}
use Rattle.design_circuit.specs.Fits.{Fits, place_at}
use Rattle.design_circuit.specs.Filling.{IsFilling, bit_of}
use Rattle.design_circuit.specs.Waveform.{written_at, certain, Settles}
use Rattle.design_circuit.specs.World.{world_bit}
use Rattle.design_circuit.proofs.Numbers.{filling_at, number_of_place_at}
use Rattle.design_circuit.proofs.Exact.{empty_filling}
use Rattle.law_model.specs.Class.{class_of, flipped, class_in, classes}
use Rattle.law_model.specs.Root.{Root, root_of}
use Rattle.law_model.specs.Stated.{Stated, swapped, stated_by, stated_in, stated, body_at}
use Rattle.law_model.specs.Line.{GivesBoth, IsLicence, BodyHolds, BodyGives}
use Rattle.law_model.specs.Yields.{carried_of, line_of, written_by}
use Rattle.law_model.specs.Sound.{HasLicence, SoundBy, Sound}
use Rattle.law_model.specs.declared.class.ClassByNumber.{ClassByNumber}
use Rattle.law_model.specs.declared.class.ClassByNumber.TheVariants.{Local, Free, Carried, Line}
use Rattle.law_model.specs.declared.line.Line.{Line as ALine}
use Rattle.law_model.specs.declared.line.Body.{Body}
use Rattle.law_model.specs.declared.line.Body.TheVariants.{Enumerated, Refuted, Pair, Undecided as Budget}
use Rattle.law_model.proofs.BodyGives.{body_gives}
use Rattle.law_model.proofs.SoundWorlds.{next_world}
use Rattle.law_model.proofs.LinesByPlace.{eqb_same}
use Rattle.law_model.proofs.CarryLaw.{local_world, free_world, carry}
use Rattle.law_model.proofs.Classes.{ClassSays, class_says, class_rule}
use Rattle.law_model.proofs.FactsBefore.{stated_moved}
use Rattle.law_model.proofs.Roots.{root_free, root_line, root_carried, root_within, carried_below, swapped_twice}
use Rattle.law_model.specs.declared.limits.Limits.{Limits}

sound_bit : (j : Job) (limits : Limits) (waveform : List Written) (lines : List ALine) (place : ℕ) (bit : Bool)
    → Settles j waveform place bit → SoundBy j limits waveform lines place Certain (bit_value bit)
sound_bit j limits waveform lines place false settles = settles
sound_bit j limits waveform lines place true settles = settles

says_at : (j : Job) (c : ℕ → Value) (place : ℕ) (class : ClassByNumber) → class_of j c place ≡ class
    → ClassSays j c (class_in (classes j c place)) place class
says_at j c place class is = subst (ClassSays j c (class_in (classes j c place)) place)
    (sym (class_rule j c place) ∙ is) (class_says j c (class_in (classes j c place)) place)

-- A local place.
local_next : (j : Job) (limits : Limits) → Fits j → (shown : ℕ → Value) (waveform : List Written) (lines more : List ALine)
    → Sound j limits shown waveform lines → length waveform < places_of j → (bit : Bool)
    → class_of j (certain waveform) (length waveform) ≡ Local bit
    → SoundBy j limits waveform more (length waveform) Certain (bit_value bit)
local_next j limits fits shown waveform lines more sound within bit is =
    sound_bit j limits waveform more (length waveform) bit
    (λ filling filled. local_world j fits (certain waveform) (bit_of j filling)
    (world_bit j (certain waveform) (bit_of j filling)) (length waveform) bit
    (next_world j limits fits shown waveform lines sound within filling filled)
    (says_at j (certain waveform) (length waveform) (Local bit) is))

-- A place that is its own root.
stated_self : (j : Job) (c : ℕ → Value) (lines : List ALine) (place : ℕ) (class : ClassByNumber)
    → class_of j c place ≡ class → root_of j c place ≡ record { place = place; inverted = false }
    → stated j c lines place ≡ stated_by j class (body_at j lines place) place
stated_self j c lines place class is root =
    ap (λ (r : Root). swapped r.inverted (stated_by j (class_of j c r.place) (body_at j lines r.place) r.place)) root
    ∙ ap (λ class. stated_by j class (body_at j lines place) place) is

-- A free place.
free_next : (j : Job) (limits : Limits) → Fits j → (shown : ℕ → Value) (waveform : List Written) (lines more : List ALine)
    → Sound j limits shown waveform lines → length waveform < places_of j
    → class_of j (certain waveform) (length waveform) ≡ Free
    → GivesBoth j waveform (length waveform) (stated j (certain waveform) more (length waveform))
free_next j limits fits shown waveform lines more sound within is =
    subst (GivesBoth j waveform n) (sym here) (record {
      zero_filling = empty_filling j;
      one_filling = filling_at j (n ∷ []) fits.ordering fits.all (within, tt) (λ k less. absurd (omega arith));
      gives_zero = gives [] (empty_filling j);
      gives_one = gives (place_at j n ∷ []) (filling_at j (n ∷ []) fits.ordering fits.all (within, tt)
          (λ k less. absurd (omega arith))) ∙ listed;
    })
  where
    n : ℕ
    n = length waveform

    c : ℕ → Value
    c = certain waveform

    here : stated j c more n ≡ record { zero = []; one = place_at j n ∷ [] }
    here = stated_self j c more n Free is (root_free j c n is)

    gives : (filling : List Place) → IsFilling j filling → world_bit j c (bit_of j filling) n ≡ bit_of j filling n
    gives filling filled = free_world j fits c (bit_of j filling) (world_bit j c (bit_of j filling)) n
        (next_world j limits fits shown waveform lines sound within filling filled) (says_at j c n Free is)

    listed : bit_of j (place_at j n ∷ []) n ≡ true
    listed = rw (eqb_same (number_of j (place_at j n)) n (number_of_place_at j n fits.ordering fits.all within)) refl

-- A carried place has the bits of the place that it is carried from.
carried_bit : (j : Job) (limits : Limits) → Fits j → (shown : ℕ → Value) (waveform : List Written) (lines : List ALine)
    → Sound j limits shown waveform lines → length waveform < places_of j → (from : ℕ) (inverted : Bool)
    → class_of j (certain waveform) (length waveform) ≡ Carried from inverted → (filling : List Place)
    → IsFilling j filling → world_bit j (certain waveform) (bit_of j filling) (length waveform) ≡ flipped inverted
    (world_bit j (certain waveform) (bit_of j filling) from)
carried_bit j limits fits shown waveform lines sound within from inverted is filling filled =
    carry j fits (certain waveform) (bit_of j filling) (world_bit j (certain waveform) (bit_of j filling))
    (length waveform) from inverted (next_world j limits fits shown waveform lines sound within filling filled) is

both_carried : (j : Job) (waveform : List Written) (place from : ℕ) (inverted : Bool) (stated : Stated)
    → ((filling : List Place) → IsFilling j filling
    → world_bit j (certain waveform) (bit_of j filling) place ≡ flipped inverted
    (world_bit j (certain waveform) (bit_of j filling) from)) → GivesBoth j waveform from stated
    → GivesBoth j waveform place (swapped inverted stated)
both_carried j waveform place from false stated law both = record {
  zero_filling = both.zero_filling;
  one_filling = both.one_filling;
  gives_zero = law stated.zero both.zero_filling ∙ both.gives_zero;
  gives_one = law stated.one both.one_filling ∙ both.gives_one;
}
both_carried j waveform place from true stated law both = record {
  zero_filling = both.one_filling;
  one_filling = both.zero_filling;
  gives_zero = law stated.one both.one_filling ∙ ap not both.gives_one;
  gives_one = law stated.zero both.zero_filling ∙ ap not both.gives_zero;
}

stated_carried : (j : Job) → Fits j → (c : ℕ → Value) (lines : List ALine) (place from : ℕ) (inverted : Bool)
    → place < places_of j → class_of j c place ≡ Carried from inverted
    → stated j c lines place ≡ swapped inverted (stated j c lines from)
stated_carried j fits c lines place from inverted within is =
    let r = root_of j c from in
    ap (λ (r : Root). swapped r.inverted (stated_by j (class_of j c r.place) (body_at j lines r.place) r.place))
    (root_carried j fits c place from inverted within is)
    ∙ swapped_twice inverted r.inverted (stated_by j (class_of j c r.place) (body_at j lines r.place) r.place)

carried_by : (j : Job) (limits : Limits) (waveform : List Written) (lines more : List ALine) (place from : ℕ)
    (inverted : Bool) (mark : Mark) (value shown : Value)
    → ((filling : List Place) → IsFilling j filling
    → world_bit j (certain waveform) (bit_of j filling) place ≡ flipped inverted
    (world_bit j (certain waveform) (bit_of j filling) from))
    → stated j (certain waveform) more place ≡ swapped inverted (stated j (certain waveform) lines from)
    → (HasLicence j limits waveform lines from → HasLicence j limits waveform more place)
    → SoundBy j limits waveform lines from mark value
    → SoundBy j limits waveform more place (carried_of inverted mark value shown).mark
    (carried_of inverted mark value shown).value
carried_by j limits waveform lines more place from inverted Certain Zero shown law same licence sound = sound_bit j limits
    waveform more place (flipped inverted false)
    (λ filling filled. law filling filled ∙ ap (flipped inverted) (sound filling filled))
carried_by j limits waveform lines more place from inverted Certain One shown law same licence sound = sound_bit j limits
    waveform more place (flipped inverted true)
    (λ filling filled. law filling filled ∙ ap (flipped inverted) (sound filling filled))
carried_by j limits waveform lines more place from inverted Certain X shown law same licence sound = absurd sound
carried_by j limits waveform lines more place from inverted Certain Z shown law same licence sound = absurd sound
carried_by j limits waveform lines more place from inverted Unknown value shown law same licence sound =
    subst (GivesBoth j waveform place) (sym same)
    (both_carried j waveform place from inverted (stated j (certain waveform) lines from) law sound)
carried_by j limits waveform lines more place from inverted Undecided value shown law same licence sound = licence sound

-- The licence of a carried place is that of the place that it is carried from.
licence_carried : (j : Job) (limits : Limits) → Fits j
    → (waveform : List Written) (lines more : List ALine) (place from : ℕ) (inverted : Bool) → place < places_of j
    → class_of j (certain waveform) place ≡ Carried from inverted
    → ((k : ℕ) → k ≤ from → body_at j more k ≡ body_at j lines k) → HasLicence j limits waveform lines from
    → HasLicence j limits waveform more place
licence_carried j limits fits waveform lines more place from inverted within is bodies licence =
    let c = certain waveform in
    let less = carried_below j fits c place from inverted within is in
    let root : (root_of j c from).place ≡ (root_of j c place).place =
    sym (ap (λ (r : Root). r.place) (root_carried j fits c place from inverted within is)) in
    let low = root_within j fits c from (omega (arith, less, within)) in
    record {
      log = licence.log;
      line = subst (λ k. body_at j more k ≡ Some (Budget licence.log)) root
          (bodies (root_of j c from).place low ∙ licence.line);
      holds = subst (λ k. IsLicence j limits waveform k licence.log) root licence.holds;
    }

-- A Line place, by its body.
line_next : (j : Job) (limits : Limits) (waveform : List Written) (more : List ALine) (place : ℕ) (body : Body)
    (shown : Value) → root_of j (certain waveform) place ≡ record { place = place; inverted = false }
    → body_at j more place ≡ Some body → stated j (certain waveform) more place ≡ stated_in (Some body)
    → BodyHolds j limits waveform place body → BodyGives j waveform place body
    → SoundBy j limits waveform more place (line_of (Some body) shown).mark (line_of (Some body) shown).value
line_next j limits waveform more place (Enumerated bit) shown root line same holds gives = sound_bit j limits waveform
    more place bit gives
line_next j limits waveform more place (Refuted bit log) shown root line same holds gives = sound_bit j limits waveform
    more place bit gives
line_next j limits waveform more place (Pair first second) shown root line same holds gives =
    subst (GivesBoth j waveform place) (sym same) gives
line_next j limits waveform more place (Budget log) shown root line same holds gives =
    let here : place ≡ (root_of j (certain waveform) place).place = sym (ap (λ (r : Root). r.place) root) in
    record {
      log = log;
      line = subst (λ k. body_at j more k ≡ Some (Budget log)) here line;
      holds = subst (λ k. IsLicence j limits waveform k log) here holds;
    }

-- The line of a place whose class is Line holds over the waveform before it.
abbrev pub LineHeld : Job → Limits → List Written → List ALine → ClassByNumber → Type 0
LineHeld j limits waveform lines (Local bit) = Unit {0}
LineHeld j limits waveform lines Free = Unit {0}
LineHeld j limits waveform lines (Carried from inverted) = Unit {0}
LineHeld j limits waveform lines Line =
    (body : Body) × (body_at j lines (length waveform) ≡ Some body) × BodyHolds j limits waveform (length waveform) body

-- The lines are the same below the next place.
abbrev pub SameBefore : Job → List Written → List ALine → List ALine → Type 0
SameBefore j waveform lines more = (k : ℕ) → k < length waveform → body_at j more k ≡ body_at j lines k

-- What is known of the next place, over the waveform before it.
pub next_exact : (j : Job) (limits : Limits) → Fits j
    → (shown : ℕ → Value) (waveform : List Written) (lines more : List ALine) → Sound j limits shown waveform lines
    → length waveform < places_of j → SameBefore j waveform lines more → (class : ClassByNumber)
    → class_of j (certain waveform) (length waveform) ≡ class → LineHeld j limits waveform more class → (s : Value)
    → SoundBy j limits waveform more (length waveform)
    (written_by (written_at waveform) class (body_at j more (length waveform)) s).mark
    (written_by (written_at waveform) class (body_at j more (length waveform)) s).value
next_exact j limits fits shown waveform lines more sound within bodies (Local bit) is line s = local_next j limits fits
    shown waveform lines more sound within bit is
next_exact j limits fits shown waveform lines more sound within bodies Free is line s = free_next j limits fits shown
    waveform lines more sound within is
next_exact j limits fits shown waveform lines more sound within bodies (Carried from inverted) is line s =
    let n = length waveform in
    let c = certain waveform in
    let less = carried_below j fits c n from inverted within is in
    let same_bodies : (k : ℕ) → k ≤ from → body_at j more k ≡ body_at j lines k = λ k low. bodies k
    (omega (arith, low, less)) in
    let same : stated j c more n ≡ swapped inverted (stated j c lines from) =
    stated_carried j fits c more n from inverted within is
    ∙ ap (swapped inverted) (stated_moved j fits c c more lines from (omega (arith, less, within)) (λ k low. refl)
    same_bodies) in
    carried_by j limits waveform lines more n from inverted (written_at waveform from).mark
    (written_at waveform from).value s (carried_bit j limits fits shown waveform lines sound within from inverted is)
    same (licence_carried j limits fits waveform lines more n from inverted within is same_bodies)
    (sound.exact from less)
next_exact j limits fits shown waveform lines more sound within bodies Line is (body, at, holds) s =
    let n = length waveform in
    let c = certain waveform in
    let same : stated j c more n ≡ stated_in (Some body) = stated_self j c more n Line is (root_line j c n is)
    ∙ ap stated_in at in
    subst (λ b. SoundBy j limits waveform more n (line_of b s).mark (line_of b s).value) (sym at)
    (line_next j limits waveform more n body s (root_line j c n is) at same holds
    (body_gives j limits fits shown waveform lines sound n (omega arith) within limits body holds))
