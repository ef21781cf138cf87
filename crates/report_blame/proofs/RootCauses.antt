-- What is to blame for a root is to blame for its place.
use Rattle.std.proofs.Common.{◌≡◌, ◌≢◌, ℕ, ◌+◌, ◌<◌, ◌≤◌, ◌==◌, ◌||◌, Option, Bool, true, false, List, [], ◌∷◌, refl, sym, ap, ◌∙◌, subst, arith, ⊎_elim}
use Rattle.std.proofs.lemmas.Bool.{cases_eq, cases_lt, eq-eqb, ne_eqb, lt-ltb, le-ltb}
use Rattle.design_cell.specs.Value.{is_unknown}
use Rattle.design_cell.specs.declared.value.Value.{Value}
use Rattle.design_circuit.specs.declared.place.Place.{Place}
use Rattle.design_circuit.specs.declared.waveform.Mark.{Mark}
use Rattle.design_circuit.specs.declared.waveform.Mark.TheVariants.{Certain, Unknown, Undecided}
use Rattle.design_circuit.specs.declared.waveform.Written.{Written}
use Rattle.design_circuit.specs.Filling.{IsFilling, IsPlace, bit_of}
use Rattle.design_circuit.specs.Fits.{place_at}
use Rattle.design_circuit.specs.Job.{Job, number_of, places_of}
use Rattle.design_circuit.specs.Waveform.{certain, certain_by, written_at}
use Rattle.design_circuit.proofs.Exact.{empty_filling}
use Rattle.design_circuit.proofs.Numbers.{number_of_place_at}
use Rattle.std.specs.Map.{lookup}
use Rattle.std.proofs.lemmas.Bool.Decides.{Decides-eqb}
use Rattle.law_waveforms.proofs.RootBits.{root_law}
use Rattle.law_model.specs.Class.{flipped}
use Rattle.law_model.specs.Laws.{InReach}
use Rattle.law_model.specs.Line.{GivesBoth}
use Rattle.law_model.specs.Sound.{SoundBy}
use Rattle.law_model.specs.Stated.{body_at, stated, stated_by, swapped}
use Rattle.law_model.specs.declared.class.ClassByNumber.{ClassByNumber}
use Rattle.law_model.specs.declared.class.ClassByNumber.TheVariants.{Local, Free, Carried, Line}
use Rattle.law_model.specs.declared.line.Body.{Body}
use Rattle.law_model.specs.declared.line.Line.{Line as ALine}
use Rattle.law_model.specs.declared.limits.Limits.{Limits}
use Rattle.wave_proved.specs.Contents.{Contents, IsWave, IsWritten, class_in, job, shown_in}
use Rattle.wave_proved.specs.Pairs.{GiveBoth, IsRootOf, IsUnknown, root_in}
use Rattle.report_blame.specs.Joined.{IsJoined, joined_bit, stands_below, stands_from}
use Rattle.report_blame.specs.Causes.{AreFound, Follows}
use Rattle.report_blame.specs.Halves.{LeadsAcross}
use Rattle.report_blame.specs.declared.halves.Cause.{Cause}
use Rattle.report_blame.specs.ToBlame.{IsToBlame, bit_in}
use Rattle.report_blame.proofs.Joins.{are_joined}
use Rattle.report_blame.proofs.Turns.{same_bits}
use Rattle.std.proofs.Common.{◌++◌, Bor, None, Some, cond, filter}
use Rattle.std.specs.Prelude.{option_copied}

-- An unknown place has no certain value.
open_by : (mark : Mark) (value : Value) → mark ≡ Unknown → is_unknown (certain_by mark value) ≡ true
open_by Certain value is = cc
open_by Unknown value is = refl
open_by Undecided value is = refl

pub unknown_open : (written : List Written) (number : ℕ) → (written_at written number).mark ≡ Unknown
    → is_unknown (certain written number) ≡ true
unfolding certain
unknown_open written number is = open_by (written_at written number).mark (written_at written number).value is

alone : (j : Job) (place : Place) → IsPlace j place → IsFilling j (place ∷ [])
alone j place is = record { places = (is, tt); ascending = λ k less. absurd (omega arith) }

-- The filling with a place added.
pub record IsAdded (j : Job) (source : Place) (others filling : List Place) : Type 0 where
  pub is_filling : IsFilling j filling
  pub bits : (k : ℕ) → bit_of j filling k ≡ bit_of j (source ∷ others) k

added_list : Job → Place → List Place → List Place
added_list j source others =
    let n = number_of j source in
    let low = filter (stands_below j n) others ++ filter (stands_from j n) (source ∷ []) in
    filter (stands_below j (n + 1)) low ++ filter (stands_from j (n + 1)) others

added : (j : Job) (source : Place) (others : List Place) → IsPlace j source → IsFilling j others
    → IsAdded j source others (added_list j source others)
unfolding added_list
added j source others place filling =
    let n = number_of j source in
    let one = source ∷ [] in
    let low = filter (stands_below j n) others ++ filter (stands_from j n) one in
    let first = are_joined j others n one n filling (alone j source place) (omega arith) in
    let whole = are_joined j low (n + 1) others (n + 1) first.is_filling filling (omega arith) in
    record { is_filling = whole.is_filling; bits = λ k. whole.bits k ∙ each first k }
  where
    each : IsJoined j others (number_of j source) (source ∷ []) (number_of j source) (filter (stands_below j (number_of j source)) others ++ filter (stands_from j (number_of j source)) (source ∷ []))
        → (k : ℕ) → joined_bit j (filter (stands_below j (number_of j source)) others ++ filter (stands_from j (number_of j source)) (source ∷ [])) (number_of j source + 1) others (number_of j source + 1) k
        ≡ ((number_of j source == k) || bit_of j others k)
    each first k = ⊎_elim
        (λ (less : k < number_of j source). rw (lt-ltb k (number_of j source + 1) (omega arith), first.bits k, lt-ltb k (number_of j source) less, ne_eqb (number_of j source) k (λ e. omega (arith, e, less))) refl)
        (λ (more : number_of j source ≤ k). ⊎_elim
        (λ (same : number_of j source ≡ k). rw (lt-ltb k (number_of j source + 1) (omega (arith, same)), first.bits k, le-ltb k (number_of j source) more, eq-eqb (number_of j source) k same) refl)
        (λ (other : number_of j source ≡ k → ⊥). rw (le-ltb k (number_of j source + 1) (omega (arith, other, more)), ne_eqb (number_of j source) k other) refl)
        (cases_eq (number_of j source) k))
        (cases_lt k (number_of j source))

flipped_one : (i a b : Bool) → flipped i a ≡ flipped i b → a ≡ b
flipped_one false a b same = same
flipped_one true true true same = refl
flipped_one true true false same = cc
flipped_one true false true same = cc
flipped_one true false false same = refl

-- Two fillings that give a place two bits give its root two bits.
pub differ_at_root : (c : Contents) (number place : ℕ) (inverted : Bool) (f g : List Place)
    → Follows c number place inverted → IsFilling (job c) f → IsFilling (job c) g
    → bit_in c (bit_of (job c) f) number ≢ bit_in c (bit_of (job c) g) number
    → bit_in c (bit_of (job c) f) place ≢ bit_in c (bit_of (job c) g) place
differ_at_root c number place inverted f g follows f_is g_is differ same =
    differ (follows f f_is ∙ ap (flipped inverted) same ∙ sym (follows g g_is))

pub root_blames : (c : Contents) → IsWave c → (number place : ℕ) (inverted : Bool) (source : Place) (others : List Place)
    → number < places_of (job c) → place < places_of (job c) → Follows c number place inverted
    → IsToBlame c place source others → IsToBlame c number source others
root_blames c wave number place inverted source others within low follows blame =
    let j = job c in
    let more = added j source others blame.within blame.filling in
    let with = added_list j source others in
    let same_at : (k : ℕ) → k < places_of j → bit_in c (bit_of j with) k ≡ bit_in c (bit_of j (source ∷ others)) k =
    λ k less. same_bits c wave (bit_of j with) (bit_of j (source ∷ others)) k less (λ i _. more.bits i) in
    record {
      within = blame.within;
      filling = blame.filling;
      apart = blame.apart;
      differs = λ same. blame.differs (flipped_one inverted _ _
          (sym (follows others blame.filling) ∙ same ∙ sym (same_at number within) ∙ follows with more.is_filling)
          ∙ same_at place low);
    }

both_by : (j : Job) (limits : Limits) (waveform : List Written) (lines : List ALine) (place : ℕ) (mark : Mark) (value : Value)
    → mark ≡ Unknown → SoundBy j limits waveform lines place mark value
    → GivesBoth j waveform place (stated j (certain waveform) lines place)
both_by j limits waveform lines place Certain value is sound = cc
both_by j limits waveform lines place Unknown value is sound = sound
both_by j limits waveform lines place Undecided value is sound = cc

free_at : (c : Contents) (number : ℕ) (at : ℕ) (class : ClassByNumber) (inverted : Bool) (body : Option Body)
    → (class ≡ Line → ⊥) → GivesBoth (job c) c.written number (swapped inverted (stated_by (job c) class body at))
    → bit_in c (bit_of (job c) []) number ≢ bit_in c (bit_of (job c) (place_at (job c) at ∷ [])) number
free_at c number at (Local bit) false body other both same = (let e = sym both.gives_zero ∙ both.gives_one in cc)
free_at c number at (Local bit) true body other both same = (let e = sym both.gives_zero ∙ both.gives_one in cc)
free_at c number at Free false body other both same = (let e = sym both.gives_zero ∙ same ∙ both.gives_one in cc)
free_at c number at Free true body other both same = (let e = sym both.gives_zero ∙ sym same ∙ both.gives_one in cc)
free_at c number at (Carried from flips) false body other both same =
    (let e = sym both.gives_zero ∙ both.gives_one in cc)
free_at c number at (Carried from flips) true body other both same =
    (let e = sym both.gives_zero ∙ both.gives_one in cc)
free_at c number at Line inverted body other both same = other refl

module _ (c : Contents) (wave : IsWave c) (place : Place) (root : Place × Bool) (written : IsWritten c place)
    (is : IsRootOf c place root) where
  -- In every world a place has the bit of its root, or its complement.
  pub root_follows : Follows c (number_of (job c) place) (number_of (job c) root.0) root.1
  root_follows filling filled =
      let j = job c in
      let n = number_of j place in
      let low = written.written in
      let up = wave.holds.sound.within in
      let reach : InReach j c.written n = record { written = omega (arith, low); within = omega (arith, low, up) } in
      root_law j c.limits (shown_in c) c.written c.lines wave.fits.fits_job wave.holds.sound n filling reach filled
      ∙ ap (λ (b : Bool). flipped b (bit_in c (bit_of j filling) (root_in c n).place)) (sym is.inverted)
      ∙ ap (λ (k : ℕ). flipped root.1 (bit_in c (bit_of j filling) k)) (sym is.place)

  -- What is to blame for the root is to blame for the place.
  pub root_blames_place : (source : Place) (others : List Place)
      → IsToBlame c (number_of (job c) root.0) source others → IsToBlame c (number_of (job c) place) source others
  root_blames_place source others blame =
      let up = wave.holds.sound.within in
      let low = written.written in
      let root_low = is.written.written in
      root_blames c wave (number_of (job c) place) (number_of (job c) root.0) root.1 source others
      (omega (arith, low, up)) (omega (arith, root_low, up)) root_follows blame

  -- A root that is no Line place is a free one, which alone is to blame.
  pub free_blames : IsUnknown c place → (class_in c (number_of (job c) root.0) ≡ Line → ⊥)
      → IsToBlame c (number_of (job c) place) root.0 []
  free_blames unknown other =
      let j = job c in
      let n = number_of j place in
      let fits = wave.fits.fits_job in
      let own = root_in c n in
      let up = wave.holds.sound.within in
      let root_low = is.written.written in
      let both = both_by j c.limits c.written c.lines n (written_at c.written n).mark (written_at c.written n).value unknown
      (wave.holds.sound.exact n written.written) in
      let line : class_in c own.place ≡ Line → ⊥ = subst (λ (r : ℕ). class_in c r ≡ Line → ⊥) is.place other in
      let low : own.place < places_of j =
      subst (λ (r : ℕ). r < places_of j) is.place (omega (arith, root_low, up)) in
      let same : number_of j (place_at j own.place) ≡ number_of j root.0 =
      number_of_place_at j own.place fits.ordering fits.all low ∙ sym is.place in
      record {
        within = is.written.within;
        filling = empty_filling j;
        apart = refl;
        differs = subst (λ (k : ℕ). bit_in c (bit_of j []) n ≢ bit_in c (λ i. (k == i) || false) n) same
            (free_at c n own.place (class_in c own.place) own.inverted (body_at j c.lines own.place) line both);
      }

  -- Two fillings that give the place both bits give its root two bits.
  pub pair_differs : (fillings : List Place × List Place) → GiveBoth c place fillings
      → bit_in c (bit_of (job c) fillings.0) (number_of (job c) root.0)
      ≢ bit_in c (bit_of (job c) fillings.1) (number_of (job c) root.0)
  pair_differs fillings both =
      differ_at_root c (number_of (job c) place) (number_of (job c) root.0) root.1 fillings.0 fillings.1 root_follows
      both.zero_filling both.one_filling (λ same. (let e = sym both.gives_zero ∙ same ∙ both.gives_one in cc))

  -- So they lead across there.
  pub pair_leads : (fillings : List Place × List Place) → GiveBoth c place fillings
      → LeadsAcross c (number_of (job c) root.0) fillings.0 fillings.1
  pair_leads fillings both = record {
    wave = wave;
    within = (let low = is.written.written in let up = wave.holds.sound.within in omega (arith, low, up));
    zero_filling = both.zero_filling;
    one_filling = both.one_filling;
    differ = pair_differs fillings both;
  }

-- ---- what was found

-- What stands with a number is to blame for it.
pub found_blames : (c : Contents) (entries : List (ℕ × Cause)) (number : ℕ) (cause : Cause) → AreFound c entries
    → lookup (λ (k : ℕ). number == k) entries ≡ Some cause → IsToBlame c number cause.source cause.others
found_blames c [] number cause are is = absurd cc
found_blames c (e ∷ entries) number cause are is = by (number == e.0) refl is (found_blames c entries number cause are.1)
  where
    by : (b : Bool) → (number == e.0) ≡ b → cond b (Some e.1) (lookup (λ (k : ℕ). number == k) entries) ≡ Some cause
        → (lookup (λ (k : ℕ). number == k) entries ≡ Some cause → IsToBlame c number cause.source cause.others)
        → IsToBlame c number cause.source cause.others
    by true same here rest =
        let own : e.0 ≡ number = sym ((Decides-eqb number e.0).0 same) in
        let it : e.1 ≡ cause = cc in
        subst (λ (x : Cause). IsToBlame c number x.source x.others) it
        (subst (λ (n : ℕ). IsToBlame c n e.1.source e.1.others) own are.0)
    by false other later rest = rest later

-- One more that was found.
pub found_more : (c : Contents) (entries : List (ℕ × Cause)) (number : ℕ) (cause : Cause) → AreFound c entries
    → IsToBlame c number cause.source cause.others → AreFound c (entries ++ (number, cause) ∷ [])
found_more c [] number cause are is = (is, tt)
found_more c (e ∷ entries) number cause are is = (are.0, found_more c entries number cause are.1 is)

-- Where none is found, none is there.
pub none_found : (found : Option (Bor Cause)) (there : Option Cause) → ((cause : Bor Cause) → found ≡ Some cause → ⊥)
    → option_copied found ≡ there → there ≡ None
none_found None there none is = sym is
none_found (Some cause) there none is = absurd (none cause refl)
