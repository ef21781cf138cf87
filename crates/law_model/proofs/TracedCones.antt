-- What code needs to trace a cone: how its places are reached, that they are uncertain, which arguments are
-- essential, and the values of a table.
use Rattle.std.proofs.Common.{◌≡◌, ℕ, ◌<◌, ◌^◌, ◌==◌, ◌&&◌, not, Bool, true, false, List, length, refl, sym, ap, ◌∙◌, arith, subst, inl, inr, ◌⊎◌, ⊎_elim, slice_index_or}
use Rattle.std.proofs.lemmas.Bool.{and_parts, eqb-true, or_cases}
use Rattle.design_cell.specs.declared.value.Value.{Value}
use Rattle.design_cell.specs.declared.value.Value.TheVariants.{Zero, One, X, Z}
use Rattle.design_cell.specs.Value.{is_unknown}
use Rattle.design_circuit.specs.Job.{Job, places_of}
use Rattle.design_circuit.specs.Fits.{Fits}
use Rattle.design_circuit.specs.Rule.{rule}
use Rattle.design_circuit.specs.Waveform.{written_at, certain, certain_by}
use Rattle.design_circuit.specs.declared.waveform.Written.{Written}
use Rattle.design_circuit.specs.declared.waveform.Mark.{Mark}
use Rattle.design_circuit.specs.declared.waveform.Mark.TheVariants.{Certain, Unknown, Undecided}
use Rattle.law_model.specs.Places.{among}
use Rattle.law_model.specs.Assignment.{assigned}
use Rattle.law_model.specs.Class.{class_of}
use Rattle.law_model.specs.Cone.{is_carried, is_essential, essentials, supports_by, supports, Reaches, itself, further, table}
use Rattle.law_model.specs.Sound.{FollowsCarrier, FollowsClass, SoundBy, Sound}
use Rattle.law_model.specs.Mask.{masked, mask_of}
use Rattle.law_model.specs.declared.class.ClassByNumber.{ClassByNumber}
use Rattle.law_model.specs.declared.class.ClassByNumber.TheVariants.{Local, Free, Carried, Line}
use Rattle.law_model.specs.declared.line.Line.{Line as ALine}
use Rattle.law_model.proofs.Cones.{supports_below}
use Rattle.law_model.proofs.EssentialArguments.{rule_table, table_reads}
use Rattle.law_model.proofs.AssignmentNumbers.{mask_small, masked_agrees}
use Rattle.law_model.proofs.PlacesWhere.{in_picked, all_among}
use Rattle.law_model.specs.declared.limits.Limits.{Limits}

-- A place of a cone is the root, or a support of another of its places: so marks go downwards, from each marked place
-- to its supports.
pub reached_from : (j : Job) (c : ℕ → Value) (root k : ℕ) → Reaches j c root k
    → (root ≡ k) ⊎ ((place : ℕ) × (Reaches j c root place) × (among (supports j c place) k ≡ true))
reached_from j c root _ itself = inl refl
reached_from j c root _ (further place support reaches at) = inr (place, reaches, at)

-- A carried place is uncertain only where the place that it is carried from is.
abbrev pub CarriesUncertain : Job → (ℕ → Value) → ℕ → Type 0
CarriesUncertain j c n = (k from : ℕ) (inverted : Bool) → k < n → class_of j c k ≡ Carried from inverted
    → is_unknown (c k) ≡ true → is_unknown (c from) ≡ true

essential_open : (j : Job) (c : ℕ → Value) (place k : ℕ) → among (essentials j c place) k ≡ true
    → is_unknown (c k) ≡ true
unfolding essentials
essential_open j c place k at = (and_parts (is_unknown (c k)) _ (in_picked (is_essential j c place) place k at).1).0

support_open : (j : Job) (c : ℕ → Value) (place k : ℕ) (class : ClassByNumber) → class_of j c place ≡ class
    → among (supports_by (essentials j c place) class) k ≡ true
    → ((from : ℕ) (inverted : Bool) → class_of j c place ≡ Carried from inverted → is_unknown (c from) ≡ true)
    → is_unknown (c k) ≡ true
support_open j c place k (Local bit) is at carried = essential_open j c place k at
support_open j c place k Free is at carried = essential_open j c place k at
support_open j c place k (Carried from inverted) is at carried =
    ⊎_elim (λ (e : (from == k) ≡ true). subst (λ i. is_unknown (c i) ≡ true) (eqb-true from k e)
    (carried from inverted is)) (λ (e : false ≡ true). cc) (or_cases (from == k) false at)
support_open j c place k Line is at carried = essential_open j c place k at

not_carried : {P : Type 0} → true ≡ false → P
not_carried e = cc

support_low : (j : Job) → Fits j → (c : ℕ → Value) (place support : ℕ) → place < places_of j
    → among (supports j c place) support ≡ true → support < place
support_low j fits c place support within at = all_among (λ k. k < place) (supports j c place) support
    (supports_below j fits c place within) at

both_off : (a b : Bool) → b ≡ true → a && not b ≡ false
both_off true b h = rw h refl
both_off false b h = refl

both_on : (a b : Bool) → a ≡ true → (b ≡ true → ⊥) → a && not b ≡ true
both_on a true first none = absurd (none refl)
both_on a false first none = rw first refl

-- The places of a cone other than its root are uncertain, where the root isn't carried.
pub cone_uncertain : (j : Job) → Fits j → (c : ℕ → Value) (root k : ℕ) → root < places_of j → CarriesUncertain j c root
    → is_carried (class_of j c root) ≡ false → Reaches j c root k
    → (root ≡ k) ⊎ ((k < root) × (is_unknown (c k) ≡ true))
cone_uncertain j fits c root _ within carries free itself = inl refl
cone_uncertain j fits c root _ within carries free (further place support reaches at) =
    inr (⊎_elim at_root inside (cone_uncertain j fits c root place within carries free reaches))
  where
    at_root : root ≡ place → (support < root) × (is_unknown (c support) ≡ true)
    at_root same = (
      subst (λ i. support < i) (sym same)
          (support_low j fits c place support (subst (λ i. i < places_of j) same within) at),
      support_open j c place
          support (class_of j c place) refl at (λ from inverted is. not_carried
          (ap is_carried (sym is) ∙ ap (λ i. is_carried (class_of j c i)) (sym same) ∙ free)),
    )

    inside : (place < root) × (is_unknown (c place) ≡ true) → (support < root) × (is_unknown (c support) ≡ true)
    inside h = (
      (let low = support_low j fits c place support (omega (arith, h.0, within)) at in let up =
          h.0 in omega (arith, low, up)),
      support_open j c place support (class_of j c place) refl at
          (λ from inverted is. carries place from inverted h.0 is h.1),
    )

-- In a sound waveform no certain place has x, so a carried place is uncertain only where its source is.
sound_open : (j : Job) (limits : Limits) (waveform : List Written) (lines : List ALine) (place : ℕ) (mark : Mark)
    (value : Value) → SoundBy j limits waveform lines place mark value → is_unknown (certain_by mark value) ≡ true
    → mark ≡ Certain → ⊥
sound_open j limits waveform lines place Certain Zero sound open_ is = cc
sound_open j limits waveform lines place Certain One sound open_ is = cc
sound_open j limits waveform lines place Certain X sound open_ is = sound
sound_open j limits waveform lines place Certain Z sound open_ is = sound
sound_open j limits waveform lines place Unknown value sound open_ is = cc
sound_open j limits waveform lines place Undecided value sound open_ is = cc

mark_open : (mark : Mark) (value : Value) → (mark ≡ Certain → ⊥) → is_unknown (certain_by mark value) ≡ true
mark_open Certain value other = absurd (other refl)
mark_open Unknown value other = refl
mark_open Undecided value other = refl

pub sound_carries : (j : Job) (limits : Limits) → Fits j → (shown : ℕ → Value) (waveform : List Written) (lines : List ALine)
    → Sound j limits shown waveform lines → CarriesUncertain j (certain waveform) (length waveform)
unfolding certain
sound_carries j limits fits shown waveform lines sound k from inverted less is open_ =
    let follows : FollowsCarrier inverted (written_at waveform from) (written_at waveform k) =
    subst (λ class. FollowsClass (written_at waveform) class (written_at waveform k)) is (sound.classes k less) in
    mark_open (written_at waveform from).mark (written_at waveform from).value
    (λ e. sound_open j limits waveform lines k (written_at waveform k).mark (written_at waveform k).value
    (sound.exact k less) open_ (follows.mark ∙ e))

-- The values of a table: each number's is the rule's on the assignment of that number.
pub values_are : (j : Job) → Fits j → (c : ℕ → Value) (place : ℕ) (values : List Value) → place < places_of j
    → ((number : ℕ) → number < 2 ^ length (essentials j c place)
    → slice_index_or values number X ≡ rule j c (assigned c (masked (essentials j c place) number)) place)
    → (bits : ℕ → Bool) → slice_index_or values (mask_of (essentials j c place) bits) X ≡ table j c place bits
values_are j fits c place values within each bits =
    let all = essentials j c place in
    each (mask_of all bits) (mask_small all bits) ∙ rule_table j fits c place within (masked all (mask_of all bits))
    ∙ table_reads j c place (masked all (mask_of all bits)) bits (masked_agrees all bits)
