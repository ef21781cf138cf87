-- All certain boundary places of a certain place are a condition of it: a choice that obeys them is a world at its
-- cone.
use Rattle.std.proofs.Common.{◌≡◌, ℕ, ◌+◌, ◌<◌, not, Bool, true, false, List, [], refl, sym, ap, ◌∙◌, arith, subst, ⊎_elim}
use Rattle.std.proofs.lemmas.Bool.{cases_Bool, and_from}
use Rattle.design_cell.specs.declared.value.Value.{Value}
use Rattle.design_cell.specs.declared.value.Value.TheVariants.{Zero, One, X, Z}
use Rattle.design_cell.specs.Value.{bit_value, is_unknown}
use Rattle.design_circuit.specs.declared.waveform.Written.{Written}
use Rattle.design_circuit.specs.Job.{Job}
use Rattle.design_circuit.specs.Fits.{Fits}
use Rattle.design_circuit.specs.Rule.{arguments, rule}
use Rattle.design_circuit.specs.Waveform.{certain}
use Rattle.design_circuit.specs.World.{decided}
use Rattle.law_model.specs.Assignment.{argument_places, assigned}
use Rattle.law_model.specs.Places.{among}
use Rattle.law_model.specs.Class.{class_of, flipped}
use Rattle.law_model.specs.Root.{Root, root_of}
use Rattle.law_model.specs.Cone.{IsConsistent, cone, essentials, in_cone, is_carried, source_filling, supports, supports_by, table}
use Rattle.law_model.specs.Sound.{Sound}
use Rattle.law_model.specs.declared.class.ClassByNumber.TheVariants.{Carried}
use Rattle.law_model.specs.declared.line.Line.{Line as ALine}
use Rattle.law_model.proofs.Cones.{cone_closed, cone_reaches, cone_self, cone_within}
use Rattle.law_model.proofs.EssentialArguments.{rule_table}
use Rattle.law_model.proofs.LawProofs.{consistent_are_worlds}
use Rattle.law_model.proofs.MetClauses.{flipped_twice}
use Rattle.law_model.proofs.PlacesWhere.{among_all, among_itself, any_in, in_picked, picked_in}
use Rattle.law_model.proofs.Roots.{root_carried}
use Rattle.law_model.proofs.SoundWorlds.{certain_settles}
use Rattle.law_model.proofs.TracedCones.{cone_uncertain, sound_carries}
use Rattle.law_model.specs.declared.limits.Limits.{Limits}
use Rattle.decide_cone.specs.Boundary.{certain_boundary, reads}
use Rattle.cert_condition.specs.Condition.{Obeys}
use Rattle.cert_condition.specs.Laws.{HasCertainBit, WholeListLaw}
use Rattle.cert_condition.proofs.TurnChoices.{boundary_from, listed_from, obeyed_root, root_inside, rule_reads_places}

known_bit : (x : Value) (bit : Bool) → x ≡ bit_value bit → bit ≡ decided x bit
known_bit Zero false is = refl
known_bit Zero true is = cc
known_bit One false is = cc
known_bit One true is = refl
known_bit X false is = refl
known_bit X true is = refl
known_bit Z false is = refl
known_bit Z true is = refl

open_bit : (x : Value) (bit : Bool) → is_unknown x ≡ true → bit ≡ decided x bit
open_bit Zero bit h = cc
open_bit One bit h = cc
open_bit X bit h = refl
open_bit Z bit h = refl

module _ (j : Job) (limits : Limits) (shown : ℕ → Value) (waveform : List Written) (lines : List ALine) (fits : Fits j)
    (sound : Sound j limits shown waveform lines) (root : ℕ) (value : Bool) (has : HasCertainBit j waveform root value)
    (bits : ℕ → Bool) (obeyed : Obeys j (certain waveform) root (certain_boundary j (certain waveform) root) bits) where
  -- what a place of the cone reads and is certain is in the certain boundary
  outside : (k : ℕ) → k < root → is_unknown (certain waveform k) ≡ false
      → in_cone j (certain waveform) root k ≡ false
  outside k less known =
      ⊎_elim (λ (h : in_cone j (certain waveform) root k ≡ true).
      ⊎_elim (λ (same : root ≡ k). absurd (omega (arith, same, less)))
      (λ (under : (k < root) × (is_unknown (certain waveform k) ≡ true)).
      (let e : true ≡ false = sym under.1 ∙ known in cc))
      (cone_uncertain j fits (certain waveform) root k has.within
      (λ place from inverted low is open_. sound_carries j limits fits shown waveform lines sound place from inverted
      (let up = has.written in omega (arith, low, up)) is open_) has.free
      (cone_reaches j fits (certain waveform) root k has.within h)))
      (λ (h : in_cone j (certain waveform) root k ≡ false). h)
      (cases_Bool (in_cone j (certain waveform) root k))

  listed : (place k : ℕ) → in_cone j (certain waveform) root place ≡ true
      → is_carried (class_of j (certain waveform) place) ≡ false
      → among (argument_places j (certain waveform) place) k ≡ true → is_unknown (certain waveform k) ≡ false
      → among (certain_boundary j (certain waveform) root) k ≡ true
  listed place k inside free at known =
      let low = cone_within j fits (certain waveform) root place has.within inside in
      let less = (in_picked (among (arguments j (certain waveform) place)) place k at).0 in
      let below : k < root = omega (arith, low, less) in
      listed_from j (certain waveform) root k
      (boundary_from j (certain waveform) root k (outside k below known)
      (any_in (reads j (certain waveform) k) (cone j (certain waveform) root) place
      (picked_in (in_cone j (certain waveform) root) (root + 1) place (omega (arith, low)) inside)
      (and_from (not (is_carried (class_of j (certain waveform) place)))
      (among (argument_places j (certain waveform) place) k) (ap not free) at))) known

  -- so its rule is its table there
  read_bit : (place k : ℕ) → in_cone j (certain waveform) root place ≡ true
      → is_carried (class_of j (certain waveform) place) ≡ false
      → among (argument_places j (certain waveform) place) k ≡ true → bits k ≡ assigned (certain waveform) bits k
  read_bit place k inside free at =
      ⊎_elim (λ (h : is_unknown (certain waveform k) ≡ true). open_bit (certain waveform k) (bits k) h)
      (λ (h : is_unknown (certain waveform k) ≡ false). known_bit (certain waveform k) (bits k)
      (obeyed.given k (listed place k inside free at h)))
      (cases_Bool (is_unknown (certain waveform k)))

  table_rule : (place : ℕ) → in_cone j (certain waveform) root place ≡ true
      → is_carried (class_of j (certain waveform) place) ≡ false
      → rule j (certain waveform) bits place ≡ table j (certain waveform) place bits
  table_rule place inside free =
      let low = cone_within j fits (certain waveform) root place has.within inside in
      let up = has.within in
      rule_reads_places j fits (certain waveform) place (omega (arith, low, up)) bits (assigned (certain waveform) bits)
      (among_all (λ k. bits k ≡ assigned (certain waveform) bits k) (argument_places j (certain waveform) place)
      (λ k at. read_bit place k inside free at))
      ∙ rule_table j fits (certain waveform) place (omega (arith, low, up)) bits

  cone_bit : (place : ℕ) → in_cone j (certain waveform) root place ≡ true
      → bits place ≡ flipped (root_of j (certain waveform) place).inverted
      (bits (root_of j (certain waveform) place).place)
  cone_bit place inside =
      subst (λ (r : Root). bits place ≡ flipped r.inverted (bits r.place))
      (root_inside j (certain waveform) root place inside)
      (obeyed_root j (certain waveform) root place (certain_boundary j (certain waveform) root) bits obeyed)

  carried_bit : (place from : ℕ) (inverted : Bool) → in_cone j (certain waveform) root place ≡ true
      → class_of j (certain waveform) place ≡ Carried from inverted → bits place ≡ flipped inverted (bits from)
  carried_bit place from inverted inside is =
      let low = cone_within j fits (certain waveform) root place has.within inside in
      let up = has.within in
      let one : among (supports j (certain waveform) place) from ≡ true =
      subst (λ class. among (supports_by (essentials j (certain waveform) place) class) from ≡ true) (sym is)
      (among_itself from []) in
      let deeper = cone_closed j fits (certain waveform) root place from has.within inside one in
      cone_bit place inside
      ∙ ap (λ (r : Root). flipped r.inverted (bits r.place))
      (root_carried j fits (certain waveform) place from inverted (omega (arith, low, up)) is)
      ∙ flipped_twice inverted (root_of j (certain waveform) from).inverted
      (bits (root_of j (certain waveform) from).place)
      ∙ ap (flipped inverted) (sym (cone_bit from deeper))

  consistent : IsConsistent j (certain waveform) root bits
  consistent = record {
    carried = carried_bit;
    ruled = λ place bit inside free gives. obeyed.ruled place bit inside free (table_rule place inside free ∙ gives);
  }

  root_settled : bits root ≡ value
  root_settled =
      let world = consistent_are_worlds j limits shown waveform lines fits sound root bits
      (record { written = (let less = has.written in omega (arith, less)); within = has.within }) consistent in
      sym (world.world root (cone_self j fits (certain waveform) root has.within))
      ∙ certain_settles j limits shown waveform lines sound root value has.written has.has
      (source_filling j (certain waveform) root bits) world.filling

pub whole_list_law : WholeListLaw
whole_list_law j limits shown waveform lines fits sound root value has = record {
  places = λ k at. at;
  holds = λ bits obeyed. root_settled j limits shown waveform lines fits sound root value has bits obeyed;
}
