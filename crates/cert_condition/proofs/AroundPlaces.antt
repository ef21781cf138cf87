-- The places of a cone and of its boundary, and the bodies of their nodes.
use Rattle.std.proofs.Common.{◌≡◌, ℕ, ◌+◌, ◌<◌, ◌≤◌, ◌^◌, Bool, true, false, List, [], ◌∷◌, length, map, refl, sym, ap, ◌∙◌, arith, subst, ⊎_elim, inl, inr, slice_index}
use Rattle.std.specs.List.{AllByRecursion}
use Rattle.std.specs.List.Sorted.{IsStrictlyIncreasing}
use Rattle.std.proofs.lemmas.Bool.{cases_Bool, cases_eq, cases_lt}
use Rattle.std.proofs.lemmas.List.{length-map}
use Rattle.std.proofs.lemmas.List.Kept.{AllPairs-from_increasing}
use Rattle.design_cell.specs.declared.value.Value.{Value}
use Rattle.design_cell.specs.declared.value.Value.TheVariants.{X}
use Rattle.design_circuit.specs.Fits.{Fits, place_at}
use Rattle.design_circuit.specs.Job.{number_of}
use Rattle.design_circuit.specs.Rule.{arguments}
use Rattle.design_circuit.specs.Waveform.{certain}
use Rattle.design_circuit.proofs.Numbers.{is_place_at, number_of_place_at}
use Rattle.law_model.specs.Cone.{essentials, in_cone, is_carried, supports_by}
use Rattle.law_model.specs.Laws.{InReach}
use Rattle.law_model.specs.Places.{among}
use Rattle.law_model.specs.declared.class.ClassByNumber.TheVariants as class
use Rattle.law_model.proofs.Cones.{cone_closed}
use Rattle.law_model.proofs.PlacesWhere.{among_all, among_itself, in_picked, or_left, picked_in, picked_rises}
use Rattle.law_model.proofs.Roots.{carried_below}
use Rattle.wave_proved.specs.Contents.{Contents, IsReached, arguments_in, class_in, job}
use Rattle.decide_cone.specs.Boundary.{is_boundary, is_near}
use Rattle.decide_nodes.specs.declared.node.NodeBody.{NodeBody as Body}
use Rattle.decide_nodes.specs.declared.node.NodeBody.TheVariants.{Carried, Rule}
use Rattle.cert_condition.specs.TurnNodes.{AreAround, AreWholeValues, IsBodyFor}
use Rattle.cert_condition.proofs.TurnChoices.{argument_near}

-- A lesser number of a list that ascends stands earlier.
pub earlier : (xs : List ℕ) (p q : ℕ) → IsStrictlyIncreasing xs → p < length xs → q < length xs
    → slice_index xs p < slice_index xs q → p < q
earlier xs p q rising low high less =
    ⊎_elim (λ (h : p < q). h) (λ (h : q ≤ p).
    ⊎_elim (λ (same : p ≡ q). absurd (let e = ap (slice_index xs) same in omega (arith, less, e)))
    (λ (other : p ≡ q → ⊥). absurd (let up = AllPairs-from_increasing xs rising q p 0 (omega (arith, h, other)) low in
    omega (arith, up, less))) (cases_eq p q)) (cases_lt p q)

all_before : (xs positions ks : List ℕ) (q place : ℕ) → IsStrictlyIncreasing xs → q < length xs
    → slice_index xs q ≡ place → AllByRecursion (λ p. p < length xs) positions
    → map (slice_index xs) positions ≡ ks → AllByRecursion (λ k. k < place) ks
    → AllByRecursion (λ p. p < q) positions
all_before xs [] ks q place rising less at within are low = tt
all_before xs (p ∷ ps) [] q place rising less at within are low = cc
all_before xs (p ∷ ps) (k ∷ ks) q place rising less at within are low =
    let first : slice_index xs p ≡ k = cc in
    let rest : map (slice_index xs) ps ≡ ks = cc in (
      earlier xs p q rising within.0 less (let up = low.0 in omega (arith, first, at, up)),
      all_before xs ps ks q place rising less at within.1 rest low.1,
    )

module _ (c : Contents) (root : ℕ) (places inside : List ℕ) (around : AreAround c root places inside) where
  fits : Fits (job c)
  fits = around.wave.fits.fits_job

  pub places_rise : IsStrictlyIncreasing places
  places_rise = subst IsStrictlyIncreasing (sym around.places_are)
      (picked_rises (is_near (job c) (certain c.written) root) (root + 1))

  pub inside_rise : IsStrictlyIncreasing inside
  inside_rise = subst IsStrictlyIncreasing (sym around.inside_are)
      (picked_rises (in_cone (job c) (certain c.written) root) (root + 1))

  pub places_few : length places ≤ 2 ^ 27
  places_few = around.few

  near_is : (k : ℕ) → among places k ≡ true
      → (k < root + 1) × (is_near (job c) (certain c.written) root k ≡ true)
  near_is k at = in_picked (is_near (job c) (certain c.written) root) (root + 1) k
      (sym (ap (λ ks. among ks k) around.places_are) ∙ at)

  pub near_reach : (k : ℕ) → among places k ≡ true → InReach (job c) c.written k
  near_reach k at =
      let low = (near_is k at).0 in
      let written = around.reach.written in
      let within = around.reach.within in
      record { written = omega (arith, low, written); within = omega (arith, low, within) }

  pub cone_is : (k : ℕ) → among inside k ≡ true
      → (k < root + 1) × (in_cone (job c) (certain c.written) root k ≡ true)
  cone_is k at = in_picked (in_cone (job c) (certain c.written) root) (root + 1) k
      (sym (ap (λ ks. among ks k) around.inside_are) ∙ at)

  pub inside_near : (k : ℕ) → among inside k ≡ true → among places k ≡ true
  inside_near k at = ap (λ ks. among ks k) around.places_are
      ∙ picked_in (is_near (job c) (certain c.written) root) (root + 1) k (cone_is k at).0
      (or_left (in_cone (job c) (certain c.written) root k) (is_boundary (job c) (certain c.written) root k)
      (cone_is k at).1)

  pub near_among : (k : ℕ) → k < root + 1 → is_near (job c) (certain c.written) root k ≡ true → among places k ≡ true
  near_among k less is = ap (λ ks. among ks k) around.places_are
      ∙ picked_in (is_near (job c) (certain c.written) root) (root + 1) k less is

  outside_is : (k : ℕ) → among places k ≡ true → among inside k ≡ false
      → in_cone (job c) (certain c.written) root k ≡ false
  outside_is k at out =
      ⊎_elim (λ (h : in_cone (job c) (certain c.written) root k ≡ true).
      (let e : true ≡ false = sym (ap (λ ks. among ks k) around.inside_are
      ∙ picked_in (in_cone (job c) (certain c.written) root) (root + 1) k (near_is k at).0 h) ∙ out in cc))
      (λ (h : in_cone (job c) (certain c.written) root k ≡ false). h)
      (cases_Bool (in_cone (job c) (certain c.written) root k))

  -- The body of a boundary place.
  pub open_for : (place : ℕ) (body : Body) → among places place ≡ true → among inside place ≡ false
      → body ≡ Rule [] (X ∷ []) → IsBodyFor c root places place body
  open_for place body at out is = subst (IsBodyFor c root places place) (sym is) (record {
    turn = inr (record { outside = outside_is place at out; none = refl; is_x = refl });
    stands = λ position less same. record { few = omega arith; before = tt; long = refl };
  })

  -- That of a carried place,
  carrier_inside : (place from : ℕ) (inverted : Bool) → among inside place ≡ true
      → class_in c place ≡ class.Carried from inverted → in_cone (job c) (certain c.written) root from ≡ true
  carrier_inside place from inverted at is =
      cone_closed (job c) fits (certain c.written) root place from around.reach.within (cone_is place at).1
      (subst (λ k. among (supports_by (essentials (job c) (certain c.written) place) k) from ≡ true) (sym is)
      (among_itself from []))

  carrier_below : (place from : ℕ) (inverted : Bool) → among inside place ≡ true
      → class_in c place ≡ class.Carried from inverted → from < place
  carrier_below place from inverted at is = carried_below (job c) fits (certain c.written) place from inverted
      (near_reach place (inside_near place at)).within is

  pub carrier_near : (place from : ℕ) (inverted : Bool) → among inside place ≡ true
      → class_in c place ≡ class.Carried from inverted → among places from ≡ true
  carrier_near place from inverted at is = near_among from
      (let low = (cone_is place at).0 in let less = carrier_below place from inverted at is in omega (arith, low, less))
      (or_left (in_cone (job c) (certain c.written) root from) (is_boundary (job c) (certain c.written) root from)
      (carrier_inside place from inverted at is))

  pub carried_for : (place from node : ℕ) (inverted : Bool) → among inside place ≡ true
      → class_in c place ≡ class.Carried from inverted → node < length places → slice_index places node ≡ from
      → IsBodyFor c root places place (Carried node inverted)
  carried_for place from node inverted at is within same = record {
    turn = record {
      inside = (cone_is place at).1;
      deeper = subst (λ k. in_cone (job c) (certain c.written) root k ≡ true) (sym same)
          (carrier_inside place from inverted at is);
      from = record {
        within = within;
        class = is ∙ ap (λ k. class.Carried k inverted) (sym same);
      };
    };
    stands = λ position less here. earlier places node position places_rise within less
        (let low = carrier_below place from inverted at is in omega (arith, same, here, low));
  }

  -- and that of any other place of the cone.
  arguments_low : (place : ℕ) → AllByRecursion (λ k. k < place) (arguments_in c place)
  arguments_low place = among_all (λ k. k < place) (arguments_in c place) (λ k at.
      (in_picked (among (arguments (job c) (certain c.written) place)) place k at).0)

  pub arguments_near : (place : ℕ) → among inside place ≡ true → is_carried (class_in c place) ≡ false
      → AllByRecursion (λ k. among places k ≡ true) (arguments_in c place)
  arguments_near place at free = among_all (λ k. among places k ≡ true) (arguments_in c place) (λ k read.
      near_among k (let low = (cone_is place at).0 in
      let less = (in_picked (among (arguments (job c) (certain c.written) place)) place k read).0 in
      omega (arith, low, less))
      (argument_near (job c) fits (certain c.written) root place k around.reach.within (cone_is place at).1 free read))

  pub whole_for : (place : ℕ) (positions : List ℕ) (values : List Value) → among inside place ≡ true
      → is_carried (class_in c place) ≡ false → AllByRecursion (λ p. p < length places) positions
      → map (slice_index places) positions ≡ arguments_in c place → length positions ≤ 13
      → AreWholeValues c place values → IsBodyFor c root places place (Rule positions values)
  whole_for place positions values at free within are few whole = record {
    turn = inl (record {
      inside = (cone_is place at).1;
      free = free;
      within = within;
      are_arguments = are;
      are_values = whole.are;
    });
    stands = λ position less here. record {
      few = few;
      before = all_before places positions (arguments_in c place) position place places_rise less here within are
          (arguments_low place);
      long = whole.long ∙ ap (λ n. 2 ^ n) (sym (ap length are) ∙ length-map positions (slice_index places));
    };
  }

  -- The place of a number near it is reached.
  pub place_reached : (k : ℕ) → among places k ≡ true
      → IsReached c (place_at (job c) k) × (number_of (job c) (place_at (job c) k) ≡ k)
  place_reached k at =
      let reach = near_reach k at in
      let same = number_of_place_at (job c) k fits.ordering fits.all reach.within in (
        record {
          within = is_place_at (job c) k fits.ordering fits.all reach.within;
          reached = (let low = reach.written in omega (arith, low, same));
        },
        same,
      )
