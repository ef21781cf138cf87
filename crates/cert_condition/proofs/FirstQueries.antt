-- The query with which a condition begins.
use Rattle.std.proofs.Common.{◌≡◌, ◌≢◌, ℕ, zero, suc, ◌+◌, ◌-◌, ◌<◌, ◌≤◌, not, Bool, true, List, [], ◌∷◌, ◌++◌, drop, length, map, refl, sym, ap, ◌∙◌, arith, subst, slice_index, slice_index_or, length-append}
use Rattle.std.specs.Prelude.{ℤ, pos, negsuc, nat_abs}
use Rattle.std.specs.List.{All, AllByRecursion}
use Rattle.std.specs.List.Sorted.{IsStrictlyIncreasing}
use Rattle.std.proofs.lemmas.List.{length-map}
use Rattle.std.proofs.lemmas.List.Elements.{All-from_recursion}
use Rattle.design_circuit.specs.Fits.{Fits}
use Rattle.design_circuit.specs.Order.{position_of}
use Rattle.design_circuit.specs.Waveform.{certain}
use Rattle.law_model.specs.Cone.{in_cone}
use Rattle.law_model.specs.Places.{among}
use Rattle.law_model.proofs.ConeModels.{found_at, found_within}
use Rattle.law_model.proofs.Cones.{cone_self}
use Rattle.law_model.proofs.PlacesWhere.{among_all, contains_among, or_left, or_right, picked_in}
use Rattle.wave_proved.specs.Contents.{Contents, job}
use Rattle.decide_cone.specs.Boundary.{is_boundary, is_near, near_in}
use Rattle.decide_nodes.specs.declared.node.Node.{Node}
use Rattle.decide_nodes.proofs.ConeBits.{last_place}
use Rattle.decide_cnf.specs.Clauses.{AreNodeClauses}
use Rattle.decide_cnf.specs.Literals.{AreLiterals, IsLiteral, literal_at, says, variables_of}
use Rattle.decide_cnf.proofs.EarlyClauses.{all_literals}
use Rattle.cert_condition.specs.First.{HasTurnNodes, IsAssembled, IsWrittenAmong, StandForPlaces, unit_says}
use Rattle.cert_condition.specs.TurnQuery.{turn_denial, turn_literal, unit_clause, unit_clauses}
use Rattle.cert_condition.specs.View.{IsAbout, settled_bit}
use Rattle.cert_condition.specs.declared.next.NextQuery.{NextQuery}
use Rattle.cert_condition.proofs.TurnChoices.{boundary_low, listed_beside, turn_literal_fits, turn_literal_some}
use Rattle.cert_condition.proofs.TurnClauses.{turn_denial_same, whole_made}
use Rattle.cert_condition.proofs.TurnLiterals.{near_count, near_rises, turn_node_literal, turn_variables_counted}

some_literal : (l : ℤ) → l ≢ pos 0 → 0 < nat_abs l
some_literal (pos zero) some = absurd (some refl)
some_literal (pos (suc n)) some = omega arith
some_literal (negsuc n) some = omega arith

module _ (c : Contents) (root : ℕ) (places : List ℕ) (nodes : List Node) (numbers : List ℕ)
    (of : HasTurnNodes c root places nodes numbers) where
  fits : Fits (job c)
  fits = of.are.wave.fits.fits_job

  listed_boundary : (k : ℕ) → among numbers k ≡ true → is_boundary (job c) (certain c.written) root k ≡ true
  listed_boundary k at = listed_beside (job c) (certain c.written) root k
      (ap (λ ks. among ks k) (sym of.numbers_are) ∙ at)

  listed_near : (k : ℕ) → among numbers k ≡ true → among (near_in c root) k ≡ true
  listed_near k at = picked_in (is_near (job c) (certain c.written) root) (root + 1) k
      (let low = boundary_low (job c) (certain c.written) root k (listed_boundary k at) in omega (arith, low))
      (or_right (in_cone (job c) (certain c.written) root k) (is_boundary (job c) (certain c.written) root k)
      (listed_boundary k at))

  -- What the literals of listed places want.
  pub written_among : AllByRecursion (IsWrittenAmong c places) numbers
  written_among = among_all (IsWrittenAmong c places) numbers (λ k at. (
    ap (λ ks. among ks k) of.places_are ∙ listed_near k at,
    (let low = boundary_low (job c) (certain c.written) root k (listed_boundary k at) in
        let up = of.are.reach.written in omega (arith, low, up)),
  ))

  root_near : is_near (job c) (certain c.written) root root ≡ true
  root_near = or_left (in_cone (job c) (certain c.written) root root) (is_boundary (job c) (certain c.written) root root)
      (cone_self (job c) fits (certain c.written) root of.are.reach.within)

  pub last_root : slice_index places (length places - 1) ≡ root
  last_root = subst (λ ks. slice_index ks (length ks - 1) ≡ root) (sym of.places_are)
      (last_place (is_near (job c) (certain c.written) root) root root_near)

  pub places_long : length places ≡ length nodes
  places_long = ap length of.places_are ∙ near_count c root nodes of.are

  pub some_place : 0 < length places
  some_place = let some = of.are.are_nodes.some in let long = places_long in omega (arith, some, long)

  pub last_written : slice_index places (length places - 1) < length c.written
  last_written = subst (λ k. k < length c.written) (sym last_root) of.has.written

  module _ (literals : List ℤ) (are : AreLiterals nodes literals) where
    pub stand_for : StandForPlaces places literals
    stand_for = record {
      rising = subst IsStrictlyIncreasing (sym of.places_are) (near_rises c root nodes of.are);
      few = (let few = of.are.are_nodes.few in let long = places_long in omega (arith, few, long));
      long = are.long ∙ sym places_long;
      fit = all_literals nodes literals of.are.are_nodes are;
    }

    -- They are the literals of the turn query.
    pub unit_same : (k : ℕ) → among numbers k ≡ true
        → unit_says c places literals k ≡ turn_literal (job c) (certain c.written) root k (settled_bit c k)
    unit_same k at =
        let near : List ℕ = near_in c root in
        let found = contains_among near k (listed_near k at) in
        let low : position_of near k < length nodes =
        (let less = found_within near k found in let count = near_count c root nodes of.are in omega (arith, less, count)) in
        ap (λ ks. says (literal_at literals (position_of ks k)) (settled_bit c k)) of.places_are
        ∙ sym (turn_node_literal c root nodes of.are literals are (position_of near k) (settled_bit c k) low)
        ∙ ap (λ i. turn_literal (job c) (certain c.written) root i (settled_bit c k)) (found_at near k found)

    turn_fits : (k : ℕ) (bit : Bool) → is_near (job c) (certain c.written) root k ≡ true
        → IsLiteral (variables_of nodes) (turn_literal (job c) (certain c.written) root k bit)
    turn_fits k bit near = record {
      some = some_literal _ (turn_literal_some (job c) (certain c.written) root k bit);
      few = subst (λ n. nat_abs (turn_literal (job c) (certain c.written) root k bit) ≤ n)
          (turn_variables_counted c root nodes of.are)
          (turn_literal_fits (job c) fits (certain c.written) root k bit of.are.reach.within near);
    }

    mapped_fit : (ks : List ℕ) → AllByRecursion (λ k. among numbers k ≡ true) ks
        → AllByRecursion (IsLiteral (variables_of nodes)) (map (unit_says c places literals) ks)
    mapped_fit [] all = tt
    mapped_fit (k ∷ ks) all = (
      subst (IsLiteral (variables_of nodes)) (sym (unit_same k all.0))
          (turn_fits k (settled_bit c k)
          (or_right (in_cone (job c) (certain c.written) root k) (is_boundary (job c) (certain c.written) root k)
          (listed_boundary k all.0))),
      mapped_fit ks all.1,
    )

    pub units_fit : All (IsLiteral (variables_of nodes)) (map (unit_says c places literals) numbers)
    units_fit = All-from_recursion (IsLiteral (variables_of nodes)) (map (unit_says c places literals) numbers)
        (mapped_fit numbers (among_all (λ k. among numbers k ≡ true) numbers (λ k at. at)))

    denial_last : (denial : ℤ) → denial
        ≡ says (literal_at literals (length literals - 1)) (not (settled_bit c (slice_index places (length places - 1))))
        → denial ∷ [] ≡ turn_denial (job c) (certain c.written) root (settled_bit c root)
    denial_last denial is = ap (λ l. l ∷ []) is
        ∙ ap (λ k. says (literal_at literals (length literals - 1)) (not (settled_bit c k)) ∷ []) last_root
        ∙ turn_denial_same c root nodes of.are literals are (settled_bit c root)

    pub denial_fits : (denial : ℤ) → denial
        ≡ says (literal_at literals (length literals - 1)) (not (settled_bit c (slice_index places (length places - 1))))
        → IsLiteral (variables_of nodes) denial
    denial_fits denial is =
        let same : denial ≡ turn_literal (job c) (certain c.written) root root (not (settled_bit c root)) =
        ap (λ ls. literal_at ls 0) (denial_last denial is) in
        subst (IsLiteral (variables_of nodes)) (sym same) (turn_fits root (not (settled_bit c root)) root_near)

    ones_same : (ks : List ℕ) → AllByRecursion (λ k. among numbers k ≡ true) ks
        → map (λ l. l ∷ []) (map (unit_says c places literals) ks)
        ≡ unit_clauses (job c) (certain c.written) root ks
    ones_same [] all = refl
    ones_same (k ∷ ks) all =
        ap (λ l. (l ∷ []) ∷ map (λ m. m ∷ []) (map (unit_says c places literals) ks)) (unit_same k all.0)
        ∙ ap (λ us. unit_clause (job c) (certain c.written) root k ∷ us) (ones_same ks all.1)

    -- What is assembled is the query.
    pub about_first : (clauses : List (List ℤ)) (vars : ℕ) (units : List ℤ) (denial : ℤ) (next : NextQuery)
        → AreNodeClauses nodes literals clauses → vars ≡ variables_of nodes
        → units ≡ map (unit_says c places literals) numbers → denial
        ≡ says (literal_at literals (length literals - 1)) (not (settled_bit c (slice_index places (length places - 1))))
        → IsAssembled vars clauses units denial next → (place : ℕ) (rest : List ℕ) → numbers ≡ place ∷ rest
        → IsAbout c root next rest place
    about_first clauses vars units denial next made counted units_are denial_is assembled place rest first =
        let all : AllByRecursion (λ k. among numbers k ≡ true) (place ∷ rest) =
        subst (AllByRecursion (λ k. among numbers k ≡ true)) first
        (among_all (λ k. among numbers k ≡ true) numbers (λ k at. at)) in
        let are_units : units ≡ map (unit_says c places literals) (place ∷ rest) =
        units_are ∙ ap (map (unit_says c places literals)) first in
        record {
          whole = clauses;
          are_whole = whole_made c root nodes of.are literals are clauses made;
          cone = assembled.cone;
          vars = assembled.vars_are ∙ counted ∙ sym (turn_variables_counted c root nodes of.are);
          clauses = assembled.made
              ∙ ap (λ us. (clauses ++ map (λ l. l ∷ []) (drop 1 us)) ++ (denial ∷ []) ∷ []) are_units
              ∙ ap (λ us. (clauses ++ us) ++ (denial ∷ []) ∷ []) (ones_same rest all.1)
              ∙ ap (λ d. (clauses ++ unit_clauses (job c) (certain c.written) root rest) ++ d ∷ [])
              (denial_last denial denial_is);
          away = assembled.away ∙ ap (λ us. slice_index_or us 0 (pos 0) ∷ []) are_units
              ∙ ap (λ l. l ∷ []) (unit_same place all.0);
        }

-- How long it is.
pub assembled_long : (vars : ℕ) (clauses : List (List ℤ)) (units : List ℤ) (denial : ℤ) (next : NextQuery)
    → IsAssembled vars clauses units denial next → 0 < length units
    → length next.query.clauses ≡ next.cone + length units
assembled_long vars clauses [] denial next is some = absurd (omega (arith, some))
assembled_long vars clauses (u ∷ units) denial next is some =
    let long = ap length is.made in
    let outer = length-append (clauses ++ map (λ l. l ∷ []) units) ((denial ∷ []) ∷ []) in
    let inner = length-append clauses (map (λ l. l ∷ []) units) in
    let ones = length-map units (λ (l : ℤ). l ∷ []) in
    let cone = is.cone in
    omega (arith, long, outer, inner, ones, cone)
