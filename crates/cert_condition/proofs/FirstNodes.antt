-- The nodes, places and numbers with which a condition begins.
use Rattle.std.proofs.Common.{◌≡◌, ℕ, zero, suc, ◌+◌, ◌-◌, ◌<◌, ◌≤◌, ◌^◌, Bool, true, false, List, [], ◌∷◌, ◌++◌, if◌then◌else◌, length, length-append, map, refl, sym, ap, ◌∙◌, add-one, arith, subst, slice_index_or}
use Rattle.std.specs.Prelude.{nat_lt}
use Rattle.std.specs.List.{AllByRecursion}
use Rattle.std.proofs.Math.Seq.{get_or-append_seam}
use Rattle.std.proofs.lemmas.List.{length-map, map-append}
use Rattle.design_circuit.specs.Filling.{IsPlace}
use Rattle.design_circuit.specs.Fits.{Fits, place_at}
use Rattle.design_circuit.specs.Job.{Job, number_of, places_of}
use Rattle.design_circuit.specs.Waveform.{certain}
use Rattle.design_circuit.specs.declared.place.Place.{Place}
use Rattle.design_circuit.proofs.Numbers.{is_place_at, numbers_of_places}
use Rattle.law_model.specs.Cone.{in_cone}
use Rattle.law_model.specs.Places.{places_where}
use Rattle.law_model.proofs.Cones.{cone_self}
use Rattle.law_model.proofs.PlacesWhere.{among_all}
use Rattle.wave_proved.specs.Contents.{Contents, job}
use Rattle.decide_cone.specs.Boundary.{certain_boundary_in, near_in}
use Rattle.decide_nodes.specs.declared.node.Node.{Node}
use Rattle.decide_nodes.specs.Nodes.{no_node, node_at, place_of_node}
use Rattle.decide_nodes.specs.Traced.{IsWholeCone, cone_in}
use Rattle.cert_condition.specs.First.{HasTurnNodes, IsConeOfCertain, IsFirstQuery, IsNextFirst}
use Rattle.cert_condition.specs.TurnNodes.{AreAround, AreNodesAround}
use Rattle.cert_condition.specs.Turns.{first_due}
use Rattle.cert_condition.specs.View.{due_count}
use Rattle.cert_condition.specs.declared.next.NextQuery.{NextQuery}
use Rattle.cert_condition.proofs.NextTurns.{due_long}
use Rattle.cert_condition.proofs.TurnChoices.{boundary_low, listed_beside}

all_places : (j : Job) → Fits j → (numbers : List ℕ) → AllByRecursion (λ k. k < places_of j) numbers
    → AllByRecursion (IsPlace j) (map (place_at j) numbers)
all_places j fits [] all = tt
all_places j fits (n ∷ ns) all = (is_place_at j n fits.ordering fits.all all.0, all_places j fits ns all.1)

module _ (c : Contents) (root : ℕ) (cone : List Node) (of : IsConeOfCertain c root cone) where
  fits : Fits (job c)
  fits = of.whole.wave.fits.fits_job

  boundary_within : AllByRecursion (λ k. k < places_of (job c)) (certain_boundary_in c root)
  boundary_within = among_all (λ k. k < places_of (job c)) (certain_boundary_in c root) (λ k at.
      (let low = boundary_low (job c) (certain c.written) root k
      (listed_beside (job c) (certain c.written) root k at) in
      let up = of.whole.reach.within in omega (arith, low, up)))

  pub listed_places : (listed : List Place) → listed ≡ map (place_at (job c)) (certain_boundary_in c root)
      → AllByRecursion (IsPlace (job c)) listed
  listed_places listed are = subst (AllByRecursion (IsPlace (job c))) (sym are)
      (all_places (job c) fits (certain_boundary_in c root) boundary_within)

  pub around_of : (places inside : List ℕ) → places ≡ near_in c root → length places ≤ 2 ^ 27 → inside ≡ cone_in c root
      → AreAround c root places inside
  around_of places inside places_are few inside_are = record {
    wave = of.whole.wave;
    reach = of.whole.reach;
    free = of.whole.free;
    places_are = places_are;
    few = few;
    inside_are = inside_are;
  }

  pub numbers_back : (listed : List Place) → listed ≡ map (place_at (job c)) (certain_boundary_in c root)
      → map (number_of (job c)) listed ≡ certain_boundary_in c root
  numbers_back listed are = ap (map (number_of (job c))) are
      ∙ numbers_of_places (job c) (certain_boundary_in c root) fits.ordering fits.all boundary_within

  pub has_turn_nodes : (listed : List Place) (places inside numbers : List ℕ) (nodes : List Node)
      → listed ≡ map (place_at (job c)) (certain_boundary_in c root) → places ≡ near_in c root → length places ≤ 2 ^ 27
      → inside ≡ cone_in c root → AreNodesAround c places inside nodes → numbers ≡ map (number_of (job c)) listed
      → HasTurnNodes c root places nodes numbers
  has_turn_nodes listed places inside numbers nodes listed_are places_are few inside_are are made = record {
    are = are root (around_of places inside places_are few inside_are);
    has = of.has;
    places_are = places_are;
    numbers_are = made ∙ numbers_back listed listed_are;
  }

-- The last node of a cone is its place's.
last_there : (test : ℕ → Bool) (root : ℕ) → test root ≡ true
    → places_where test (root + 1) ≡ places_where test root ++ root ∷ []
last_there test root holds = rw (add-one, holds) refl

place_of_one : (nodes : List Node) (i : ℕ) → (node_at nodes i).place
    ≡ slice_index_or (map place_of_node nodes) i no_node.place
place_of_one [] i = refl
place_of_one (n ∷ ns) zero = refl
place_of_one (n ∷ ns) (suc i) = place_of_one ns i

pub root_last : (c : Contents) (root : ℕ) (nodes : List Node) → IsWholeCone c root nodes
    → (node_at nodes (length nodes - 1)).place ≡ place_at (job c) root
root_last c root nodes is =
    let before : List Place = map (place_at (job c)) (places_where (in_cone (job c) (certain c.written) root) root) in
    let all : map place_of_node nodes ≡ before ++ place_at (job c) root ∷ [] =
    is.places ∙ ap (map (place_at (job c))) (last_there (in_cone (job c) (certain c.written) root) root
    (cone_self (job c) is.wave.fits.fits_job (certain c.written) root is.reach.within))
    ∙ map-append (place_at (job c)) (places_where (in_cone (job c) (certain c.written) root) root) (root ∷ []) in
    let long = sym (length-map nodes place_of_node) ∙ ap length all
    ∙ length-append before (place_at (job c) root ∷ []) in
    let at : length nodes - 1 ≡ length before = omega (arith, long) in
    place_of_one nodes (length nodes - 1)
    ∙ ap (λ ps. slice_index_or ps (length nodes - 1) no_node.place) all
    ∙ ap (λ i. slice_index_or (before ++ place_at (job c) root ∷ []) i no_node.place) at
    ∙ get_or-append_seam before (place_at (job c) root) [] no_node.place

-- Where some are due, they are all.
due_all : (b : List ℕ) (place : ℕ) (rest : List ℕ) → first_due b ≡ place ∷ rest → b ≡ place ∷ rest
due_all b place rest = by (nat_lt 64 (length b))
  where
    by : (many : Bool) → (if many then [] else b) ≡ place ∷ rest → b ≡ place ∷ rest
    by true e = cc
    by false e = e

pub next_first : (c : Contents) (cone : List Node) (next : NextQuery) → IsFirstQuery c cone next → IsNextFirst c cone next
next_first c cone next first root of place rest due =
    first root of place rest (due_all (certain_boundary_in c root) place rest due)

pub none_first : (c : Contents) (cone : List Node) (listed : List Place) (next : NextQuery)
    → ((root : ℕ) → IsConeOfCertain c root cone → listed ≡ map (place_at (job c)) (certain_boundary_in c root))
    → due_count (length listed) ≡ 0 → IsNextFirst c cone next
none_first c cone listed next are none root of place rest due =
    let long = ap length (are root of) ∙ length-map (certain_boundary_in c root) (place_at (job c)) in
    let count = sym (ap length due) ∙ due_long (certain_boundary_in c root) ∙ ap due_count (sym long) ∙ none in
    absurd (omega (arith, count))

pub some_due : (count : ℕ) → 0 < due_count count → 0 < count
some_due count = by (nat_lt 64 count)
  where
    by : (many : Bool) → 0 < (if many then 0 else count) → 0 < count
    by true less = absurd (omega (arith, less))
    by false less = less
