-- The boundary of a cone, from what its nodes read.
use Rattle.std.proofs.Common.{◌≡◌, ℕ, ◌+◌, ◌<◌, ◌≤◌, ◌==◌, ◌&&◌, ◌||◌, Bool, true, false, not, List, [], ◌∷◌, ◌++◌, filter, if◌then◌else◌, Result, Ok, Err, IfOk, Global, Vec, length, map, reverse, slice_index, take, refl, sym, ap, ◌∙◌, subst, arith, ⊎_elim, append-nil, append_assoc}
use Rattle.std.specs.List.{AllByRecursion, list_any}
use Rattle.std.specs.List.Sorted.{IsStrictlyIncreasing}
use Rattle.std.proofs.Math.Seq.{take-length}
use Rattle.std.proofs.lemmas.Bool.{and_parts, eq-eqb, eqb-true, or_cases}
use Rattle.std.proofs.lemmas.List.{length-map, reverse-append, take_more}
use Rattle.std.proofs.lemmas.List.Elements.{filter-append}
use Rattle.std.proofs.lemmas.List.Folds.{list_any-append}
use Rattle.std.proofs.lemmas.Map.Views.{any-filter_same}
use Rattle.base_lists.specs.declared.memory.Memory.{Memory}
use Rattle.design_circuit.specs.declared.place.Place.{Place}
use Rattle.design_circuit.specs.Filling.{IsPlace}
use Rattle.design_circuit.specs.Fits.{Fits, place_at}
use Rattle.design_circuit.specs.Job.{Job, number_of, places_of}
use Rattle.design_circuit.specs.Rule.{arguments}
use Rattle.design_circuit.specs.Waveform.{certain}
use Rattle.design_circuit.proofs.Numbers.{is_place_at, numbers_of_places}
use Rattle.law_model.specs.Assignment.{argument_places}
use Rattle.law_model.specs.Class.{class_of}
use Rattle.law_model.specs.Cone.{in_cone, is_carried}
use Rattle.law_model.specs.Node.{IsBody}
use Rattle.law_model.specs.Places.{among}
use Rattle.law_model.proofs.Cones.{cone_within}
use Rattle.law_model.proofs.PlacesWhere.{all_among, among_all, in_picked, or_left, picked_rises}
use Rattle.wave_proved.specs.Contents.{Contents, job}
use Rattle.decide_graph.specs.Reached.{AddsAll, AreTaken, IsFalling, TakesGreatest}
use Rattle.decide_graph.proofs.FallingPlaces.{among_push, falling_is, falls_push, in_push}
use Rattle.decide_nodes.specs.declared.node.Node.{Node}
use Rattle.decide_nodes.specs.declared.node.NodeBody.{NodeBody as Body}
use Rattle.decide_nodes.specs.declared.node.NodeBody.TheVariants.{Carried, Rule}
use Rattle.decide_nodes.specs.Nodes.{body_at, body_of, node_at, place_of_node}
use Rattle.decide_nodes.specs.Traced.{IsWholeCone, cone_in}
use Rattle.decide_cone.specs.Boundary.{IsBoundary, IsCertainBoundary, IsFallingBoundary, IsPlaceIn, is_certain_in, boundary_in, is_boundary, is_outside, number_in, read_in, reads}
use Rattle.decide_graph.specs.InWave.{IsInReach}
use Rattle.decide_graph.proofs.NumberBits.{index_among}

or_nothing : (b : Bool) → b || false ≡ b
or_nothing true = refl
or_nothing false = refl

and_nothing : (b : Bool) → b && false ≡ false
and_nothing true = refl
and_nothing false = refl

or_assoc : (a b d : Bool) → (a || b) || d ≡ a || (b || d)
or_assoc true b d = refl
or_assoc false b d = refl

spread : (o r t : Bool) → (o && r) || (o && t) ≡ o && (t || (r || false))
spread false r t = refl
spread true false false = refl
spread true false true = refl
spread true true false = refl
spread true true true = refl

-- The places of the cone of a place are of the job, none over it.
module _ (c : Contents) (root : ℕ) (nodes : List Node) (is : IsWholeCone c root nodes) where
  fits : Fits (job c)
  fits = is.wave.fits.fits_job

  pub none_over : (k : ℕ) → among (cone_in c root) k ≡ true → k ≤ root
  none_over k at = cone_within (job c) fits (certain c.written) root k is.reach.within
      (in_picked (in_cone (job c) (certain c.written) root) (root + 1) k at).1

  all_within : AllByRecursion (λ k. k < places_of (job c)) (cone_in c root)
  all_within = among_all (λ k. k < places_of (job c)) (cone_in c root) (λ k at.
      (let up = none_over k at in let top = is.reach.within in omega (arith, up, top)))

  by_places : (ns : List Node) → map (number_in (job c)) ns ≡ map (number_of (job c)) (map place_of_node ns)
  by_places [] = refl
  by_places (n ∷ ns) = ap (λ xs. number_in (job c) n ∷ xs) (by_places ns)

  -- The numbers of the nodes' places are those of the cone.
  pub cone_numbers : map (number_in (job c)) nodes ≡ cone_in c root
  cone_numbers = by_places nodes ∙ ap (map (number_of (job c))) is.places
      ∙ numbers_of_places (job c) (cone_in c root) fits.ordering fits.all all_within

  all_places : (numbers : List ℕ) → AllByRecursion (λ k. k < places_of (job c)) numbers
      → AllByRecursion (IsPlace (job c)) (map (place_at (job c)) numbers)
  all_places [] all = tt
  all_places (n ∷ ns) all = (is_place_at (job c) n fits.ordering fits.all all.0, all_places ns all.1)

  of_nodes : (ns : List Node) → AllByRecursion (IsPlace (job c)) (map place_of_node ns)
      → AllByRecursion (IsPlaceIn (job c)) ns
  of_nodes [] all = tt
  of_nodes (n ∷ ns) all = (all.0, of_nodes ns all.1)

  pub nodes_placed : AllByRecursion (IsPlaceIn (job c)) nodes
  nodes_placed = of_nodes nodes
      (subst (AllByRecursion (IsPlace (job c))) (sym is.places) (all_places (cone_in c root) all_within))

  pub cone_rising : IsStrictlyIncreasing (cone_in c root)
  cone_rising = picked_rises (in_cone (job c) (certain c.written) root) (root + 1)

  pub position_reach : (position : ℕ) → position < length (cone_in c root)
      → IsInReach c (slice_index (cone_in c root) position)
  position_reach position less =
      let up = none_over (slice_index (cone_in c root) position) (index_among (cone_in c root) position less) in
      let written = is.reach.written in
      let top = is.reach.within in
      record { written = omega (arith, up, written); within = omega (arith, up, top) }

-- What a node's place reads.
pub read_among : (c : Contents) (cone places : List ℕ) (body : Body) (place k : ℕ)
    → IsBody (job c) (certain c.written) places place (body_of body)
    → among (read_in c cone body place) k ≡ is_outside cone k && reads (job c) (certain c.written) k place
read_among c cone places (Carried node inverted) place k is =
    sym (ap (λ class. is_outside cone k
    && (not (is_carried class) && among (argument_places (job c) (certain c.written) place) k)) is.class
    ∙ and_nothing (is_outside cone k))
read_among c cone places (Rule arguments values) place k is =
    any-filter_same (λ i. i == k) (is_outside cone) (is_outside cone k)
    (λ i e. ap (is_outside cone) (eqb-true i k e)) (argument_places (job c) (certain c.written) place)
    ∙ sym (ap (λ b. is_outside cone k
    && (not b && among (argument_places (job c) (certain c.written) place) k)) is.free)

-- What the first places of a cone read.
abbrev pub AreRead : Contents → List ℕ → ℕ → List ℕ → Type 0
AreRead c cone position reached = (k : ℕ)
    → among reached k ≡ is_outside cone k && list_any (reads (job c) (certain c.written) k) (take position cone)

pub none_read : (c : Contents) (cone reached : List ℕ) → reached ≡ [] → AreRead c cone 0 reached
none_read c cone reached none k = ap (λ ks. among ks k) none ∙ sym (and_nothing (is_outside cone k))

pub more_read : (c : Contents) (cone places old new : List ℕ) (body : Body) (position : ℕ) → position < length cone
    → IsBody (job c) (certain c.written) places (slice_index cone position) (body_of body)
    → AreRead c cone position old → AddsAll old (read_in c cone body (slice_index cone position)) new
    → AreRead c cone (position + 1) new
more_read c cone places old new body position less is so adds k =
    adds k ∙ ap (λ b. b || among old k) (read_among c cone places body (slice_index cone position) k is)
    ∙ ap (λ b. (is_outside cone k && reads (job c) (certain c.written) k (slice_index cone position)) || b) (so k)
    ∙ spread (is_outside cone k) (reads (job c) (certain c.written) k (slice_index cone position)) (list_any (reads (job c) (certain c.written) k) (take position cone))
    ∙ sym (ap (λ b. is_outside cone k && b) (ap (list_any (reads (job c) (certain c.written) k)) (take_more cone position 0 less)
    ∙ list_any-append (reads (job c) (certain c.written) k) (take position cone) (slice_index cone position ∷ [])))

-- Places that are taken, and those that wait.
pub record TakenSoFar (all taken waiting : List ℕ) : Type 0 where
  pub falls : IsFalling taken
  pub below : (p k : ℕ) → among taken p ≡ true → among waiting k ≡ true → k < p
  pub same : (k : ℕ) → among taken k || among waiting k ≡ among all k

pub taken_first : (all taken : List ℕ) → taken ≡ [] → TakenSoFar all taken all
taken_first all taken none = record {
  falls = subst IsFalling (sym none) tt;
  below = λ p k at waits. (let no : false ≡ true = sym (ap (λ ks. among ks p) none) ∙ at in cc);
  same = λ k. ap (λ ks. among ks k || among all k) none;
}

pub taken_more : (all taken waiting left : List ℕ) (place : ℕ) → TakenSoFar all taken waiting
    → TakesGreatest waiting place left → TakenSoFar all (taken ++ place ∷ []) left
taken_more all taken waiting left place so takes = record {
  falls = falls_push taken place so.falls (among_all (λ p. place < p) taken (λ p at. so.below p place at waits));
  below = λ p k at left_has. (let deep = all_among (λ i. i < place) left k takes.below left_has in ⊎_elim
      (λ (e : among taken p ≡ true). (let up = so.below p place e waits in omega (arith, deep, up)))
      (λ (e : place ≡ p). omega (arith, deep, e)) (in_push taken place p at));
  same = λ k. ap (λ b. b || among left k) (among_push taken place k)
      ∙ or_assoc (among taken k) (place == k) (among left k)
      ∙ ap (λ b. among taken k || b) (sym (takes.parts k)) ∙ so.same k;
}
  where
    waits : among waiting place ≡ true
    waits = takes.parts place ∙ or_left (place == place) (among left place) (eq-eqb place place refl)

pub taken_ends : (all taken waiting : List ℕ) → TakenSoFar all taken waiting → waiting ≡ [] → AreTaken all taken
taken_ends all taken waiting so none = record {
  falls = so.falls;
  same = λ k. sym (or_nothing (among taken k)) ∙ ap (λ ks. among taken k || among ks k) (sym none) ∙ so.same k;
}

-- A place that some places read is below the greatest of them.
pub reader_below : (c : Contents) (root k : ℕ) (places : List ℕ) → AllByRecursion (λ p. p ≤ root) places
    → list_any (reads (job c) (certain c.written) k) places ≡ true → k < root
reader_below c root k [] all some = cc
reader_below c root k (p ∷ ps) all some = ⊎_elim
    (λ (e : reads (job c) (certain c.written) k p ≡ true).
    (let parts = and_parts (not (is_carried (class_of (job c) (certain c.written) p)))
    (among (argument_places (job c) (certain c.written) p) k) e in
    let less = (in_picked (among (arguments (job c) (certain c.written) p)) p k parts.1).0 in
    let up = all.0 in omega (arith, less, up)))
    (λ (e : list_any (reads (job c) (certain c.written) k) ps ≡ true). reader_below c root k ps all.1 e)
    (or_cases (reads (job c) (certain c.written) k p) (list_any (reads (job c) (certain c.written) k) ps) some)

-- The boundary is what all places of the cone read.
module _ (c : Contents) (root : ℕ) (nodes : List Node) (is : IsWholeCone c root nodes) (numbers reached taken : List ℕ)
    (position : ℕ) (same : numbers ≡ cone_in c root) (whole : position ≡ length numbers)
    (read : AreRead c numbers position reached) (taken_are : AreTaken reached taken) where
  members : (k : ℕ) → among taken k ≡ is_boundary (job c) (certain c.written) root k
  members k = taken_are.same k ∙ read k
      ∙ ap (λ ks. is_outside numbers k && list_any (reads (job c) (certain c.written) k) ks)
      (ap (λ n. take n numbers) whole ∙ take-length numbers)
      ∙ ap (λ ks. is_outside ks k && list_any (reads (job c) (certain c.written) k) ks) same

  low : (k : ℕ) → among taken k ≡ true → k < root
  low k at = reader_below c root k (cone_in c root)
      (among_all (λ p. p ≤ root) (cone_in c root) (none_over c root nodes is))
      (and_parts (is_outside (cone_in c root) k) (list_any (reads (job c) (certain c.written) k) (cone_in c root))
      (sym (members k) ∙ at)).1

  pub boundary_is : reverse taken ≡ boundary_in c root
  boundary_is = falling_is root (is_boundary (job c) (certain c.written) root) taken taken_are.falls
      (among_all (λ k. k < root) taken low) (λ k less. members k)

  pub boundary_written : AllByRecursion (λ k. k < length c.written) taken
  boundary_written = among_all (λ k. k < length c.written) taken (λ k at.
      (let less = low k at in let top = is.reach.written in omega (arith, less, top)))

  pub boundary_within : AllByRecursion (λ k. k < places_of (job c)) taken
  boundary_within = among_all (λ k. k < places_of (job c)) taken (λ k at.
      (let less = low k at in let top = is.reach.within in omega (arith, less, top)))

-- What is taken of what all places of the cone read.
pub falling : (result : Result (Vec ℕ Global) Memory) (c : Contents) (nodes : List Node) (root : ℕ) → IsWholeCone c root nodes
    → (numbers reached : List ℕ) (position : ℕ) → ((r : ℕ) → IsWholeCone c r nodes → numbers ≡ cone_in c r)
    → position ≡ length numbers → AreRead c numbers position reached → IfOk result (λ taken. AreTaken reached taken.items)
    → IfOk result (λ taken. IsFallingBoundary c nodes taken.items)
falling (Ok taken) c nodes root is numbers reached position same whole read taken_are = record {
  are = λ r of_r. boundary_is c r nodes of_r numbers reached taken.items position (same r of_r) whole read taken_are;
  written = boundary_written c root nodes is numbers reached taken.items position (same root is) whole read taken_are;
  within = boundary_within c root nodes is numbers reached taken.items position (same root is) whole read taken_are;
}
falling (Err e) c nodes root is numbers reached position same whole read taken_are = tt

-- The certain ones among places are places.
pub all_filter : (P : ℕ → Type 0) (test : ℕ → Bool) (ks : List ℕ) → AllByRecursion P ks → AllByRecursion P (filter test ks)
all_filter P test [] all = tt
all_filter P test (k ∷ ks) all =
    elim (test k) as (λ b. AllByRecursion P (if b then k ∷ filter test ks else filter test ks))
    [ true ↦ (all.0, all_filter P test ks all.1) | false ↦ all_filter P test ks all.1 ]

put_if : (b : Bool) (k : ℕ) (ks : List ℕ) → reverse (if b then k ∷ ks else ks) ≡ reverse ks ++ (if b then k ∷ [] else [])
put_if true k ks = reverse-append (k ∷ []) ks
put_if false k ks = sym (append-nil (reverse ks))

reverse_filter : (test : ℕ → Bool) (ks : List ℕ) → reverse (filter test ks) ≡ filter test (reverse ks)
reverse_filter test [] = refl
reverse_filter test (k ∷ ks) = put_if (test k) k (filter test ks)
    ∙ ap (λ xs. xs ++ (if test k then k ∷ [] else [])) (reverse_filter test ks)
    ∙ sym (ap (filter test) (reverse-append (k ∷ []) ks) ∙ filter-append test (reverse ks) (k ∷ []))

-- Places by numbers that fall are the boundary,
pub boundary_of : (c : Contents) (nodes : List Node) (numbers : List ℕ) (j : Job) (places : List Place)
    → IsFallingBoundary c nodes numbers → j ≡ job c → places ≡ map (place_at j) (reverse numbers)
    → IsBoundary c nodes places
boundary_of c nodes numbers j places are same is root of_root =
    is ∙ ap (λ (k : Job). map (place_at k) (reverse numbers)) same ∙ ap (map (place_at (job c))) (are.are root of_root)

-- and the certain ones of them its certain places.
pub certain_boundary_of : (c : Contents) (nodes : List Node) (numbers certain : List ℕ) (j : Job) (places : List Place)
    → IsFallingBoundary c nodes numbers → certain ≡ filter (is_certain_in c) numbers → j ≡ job c
    → places ≡ map (place_at j) (reverse certain) → IsCertainBoundary c nodes places
certain_boundary_of c nodes numbers certain j places are some same is root of_root =
    is ∙ ap (λ (k : Job). map (place_at k) (reverse certain)) same
    ∙ ap (λ ks. map (place_at (job c)) (reverse ks)) some
    ∙ ap (map (place_at (job c))) (reverse_filter (is_certain_in c) numbers)
    ∙ ap (λ ks. map (place_at (job c)) (filter (is_certain_in c) ks)) (are.are root of_root)

-- The nodes as they are read one by one.
module _ (c : Contents) (root : ℕ) (nodes : List Node) (is : IsWholeCone c root nodes) where
  pub as_many : length nodes ≡ length (cone_in c root)
  as_many = sym (length-map nodes place_of_node) ∙ ap length is.places ∙ length-map (cone_in c root) (place_at (job c))

  pub numbers_are : (numbers : List ℕ) (k : Job) (seen : List Node) → numbers ≡ map (number_in k) seen → k ≡ job c
      → seen ≡ nodes → numbers ≡ cone_in c root
  numbers_are numbers k seen made job_is seen_is = made ∙ ap (λ (i : Job). map (number_in i) seen) job_is
      ∙ ap (map (number_in (job c))) seen_is ∙ cone_numbers c root nodes is

  pub nodes_read : (numbers old new : List ℕ) (position : ℕ) (node : Node) → numbers ≡ cone_in c root
      → position < length nodes → node ≡ node_at nodes position → AreRead c numbers position old
      → AddsAll old (read_in c numbers node.body (slice_index numbers position)) new
      → AreRead c numbers (position + 1) new
  nodes_read numbers old new position node same less node_is so adds =
      more_read c numbers (cone_in c root) old new node.body position within body so adds
    where
      within : position < length numbers
      within = omega (arith, less, as_many, ap length same)

      body : IsBody (job c) (certain c.written) (cone_in c root) (slice_index numbers position) (body_of node.body)
      body = subst (λ (n : Node). IsBody (job c) (certain c.written) (cone_in c root) (slice_index numbers position)
          (body_of n.body)) (sym node_is) (subst (λ (ks : List ℕ). IsBody (job c) (certain c.written) (cone_in c root)
          (slice_index ks position) (body_at nodes position)) (sym same) (is.bodies position less))

pub not_true : (b : Bool) → (b ≡ true → ⊥) → false ≡ b
not_true true never = absurd (never refl)
not_true false never = refl

-- Places by their numbers, from behind.
pub back_more : {P : Type 0} (f : ℕ → P) (places : List P) (all now rest : List ℕ) (n : ℕ)
    → places ++ map f (reverse now) ≡ map f (reverse all) → now ≡ rest ++ n ∷ []
    → (places ++ f n ∷ []) ++ map f (reverse rest) ≡ map f (reverse all)
back_more f places all now rest n so is =
    append_assoc places (f n ∷ []) (map f (reverse rest))
    ∙ ap (λ xs. places ++ map f xs) (sym (ap reverse is ∙ reverse-append rest (n ∷ []))) ∙ so

pub all_front : (P : ℕ → Type 0) (xs : List ℕ) (x : ℕ) → AllByRecursion P (xs ++ x ∷ []) → AllByRecursion P xs × P x
all_front P [] x all = (tt, all.0)
all_front P (y ∷ ys) x all = (let rest = all_front P ys x all.1 in ((all.0, rest.0), rest.1))
