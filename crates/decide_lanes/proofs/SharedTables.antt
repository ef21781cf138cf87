-- Tables that nodes share, as nodes come in and as the wave grows, and what they show of the next place.
use Rattle.std.proofs.Common.{◌≡◌, ℕ, ◌+◌, ◌*◌, ◌/◌, ◌%◌, ◌^◌, ◌<◌, ◌≤◌, ◌==◌, ◌&&◌, cond, not, Bool, true, false, List, [], ◌∷◌, Option, None, Some, IfSome, filter, length, map, refl, sym, ap, ◌∙◌, subst, arith, ⊎_elim, if◌then◌else◌}
use Rattle.std.proofs.Math.Numerals.{add-one}
use Rattle.std.proofs.Math.Path.{fun_ext}
use Rattle.std.specs.List.{AllByRecursion}
use Rattle.std.specs.List.Sorted.{IsStrictlyIncreasing}
use Rattle.std.proofs.lemmas.Bool.{eqb-true, or_cases}
use Rattle.std.proofs.lemmas.List.{length-map}
use Rattle.std.proofs.lemmas.Map.Views.{any-filter_same}
use Rattle.std.proofs.lemmas.Nat.Bits.{bit_at-suc, bit_at_lowest}
use Rattle.design_cell.specs.declared.value.Value.{Value}
use Rattle.design_circuit.specs.declared.place.Place.{Place}
use Rattle.design_circuit.specs.Filling.{IsFilling, bit_of}
use Rattle.design_circuit.specs.Fits.{Fits, place_at}
use Rattle.design_circuit.specs.Job.{Job, places_of}
use Rattle.design_circuit.specs.Waveform.{GivesBoth, certain}
use Rattle.design_circuit.proofs.Exact.{empty_filling}
use Rattle.design_circuit.proofs.Numbers.{bit_of_at, filling_at}
use Rattle.law_model.specs.Cone.{is_source}
use Rattle.law_model.specs.Mask.{mask_of}
use Rattle.law_model.specs.Places.{among}
use Rattle.law_model.specs.declared.line.Body.TheVariants.{Enumerated}
use Rattle.law_model.proofs.AssignmentNumbers.{mask_small}
use Rattle.law_model.proofs.Cones.{cone_self}
use Rattle.law_model.proofs.LawProofs.{sources_decide}
use Rattle.law_model.proofs.PlacesWhere.{all_among, among_all, or_right, picked_rises}
use Rattle.law_model.proofs.SourceFillings.{source_among}
use Rattle.decide_nodes.proofs.RisingNumbers.{Rises, rises}
use Rattle.wave_proved.specs.Contents.{Contents, IsWave, job, next_number, shown_in}
use Rattle.wave_proved.specs.Token.{HasNext, HoldsNext}
use Rattle.decide_nodes.specs.declared.node.Node.{Node}
use Rattle.decide_nodes.specs.Nodes.{chosen, number_bits}
use Rattle.decide_nodes.specs.Traced.{world_in}
use Rattle.decide_graph.proofs.GraphBits.{world_law}
use Rattle.decide_graph.specs.Bits.{graph_bit}
use Rattle.decide_graph.specs.declared.node_root.NodeRoot.{NodeRoot}
use Rattle.decide_tables.proofs.RightTables.{stay_law}
use Rattle.decide_tables.specs.Other.{IsOther, IsSame}
use Rattle.decide_tables.specs.Tables.{AreTablesOf, AreTablesOfAny, TablesView, filling_by}
use Rattle.decide_tables.specs.declared.other.Other.{Other}
use Rattle.decide_lane_nodes.specs.Made.{AreSourcesIn}
use Rattle.decide_lane_nodes.specs.Union.{IsUnion}
use Rattle.decide_lane_nodes.proofs.Unions.{increases}
use Rattle.decide_lanes.specs.Graphs.{GrowsBy}
use Rattle.decide_lanes.specs.Pairs.{bit_under}
use Rattle.decide_lanes.specs.Shared.{AreListable, ListsAll, IsListIn, IsNextIn, IsOtherNext, IsSharedIn, SharedView}
use Rattle.decide_lanes.specs.Shown.{GivesNext}
use Rattle.decide_lanes.proofs.LanePairs.{sources_low}

-- A list without tables.
no_tables : (graph : Option (List Node)) (tables : TablesView) → AreTablesOfAny tables
    → IfSome graph (λ nodes. AreTablesOf nodes tables)
no_tables None tables right = tt
no_tables (Some nodes) tables right = right nodes

pub shared_listed : (c : Contents) (graph : Option (List Node)) (numbers : List ℕ) (tables : TablesView)
    → AreListable c numbers → tables.list ≡ map (place_at (job c)) numbers → AreTablesOfAny tables
    → IsSharedIn c graph (record { numbers = numbers; tables = tables })
shared_listed c graph numbers tables are places right = record {
  list = record { numbers = are; places = places };
  tables = no_tables graph tables right;
}

pub shared_empty : (c : Contents) (graph : Option (List Node)) (numbers : List ℕ) (tables : TablesView) → numbers ≡ []
    → tables.list ≡ [] → AreTablesOfAny tables → IsSharedIn c graph (record { numbers = numbers; tables = tables })
shared_empty c graph numbers tables none places right =
    shared_listed c graph numbers tables
    (subst (AreListable c) (sym none) (record { rises = λ k less. absurd (omega (arith, less)); within = tt }))
    (places ∙ ap (map (place_at (job c))) (sym none)) right

-- They stay right as a node comes in,
pub shared_grows : (c : Contents) (place : Place) (roots : List NodeRoot) (values : List Value)
    (old new : Option (List Node)) (shared : SharedView) → GrowsBy old place roots values new → IsSharedIn c old shared
    → IsSharedIn c new shared
shared_grows c place roots values old None shared grows is = record { list = is.list; tables = tt }
shared_grows c place roots values None (Some new) shared grows is = absurd grows
shared_grows c place roots values (Some old) (Some new) shared grows is = record {
  list = is.list;
  tables = subst (λ (nodes : List Node). AreTablesOf nodes shared.tables) (sym grows.adds.nodes)
      (stay_law old _ shared.tables is.tables);
}

-- and whatever is written.
listable_moves : (c d : Contents) (numbers : List ℕ) → job d ≡ job c → AreListable c numbers → AreListable d numbers
listable_moves c d numbers same are = record {
  rises = are.rises;
  within = subst (λ (j : Job). AllByRecursion (λ k. k < places_of j) numbers) (sym same) are.within;
}

pub shared_moves : (c d : Contents) (graph : Option (List Node)) (shared : SharedView) → job d ≡ job c
    → IsSharedIn c graph shared → IsSharedIn d graph shared
shared_moves c d graph shared same is = record {
  list = record {
    numbers = listable_moves c d shared.numbers same is.list.numbers;
    places = is.list.places ∙ ap (λ (j : Job). map (place_at j) shared.numbers) (sym same);
  };
  tables = is.tables;
}

-- The sources of a place can be listed, and so can two lists together.
pub sources_listable : (c : Contents) (place : ℕ) (list : List ℕ) → place < places_of (job c) → AreSourcesIn c place list
    → AreListable c list
sources_listable c place list within are = record {
  rises = subst IsStrictlyIncreasing (sym are) (picked_rises (is_source (job c) (certain c.written) place) (place + 1));
  within = sources_low c place list within are;
}

pub union_listable : (c : Contents) (some others all : List ℕ) → AreListable c some → AreListable c others
    → IsUnion some others all → AreListable c all
union_listable c some others all first second is = record {
  rises = is.rises;
  within = among_all (λ k. k < places_of (job c)) all (λ k at.
      ⊎_elim (λ (e : among some k ≡ true). all_among (λ k. k < places_of (job c)) some k first.within e)
      (λ (e : among others k ≡ true). all_among (λ k. k < places_of (job c)) others k second.within e)
      (or_cases (among some k) (among others k) (sym (is.are k) ∙ at)));
}

-- What bits choose of numbers.
abbrev picked : List ℕ → (ℕ → Bool) → List ℕ
picked [] bits = []
picked (x ∷ xs) bits = if bits 0 then x ∷ picked xs (λ k. bits (k + 1)) else picked xs (λ k. bits (k + 1))

chosen_map : (f : ℕ → Place) (xs : List ℕ) (bits : ℕ → Bool) → chosen (map f xs) bits ≡ map f (picked xs bits)
chosen_map f [] bits = refl
chosen_map f (x ∷ xs) bits = step (bits 0) (chosen_map f xs (λ k. bits (k + 1)))
  where
    step : (b : Bool) → chosen (map f xs) (λ k. bits (k + 1)) ≡ map f (picked xs (λ k. bits (k + 1)))
        → (if b then f x ∷ chosen (map f xs) (λ k. bits (k + 1)) else chosen (map f xs) (λ k. bits (k + 1)))
        ≡ map f (if b then x ∷ picked xs (λ k. bits (k + 1)) else picked xs (λ k. bits (k + 1)))
    step true ih = ap (λ zs. f x ∷ zs) ih
    step false ih = ih

picked_all : (P : ℕ → Type 0) (xs : List ℕ) (bits : ℕ → Bool) → AllByRecursion P xs → AllByRecursion P (picked xs bits)
picked_all P [] bits all = tt
picked_all P (x ∷ xs) bits all = step (bits 0) (picked_all P xs (λ k. bits (k + 1)) all.1)
  where
    step : (b : Bool) → AllByRecursion P (picked xs (λ k. bits (k + 1)))
        → AllByRecursion P (if b then x ∷ picked xs (λ k. bits (k + 1)) else picked xs (λ k. bits (k + 1)))
    step true ih = (all.0, ih)
    step false ih = ih

picked_up : (xs : List ℕ) (bits : ℕ → Bool) → Rises xs → Rises (picked xs bits)
picked_up [] bits up = tt
picked_up (x ∷ xs) bits up =
    step (bits 0) (picked_all (λ y. x < y) xs (λ k. bits (k + 1)) up.0) (picked_up xs (λ k. bits (k + 1)) up.1)
  where
    step : (b : Bool) → AllByRecursion (λ y. x < y) (picked xs (λ k. bits (k + 1))) → Rises (picked xs (λ k. bits (k + 1)))
        → Rises (if b then x ∷ picked xs (λ k. bits (k + 1)) else picked xs (λ k. bits (k + 1)))
    step true above ih = (above, ih)
    step false above ih = ih

-- What the number of a filling lists is a filling.
number_filling : (c : Contents) (shared : SharedView) (number : ℕ) → IsWave c → IsListIn c shared
    → IsFilling (job c) (filling_by shared.tables.list number)
number_filling c shared number wave is =
    let fits = wave.fits.fits_job in
    let bits : ℕ → Bool = number_bits number in
    subst (IsFilling (job c))
    (sym (ap (λ (list : List Place). chosen list bits) is.places ∙ chosen_map (place_at (job c)) shared.numbers bits))
    (filling_at (job c) (picked shared.numbers bits) fits.ordering fits.all
    (picked_all (λ k. k < places_of (job c)) shared.numbers bits is.numbers.within)
    (increases (picked shared.numbers bits) (picked_up shared.numbers bits (rises shared.numbers is.numbers.rises))))

-- What tables show of the node of the next place.
pub other_next : (c : Contents) (nodes : List Node) (shared : SharedView) (node : ℕ) (other : Other) → IsWave c
    → IsListIn c shared → IsNextIn c node nodes → IsOther nodes shared.tables.list node other → IsOtherNext c other
other_next c nodes shared node other wave list next is =
    let filled : IsFilling (job c) other.filling =
    subst (IsFilling (job c)) (sym is.filling) (number_filling c shared is.number wave list) in
    record {
      filled = filled;
      empty = is.empty ∙ world [] (empty_filling (job c));
      differs = sym (world other.filling filled) ∙ is.differs;
    }
  where
    world : (filling : List Place) → IsFilling (job c) filling → graph_bit nodes filling node ≡ bit_under c filling
    world filling filled =
        world_law c nodes next.numbers filling node wave next.ordered next.is_graph filled next.within
        ∙ ap (world_in c filling) next.is

-- The number of the bits of some numbers chooses those that have 1.
low_bit : (b : Bool) (m : ℕ) → number_bits (cond b 1 0 + 2 * m) 0 ≡ b
low_bit true m =
    let e : (1 + 2 * m) % 2 ≡ 1 = omega arith in ap (λ bit. bit == 1) (bit_at_lowest (1 + 2 * m) ∙ e)
low_bit false m =
    let e : (0 + 2 * m) % 2 ≡ 0 = omega arith in ap (λ bit. bit == 1) (bit_at_lowest (0 + 2 * m) ∙ e)

rest_of : (b : Bool) (m : ℕ) → (cond b 1 0 + 2 * m) / 2 ≡ m
rest_of true m = omega arith
rest_of false m = omega arith

high_bits : (b : Bool) (m : ℕ) → (λ (k : ℕ). number_bits (cond b 1 0 + 2 * m) (k + 1)) ≡ number_bits m
high_bits b m = fun_ext (λ k. ap (number_bits (cond b 1 0 + 2 * m)) (add-one k)
    ∙ ap (λ bit. bit == 1) (bit_at-suc (cond b 1 0 + 2 * m) k) ∙ ap (λ n. number_bits n k) (rest_of b m))

picked_mask : (xs : List ℕ) (bits : ℕ → Bool) → picked xs (number_bits (mask_of xs bits)) ≡ filter bits xs
picked_mask [] bits = refl
picked_mask (x ∷ xs) bits =
    rw (low_bit (bits x) (mask_of xs bits), high_bits (bits x) (mask_of xs bits), picked_mask xs bits) refl

-- So each filling gives the places of a list the bits that the filling of a number gives them.
module _ (c : Contents) (shared : SharedView) (filling : List Place) (wave : IsWave c) (list : IsListIn c shared) where
  abbrev j : Job
  j = job c

  abbrev bits : ℕ → Bool
  bits = bit_of j filling

  abbrev own_number : ℕ
  own_number = mask_of shared.numbers bits

  abbrev own : List Place
  own = filling_by shared.tables.list own_number

  number_small : own_number < 2 ^ length shared.tables.list
  number_small =
      let long : length shared.tables.list ≡ length shared.numbers =
      ap length list.places ∙ length-map shared.numbers (place_at j) in
      subst (λ n. own_number < 2 ^ n) (sym long) (mask_small shared.numbers bits)

  own_picked : own ≡ map (place_at j) (picked shared.numbers (number_bits own_number))
  own_picked = ap (λ (places : List Place). chosen places (number_bits own_number)) list.places
      ∙ chosen_map (place_at j) shared.numbers (number_bits own_number)

  own_bit : (k : ℕ) → among shared.numbers k ≡ true → bit_of j own k ≡ bits k
  own_bit k listed =
      let fits = wave.fits.fits_job in
      let chosen_ones : List ℕ = picked shared.numbers (number_bits own_number) in
      ap (λ f. bit_of j f k) own_picked
      ∙ bit_of_at j chosen_ones k fits.ordering fits.all
      (picked_all (λ i. i < places_of j) shared.numbers (number_bits own_number) list.numbers.within)
      ∙ ap (λ xs. among xs k) (picked_mask shared.numbers bits)
      ∙ any-filter_same (λ i. i == k) bits (bits k) (λ i same. ap bits (eqb-true i k same)) shared.numbers
      ∙ rw listed (and_true (bits k))
    where
      and_true : (b : Bool) → b && true ≡ b
      and_true true = refl
      and_true false = refl

-- What the node of the next place has under each number it has under each filling, where the list has its sources.
pub gives_next : (c : Contents) (nodes : List Node) (shared : SharedView) (node : ℕ) (bit : Bool) (sources : List ℕ)
    → IsWave c → HasNext c → IsListIn c shared → IsNextIn c node nodes → AreSourcesIn c (next_number c) sources
    → ListsAll sources shared → IsSame nodes shared.tables.list node bit → GivesNext c bit
gives_next c nodes shared node bit sources wave within list next are listed same filling filled =
    sources_decide (job c) c.limits (shown_in c) c.written c.lines fits wave.holds.sound (next_number c) (next_number c)
    filling other (record { written = omega arith; within = within }) filled other_filled alike
    (cone_self (job c) fits (certain c.written) (next_number c) within)
    ∙ ap (world_in c other) (sym next.is)
    ∙ sym (world_law c nodes next.numbers other node wave next.ordered next.is_graph other_filled next.within)
    ∙ same (mask_of shared.numbers (bit_of (job c) filling)) (number_small c shared filling wave list)
  where
    fits : Fits (job c)
    fits = wave.fits.fits_job

    other : List Place
    other = filling_by shared.tables.list (mask_of shared.numbers (bit_of (job c) filling))

    other_filled : IsFilling (job c) other
    other_filled = number_filling c shared (mask_of shared.numbers (bit_of (job c) filling)) wave list

    alike : (k : ℕ) → is_source (job c) (certain c.written) (next_number c) k ≡ true
        → bit_of (job c) filling k ≡ bit_of (job c) other k
    alike k source =
        sym (own_bit c shared filling wave list k (listed k (subst (λ xs. among xs k ≡ true) (sym are)
        (source_among (job c) fits (certain c.written) (next_number c) k within source))))

-- Where that has few sources, this is an enumeration.
pub few_enumerated : (c : Contents) (bit : Bool) (sources : List ℕ) → AreSourcesIn c (next_number c) sources
    → length sources ≤ c.limits.enumerated → GivesNext c bit → HoldsNext c (Enumerated bit)
few_enumerated c bit sources are few gives = record {
  few = subst (λ xs. length xs ≤ c.limits.enumerated) are few;
  each = λ filling filled alone. gives filling filled;
}

-- A union has each of the two lists.
pub union_listed : (some others all : List ℕ) → IsUnion some others all → (k : ℕ) → among others k ≡ true
    → among all k ≡ true
union_listed some others all is k listed = is.are k ∙ or_right (among some k) (among others k) listed

-- So the two fillings are a pair.
pub both_up : (c : Contents) (other : Other) → IsOtherNext c other → other.empty ≡ false
    → GivesBoth (job c) c.written (next_number c) (record { zero = []; one = other.filling })
both_up c other is zeroed = record {
  zero_filling = empty_filling (job c);
  one_filling = is.filled;
  gives_zero = sym is.empty ∙ zeroed;
  gives_one = is.differs ∙ ap not zeroed;
}

pub both_down : (c : Contents) (other : Other) → IsOtherNext c other → other.empty ≡ true
    → GivesBoth (job c) c.written (next_number c) (record { zero = other.filling; one = [] })
both_down c other is one = record {
  zero_filling = is.filled;
  one_filling = empty_filling (job c);
  gives_zero = is.differs ∙ ap not one;
  gives_one = sym is.empty ∙ one;
}
