-- The laws of the nodes of a cone.
use Rattle.std.proofs.Common.{◌≡◌, ℕ, zero, suc, ◌+◌, ◌<◌, ◌^◌, Bool, true, false, List, [], ◌∷◌, ◌++◌, filter, length, refl, sym, ap, ◌∙◌, subst, arith, length-append, if◌then◌else◌, slice_index_or, slice_index, ⊎_elim}
use Rattle.std.proofs.Math.ListN as list
use Rattle.std.proofs.Math.ListN.{get_or-append}
use Rattle.std.proofs.Math.Seq.{get_or-append_seam}
use Rattle.std.proofs.lemmas.Bool.{cases_eq}
use Rattle.std.proofs.lemmas.List.{get_or-map, length-map}
use Rattle.design_circuit.proofs.Exact.{empty_filling}
use Rattle.design_circuit.specs.declared.place.Place.{Place}
use Rattle.design_circuit.specs.Filling.{IsFilling, bit_of}
use Rattle.design_circuit.specs.Fits.{place_at}
use Rattle.design_circuit.specs.Waveform.{certain}
use Rattle.law_model.specs.Cone.{is_source, source_filling, sources}
use Rattle.law_model.specs.Line.{IsOfSources}
use Rattle.law_model.specs.Mask.{masked}
use Rattle.law_model.specs.Places.{places_where}
use Rattle.law_model.proofs.FoundFillings.{numbers_enumerate}
use Rattle.law_model.proofs.PlacesWhere.{picked_rises}
use Rattle.law_model.proofs.SourceFillings.{source_among, source_filling_is, source_given, sources_alone}
use Rattle.wave_proved.specs.Contents.{Contents, job}
use Rattle.decide_nodes.specs.declared.node.Node.{Node}
use Rattle.decide_nodes.specs.Nodes.{by_sources, chosen, is_listed, is_source_node, no_node, node_at, nothing, number_bits, place_of_node, source_at, sources_before, sources_of}
use Rattle.decide_nodes.specs.Traced.{BaseLaw, ChosenLaw, EnumeratedLaw, IsConeOf, ListedLaw, SourcesLaw, world_in}
use Rattle.decide_nodes.proofs.ConeBits.{count, fits, picked, place_within, root_world, seen, source_place, sources_are, sources_counted, spots}
use Rattle.decide_nodes.proofs.ListedPlaces.{listed_bit}
use Rattle.decide_nodes.proofs.NodeSources.{masked_at}
use Rattle.decide_nodes.proofs.PickedLists.{chosen_places, filter_position}
use Rattle.decide_nodes.proofs.RisingNumbers.{place_position}

pub sources_law : SourcesLaw
sources_law c root nodes is = sources_are c root nodes is

-- Bits that are counted along the sources, by place.
along_sources : Contents → ℕ → (ℕ → Bool) → ℕ → Bool
along_sources c root bits place = bits (length (places_where (is_source (job c) (certain c.written) root) place))

chosen_is : (c : Contents) (root : ℕ) (nodes : List Node) (bits : ℕ → Bool) → IsConeOf c root nodes
    → chosen (sources_of nodes) bits
    ≡ source_filling (job c) (certain c.written) root (along_sources c root bits)
unfolding along_sources
chosen_is c root nodes bits is =
    ap (λ places. chosen places bits) (sources_are c root nodes is)
    ∙ chosen_places (place_at (job c)) (is_source (job c) (certain c.written) root) bits (root + 1)

pub chosen_law : ChosenLaw
unfolding along_sources
chosen_law c root nodes bits is =
    let sb : ℕ → Bool = along_sources c root bits in
    let own : List Place = source_filling (job c) (certain c.written) root sb in
    let same : own ≡ chosen (sources_of nodes) bits = sym (chosen_is c root nodes bits is) in
    let within = is.reach.within in
    let ok = fits c root nodes is in
    let filled : IsFilling (job c) own = source_filling_is (job c) ok (certain c.written) root sb within in
    record {
      filling = subst (IsFilling (job c)) same filled;
      alone = subst (IsOfSources (job c) c.written root) same (λ k listed.
          source_among (job c) ok (certain c.written) root k within
          (sources_alone (job c) ok (certain c.written) root sb k within listed));
      world = ap (λ filling. world_in c filling root) (sym same)
          ∙ sym (root_world c root nodes is (by_sources nodes bits) own filled (λ p less born.
          ap bits (sources_counted c root nodes is p less)
          ∙ sym (source_given (job c) ok (certain c.written) root sb (slice_index (spots c root nodes is) p) within
          (source_place c root nodes is p less born))));
    }

pub base_law : BaseLaw
base_law c root nodes is =
    root_world c root nodes is nothing [] (empty_filling (job c)) (λ p less born. refl)

-- A node that is a source is one of the sources, in its place.
source_within : (c : Contents) (root : ℕ) (nodes : List Node) → IsConeOf c root nodes → (p : ℕ) → p < length nodes
    → is_source_node (node_at nodes p) ≡ true → sources_before nodes p < length (sources_of nodes)
source_within c root nodes is p less born =
    let is_one = is_source (job c) (certain c.written) root in
    let place : ℕ = slice_index (spots c root nodes is) p in
    let at = place_position is_one (root + 1) place (picked c root nodes is p less).0
    (source_place c root nodes is p less born) in
    let low = at.0 in
    let before = sources_counted c root nodes is p less in
    let long = ap length (sources_are c root nodes is)
    ∙ length-map (sources (job c) (certain c.written) root) (place_at (job c)) in
    omega (arith, low, before, long)

place_of_source : (c : Contents) (root : ℕ) (nodes : List Node) (is : IsConeOf c root nodes) (p : ℕ) → p < length nodes
    → is_source_node (node_at nodes p) ≡ true
    → source_at nodes (sources_before nodes p) ≡ place_at (job c) (slice_index (spots c root nodes is) p)
place_of_source c root nodes is p less born =
    list.get_or-map place_of_node (filter is_source_node nodes) (sources_before nodes p) no_node
    ∙ ap place_of_node (filter_position is_source_node no_node nodes p less born)
    ∙ sym (list.get_or-map place_of_node nodes p no_node) ∙ ap (λ xs. slice_index_or xs p no_node.place) is.places
    ∙ get_or-map (place_at (job c)) (spots c root nodes is) p 0 no_node.place
    (let l = count c root nodes is in omega (arith, l, less))

pub listed_law : ListedLaw
listed_law c root nodes filling bits is filled listed =
    root_world c root nodes is (by_sources nodes bits) filling filled (λ p less born.
    listed (sources_before nodes p) (source_within c root nodes is p less born)
    ∙ ap (is_listed filling) (place_of_source c root nodes is p less born)
    ∙ listed_bit (job c) (fits c root nodes is).ordering (fits c root nodes is).all (slice_index (spots c root nodes is) p)
    (place_within c root nodes is p less) filling filled)

pub enumerated_law : EnumeratedLaw
enumerated_law c root nodes bit is few each =
    numbers_enumerate (job c) c.limits (fits c root nodes is) c.written root bit is.reach.within (seen c root nodes is)
    (let l = long in omega (arith, l, few)) (λ number small.
    sym (root_world c root nodes is (by_sources nodes (number_bits number)) (own number)
    (source_filling_is (job c) (fits c root nodes is) (certain c.written) root (masked all number) is.reach.within)
    (λ p less born. given number p less born))
    ∙ each number (let l = long in subst (λ n. number < 2 ^ n) (sym l) small))
  where
    all : List ℕ
    all = sources (job c) (certain c.written) root

    long : length (sources_of nodes) ≡ length all
    long = ap length (sources_are c root nodes is) ∙ length-map all (place_at (job c))

    own : ℕ → List Place
    own number = source_filling (job c) (certain c.written) root (masked all number)

    given : (number p : ℕ) → p < length nodes → is_source_node (node_at nodes p) ≡ true
        → by_sources nodes (number_bits number) p ≡ bit_of (job c) (own number) (slice_index (spots c root nodes is) p)
    given number p less born =
        let is_one = is_source (job c) (certain c.written) root in
        let place : ℕ = slice_index (spots c root nodes is) p in
        let one : is_one place ≡ true = source_place c root nodes is p less born in
        let at = place_position is_one (root + 1) place (picked c root nodes is p less).0 one in
        ap (number_bits number) (sources_counted c root nodes is p less)
        ∙ sym (masked_at all number (length (places_where is_one place)) (picked_rises is_one (root + 1)) at.0)
        ∙ ap (masked all number) at.1
        ∙ sym (source_given (job c) (fits c root nodes is) (certain c.written) root (masked all number) place
        is.reach.within one)
