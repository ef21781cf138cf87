-- The bits of the nodes of a cone are those of worlds.
use Rattle.std.proofs.Common.{◌≡◌, ℕ, zero, suc, ◌+◌, ◌-◌, ◌<◌, ◌≤◌, ◌&&◌, not, Bool, true, false, List, [], ◌∷◌, ◌++◌, filter, length, map, take, refl, sym, ap, ◌∙◌, subst, arith, add-one, length-append, slice_index_or, slice_index, ⊎_elim}
use Rattle.std.specs.List.{list_any, take-map}
use Rattle.std.proofs.Math.ListN.{get_or-append}
use Rattle.std.proofs.Math.Seq.{get_or-append_seam}
use Rattle.std.proofs.lemmas.Bool.{and_from, and_parts, cases_Bool, cases_eq}
use Rattle.std.proofs.lemmas.List.{get_or-take, length-map, length-take-le}
use Rattle.design_cell.specs.declared.value.Value.TheVariants.{X}
use Rattle.design_cell.specs.Value.{is_unknown}
use Rattle.design_circuit.proofs.Worlds.{decided_known}
use Rattle.design_circuit.specs.declared.place.Place.{Place}
use Rattle.design_circuit.specs.Filling.{IsFilling, bit_of}
use Rattle.design_circuit.specs.Fits.{Fits, place_at}
use Rattle.design_circuit.specs.Job.{places_of}
use Rattle.design_circuit.specs.Waveform.{certain}
use Rattle.design_circuit.specs.World.{bit_at, decided}
use Rattle.law_model.specs.Cone.{in_cone, reads_filling, is_source, sources}
use Rattle.law_model.specs.Mask.{mask_of}
use Rattle.law_model.specs.Node.{node_bit}
use Rattle.law_model.specs.Places.{places_where}
use Rattle.law_model.proofs.BodyGives.{AllTrueWorlds}
use Rattle.law_model.proofs.Cones.{cone_self}
use Rattle.law_model.proofs.PlacesWhere.{among_contains, in_picked, picked_same}
use Rattle.law_model.proofs.SoundWorlds.{true_world}
use Rattle.wave_proved.specs.Contents.{Contents, job, shown_in}
use Rattle.decide_nodes.specs.declared.node.Node.{Node}
use Rattle.decide_nodes.specs.declared.node.NodeBody.{NodeBody as Body}
use Rattle.decide_nodes.specs.declared.node.NodeBody.TheVariants.{Carried, Rule}
use Rattle.decide_nodes.specs.Nodes.{StandsAt, body_at, body_of, is_source_body, is_source_node, no_node, node_at, node_bits, place_of_node, root_bit, sources_before, sources_of}
use Rattle.decide_nodes.specs.Traced.{IsConeOf, kept_places, world_in}
use Rattle.decide_nodes.proofs.NodeSources.{body_born, table_known}
use Rattle.decide_nodes.proofs.NodeWorlds.{node_over}
use Rattle.decide_nodes.proofs.PickedLists.{filters_match, places_both, take_places}

same_element : (xs : List ℕ) (p : ℕ) → slice_index_or xs p (slice_index_or xs p 0) ≡ slice_index_or xs p 0
same_element [] p = refl
same_element (x ∷ xs) zero = refl
same_element (x ∷ xs) (suc p) = same_element xs p

pub last_place : (test : ℕ → Bool) (root : ℕ) → test root ≡ true
    → slice_index (places_where test (root + 1)) (length (places_where test (root + 1)) - 1) ≡ root
last_place test root holds =
    let xs : List ℕ = places_where test root in
    let whole : places_where test (root + 1) ≡ xs ++ root ∷ [] = rw (add-one, holds) refl in
    let long : length (xs ++ root ∷ []) - 1 ≡ length xs =
    (let l = length-append xs (root ∷ []) in omega (arith, l)) in
    rw (whole, long) (get_or-append_seam xs root [] 0)

-- What a node that is no source is given makes no difference.
given_same : (position : ℕ) (body : Body) (bits : ℕ → Bool) (x y : Bool) → StandsAt position body
    → (is_source_body body ≡ true → x ≡ y) → node_bit bits x (body_of body) ≡ node_bit bits y (body_of body)
given_same position (Carried node inverted) bits x y stands same = refl
given_same position (Rule arguments values) bits x y stands same =
    ⊎_elim (λ (some : list_any is_unknown values ≡ true).
    ap (decided (slice_index_or values (mask_of arguments bits) X)) (same some))
    (λ (none : list_any is_unknown values ≡ false). decided_known (slice_index_or values (mask_of arguments bits) X) x y
    (table_known arguments values bits stands.long none)) (cases_Bool (list_any is_unknown values))

node_bits_length : (given : ℕ → Bool) (nodes : List Node) (n : ℕ) → length (node_bits given nodes n) ≡ n
unfolding node_bits
node_bits_length given nodes zero = refl
node_bits_length given nodes (suc n) = let ih = node_bits_length given nodes n in rw length-append (omega (arith, ih))

module _ (c : Contents) (root : ℕ) (nodes : List Node) (is : IsConeOf c root nodes) where
  abbrev pub spots : List ℕ
  spots = kept_places is.kept root

  pub fits : Fits (job c)
  fits = is.wave.fits.fits_job

  pub seen : AllTrueWorlds (job c) c.written root
  seen = true_world (job c) c.limits fits (shown_in c) c.written c.lines is.wave.holds.sound root is.reach.written
      is.reach.within

  pub count : length spots ≡ length nodes
  count = sym (length-map spots (place_at (job c))) ∙ sym (ap length is.places)
      ∙ length-map nodes place_of_node

  pub picked : (p : ℕ) → p < length nodes → (slice_index spots p < root + 1)
      × (in_cone (job c) (certain c.written) root (slice_index spots p) ≡ true)
  picked p less =
      let at = in_picked is.kept (root + 1) (slice_index spots p)
      (among_contains spots (slice_index spots p)
      (p, (let l = count in omega (arith, l, less)), same_element spots p)) in
      (at.0, is.inside (slice_index spots p) at.1)

  -- There is a node at each source.
  pub kept_source : (k : ℕ) → is.kept k && reads_filling (job c) (certain c.written) k
      ≡ is_source (job c) (certain c.written) root k
  kept_source k =
      ⊎_elim (λ (on : is.kept k ≡ true). (rw (on, is.inside k on) refl)) (λ (off : is.kept k ≡ false).
      ap (λ b. b && reads_filling (job c) (certain c.written) k) off
      ∙ ⊎_elim (λ (source : is_source (job c) (certain c.written) root k ≡ true).
      (let parts = and_parts (in_cone (job c) (certain c.written) root k) (reads_filling (job c) (certain c.written) k) source in
      let on = is.variables k (and_from _ _ parts.0 (and_parts _ _ parts.1).0) in
      let e : true ≡ false = sym on ∙ off in cc))
      (λ (none : is_source (job c) (certain c.written) root k ≡ false). sym none)
      (cases_Bool (is_source (job c) (certain c.written) root k))) (cases_Bool (is.kept k))

  kept_root : is.kept root ≡ true
  kept_root = is.variables root (and_from _ _ (cone_self (job c) fits (certain c.written) root is.reach.within)
      (ap not is.free))

  pub place_within : (p : ℕ) → p < length nodes → slice_index spots p < places_of (job c)
  place_within p less = let low = (picked p less).0 in let up = is.reach.within in omega (arith, low, up)

  -- The sources among the nodes are those of the cone.
  pub node_born : (p : ℕ) → p < length nodes
      → is_source_node (node_at nodes p) ≡ reads_filling (job c) (certain c.written) (slice_index spots p)
  node_born p less = body_born (job c) fits (certain c.written) spots (slice_index spots p) p
      (node_at nodes p).body (place_within p less) (is.are_nodes.each p less) (is.bodies p less)

  pub source_place : (p : ℕ) → p < length nodes → is_source_node (node_at nodes p) ≡ true
      → is_source (job c) (certain c.written) root (slice_index spots p) ≡ true
  source_place p less born = and_from _ _ (picked p less).1 (sym (node_born p less) ∙ born)

  node_step : (given : ℕ → Bool) (filling : List Place) → IsFilling (job c) filling → (n : ℕ) → n < length nodes
      → (is_source_node (node_at nodes n) ≡ true → given n ≡ bit_of (job c) filling (slice_index spots n))
      → (bits : ℕ → Bool) → ((p : ℕ) → p < n → bits p ≡ world_in c filling (slice_index spots p))
      → node_bit bits (given n) (body_at nodes n) ≡ world_in c filling (slice_index spots n)
  node_step given filling filled n less own bits before =
      given_same n (node_at nodes n).body bits (given n)
      (bit_of (job c) filling (slice_index spots n)) (is.are_nodes.each n less) own
      ∙ node_over (job c) fits (certain c.written) (bit_of (job c) filling) (world_in c filling) root
      (slice_index spots n) n spots (node_at nodes n).body bits (seen filling filled)
      (let up = (picked n less).0 in omega (arith, up)) (is.are_nodes.each n less) (is.bodies n less)
      (λ p low. (
        (let up = (picked p (omega (arith, low, less))).0 in omega (arith, up)),
        before p low,
      ))

  -- Where each source is given its bit in a filling, the nodes have the bits of the filling's world,
  pub bits_worlds : (given : ℕ → Bool) (filling : List Place) → IsFilling (job c) filling
      → ((p : ℕ) → p < length nodes → is_source_node (node_at nodes p) ≡ true
      → given p ≡ bit_of (job c) filling (slice_index spots p)) → (n : ℕ) → n ≤ length nodes
      → (p : ℕ) → p < n
      → bit_at (node_bits given nodes n) p ≡ world_in c filling (slice_index spots p)
  unfolding node_bits
  bits_worlds given filling filled own zero up p less = absurd (omega arith)
  bits_worlds given filling filled own (suc n) up p less =
      let bits = node_bits given nodes n in
      let bit = node_bit (bit_at bits) (given n) (body_at nodes n) in
      let long : length bits ≡ n = node_bits_length given nodes n in
      let ih = bits_worlds given filling filled own n (omega arith) in
      ⊎_elim (λ (last : p ≡ n).
      (let seam : bit_at (bits ++ bit ∷ []) n ≡ bit = subst (λ k. bit_at (bits ++ bit ∷ []) k ≡ bit) long
      (get_or-append_seam bits bit [] false) in
      rw last (seam ∙ node_step given filling filled n (omega arith) (own n (omega arith)) (bit_at bits) ih)))
      (λ (other : p ≡ n → ⊥). (let inner : p < n = omega (arith, less, other) in
      get_or-append bits (bit ∷ []) false p (omega (arith, long, inner)) ∙ ih p inner)) (cases_eq p n)

  -- and so has the root.
  pub root_world : (given : ℕ → Bool) (filling : List Place) → IsFilling (job c) filling
      → ((p : ℕ) → p < length nodes → is_source_node (node_at nodes p) ≡ true
      → given p ≡ bit_of (job c) filling (slice_index spots p))
      → root_bit given nodes ≡ world_in c filling root
  root_world given filling filled own =
      let some = is.are_nodes.some in
      let last : slice_index spots (length nodes - 1) ≡ root =
      subst (λ n. slice_index spots (n - 1) ≡ root) count
      (last_place is.kept root kept_root) in
      bits_worlds given filling filled own (length nodes) (omega arith) (length nodes - 1) (omega (arith, some))
      ∙ ap (world_in c filling) last

  -- The sources, in place order.
  pub sources_are : sources_of nodes ≡ map (place_at (job c)) (sources (job c) (certain c.written) root)
  sources_are =
      filters_match place_of_node (place_at (job c)) is_source_node (reads_filling (job c) (certain c.written)) no_node 0
      nodes spots is.places (λ p less. node_born p less)
      ∙ ap (map (place_at (job c))) (sym (places_both is.kept (reads_filling (job c) (certain c.written)) (root + 1))
      ∙ picked_same _ (is_source (job c) (certain c.written) root) (root + 1) (λ k less. kept_source k))

  -- How many stand before a place.
  pub sources_counted : (p : ℕ) → p < length nodes
      → sources_before nodes p
      ≡ length (places_where (is_source (job c) (certain c.written) root) (slice_index spots p))
  sources_counted p less =
      let within : p < length spots = (let l = count in omega (arith, l, less)) in
      let born = reads_filling (job c) (certain c.written) in
      let fronts : map place_of_node (take p nodes) ≡ map (place_at (job c)) (take p spots) =
      sym (take-map place_of_node p nodes) ∙ ap (take p) is.places ∙ take-map (place_at (job c)) p spots in
      let match : map place_of_node (filter is_source_node (take p nodes))
      ≡ map (place_at (job c)) (filter born (take p spots)) =
      filters_match place_of_node (place_at (job c)) is_source_node born no_node 0 (take p nodes)
      (take p spots) fronts (λ k low. (let short : length (take p nodes) ≡ p = length-take-le p nodes
      (omega (arith, less)) in let inner : k < p = omega (arith, low, short) in
      ap is_source_node (get_or-take p nodes k no_node inner) ∙ node_born k (omega (arith, inner, less))
      ∙ ap born (sym (get_or-take p spots k 0 inner)))) in
      sym (length-map (filter is_source_node (take p nodes)) place_of_node) ∙ ap length match
      ∙ length-map (filter born (take p spots)) (place_at (job c))
      ∙ ap (λ xs. length (filter born xs)) (take_places is.kept (root + 1) p within)
      ∙ ap length (sym (places_both is.kept born (slice_index spots p))
      ∙ picked_same _ (is_source (job c) (certain c.written) root) (slice_index spots p) (λ k low. kept_source k))
