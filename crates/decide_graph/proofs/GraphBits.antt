-- The bits of the nodes of a graph: by the table of each, with more nodes, and in worlds.
use Rattle.std.proofs.Common.{◌≡◌, ℕ, zero, suc, ◌+◌, ◌<◌, ◌≤◌, Bool, false, List, [], ◌∷◌, ◌++◌, length, map, refl, sym, ap, ◌∙◌, subst, arith, length-append, slice_index, slice_index_or, ⊎_elim}
use Rattle.std.proofs.Math.ListN.{get_or-append}
use Rattle.std.proofs.Math.Seq.{get_or-append_seam}
use Rattle.std.proofs.lemmas.Bool.{cases_eq}
use Rattle.std.proofs.lemmas.List.{length-map}
use Rattle.std.specs.List.{AllByRecursion}
use Rattle.design_cell.specs.declared.value.Value.{Value}
use Rattle.design_cell.specs.declared.value.Value.TheVariants.{X}
use Rattle.design_circuit.specs.declared.place.Place.{Place}
use Rattle.design_circuit.specs.Filling.{IsFilling, bit_of}
use Rattle.design_circuit.specs.Fits.{Fits, place_at}
use Rattle.design_circuit.specs.Waveform.{certain}
use Rattle.design_circuit.specs.World.{bit_at, decided}
use Rattle.law_model.specs.Mask.{mask_of}
use Rattle.law_model.specs.Node.{node_bit}
use Rattle.law_model.proofs.CarryLaw.{TrueWorld}
use Rattle.law_model.proofs.SoundWorlds.{true_world}
use Rattle.decide_nodes.specs.OfWave.{Contents, IsWave, job, shown_in}
use Rattle.decide_nodes.specs.declared.node.Node.{Node}
use Rattle.decide_nodes.specs.declared.node.NodeBody.{NodeBody as Body}
use Rattle.decide_nodes.specs.declared.node.NodeBody.TheVariants.{Carried, Rule}
use Rattle.decide_nodes.specs.Nodes.{body_at, body_of, is_listed, no_node, node_at, node_bits, place_of_node, table_bit}
use Rattle.decide_nodes.specs.Traced.{world_in}
use Rattle.decide_nodes.proofs.ListedPlaces.{listed_bit}
use Rattle.decide_nodes.proofs.NodeWorlds.{all_at, mask_pairs, node_over}
use Rattle.decide_graph.specs.Bits.{WorldLaw, graph_bit, own_bit}
use Rattle.decide_graph.specs.Graph.{AreOrdered, IsGraphOf}
use Rattle.decide_graph.proofs.GraphCones.{maps_at}
use Rattle.decide_graph.proofs.Rising.{rises_upto}

bits_length : (given : ℕ → Bool) (nodes : List Node) (n : ℕ) → length (node_bits given nodes n) ≡ n
unfolding node_bits
bits_length given nodes zero = refl
bits_length given nodes (suc n) = let ih = bits_length given nodes n in rw length-append (omega (arith, ih))

-- The bit of the last of some nodes, and that of an earlier one.
bit_last : (given : ℕ → Bool) (nodes : List Node) (n : ℕ)
    → bit_at (node_bits given nodes (suc n)) n ≡ node_bit (bit_at (node_bits given nodes n)) (given n) (body_at nodes n)
unfolding node_bits
bit_last given nodes n =
    let bits : List Bool = node_bits given nodes n in
    let bit : Bool = node_bit (bit_at bits) (given n) (body_at nodes n) in
    subst (λ k. bit_at (bits ++ bit ∷ []) k ≡ bit) (bits_length given nodes n) (get_or-append_seam bits bit [] false)

bit_before : (given : ℕ → Bool) (nodes : List Node) (n p : ℕ) → p < n
    → bit_at (node_bits given nodes (suc n)) p ≡ bit_at (node_bits given nodes n) p
unfolding node_bits
bit_before given nodes n p less =
    let long = bits_length given nodes n in
    get_or-append (node_bits given nodes n) _ false p (omega (arith, long, less))

bit_stays : (given : ℕ → Bool) (nodes : List Node) (n p : ℕ) → p < n
    → bit_at (node_bits given nodes n) p ≡ bit_at (node_bits given nodes (suc p)) p
bit_stays given nodes zero p less = absurd (omega arith)
bit_stays given nodes (suc n) p less =
    ⊎_elim (λ (last : p ≡ n). ap (λ k. bit_at (node_bits given nodes (suc k)) p) (sym last))
    (λ (other : p ≡ n → ⊥). (let inner : p < n = omega (arith, less, other) in
    bit_before given nodes n p inner ∙ bit_stays given nodes n p inner)) (cases_eq p n)

-- The bit of a node is that of its table, by those of the nodes that it reads.
pub graph_table : (nodes : List Node) (filling : List Place) (node : ℕ) (arguments : List ℕ) (values : List Value)
    → (node_at nodes node).body ≡ Rule arguments values → AllByRecursion (λ a. a < node) arguments
    → graph_bit nodes filling node
    ≡ table_bit arguments values (graph_bit nodes filling) (own_bit nodes filling node)
graph_table nodes filling node arguments values is before =
    bit_last (own_bit nodes filling) nodes node
    ∙ ap (λ (body : Body). node_bit (bit_at (node_bits (own_bit nodes filling) nodes node)) (own_bit nodes filling node)
    (body_of body)) is
    ∙ ap (λ n. decided (slice_index_or values n X) (own_bit nodes filling node))
    (mask_pairs arguments arguments (bit_at (node_bits (own_bit nodes filling) nodes node)) (graph_bit nodes filling) refl
    (λ k less. bit_stays (own_bit nodes filling) nodes node (slice_index arguments k)
    (all_at (λ a. a < node) arguments k before less)))

-- With more nodes the bits of those that were stay.
bits_stay : (old more : List Node) (filling : List Place) (n : ℕ) → n ≤ length old
    → node_bits (own_bit (old ++ more) filling) (old ++ more) n ≡ node_bits (own_bit old filling) old n
unfolding node_bits
bits_stay old more filling zero up = refl
bits_stay old more filling (suc n) up =
    let ih = bits_stay old more filling n (omega arith) in
    let same : node_at (old ++ more) n ≡ node_at old n = get_or-append old more no_node n (omega arith) in
    rw (ih, same) refl

pub graph_stays : (old more : List Node) (filling : List Place) (node : ℕ) → node < length old
    → graph_bit (old ++ more) filling node ≡ graph_bit old filling node
graph_stays old more filling node less =
    ap (λ (bits : List Bool). bit_at bits node) (bits_stay old more filling (suc node) (omega (arith, less)))

-- In a world.
module _ (c : Contents) (nodes : List Node) (numbers : List ℕ) (filling : List Place) (top : ℕ) (wave : IsWave c)
    (ordered : AreOrdered nodes) (graph : IsGraphOf c nodes numbers) (filled : IsFilling (job c) filling)
    (less : top < length nodes) where
  fits : Fits (job c)
  fits = wave.fits.fits_job

  count : length numbers ≡ length nodes
  count = sym (length-map numbers (place_at (job c))) ∙ sym (ap length graph.places) ∙ length-map nodes place_of_node

  seen : TrueWorld (job c) (certain c.written) (bit_of (job c) filling) (world_in c filling) (slice_index numbers top)
  seen = true_world (job c) c.limits fits (shown_in c) c.written c.lines wave.holds.sound (slice_index numbers top)
      (graph.reach top less).written (graph.reach top less).within filling filled

  upto_top : (n : ℕ) → n ≤ top → slice_index numbers n ≤ slice_index numbers top
  upto_top n up = rises_upto numbers n top graph.rises up (let all = count in omega (arith, less, all))

  own_is : (n : ℕ) → n < length nodes → own_bit nodes filling n ≡ bit_of (job c) filling (slice_index numbers n)
  own_is n low =
      ap (is_listed filling) (maps_at place_of_node (place_at (job c)) nodes numbers no_node 0 n graph.places low)
      ∙ listed_bit (job c) fits.ordering fits.all (slice_index numbers n) (graph.reach n low).within filling filled

  node_is : (n : ℕ) → n ≤ top → (bits : ℕ → Bool) → ((p : ℕ) → p < n → bits p ≡ world_in c filling (slice_index numbers p))
      → node_bit bits (own_bit nodes filling n) (body_at nodes n) ≡ world_in c filling (slice_index numbers n)
  node_is n up bits before =
      let low : n < length nodes = omega (arith, up, less) in
      ap (λ own. node_bit bits own (body_at nodes n)) (own_is n low)
      ∙ node_over (job c) fits (certain c.written) (bit_of (job c) filling) (world_in c filling) (slice_index numbers top)
      (slice_index numbers n) n numbers (node_at nodes n).body bits seen (upto_top n up) (ordered.each n low)
      (graph.bodies n low) (λ p under. (upto_top p (omega (arith, under, up)), before p under))

  bits_are : (n : ℕ) → n ≤ suc top → (p : ℕ) → p < n
      → bit_at (node_bits (own_bit nodes filling) nodes n) p ≡ world_in c filling (slice_index numbers p)
  bits_are zero up p low = absurd (omega arith)
  bits_are (suc n) up p low =
      ⊎_elim (λ (last : p ≡ n). rw last (bit_last (own_bit nodes filling) nodes n
      ∙ node_is n (omega arith) (bit_at (node_bits (own_bit nodes filling) nodes n)) (bits_are n (omega arith))))
      (λ (other : p ≡ n → ⊥). (let inner : p < n = omega (arith, low, other) in
      bit_before (own_bit nodes filling) nodes n p inner ∙ bits_are n (omega arith) p inner)) (cases_eq p n)

pub world_law : WorldLaw
world_law c nodes numbers filling node wave ordered graph filled less =
    bits_are c nodes numbers filling node wave ordered graph filled less (suc node) (omega arith) node (omega arith)
