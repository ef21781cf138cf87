-- Nodes that are equal have equal places, and what is written at the one place shows the other.
use Rattle.std.proofs.Common.{◌≡◌, ℕ, ◌+◌, ◌-◌, ◌<◌, Bool, List, Option, None, Some, IfSome, length, slice_index, slice_index_or, refl, sym, ap, ◌∙◌, subst, arith}
use Rattle.design_cell.specs.declared.value.Value.{Value}
use Rattle.design_cell.specs.declared.value.Value.TheVariants.{Zero, One, X, Z}
use Rattle.design_cell.specs.Value.{IsKnown, bit_value}
use Rattle.design_circuit.specs.declared.place.Place.{Place}
use Rattle.design_circuit.specs.Fits.{place_at}
use Rattle.design_circuit.specs.Job.{number_of}
use Rattle.design_circuit.specs.Waveform.{GivesBoth, certain}
use Rattle.design_circuit.specs.World.{decided}
use Rattle.design_circuit.proofs.Numbers.{is_place_at, number_of_place_at}
use Rattle.law_model.specs.Mask.{mask_of}
use Rattle.law_model.specs.Stated.{pair_of}
use Rattle.law_model.proofs.SoundWorlds.{certain_settles}
use Rattle.wave_proved.specs.Contents.{Contents, IsWave, IsWritten, job, next_number, shown_in}
use Rattle.wave_proved.specs.Pairs.{GiveBoth}
use Rattle.wave_proved.specs.Token.{HasNext}
use Rattle.decide_nodes.specs.declared.node.Node.{Node}
use Rattle.decide_nodes.specs.Nodes.{StandsAt}
use Rattle.decide_nodes.specs.Traced.{IsConeOf, world_in}
use Rattle.decide_nodes.proofs.NodeSources.{table_known}
use Rattle.decide_graph.proofs.GraphBits.{graph_table, world_law}
use Rattle.decide_graph.specs.Bits.{graph_bit, own_bit}
use Rattle.decide_graph.specs.Graph.{AreOrdered}
use Rattle.decide_lane_nodes.specs.Nodes.{node_at, numbers_of}
use Rattle.decide_lane_nodes.proofs.ArgumentRoots.{number_at, numbers_long}
use Rattle.decide_lanes.specs.Equal.{AreEqual, AreEqualIn, EqualLaw}
use Rattle.decide_lanes.specs.Graphs.{IsGraphIn}
use Rattle.decide_lanes.specs.Lanes.{IsLookedAt, IsRightOf, LanesView}
use Rattle.decide_lanes.specs.Shown.{GivesNext, HasNextBits, HasNextCone}
use Rattle.decide_lanes.proofs.EqualCones.{same_cones}
use Rattle.decide_lanes.proofs.GraphNodes.{graph_long, next_node}

-- A known value leaves nothing to a filling.
decided_known : (v : Value) (first second : Bool) → IsKnown v → decided v first ≡ decided v second
decided_known Zero first second known = refl
decided_known One first second known = refl
decided_known X first second known = absurd known
decided_known Z first second known = absurd known

bits_equal : (nodes : List Node) (node other : ℕ) (filling : List Place) → AreOrdered nodes → node < length nodes
    → AreEqual nodes node other → graph_bit nodes filling node ≡ graph_bit nodes filling other
bits_equal nodes node other filling ordered within equal =
    let own_table = subst (StandsAt node) equal.own (ordered.each node within) in
    let other_table = subst (StandsAt other) equal.same (ordered.each other equal.within) in
    graph_table nodes filling node equal.arguments equal.values equal.own own_table.before
    ∙ decided_known (slice_index_or equal.values (mask_of equal.arguments (graph_bit nodes filling)) X)
    (own_bit nodes filling node) (own_bit nodes filling other)
    (table_known equal.arguments equal.values (graph_bit nodes filling) own_table.long equal.known)
    ∙ sym (graph_table nodes filling other equal.arguments equal.values equal.same other_table.before)

pub equal_law : EqualLaw
equal_law c nodes numbers node other filling wave ordered graph within equal filled =
    sym (world_law c nodes numbers filling node wave ordered graph filled within)
    ∙ bits_equal nodes node other filling ordered within equal
    ∙ world_law c nodes numbers filling other wave ordered graph filled equal.within

-- So the place of a node that is equal to that of the next place has the bits of this.
pub next_bits : (c : Contents) (lanes : LanesView) (node other : ℕ) → IsWave c → IsRightOf c lanes → IsLookedAt c lanes
    → lanes.next ≡ Some node → AreEqualIn lanes.graph (node - 1) other
    → HasNextBits c (node_at lanes.nodes (other + 1)).place
next_bits c lanes node other wave right looked is equal filling filled = by lanes.graph right.graph equal
  where
    numbers : List ℕ
    numbers = numbers_of lanes.nodes

    by : (graph : Option (List Node)) → IfSome graph (IsGraphIn c lanes.nodes) → AreEqualIn graph (node - 1) other
        → world_in c filling (next_number c) ≡ world_in c filling (node_at lanes.nodes (other + 1)).place
    by None holds equal = absurd equal
    by (Some graph) holds equal =
        let next = next_node c lanes node right is in
        let all = graph_long c lanes.nodes graph holds in
        let long = numbers_long lanes.nodes in
        let some = next.holds.some in
        let low = next.holds.within in
        let far = equal.within in
        let back : other + 1 - 1 ≡ other = omega arith in
        ap (world_in c filling) (sym (number_at lanes.nodes node some low ∙ next.holds.own ∙ looked.all))
        ∙ equal_law c graph numbers (node - 1) other filling wave holds.ordered holds.is_graph
        (omega (arith, all, long, some, low)) equal filled
        ∙ ap (world_in c filling) (ap (slice_index numbers) (sym back)
        ∙ number_at lanes.nodes (other + 1) (omega arith) (omega (arith, all, long, far)))

-- And where it is written, their cones have the same bodies.
pub next_cone : (c : Contents) (lanes : LanesView) (node other : ℕ) → IsWave c → IsRightOf c lanes → IsLookedAt c lanes
    → lanes.next ≡ Some node → AreEqualIn lanes.graph (node - 1) other
    → (node_at lanes.nodes (other + 1)).place < length c.written → HasNextCone c (node_at lanes.nodes (other + 1)).place
next_cone c lanes node other wave right looked is equal written = by lanes.graph right.graph equal
  where
    numbers : List ℕ
    numbers = numbers_of lanes.nodes

    by : (graph : Option (List Node)) → IfSome graph (IsGraphIn c lanes.nodes) → AreEqualIn graph (node - 1) other
        → HasNextCone c (node_at lanes.nodes (other + 1)).place
    by None holds equal = absurd equal
    by (Some graph) holds equal =
        let next = next_node c lanes node right is in
        let all = graph_long c lanes.nodes graph holds in
        let long = numbers_long lanes.nodes in
        let some = next.holds.some in
        let low = next.holds.within in
        let far = equal.within in
        let back : other + 1 - 1 ≡ other = omega arith in
        let cones = same_cones graph holds.ordered other (node - 1) far (omega (arith, all, long, some, low))
        (equal.same ∙ sym equal.own) in
        record {
          written = written;
          nodes = cones.0;
          others = cones.1;
          own = subst (λ k. IsConeOf c k cones.0) (ap (slice_index numbers) (sym back)
              ∙ number_at lanes.nodes (other + 1) (omega arith) (omega (arith, all, long, far)))
              (cones.2 c numbers wave holds.is_graph);
          next = subst (λ k. IsConeOf c k cones.1) (number_at lanes.nodes node some low ∙ next.holds.own ∙ looked.all)
              (cones.3 c numbers wave holds.is_graph);
          same = cones.4;
        }

-- The place of a number below that of the next place is a written one,
number_of_place : (c : Contents) (place : ℕ) → IsWave c → place < length c.written → HasNext c
    → number_of (job c) (place_at (job c) place) ≡ place
number_of_place c place wave written within =
    let fits = wave.fits.fits_job in
    number_of_place_at (job c) place fits.ordering fits.all (omega (arith, written, within))

pub place_written : (c : Contents) (place : ℕ) (found : Place) → IsWave c → place < length c.written → HasNext c
    → found ≡ place_at (job c) place → IsWritten c found
place_written c place found wave written within is =
    let fits = wave.fits.fits_job in
    let number = number_of_place c place wave written within in
    subst (IsWritten c) (sym is) (record {
      within = is_place_at (job c) place fits.ordering fits.all (omega (arith, written, within));
      written = omega (arith, number, written);
    })

-- whose fillings are a pair of the next place where they have the same bits,
pub pair_again : (c : Contents) (place : ℕ) (found : Place) (fillings : List Place × List Place) → IsWave c
    → place < length c.written → HasNext c → HasNextBits c place → found ≡ place_at (job c) place
    → GiveBoth c found fillings → GivesBoth (job c) c.written (next_number c) (pair_of fillings.0 fillings.1)
pair_again c place found fillings wave written within bits is both =
    let number : number_of (job c) found ≡ place = ap (number_of (job c)) is ∙ number_of_place c place wave written within in
    let gives = subst (λ k. GivesBoth (job c) c.written k (pair_of fillings.0 fillings.1)) number both in
    record {
      zero_filling = gives.zero_filling;
      one_filling = gives.one_filling;
      gives_zero = bits fillings.0 gives.zero_filling ∙ gives.gives_zero;
      gives_one = bits fillings.1 gives.one_filling ∙ gives.gives_one;
    }

-- and which has its bit for certain.
pub gives_again : (c : Contents) (place : ℕ) (bit : Bool) → IsWave c → place < length c.written → HasNextBits c place
    → certain c.written place ≡ bit_value bit → GivesNext c bit
gives_again c place bit wave written bits is filling filled =
    bits filling filled
    ∙ certain_settles (job c) c.limits (shown_in c) c.written c.lines wave.holds.sound place bit written is filling filled
