-- Tables that are right of a graph.
use Rattle.std.proofs.Common.{◌≡◌, ℕ, zero, suc, ◌+◌, ◌*◌, ◌^◌, ◌<◌, ◌≤◌, ◌⊎◌, inl, inr, Bool, true, false, List, [], ◌∷◌, ◌++◌, length, refl, sym, ap, ◌∙◌, subst, arith, length-append, slice_index, slice_index_or, take}
use Rattle.std.specs.List.{AllByRecursion, list_any}
use Rattle.std.proofs.lemmas.Bool.{cases_Bool}
use Rattle.design_cell.specs.declared.value.Value.{Value}
use Rattle.design_circuit.specs.declared.place.Place.{Place}
use Rattle.law_model.specs.Mask.{mask_of}
use Rattle.decide_nodes.specs.declared.node.Node.{Node}
use Rattle.decide_nodes.specs.Choice.{number_at, value_at}
use Rattle.decide_nodes.specs.Lanes.{HasLanes, in_lane}
use Rattle.design_cell.specs.declared.value.Value.TheVariants.{X}
use Rattle.design_cell.specs.Value.{is_unknown}
use Rattle.design_circuit.proofs.Worlds.{decided_known}
use Rattle.decide_nodes.specs.Nodes.{is_listed, node_at}
use Rattle.decide_nodes.proofs.ChosenLanes.{number_is}
use Rattle.decide_nodes.proofs.NodeSources.{table_known}
use Rattle.decide_graph.proofs.GraphBits.{graph_stays, graph_table}
use Rattle.decide_graph.specs.Bits.{graph_bit}
use Rattle.decide_graph.specs.Kept.{ruled_node}
use Rattle.decide_tables.specs.Evaluated.{AreFoundBlocks, HasOwnLanes}
use Rattle.decide_tables.specs.Tables.{AreAllOf, HasBlock, HasTable, IsTableOf, NodeTable, StayLaw, filling_by, no_table}

-- A table that is one of those that are right is right.
all_tables : (P : NodeTable → Type 0) (tables : List NodeTable) (i : ℕ) → i < length tables → AllByRecursion P tables
    → P (slice_index_or tables i no_table)
all_tables P [] i less all = absurd (omega arith)
all_tables P (t ∷ ts) zero less all = all.0
all_tables P (t ∷ ts) (suc i) less all = all_tables P ts i (omega arith) all.1

pub table_right : (graph : List Node) (list : List Place) (tables : List NodeTable) (node : ℕ) (blocks : List (List ℕ))
    → AreAllOf graph list tables → HasTable tables node blocks
    → IsTableOf graph list (record { node = node; blocks = blocks })
table_right graph list tables node blocks right has =
    subst (IsTableOf graph list) has.is (all_tables (IsTableOf graph list) tables has.at has.within right)

-- With more nodes.
table_stays : (graph more : List Node) (list : List Place) (table : NodeTable) → IsTableOf graph list table
    → IsTableOf (graph ++ more) list table
table_stays graph more list table is = record {
  within = (let long = length-append graph more in let low = is.within in omega (arith, long, low));
  each = λ block less lane small. is.each block less lane small
      ∙ sym (graph_stays graph more (filling_by list (256 * block + lane)) table.node is.within);
}

all_stay : (graph more : List Node) (list : List Place) (tables : List NodeTable) → AreAllOf graph list tables
    → AreAllOf (graph ++ more) list tables
all_stay graph more list [] right = tt
all_stay graph more list (t ∷ ts) right = (table_stays graph more list t right.0, all_stay graph more list ts right.1)

pub stay_law : StayLaw
stay_law graph more tables right = record {
  young = all_stay graph more tables.list tables.young right.young;
  aged = all_stay graph more tables.list tables.aged right.aged;
}

-- The block of a node, from those of the nodes that it reads.
pub block_right : (graph : List Node) (list : List Place) (tables : List NodeTable) (node block : ℕ) (place : Place)
    (arguments : List ℕ) (values : List Value) (given : List (List ℕ)) (own lane_bits : List ℕ)
    → AreAllOf graph list tables → node_at graph node ≡ ruled_node place arguments values
    → AllByRecursion (λ a. a < node) arguments → length arguments ≤ length given
    → AreFoundBlocks tables arguments block given (length arguments)
    → length values ≡ 2 ^ length arguments
    → (list_any is_unknown values ≡ true → HasOwnLanes list place block own)
    → HasLanes lane_bits (λ lane. value_at values (number_at (take (length arguments) given) lane) (in_lane own lane))
    → HasBlock graph list node block lane_bits
block_right graph list tables node block place arguments values given own lane_bits right is before few found long owns
    has lane less =
    has lane less
    ∙ ap (λ n. value_at values n (in_lane own lane)) (number_is arguments given bits lane few read)
    ∙ own_same (cases_Bool (list_any is_unknown values))
    ∙ ap (λ (n : Node). value_at values (mask_of arguments bits) (is_listed filling n.place)) (sym is)
    ∙ sym (graph_table graph filling node arguments values (ap (λ (n : Node). n.body) is) before)
  where
    filling : List Place
    filling = filling_by list (256 * block + lane)

    bits : ℕ → Bool
    bits = graph_bit graph filling

    -- What own lanes have makes no difference where no value is x.
    own_same : (list_any is_unknown values ≡ true) ⊎ (list_any is_unknown values ≡ false)
        → value_at values (mask_of arguments bits) (in_lane own lane)
        ≡ value_at values (mask_of arguments bits) (is_listed filling place)
    own_same (inl some) = ap (value_at values (mask_of arguments bits)) (owns some lane less)
    own_same (inr none) = decided_known (slice_index_or values (mask_of arguments bits) X) (in_lane own lane)
        (is_listed filling place) (table_known arguments values bits long none)

    read : (k : ℕ) → k < length arguments
        → in_lane (slice_index_or given k []) lane ≡ bits (slice_index arguments k)
    read k low =
        let at = found k low in
        let table = table_right graph list tables (slice_index arguments k) at.blocks right at.has in
        ap (λ (bits : List ℕ). in_lane bits lane) at.is ∙ table.each block at.within lane less
