-- Nodes as they are kept, with one list or one node more.
use Rattle.std.proofs.Common.{◌≡◌, ℕ, ◌<◌, List, [], ◌∷◌, ◌++◌, Option, None, Some, IfSome, length, map, refl, ap, ◌∙◌}
use Rattle.std.specs.List.{AllByRecursion}
use Rattle.std.proofs.Math.ListN.{get_or-append}
use Rattle.std.proofs.Math.Seq.{get_or-append_seam}
use Rattle.std.proofs.lemmas.List.{map-append}
use Rattle.decide_lane_nodes.specs.Nodes.{ListWithin, list_in, seen_node, with_node}
use Rattle.decide_lane_nodes.specs.declared.nodes.Node.{Node}

list_stays : (lists : List (List ℕ)) (more : List ℕ) (at : Option ℕ) → IfSome at (λ list. list < length lists)
    → list_in (lists ++ more ∷ []) at ≡ list_in lists at
list_stays lists more None within = refl
list_stays lists more (Some list) within = ap Some (get_or-append lists (more ∷ []) [] list within)

-- One list more changes none of them.
pub seen_stay : (lists : List (List ℕ)) (more : List ℕ) (nodes : List Node) → AllByRecursion (ListWithin lists) nodes
    → map (seen_node (lists ++ more ∷ [])) nodes ≡ map (seen_node lists) nodes
seen_stay lists more [] within = refl
seen_stay lists more (n ∷ ns) within = rw (list_stays lists more n.list within.0, seen_stay lists more ns within.1) refl

-- One with the new list.
pub listed_more : (lists : List (List ℕ)) (more : List ℕ) (nodes : List Node) (node : Node)
    → AllByRecursion (ListWithin lists) nodes → node.list ≡ Some (length lists)
    → map (seen_node (lists ++ more ∷ [])) (nodes ++ node ∷ [])
    ≡ with_node (map (seen_node lists) nodes) node.place node.lane_bits (Some more)
listed_more lists more nodes node within is =
    map-append (seen_node (lists ++ more ∷ [])) nodes (node ∷ []) ∙ rw (seen_stay lists more nodes within, is, get_or-append_seam lists more [] []) refl
