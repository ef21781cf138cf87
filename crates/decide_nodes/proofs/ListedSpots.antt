-- The set of a filling's spots has those of the places that it lists.
use Rattle.std.proofs.Common.{◌≡◌, ℕ, ◌==◌, ◌&&◌, cond, Bool, true, false, List, [], ◌∷◌, map, nat_lt, refl, sym, ap, ◌∙◌, arith, if◌then◌else◌}
use Rattle.std.proofs.lemmas.List.{get_or-map}
use Rattle.std.proofs.lemmas.Bool.{ltb-true, ne_eqb}
use Rattle.std.specs.declared.cmp.Ordering.{Ordering}
use Rattle.std.specs.declared.cmp.Ordering.TheVariants.{Less, Equal, Greater}
use Rattle.std.specs.Ordering.{eq_by_cmp, is_eq, nat_cmp, ordering_then}
use Rattle.std.specs.Set.{is_member}
use Rattle.design_circuit.specs.declared.place.Place.{Place}
use Rattle.decide_nodes.specs.declared.node.Node.{Node}
use Rattle.decide_nodes.specs.Lanes.{in_lane, lane_of}
use Rattle.decide_nodes.specs.Listed.{listed_lanes, spot_cmp, spot_of}
use Rattle.decide_nodes.specs.Nodes.{is_listed, is_same_place, no_node, source_at, sources_of}
use Rattle.decide_nodes.specs.Traced.{AreListed}

tied : (less same : Bool) → (less ≡ true → same ≡ false)
    → is_eq (cond less Less (cond same Equal Greater)) ≡ same
tied true true apart = sym (apart refl)
tied true false apart = refl
tied false true apart = refl
tied false false apart = refl

tied_then : (less same : Bool) (next : Ordering) → (less ≡ true → same ≡ false)
    → is_eq (ordering_then (cond less Less (cond same Equal Greater)) next) ≡ same && is_eq next
tied_then true true next apart = (let e : true ≡ false = apart refl in cc)
tied_then true false next apart = refl
tied_then false true next apart = refl
tied_then false false next apart = refl

apart_by : (x y : ℕ) → nat_lt x y ≡ true → (x == y) ≡ false
apart_by x y less = ne_eqb x y (λ same. let low = ltb-true x y less in omega (arith, same, low))

same_spot : (place other : Place) → is_eq (spot_cmp (spot_of place) (spot_of other)) ≡ is_same_place place other
same_spot place other =
    tied_then (nat_lt place.step other.step) (place.step == other.step) (nat_cmp place.net other.net)
    (apart_by place.step other.step)
    ∙ ap (λ same. (place.step == other.step) && same) (tied (nat_lt place.net other.net) (place.net == other.net)
    (apart_by place.net other.net))

pub member_listed : (filling : List Place) (place : Place)
    → is_member (eq_by_cmp spot_cmp) (map spot_of filling) (spot_of place) ≡ is_listed filling place
member_listed [] place = refl
member_listed (p ∷ ps) place = rw (same_spot place p, member_listed ps place) refl

first_lane : (b : Bool) → in_lane ((if b then 1 else 0) ∷ 0 ∷ 0 ∷ 0 ∷ []) 0 ≡ b
first_lane true = refl
first_lane false = refl

-- The lanes that a filling gives the sources have their bits in the first lane.
pub table_listed : (nodes : List Node) (filling : List Place) (given : List (List ℕ))
    → given ≡ map (listed_lanes filling) (sources_of nodes) → AreListed nodes filling (lane_of given 0)
table_listed nodes filling given are source less =
    ap (λ lane_table. lane_of lane_table 0 source) are
    ∙ ap (λ lane_bits. in_lane lane_bits 0) (get_or-map (listed_lanes filling) (sources_of nodes) source no_node.place [] less)
    ∙ first_lane (is_listed filling (source_at nodes source))
