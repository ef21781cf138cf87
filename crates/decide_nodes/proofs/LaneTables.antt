-- The lanes of nodes, as they are made.
use Rattle.std.proofs.Common.{◌≡◌, ℕ, zero, suc, ◌+◌, ◌*◌, ◌/◌, ◌%◌, ◌^◌, ◌<◌, ◌≤◌, ◌==◌, ◌&&◌, ◌||◌, cond, Bool, true, false, List, [], ◌∷◌, length, map, take, drop, nat_lt, get_or, set, refl, sym, ap, ◌∙◌, subst, arith, add-one, slice_index_or}
use Rattle.std.specs.List.{AllByRecursion}
use Rattle.std.proofs.Math.Path.{fun_ext}
use Rattle.std.proofs.Math.ListN.{get_or-map}
use Rattle.std.proofs.Math.Nat.{pow-suc}
use Rattle.std.proofs.Math.Seq.{drop-cons, take-suc-set}
use Rattle.std.proofs.lemmas.List.{length-set, map-append}
use Rattle.std.proofs.lemmas.List.Filters.{length-filter_more}
use Rattle.std.proofs.lemmas.Bool.{le-ltb, lt-ltb}
use Rattle.design_cell.specs.declared.value.Value.{Value}
use Rattle.design_cell.specs.declared.value.Value.TheVariants.{X}
use Rattle.design_circuit.specs.World.{bit_at, decided}
use Rattle.law_model.specs.Class.{flipped}
use Rattle.law_model.specs.Mask.{mask_of}
use Rattle.law_model.specs.Node.{node_bit}
use Rattle.law_model.proofs.AssignmentNumbers.{mask_small}
use Rattle.decide_nodes.specs.declared.node.Node.{Node}
use Rattle.decide_nodes.specs.Lanes.{IsLaneTable, HasLanes, in_lane, lane_of}
use Rattle.decide_nodes.specs.Nodes.{body_at, by_sources, is_source_node, no_node, node_at, node_bits, sources_before, table_bit}
use Rattle.decide_nodes.proofs.EachLane.{lane_none, mask_step, one_more}

pub all_at : (P : ℕ → Type 0) (xs : List ℕ) (i : ℕ) → AllByRecursion P xs → i < length xs → P (get_or xs i 0)
all_at P [] i all less = absurd (omega arith)
all_at P (x ∷ xs) zero all less = all.0
all_at P (x ∷ xs) (suc i) all less = all_at P xs i all.1 (omega arith)

-- The lanes that are left after some of the arguments: those of these have the low bits of a number, whose others are
-- the rest.
pub record AgreesSoFar (arguments : List ℕ) (lane_table : List (List ℕ)) (number : ℕ) (lanes : List ℕ) (rest index : ℕ) : Type 0 where
  pub small : rest < 2 ^ length (drop index arguments)
  pub in_lanes : (lane : ℕ) → lane < 256
      → in_lane lanes lane && (mask_of (drop index arguments) (lane_of lane_table lane) == rest)
      ≡ (mask_of arguments (lane_of lane_table lane) == number)

pub agrees_none : (arguments : List ℕ) (lane_table : List (List ℕ)) (number : ℕ) (ones : List ℕ)
    → number < 2 ^ length arguments → HasLanes ones (λ lane. true)
    → AgreesSoFar arguments lane_table number ones number 0
agrees_none arguments lane_table number ones small all = record {
  small = small;
  in_lanes = λ lane less. rw (all lane less) refl;
}

and_same : (a b c d e : Bool) → d ≡ b && c → a && d ≡ e → (a && b) && c ≡ e
and_same true b c d e is h = sym is ∙ h
and_same false b c d e is h = h

pub agrees_more : (arguments : List ℕ) (lane_table : List (List ℕ)) (number : ℕ) (lanes : List ℕ) (rest index : ℕ)
    (own lane_bits both : List ℕ) → index < length arguments → AgreesSoFar arguments lane_table number lanes rest index
    → own ≡ slice_index_or lane_table (get_or arguments index 0) []
    → HasLanes lane_bits (λ lane. flipped (rest % 2 == 0) (in_lane own lane))
    → HasLanes both (λ lane. in_lane lanes lane && in_lane lane_bits lane)
    → AgreesSoFar arguments lane_table number both (rest / 2) (index + 1)
agrees_more arguments lane_table number lanes rest index own lane_bits both less so own_is has are =
    let cut = drop-cons arguments index 0 less in
    let left : ℕ = length (drop (suc index) arguments) in
    let small : rest < 2 ^ suc left = subst (λ xs. rest < 2 ^ length xs) cut so.small in
    let double = pow-suc 2 left in
    record {
      small = rw add-one (omega (arith, small, double));
      in_lanes = λ lane within.
          (let bits = lane_of lane_table lane in
          let others = mask_of (drop (suc index) arguments) bits in
          let before : in_lane lanes lane && ((cond (bits (get_or arguments index 0)) 1 0 + 2 * others) == rest)
          ≡ (mask_of arguments bits == number) = subst (λ xs. in_lane lanes lane && (mask_of xs bits == rest)
          ≡ (mask_of arguments bits == number)) cut (so.in_lanes lane within) in
          rw (add-one, are lane within, has lane within, own_is)
          (and_same (in_lane lanes lane) (flipped (rest % 2 == 0) (bits (get_or arguments index 0)))
          (others == rest / 2) _ _ (mask_step (bits (get_or arguments index 0)) others rest) before));
    }

-- The lanes of the first values of a table.
abbrev pub CoversSoFar : List ℕ → List Value → List (List ℕ) → List ℕ → List ℕ → ℕ → Type 0
CoversSoFar arguments values lane_table own lane_bits index = HasLanes lane_bits (λ lane.
    nat_lt (mask_of arguments (lane_of lane_table lane)) index
    && decided (slice_index_or values (mask_of arguments (lane_of lane_table lane)) X) (in_lane own lane))

pub covers_none : (arguments : List ℕ) (values : List Value) (lane_table : List (List ℕ)) (own zeros : List ℕ)
    → HasLanes zeros (λ lane. false) → CoversSoFar arguments values lane_table own zeros 0
covers_none arguments values lane_table own zeros none = λ lane less.
    none lane less
    ∙ rw (le-ltb (mask_of arguments (lane_of lane_table lane)) 0 (omega arith)) refl

pub covers_more : (arguments : List ℕ) (values : List Value) (lane_table : List (List ℕ)) (own lane_bits part next : List ℕ)
    (index : ℕ) (value : Value) → value ≡ slice_index_or values index X
    → CoversSoFar arguments values lane_table own lane_bits index
    → HasLanes part (λ lane. (mask_of arguments (lane_of lane_table lane) == index) && decided value (in_lane own lane))
    → HasLanes next (λ lane. in_lane lane_bits lane || in_lane part lane)
    → CoversSoFar arguments values lane_table own next (index + 1)
covers_more arguments values lane_table own lane_bits part next index value is so has either = λ lane less.
    either lane less ∙ rw (so lane less, has lane less, is)
    (one_more (λ i. decided (slice_index_or values i X) (in_lane own lane)) (mask_of arguments (lane_of lane_table lane))
    index)

pub covers_all : (arguments : List ℕ) (values : List Value) (lane_table : List (List ℕ)) (own lane_bits : List ℕ) (index : ℕ)
    → length values ≡ 2 ^ length arguments → length values ≤ index
    → CoversSoFar arguments values lane_table own lane_bits index
    → HasLanes lane_bits (λ lane. table_bit arguments values (lane_of lane_table lane) (in_lane own lane))
covers_all arguments values lane_table own lane_bits index long all so = λ lane less.
    (let small = mask_small arguments (lane_of lane_table lane) in
    so lane less ∙ rw (lt-ltb (mask_of arguments (lane_of lane_table lane)) index (omega (arith, small, long, all))) refl)

-- The lanes of the first nodes, and how many sources are among these.
pub record EvaluatedSoFar (nodes : List Node) (given lane_table : List (List ℕ)) (sources position : ℕ) : Type 0 where
  pub room : length lane_table ≡ length nodes
  pub few : sources ≤ position
  pub counted : sources ≡ sources_before nodes position
  pub is_lane_table : IsLaneTable nodes given lane_table position

pub evaluated_none : (nodes : List Node) (given lane_table : List (List ℕ)) → length lane_table ≡ length nodes
    → EvaluatedSoFar nodes given lane_table 0 0
unfolding node_bits
evaluated_none nodes given lane_table room = record {
  room = room;
  few = omega arith;
  counted = refl;
  is_lane_table = λ lane less. refl;
}

one_at_most : (b : Bool) (m n : ℕ) → m ≤ n → m + cond b 1 0 ≤ n + 1
one_at_most true m n less = omega arith
one_at_most false m n less = omega arith

-- The bits of the lanes in a lane are those of the lanes' bits.
bits_of_table : (lane_table : List (List ℕ)) (lane : ℕ)
    → bit_at (map (λ lane_bits. in_lane lane_bits lane) lane_table) ≡ lane_of lane_table lane
bits_of_table lane_table lane = fun_ext (λ p. subst (λ d. get_or (map (λ lane_bits. in_lane lane_bits lane) lane_table) p d
    ≡ in_lane (get_or lane_table p []) lane) (lane_none lane) (get_or-map (λ lane_bits. in_lane lane_bits lane) lane_table p []))

pub evaluated_more : (nodes : List Node) (births : List Bool) (given lane_table : List (List ℕ)) (sources position : ℕ)
    (own lane_bits : List ℕ)
    → position < length nodes → births ≡ map is_source_node nodes → EvaluatedSoFar nodes given lane_table sources position
    → HasLanes own (λ lane. lane_of given lane sources)
    → HasLanes lane_bits (λ lane. node_bit (lane_of (take position lane_table) lane) (in_lane own lane) (body_at nodes position))
    → EvaluatedSoFar nodes given (set lane_table position lane_bits) (sources + cond (get_or births position false) 1 0)
    (position + 1)
unfolding node_bits
evaluated_more nodes births given lane_table sources position own lane_bits less births_are so own_is has = record {
  room = length-set lane_table position lane_bits ∙ so.room;
  few = one_at_most (get_or births position false) sources position so.few;
  counted = (let born : get_or births position false ≡ is_source_node (node_at nodes position) =
      ap (λ xs. get_or xs position false) births_are ∙ get_or-map is_source_node nodes position no_node in
      rw (born, so.counted) (sym (length-filter_more is_source_node nodes position no_node less)));
  is_lane_table = λ lane within.
      (let room = so.room in
      let earlier = so.is_lane_table lane within in
      let reads : bit_at (node_bits (by_sources nodes (lane_of given lane)) nodes position)
      ≡ lane_of (take position lane_table) lane = ap bit_at (sym earlier) ∙ bits_of_table (take position lane_table) lane in
      let here : in_lane own lane ≡ lane_of given lane (sources_before nodes position) =
      own_is lane within ∙ ap (lane_of given lane) so.counted in
      rw (
        add-one,
        take-suc-set lane_table position lane_bits (omega (arith, room, less)),
        map-append,
        earlier,
        reads,
        has lane within,
        here,
      ) refl);
}
