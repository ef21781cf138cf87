-- Numbers whose fillings give another bit, and blocks that have none.
use Rattle.std.proofs.Common.{◌≡◌, ℕ, ◌+◌, ◌*◌, ◌/◌, ◌%◌, ◌<◌, ◌≤◌, not, Bool, true, false, Option, None, Some, List, [], length, refl, sym, ap, ◌∙◌, subst, arith, nat_lt, count_ones, if◌then◌else◌, slice_index_or, ⊎_elim}
use Rattle.std.specs.Prelude.{Result, IfOk, MatchOption}
use Rattle.std.proofs.lemmas.Bool.{cases_eq, leb-true}
use Rattle.std.proofs.lemmas.Bool.Decides.{nat_tests}
use Rattle.std.proofs.lemmas.Result.{IfOk-weaker}
use Rattle.design_circuit.specs.declared.place.Place.{Place}
use Rattle.law_model.specs.Class.{flipped}
use Rattle.decide_nodes.specs.declared.node.Node.{Node}
use Rattle.decide_nodes.specs.Lanes.{HasLanes, HasNone, in_lane}
use Rattle.decide_pair.specs.Found.{fewer}
use Rattle.decide_pair.proofs.FoundNumbers.{more_ones}
use Rattle.decide_graph.specs.Bits.{graph_bit}
use Rattle.decide_pair.specs.Pairs.{IsLeast}
use Rattle.decide_tables.specs.Other.{AreAll, IsAll, IsCompared, IsLeastOtherAt, IsLeastOtherBelow, IsOther, IsOtherIn, IsSame, IsSameIn, IsShownBy, NoneFewer}
use Rattle.decide_tables.specs.Tables.{IsTableOf, filling_by}
use Rattle.decide_tables.specs.declared.other.Compared.{Compared}
use Rattle.decide_tables.specs.declared.other.Compared.TheVariants as compared
use Rattle.decide_tables.specs.declared.other.Other.{Other}
use Rattle.decide_tables.proofs.ListedPlaces.{empty_number}

-- What holds of the first n blocks and of the next one holds of one block more.
one_more : (P : ℕ → Type 0) (n : ℕ) → ((block : ℕ) → block < n → P block) → P n → (block : ℕ) → block < n + 1 → P block
one_more P n before last block less = ⊎_elim
    (λ (same : block ≡ n). subst P (sym same) last)
    (λ (other : block ≡ n → ⊥). before block (omega (arith, less, other))) (cases_eq block n)

-- A bit isn't two. So a block that has a bit in every lane has no number with fewer ones than any.
agrees_not : (bit base : Bool) → bit ≡ base → bit ≡ not base → ⊥
agrees_not bit true same other = cc
agrees_not bit false same other = cc

all_fewer : (blocks : List (List ℕ)) (empty : Bool) (number block : ℕ) → IsAll blocks empty block
    → NoneFewer blocks empty number block
all_fewer blocks empty number block all lane less differs =
    absurd (agrees_not (in_lane (slice_index_or blocks block []) lane) empty (all lane less) differs)

-- Of two numbers the one with fewer ones has no more than either has.
fewer_than : (blocks : List (List ℕ)) (empty : Bool) (number other block : ℕ) → count_ones other ≤ count_ones number
    → NoneFewer blocks empty number block → NoneFewer blocks empty other block
fewer_than blocks empty number other block order none lane less differs =
    let bound = none lane less differs in omega (arith, order, bound)

pick : (blocks : List (List ℕ)) (empty : Bool) (n number other : ℕ) (less : Bool)
    → nat_lt (count_ones other) (count_ones number) ≡ less → IsLeastOtherBelow blocks empty n number
    → IsLeastOtherAt blocks empty n other
    → IsLeastOtherBelow blocks empty (n + 1) (if less then other else number)
pick blocks empty n number other true is before last = record {
  other = last.other;
  least = one_more (NoneFewer blocks empty other) n
      (λ block less. fewer_than blocks empty number other block
      (let order = leb-true _ _ is in omega (arith, order)) (before.least block less)) last.least;
}
pick blocks empty n number other false is before last = record {
  other = before.other;
  least = one_more (NoneFewer blocks empty number) n before.least
      (fewer_than blocks empty other number n (grind (arith, nat_tests, is)) last.least);
}

-- Where none is found in the blocks so far and in the next one, there is none; else the one with fewer ones is found.
pub found_upto : (blocks : List (List ℕ)) (empty : Bool) (n : ℕ) (found second : Option ℕ)
    → MatchOption found (AreAll blocks empty n) (IsLeastOtherBelow blocks empty n)
    → MatchOption second (IsAll blocks empty n) (IsLeastOtherAt blocks empty n)
    → MatchOption (fewer found second) (AreAll blocks empty (n + 1)) (IsLeastOtherBelow blocks empty (n + 1))
found_upto blocks empty n None None before last = one_more (IsAll blocks empty) n before last
found_upto blocks empty n None (Some number) before last = record {
  other = last.other;
  least = one_more (NoneFewer blocks empty number) n
      (λ block less. all_fewer blocks empty number block (before block less)) last.least;
}
found_upto blocks empty n (Some number) None before last = record {
  other = before.other;
  least = one_more (NoneFewer blocks empty number) n before.least (all_fewer blocks empty number n last);
}
found_upto blocks empty n (Some number) (Some other) before last =
    pick blocks empty n number other (nat_lt (count_ones other) (count_ones number)) refl before last

-- A lane of a block with the least ones of those that differ is the one with the number that has the least ones.
flipped_one : (b bit : Bool) → flipped b bit ≡ true → bit ≡ not b
flipped_one true true one = cc
flipped_one true false one = refl
flipped_one false true one = refl
flipped_one false false one = cc

one_flipped : (b bit : Bool) → bit ≡ not b → flipped b bit ≡ true
one_flipped true true is = cc
one_flipped true false is = refl
one_flipped false true is = refl
one_flipped false false is = cc

pub least_at : (blocks : List (List ℕ)) (empty : Bool) (block lane : ℕ) (turned : List ℕ)
    → HasLanes turned (λ lane. flipped empty (in_lane (slice_index_or blocks block []) lane)) → IsLeast turned lane
    → block < length blocks → IsLeastOtherAt blocks empty block (256 * block + lane)
least_at blocks empty block lane turned has least within = record {
  other = record {
    block = block;
    lane = lane;
    within = within;
    small = least.within;
    is = refl;
    differs = flipped_one empty (in_lane (slice_index_or blocks block []) lane) (sym (has lane least.within) ∙ least.one);
  };
  least = λ other less differs. more_ones block lane other (256 * block + other) least.within less refl
      (least.least other less
      (has other less ∙ one_flipped empty (in_lane (slice_index_or blocks block []) other) differs));
}

-- A block has a bit in every lane where it differs from it in none.
unflipped : (b bit : Bool) → flipped b bit ≡ false → bit ≡ b
unflipped true true none = refl
unflipped true false none = cc
unflipped false true none = cc
unflipped false false none = refl

pub none_differs : (blocks : List (List ℕ)) (empty : Bool) (block : ℕ) (turned : List ℕ)
    → HasLanes turned (λ lane. flipped empty (in_lane (slice_index_or blocks block []) lane)) → HasNone turned
    → IsAll blocks empty block
none_differs blocks empty block turned has none lane less =
    unflipped empty (in_lane (slice_index_or blocks block []) lane) (sym (has lane less) ∙ none lane less)

-- What blocks show is so where they are those of a node.
other_shown : (graph : List Node) (list : List Place) (node : ℕ) (blocks : List (List ℕ)) (other : Other)
    → IsTableOf graph list (record { node = node; blocks = blocks }) → IsOtherIn list blocks other
    → IsOther graph list node other
other_shown graph list node blocks other table is =
    let at = is.is_number.other in
    let none : filling_by list (256 * 0 + 0) ≡ [] = empty_number list in
    record {
      number = is.number;
      filling = is.filling;
      empty = is.empty ∙ table.each 0 is.some 0 (omega arith) ∙ ap (λ filling. graph_bit graph filling node) none;
      differs =
          ap (λ filling. graph_bit graph filling node) (is.filling ∙ ap (filling_by list) at.is)
          ∙ sym (table.each at.block at.within at.lane at.small) ∙ at.differs;
      least = λ n small differs.
          (let block : ℕ = n / 256 in
          let lane : ℕ = n % 256 in
          let whole : n ≡ 256 * block + lane = omega arith in
          let less : lane < 256 = omega arith in
          let enough = is.enough in
          let within : block < length blocks = omega (arith, small, enough) in
          subst (λ m. count_ones is.number ≤ count_ones m) (sym whole)
          (is.is_number.least block within lane less
          (table.each block within lane less ∙ ap (λ m. graph_bit graph (filling_by list m) node) (sym whole) ∙ differs)));
    }

same_shown : (graph : List Node) (list : List Place) (node : ℕ) (blocks : List (List ℕ)) (bit : Bool)
    → IsTableOf graph list (record { node = node; blocks = blocks }) → IsSameIn list blocks bit → IsSame graph list node bit
same_shown graph list node blocks bit table is number small =
    let block : ℕ = number / 256 in
    let lane : ℕ = number % 256 in
    let whole : number ≡ 256 * block + lane = omega arith in
    let less : lane < 256 = omega arith in
    let enough = is.enough in
    let within : block < length blocks = omega (arith, small, enough) in
    ap (λ n. graph_bit graph (filling_by list n) node) whole ∙ sym (table.each block within lane less)
    ∙ is.all block within lane less

compared_shown : (graph : List Node) (list : List Place) (node : ℕ) (blocks : List (List ℕ)) (shown : Compared)
    → IsTableOf graph list (record { node = node; blocks = blocks }) → IsShownBy list blocks shown
    → IsCompared graph list node shown
compared_shown graph list node blocks (compared.Other other) table is = other_shown graph list node blocks other table is
compared_shown graph list node blocks (compared.Same bit) table is = same_shown graph list node blocks bit table is
compared_shown graph list node blocks compared.Nothing table is = tt

pub found_compared : {E : Type 0} (graph : List Node) (list : List Place) (node : ℕ) (blocks : List (List ℕ))
    (result : Result Compared E) → IsTableOf graph list (record { node = node; blocks = blocks })
    → IfOk result (IsShownBy list blocks) → IfOk result (IsCompared graph list node)
found_compared graph list node blocks result table is =
    IfOk-weaker result _ _ (λ shown holds. compared_shown graph list node blocks shown table holds) is
