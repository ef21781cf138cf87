-- How a node's bits under the fillings of a list compare with its bit under the empty one.
use Rattle.std.specs.Prelude.{◌≡◌, ℕ, ◌+◌, ◌*◌, ◌<◌, ◌≤◌, ◌^◌, not, Bool, List, [], count_ones, length, slice_index_or}
use Rattle.design_circuit.specs.declared.place.Place.{Place}
use Rattle.decide_nodes.specs.declared.node.Node.{Node}
use Rattle.decide_nodes.specs.Lanes.{in_lane}
use Rattle.decide_graph.specs.Bits.{graph_bit}
use Rattle.decide_tables.specs.Tables.{filling_by}
use Rattle.decide_tables.specs.declared.other.Compared.{Compared}
use Rattle.decide_tables.specs.declared.other.Compared.TheVariants as compared
use Rattle.decide_tables.specs.declared.other.Other.{Other}

-- The filling of a number gives a node another bit than the empty filling. No number below 2 to the number of places
-- that does so has fewer ones.
pub record IsOther (graph : List Node) (list : List Place) (node : ℕ) (other : Other) : Type 0 where
  pub number : ℕ
  pub filling : other.filling ≡ filling_by list number
  pub empty : other.empty ≡ graph_bit graph [] node
  pub differs : graph_bit graph other.filling node ≡ not other.empty
  pub least : (n : ℕ) → n < 2 ^ length list → graph_bit graph (filling_by list n) node ≡ not other.empty
      → count_ones number ≤ count_ones n

-- The filling of every number gives it a bit: those below 2 to the number of places are all fillings of them.
abbrev pub IsSame : List Node → List Place → ℕ → Bool → Type 0
IsSame graph list node bit =
    (number : ℕ) → number < 2 ^ length list → graph_bit graph (filling_by list number) node ≡ bit

-- What is shown of a node is so.
abbrev pub IsCompared : List Node → List Place → ℕ → Compared → Type 0
IsCompared graph list node (compared.Other other) = IsOther graph list node other
IsCompared graph list node (compared.Same bit) = IsSame graph list node bit
IsCompared graph list node compared.Nothing = Unit {0}

-- In a lane of a block there is another bit than one that is given, and a number says where.
pub record IsOtherNumber (blocks : List (List ℕ)) (empty : Bool) (number : ℕ) : Type 0 where
  pub block : ℕ
  pub lane : ℕ
  pub within : block < length blocks
  pub small : lane < 256
  pub is : number ≡ 256 * block + lane
  pub differs : in_lane (slice_index_or blocks block []) lane ≡ not empty

-- No number at which a block has another bit has fewer ones.
abbrev pub NoneFewer : List (List ℕ) → Bool → ℕ → ℕ → Type 0
NoneFewer blocks empty number block = (lane : ℕ) → lane < 256
    → in_lane (slice_index_or blocks block []) lane ≡ not empty → count_ones number ≤ count_ones (256 * block + lane)

-- At a number there is another bit, and at none of a block with fewer ones, or of the first n blocks.
pub record IsLeastOtherAt (blocks : List (List ℕ)) (empty : Bool) (block number : ℕ) : Type 0 where
  pub other : IsOtherNumber blocks empty number
  pub least : NoneFewer blocks empty number block

pub record IsLeastOtherBelow (blocks : List (List ℕ)) (empty : Bool) (n number : ℕ) : Type 0 where
  pub other : IsOtherNumber blocks empty number
  pub least : (block : ℕ) → block < n → NoneFewer blocks empty number block

-- In every lane of a block there is that bit, and so in the first n blocks.
abbrev pub IsAll : List (List ℕ) → Bool → ℕ → Type 0
IsAll blocks empty block = (lane : ℕ) → lane < 256 → in_lane (slice_index_or blocks block []) lane ≡ empty

abbrev pub AreAll : List (List ℕ) → Bool → ℕ → Type 0
AreAll blocks empty n = (block : ℕ) → block < n → IsAll blocks empty block

-- The blocks are those of all fillings, and the filling is that of a number with the least ones of those at which there
-- is another bit than the empty filling gives.
pub record IsOtherIn (list : List Place) (blocks : List (List ℕ)) (other : Other) : Type 0 where
  pub enough : 2 ^ length list ≤ 256 * length blocks
  pub number : ℕ
  pub is_number : IsLeastOtherBelow blocks other.empty (length blocks) number
  pub filling : other.filling ≡ filling_by list number
  pub some : 0 < length blocks
  pub empty : other.empty ≡ in_lane (slice_index_or blocks 0 []) 0

-- The blocks are those of all fillings, and each has a bit everywhere.
pub record IsSameIn (list : List Place) (blocks : List (List ℕ)) (bit : Bool) : Type 0 where
  pub enough : 2 ^ length list ≤ 256 * length blocks
  pub all : AreAll blocks bit (length blocks)

-- What blocks show.
abbrev pub IsShownBy : List Place → List (List ℕ) → Compared → Type 0
IsShownBy list blocks (compared.Other other) = IsOtherIn list blocks other
IsShownBy list blocks (compared.Same bit) = IsSameIn list blocks bit
IsShownBy list blocks compared.Nothing = Unit {0}
