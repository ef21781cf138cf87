-- Fillings by number that give the root another bit than the empty one, and those of them with the least ones.
use Rattle.std.specs.Prelude.{◌≡◌, ℕ, ◌<◌, ◌≤◌, ◌^◌, Bool, false, Option, None, Some, List, MatchOption, count_ones}
use Rattle.std.specs.Prelude.{length, nat_le, nat_lt, not, if◌then◌else◌}
use Rattle.law_model.specs.declared.line.Body.{Body}
use Rattle.decide_nodes.specs.declared.node.Node.{Node}
use Rattle.decide_nodes.specs.Nodes.{by_sources, chosen, nothing, number_bits, root_bit, sources_of}
use Rattle.decide_pair.specs.Pairs.{pair_with}

-- The bit that the filling of a number gives the root.
abbrev pub bit_by : List Node → ℕ → Bool
bit_by nodes number = root_bit (by_sources nodes (number_bits number)) nodes

-- It is another bit than the empty filling gives.
abbrev pub IsOther : List Node → ℕ → Type 0
IsOther nodes number = bit_by nodes number ≡ not (root_bit nothing nodes)

-- The numbers from one to before another all give the bit of the empty filling,
abbrev pub AgreeIn : List Node → ℕ → ℕ → Type 0
AgreeIn nodes first end = (number : ℕ) → first ≤ number → number < end → bit_by nodes number ≡ root_bit nothing nodes

-- or one of them doesn't, and has the least ones of those that don't.
pub record IsLeastIn (nodes : List Node) (first end number : ℕ) : Type 0 where
  pub above : first ≤ number
  pub below : number < end
  pub other : IsOther nodes number
  pub least : (n : ℕ) → first ≤ n → n < end → IsOther nodes n → count_ones number ≤ count_ones n

abbrev pub IsFoundIn : List Node → ℕ → ℕ → Option ℕ → Type 0
IsFoundIn nodes first end found = MatchOption found (AgreeIn nodes first end) (IsLeastIn nodes first end)

-- The same of all numbers below one that is at least 2 to the number of sources, and at most 2^16.
pub record IsFoundOfAll (nodes : List Node) (found : Option ℕ) : Type 0 where
  pub end : ℕ
  pub enough : 2 ^ length (sources_of nodes) ≤ end
  pub few : end ≤ 2 ^ 16
  pub found_is : IsFoundIn nodes 0 end found

-- All numbers of a block have as many ones as the one that is found.
abbrev pub has_no_fewer : ℕ → Option ℕ → Bool
has_no_fewer block None = false
has_no_fewer block (Some number) = nat_le (count_ones number) (count_ones block)

-- The number with fewer ones, the first where two have as many.
abbrev pub fewer_of : ℕ → Option ℕ → ℕ
fewer_of number None = number
fewer_of number (Some other) = if nat_lt (count_ones other) (count_ones number) then other else number

abbrev pub fewer : Option ℕ → Option ℕ → Option ℕ
fewer None second = second
fewer (Some number) second = Some (fewer_of number second)

-- A pair of the empty filling and that of a number, with as few ones as any number below 2 to the number of sources
-- that gives the other bit.
pub record IsLeastPair (nodes : List Node) (body : Body) : Type 0 where
  pub number : ℕ
  pub fillings : body ≡ pair_with (root_bit nothing nodes) (chosen (sources_of nodes) (number_bits number))
  pub least : (n : ℕ) → n < 2 ^ length (sources_of nodes) → IsOther nodes n → count_ones number ≤ count_ones n
