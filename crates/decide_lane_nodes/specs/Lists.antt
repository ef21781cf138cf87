-- Lists of places as they are kept: each is a part of one list.
use Rattle.std.specs.Prelude.{◌≡◌, ℕ, zero, suc, ◌+◌, ◌≤◌, List, Option, None, Some, length, map, refl}
use Rattle.std.specs.List.{AllByRecursion}
use Rattle.decide_graph.specs.Kept.{part_of}
use Rattle.decide_lane_nodes.specs.declared.lists.Span.{Span}

abbrev pub seen_list : List ℕ → Span → List ℕ
seen_list places span = part_of span.start span.count places

abbrev pub seen_lists : List ℕ → List Span → List (List ℕ)
seen_lists places spans = map (seen_list places) spans

-- They lie within it.
abbrev pub IsSpanWithin : List ℕ → Span → Type 0
IsSpanWithin places span = span.start + span.count ≤ length places

abbrev pub AreSpansWithin : List ℕ → List Span → Type 0
AreSpansWithin places spans = AllByRecursion (IsSpanWithin places) spans

-- The number of a list, or none, as one number.
abbrev pub number_of : ℕ → Option ℕ
number_of zero = None
number_of (suc number) = Some number

abbrev pub code_of : Option ℕ → ℕ
code_of None = 0
code_of (Some number) = suc number

pub code_stays : (code : ℕ) → code_of (number_of code) ≡ code
code_stays zero = refl
code_stays (suc number) = refl
