-- Parts of a list that grows.
use Rattle.std.proofs.Common.{◌≡◌, ℕ, ◌+◌, ◌-◌, ◌≤◌, List, ◌++◌, length, take, drop, ap, ◌∙◌, sym, arith, length-drop}
use Rattle.std.proofs.lemmas.List.{drop-append-le, drop_at, take-append-le, take_all}
use Rattle.decide_graph.specs.Kept.{part_of}

-- A part stays where more comes after it.
pub part_stays : {A : Type 0} (items more : List A) (start count : ℕ) → start + count ≤ length items
    → part_of start count (items ++ more) ≡ part_of start count items
part_stays items more start count within =
    let rest = length-drop start items in
    ap (take (start + count - start)) (drop-append-le start items more (omega (arith, within)))
    ∙ take-append-le (start + count - start) (drop start items) more (omega (arith, rest, within))

-- What comes after a list is the part from there on.
pub part_new : {A : Type 0} (items more : List A) (start count : ℕ) → start ≡ length items → count ≡ length more
    → part_of start count (items ++ more) ≡ more
part_new items more start count start_is count_is =
    ap (take (start + count - start)) (drop_at items more start (sym start_is))
    ∙ take_all (start + count - start) more (omega (arith, count_is))
