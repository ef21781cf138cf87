-- The marks are those of all nodes that have 1.
use Rattle.std.proofs.Common.{◌≡◌, ℕ, ◌<◌, false, length, slice_index_or, take, arith}
use Rattle.std.proofs.lemmas.List.{take_all}
use Rattle.decide_guess.specs.Renamed.{has_one}
use Rattle.decide_guess.proofs.SourceBits.{found_same}
use Rattle.decide_guess.proofs.renamed.given_by.Goals as goal

pub returns : goal.returns
returns c =
    let ones = c.args.ones.now in
    let positions = c.args.positions.now in
    let marks = c.ones.marks.items in
    let all : take c.ones.node-index ones ≡ ones = take_all c.ones.node-index ones (omega arith) in
    let same : (k : ℕ) → k < length c.args.cone.now.nodes
    → slice_index_or c.deref.result.now k false ≡ has_one positions ones k =
    λ k less. let one : slice_index_or marks k false ≡ has_one positions (take c.ones.node-index ones) k =
    c.ones.invariant.each k (omega arith) in cc in
    found_same c.given_to.result c.args.cone.now.nodes (λ k. slice_index_or c.deref.result.now k false)
    (has_one positions ones) same c.given_to.ensures
