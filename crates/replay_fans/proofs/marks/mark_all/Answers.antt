-- The readers of a net are positions of the order.
use Rattle.std.proofs.Common.{◌<◌, List, ℕ, length, slice_index_or, arith, subst, sym}
use Rattle.std.proofs.lemmas.List.Elements.{All-from_get_or}
use Rattle.replay_due.specs.Due.{HasRoom}
use Rattle.replay_due.specs.Readers.{readers_of}
use Rattle.replay_due.proofs.Placing.{readers_within}
use Rattle.replay_fans.proofs.marks.mark_all.Goals as goal

pub insert_all-requires : goal.insert_all-requires
insert_all-requires c =
    let table = c.requires.table in
    let room = c.requires.room in
    let P = λ (readers : List ℕ). (k : ℕ) (d : ℕ) → k < length readers
    → HasRoom c.args.due.now (slice_index_or readers k d) in
    subst P (sym c.of.ensures) (All-from_get_or (HasRoom c.args.due.now) (readers_of c.args.readers.now c.args.net) 0
    (λ i less. (let low = readers_within c.args.nets c.args.readers.now c.args.net i table c.requires.net less in
    omega (arith, low, room))))
