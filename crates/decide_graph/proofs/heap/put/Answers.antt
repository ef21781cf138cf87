-- The place joins below the greatest, over it, or is the greatest.
use Rattle.std.proofs.Common.{arith}
use Rattle.std.specs.BinaryHeap.{heap_items}
use Rattle.decide_graph.proofs.HeapPlaces.{joins_above, joins_below, joins_equal}
use Rattle.decide_graph.proofs.heap.put.Goals as goal

pub returns-then-place-greatest-clause-ok : goal.returns-then-place-greatest-clause-ok
returns-then-place-greatest-clause-ok c =
    joins_below c.args.greatest c.args.place (heap_items c.args.places.now) (heap_items c.push.new.self)
    c.in_ok-push.ensures.permutation c.if-place-greatest.true c.requires.below

pub returns-in_ok-push-2-clause-ok : goal.returns-in_ok-push-2-clause-ok
returns-in_ok-push-2-clause-ok c =
    joins_above c.args.greatest c.args.place (heap_items c.args.places.now)
    (heap_items c.push-then-greatest-place.new.self) c.in_ok-push-2.ensures.permutation c.if-greatest-place.true
    c.requires.below

pub returns-else-greatest-place-clause-ok : goal.returns-else-greatest-place-clause-ok
returns-else-greatest-place-clause-ok c =
    joins_equal c.args.greatest c.args.place (heap_items c.args.places.now)
    (omega (arith, c.if-place-greatest.false, c.if-greatest-place.false)) c.requires.below
