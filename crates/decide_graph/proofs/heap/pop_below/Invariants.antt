-- What is popped is the bound.
use Rattle.std.specs.BinaryHeap.{IsHeap, heap_items, heap_len}
use Rattle.std.specs.Ordering.{nat_cmp}
use Rattle.decide_graph.proofs.HeapPlaces.{PopsSoFar}
use Rattle.decide_graph.proofs.heap.pop_below.Given as goal

abbrev pub invariant-copies : goal.invariant-copies
invariant-copies l = record {
  heap : IsHeap nat_cmp (heap_items l.places);
  so : PopsSoFar l.bound (heap_items l.initial.places) (heap_items l.places);
}

abbrev pub decreases-copies : goal.decreases-copies
decreases-copies l = heap_len l.places
