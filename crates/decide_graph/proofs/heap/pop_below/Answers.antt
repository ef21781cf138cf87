-- What is popped is the bound, or the greatest of the others.
use Rattle.std.specs.BinaryHeap.{heap_items}
use Rattle.decide_graph.proofs.HeapPlaces.{pops_copy, pops_next}
use Rattle.decide_graph.proofs.heap.pop_below.Goals as goal

pub returns-then-place-bound-clause-pops : goal.returns-then-place-bound-clause-pops
returns-then-place-bound-clause-pops c =
    pops_next c.args.bound c.in-Some.place (heap_items c.args.places.now) (heap_items c.copies.places)
    (heap_items c.pop.new.self) c.copies.invariant.so c.in-Some.ensures.permutation c.if-place-bound.true
    (c.in-Some.ensures.heap_order c.copies.invariant.heap).1

pub copies-preserved : goal.copies-preserved
copies-preserved c = record {
  heap = (c.in-Some.ensures.heap_order c.copies.invariant.heap).0;
  so = pops_copy c.args.bound c.in-Some.place (heap_items c.args.places.now) (heap_items c.copies.places)
      (heap_items c.pop.new.self) c.copies.invariant.so c.in-Some.ensures.permutation c.if-place-bound.false;
}
