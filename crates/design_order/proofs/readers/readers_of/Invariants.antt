-- The loop of `readers_of`.
use Rattle.std.proofs.Common.{length}
use Rattle.design_circuit.specs.Job.{driver_in}
use Rattle.design_order.specs.Readers.{IsTableOf, AreReaders}
use Rattle.design_order.proofs.readers.readers_of.Given as goal

abbrev pub invariant-loop-net : goal.invariant-loop-net
invariant-loop-net l = record {
  table : IsTableOf (length l.design.nets) l.readers;
  readers : AreReaders (driver_in l.design) l.net l.readers;
}
