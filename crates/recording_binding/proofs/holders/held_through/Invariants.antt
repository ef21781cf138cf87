-- What holds each net, or a net that copies it, among the variables so far.
use Rattle.std.proofs.Common.{map, take}
use Rattle.recording_binding.specs.Holding.{Holds}
use Rattle.recording_binding.specs.Originals.{with_originals}
use Rattle.recording_binding.proofs.holders.held_through.Given as goal

abbrev pub invariant-bound : goal.invariant-bound
invariant-bound l = Holds l.design (map (with_originals l.design) (take l.b-index l.bound)) l.holders.items
