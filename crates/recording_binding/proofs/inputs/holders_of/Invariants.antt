-- What holds each net among the variables so far.
use Rattle.std.proofs.Common.{take}
use Rattle.recording_binding.specs.Holding.{Holds}
use Rattle.recording_binding.proofs.inputs.holders_of.Given as goal

abbrev pub invariant-bound : goal.invariant-bound
invariant-bound l = Holds l.design (take l.b-index l.bound) l.holders.items
