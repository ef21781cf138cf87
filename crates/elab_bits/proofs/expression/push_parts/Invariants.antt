-- What is left decides.
use Rattle.std.proofs.Common.{◌≡◌, drop}
use Rattle.elab_bits.specs.Bits.{lanes_of}
use Rattle.elab_bits.proofs.expression.push_parts.Given as goal

abbrev pub invariant-parts : goal.invariant-parts
invariant-parts l = lanes_of l.role l.fn.runs l.parts l.fn.here ≡ lanes_of l.role l.runs (drop l.part-index l.parts) l.here
