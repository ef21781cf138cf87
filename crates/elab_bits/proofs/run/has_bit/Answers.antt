-- A value has 128 bits.
use Rattle.std.proofs.Common.{◌≡◌, refl}
use Rattle.std.specs.Int.{bit_at}
use Rattle.std.proofs.lemmas.Nat.Bits.{bit_at_above}
use Rattle.elab_bits.proofs.run.has_bit.Goals as goal

pub returns : goal.returns
returns c = let none : bit_at c.args.value c.args.index ≡ 0 = bit_at_above c.args.value 128 c.args.index c.ranges.value.fits c.if-index-lt128.false in rw none refl
