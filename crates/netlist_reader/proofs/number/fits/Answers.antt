-- A number fits a size where its quotient by 2 to the size is 0.
use Rattle.std.proofs.Common.{◌^◌}
use Rattle.std.proofs.lemmas.Nat.{pow_pos}
use Rattle.netlist_reader.proofs.Numbers.{quotient_zero}
use Rattle.netlist_reader.proofs.number.fits.Goals as goal

pub returns-else-size-eq128 : goal.returns-else-size-eq128
returns-else-size-eq128 c = quotient_zero c.args.number (2 ^ c.args.size) (pow_pos c.args.size)
