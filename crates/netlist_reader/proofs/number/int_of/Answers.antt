-- Past 214748364 one more digit is too much.
use Rattle.std.proofs.Common.{sym}
use Rattle.netlist_reader.proofs.Numbers.{int_too_big}
use Rattle.netlist_reader.proofs.number.int_of.Goals as goal

pub returns-then-value-gt214748364 : goal.returns-then-value-gt214748364
returns-then-value-gt214748364 c = sym (int_too_big _ _ _ c.digits.invariant.number c.in-len1-up.len_at_least c.if-value-gt214748364.true)
