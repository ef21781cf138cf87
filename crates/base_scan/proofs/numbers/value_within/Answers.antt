-- A number that is over the limit stays so.
use Rattle.std.proofs.Common.{◌∙◌, sym}
use Rattle.base_scan.proofs.Growing.{past_from}
use Rattle.base_scan.proofs.numbers.value_within.Goals as goal

pub returns-in-None-clause-is : goal.returns-in-None-clause-is
returns-in-None-clause-is c = sym (c.digits.invariant.reads ∙ past_from _ _ _ 0 c.in-len1-up.len_at_least c.in-None.ensures)
