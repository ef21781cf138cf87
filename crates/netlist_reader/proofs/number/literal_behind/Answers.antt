-- A literal is its size, its base and its digits.
use Rattle.std.proofs.Common.{arith}
use Rattle.std.proofs.lemmas.Grind.{common_steps}
use Rattle.netlist_reader.proofs.Numbers.{behind_is}
use Rattle.netlist_reader.proofs.number.literal_behind.Goals as goal

pub returns : goal.returns
returns c =
    behind_is c.args.size.now c.args.rest.now c.in_ok-size.size c.in_ok-base.base c.value_in.result c.in-len2-up.len_at_least c.in_ok-size.ensures.size c.in_ok-base.ensures (let h = c.value_in.ensures in grind (arith, common_steps))
