-- One more digit is too much for 128 bits.
use Rattle.std.proofs.Common.{rules}
use Rattle.netlist_reader.proofs.Numbers.{too_wide}
use Rattle.netlist_reader.proofs.number.spaced_value.Goals as goal

pub returns-in_err-value : goal.returns-in_err-value
returns-in_err-value c =
    let none = too_wide c.args.base c.args.text.now c.digits.value c.digits.rest.now c.digits.invariant.number c.in-len1-up.len_at_least c.requires.0 c.if-byte-eq95.false (search rules) in
    cc
