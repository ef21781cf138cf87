-- A number that 128 bits do not hold fits no size.
use Rattle.std.proofs.Common.{sym}
use Rattle.netlist_grammar.specs.Numbers.{are_spaced_digits, spaced_number}
use Rattle.netlist_reader.proofs.Numbers.{narrower}
use Rattle.netlist_reader.proofs.number.value_in.Goals as goal

pub returns-in_err-value : goal.returns-in_err-value
returns-in_err-value c =
    let none = narrower (are_spaced_digits c.args.base c.args.digits.now) (spaced_number c.args.base c.args.digits.now) c.args.size c.requires.size.1 (sym (c.in_err-value.ensures)) in
    rw c.from_residual.ensures (sym none)
