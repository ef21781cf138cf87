-- The pins so far are looked at.
use Rattle.std.proofs.Common.{◌≡◌, ◌==◌, ◌&&◌, slice_index_or}
use Rattle.std.specs.Int.{bit_at}
use Rattle.design_cell.specs.Below.{any_below}
use Rattle.design_cell.specs.Value.{is_unknown}
use Rattle.design_cell.specs.declared.value.Value.TheVariants.{X}
use Rattle.design_circuit.proofs.register.clock_is_unknown.Given as goal

abbrev pub invariant-pins : goal.invariant-pins
invariant-pins l = l.any ≡ any_below l.pin (λ pin. (bit_at l.clocks pin == 1) && is_unknown (slice_index_or l.values pin X))
