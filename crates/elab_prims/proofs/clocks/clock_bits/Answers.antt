-- One bit more has room.
use Rattle.std.proofs.Common.{◌<◌, ◌^◌, ℕ, sym, subst, arith}
use Rattle.elab_prims.proofs.PinLemmas.{bits_small, bit_fits}
use Rattle.elab_prims.proofs.clocks.clock_bits.Goals as goal

pub overflow_add-clocks : goal.overflow_add-clocks
overflow_add-clocks c =
    let small : c.pins.clocks < 2 ^ c.pins.pin = subst (λ (n : ℕ). n < 2 ^ c.pins.pin) (sym c.pins.invariant) (bits_small c.args.udp.now c.args.dead c.pins.pin) in
    let fits = bit_fits c.is_clock.result c.pins.clocks c.pins.pin small (omega arith) in
    let bit = c.bit_if-clocks.ensures in
    omega arith
