-- One pin more.
use Rattle.std.proofs.Common.{◌<◌, ◌+◌, ◌^◌, ◌∙◌, ℕ, Bool, sym, ap, subst, take, arith, if◌then◌else◌}
use Rattle.design_circuit.specs.Fits.{dead_pins}
use Rattle.elab_prims.proofs.PinLemmas.{dead_small_at, dead_more_at, bit_fits}
use Rattle.elab_prims.proofs.clocks.dead_pins.Goals as goal

pub overflow_add-dead : goal.overflow_add-dead
overflow_add-dead c =
    let small : c.pins.dead < 2 ^ c.pins.place = subst (λ (n : ℕ). n < 2 ^ c.pins.place) (sym c.pins.invariant) (dead_small_at c.args.pins.now c.pins.place (omega arith)) in
    let fits = bit_fits c.is_dead.result c.pins.dead c.pins.place small (omega arith) in
    let bit = c.bit_if-dead.ensures in
    omega arith

pub pins-preserved : goal.pins-preserved
pins-preserved c =
    ap (λ (n : ℕ). n + c.bit_if-dead.result) c.pins.invariant
    ∙ ap (λ (n : ℕ). dead_pins (take c.pins.place c.args.pins.now) + n) (c.bit_if-dead.ensures ∙ ap (λ (b : Bool). if b then 2 ^ c.pins.place else 0) c.is_dead.ensures)
    ∙ sym (dead_more_at c.args.pins.now c.pins.place _ c.pins-test.true)
