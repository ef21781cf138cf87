-- What is kept, and what is found anew.
use Rattle.std.proofs.Common.{◌<◌, ℕ, List, length, sym, subst}
use Rattle.design_cell.specs.Table.{Table}
use Rattle.design_circuit.specs.Job.{primitive_of}
use Rattle.elab_prims.specs.Pins.{AreClocks}
use Rattle.elab_prims.proofs.PinLemmas.{kept, masks_more, clocks_fit, bits_of_inputs, fit_anew}
use Rattle.elab_prims.proofs.clocks.Clocks.clocks.Goals as goal

pub returns-in-Some-clause-clocks : goal.returns-in-Some-clause-clocks
returns-in-Some-clause-clocks c =
    kept c.self.inside.udps.now c.args.self.now c.self.inside.masks.entries c.args.number c.dead_pins-dead.result c.in-Some.clocks.now c.args.pins.now c.self.invariant c.self.view_is (sym c.in-Some.ensures.value) c.dead_pins-dead.ensures
    c.requires.inputs

pub returns-in-Some-clause-fit : goal.returns-in-Some-clause-fit
returns-in-Some-clause-fit c =
    let is = kept c.self.inside.udps.now c.args.self.now c.self.inside.masks.entries c.args.number c.dead_pins-dead.result c.in-Some.clocks.now c.args.pins.now c.self.invariant c.self.view_is (sym c.in-Some.ensures.value)
    c.dead_pins-dead.ensures c.requires.inputs in
    subst (λ (n : ℕ). AreClocks (primitive_of c.args.self.now c.args.number) c.args.pins.now n) (sym is) (clocks_fit (primitive_of c.args.self.now c.args.number) c.args.pins.now)

pub invariant_of-self-2 : goal.invariant_of-self-2
invariant_of-self-2 c =
    let within : c.args.number < length c.self.inside.udps.now = subst (λ (us : List Table). c.args.number < length us) (sym c.self.view_is) c.requires.within in
    masks_more c.self.inside.udps.now c.self.inside.masks.entries c.insert.new.self.entries (c.args.number, c.dead_pins-dead.result) c.clock_bits-clocks.result c.self.invariant c.in_ok-insert.ensures.updates.0
    (bits_of_inputs c.self.inside.udps.now c.args.self.now c.args.number c.dead_pins-dead.result c.clock_bits-clocks.result c.index-self-number.result (length c.args.pins.now) c.self.view_is within
    c.clock_bits-clocks.ensures c.requires.inputs)

pub returns-clause-fit : goal.returns-clause-fit
returns-clause-fit c =
    let within : c.args.number < length c.self.inside.udps.now = subst (λ (us : List Table). c.args.number < length us) (sym c.self.view_is) c.requires.within in
    fit_anew c.self.inside.udps.now c.args.self.now c.args.number c.dead_pins-dead.result c.clock_bits-clocks.result c.index-self-number.result c.args.pins.now c.self.view_is within c.clock_bits-clocks.ensures
    c.dead_pins-dead.ensures
