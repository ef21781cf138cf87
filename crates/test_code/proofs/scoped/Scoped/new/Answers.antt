-- The design of a job fits.
use Rattle.design_circuit.specs.Design.{FitsDesign}
use Rattle.design_circuit.specs.declared.design.Design.{Design}
use Rattle.std.proofs.Common.{subst, sym}
use Rattle.test_code.proofs.scoped.Scoped.new.Goals as goal

pub invariant_of-result : goal.invariant_of-result
invariant_of-result c =
    subst (λ (d : Design). FitsDesign d) (sym c.circuit_of-circuit.ensures.design) c.requires.netlist.design
