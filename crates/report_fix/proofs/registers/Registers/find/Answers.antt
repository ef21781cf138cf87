-- What is found is a net of the design.
use Rattle.std.proofs.Common.{◌<◌, ◌∙◌, length, subst}
use Rattle.std.specs.Prelude.{IfSome}
use Rattle.design_circuit.specs.declared.design.Design.{Design}
use Rattle.report_fix.proofs.NamedRegisters.{found_within}
use Rattle.report_fix.proofs.registers.Registers.find.Goals as goal

pub returns-clause-within : goal.returns-clause-within
returns-clause-within c =
    subst (λ (d : Design). IfSome c.copied.result (λ net. net < length d.nets)) c.self.view_is
    (found_within c.self.inside.design.now.nets c.args.name.now c.copied.result
    (c.copied.ensures ∙ c.get.ensures.value ∙ c.self.invariant c.args.name.now))
