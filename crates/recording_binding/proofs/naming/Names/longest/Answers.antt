-- No net has a longer key.
use Rattle.std.proofs.Common.{ap, sym, ◌∙◌}
use Rattle.design_circuit.specs.declared.design.Design.{Design}
use Rattle.recording_binding.specs.Naming.{nets_of}
use Rattle.recording_binding.proofs.NameLemmas.{too_long}
use Rattle.recording_binding.proofs.naming.Names.longest.Goals as goal

pub returns : goal.returns
returns c = λ name above. ap (λ (d : Design). nets_of d name) (sym c.self.view_is) ∙ too_long c.self.inside.design.now name c.self.inside.longest c.self.invariant.1.long above
