-- What is found is there.
use Rattle.std.proofs.Common.{subst, IfSome}
use Rattle.netlist_grammar.specs.declared.tree.Source.{Source}
use Rattle.elab_prims.specs.declared.definitions.Definition.{Definition}
use Rattle.elab_prims.specs.Definitions.{IsThere}
use Rattle.elab_prims.proofs.DefinitionLemmas.{found_there}
use Rattle.elab_prims.proofs.definitions.Definitions.find.Goals as goal

pub returns-clause-there : goal.returns-clause-there
returns-clause-there c =
    subst (λ (s : Source). IfSome c.find.result (λ (d : Definition). IsThere s d)) c.self.view_is
    (found_there c.self.inside.source.now c.args.name.now c.find.result c.self.inside.numbers c.self.invariant c.find.ensures)
