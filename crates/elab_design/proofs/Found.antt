-- A module that a name defines is there.
use Rattle.std.proofs.Common.{◌≡◌, ℕ, ◌<◌, Option, Some, List, length, subst, IfSome}
use Rattle.netlist_grammar.specs.declared.tree.Source.{Source}
use Rattle.elab_prims.specs.declared.definitions.Definition.{Definition}
use Rattle.elab_prims.specs.declared.definitions.Definition.TheVariants as definition
use Rattle.elab_prims.specs.Definitions.{definition_of, IsThere}
use Rattle.elab_prims.proofs.DefinitionLemmas.{there}

pub module_within : (source : Source) (name : List ℕ) (k : ℕ) → definition_of source name ≡ Some (definition.Module k) → k < length source.modules
module_within source name k found = subst (λ (o : Option Definition). IfSome o (λ (d : Definition). IsThere source d)) found (there source name)
