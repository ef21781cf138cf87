-- What is found is there.
use Rattle.std.proofs.Common.{subst, IfSome, List, ℕ, ◌<◌, length}
use Rattle.netlist_trim.specs.Definition.{Defined}
use Rattle.netlist_trim.proofs.Numbering.{found_there}
use Rattle.netlist_trim.proofs.library.Library.find.Goals as goal

pub returns-clause-there : goal.returns-clause-there
returns-clause-there c =
    subst (λ (ds : List Defined). IfSome c.find.result (λ (k : ℕ). k < length ds)) c.self.view_is
    (found_there c.self.inside.definitions.items c.args.name.now c.find.result c.self.inside.numbers c.self.invariant c.find.ensures)
