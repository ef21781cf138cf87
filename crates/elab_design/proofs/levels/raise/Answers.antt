-- All modules have been asked.
use Rattle.std.proofs.Common.{◌≤◌, List, length, subst}
use Rattle.netlist_grammar.specs.declared.tree.Module.{Module}
use Rattle.elab_design.proofs.Raising.{all_asked}
use Rattle.elab_design.proofs.levels.raise.Goals as goal

pub returns-clause-raised : goal.returns-clause-raised
returns-clause-raised c =
    all_asked c.args.next.now.definitions.now c.modules.levels.items c.args.next.now.level c.modules.k
    (subst (λ (ms : List Module). length ms ≤ c.modules.k) c.requires.modules c.modules-test.false) c.modules.invariant.raised
