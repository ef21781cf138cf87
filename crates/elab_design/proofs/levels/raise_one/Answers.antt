-- The table with one level more.
use Rattle.std.proofs.Common.{rules, ◌≡◌, ◌<◌, true}
use Rattle.elab_design.specs.Quiet.{level_at, is_quiet}
use Rattle.elab_design.proofs.Raising.{raised_more}
use Rattle.elab_design.proofs.levels.raise_one.Goals as goal

pub returns-clause-raised : goal.returns-clause-raised
returns-clause-raised c =
    let none : 32 < level_at c.args.levels.now.items c.args.k = search rules in
    let quiet : is_quiet c.args.next.now.definitions.now c.args.levels.now.items c.args.next.now.level c.args.unit.now ≡ true = search rules in
    raised_more c.args.next.now.definitions.now c.args.levels.now.items c.args.k c.args.next.now.level c.args.unit.now c.args.next.now.few c.requires.levels c.requires.unit c.args.next.now.some none quiet
