-- Where none was raised, none will be.
use Rattle.std.proofs.Common.{rules, ◌≡◌, ◌-◌, ◌<◌, ◌≤◌, List, ℕ, sym, subst, arith}
use Rattle.elab_design.specs.Quiet.{AreLevels}
use Rattle.elab_design.proofs.Raising.{no_more}
use Rattle.elab_design.proofs.levels.levels_of.Goals as goal

pub returns-then-not-branch : goal.returns-then-not-branch
returns-then-not-branch c =
    let same : c.raise.new.levels.items ≡ c.levels.levels.items = search rules in
    let before : AreLevels c.args.definitions.now (c.levels.level - 1) c.raise.new.levels.items = subst (λ (ls : List ℕ). AreLevels c.args.definitions.now (c.levels.level - 1) ls) (sym same) c.levels.invariant in
    let some : 0 < c.levels.level = omega (arith, c.levels.auto.level) in
    let few : c.levels.level ≤ 32 = omega (arith, c.levels-test.true) in
    no_more c.args.definitions.now c.raise.new.levels.items c.levels.level some few before c.in_ok-raise.ensures.raised
