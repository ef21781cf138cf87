-- A place is forced where the two values differ.
use Rattle.std.proofs.Common.{None, Some, ap, sym, ◌∙◌, if◌then◌else◌}
use Rattle.replay_forces.proofs.Sameness.{same_found}
use Rattle.replay_forces.proofs.given.needed.Goals as goal

pub returns-then-is_same : goal.returns-then-is_same
returns-then-is_same c =
    ap (λ test. if test then None else Some c.args.value) (sym c.if-is_same.true ∙ same_found c.args.given c.args.value c.is_same.result c.is_same.ensures.same c.is_same.ensures.differ)

pub returns-else-is_same : goal.returns-else-is_same
returns-else-is_same c =
    ap (λ test. if test then None else Some c.args.value) (sym c.if-is_same.false ∙ same_found c.args.given c.args.value c.is_same.result c.is_same.ensures.same c.is_same.ensures.differ)
