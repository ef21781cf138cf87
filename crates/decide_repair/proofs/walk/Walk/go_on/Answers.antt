-- The walk goes on with its wave, or what is refused is refused of its job.
use Rattle.std.proofs.Common.{ap, subst, ◌∙◌}
use Rattle.decide_repair.specs.Step.{RefusedStep}
use Rattle.decide_repair.specs.Walk.{WalkView, start_of}
use Rattle.decide_repair.proofs.Objecting.{refused_along}
use Rattle.decide_repair.proofs.Pieces.{start_job, start_stays, walk_further}
use Rattle.decide_repair.proofs.walk.Walk.go_on.Goals as goal

pub invariant_of-result : goal.invariant_of-result
invariant_of-result c =
    walk_further c.self.inside.wave c.in-Ok.wave c.self.inside.aids c.write_lines.new.aids c.self.invariant
    c.in-Ok.ensures.same c.in-Ok.ensures.along c.in-Ok.ensures.sound c.in-Ok.ensures.right

pub returns-in-Ok-clause-start : goal.returns-in-Ok-clause-start
returns-in-Ok-clause-start c =
    start_stays c.self.inside.wave c.in-Ok.wave c.in-Ok.ensures.same ∙ ap (λ (w : WalkView). w.start) c.self.view_is

pub returns-clause-refused : goal.returns-clause-refused
returns-clause-refused c =
    subst (λ (w : WalkView). RefusedStep w.start c.in-Err.refusal) c.self.view_is
    (refused_along (start_of c.self.inside.wave) c.self.inside.wave c.in-Err.refusal (start_job c.self.inside.wave)
    c.in-Err.ensures.err)
