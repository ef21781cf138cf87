-- The verdict, or the log doesn't refute.
use Rattle.decide_cnf.proofs.NextAnswers.{refutes_next}
use Rattle.std.proofs.Common.{ap, ◌∙◌, subst}
use Rattle.std.specs.List.{All}
use Rattle.sat_proof.specs.Assignment.{HasNoZero}
use Rattle.decide_nodes.specs.Nodes.{nothing, root_bit}
use Rattle.law_model.specs.declared.line.Body.TheVariants.{Refuted}
use Rattle.cert_check.proofs.Refusing.{log_fits, log_refuses, no_truth, verdict_made}
use Rattle.cert_check.proofs.logs.refuting_verdict.Goals as goal

pub returns-clause-none : goal.returns-clause-none
returns-clause-none c =
    log_refuses c.args.wave.now c.args.cone.now.nodes c.args.query.now (root_bit nothing c.args.cone.now.nodes) c.args.log
    c.requires.cone c.requires.query
    (λ refutes. no_truth (c.in-Err.ensures.exact.1 refutes))

pub conclude-requires-clause-refutes : goal.conclude-requires-clause-refutes
conclude-requires-clause-refutes c =
    refutes_next c.args.wave.now c.args.cone.now.nodes c.args.query.now _ c.requires.cone c.requires.query c.in-Ok.ensures.refutes

pub returns-in-Ok-clause-verdict : goal.returns-in-Ok-clause-verdict
returns-in-Ok-clause-verdict c =
    verdict_made c.args.wave.now c.conclude.result (Refuted (root_bit nothing c.args.cone.now.nodes) c.args.log)
    c.conclude.ensures.holds
    (c.conclude.ensures.body ∙ ap (λ log. Refuted (root_bit nothing c.args.cone.now.nodes) log) c.in-Ok.ensures.log)
    (log_fits c.args.wave.now c.args.cone.now.nodes c.args.query.now c.args.log c.requires.cone c.requires.query c.requires.fit
    (subst (All HasNoZero) c.in-Ok.ensures.log c.conclude.ensures.no_zero))
