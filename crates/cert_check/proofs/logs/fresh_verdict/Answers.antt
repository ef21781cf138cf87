-- The licence, or the log isn't one.
use Rattle.decide_cnf.proofs.NextAnswers.{fresh_next}
use Rattle.std.proofs.Common.{◌∙◌, ap, subst, sym}
use Rattle.std.specs.List.{All}
use Rattle.sat_proof.specs.Assignment.{HasNoZero}
use Rattle.law_model.specs.declared.line.Body.TheVariants.{Undecided}
use Rattle.cert_check.proofs.Refusing.{log_fits, no_truth, stale_refuses, verdict_made}
use Rattle.cert_check.proofs.logs.fresh_verdict.Goals as goal

pub returns-clause-none : goal.returns-clause-none
returns-clause-none c =
    stale_refuses c.args.wave.now c.args.cone.now.nodes c.args.query.now c.args.log c.requires.cone c.requires.query
    (λ fresh. no_truth (c.in-Err.ensures.exact.1 (fresh.0, fresh.1 ∙ sym (ap (λ l. l.conflicts) c.limits.ensures))))

pub give_up-requires-clause-fresh : goal.give_up-requires-clause-fresh
give_up-requires-clause-fresh c =
    fresh_next c.args.wave.now c.args.cone.now.nodes c.args.query.now _ c.requires.cone c.requires.query c.in-Ok.ensures.fresh

pub returns-in-Ok-clause-verdict : goal.returns-in-Ok-clause-verdict
returns-in-Ok-clause-verdict c =
    verdict_made c.args.wave.now c.give_up.result (Undecided c.args.log) c.give_up.ensures.holds
    (c.give_up.ensures.body ∙ ap (λ log. Undecided log) c.in-Ok.ensures.log)
    (log_fits c.args.wave.now c.args.cone.now.nodes c.args.query.now c.args.log c.requires.cone c.requires.query c.requires.fit
    (subst (All HasNoZero) c.in-Ok.ensures.log c.give_up.ensures.no_zero))
