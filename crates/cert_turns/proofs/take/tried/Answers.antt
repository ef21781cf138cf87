-- The log is fresh for the next query, or it never is.
use Rattle.std.proofs.Common.{sym, subst, ◌∙◌}
use Rattle.sat_proof.specs.Log.{Fit}
use Rattle.cert_turns.proofs.MissedTurns.{found_tried, never_both, never_tried, no_truth, unfit_tried}
use Rattle.cert_turns.proofs.take.tried.Goals as goal

pub returns-then-not-fits-clause-none : goal.returns-then-not-fits-clause-none
returns-then-not-fits-clause-none c =
    unfit_tried c.args.condition c.next_query-query.result.now c.args.log c.next_query-query.ensures.query
    (λ fit. never_both c.fits.result (c.fits.ensures.1 fit) c.if-not-fits.true)

pub tried-requires-clause-fresh : goal.tried-requires-clause-fresh
tried-requires-clause-fresh c =
    found_tried c.args.condition c.next_query-query.result.now c.in-Ok.proof c.next_query-query.ensures.query
    (subst (Fit c.next_query-query.result.now.vars) (sym c.in-Ok.ensures.log) (c.fits.ensures.0 c.if-not-fits.false))
    c.in-Ok.ensures.fresh (c.in-Ok.ensures.count ∙ c.limit.ensures)

pub returns-in-Err-clause-none : goal.returns-in-Err-clause-none
returns-in-Err-clause-none c =
    never_tried c.args.condition c.next_query-query.result.now c.args.log c.next_query-query.ensures.query
    (λ fresh. no_truth (c.in-Err.ensures.exact.1 (fresh.0, fresh.1 ∙ sym c.limit.ensures)))
