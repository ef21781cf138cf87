-- The log refutes the next query, or it never does.
use Rattle.std.proofs.Common.{sym, subst}
use Rattle.sat_proof.specs.Log.{Fit}
use Rattle.cert_turns.proofs.MissedTurns.{found_dropped, never_both, never_dropped, no_truth, unfit_dropped}
use Rattle.cert_turns.proofs.take.dropped.Goals as goal

pub returns-then-not-fits-clause-none : goal.returns-then-not-fits-clause-none
returns-then-not-fits-clause-none c =
    unfit_dropped c.args.condition c.next_query-query.result.now c.args.log c.next_query-query.ensures.query
    (λ fit. never_both c.fits.result (c.fits.ensures.1 fit) c.if-not-fits.true)

pub drop_place-requires-clause-refutes : goal.drop_place-requires-clause-refutes
drop_place-requires-clause-refutes c =
    found_dropped c.args.condition c.next_query-query.result.now c.in-Ok.proof c.next_query-query.ensures.query
    (subst (Fit c.next_query-query.result.now.vars) (sym c.in-Ok.ensures.log) (c.fits.ensures.0 c.if-not-fits.false))
    c.in-Ok.ensures.refutes

pub returns-in-Err-clause-none : goal.returns-in-Err-clause-none
returns-in-Err-clause-none c =
    never_dropped c.args.condition c.next_query-query.result.now c.args.log c.next_query-query.ensures.query
    (λ refutes. no_truth (c.in-Err.ensures.exact.1 refutes))
