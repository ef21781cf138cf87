-- The first net that isn't settled comes first in the order.
use Rattle.std.proofs.Common.{◌≡◌, ◌<◌, ℕ, Err, rules, length, ap, arith, subst, below_more, slice_index}
use Rattle.design_circuit.specs.Settled.{last_step, IsSettledAt}
use Rattle.replay_history.specs.Sides.{job_beside}
use Rattle.replay_history.proofs.Faults.{all_settled, first_unsettled}
use Rattle.replay_history.proofs.settled.check_settled.Goals as goal

pub positions-preserved : goal.positions-preserved
positions-preserved c =
    let j = job_beside c.args.sides.now in
    let P : ℕ → Type 0 = λ net. IsSettledAt (job_beside c.args.sides.now) (last_step (job_beside c.args.sides.now) c.args.moment) net ((job_beside c.args.sides.now).driver net) in
    let Q : ℕ → Type 0 = λ p. P (slice_index j.order p) in
    below_more Q c.positions.position c.positions.invariant (subst P c.net_at-net.ensures c.in_ok-check_net.ensures.settled)

pub returns-in_err-check_net-clause-fault : goal.returns-in_err-check_net-clause-fault
returns-in_err-check_net-clause-fault c =
    let j = job_beside c.args.sides.now in
    let is : c.from_residual.result ≡ Err c.in_err-check_net.field-0.0 = search rules in
    let same = ap length c.as_slice-position-end.ensures in
    let within : c.positions.position < j.width = (let test = c.positions-test.true in omega (arith, same, test)) in
    rw is (first_unsettled j c.args.sides.now.circuit.fits.fits_job c.args.moment c.positions.position c.net_at-net.result c.in_err-check_net.field-0.0 within c.net_at-net.ensures c.positions.invariant c.in_err-check_net.ensures.fault)

pub returns-clause-settled : goal.returns-clause-settled
returns-clause-settled c =
    let j = job_beside c.args.sides.now in
    let same = ap length c.as_slice-position-end.ensures in
    let end = c.positions-test.false in
    all_settled j c.args.sides.now.circuit.fits.fits_job c.args.moment (λ p less. c.positions.invariant p (omega (arith, same, end, less)))
