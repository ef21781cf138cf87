-- What isn't due between two positions that are is settled.
use Rattle.std.proofs.Common.{◌≡◌, ◌+◌, ◌<◌, ℕ, Err, rules, arith, subst, slice_index}
use Rattle.design_circuit.specs.Settled.{last_step, IsSettledAt}
use Rattle.replay_history.specs.Sides.{job_beside}
use Rattle.replay_history.proofs.Faults.{all_settled, first_unsettled}
use Rattle.replay_history.proofs.Watching.{SettlesOn, up_to_more, up_to_next}
use Rattle.replay_history.proofs.settled.check_due_registers.Goals as goal

pub positions-init : goal.positions-init
positions-init c =
    let j = job_beside c.args.sides.now in
    up_to_next (SettlesOn c.args.sides.now c.args.moment) c.args.due.now j.width 0 c.first_from-position.result c.first_from-position.ensures.none c.requires.rest (λ p less within. absurd (omega (arith, less)))

pub positions-preserved : goal.positions-preserved
positions-preserved c =
    let j = job_beside c.args.sides.now in
    let next = c.first_from-position-in-positions in
    let P : ℕ → Type 0 = λ net. IsSettledAt (job_beside c.args.sides.now) (last_step (job_beside c.args.sides.now) c.args.moment) net ((job_beside c.args.sides.now).driver net) in
    let here : SettlesOn c.args.sides.now c.args.moment c.positions.position = subst P c.net_at-net.ensures c.in_ok-check_net.ensures.settled in
    up_to_next (SettlesOn c.args.sides.now c.args.moment) c.args.due.now j.width (c.positions.position + 1) next.result next.ensures.none c.requires.rest (up_to_more (SettlesOn c.args.sides.now c.args.moment) j.width c.positions.position here c.positions.invariant)

pub returns-in_err-check_net-clause-fault : goal.returns-in_err-check_net-clause-fault
returns-in_err-check_net-clause-fault c =
    let j = job_beside c.args.sides.now in
    let is : c.from_residual.result ≡ Err c.in_err-check_net.field-0.0 = search rules in
    let count = c.width_of-nets.ensures in
    let within : c.positions.position < j.width = (let test = c.positions-test.true in omega (arith, count, test)) in
    rw is (first_unsettled j c.args.sides.now.circuit.fits.fits_job c.args.moment c.positions.position c.net_at-net.result c.in_err-check_net.field-0.0 within c.net_at-net.ensures (λ p less. c.positions.invariant p less (omega (arith, less, within))) c.in_err-check_net.ensures.fault)

pub returns-clause-settled : goal.returns-clause-settled
returns-clause-settled c =
    let j = job_beside c.args.sides.now in
    let count = c.width_of-nets.ensures in
    let end = c.positions-test.false in
    all_settled j c.args.sides.now.circuit.fits.fits_job c.args.moment (λ p less. c.positions.invariant p (omega (arith, count, end, less)) less)
