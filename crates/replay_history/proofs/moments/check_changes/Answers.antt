-- The first moment with a fault has the first fault.
use Rattle.std.proofs.Common.{◌≡◌, ◌-◌, ℕ, Err, rules, length, ap, arith, below_more}
use Rattle.replay_history.specs.Fault.{HasNoFault}
use Rattle.replay_history.specs.Sides.{job_beside}
use Rattle.replay_history.specs.declared.differ.DifferErr.TheVariants.{Differs}
use Rattle.replay_history.proofs.Faults.{first_fault}
use Rattle.replay_history.proofs.Followers.{up_to_later}
use Rattle.replay_history.proofs.moments.check_changes.Goals as goal

pub moments-init : goal.moments-init
moments-init c =
    record {
      none = λ earlier less. absurd (omega (arith, less));
      follower = c.in_ok-marked.ensures.follower;
      registers = c.in_ok-marked.ensures.registers;
      variables = c.in_ok-marked.ensures.variables;
    }

pub check_next-requires-clause-before : goal.check_next-requires-clause-before
check_next-requires-clause-before c = λ later. c.moments.invariant.none (c.moments.moment - 1) (omega (arith, later))

pub moments-preserved : goal.moments-preserved
moments-preserved c =
    let P : ℕ → Type 0 = HasNoFault (job_beside c.args.sides.now) c.args.sides.now.recording.now c.args.bound.now in
    let registers = c.moments.invariant.registers in
    let variables = c.moments.invariant.variables in
    let first = c.in_ok-check_next.ensures.registers in
    let second = c.in_ok-check_next.ensures.variables in
    record {
      none = below_more P c.moments.moment c.moments.invariant.none c.in_ok-check_next.ensures.none;
      follower = up_to_later c.args.sides.now c.moments.moment c.check_next.new.marked.follower c.in_ok-check_next.ensures.follower;
      registers = omega (arith, registers, first);
      variables = omega (arith, variables, second);
    }

pub returns-in_err-check_next-clause-differs : goal.returns-in_err-check_next-clause-differs
returns-in_err-check_next-clause-differs c =
    let is : c.from_residual-in_err-check_next.result ≡ Err (Differs c.in_err-check_next.field-0.0) = search rules in
    let j = job_beside c.args.sides.now in
    let same = ap length c.as_slice-moment-end.ensures in
    let test = c.moments-test.true in
    rw is (first_fault j c.args.sides.now.recording.now c.args.bound.now c.moments.moment c.in_err-check_next.field-0.0 (omega (arith, same, test)) c.moments.invariant.none c.in_err-check_next.ensures.fault)

pub returns-clause-agrees : goal.returns-clause-agrees
returns-clause-agrees c =
    let same = ap length c.as_slice-moment-end.ensures in
    let end = c.moments-test.false in
    λ moment less. c.moments.invariant.none moment (omega (arith, same, end, less))
