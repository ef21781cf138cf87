-- What isn't due between two variables that are agrees.
use Rattle.std.proofs.Common.{◌≡◌, ◌∙◌, ◌+◌, ◌<◌, ℕ, Err, rules, length, refl, ap, arith, subst}
use Rattle.std.proofs.lemmas.List.{get_or_default}
use Rattle.std.proofs.lemmas.List.Elements.{All-from_get_or}
use Rattle.recording_binding.specs.declared.binding.Bound.{Bound}
use Rattle.replay_history.specs.Fault.{VariableAgrees, bound_at, no_variable}
use Rattle.replay_history.specs.Sides.{AgreesBeside, job_beside}
use Rattle.replay_history.proofs.Faults.{first_variable}
use Rattle.replay_history.proofs.Watching.{up_to_more, up_to_next}
use Rattle.replay_history.proofs.recorded.check_due_variables.Goals as goal

pub variables-init : goal.variables-init
variables-init c =
    let P : ℕ → Type 0 = λ n. AgreesBeside c.args.sides.now c.args.moment (bound_at c.args.bound.now n) in
    record {
      same = refl;
      agree = up_to_next P c.args.due.now (length c.args.bound.now.bound) 0 c.first_from-number.result c.first_from-number.ensures.none c.requires.agree (λ n less within. absurd (omega (arith, less)));
    }

pub check_variable-requires-clause-follower : goal.check_variable-requires-clause-follower
check_variable-requires-clause-follower c = rw c.variables.invariant.same c.requires.follower

pub variables-preserved : goal.variables-preserved
variables-preserved c =
    let P : ℕ → Type 0 = λ n. AgreesBeside c.args.sides.now c.args.moment (bound_at c.args.bound.now n) in
    let same = ap length c.as_slice-variables.ensures in
    let within : c.variables.number < length c.args.bound.now.bound = (let test = c.variables-test.true in omega (arith, same, test)) in
    let item : c.index-variables-number.result ≡ bound_at c.args.bound.now c.variables.number = rw c.as_slice-variables.ensures at c.index-variables-number.is ∙ get_or_default c.args.bound.now.bound c.variables.number c.index-variables-number.result no_variable within in
    let Q : Bound → Type 0 = λ b. AgreesBeside c.args.sides.now c.args.moment b in
    let here : P c.variables.number = subst Q item c.in_ok-check_variable.ensures.agrees in
    let next = c.first_from-number-in-variables in
    record {
      same = c.in_ok-check_variable.ensures.same ∙ c.variables.invariant.same;
      agree = up_to_next P c.args.due.now (length c.args.bound.now.bound) (c.variables.number + 1) next.result next.ensures.none c.requires.agree (up_to_more P (length c.args.bound.now.bound) c.variables.number here c.variables.invariant.agree);
    }

pub returns-in_err-check_variable-clause-fault : goal.returns-in_err-check_variable-clause-fault
returns-in_err-check_variable-clause-fault c =
    let j = job_beside c.args.sides.now in
    let is : c.from_residual.result ≡ Err c.in_err-check_variable.field-0.0 = search rules in
    let same = ap length c.as_slice-variables.ensures in
    let within : c.variables.number < length c.args.bound.now.bound = (let test = c.variables-test.true in omega (arith, same, test)) in
    let item : c.index-variables-number.result ≡ bound_at c.args.bound.now c.variables.number = rw c.as_slice-variables.ensures at c.index-variables-number.is ∙ get_or_default c.args.bound.now.bound c.variables.number c.index-variables-number.result no_variable within in
    rw is (first_variable j c.args.sides.now.recording.now c.args.bound.now c.args.moment c.variables.number c.index-variables-number.result c.in_err-check_variable.field-0.0 within item (λ n less. c.variables.invariant.agree n less (omega (arith, less, within))) c.in_err-check_variable.ensures.fault)

pub returns-clause-agrees : goal.returns-clause-agrees
returns-clause-agrees c =
    let same = ap length c.as_slice-variables.ensures in
    let end = c.variables-test.false in
    All-from_get_or (VariableAgrees (job_beside c.args.sides.now) c.args.sides.now.recording.now c.args.moment) c.args.bound.now.bound no_variable (λ i less. c.variables.invariant.agree i (omega (arith, same, end, less)) less)
