-- The replay and its first fault.
use Rattle.std.proofs.Common.{refl}
use Rattle.cmd_job.specs.Compared.{job_for}
use Rattle.cmd_job.proofs.Comparing.{answer_agrees, answer_refused, circuit_fits, is_there, unforced}
use Rattle.cmd_job.proofs.compare.replay_and_compare.Goals as goal

pub invariant_of-circuit : goal.invariant_of-circuit
invariant_of-circuit c = record { fits = circuit_fits c.args.netlist.now c.args.recorded.now c.requires.netlist c.requires.recorded }

pub compare-requires-clause-history : goal.compare-requires-clause-history
compare-requires-clause-history c = unforced (job_for c.args.netlist.now c.args.recorded.now) _ _ c.empty-forces.ensures c.in_ok-history.ensures

pub returns-in-Ok-clause-replay : goal.returns-in-Ok-clause-replay
returns-in-Ok-clause-replay c = unforced (job_for c.args.netlist.now c.args.recorded.now) _ _ c.empty-forces.ensures c.in_ok-history.ensures

pub returns-in-Ok-clause-exact : goal.returns-in-Ok-clause-exact
returns-in-Ok-clause-exact c =
    answer_agrees c.args.netlist.now c.args.recorded.now c.compare.result _ c.in-Ok.is c.compare.ensures.exact c.in_ok-history.history _ refl

pub report_difference-requires-clause-there : goal.report_difference-requires-clause-there
report_difference-requires-clause-there c =
    let first = rw c.in-Err-Differs.field-0-is at c.in-Err-Differs.ensures.differs in
    is_there c.args.netlist.now c.args.recorded.now c.requires.recorded c.in-Err-Differs.differ first

pub returns-in-Err-Differs-clause-exact : goal.returns-in-Err-Differs-clause-exact
returns-in-Err-Differs-clause-exact c =
    let is = rw c.in-Err-Differs.field-0-is at c.in-Err-Differs.is in
    answer_refused c.args.netlist.now c.args.recorded.now c.in-Err-Differs.differ c.in_ok-report_difference-in-Err-Differs.field-0 c.compare.result is
    c.compare.ensures.faultless c.compare.ensures.exact c.in_ok-report_difference-in-Err-Differs.ensures _ refl
