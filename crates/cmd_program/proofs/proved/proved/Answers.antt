-- The texts are a proof, and what is printed of it; or they have a first fault.
use Rattle.std.proofs.Common.{rules, ◌≡◌, ℕ, Err}
use Rattle.sat_prove.specs.Proof.{ProofComes}
use Rattle.base_run.specs.Phases.{Phases}
use Rattle.base_run.specs.Prepared.{answer_of}
use Rattle.base_run.proofs.Then.{judged_out}
use Rattle.cmd_phases.specs.Phases.{itself, proof_cause}
use Rattle.cmd_program.specs.Prove.{prove_answer}
use Rattle.cmd_program.proofs.Walk.{proof_found}
use Rattle.cmd_program.proofs.proved.proved.Goals as goal

pub returns : goal.returns
returns c = proof_found c.args.cnf.now c.args.log.now c.in_ok-count.count c.in_ok-answered.field-0 c.in_ok-count.ensures.found c.in_ok-answered.ensures

pub returns-in_err-count : goal.returns-in_err-count
returns-in_err-count c =
    let e = c.in_err-count.field-0.0 in
    let is : c.from_residual.result ≡ Err e = search rules in
    rw is (judged_out (ProofComes c.args.cnf.now c.args.log.now) proof_cause (λ (count : ℕ). Phases.Finds (prove_answer count)) itself answer_of e c.in_err-count.ensures)
