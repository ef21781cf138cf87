-- The code of the forces of values says these forces.
use Rattle.std.proofs.Common.{ℕ, List}
use Rattle.std.specs.List.{AllByRecursion}
use Rattle.design_cell.specs.declared.value.Value.{Value}
use Rattle.replay_code.specs.Says.{CodeSays}
use Rattle.replay_code.specs.Written.{code_text}
use Rattle.replay_code.proofs.OwnCode.{own_says}
use Rattle.replay_code.proofs.Scopes.{name_writable, scope_writable}
use Rattle.replay_forces.specs.ForcesOf.{forces_of}
use Rattle.replay_forces.proofs.Showing.{forces_exist}
use Rattle.cmd_job.specs.Compared.{job_for}
use Rattle.cmd_job.specs.declared.netlist.Netlist.{Netlist as ANetlist}
use Rattle.cmd_job.specs.declared.recorded.Recorded.{Recorded}
use Rattle.base_line.specs.Line.{IsScopeName}
use Rattle.cmd_phases.specs.Code.{code_in}
use Rattle.cmd_phases.specs.Phases.{parts}
use Rattle.cmd_phases.specs.Repair.{FitsJob}
use Rattle.cmd_phases.proofs.Jobs.{circuit_fits, fits_job}

pub own_forces_said : (n : ANetlist) (r : Recorded) (scope : List (List ℕ)) (values : ℕ → Value) → FitsJob n r → AllByRecursion IsScopeName scope
    → CodeSays (code_in (parts n r) (code_text n.design r.stim scope (forces_of (job_for n r) values)) scope) (forces_of (job_for n r) values)
own_forces_said n r scope values fits named =
    own_says n.design n.order r.stim scope (forces_of (job_for n r) values) (circuit_fits n r fits) fits.netlist.design
    (scope_writable IsScopeName scope (λ name is. name_writable name is.some is.graphic) named)
    (forces_exist (job_for n r) values (fits_job n r fits)).least
