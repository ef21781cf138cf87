-- There is at most one first fault.
use Rattle.design_circuit.specs.Circuit.{job_in}
use Rattle.replay_history.proofs.Faults.{tells_faultless, tells_first}
use Rattle.replay_history.proofs.moments.compare.Goals as goal

pub returns-clause-faultless : goal.returns-clause-faultless
returns-clause-faultless c = tells_faultless (job_in c.args.circuit.now) c.args.recording.now c.args.bound.now _ c.first_fault.ensures.differs

pub returns-clause-exact : goal.returns-clause-exact
returns-clause-exact c = tells_first (job_in c.args.circuit.now) c.args.circuit.now.fits.fits_job c.args.recording.now c.args.bound.now _ c.first_fault.ensures.agrees c.first_fault.ensures.differs
