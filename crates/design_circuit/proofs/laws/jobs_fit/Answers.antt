-- The law, for every design.
use Rattle.design_circuit.proofs.OrdersFit.{job_fits}
use Rattle.design_circuit.proofs.laws.jobs_fit.Goals as goal

pub returns : goal.returns
returns c = λ design order stim fits is stim_fits some few. job_fits design order stim fits is stim_fits some few
