-- The law, for every design.
use Rattle.recording_binding.proofs.JobDesigns.{made_fits}
use Rattle.recording_binding.proofs.laws.job_designs_fit.Goals as goal

pub returns : goal.returns
returns c = λ rule design bound. made_fits rule design bound
