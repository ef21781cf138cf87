-- An unknown place isn't certain.
use Rattle.design_circuit.specs.Job.{number_of}
use Rattle.wave_proved.specs.Contents.{job}
use Rattle.report_blame.proofs.RootCauses.{unknown_open}
use Rattle.report_blame.proofs.roots.root_in.Goals as goal

pub root_at-requires-clause-uncertain : goal.root_at-requires-clause-uncertain
root_at-requires-clause-uncertain c =
    unknown_open c.args.wave.now.written (number_of (job c.args.wave.now) c.args.place) c.requires.unknown
