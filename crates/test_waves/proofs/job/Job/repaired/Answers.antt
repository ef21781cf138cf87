-- The history of a job is the replay of its circuit.
use Rattle.std.proofs.Common.{◌∙◌, inl, subst, sym}
use Rattle.design_circuit.specs.Handed.{IsReplay}
use Rattle.design_circuit.specs.Job.{Job}
use Rattle.test_waves.proofs.job.Job.repaired.Goals as goal

pub repair-requires-clause-handed : goal.repair-requires-clause-handed
repair-requires-clause-handed c =
    inl (subst (λ (j : Job). IsReplay j c.args.self.now.history) (sym c.circuit_of.ensures.job) c.requires.replayed)

pub returns-clause-design : goal.returns-clause-design
returns-clause-design c = c.in_ok-wave.ensures.job.design ∙ c.circuit_of.ensures.design

pub returns-clause-finished : goal.returns-clause-finished
returns-clause-finished c = c.in_ok-wave.ensures.finished
