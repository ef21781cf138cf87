-- The history of a job is the replay of its circuit.
use Rattle.std.proofs.Common.{inl, subst, sym}
use Rattle.design_circuit.specs.Handed.{IsReplay}
use Rattle.design_circuit.specs.Job.{Job}
use Rattle.test_waves.proofs.job.Job.unwritten.Goals as goal

pub new-requires-clause-handed : goal.new-requires-clause-handed
new-requires-clause-handed c =
    inl (subst (λ (j : Job). IsReplay j c.args.self.now.history) (sym c.circuit_of.ensures.job) c.requires.replayed)
