-- The history of a job is the replay of its circuit.
use Rattle.std.proofs.Common.{inl, subst, sym}
use Rattle.design_circuit.specs.Handed.{IsReplay}
use Rattle.design_circuit.specs.Job.{Job}
use Rattle.test_cert.proofs.job.Job.repaired.Goals as goal

pub repair-requires-clause-handed : goal.repair-requires-clause-handed
repair-requires-clause-handed c =
    inl (subst (λ (j : Job). IsReplay j c.args.self.now.history.now) (sym c.circuit_of-circuit.ensures.job) c.requires.replay)
