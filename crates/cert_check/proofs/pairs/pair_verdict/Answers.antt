-- Places that are no fillings.
use Rattle.std.proofs.Common.{subst, sym}
use Rattle.design_circuit.specs.Filling.{IsFilling}
use Rattle.design_circuit.specs.Job.{Job}
use Rattle.cert_check.proofs.Refusing.{unfilled}
use Rattle.cert_check.proofs.pairs.pair_verdict.Goals as goal

pub returns-else-are_fillings-clause-none : goal.returns-else-are_fillings-clause-none
returns-else-are_fillings-clause-none c =
    unfilled c.args.wave.now c.args.zero c.args.one c.are_fillings.result
    (λ both. c.are_fillings.ensures.1
    (subst (λ (j : Job). IsFilling j c.args.zero × IsFilling j c.args.one) (sym c.circuit.ensures.job) both))
    c.if-are_fillings.false
