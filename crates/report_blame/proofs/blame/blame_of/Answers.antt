-- The sources of the bits are places of the circuit.
use Rattle.std.proofs.Common.{All, List, subst, sym}
use Rattle.design_circuit.specs.Circuit.{job_in}
use Rattle.design_circuit.specs.Filling.{IsPlace}
use Rattle.design_circuit.specs.Job.{Job}
use Rattle.report_blame.specs.Blamed.{unknown_bits}
use Rattle.report_blame.specs.declared.bits.Blamed.{Blamed}
use Rattle.report_blame.proofs.ToldBits.{told_sources}
use Rattle.report_blame.proofs.blame.blame_of.Goals as goal

pub table_of-requires : goal.table_of-requires
table_of-requires c = record {
  sources =
      let wave = c.args.wave.now in
      let told = told_sources wave (unknown_bits wave c.args.bound.now.bound) c.in_ok-bits.bits.items c.in_ok-bits.ensures in
      subst (λ (l : List Blamed). All (λ (b : Blamed). IsPlace (job_in c.circuit.result) b.source) l) (sym c.as_slice.ensures.value)
      (subst (λ (j : Job). All (λ (b : Blamed). IsPlace j b.source) c.in_ok-bits.bits.items) (sym c.circuit.ensures.job) told);
}
