-- The numbers of the sources so far.
use Rattle.std.proofs.Common.{◌≡◌, map, take}
use Rattle.design_circuit.specs.Circuit.{job_in}
use Rattle.design_circuit.specs.Job.{number_of}
use Rattle.report_blame.specs.declared.bits.Blamed.{Blamed}
use Rattle.report_blame.proofs.table.source_numbers.Given as goal

abbrev pub invariant-bits : goal.invariant-bits
invariant-bits l =
    l.numbers.items ≡ map (λ (b : Blamed). number_of (job_in l.circuit) b.source) (take l.bit-index l.bits)
