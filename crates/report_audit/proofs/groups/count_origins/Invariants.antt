-- The origins so far are counted.
use Rattle.std.proofs.Common.{drop, take}
use Rattle.std.specs.List.{AllByRecursion}
use Rattle.design_circuit.specs.Circuit.{job_in}
use Rattle.report_audit.specs.Counted.{AreCounted}
use Rattle.report_audit.specs.Found.{HasPlace, IsDriven}
use Rattle.report_audit.proofs.groups.count_origins.Given as goal

abbrev pub invariant-listed : goal.invariant-listed
invariant-listed l = record {
  counted : AreCounted (job_in l.circuit) (take l.found-index l.listed) l.counts;
  places : AllByRecursion (HasPlace (job_in l.circuit)) (drop l.found-index l.listed);
  driven : AllByRecursion (IsDriven (job_in l.circuit)) (drop l.found-index l.listed);
}
