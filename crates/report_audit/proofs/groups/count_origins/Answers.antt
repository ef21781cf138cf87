-- A listed place more is counted.
use Rattle.std.proofs.Common.{sym, subst}
use Rattle.design_circuit.specs.Circuit.{job_in}
use Rattle.report_audit.specs.Found.{HasPlace, IsDriven}
use Rattle.report_audit.proofs.Counting.{counted_more, head_and_rest}
use Rattle.report_audit.proofs.groups.count_origins.Goals as goal

pub listed-preserved : goal.listed-preserved
listed-preserved c =
    let j = job_in c.args.circuit.now in
    let listed = c.args.listed.now in
    let i = c.listed.found-index in
    let found = c.found-item.result in
    let less = c.listed-test.true in
    let places = head_and_rest (HasPlace j) listed i found less c.listed.invariant.places in
    let driven = head_and_rest (IsDriven j) listed i found less c.listed.invariant.driven in
    record {
      counted = counted_more j listed i found less c.found-item.is c.listed.counts c.count_if.new.counts
          c.giver_of.result (sym c.giver_of.ensures) (subst (IsDriven j) (sym c.found-item.is) driven.0)
          c.in_ok-count_if.ensures c.listed.invariant.counted;
      places = places.1;
      driven = driven.1;
    }
