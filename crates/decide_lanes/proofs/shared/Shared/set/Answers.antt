-- The list has the places of the numbers, and there are no tables.
use Rattle.std.proofs.Common.{List, ℕ, map, ap, ◌∙◌}
use Rattle.design_circuit.specs.Circuit.{job_in}
use Rattle.design_circuit.specs.Fits.{place_at}
use Rattle.design_circuit.specs.Job.{Job}
use Rattle.decide_lanes.proofs.SharedTables.{shared_listed}
use Rattle.decide_lanes.proofs.shared.Shared.set.Goals as goal

pub returns-clause-right : goal.returns-clause-right
returns-clause-right c graph =
    shared_listed c.args.wave.now graph c.args.numbers.items c.set_list.new.self c.requires.numbers
    (c.set_list.ensures.list ∙ c.in_ok-list.ensures
    ∙ ap (λ (ns : List ℕ). map (place_at (job_in c.circuit-circuit.result)) ns) c.as_slice.ensures.value
    ∙ ap (λ (j : Job). map (place_at j) c.args.numbers.items) c.circuit-circuit.ensures.job)
    c.set_list.ensures.right
