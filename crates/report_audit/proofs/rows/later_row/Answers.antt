-- The history has the place one step before.
use Rattle.std.proofs.Common.{arith}
use Rattle.design_circuit.specs.Circuit.{job_in}
use Rattle.design_circuit.proofs.Handed.{has_place}
use Rattle.report_audit.proofs.rows.later_row.Goals as goal

pub kept-requires : goal.kept-requires
kept-requires c =
    let less = c.requires.step in
    has_place (job_in c.args.circuit.now) c.args.replayed.now _ c.requires.places
    (record { step = omega (arith, less); net = c.requires.net })
