-- The place at the position is made.
use Rattle.std.proofs.Common.{◌<◌, None, arith, length, refl, slice_index_or}
use Rattle.std.proofs.lemmas.List.{get_or_read}
use Rattle.std.proofs.lemmas.Result.{on_ok_weaker}
use Rattle.design_circuit.specs.Circuit.{job_in}
use Rattle.replay_forces.proofs.Stating.{net_more}
use Rattle.replay_forces.proofs.statements.put_net.Goals as goal

pub returns-clause-made : goal.returns-clause-made
returns-clause-made c =
    let step = c.args.step.now in
    let j = job_in step.circuit.now in
    let row = c.args.changes.now.row.items in
    let low = c.requires.position in
    let long = c.requires.made.row.long in
    let within : c.args.position < length row = omega (arith, low, long) in
    on_ok_weaker c.push_change.result (λ pushed. net_more j step.circuit.now.fits.fits_job step.statements.now step.number c.args.position c.net-net.result step.forced.now row c.index-was.result.now (slice_index_or step.forced.now c.net-net.result None) c.args.changes.now.events.items c.push_change.new.events.items c.requires.position c.net-net.ensures c.requires.forced (get_or_read row c.args.position c.index-was.result.now within c.index-was.ensures None) refl pushed c.requires.made) c.push_change.ensures
