-- A net that reads the same at both steps is still, and one that doesn't is not.
use Rattle.std.proofs.Common.{◌∙◌, sym}
use Rattle.replay_history.specs.Going.{forced_in, job_at}
use Rattle.replay_history.proofs.Repeats.{reads_both}
use Rattle.replay_history.proofs.sweep.stays_at.Goals as goal

pub returns-clause-still : goal.returns-clause-still
returns-clause-still c = λ same.
    (let j = job_at c.args.step.now in
    let reads = reads_both j c.args.step.now.circuit.now.fits.fits_job (forced_in c.args.step.now) c.args.writer.now.history c.args.step.now.number c.args.position c.net-net.result c.value_so_far-shown.result c.value_so_far-before.result c.requires.position c.requires.later c.net-net.ensures c.requires.filled c.value_so_far-shown.ensures c.value_so_far-before.ensures in
    sym reads.now ∙ c.is_same.ensures.same same ∙ reads.earlier)

pub returns-clause-moves : goal.returns-clause-moves
returns-clause-moves c = λ differ still.
    (let j = job_at c.args.step.now in
    let reads = reads_both j c.args.step.now.circuit.now.fits.fits_job (forced_in c.args.step.now) c.args.writer.now.history c.args.step.now.number c.args.position c.net-net.result c.value_so_far-shown.result c.value_so_far-before.result c.requires.position c.requires.later c.net-net.ensures c.requires.filled c.value_so_far-shown.ensures c.value_so_far-before.ensures in
    c.is_same.ensures.differ differ (reads.now ∙ still ∙ sym reads.earlier))
