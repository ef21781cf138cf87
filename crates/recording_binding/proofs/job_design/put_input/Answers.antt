-- The net is given its input, or stays.
use Rattle.std.proofs.Common.{◌∙◌, sym}
use Rattle.recording_binding.proofs.JobDesigns.{put_else, put_then}
use Rattle.recording_binding.proofs.job_design.put_input.Goals as goal

pub returns-then-becomes_input : goal.returns-then-becomes_input
returns-then-becomes_input c = λ other.
    put_then c.args.nets.now c.args.place c.args.holder c.index-nets-place.result c.index-nets-place-then-becomes_input.result other c.requires c.index-nets-place.is (sym c.becomes_input.ensures ∙ c.if-becomes_input.true)

pub returns-else-becomes_input : goal.returns-else-becomes_input
returns-else-becomes_input c = λ other.
    put_else c.args.nets.now c.args.place c.args.holder c.index-nets-place.result other c.requires c.index-nets-place.is (sym c.becomes_input.ensures ∙ c.if-becomes_input.false)
