-- One line more.
use Rattle.std.proofs.Common.{rules}
use Rattle.recording_writer.specs.Declarations.{upscope_line}
use Rattle.recording_writer.proofs.Grown.{line_moved}
use Rattle.recording_writer.proofs.declarations.put_upscopes.Goals as goal

pub names-preserved : goal.names-preserved
names-preserved c =
    line_moved c.args.names.now c.names.index c.names-item.result (search rules) c.names-item.is upscope_line _ _ _ c.names.invariant c.in_ok-put.ensures
