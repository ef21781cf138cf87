-- One line more.
use Rattle.std.proofs.Common.{rules}
use Rattle.recording_writer.specs.Declarations.{scope_line}
use Rattle.recording_writer.proofs.Grown.{line_moved}
use Rattle.recording_writer.proofs.declarations.put_scopes.Goals as goal

pub names-preserved : goal.names-preserved
names-preserved c =
    line_moved c.args.names.now c.names.name-index c.name-item.result (search rules) c.name-item.is scope_line _ _ _ c.names.invariant
    (rw (← c.as_slice.ensures) c.in_ok-put_section.ensures)
