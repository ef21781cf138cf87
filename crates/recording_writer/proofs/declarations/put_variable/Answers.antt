-- The line, piece by piece.
use Rattle.std.proofs.Common.{append_assoc}
use Rattle.recording_writer.proofs.declarations.put_variable.Goals as goal

pub returns : goal.returns
returns c = rw (c.in_ok-put-4.ensures, c.in_ok-put_range.ensures, c.in_ok-put_own_name.ensures, c.in_ok-put-3.ensures, c.in_ok-put_code.ensures, c.in_ok-put-2.ensures, c.in_ok-put_number.ensures, c.in_ok-put.ensures, c.parts_of.ensures, c.as_slice-bits.ensures) (simp append_assoc)
