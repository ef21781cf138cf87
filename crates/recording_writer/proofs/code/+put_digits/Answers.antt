-- One digit, then the others.
use Rattle.std.proofs.Common.{append_assoc, arith}
use Rattle.recording_writer.proofs.Grown.{more_digits}
use Rattle.recording_writer.proofs.code.+put_digits.Goals as goal

pub returns : goal.returns
returns t c = rw (c.in_ok-put_digits.ensures, c.in_ok-push.ensures.items, more_digits c.args.most c.args.number (omega arith) c.if-number-lt94.false) (simp append_assoc)
