-- One digit fewer at each turn.
use Rattle.recording_writer.proofs.code.+put_digits.Given as goal

abbrev pub decreases-put_digits : goal.decreases-put_digits
decreases-put_digits l = l.most
