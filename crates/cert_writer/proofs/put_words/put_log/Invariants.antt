-- The words so far and those of the clauses that are left are all.
use Rattle.std.proofs.Common.{◌≡◌, ◌++◌, drop}
use Rattle.cert_writer.specs.Pieces.{spaced}
use Rattle.cert_writer.specs.Text.{log_words}
use Rattle.cert_writer.proofs.put_words.put_log.Given as goal

abbrev pub invariant-clauses : goal.invariant-clauses
invariant-clauses l =
    l.text.items ++ spaced (log_words (drop l.place l.log)) ≡ l.fn.text.items ++ spaced (log_words l.log)
