-- The words of one clause more.
use Rattle.std.proofs.Common.{rules}
use Rattle.cert_writer.specs.Text.{clause_words}
use Rattle.cert_writer.proofs.Growing.{words_moved}
use Rattle.cert_writer.proofs.put_words.put_log.Goals as goal

pub clauses-preserved : goal.clauses-preserved
clauses-preserved c =
    words_moved c.args.log.now c.clauses.place c.index-log-place.result (search rules) c.index-log-place.is clause_words _ _ _
    c.clauses.invariant (rw (← c.as_slice.ensures.value) c.in_ok-put_clause.ensures)
