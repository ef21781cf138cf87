-- The words of both puts.
use Rattle.cert_writer.proofs.Puts.{two_put}
use Rattle.cert_writer.proofs.put_words.put_clause.Goals as goal

pub returns : goal.returns
returns c = two_put _ _ _ _ _ c.in_ok-put_literals.ensures c.in_ok-put_word.ensures
