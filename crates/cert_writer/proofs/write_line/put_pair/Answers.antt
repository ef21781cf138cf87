-- The words of four puts.
use Rattle.cert_writer.proofs.Puts.{pair_put}
use Rattle.cert_writer.proofs.write_line.put_pair.Goals as goal

pub returns : goal.returns
returns c =
    pair_put _ _ _ _ _ _ _ c.in_ok-put_word.ensures c.in_ok-put_filling.ensures c.in_ok-put_word-2.ensures
    c.in_ok-put_filling-2.ensures
