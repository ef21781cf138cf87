-- The letter, the words and the newline.
use Rattle.cert_writer.specs.Text.{body_letter, body_words, place_words}
use Rattle.cert_writer.proofs.Puts.{line_put}
use Rattle.cert_writer.proofs.write_line.put_line.Goals as goal

pub returns : goal.returns
returns c =
    line_put _ _ _ _ _ c.letter_of.result (body_letter c.args.line.now.body) (place_words c.args.line.now.place)
    (body_words c.args.line.now.body) c.letter_of.ensures c.in_ok-put.ensures c.in_ok-put_place.ensures c.in_ok-put_body.ensures
    c.in_ok-put-2.ensures
