-- The letter, the words and the newline.
use Rattle.std.proofs.Common.{◌∷◌}
use Rattle.std.specs.Prelude.{codes}
use Rattle.cert_writer.specs.Text.{place_words, turn_body_words, turn_letter}
use Rattle.cert_writer.proofs.Puts.{line_put}
use Rattle.cert_writer.proofs.write_turn.put_turn.Goals as goal

pub returns : goal.returns
returns c =
    line_put _ _ _ _ _ c.letter_of.result (turn_letter c.args.turn.now) (place_words c.args.place)
    (codes ":" ∷ turn_body_words c.args.turn.now) c.letter_of.ensures c.in_ok-put.ensures c.in_ok-put_place.ensures
    c.in_ok-put_body.ensures c.in_ok-put-2.ensures
