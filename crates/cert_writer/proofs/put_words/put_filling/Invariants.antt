-- The words so far and those of the places that are left are all.
use Rattle.std.proofs.Common.{◌≡◌, ◌++◌, drop}
use Rattle.cert_writer.specs.Pieces.{spaced}
use Rattle.cert_writer.specs.Text.{filling_words}
use Rattle.cert_writer.proofs.put_words.put_filling.Given as goal

abbrev pub invariant-places : goal.invariant-places
invariant-places l =
    l.text.items ++ spaced (filling_words (drop l.place-index l.places))
    ≡ l.fn.text.items ++ spaced (filling_words l.places)
