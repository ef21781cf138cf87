-- The words so far and those of the literals that are left are all.
use Rattle.std.proofs.Common.{◌≡◌, ◌++◌, drop, map}
use Rattle.std.specs.Fmt.{signed_decimal}
use Rattle.cert_writer.specs.Pieces.{spaced}
use Rattle.cert_writer.proofs.put_words.put_literals.Given as goal

abbrev pub invariant-literals : goal.invariant-literals
invariant-literals l =
    l.text.items ++ spaced (map signed_decimal (drop l.literal-index l.literals))
    ≡ l.fn.text.items ++ spaced (map signed_decimal l.literals)
