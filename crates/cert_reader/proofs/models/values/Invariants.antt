-- The values so far and those of the digits that are left are all.
use Rattle.std.proofs.Common.{◌≡◌, ◌++◌, ◌==◌, drop, map}
use Rattle.cert_reader.proofs.models.values.Given as goal

abbrev pub invariant-digits : goal.invariant-digits
invariant-digits l = l.values.items ++ map (λ b. b == 49) (drop l.digit-index l.word) ≡ map (λ b. b == 49) l.word
