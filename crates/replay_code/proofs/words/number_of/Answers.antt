-- What is over the limit is 2^64 or more.
use Rattle.std.proofs.Common.{◌≡◌, ℕ, List, Option, None, Some, arith}
use Rattle.std.proofs.lemmas.Bool.Decides.{nat_tests}
use Rattle.base_scan.specs.Numbers.{at_most, number_from}
use Rattle.replay_code.specs.Numbers.{IsNumber}
use Rattle.replay_code.proofs.words.number_of.Goals as goal

number_read : (digits : List ℕ) (read : Option ℕ) → read ≡ at_most 18446744073709551615 (number_from 0 digits) → IsNumber digits read
number_read digits (Some n) is = grind (arith, nat_tests)
number_read digits None is = grind (arith, nat_tests)

pub returns : goal.returns
returns c = number_read c.args.digits.now c.value_within.result c.value_within.ensures.is
