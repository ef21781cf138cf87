-- What a text of digits is read as.
use Rattle.std.proofs.Common.{◌≡◌, ℕ, ◌≤◌, ◌^◌, List, Option, Result, Ok, Err, true, ⊎_elim}
use Rattle.std.specs.Prelude.{IfNone}
use Rattle.std.specs.Result.{result_ok}
use Rattle.std.specs.Str.{all_ascii_digits}
use Rattle.std.specs.Str.Parse.{ParsesUnsigned, digits_value}
use Rattle.std.proofs.lemmas.Bool.{cases_lt}
use Rattle.std.proofs.lemmas.Str.Parse.{IsNumeralModel, numerals_by_value, tells_all_ascii_digits, parse_digits}
use Rattle.base_line.specs.Line.{IsNumber}

numerals : IsNumeralModel (λ ds. all_ascii_digits ds ≡ true) (digits_value 10)
numerals = numerals_by_value (λ ds. all_ascii_digits ds ≡ true) tells_all_ascii_digits

-- A number that isn't read is too large.
pub unread : {E : Type 0} (text : List ℕ) (r : Result ℕ E) (o : Option ℕ) → o ≡ result_ok r → ParsesUnsigned 64 10 text r → IfNone o ((number : ℕ) → IsNumber text number → 2 ^ 64 ≤ number)
unread text (Ok n) o is parsed = rw is tt
unread {E} text (Err e) o is parsed =
    rw is (λ number numeral.
    let value = numeral.value in
    let fails = parse_digits numerals {E = E} 64 text (Err e) parsed numeral.digits in
    ⊎_elim (λ less. absurd (fails (numeral.some, less))) (λ more. rw value more) (cases_lt (digits_value 10 text) (2 ^ 64)))
