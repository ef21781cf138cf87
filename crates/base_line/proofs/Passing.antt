-- What a kind of option takes, `clap` takes.
use Rattle.std.proofs.Common.{◌≡◌, ◌∙◌, ◌<◌, ◌≤◌, ◌≢◌, ◌^◌, ap, ap₂, refl, ℕ, length, [], ◌∷◌, true, false, cond, arith, nat_lt, lt-ltb, le-leb, ltb-true, get_or, drop}
use Rattle.std.specs.Prelude.{◌&&◌, nat_le}
use Rattle.std.specs.List.{list_all}
use Rattle.std.specs.Char.{digit_value}
use Rattle.std.specs.Str.{all_ascii_digits}
use Rattle.std.specs.Str.Parse.{AllDigits, digits_value, without_leading_plus}
use Rattle.std.proofs.lemmas.Bool.{ne_eqb}
use Rattle.std.proofs.lemmas.Str.Parse.{IsNumeralModel, not_in_digits, numerals_by_value, tells_all_ascii_digits}
use Rattle.clap.specs.Walk.{Text}
use Rattle.clap.specs.ValueTests.{accepts, is_numeral}
use Rattle.base_line.specs.declared.option.Kind.{Kind}
use Rattle.base_line.specs.declared.option.Kind.TheVariants as kind
use Rattle.base_line.specs.Told.{parser_for}
use Rattle.base_line.specs.Line.{Fits, IsNumber, IsValue, is_kind}

numerals : IsNumeralModel (λ ds. all_ascii_digits ds ≡ true) (digits_value 10)
numerals = numerals_by_value (λ ds. all_ascii_digits ds ≡ true) tells_all_ascii_digits

no_plus : (text : Text) → 0 < length text → all_ascii_digits text ≡ true → without_leading_plus text ≡ text
no_plus text some digits =
    let other : get_or text 0 0 ≢ 43 = not_in_digits numerals text 43 digits (λ r. omega (arith, r)) 0 some in
    ap (λ b. drop (cond b 1 0) text) (ne_eqb (get_or text 0 0) 43 other)

digits_pass : (ds : Text) → AllDigits 10 ds → list_all (λ d. nat_lt (digit_value d) 10) ds ≡ true
digits_pass [] h = refl
digits_pass (d ∷ ds) h = ap₂ (λ a b. a && b) (lt-ltb (digit_value d) 10 h.0) (digits_pass ds h.1)

number_passes : (text : Text) (n least most : ℕ) → IsNumber text n → least ≤ n → n ≤ most → most < 2 ^ 64 → accepts false (parser_for (kind.Number least most)) text ≡ true
number_passes text n least most number low high fits =
    let plain = no_plus text number.some number.digits in
    let value = number.value in
    let below : digits_value 10 text < 2 ^ 64 = omega arith in
    let at_least : least ≤ digits_value 10 text = omega arith in
    let at_most : digits_value 10 text ≤ most = omega arith in
    ap (λ t. is_numeral t && (nat_lt (digits_value 10 t) (2 ^ 64) && (nat_le least (digits_value 10 t) && nat_le (digits_value 10 t) most))) plain
    ∙ (λ i. (lt-ltb 0 (length text) number.some i && digits_pass text (numerals.to text number.digits) i)
    && (lt-ltb (digits_value 10 text) (2 ^ 64) below i && (le-leb least (digits_value 10 text) at_least i && le-leb (digits_value 10 text) most at_most i)))

pub fits_passes : (k : Kind) (value : Text) → is_kind k ≡ true → IsValue value → Fits k value → accepts false (parser_for k) value ≡ true
fits_passes kind.Reads value is v fits = lt-ltb 0 (length value) v.some
fits_passes kind.Writes value is v fits = lt-ltb 0 (length value) v.some
fits_passes kind.Prefix value is v fits = lt-ltb 0 (length value) v.some
fits_passes kind.Name value is v fits = lt-ltb 0 (length value) v.some
fits_passes kind.Scope value is v fits = lt-ltb 0 (length value) v.some
fits_passes (kind.Number least most) value is v fits = number_passes value fits.0 least most fits.1 fits.2 fits.3 (ltb-true most (2 ^ 64) is)
fits_passes (kind.Word words) value is v fits = fits
fits_passes (kind.Either one other) value is v fits = lt-ltb 0 (length value) v.some
fits_passes kind.Sets value is v fits = lt-ltb 0 (length value) v.some
