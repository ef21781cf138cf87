-- Places, fillings and logs by their words: what is read is written so, and what is written is read again.
use Rattle.std.proofs.Common.{◌≡◌, ℕ, ◌^◌, ◌<◌, ◌==◌, Bool, true, false, cond, List, [], ◌∷◌, ◌++◌, length, Option, Some, None, refl, sym, ◌∙◌, ap, append_assoc, arith}
use Rattle.std.specs.Prelude.{bytes_eq, codes, decimal, option_map}
use Rattle.std.specs.List.{list_all}
use Rattle.std.proofs.lemmas.Bool.Decides.{nat_tests}
use Rattle.std.proofs.lemmas.Fmt.{decimal_nonempty}
use Rattle.std.proofs.lemmas.List.{append-nil}
use Rattle.design_circuit.specs.declared.place.Place.{Place}
use Rattle.cert_writer.specs.Fits.{FitsFilling, FitsPlace}
use Rattle.cert_reader.specs.Machine.{bit_in_front, bit_of_word, number_in_front, place_in_front, place_of_step, places_before, places_to_end, short_of}
use Rattle.base_scan.specs.Fronts.{◌>>=◌}
use Rattle.base_scan.specs.Bytes.{is_digit}
use Rattle.cert_writer.specs.Text.{bit_word, filling_words, place_words}
use Rattle.base_scan.proofs.Digits.{all_digits_decimal}
use Rattle.base_scan.proofs.Fronts.{bind_some, both, guarded, mapped, same_word, some_is}
use Rattle.cert_reader.proofs.NumberLaws.{number_again, number_takes}

-- A number in front.
pub record IsShort (ws : List (List ℕ)) (n : ℕ) (rest : List (List ℕ)) : Type 0 where
  pub words : ws ≡ decimal n ∷ rest
  pub small : n < 2 ^ 32

pub number_taken : (ws : List (List ℕ)) (n : ℕ) (rest : List (List ℕ)) → number_in_front ws ≡ Some (n, rest) → IsShort ws n rest
number_taken [] n rest read = absurd cc
number_taken (w ∷ ws) n rest read =
    let found = mapped (λ m. (m, ws)) (short_of w) (n, rest) read in
    let number = number_takes 4294967295 w found.0 (omega arith) found.1 in
    let m_is : found.0 ≡ n = ap (λ (p : ℕ × List (List ℕ)). p.0) found.2 in
    let rest_is : ws ≡ rest = ap (λ (p : ℕ × List (List ℕ)). p.1) found.2 in
    record {
      words = ap (λ v. v ∷ ws) number.word_is ∙ (ap (λ m. decimal m ∷ ws) m_is ∙ ap (λ r. decimal n ∷ r) rest_is);
      small = omega (arith, number.small, m_is);
    }

pub short_again : (n : ℕ) → n < 2 ^ 32 → short_of (decimal n) ≡ Some n
short_again n small = number_again 4294967295 n (omega arith) (omega (arith, small))

pub numbered_again : (n : ℕ) (rest : List (List ℕ)) → n < 2 ^ 32 → number_in_front (decimal n ∷ rest) ≡ Some (n, rest)
numbered_again n rest small = ap (option_map (λ m. (m, rest))) (short_again n small)

-- A place in front.
pub record IsPlaceAt (ws : List (List ℕ)) (place : Place) (rest : List (List ℕ)) : Type 0 where
  pub words : ws ≡ place_words place ++ rest
  pub fits : FitsPlace place

pub behind_takes : (w : List ℕ) (ws : List (List ℕ)) (place : Place) (rest : List (List ℕ))
    → place_of_step w ws ≡ Some (place, rest) → IsPlaceAt (w ∷ ws) place rest
behind_takes w ws place rest read =
    let step = bind_some (short_of w) _ (place, rest) read in
    let net = bind_some (number_in_front ws) _ (place, rest) step.2 in
    let first = number_takes 4294967295 w step.0 (omega arith) step.1 in
    let second = number_taken ws net.0.0 net.0.1 net.1 in
    let made : Place × List (List ℕ) = (record { step = step.0; net = net.0.0 }, net.0.1) in
    let wanted : Place × List (List ℕ) = (place, rest) in
    let both_are = some_is made wanted net.2 in
    let step_is : step.0 ≡ place.step = ap (λ (p : Place × List (List ℕ)). p.0.step) both_are in
    let net_is : net.0.0 ≡ place.net = ap (λ (p : Place × List (List ℕ)). p.0.net) both_are in
    let rest_is : net.0.1 ≡ rest = ap (λ (p : Place × List (List ℕ)). p.1) both_are in
    record {
      words =
          ap (λ v. v ∷ ws) (first.word_is ∙ ap decimal step_is)
          ∙ ap (λ vs. decimal place.step ∷ vs) (second.words ∙ (ap (λ m. decimal m ∷ net.0.1) net_is ∙ ap (λ r. decimal place.net ∷ r) rest_is));
      fits = record { step = omega (arith, first.small, step_is); net = omega (arith, second.small, net_is) };
    }

pub behind_again : (place : Place) (rest : List (List ℕ)) → FitsPlace place
    → place_of_step (decimal place.step) (decimal place.net ∷ rest) ≡ Some (place, rest)
behind_again place rest fits = rw (short_again place.step fits.step, short_again place.net fits.net) refl

pub place_takes : (ws : List (List ℕ)) (place : Place) (rest : List (List ℕ)) → place_in_front ws ≡ Some (place, rest)
    → IsPlaceAt ws place rest
unfolding place_in_front
place_takes [] place rest read = absurd cc
place_takes (w ∷ ws) place rest read = behind_takes w ws place rest read

pub place_again : (place : Place) (rest : List (List ℕ)) → FitsPlace place
    → place_in_front (place_words place ++ rest) ≡ Some (place, rest)
unfolding place_in_front
place_again place rest fits = behind_again place rest fits

-- A bit in front.
bit_word_takes : (w : List ℕ) (bit : Bool) → bit_of_word w ≡ Some bit → w ≡ bit_word bit
bit_word_takes w bit read = by (bytes_eq w (codes "0")) refl read
  where
    one : (t : Bool) → bytes_eq w (codes "1") ≡ t → cond t (Some true) None ≡ Some bit → w ≡ bit_word bit
    one true is r = same_word w (codes "1") is ∙ ap bit_word (some_is true bit r)
    one false is r = absurd cc

    by : (t : Bool) → bytes_eq w (codes "0") ≡ t → cond t (Some false) (cond (bytes_eq w (codes "1")) (Some true) None) ≡ Some bit
        → w ≡ bit_word bit
    by true is r = same_word w (codes "0") is ∙ ap bit_word (some_is false bit r)
    by false is r = one (bytes_eq w (codes "1")) refl r

pub bit_takes : (ws : List (List ℕ)) (bit : Bool) (rest : List (List ℕ)) → bit_in_front ws ≡ Some (bit, rest)
    → ws ≡ bit_word bit ∷ rest
bit_takes [] bit rest read = absurd cc
bit_takes (w ∷ ws) bit rest read =
    let found = mapped (λ b. (b, ws)) (bit_of_word w) (bit, rest) read in
    let bit_is : found.0 ≡ bit = ap (λ (p : Bool × List (List ℕ)). p.0) found.2 in
    let rest_is : ws ≡ rest = ap (λ (p : Bool × List (List ℕ)). p.1) found.2 in
    ap (λ v. v ∷ ws) (bit_word_takes w found.0 found.1 ∙ ap bit_word bit_is) ∙ ap (λ r. bit_word bit ∷ r) rest_is

pub bit_again : (bit : Bool) (rest : List (List ℕ)) → bit_in_front (bit_word bit ∷ rest) ≡ Some (bit, rest)
bit_again true rest = refl
bit_again false rest = refl

-- Two words are those of a place.
abbrev head_or : List (List ℕ) → List ℕ
head_or [] = []
head_or (w ∷ ws) = w

abbrev tail_or : List (List ℕ) → List (List ℕ)
tail_or [] = []
tail_or (w ∷ ws) = ws

two_words : (w v : List ℕ) (ws : List (List ℕ)) (place : Place) (behind : List (List ℕ))
    → w ∷ v ∷ [] ≡ place_words place ++ behind → w ∷ v ∷ ws ≡ place_words place ++ ws
two_words w v ws place behind is =
    let first : w ≡ decimal place.step = ap head_or is in
    let second : v ≡ decimal place.net = ap (λ vs. head_or (tail_or vs)) is in
    ap (λ u. u ∷ v ∷ ws) first ∙ ap (λ u. decimal place.step ∷ u ∷ ws) second

-- The places up to the mark.
pub record ArePlaces (done : List Place) (all : List Place) (more : List Place) : Type 0 where
  pub all_is : all ≡ done ++ more
  pub fits : FitsFilling more

pub record AreBefore (done : List Place) (ws : List (List ℕ)) (all : List Place) (rest : List (List ℕ)) : Type 0 where
  pub more : List Place
  pub words : ws ≡ filling_words more ++ codes ";" ∷ rest
  pub places : ArePlaces done all more

none_more : (done all : List Place) → done ≡ all → ArePlaces done all []
none_more done all is = record { all_is = sym (append-nil done ∙ is); fits = tt }

one_more : (done all : List Place) (place : Place) (more : List Place) → FitsPlace place
    → ArePlaces (done ++ place ∷ []) all more → ArePlaces done all (place ∷ more)
one_more done all place more fits places = record {
  all_is = places.all_is ∙ append_assoc done (place ∷ []) more;
  fits = (fits, places.fits);
}

abbrev got : List Place → List (List ℕ) → Option (List Place × List (List ℕ))
got done ws = Some (done, ws)

marked : (done : List Place) (w : List ℕ) (ws : List (List ℕ)) (all : List Place) (rest : List (List ℕ))
    → bytes_eq w (codes ";") ≡ true → got done ws ≡ got all rest → AreBefore done (w ∷ ws) all rest
marked done w ws all rest is read =
    let here : List Place × List (List ℕ) = (done, ws) in
    let there : List Place × List (List ℕ) = (all, rest) in
    let both_are = some_is here there read in
    let all_is : done ≡ all = ap (λ (p : List Place × List (List ℕ)). p.0) both_are in
    let rest_is : ws ≡ rest = ap (λ (p : List Place × List (List ℕ)). p.1) both_are in
    record {
      more = [];
      words = ap (λ v. v ∷ ws) (same_word w (codes ";") is) ∙ ap (λ r. codes ";" ∷ r) rest_is;
      places = none_more done all all_is;
    }

later_place : (done : List Place) (w v : List ℕ) (ws : List (List ℕ)) (all : List Place) (rest : List (List ℕ)) (place : Place)
    (behind : List (List ℕ)) → place_of_step w (v ∷ []) ≡ Some (place, behind) → AreBefore (done ++ place ∷ []) ws all rest
    → AreBefore done (w ∷ v ∷ ws) all rest
later_place done w v ws all rest place behind read later =
    let here = behind_takes w (v ∷ []) place behind read in
    record {
      more = place ∷ later.more;
      words = two_words w v ws place behind here.words ∙ ap (λ r. place_words place ++ r) later.words;
      places = one_more done all place later.more here.fits later.places;
    }

pub before_takes : (done : List Place) (ws : List (List ℕ)) (all : List Place) (rest : List (List ℕ))
    → places_before done ws ≡ Some (all, rest) → AreBefore done ws all rest
unfolding places_before
before_takes done [] all rest read = absurd cc
before_takes done (w ∷ []) all rest read =
    let found = guarded (bytes_eq w (codes ";")) (Some (done, [])) (all, rest) read in
    marked done w [] all rest found.0 found.1
before_takes done (w ∷ v ∷ ws) all rest read =
    (elim (bytes_eq w (codes ";")) as (λ t. bytes_eq w (codes ";") ≡ t
    → cond t (got done (v ∷ ws)) (place_of_step w (v ∷ []) >>= (λ place. places_before (done ++ place.0 ∷ []) ws)) ≡ got all rest
    → AreBefore done (w ∷ v ∷ ws) all rest) [
      | true ↦ λ is r. marked done w (v ∷ ws) all rest is r
      | false ↦ λ is r.
          let found = bind_some (place_of_step w (v ∷ [])) (λ place. places_before (done ++ place.0 ∷ []) ws) (all, rest) r in
          later_place done w v ws all rest found.0.0 found.0.1 found.1 (before_takes (done ++ found.0.0 ∷ []) ws all rest found.2)
    ]) refl read

no_mark : (w : List ℕ) → 0 < length w → list_all is_digit w ≡ true → bytes_eq w (codes ";") ≡ false
no_mark [] some digits = absurd (omega (arith, some))
no_mark (b ∷ bs) some digits =
    let first : is_digit b ≡ true = (both (is_digit b) (list_all is_digit bs) digits).0 in
    let no : (b == 59) ≡ false = grind (arith, nat_tests) in rw no refl

pub before_again : (done more : List Place) (rest : List (List ℕ)) → FitsFilling more
    → places_before done (filling_words more ++ codes ";" ∷ rest) ≡ Some (done ++ more, rest)
unfolding places_before
before_again done [] [] fits = ap (λ all. Some (all, [])) (sym (append-nil done))
before_again done [] (v ∷ ws) fits = ap (λ all. Some (all, v ∷ ws)) (sym (append-nil done))
before_again done (place ∷ more) rest fits =
    rw (
      no_mark (decimal place.step) (decimal_nonempty place.step (omega (arith, fits.0.step))) (all_digits_decimal place.step (omega (arith, fits.0.step))),
      short_again place.step fits.0.step,
      short_again place.net fits.0.net,
    )
    (before_again (done ++ place ∷ []) more rest fits.1 ∙ ap (λ all. Some (all, rest)) (append_assoc done (place ∷ []) more))

-- The places up to the end.
pub record AreToEnd (done : List Place) (ws : List (List ℕ)) (all : List Place) : Type 0 where
  pub more : List Place
  pub words : ws ≡ filling_words more
  pub places : ArePlaces done all more

pub to_end_takes : (done : List Place) (ws : List (List ℕ)) (all : List Place) → places_to_end done ws ≡ Some all
    → AreToEnd done ws all
unfolding places_to_end
to_end_takes done [] all read = record { more = []; words = refl; places = none_more done all (some_is done all read) }
to_end_takes done (w ∷ []) all read = absurd cc
to_end_takes done (w ∷ v ∷ ws) all read =
    let found = bind_some (place_of_step w (v ∷ [])) (λ place. places_to_end (done ++ place.0 ∷ []) ws) all read in
    let place = found.0.0 in
    let here = behind_takes w (v ∷ []) place found.0.1 found.1 in
    let later = to_end_takes (done ++ place ∷ []) ws all found.2 in
    record {
      more = place ∷ later.more;
      words = two_words w v ws place found.0.1 here.words ∙ ap (λ r. place_words place ++ r) later.words;
      places = one_more done all place later.more here.fits later.places;
    }

pub to_end_again : (done more : List Place) → FitsFilling more → places_to_end done (filling_words more) ≡ Some (done ++ more)
unfolding places_to_end
to_end_again done [] fits = ap Some (sym (append-nil done))
to_end_again done (place ∷ more) fits =
    rw (short_again place.step fits.0.step, short_again place.net fits.0.net)
    (to_end_again (done ++ place ∷ []) more fits.1 ∙ ap Some (append_assoc done (place ∷ []) more))
