-- Lines by their words: what is read is written so, and what is written is read again.
use Rattle.std.proofs.Common.{◌≡◌, ℕ, ◌^◌, ◌<◌, ◌==◌, Bool, true, false, cond, List, [], ◌∷◌, ◌++◌, Option, Some, None, refl, sym, subst, ◌∙◌, ap, arith}
use Rattle.std.specs.Prelude.{ℤ, bytes_eq, codes, decimal}
use Rattle.std.specs.List.{AllByRecursion}
use Rattle.std.proofs.lemmas.Bool.Decides.{nat_tests}
use Rattle.design_circuit.specs.declared.place.Place.{Place}
use Rattle.law_model.specs.declared.line.Body.{Body}
use Rattle.law_model.specs.declared.line.Body.TheVariants.{Enumerated, Refuted, Pair, Undecided}
use Rattle.law_model.specs.declared.line.Line.{Line}
use Rattle.cert_writer.specs.declared.cert.Head.{Head}
use Rattle.cert_writer.specs.Fits.{FitsBody, FitsHead, FitsLine, FitsPlace}
use Rattle.cert_reader.specs.Machine.{bit_in_front, enumerated_of_words, field_in_front, head_of_words, is_count, is_number, lettered, line_with, log_of_words, number_in_front, pair_of_words, place_in_front, places_before, places_to_end, refuted_of_words, undecided_of_words, whole}
use Rattle.base_scan.specs.Fronts.{◌>>=◌, word_in_front}
use Rattle.cert_reader.specs.Numbers.{numeral_within}
use Rattle.cert_writer.specs.Text.{bit_word, body_letter, body_words, filling_words, head_words, line_words, log_words, place_words}
use Rattle.cert_reader.proofs.LogLaws.{log_again, log_takes}
use Rattle.cert_reader.proofs.NumberLaws.{number_takes}
use Rattle.base_scan.proofs.Fronts.{bind_some, same_word, some_is, word_same, word_takes}
use Rattle.cert_reader.proofs.WordLaws.{before_again, before_takes, bit_again, bit_takes, number_taken, numbered_again, place_again, place_takes, to_end_again, to_end_takes}

-- Words after a letter are those of a line that fits.
pub record IsRead (letter : List ℕ) (ws : List (List ℕ)) (line : Line) : Type 0 where
  pub words : letter ∷ ws ≡ line_words line
  pub fits : FitsLine line

pub whole_takes : {A : Type 0} (ws : List (List ℕ)) (x y : A) → whole ws x ≡ Some y → (ws ≡ []) × (x ≡ y)
whole_takes [] x y read = (refl, some_is x y read)
whole_takes (w ∷ ws) x y read = absurd cc

read_as : (letter : List ℕ) (ws rest : List (List ℕ)) (place : Place) (body : Body) → letter ≡ body_letter body
    → ws ≡ place_words place ++ rest → rest ≡ body_words body → FitsPlace place → FitsBody body
    → IsRead letter ws (line_with place body)
read_as letter ws rest place body letter_is ws_is rest_is fits_place fits_body = record {
  words = ap (λ l. l ∷ ws) letter_is ∙ ap (λ r. body_letter body ∷ r) (ws_is ∙ ap (λ r. place_words place ++ r) rest_is);
  fits = record { place = fits_place; body = fits_body };
}

enumerated_takes : (ws : List (List ℕ)) (line : Line) → enumerated_of_words ws ≡ Some line → IsRead (codes "e") ws line
unfolding enumerated_of_words
enumerated_takes ws line read =
    let a = bind_some (place_in_front ws) (λ place. bit_in_front place.1 >>= λ bit. whole bit.1 (line_with place.0 (Enumerated bit.0))) line read in
    let b = bind_some (bit_in_front a.0.1) (λ bit. whole bit.1 (line_with a.0.0 (Enumerated bit.0))) line a.2 in
    let c = whole_takes b.0.1 (line_with a.0.0 (Enumerated b.0.0)) line b.2 in
    let place = place_takes ws a.0.0 a.0.1 a.1 in
    let bit = bit_takes a.0.1 b.0.0 b.0.1 b.1 in
    subst (IsRead (codes "e") ws) c.1
    (read_as (codes "e") ws a.0.1 a.0.0 (Enumerated b.0.0) refl place.words (bit ∙ ap (λ r. bit_word b.0.0 ∷ r) c.0) place.fits tt)

refuted_takes : (ws : List (List ℕ)) (line : Line) → refuted_of_words ws ≡ Some line → IsRead (codes "r") ws line
unfolding refuted_of_words
refuted_takes ws line read =
    let a = bind_some (place_in_front ws) (λ place. bit_in_front place.1 >>= λ bit. word_in_front (codes ":") bit.1 >>= λ rest. log_of_words rest >>= λ log. Some (line_with place.0 (Refuted bit.0 log))) line read in
    let b = bind_some (bit_in_front a.0.1) (λ bit. word_in_front (codes ":") bit.1 >>= λ rest. log_of_words rest >>= λ log. Some (line_with a.0.0 (Refuted bit.0 log))) line a.2 in
    let c = bind_some (word_in_front (codes ":") b.0.1) (λ rest. log_of_words rest >>= λ log. Some (line_with a.0.0 (Refuted b.0.0 log))) line b.2 in
    let d = bind_some (log_of_words c.0) (λ log. Some (line_with a.0.0 (Refuted b.0.0 log))) line c.2 in
    let place = place_takes ws a.0.0 a.0.1 a.1 in
    let bit = bit_takes a.0.1 b.0.0 b.0.1 b.1 in
    let mark = word_takes (codes ":") b.0.1 c.0 c.1 in
    let log = log_takes c.0 d.0 d.1 in
    subst (IsRead (codes "r") ws) (some_is (line_with a.0.0 (Refuted b.0.0 d.0)) line d.2)
    (read_as (codes "r") ws a.0.1 a.0.0 (Refuted b.0.0 d.0) refl place.words
    (bit ∙ ap (λ r. bit_word b.0.0 ∷ r) (mark ∙ ap (λ r. codes ":" ∷ r) log.words)) place.fits log.fits)

pair_takes : (ws : List (List ℕ)) (line : Line) → pair_of_words ws ≡ Some line → IsRead (codes "u") ws line
unfolding pair_of_words
pair_takes ws line read =
    let a = bind_some (place_in_front ws) (λ place. word_in_front (codes ":") place.1 >>= λ rest. places_before [] rest >>= λ zero. places_to_end [] zero.1 >>= λ one. Some (line_with place.0 (Pair zero.0 one))) line read in
    let b = bind_some (word_in_front (codes ":") a.0.1) (λ rest. places_before [] rest >>= λ zero. places_to_end [] zero.1 >>= λ one. Some (line_with a.0.0 (Pair zero.0 one))) line a.2 in
    let c = bind_some (places_before [] b.0) (λ zero. places_to_end [] zero.1 >>= λ one. Some (line_with a.0.0 (Pair zero.0 one))) line b.2 in
    let d = bind_some (places_to_end [] c.0.1) (λ one. Some (line_with a.0.0 (Pair c.0.0 one))) line c.2 in
    let place = place_takes ws a.0.0 a.0.1 a.1 in
    let mark = word_takes (codes ":") a.0.1 b.0 b.1 in
    let zero = before_takes [] b.0 c.0.0 c.0.1 c.1 in
    let one = to_end_takes [] c.0.1 d.0 d.1 in
    let zero_is : zero.more ≡ c.0.0 = sym zero.places.all_is in
    let one_is : one.more ≡ d.0 = sym one.places.all_is in
    let zero_fits = subst (AllByRecursion FitsPlace) zero_is zero.places.fits in
    let one_fits = subst (AllByRecursion FitsPlace) one_is one.places.fits in
    subst (IsRead (codes "u") ws) (some_is (line_with a.0.0 (Pair c.0.0 d.0)) line d.2)
    (read_as (codes "u") ws a.0.1 a.0.0 (Pair c.0.0 d.0) refl place.words
    (mark ∙ ap (λ r. codes ":" ∷ r)
    (zero.words ∙ (ap (λ z. filling_words z ++ codes ";" ∷ c.0.1) zero_is
    ∙ ap (λ r. filling_words c.0.0 ++ codes ";" ∷ r) (one.words ∙ ap filling_words one_is)))) place.fits (zero_fits, one_fits))

undecided_takes : (ws : List (List ℕ)) (line : Line) → undecided_of_words ws ≡ Some line → IsRead (codes "?") ws line
unfolding undecided_of_words
undecided_takes ws line read =
    let a = bind_some (place_in_front ws) (λ place. word_in_front (codes ":") place.1 >>= λ rest. log_of_words rest >>= λ log. Some (line_with place.0 (Undecided log))) line read in
    let c = bind_some (word_in_front (codes ":") a.0.1) (λ rest. log_of_words rest >>= λ log. Some (line_with a.0.0 (Undecided log))) line a.2 in
    let d = bind_some (log_of_words c.0) (λ log. Some (line_with a.0.0 (Undecided log))) line c.2 in
    let place = place_takes ws a.0.0 a.0.1 a.1 in
    let mark = word_takes (codes ":") a.0.1 c.0 c.1 in
    let log = log_takes c.0 d.0 d.1 in
    subst (IsRead (codes "?") ws) (some_is (line_with a.0.0 (Undecided d.0)) line d.2)
    (read_as (codes "?") ws a.0.1 a.0.0 (Undecided d.0) refl place.words
    (mark ∙ ap (λ r. codes ":" ∷ r) log.words) place.fits log.fits)

lettered_as : (letter word : List ℕ) (ws : List (List ℕ)) (line : Line) → bytes_eq letter word ≡ true → IsRead word ws line
    → IsRead letter ws line
lettered_as letter word ws line is read = subst (λ l. IsRead l ws line) (sym (same_word letter word is)) read

pub line_takes : (letter : List ℕ) (ws : List (List ℕ)) (line : Line) → lettered letter ws ≡ Some line → IsRead letter ws line
line_takes letter ws line read = e (bytes_eq letter (codes "e")) refl read
  where
    q : (t : Bool) → bytes_eq letter (codes "?") ≡ t → cond t (undecided_of_words ws) None ≡ Some line → IsRead letter ws line
    q true is r = lettered_as letter (codes "?") ws line is (undecided_takes ws line r)
    q false is r = absurd cc

    u : (t : Bool) → bytes_eq letter (codes "u") ≡ t
        → cond t (pair_of_words ws) (cond (bytes_eq letter (codes "?")) (undecided_of_words ws) None) ≡ Some line → IsRead letter ws line
    u true is r = lettered_as letter (codes "u") ws line is (pair_takes ws line r)
    u false is r = q (bytes_eq letter (codes "?")) refl r

    k : (t : Bool) → bytes_eq letter (codes "r") ≡ t
        → cond t (refuted_of_words ws) (cond (bytes_eq letter (codes "u")) (pair_of_words ws) (cond (bytes_eq letter (codes "?")) (undecided_of_words ws) None)) ≡ Some line
        → IsRead letter ws line
    k true is r = lettered_as letter (codes "r") ws line is (refuted_takes ws line r)
    k false is r = u (bytes_eq letter (codes "u")) refl r

    e : (t : Bool) → bytes_eq letter (codes "e") ≡ t
        → cond t (enumerated_of_words ws) (cond (bytes_eq letter (codes "r")) (refuted_of_words ws) (cond (bytes_eq letter (codes "u")) (pair_of_words ws) (cond (bytes_eq letter (codes "?")) (undecided_of_words ws) None))) ≡ Some line
        → IsRead letter ws line
    e true is r = lettered_as letter (codes "e") ws line is (enumerated_takes ws line r)
    e false is r = k (bytes_eq letter (codes "r")) refl r

-- The other way round.
enumerated_again : (place : Place) (bit : Bool) → FitsPlace place
    → enumerated_of_words (place_words place ++ bit_word bit ∷ []) ≡ Some (line_with place (Enumerated bit))
unfolding enumerated_of_words
enumerated_again place bit fits = rw (place_again place (bit_word bit ∷ []) fits, bit_again bit []) refl

refuted_again : (place : Place) (bit : Bool) (log : List (List ℤ)) → FitsPlace place → FitsBody (Refuted bit log)
    → refuted_of_words (place_words place ++ bit_word bit ∷ codes ":" ∷ log_words log) ≡ Some (line_with place (Refuted bit log))
unfolding refuted_of_words
refuted_again place bit log fits fits_log =
    rw (place_again place (bit_word bit ∷ codes ":" ∷ log_words log) fits, bit_again bit (codes ":" ∷ log_words log), log_again log fits_log) refl

pair_again : (place : Place) (zero one : List Place) → FitsPlace place → FitsBody (Pair zero one)
    → pair_of_words (place_words place ++ codes ":" ∷ filling_words zero ++ codes ";" ∷ filling_words one) ≡ Some (line_with place (Pair zero one))
unfolding pair_of_words
pair_again place zero one fits fits_both =
    rw (
      place_again place (codes ":" ∷ filling_words zero ++ codes ";" ∷ filling_words one) fits,
      before_again [] zero (filling_words one) fits_both.0,
      to_end_again [] one fits_both.1,
    ) refl

undecided_again : (place : Place) (log : List (List ℤ)) → FitsPlace place → FitsBody (Undecided log)
    → undecided_of_words (place_words place ++ codes ":" ∷ log_words log) ≡ Some (line_with place (Undecided log))
unfolding undecided_of_words
undecided_again place log fits fits_log =
    rw (place_again place (codes ":" ∷ log_words log) fits, log_again log fits_log) refl

pub line_with_again : (place : Place) (body : Body) → FitsPlace place → FitsBody body
    → lettered (body_letter body) (place_words place ++ body_words body) ≡ Some (line_with place body)
line_with_again place (Enumerated bit) fits fits_body = enumerated_again place bit fits
line_with_again place (Refuted bit log) fits fits_body = refuted_again place bit log fits fits_body
line_with_again place (Pair zero one) fits fits_body = pair_again place zero one fits fits_body
line_with_again place (Undecided log) fits fits_body = undecided_again place log fits fits_body

-- The last line.
is_same : (m n : ℕ) → (m == n) ≡ true → m ≡ n
is_same m n h = grind (arith, nat_tests)

pub same_is : (n : ℕ) → (n == n) ≡ true
same_is n = grind (arith, nat_tests)

pub count_takes : (count : ℕ) (ws : List (List ℕ)) → is_count count ws ≡ true → ws ≡ decimal count ∷ []
count_takes count [] h = absurd cc
count_takes count (w ∷ v ∷ ws) h = absurd cc
count_takes count (w ∷ []) h = by (numeral_within 18446744073709551615 w) refl h
  where
    by : (o : Option ℕ) → numeral_within 18446744073709551615 w ≡ o → is_number count o ≡ true → w ∷ [] ≡ decimal count ∷ []
    by None is r = absurd cc
    by (Some n) is r =
        ap (λ v. v ∷ []) ((number_takes 18446744073709551615 w n (omega arith) is).word_is ∙ ap decimal (is_same n count r))

-- The numbers of the second line.
field_takes : (word : List ℕ) (ws : List (List ℕ)) (n : ℕ) (rest : List (List ℕ)) → field_in_front word ws ≡ Some (n, rest)
    → (ws ≡ word ∷ decimal n ∷ rest) × (n < 2 ^ 32)
unfolding field_in_front
field_takes word ws n rest read =
    let a = bind_some (word_in_front word ws) (λ left. number_in_front left) (n, rest) read in
    let here = word_takes word ws a.0 a.1 in
    let number = number_taken a.0 n rest a.2 in
    (here ∙ ap (λ r. word ∷ r) number.words, number.small)

field_again : (word : List ℕ) (n : ℕ) (rest : List (List ℕ)) → n < 2 ^ 32 → field_in_front word (word ∷ decimal n ∷ rest) ≡ Some (n, rest)
unfolding field_in_front
field_again word n rest small = rw (word_same word) (numbered_again n rest small)

pub record IsHead (ws : List (List ℕ)) (head : Head) : Type 0 where
  pub words : ws ≡ head_words head
  pub fits : FitsHead head

abbrev head_with : ℕ → ℕ → ℕ → ℕ → Head
head_with a b c d = record { rounds = a; conflicts = b; moments = c; nets = d }

pub head_takes : (ws : List (List ℕ)) (head : Head) → head_of_words ws ≡ Some head → IsHead ws head
unfolding head_of_words
head_takes ws head read =
    let a = bind_some (field_in_front (codes "rounds") ws) (λ rounds. field_in_front (codes "conflicts") rounds.1 >>= λ conflicts. field_in_front (codes "moments") conflicts.1 >>= λ moments. field_in_front (codes "nets") moments.1 >>= λ nets. whole nets.1 (head_with rounds.0 conflicts.0 moments.0 nets.0)) head read in
    let b = bind_some (field_in_front (codes "conflicts") a.0.1) (λ conflicts. field_in_front (codes "moments") conflicts.1 >>= λ moments. field_in_front (codes "nets") moments.1 >>= λ nets. whole nets.1 (head_with a.0.0 conflicts.0 moments.0 nets.0)) head a.2 in
    let c = bind_some (field_in_front (codes "moments") b.0.1) (λ moments. field_in_front (codes "nets") moments.1 >>= λ nets. whole nets.1 (head_with a.0.0 b.0.0 moments.0 nets.0)) head b.2 in
    let d = bind_some (field_in_front (codes "nets") c.0.1) (λ nets. whole nets.1 (head_with a.0.0 b.0.0 c.0.0 nets.0)) head c.2 in
    let e = whole_takes d.0.1 (head_with a.0.0 b.0.0 c.0.0 d.0.0) head d.2 in
    let rounds = field_takes (codes "rounds") ws a.0.0 a.0.1 a.1 in
    let conflicts = field_takes (codes "conflicts") a.0.1 b.0.0 b.0.1 b.1 in
    let moments = field_takes (codes "moments") b.0.1 c.0.0 c.0.1 c.1 in
    let nets = field_takes (codes "nets") c.0.1 d.0.0 d.0.1 d.1 in
    subst (IsHead ws) e.1 (record {
      words =
          rounds.0 ∙ ap (λ r. codes "rounds" ∷ decimal a.0.0 ∷ r) (conflicts.0 ∙ ap (λ r. codes "conflicts" ∷ decimal b.0.0 ∷ r)
          (moments.0 ∙ ap (λ r. codes "moments" ∷ decimal c.0.0 ∷ r) (nets.0 ∙ ap (λ r. codes "nets" ∷ decimal d.0.0 ∷ r) e.0)));
      fits = record { rounds = rounds.1; conflicts = conflicts.1; moments = moments.1; nets = nets.1 };
    })

pub head_again : (head : Head) → FitsHead head → head_of_words (head_words head) ≡ Some head
unfolding head_of_words
head_again head fits =
    rw (
      field_again (codes "rounds") head.rounds (codes "conflicts" ∷ decimal head.conflicts ∷ codes "moments" ∷ decimal head.moments ∷ codes "nets" ∷ decimal head.nets ∷ []) fits.rounds,
      field_again (codes "conflicts") head.conflicts (codes "moments" ∷ decimal head.moments ∷ codes "nets" ∷ decimal head.nets ∷ []) fits.conflicts,
      field_again (codes "moments") head.moments (codes "nets" ∷ decimal head.nets ∷ []) fits.moments,
      field_again (codes "nets") head.nets [] fits.nets,
    ) refl
