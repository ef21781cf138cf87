-- Turns by their words: what is read is written so, and what is written is read again.
use Rattle.std.proofs.Common.{◌≡◌, ℕ, ◌<◌, ◌==◌, Bool, true, false, cond, List, [], ◌∷◌, ◌++◌, length, map, Some, None, refl, sym, subst, ◌∙◌, ap, arith}
use Rattle.std.specs.Prelude.{◌&&◌, nat_lt, bytes_eq, codes, option_map}
use Rattle.std.specs.List.{list_all}
use Rattle.std.proofs.lemmas.Bool.Decides.{nat_tests}
use Rattle.std.proofs.lemmas.List.{length-map}
use Rattle.design_circuit.specs.declared.place.Place.{Place}
use Rattle.law_model.specs.declared.turn.Turn.{Turn}
use Rattle.law_model.specs.declared.turn.Turn.TheVariants.{Dropped, Needed, Tried}
use Rattle.law_model.specs.declared.turn.TurnLine.{TurnLine}
use Rattle.cert_writer.specs.Fits.{FitsPlace, FitsTurn, FitsTurnLine}
use Rattle.cert_reader.specs.Machine.{is_value, log_of_words, model_of_words, place_in_front, turn_lettered, turn_of_words, turn_with}
use Rattle.base_scan.specs.Fronts.{◌>>=◌, word_in_front}
use Rattle.cert_writer.specs.Text.{digit, model_word, place_words, turn_body_words, turn_letter, turn_words}
use Rattle.cert_reader.proofs.LogLaws.{log_again, log_takes}
use Rattle.base_scan.proofs.Digits.{filled, filled_true}
use Rattle.base_scan.proofs.Fronts.{bind_some, both, guarded, mapped, same_word, some_is, word_takes}
use Rattle.cert_reader.proofs.WordLaws.{place_again, place_takes}

-- Models.
abbrev is_one : ℕ → Bool
is_one b = b == 49

digit_of_value : (b : ℕ) → is_value b ≡ true → digit (is_one b) ≡ b
digit_of_value b h = by (is_one b) refl
  where
    by : (t : Bool) → is_one b ≡ t → digit t ≡ b
    by true is = grind (arith, nat_tests)
    by false is = grind (arith, nat_tests)

digits_of_values : (w : List ℕ) → list_all is_value w ≡ true → model_word (map is_one w) ≡ w
digits_of_values [] h = refl
digits_of_values (b ∷ bs) h =
    let parts = both (is_value b) (list_all is_value bs) h in
    let first : digit (is_one b) ≡ b = digit_of_value b parts.0 in
    let others : model_word (map is_one bs) ≡ bs = digits_of_values bs parts.1 in cc

map_long : {A B : Type 0} (f : A → B) (xs : List A) → 0 < length xs → 0 < length (map f xs)
map_long f xs some = rw (length-map xs f) some

pub record IsModelAt (ws : List (List ℕ)) (model : List Bool) : Type 0 where
  pub words : ws ≡ model_word model ∷ []
  pub fits : 0 < length model

pub model_takes : (ws : List (List ℕ)) (model : List Bool) → model_of_words ws ≡ Some model → IsModelAt ws model
model_takes [] model read = absurd cc
model_takes (w ∷ v ∷ ws) model read = absurd cc
model_takes (w ∷ []) model read =
    let found = guarded (nat_lt 0 (length w) && list_all is_value w) (Some (map is_one w)) model read in
    let parts = both (nat_lt 0 (length w)) (list_all is_value w) found.0 in
    let is : map is_one w ≡ model = some_is (map is_one w) model found.1 in
    subst (IsModelAt (w ∷ [])) is (record {
      words = ap (λ v. v ∷ []) (sym (digits_of_values w parts.1));
      fits = map_long is_one w (filled (length w) parts.0);
    })

value_of_digit : (bit : Bool) → is_one (digit bit) ≡ bit
value_of_digit true = refl
value_of_digit false = refl

digit_value : (bit : Bool) → is_value (digit bit) ≡ true
digit_value true = refl
digit_value false = refl

values_of_digits : (model : List Bool) → map is_one (model_word model) ≡ model
values_of_digits [] = refl
values_of_digits (bit ∷ bits) =
    let first : is_one (digit bit) ≡ bit = value_of_digit bit in
    let others : map is_one (model_word bits) ≡ bits = values_of_digits bits in cc

all_values : (model : List Bool) → list_all is_value (model_word model) ≡ true
all_values [] = refl
all_values (bit ∷ bits) = rw (digit_value bit) (all_values bits)

pub model_again : (model : List Bool) → 0 < length model → model_of_words (model_word model ∷ []) ≡ Some model
model_again model some =
    rw (filled_true (length (model_word model)) (map_long digit model some), all_values model, values_of_digits model) refl

-- What a turn finds.
pub record IsFinding (letter : List ℕ) (ws : List (List ℕ)) (turn : Turn) : Type 0 where
  pub letter_is : letter ≡ turn_letter turn
  pub words : ws ≡ turn_body_words turn
  pub fits : FitsTurn turn

dropped_takes : (letter : List ℕ) (ws : List (List ℕ)) (turn : Turn) → bytes_eq letter (codes "-") ≡ true
    → option_map (λ log. Dropped log) (log_of_words ws) ≡ Some turn → IsFinding letter ws turn
dropped_takes letter ws turn is read =
    let found = mapped (λ log. Dropped log) (log_of_words ws) turn read in
    let log = log_takes ws found.0 found.1 in
    subst (IsFinding letter ws) found.2
    (record { letter_is = same_word letter (codes "-") is; words = log.words; fits = log.fits })

needed_takes : (letter : List ℕ) (ws : List (List ℕ)) (turn : Turn) → bytes_eq letter (codes "+") ≡ true
    → option_map (λ model. Needed model) (model_of_words ws) ≡ Some turn → IsFinding letter ws turn
needed_takes letter ws turn is read =
    let found = mapped (λ model. Needed model) (model_of_words ws) turn read in
    let model = model_takes ws found.0 found.1 in
    subst (IsFinding letter ws) found.2
    (record { letter_is = same_word letter (codes "+") is; words = model.words; fits = model.fits })

tried_takes : (letter : List ℕ) (ws : List (List ℕ)) (turn : Turn) → bytes_eq letter (codes "~") ≡ true
    → option_map (λ log. Tried log) (log_of_words ws) ≡ Some turn → IsFinding letter ws turn
tried_takes letter ws turn is read =
    let found = mapped (λ log. Tried log) (log_of_words ws) turn read in
    let log = log_takes ws found.0 found.1 in
    subst (IsFinding letter ws) found.2
    (record { letter_is = same_word letter (codes "~") is; words = log.words; fits = log.fits })

finding_takes : (letter : List ℕ) (ws : List (List ℕ)) (turn : Turn) → turn_lettered letter ws ≡ Some turn
    → IsFinding letter ws turn
finding_takes letter ws turn read = dropped (bytes_eq letter (codes "-")) refl read
  where
    tried : (t : Bool) → bytes_eq letter (codes "~") ≡ t → cond t (option_map (λ log. Tried log) (log_of_words ws)) None ≡ Some turn
        → IsFinding letter ws turn
    tried true is r = tried_takes letter ws turn is r
    tried false is r = absurd cc

    needed : (t : Bool) → bytes_eq letter (codes "+") ≡ t
        → cond t (option_map (λ model. Needed model) (model_of_words ws)) (cond (bytes_eq letter (codes "~")) (option_map (λ log. Tried log) (log_of_words ws)) None) ≡ Some turn
        → IsFinding letter ws turn
    needed true is r = needed_takes letter ws turn is r
    needed false is r = tried (bytes_eq letter (codes "~")) refl r

    dropped : (t : Bool) → bytes_eq letter (codes "-") ≡ t
        → cond t (option_map (λ log. Dropped log) (log_of_words ws)) (cond (bytes_eq letter (codes "+")) (option_map (λ model. Needed model) (model_of_words ws)) (cond (bytes_eq letter (codes "~")) (option_map (λ log. Tried log) (log_of_words ws)) None)) ≡ Some turn
        → IsFinding letter ws turn
    dropped true is r = dropped_takes letter ws turn is r
    dropped false is r = needed (bytes_eq letter (codes "+")) refl r

finding_again : (turn : Turn) → FitsTurn turn → turn_lettered (turn_letter turn) (turn_body_words turn) ≡ Some turn
finding_again (Dropped log) fits = ap (option_map (λ l. Dropped l)) (log_again log fits)
finding_again (Needed model) fits = ap (option_map (λ m. Needed m)) (model_again model fits)
finding_again (Tried log) fits = ap (option_map (λ l. Tried l)) (log_again log fits)

-- Words after a letter are those of a turn that fits.
pub record IsReadTurn (letter : List ℕ) (ws : List (List ℕ)) (line : TurnLine) : Type 0 where
  pub words : letter ∷ ws ≡ turn_words line
  pub fits : FitsTurnLine line

turn_read : (letter : List ℕ) (ws rest left : List (List ℕ)) (place : Place) (turn : Turn) → ws ≡ place_words place ++ rest
    → rest ≡ codes ":" ∷ left → FitsPlace place → IsFinding letter left turn → IsReadTurn letter ws (turn_with place turn)
turn_read letter ws rest left place turn ws_is rest_is fits finding = record {
  words =
      ap (λ l. l ∷ ws) finding.letter_is
      ∙ ap (λ r. turn_letter turn ∷ r) (ws_is ∙ ap (λ r. place_words place ++ r) (rest_is ∙ ap (λ r. codes ":" ∷ r) finding.words));
  fits = record { place = fits; turn = finding.fits };
}

pub turn_takes : (letter : List ℕ) (ws : List (List ℕ)) (line : TurnLine) → turn_of_words letter ws ≡ Some line
    → IsReadTurn letter ws line
unfolding turn_of_words
turn_takes letter ws line read =
    let a = bind_some (place_in_front ws) (λ place. word_in_front (codes ":") place.1 >>= λ rest. turn_lettered letter rest >>= λ turn. Some (turn_with place.0 turn)) line read in
    let b = bind_some (word_in_front (codes ":") a.0.1) (λ rest. turn_lettered letter rest >>= λ turn. Some (turn_with a.0.0 turn)) line a.2 in
    let c = bind_some (turn_lettered letter b.0) (λ turn. Some (turn_with a.0.0 turn)) line b.2 in
    let place = place_takes ws a.0.0 a.0.1 a.1 in
    subst (IsReadTurn letter ws) (some_is (turn_with a.0.0 c.0) line c.2)
    (turn_read letter ws a.0.1 b.0 a.0.0 c.0 place.words (word_takes (codes ":") a.0.1 b.0 b.1) place.fits (finding_takes letter b.0 c.0 c.1))

pub turn_again : (line : TurnLine) → FitsTurnLine line
    → turn_of_words (turn_letter line.turn) (place_words line.place ++ codes ":" ∷ turn_body_words line.turn) ≡ Some line
unfolding turn_of_words
turn_again line fits =
    rw (
      place_again line.place (codes ":" ∷ turn_body_words line.turn) fits.place,
      finding_again line.turn fits.turn,
    ) refl
