-- What stands between the second line and the last one, and the last one, by their words: what is read is written so, and
-- what is written is read again.
use Rattle.std.proofs.Common.{◌≡◌, ℕ, ◌^◌, ◌<◌, Bool, true, false, cond, List, [], ◌∷◌, Option, Some, None, refl, subst, ◌∙◌, ap, arith}
use Rattle.std.specs.Prelude.{bytes_eq, codes, option_map}
use Rattle.law_model.specs.declared.line.Body.{Body}
use Rattle.law_model.specs.declared.line.Body.TheVariants.{Enumerated, Refuted, Pair, Undecided}
use Rattle.law_model.specs.declared.turn.Turn.{Turn}
use Rattle.law_model.specs.declared.turn.Turn.TheVariants.{Dropped, Needed, Tried}
use Rattle.cert_writer.specs.declared.cert.Entry.{Entry}
use Rattle.cert_writer.specs.declared.cert.Form.{Form}
use Rattle.cert_writer.specs.declared.cert.Form.TheVariants.{Lines, Turns}
use Rattle.cert_writer.specs.Fits.{FitsEntry}
use Rattle.cert_reader.specs.Machine.{entry_lettered, is_count, is_turn_letter, item_of, lettered, turn_of_words}
use Rattle.cert_writer.specs.Text.{body_letter, end_words, entry_words, turn_letter}
use Rattle.cert_reader.proofs.LineLaws.{count_takes, line_takes, line_with_again, same_is}
use Rattle.cert_reader.proofs.NumberLaws.{number_again}
use Rattle.base_scan.proofs.Fronts.{mapped, same_word, some_is}
use Rattle.cert_reader.proofs.TurnLaws.{turn_again, turn_takes}

-- Words after a letter are those of a line or turn that fits.
pub record IsReadEntry (form : Form) (letter : List ℕ) (ws : List (List ℕ)) (entry : Entry) : Type 0 where
  pub words : letter ∷ ws ≡ entry_words entry
  pub fits : FitsEntry form entry

as_line : (form : Form) (letter : List ℕ) (ws : List (List ℕ)) (entry : Entry)
    → option_map (λ line. Entry.Line line) (lettered letter ws) ≡ Some entry → IsReadEntry form letter ws entry
as_line form letter ws entry read =
    let found = mapped (λ line. Entry.Line line) (lettered letter ws) entry read in
    let line = line_takes letter ws found.0 found.1 in
    subst (IsReadEntry form letter ws) found.2 (record { words = line.words; fits = line.fits })

as_turn : (letter : List ℕ) (ws : List (List ℕ)) (entry : Entry)
    → option_map (λ turn. Entry.Turn turn) (turn_of_words letter ws) ≡ Some entry → IsReadEntry Turns letter ws entry
as_turn letter ws entry read =
    let found = mapped (λ turn. Entry.Turn turn) (turn_of_words letter ws) entry read in
    let turn = turn_takes letter ws found.0 found.1 in
    subst (IsReadEntry Turns letter ws) found.2 (record { words = turn.words; fits = turn.fits })

entry_takes : (form : Form) (letter : List ℕ) (ws : List (List ℕ)) (entry : Entry) → entry_lettered form letter ws ≡ Some entry
    → IsReadEntry form letter ws entry
entry_takes Lines letter ws entry read = as_line Lines letter ws entry read
entry_takes Turns letter ws entry read = by (is_turn_letter letter) read
  where
    by : (t : Bool) → cond t (option_map (λ turn. Entry.Turn turn) (turn_of_words letter ws)) (option_map (λ line. Entry.Line line) (lettered letter ws)) ≡ Some entry
        → IsReadEntry Turns letter ws entry
    by true r = as_turn letter ws entry r
    by false r = as_line Turns letter ws entry r

-- The other way round.
no_turn : (body : Body) → is_turn_letter (body_letter body) ≡ false
no_turn (Enumerated bit) = refl
no_turn (Refuted bit log) = refl
no_turn (Pair zero one) = refl
no_turn (Undecided log) = refl

is_turn : (turn : Turn) → is_turn_letter (turn_letter turn) ≡ true
is_turn (Dropped log) = refl
is_turn (Needed model) = refl
is_turn (Tried log) = refl

no_end : (body : Body) → bytes_eq (body_letter body) (codes "end") ≡ false
no_end (Enumerated bit) = refl
no_end (Refuted bit log) = refl
no_end (Pair zero one) = refl
no_end (Undecided log) = refl

turn_no_end : (turn : Turn) → bytes_eq (turn_letter turn) (codes "end") ≡ false
turn_no_end (Dropped log) = refl
turn_no_end (Needed model) = refl
turn_no_end (Tried log) = refl

pub item_again : (form : Form) (count : ℕ) (entry : Entry) → FitsEntry form entry → item_of form count (entry_words entry) ≡ Some (Some entry)
item_again Lines count (Entry.Line line) fits =
    rw (no_end line.body, line_with_again line.place line.body fits.place fits.body) refl
item_again Turns count (Entry.Line line) fits =
    rw (no_end line.body, no_turn line.body, line_with_again line.place line.body fits.place fits.body) refl
item_again Lines count (Entry.Turn line) fits = absurd fits
item_again Turns count (Entry.Turn line) fits =
    rw (turn_no_end line.turn, is_turn line.turn, turn_again line fits) refl

-- The last line.
pub last_again : (form : Form) (count : ℕ) → count < 2 ^ 64 → item_of form count (end_words count) ≡ Some None
last_again form count small =
    rw (number_again 18446744073709551615 count (omega arith) (omega (arith, small)), same_is count) refl

-- What an item is.
abbrev pub IsItem : Form → ℕ → List (List ℕ) → Option Entry → Type 0
IsItem form count words None = words ≡ end_words count
IsItem form count words (Some entry) = (words ≡ entry_words entry) × FitsEntry form entry

pub item_takes : (form : Form) (count : ℕ) (ws : List (List ℕ)) (item : Option Entry) → item_of form count ws ≡ Some item
    → IsItem form count ws item
item_takes form count [] item read = absurd cc
item_takes form count (w ∷ ws) item read = by (bytes_eq w (codes "end")) refl read
  where
    counted : (t : Bool) → is_count count ws ≡ t → w ≡ codes "end" → cond t (Some None) None ≡ Some item → IsItem form count (w ∷ ws) item
    counted true is w_is r =
        subst (IsItem form count (w ∷ ws)) (some_is None item r) (ap (λ v. v ∷ ws) w_is ∙ ap (λ vs. codes "end" ∷ vs) (count_takes count ws is))
    counted false is w_is r = absurd cc

    by : (t : Bool) → bytes_eq w (codes "end") ≡ t
        → cond t (cond (is_count count ws) (Some None) None) (option_map (λ entry. Some entry) (entry_lettered form w ws)) ≡ Some item
        → IsItem form count (w ∷ ws) item
    by true is r = counted (is_count count ws) refl (same_word w (codes "end") is) r
    by false is r =
        let found = mapped (λ entry. Some entry) (entry_lettered form w ws) item r in
        let entry = entry_takes form w ws found.0 found.1 in
        subst (IsItem form count (w ∷ ws)) found.2 (entry.words, entry.fits)
