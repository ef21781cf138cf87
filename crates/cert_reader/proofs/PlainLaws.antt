-- The words that are written hold no space and no newline, so that lines and texts are cut where they were joined_by.
use Rattle.std.proofs.Common.{◌≡◌, ℕ, suc, ◌^◌, ◌<◌, ◌==◌, Bool, true, false, List, [], ◌∷◌, ◌++◌, length, map, refl, ◌∙◌, ap, append_assoc, arith}
use Rattle.std.specs.Prelude.{ℤ, pos, negsuc, ◌&&◌, not, codes, decimal}
use Rattle.std.specs.Fmt.{signed_decimal}
use Rattle.std.specs.List.{AllByRecursion, flat_map, list_all}
use Rattle.std.proofs.lemmas.Bool.Decides.{nat_tests}
use Rattle.design_circuit.specs.declared.place.Place.{Place}
use Rattle.law_model.specs.declared.line.Body.{Body}
use Rattle.law_model.specs.declared.line.Body.TheVariants.{Enumerated, Refuted, Pair, Undecided}
use Rattle.law_model.specs.declared.line.Line.{Line}
use Rattle.law_model.specs.declared.turn.Turn.{Turn}
use Rattle.law_model.specs.declared.turn.Turn.TheVariants.{Dropped, Needed, Tried}
use Rattle.law_model.specs.declared.turn.TurnLine.{TurnLine}
use Rattle.cert_writer.specs.declared.cert.Cert.{Cert}
use Rattle.cert_writer.specs.declared.cert.Entry.{Entry}
use Rattle.cert_writer.specs.declared.cert.Form.{Form}
use Rattle.cert_writer.specs.declared.cert.Form.TheVariants.{Lines, Turns}
use Rattle.cert_writer.specs.declared.cert.Head.{Head}
use Rattle.cert_writer.specs.Fits.{FitsBody, FitsCert, FitsEntry, FitsFilling, FitsHead, FitsLine, FitsLiteral, FitsPlace, FitsTurn, FitsTurnLine}
use Rattle.base_scan.specs.Bytes.{is_digit}
use Rattle.cert_writer.specs.Pieces.{line_of_words, lines_in, words_in}
use Rattle.cert_writer.specs.Text.{bit_word, body_letter, body_words, cert_lines, cert_text, clause_words, digit, end_words, entry_text, entry_words, with_newline, filling_words, head_words, line_words, log_words, model_word, place_words, title, turn_body_words, turn_letter, turn_words}
use Rattle.cert_reader.proofs.LogLaws.{FitsClauses}
use Rattle.base_scan.proofs.Digits.{all_digits_decimal}
use Rattle.base_scan.proofs.Fronts.{both}
use Rattle.cert_reader.proofs.PieceLaws.{HasNoCut, pieces_joined, pieces_more}

-- No space and no newline.
abbrev pub is_inner : ℕ → Bool
is_inner b = not (b == 32) && not (b == 10)

abbrev pub IsInner : List ℕ → Type 0
IsInner w = list_all is_inner w ≡ true

abbrev pub AreInner : List (List ℕ) → Type 0
AreInner ws = AllByRecursion IsInner ws

and_true : (a b : Bool) → a ≡ true → b ≡ true → a && b ≡ true
and_true a b x y = cc

digit_inner : (b : ℕ) → is_digit b ≡ true → is_inner b ≡ true
digit_inner b h = grind (arith, nat_tests)

digits_inner : (t : List ℕ) → list_all is_digit t ≡ true → IsInner t
digits_inner [] h = refl
digits_inner (b ∷ bs) h =
    let parts = both (is_digit b) (list_all is_digit bs) h in
    and_true (is_inner b) (list_all is_inner bs) (digit_inner b parts.0) (digits_inner bs parts.1)

decimal_inner : (n : ℕ) → n < 2 ^ 64 → IsInner (decimal n)
decimal_inner n small = digits_inner (decimal n) (all_digits_decimal n small)

inner-append : (vs ws : List (List ℕ)) → AreInner vs → AreInner ws → AreInner (vs ++ ws)
inner-append [] ws first second = second
inner-append (v ∷ vs) ws first second = (first.0, inner-append vs ws first.1 second)

place_inner : (place : Place) → FitsPlace place → AreInner (place_words place)
place_inner place fits =
    (decimal_inner place.step (omega (arith, fits.step)), (decimal_inner place.net (omega (arith, fits.net)), tt))

filling_inner : (places : List Place) → FitsFilling places → AreInner (filling_words places)
filling_inner [] fits = tt
filling_inner (place ∷ places) fits =
    inner-append (place_words place) (filling_words places) (place_inner place fits.0) (filling_inner places fits.1)

literal_inner : (l : ℤ) → FitsLiteral l → IsInner (signed_decimal l)
literal_inner (pos n) fits = decimal_inner n (omega (arith, fits.small))
literal_inner (negsuc n) fits = decimal_inner (suc n) (omega (arith, fits.small))

literals_inner : (ls : List ℤ) → AllByRecursion FitsLiteral ls → AreInner (map signed_decimal ls)
literals_inner [] fits = tt
literals_inner (l ∷ ls) fits = (literal_inner l fits.0, literals_inner ls fits.1)

log_inner : (log : List (List ℤ)) → FitsClauses log → AreInner (log_words log)
log_inner [] fits = tt
log_inner (clause ∷ log) fits =
    inner-append (clause_words clause) (log_words log)
    (inner-append (map signed_decimal clause) (codes "0" ∷ []) (literals_inner clause fits.0) (refl, tt)) (log_inner log fits.1)

bit_inner : (bit : Bool) → IsInner (bit_word bit)
bit_inner true = refl
bit_inner false = refl

letter_inner : (body : Body) → IsInner (body_letter body)
letter_inner (Enumerated bit) = refl
letter_inner (Refuted bit log) = refl
letter_inner (Pair zero one) = refl
letter_inner (Undecided log) = refl

body_inner : (body : Body) → FitsBody body → AreInner (body_words body)
body_inner (Enumerated bit) fits = (bit_inner bit, tt)
body_inner (Refuted bit log) fits = (bit_inner bit, (refl, log_inner log fits.literals))
body_inner (Pair zero one) fits =
    (refl, inner-append (filling_words zero) (codes ";" ∷ filling_words one) (filling_inner zero fits.0) (refl, filling_inner one fits.1))
body_inner (Undecided log) fits = (refl, log_inner log fits.literals)

line_inner : (line : Line) → FitsLine line → AreInner (line_words line)
line_inner line fits =
    (letter_inner line.body, inner-append (place_words line.place) (body_words line.body) (place_inner line.place fits.place) (body_inner line.body fits.body))

bit_digit_inner : (bit : Bool) → is_inner (digit bit) ≡ true
bit_digit_inner true = refl
bit_digit_inner false = refl

model_inner : (model : List Bool) → IsInner (model_word model)
model_inner [] = refl
model_inner (bit ∷ bits) = and_true (is_inner (digit bit)) (list_all is_inner (model_word bits)) (bit_digit_inner bit) (model_inner bits)

turn_letter_inner : (turn : Turn) → IsInner (turn_letter turn)
turn_letter_inner (Dropped log) = refl
turn_letter_inner (Needed model) = refl
turn_letter_inner (Tried log) = refl

turn_body_inner : (turn : Turn) → FitsTurn turn → AreInner (turn_body_words turn)
turn_body_inner (Dropped log) fits = log_inner log fits.literals
turn_body_inner (Needed model) fits = (model_inner model, tt)
turn_body_inner (Tried log) fits = log_inner log fits.literals

turn_inner : (line : TurnLine) → FitsTurnLine line → AreInner (turn_words line)
turn_inner line fits =
    (turn_letter_inner line.turn, inner-append (place_words line.place) (codes ":" ∷ turn_body_words line.turn) (place_inner line.place fits.place) (refl, turn_body_inner line.turn fits.turn))

entry_inner : (form : Form) (entry : Entry) → FitsEntry form entry → AreInner (entry_words entry)
entry_inner Lines (Entry.Line line) fits = line_inner line fits
entry_inner Turns (Entry.Line line) fits = line_inner line fits
entry_inner Lines (Entry.Turn line) fits = absurd fits
entry_inner Turns (Entry.Turn line) fits = turn_inner line fits

head_inner : (head : Head) → FitsHead head → AreInner (head_words head)
head_inner head fits = (
  refl,
  (
    decimal_inner head.rounds (omega (arith, fits.rounds)),
    (
      refl,
      (
        decimal_inner head.conflicts (omega (arith, fits.conflicts)),
        (refl, (decimal_inner head.moments (omega (arith, fits.moments)), (refl, (decimal_inner head.nets (omega (arith, fits.nets)), tt)))),
      ),
    ),
  ),
)

end_inner : (count : ℕ) → count < 2 ^ 64 → AreInner (end_words count)
end_inner count small = (refl, (decimal_inner count small, tt))

-- Such words are cut where they were joined_by.
no_space : (b : ℕ) → is_inner b ≡ true → (b == 32) ≡ false
no_space b h = grind (arith, nat_tests)

no_newline : (b : ℕ) → is_inner b ≡ true → (b == 10) ≡ false
no_newline b h = grind (arith, nat_tests)

uncut_space : (w : List ℕ) → IsInner w → HasNoCut 32 w
uncut_space [] h = tt
uncut_space (b ∷ bs) h =
    let parts = both (is_inner b) (list_all is_inner bs) h in (no_space b parts.0, uncut_space bs parts.1)

uncut_newline : (w : List ℕ) → IsInner w → HasNoCut 10 w
uncut_newline [] h = tt
uncut_newline (b ∷ bs) h =
    let parts = both (is_inner b) (list_all is_inner bs) h in (no_newline b parts.0, uncut_newline bs parts.1)

uncut_all : (ws : List (List ℕ)) → AreInner ws → AllByRecursion (HasNoCut 32) ws
uncut_all [] h = tt
uncut_all (w ∷ ws) h = (uncut_space w h.0, uncut_all ws h.1)

pub entry_words_back : (form : Form) (entry : Entry) → FitsEntry form entry → words_in (entry_text entry) ≡ entry_words entry
entry_words_back form (Entry.Line line) fits = pieces_joined 32 _ _ (uncut_all (line_words line) (entry_inner form (Entry.Line line) fits))
entry_words_back form (Entry.Turn line) fits = pieces_joined 32 _ _ (uncut_all (turn_words line) (entry_inner form (Entry.Turn line) fits))

pub head_words_back : (head : Head) → FitsHead head → words_in (line_of_words (head_words head)) ≡ head_words head
head_words_back head fits = pieces_joined 32 _ _ (uncut_all (head_words head) (head_inner head fits))

pub end_words_back : (count : ℕ) → count < 2 ^ 64 → words_in (line_of_words (end_words count)) ≡ end_words count
end_words_back count small = pieces_joined 32 _ _ (uncut_all (end_words count) (end_inner count small))

-- No line holds a newline.
uncut-append : (v w : List ℕ) → HasNoCut 10 v → HasNoCut 10 w → HasNoCut 10 (v ++ w)
uncut-append [] w first second = second
uncut-append (b ∷ bs) w first second = (first.0, uncut-append bs w first.1 second)

line_uncut : (ws : List (List ℕ)) → AreInner ws → HasNoCut 10 (line_of_words ws)
line_uncut [] h = tt
line_uncut (w ∷ []) h = uncut_newline w h.0
line_uncut (w ∷ v ∷ ws) h =
    uncut-append w (32 ∷ line_of_words (v ∷ ws)) (uncut_newline w h.0) (refl, line_uncut (v ∷ ws) h.1)

entries_uncut : (form : Form) (entries : List Entry) (last : List ℕ) → AllByRecursion (FitsEntry form) entries → HasNoCut 10 last
    → AllByRecursion (HasNoCut 10) (map entry_text entries ++ last ∷ [])
entries_uncut form [] last fits uncut = (uncut, tt)
entries_uncut form (entry ∷ entries) last fits uncut =
    (line_uncut (entry_words entry) (entry_inner form entry fits.0), entries_uncut form entries last fits.1 uncut)

title_uncut : (form : Form) → HasNoCut 10 (title form)
title_uncut Lines = line_uncut (codes "xrepair" ∷ codes "certificate" ∷ codes "1" ∷ []) (refl, (refl, (refl, tt)))
title_uncut Turns = line_uncut (codes "xrepair" ∷ codes "certificate" ∷ codes "2" ∷ []) (refl, (refl, (refl, tt)))

cert_uncut : (cert : Cert) → FitsCert cert → AllByRecursion (HasNoCut 10) (cert_lines cert)
cert_uncut cert fits = (
  title_uncut cert.form,
  (
    line_uncut (head_words cert.head) (head_inner cert.head fits.head),
    entries_uncut cert.form cert.entries (line_of_words (end_words (length cert.entries))) fits.entries (line_uncut (end_words (length cert.entries)) (end_inner (length cert.entries) fits.count)),
  ),
)

text_cut : (lines : List (List ℕ)) → AllByRecursion (HasNoCut 10) lines → lines_in (flat_map with_newline lines) ≡ lines ++ [] ∷ []
text_cut [] uncut = refl
text_cut (line ∷ lines) uncut =
    ap lines_in (append_assoc line (10 ∷ []) (flat_map with_newline lines))
    ∙ (pieces_more 10 line (flat_map with_newline lines) uncut.0 ∙ ap (λ ps. line ∷ ps) (text_cut lines uncut.1))

pub cert_lines_back : (cert : Cert) → FitsCert cert → lines_in (cert_text cert) ≡ cert_lines cert ++ [] ∷ []
cert_lines_back cert fits = text_cut (cert_lines cert) (cert_uncut cert fits)
