-- What a line stands for, word by word, and what a text stands for, line by line.
use Rattle.std.specs.Prelude.{ℕ, ℤ, pos, ◌+◌, ◌++◌, List, [], ◌∷◌, length, map, Bool, true, false, cond, ◌&&◌, ◌||◌}
use Rattle.std.specs.Prelude.{bytes_eq, codes, ◌==◌, nat_lt, Option, Some, None, option_map, Result, Ok, Err}
use Rattle.std.specs.List.{list_all}
use Rattle.std.specs.Ordering.{int_eq}
use Rattle.design_circuit.specs.declared.place.Place.{Place}
use Rattle.law_model.specs.declared.line.Body.{Body}
use Rattle.law_model.specs.declared.line.Body.TheVariants.{Enumerated, Refuted, Pair, Undecided}
use Rattle.law_model.specs.declared.line.Line.{Line}
use Rattle.law_model.specs.declared.turn.Turn.{Turn}
use Rattle.law_model.specs.declared.turn.Turn.TheVariants.{Dropped, Needed, Tried}
use Rattle.law_model.specs.declared.turn.TurnLine.{TurnLine}
use Rattle.cert_writer.specs.declared.cert.Cert.{Cert}
use Rattle.cert_writer.specs.declared.cert.Entry.{Entry}
use Rattle.cert_writer.specs.declared.cert.Form.{Form}
use Rattle.cert_writer.specs.declared.cert.Form.TheVariants.{Lines, Turns}
use Rattle.cert_writer.specs.declared.cert.Head.{Head}
use Rattle.base_scan.specs.Fronts.{◌>>=◌, word_in_front}
use Rattle.cert_reader.specs.Numbers.{literal_of_word, numeral_within}
use Rattle.cert_writer.specs.Pieces.{words_in}
use Rattle.cert_writer.specs.Text.{title}

-- A number in front, below 2^32, and the words after it.
abbrev pub short_of : List ℕ → Option ℕ
short_of word = numeral_within 4294967295 word

abbrev pub number_in_front : List (List ℕ) → Option (ℕ × List (List ℕ))
number_in_front [] = None
number_in_front (w ∷ ws) = option_map (λ n. (n, ws)) (short_of w)

-- A place in front whose step is this word.
abbrev pub place_of_step : List ℕ → List (List ℕ) → Option (Place × List (List ℕ))
place_of_step w ws = do
  step ← short_of w
  net ← number_in_front ws
  Some (record { step = step; net = net.0 }, net.1)

unfoldable pub place_in_front : List (List ℕ) → Option (Place × List (List ℕ))
place_in_front [] = None
place_in_front (w ∷ ws) = place_of_step w ws

abbrev pub bit_of_word : List ℕ → Option Bool
bit_of_word w = cond (bytes_eq w (codes "0")) (Some false) (cond (bytes_eq w (codes "1")) (Some true) None)

abbrev pub bit_in_front : List (List ℕ) → Option (Bool × List (List ℕ))
bit_in_front [] = None
bit_in_front (w ∷ ws) = option_map (λ bit. (bit, ws)) (bit_of_word w)

-- The places up to the mark `;`, after those that were read, and the words after the mark.
unfoldable pub places_before : List Place → List (List ℕ) → Option (List Place × List (List ℕ))
places_before done [] = None
places_before done (w ∷ []) = cond (bytes_eq w (codes ";")) (Some (done, [])) None
places_before done (w ∷ v ∷ ws) =
    cond (bytes_eq w (codes ";")) (Some (done, v ∷ ws))
    (place_of_step w (v ∷ []) >>= (λ place. places_before (done ++ place.0 ∷ []) ws))

-- The places up to the end, after those that were read.
unfoldable pub places_to_end : List Place → List (List ℕ) → Option (List Place)
places_to_end done [] = Some done
places_to_end done (w ∷ []) = None
places_to_end done (w ∷ v ∷ ws) = place_of_step w (v ∷ []) >>= (λ place. places_to_end (done ++ place.0 ∷ []) ws)

-- A log ends where no clause is open and there is one.
abbrev pub log_end : List (List ℤ) → List ℤ → Option (List (List ℤ))
log_end [] literals = None
log_end (clause ∷ clauses) [] = Some (clause ∷ clauses)
log_end (clause ∷ clauses) (l ∷ ls) = None

abbrev pub is_end : ℤ → Bool
is_end l = int_eq l (pos 0)

-- The clauses up to the end, after those that were read and the literals of one that is open.
unfoldable pub log_from : List (List ℤ) → List ℤ → List (List ℕ) → Option (List (List ℤ))
log_from clauses literals [] = log_end clauses literals
log_from clauses literals (w ∷ ws) =
    literal_of_word w
    >>= (λ l. cond (is_end l) (log_from (clauses ++ literals ∷ []) [] ws) (log_from clauses (literals ++ l ∷ []) ws))

abbrev pub log_of_words : List (List ℕ) → Option (List (List ℤ))
log_of_words words = log_from [] [] words

-- A line is whole where no word is left.
abbrev pub whole : {A : Type 0} → List (List ℕ) → A → Option A
whole [] x = Some x
whole (w ∷ ws) x = None

abbrev pub line_with : Place → Body → Line
line_with place body = record { place = place; body = body }

-- What stands after the letter of each kind of line.
unfoldable pub enumerated_of_words : List (List ℕ) → Option Line
enumerated_of_words words = do
  place ← place_in_front words
  bit ← bit_in_front place.1
  whole bit.1 (line_with place.0 (Enumerated bit.0))

unfoldable pub refuted_of_words : List (List ℕ) → Option Line
refuted_of_words words = do
  place ← place_in_front words
  bit ← bit_in_front place.1
  rest ← word_in_front (codes ":") bit.1
  log ← log_of_words rest
  Some (line_with place.0 (Refuted bit.0 log))

unfoldable pub pair_of_words : List (List ℕ) → Option Line
pair_of_words words = do
  place ← place_in_front words
  rest ← word_in_front (codes ":") place.1
  zero ← places_before [] rest
  one ← places_to_end [] zero.1
  Some (line_with place.0 (Pair zero.0 one))

unfoldable pub undecided_of_words : List (List ℕ) → Option Line
undecided_of_words words = do
  place ← place_in_front words
  rest ← word_in_front (codes ":") place.1
  log ← log_of_words rest
  Some (line_with place.0 (Undecided log))

-- The line that words after a letter stand for, if they stand for one.
abbrev pub lettered : List ℕ → List (List ℕ) → Option Line
lettered letter ws =
    cond (bytes_eq letter (codes "e")) (enumerated_of_words ws)
    (cond (bytes_eq letter (codes "r")) (refuted_of_words ws)
    (cond (bytes_eq letter (codes "u")) (pair_of_words ws)
    (cond (bytes_eq letter (codes "?")) (undecided_of_words ws) None)))

-- A model is one word of digits 0 and 1, and has at least one.
abbrev pub is_value : ℕ → Bool
is_value b = b == 48 || b == 49

abbrev pub model_of_word : List ℕ → Option (List Bool)
model_of_word w = cond (nat_lt 0 (length w) && list_all is_value w) (Some (map (λ b. b == 49) w)) None

abbrev pub model_of_words : List (List ℕ) → Option (List Bool)
model_of_words [] = None
model_of_words (w ∷ []) = model_of_word w
model_of_words (w ∷ v ∷ ws) = None

-- What a turn finds, by its letter and the words after the mark.
abbrev pub turn_lettered : List ℕ → List (List ℕ) → Option Turn
turn_lettered letter ws =
    cond (bytes_eq letter (codes "-")) (option_map (λ log. Dropped log) (log_of_words ws))
    (cond (bytes_eq letter (codes "+")) (option_map (λ model. Needed model) (model_of_words ws))
    (cond (bytes_eq letter (codes "~")) (option_map (λ log. Tried log) (log_of_words ws)) None))

abbrev pub turn_with : Place → Turn → TurnLine
turn_with place turn = record { place = place; turn = turn }

unfoldable pub turn_of_words : List ℕ → List (List ℕ) → Option TurnLine
turn_of_words letter words = do
  place ← place_in_front words
  rest ← word_in_front (codes ":") place.1
  turn ← turn_lettered letter rest
  Some (turn_with place.0 turn)

-- Turns stand in form 2 alone.
abbrev pub has_turns : Form → Bool
has_turns Lines = false
has_turns Turns = true

abbrev pub is_turn_letter : List ℕ → Bool
is_turn_letter letter =
    bytes_eq letter (codes "-") || bytes_eq letter (codes "+") || bytes_eq letter (codes "~")

-- The line or the turn that words after a letter stand for.
abbrev pub entry_lettered : Form → List ℕ → List (List ℕ) → Option Entry
entry_lettered form letter ws =
    cond (has_turns form && is_turn_letter letter) (option_map (λ turn. Entry.Turn turn) (turn_of_words letter ws))
    (option_map (λ line. Entry.Line line) (lettered letter ws))

-- A number after this word.
unfoldable pub field_in_front : List ℕ → List (List ℕ) → Option (ℕ × List (List ℕ))
field_in_front word words = do
  rest ← word_in_front word words
  number_in_front rest

-- The numbers of the second line.
unfoldable pub head_of_words : List (List ℕ) → Option Head
head_of_words words = do
  rounds ← field_in_front (codes "rounds") words
  conflicts ← field_in_front (codes "conflicts") rounds.1
  moments ← field_in_front (codes "moments") conflicts.1
  nets ← field_in_front (codes "nets") moments.1
  whole nets.1 (record { rounds = rounds.0; conflicts = conflicts.0; moments = moments.0; nets = nets.0 })

-- Words are those of the last line, after so many lines.
abbrev pub is_number : ℕ → Option ℕ → Bool
is_number count None = false
is_number count (Some n) = n == count

abbrev pub is_count : ℕ → List (List ℕ) → Bool
is_count count [] = false
is_count count (w ∷ []) = is_number count (numeral_within 18446744073709551615 w)
is_count count (w ∷ v ∷ ws) = false

-- What words are after so many lines: one line or turn more, or the last line of the text.
abbrev pub item_of : Form → ℕ → List (List ℕ) → Option (Option Entry)
item_of form count [] = None
item_of form count (w ∷ ws) =
    cond (bytes_eq w (codes "end")) (cond (is_count count ws) (Some None) None)
    (option_map (λ entry. Some entry) (entry_lettered form w ws))

abbrev pub cert_with : Form → Head → List Entry → Cert
cert_with form head entries = record { form = form; head = head; entries = entries }

-- What the lines so far are: none, the title, the numbers and some lines between, or all.
pub data State : Type 0 where
  start : State
  titled : Form → State
  within : Form → Head → List Entry → State
  all : Cert → State

abbrev pub item_state : Form → Head → List Entry → Option (Option Entry) → Option State
item_state form head entries None = None
item_state form head entries (Some None) = Some (all (cert_with form head entries))
item_state form head entries (Some (Some entry)) = Some (within form head (entries ++ entry ∷ []))

abbrev pub head_state : Form → Option Head → Option State
head_state form None = None
head_state form (Some head) = Some (within form head [])

-- The form that a first line says.
abbrev pub form_of_title : List ℕ → Option Form
form_of_title line =
    cond (bytes_eq line (title Lines)) (Some Lines) (cond (bytes_eq line (title Turns)) (Some Turns) None)

abbrev pub step : State → List ℕ → Option State
step start line = option_map (λ form. titled form) (form_of_title line)
step (titled form) line = head_state form (head_of_words (words_in line))
step (within form head entries) line = item_state form head entries (item_of form (length entries) (words_in line))
step (all cert) line = None

-- The last piece of a text has no newline after it: where all lines were read it is nothing.
abbrev pub finish : State → ℕ → List ℕ → Result Cert ℕ
finish (all cert) number [] = Ok cert
finish state number piece = Err number

-- What lines come to after others, the first of them having this number: the certificate, or the first wrong line.
abbrev pub then_run : Option State → ℕ → (State → Result Cert ℕ) → Result Cert ℕ
then_run None number next = Err number
then_run (Some state) number next = next state

abbrev pub run : State → ℕ → List (List ℕ) → Result Cert ℕ
run state number [] = Err number
run state number (p ∷ []) = finish state number p
run state number (p ∷ q ∷ ps) = then_run (step state p) number (λ next. run next (number + 1) (q ∷ ps))
