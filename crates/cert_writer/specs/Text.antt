-- What a certificate is written as: lines of words, a space between two words and a newline after each line.
use Rattle.std.specs.Prelude.{ℕ, ℤ, List, [], ◌∷◌, ◌++◌, Bool, true, false, codes, decimal, length, map}
use Rattle.std.specs.Fmt.{signed_decimal}
use Rattle.std.specs.List.{flat_map}
use Rattle.design_circuit.specs.declared.place.Place.{Place}
use Rattle.law_model.specs.declared.line.Body.{Body}
use Rattle.law_model.specs.declared.line.Body.TheVariants.{Enumerated, Refuted, Pair, Undecided}
use Rattle.law_model.specs.declared.line.Line.{Line}
use Rattle.law_model.specs.declared.turn.Turn.{Turn}
use Rattle.law_model.specs.declared.turn.Turn.TheVariants.{Dropped, Needed, Tried}
use Rattle.law_model.specs.declared.turn.TurnLine.{TurnLine}
use Rattle.cert_writer.specs.declared.cert.Cert.{Cert}
use Rattle.cert_writer.specs.declared.cert.Entry.{Entry}
use Rattle.cert_writer.specs.declared.cert.Form.{Form}
use Rattle.cert_writer.specs.declared.cert.Form.TheVariants.{Lines, Turns}
use Rattle.cert_writer.specs.declared.cert.Head.{Head}
use Rattle.cert_writer.specs.Pieces.{line_of_words}

-- A place is its step and its net.
abbrev pub place_words : Place → List (List ℕ)
place_words place = decimal place.step ∷ decimal place.net ∷ []

abbrev pub bit_word : Bool → List ℕ
bit_word false = codes "0"
bit_word true = codes "1"

-- A filling is its places, and nothing where it is empty.
abbrev pub filling_words : List Place → List (List ℕ)
filling_words filling = flat_map place_words filling

-- A clause is its literals and 0, a log its clauses.
abbrev pub clause_words : List ℤ → List (List ℕ)
clause_words clause = map signed_decimal clause ++ codes "0" ∷ []

abbrev pub log_words : List (List ℤ) → List (List ℕ)
log_words log = flat_map clause_words log

-- A line is a letter, its place, and what its body says.
abbrev pub body_letter : Body → List ℕ
body_letter (Enumerated bit) = codes "e"
body_letter (Refuted bit log) = codes "r"
body_letter (Pair zero one) = codes "u"
body_letter (Undecided log) = codes "?"

abbrev pub body_words : Body → List (List ℕ)
body_words (Enumerated bit) = bit_word bit ∷ []
body_words (Refuted bit log) = bit_word bit ∷ codes ":" ∷ log_words log
body_words (Pair zero one) = codes ":" ∷ filling_words zero ++ codes ";" ∷ filling_words one
body_words (Undecided log) = codes ":" ∷ log_words log

abbrev pub line_words : Line → List (List ℕ)
line_words line = body_letter line.body ∷ place_words line.place ++ body_words line.body

abbrev pub line_text : Line → List ℕ
line_text line = line_of_words (line_words line)

-- A turn is a letter, its place, and the log or the model. A model is a word of one digit for each variable.
abbrev pub digit : Bool → ℕ
digit false = 48
digit true = 49

abbrev pub model_word : List Bool → List ℕ
model_word model = map digit model

abbrev pub turn_letter : Turn → List ℕ
turn_letter (Dropped log) = codes "-"
turn_letter (Needed model) = codes "+"
turn_letter (Tried log) = codes "~"

abbrev pub turn_body_words : Turn → List (List ℕ)
turn_body_words (Dropped log) = log_words log
turn_body_words (Needed model) = model_word model ∷ []
turn_body_words (Tried log) = log_words log

abbrev pub turn_words : TurnLine → List (List ℕ)
turn_words line = turn_letter line.turn ∷ place_words line.place ++ codes ":" ∷ turn_body_words line.turn

abbrev pub turn_text : TurnLine → List ℕ
turn_text line = line_of_words (turn_words line)

abbrev pub entry_words : Entry → List (List ℕ)
entry_words (Entry.Line line) = line_words line
entry_words (Entry.Turn line) = turn_words line

abbrev pub entry_text : Entry → List ℕ
entry_text entry = line_of_words (entry_words entry)

abbrev pub title : Form → List ℕ
title Lines = codes "xrepair certificate 1"
title Turns = codes "xrepair certificate 2"

-- The numbers of the second line, each after its word.
abbrev pub head_words : Head → List (List ℕ)
head_words head = codes "rounds" ∷ decimal head.rounds ∷ codes "conflicts" ∷ decimal head.conflicts
    ∷ codes "moments" ∷ decimal head.moments ∷ codes "nets" ∷ decimal head.nets ∷ []

-- The last line has the number of those between.
abbrev pub end_words : ℕ → List (List ℕ)
end_words count = codes "end" ∷ decimal count ∷ []

-- The lines of a certificate.
abbrev pub cert_lines : Cert → List (List ℕ)
cert_lines cert = title cert.form ∷ line_of_words (head_words cert.head) ∷ map entry_text cert.entries
    ++ line_of_words (end_words (length cert.entries)) ∷ []

-- Its text: a newline after each line.
abbrev pub with_newline : List ℕ → List ℕ
with_newline line = line ++ 10 ∷ []

abbrev pub cert_text : Cert → List ℕ
cert_text cert = flat_map with_newline (cert_lines cert)

-- The text in front of the lines between, and that after so many of them.
abbrev pub beginning_text : Form → Head → List ℕ
beginning_text form head = with_newline (title form) ++ with_newline (line_of_words (head_words head))

abbrev pub end_text : ℕ → List ℕ
end_text count = with_newline (line_of_words (end_words count))
