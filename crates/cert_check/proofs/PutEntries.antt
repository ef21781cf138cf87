-- A line that is put with its turns, and what is left.
use Rattle.std.proofs.Common.{◌≡◌, ℕ, ◌+◌, ◌-◌, ◌<◌, ◌≤◌, if◌then◌else◌, List, [], ◌∷◌, ◌++◌, append_assoc, drop, get_or, length, length-append, map, take, take_all, true, refl, sym, subst, ap, ◌∙◌, arith}
use Rattle.std.specs.List.{flat_map}
use Rattle.std.proofs.lemmas.List.{length-map}
use Rattle.law_model.specs.declared.line.Line.{Line as ALine}
use Rattle.law_model.specs.declared.turn.TurnLine.{TurnLine}
use Rattle.cert_turns.specs.View.{ConditionView}
use Rattle.cert_turns.specs.Conditions.{gives_bit}
use Rattle.cert_turns.specs.TurnLines.{turn_lines}
use Rattle.cert_writer.specs.Text.{entry_text, line_text, turn_text, with_newline}
use Rattle.cert_writer.specs.declared.cert.Entry.{Entry}
use Rattle.cert_writer.specs.declared.cert.Entry.TheVariants.{Line, Turn}
use Rattle.cert_check.specs.Entries.{entries_of}
use Rattle.cert_check.proofs.OwnEntries.{turned_lines}

abbrev pub text_of : List Entry → List ℕ
text_of entries = flat_map with_newline (map entry_text entries)

abbrev pub turns_text : List TurnLine → List ℕ
turns_text turns = flat_map with_newline (map turn_text turns)

text_turned : (turns : List TurnLine) (entries : List Entry) → text_of (turned_lines turns ++ entries) ≡ turns_text
    turns ++ text_of entries
text_turned [] entries = refl
text_turned (t ∷ turns) entries =
    ap (λ x. with_newline (turn_text t) ++ x) (text_turned turns entries)
    ∙ sym (append_assoc (with_newline (turn_text t)) (turns_text turns) (text_of entries))

-- The text,
turns_put : (old mid new whole : List ℕ) (l : ALine) (v : ConditionView) (lines : List ALine)
    (views : List ConditionView)
    → gives_bit l.body ≡ true → mid ≡ old ++ with_newline (line_text l) → new ≡ mid ++ turns_text (turn_lines v)
    → old ++ text_of (entries_of (l ∷ lines) (v ∷ views)) ≡ whole → new ++ text_of (entries_of lines views) ≡ whole
turns_put old mid new whole l v lines views gives line turns is =
    let es : List Entry = entries_of lines views in
    let ts : List TurnLine = turn_lines v in
    ap (λ x. x ++ text_of es) (turns ∙ ap (λ x. x ++ turns_text ts) line)
    ∙ (append_assoc (old ++ with_newline (line_text l)) (turns_text ts) (text_of es)
    ∙ (append_assoc old (with_newline (line_text l)) (turns_text ts ++ text_of es)
    ∙ (ap (λ x. old ++ (with_newline (line_text l) ++ x)) (sym (text_turned ts es))
    ∙ (ap (λ b. old ++ text_of (Line l ∷ (if b then turned_lines ts ++ es else entries_of lines (v ∷ views))))
    (sym gives) ∙ is))))

-- and how many lines.
turns_counted : (count whole : ℕ) (l : ALine) (v : ConditionView) (lines : List ALine) (views : List ConditionView)
    → gives_bit l.body ≡ true → count + length (entries_of (l ∷ lines) (v ∷ views)) ≡ whole
    → count + 1 + length (turn_lines v) + length (entries_of lines views) ≡ whole
turns_counted count whole l v lines views gives is =
    let es : List Entry = entries_of lines views in
    let ts : List TurnLine = turn_lines v in
    let long = length-append (turned_lines ts) es in
    let same = length-map ts (λ turn. Turn turn) in
    let whole_is : count + length (Line l ∷ (turned_lines ts ++ es)) ≡ whole =
    ap (λ b. count + length (Line l ∷ (if b then turned_lines ts ++ es else entries_of lines (v ∷ views)))) (sym gives)
    ∙ is in
    omega (arith, long, same, whole_is)

-- A list of which the first is taken.
pub parts_of : {X : Type 0} (xs : List X) (x : X) → x ≡ get_or xs 0 x → 0 < length xs
    → xs ≡ x ∷ take (length xs - 1) (drop 1 xs)
parts_of [] x is some = absurd (omega (arith, some))
parts_of (y ∷ ys) x is some =
    ap (λ z. z ∷ ys) (sym is) ∙ ap (λ zs. x ∷ zs) (sym (take_all (length (y ∷ ys) - 1) ys (omega arith)))

pub line_put : (old new whole : List ℕ) (l : ALine) (v : ConditionView) (lines left : List ALine)
    (views unused : List ConditionView)
    (mid : List ℕ) → left ≡ l ∷ lines → unused ≡ v ∷ views → gives_bit l.body ≡ true
    → mid ≡ old ++ with_newline (line_text l)
    → new ≡ mid ++ turns_text (turn_lines v) → old ++ text_of (entries_of left unused) ≡ whole
    → new ++ text_of (entries_of lines views) ≡ whole
line_put old new whole l v lines left views unused mid left_is unused_is gives line turns is =
    turns_put old mid new whole l v lines views gives line turns
    (subst (λ ls. old ++ text_of (entries_of ls (v ∷ views)) ≡ whole) left_is
    (subst (λ vs. old ++ text_of (entries_of left vs) ≡ whole) unused_is is))

pub line_counted : (count turns whole : ℕ) (l : ALine) (v : ConditionView) (lines left : List ALine)
    (views unused : List ConditionView)
    → left ≡ l ∷ lines → unused ≡ v ∷ views → gives_bit l.body ≡ true → turns ≡ length (turn_lines v)
    → count + length (entries_of left unused) ≡ whole → count + 1 + turns + length (entries_of lines views) ≡ whole
line_counted count turns whole l v lines left views unused left_is unused_is gives turns_are is =
    subst (λ n. count + 1 + n + length (entries_of lines views) ≡ whole) (sym turns_are)
    (turns_counted count whole l v lines views gives
    (subst (λ ls. count + length (entries_of ls (v ∷ views)) ≡ whole) left_is
    (subst (λ vs. count + length (entries_of left vs) ≡ whole) unused_is is)))

-- No more lines than bytes.
pub line_few : (count turns : ℕ) (old mid new line : List ℕ) → count ≤ length old → mid ≡ old ++ with_newline line
    → length mid + turns ≤ length new → count + 1 + turns ≤ length new
line_few count turns old mid new line before is behind =
    let long = ap length is ∙ length-append old (with_newline line) in
    let one = length-append line (10 ∷ []) in
    omega (arith, before, behind, long, one)
