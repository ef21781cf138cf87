-- The conditions whose turns stand behind lines have one text.
use Rattle.std.proofs.Common.{◌≡◌, ◌∙◌, Bool, true, false, List, [], ◌∷◌, ◌++◌, map, refl, sym, ap, ap₂, subst}
use Rattle.std.specs.Prelude.{ℕ, filter, if◌then◌else◌}
use Rattle.cert_check.proofs.OwnEntries.{own_front}
use Rattle.cert_check.specs.Entries.{AreConditionsFor, entries_of, turns_in_front}
use Rattle.cert_writer.specs.declared.cert.Entry.{Entry}
use Rattle.cert_writer.specs.declared.cert.Entry.TheVariants.{Line, Turn}
use Rattle.cert_writer.specs.declared.cert.Form.{Form}
use Rattle.cert_writer.specs.declared.cert.Form.TheVariants.{Lines, Turns}
use Rattle.cert_check.specs.View.{ConditionView, IsConditionOf, current_list}
use Rattle.design_circuit.specs.Fits.{place_at}
use Rattle.design_circuit.specs.Job.{number_of}
use Rattle.design_circuit.specs.declared.place.Place.{Place}
use Rattle.report_listing.specs.Conditions.{condition_line, conditions_text}
use Rattle.law_model.specs.declared.line.Line.{Line as ALine}
use Rattle.law_model.specs.declared.turn.Turn.{Turn as ATurn}
use Rattle.law_model.specs.declared.turn.TurnLine.{TurnLine}
use Rattle.cert_check.proofs.StatedTurns.{kept_within, stated_turns}
use Rattle.cert_check.specs.Conditions.{AreConditionsOf, gives_bit, settled_places}
use Rattle.cert_check.specs.TurnLines.{turn_lines, turns_in}
use Rattle.wave_proved.specs.Contents.{Contents, job}

-- ---- one condition

-- What is printed of two is the same.
record IsSameShown (v w : ConditionView) : Type 0 where
  place : v.place ≡ w.place
  boundary : v.boundary ≡ w.boundary
  listed : v.listed ≡ w.listed

line_same : (c : Contents) (v w : ConditionView) → IsSameShown v w → condition_line c v ≡ condition_line c w
line_same c v w same = λ t. condition_line c (record v { place = same.place t; boundary = same.boundary t; listed = same.listed t })

-- So it is of two conditions of a place that keep the same turns.
view_same : (c : Contents) (root : ℕ) (v w : ConditionView) → IsConditionOf c root v → IsConditionOf c root w → turn_lines v ≡ turn_lines w → IsSameShown v w
view_same c root v w first second same =
    let turns : v.turns ≡ w.turns =
    sym (stated_turns v.boundary v.turns (kept_within c root v first)) ∙ ap turns_in same ∙ stated_turns w.boundary w.turns (kept_within c root w second) in
    record {
      place = first.place ∙ sym second.place;
      boundary = first.boundary ∙ sym second.boundary;
      listed = first.listed ∙ ap (λ (ts : List ATurn). map (place_at (job c)) (current_list c root ts)) turns ∙ sym second.listed;
    }

-- ---- lines and turns

-- What stands behind the turns in front.
abbrev behind : List Entry → List Entry
behind [] = []
behind (Line line ∷ entries) = Line line ∷ entries
behind (Turn turn ∷ entries) = behind entries

all_behind : (lines : List ALine) (views : List ConditionView) → behind (entries_of lines views) ≡ entries_of lines views
all_behind [] views = refl
all_behind (line ∷ lines) [] = refl
all_behind (line ∷ lines) (view ∷ views) = refl

front_is : (turns : List TurnLine) (entries : List Entry) → turns_in_front entries ≡ [] → turns_in_front (map (λ turn. Turn turn) turns ++ entries) ≡ turns
front_is [] entries none = none
front_is (turn ∷ turns) entries none = ap (λ (ts : List TurnLine). turn ∷ ts) (front_is turns entries none)

behind_is : (turns : List TurnLine) (entries : List Entry) → behind entries ≡ entries → behind (map (λ turn. Turn turn) turns ++ entries) ≡ entries
behind_is [] entries all = all
behind_is (turn ∷ turns) entries all = behind_is turns entries all

-- What stands behind the first line, which gives a bit or doesn't.
abbrev entries_with : Bool → List ALine → List ConditionView → List Entry
entries_with gives lines [] = entries_of lines []
entries_with gives lines (view ∷ views) = if gives then map (λ turn. Turn turn) (turn_lines view) ++ entries_of lines views else entries_of lines (view ∷ views)

entries_same : (line : ALine) (lines : List ALine) (views : List ConditionView) → entries_of (line ∷ lines) views ≡ Line line ∷ entries_with (gives_bit line.body) lines views
entries_same line lines [] = refl
entries_same line lines (view ∷ views) = refl

tail_same : (a b : Entry) (xs ys : List Entry) → a ∷ xs ≡ b ∷ ys → xs ≡ ys
tail_same a b xs ys same = cc

-- ---- all of them

-- The lines that give a bit, of a line that does or doesn't and of others.
abbrev places_with : Bool → ALine → List ALine → List Place
places_with true line lines = line.place ∷ settled_places lines
places_with false line lines = settled_places lines

places_same : (line : ALine) (lines : List ALine) (gives : Bool) → map (λ (l : ALine). l.place) (if gives then line ∷ filter (λ (l : ALine). gives_bit l.body) lines else filter (λ (l : ALine). gives_bit l.body) lines) ≡ places_with gives line lines
places_same line lines true = refl
places_same line lines false = refl

-- Conditions of the same lines with the same turns have one text.
abbrev AreOne : Contents → List ALine → Type 0
AreOne c lines = (vs ws : List ConditionView) → AreConditionsOf c (settled_places lines) vs → AreConditionsOf c (settled_places lines) ws
    → entries_of lines vs ≡ entries_of lines ws → conditions_text c vs ≡ conditions_text c ws

one_more : (c : Contents) (line : ALine) (lines : List ALine) → AreOne c lines → (gives : Bool) (vs ws : List ConditionView)
    → AreConditionsOf c (places_with gives line lines) vs → AreConditionsOf c (places_with gives line lines) ws
    → entries_with gives lines vs ≡ entries_with gives lines ws → conditions_text c vs ≡ conditions_text c ws
one_more c line lines one true [] ws first second same = absurd first
one_more c line lines one true (v ∷ vs) [] first second same = absurd second
one_more c line lines one true (v ∷ vs) (w ∷ ws) first second same =
    let turns : turn_lines v ≡ turn_lines w =
    sym (front_is (turn_lines v) (entries_of lines vs) (own_front lines vs)) ∙ ap turns_in_front same ∙ front_is (turn_lines w) (entries_of lines ws) (own_front lines ws) in
    let more : entries_of lines vs ≡ entries_of lines ws =
    sym (behind_is (turn_lines v) (entries_of lines vs) (all_behind lines vs)) ∙ ap behind same ∙ behind_is (turn_lines w) (entries_of lines ws) (all_behind lines ws) in
    ap₂ (λ (a b : List ℕ). a ++ b) (line_same c v w (view_same c (number_of (job c) line.place) v w first.0.is second.0.is turns)) (one vs ws first.1 second.1 more)
one_more c line lines one false [] [] first second same = refl
one_more c line lines one false [] (w ∷ ws) first second same = one [] (w ∷ ws) first second same
one_more c line lines one false (v ∷ vs) [] first second same = one (v ∷ vs) [] first second same
one_more c line lines one false (v ∷ vs) (w ∷ ws) first second same = one (v ∷ vs) (w ∷ ws) first second same

all_one : (c : Contents) (lines : List ALine) → AreOne c lines
all_one c [] [] [] first second same = refl
all_one c [] [] (w ∷ ws) first second same = absurd second
all_one c [] (v ∷ vs) ws first second same = absurd first
all_one c (line ∷ lines) vs ws first second same =
    let is = places_same line lines (gives_bit line.body) in
    one_more c line lines (all_one c lines) (gives_bit line.body) vs ws (moved vs is first) (moved ws is second)
    (tail_same (Line line) (Line line) (entries_with (gives_bit line.body) lines vs) (entries_with (gives_bit line.body) lines ws)
    (sym (entries_same line lines vs) ∙ same ∙ entries_same line lines ws))
  where
    moved : (views : List ConditionView) → {places others : List Place} → places ≡ others → AreConditionsOf c places views → AreConditionsOf c others views
    moved views is are = subst (λ (ps : List Place). AreConditionsOf c ps views) is are

-- So it is of those that a certificate of either form states of a wave.
pub listed_once : (form : Form) (c : Contents) (vs ws : List ConditionView) → AreConditionsFor form c vs → AreConditionsFor form c ws
    → entries_of c.lines vs ≡ entries_of c.lines ws → conditions_text c vs ≡ conditions_text c ws
listed_once Lines c vs ws first second same = ap (conditions_text c) (first ∙ sym second)
listed_once Turns c vs ws first second same = all_one c c.lines vs ws first second same
