-- Lines with the turns of conditions behind them.
use Rattle.std.proofs.Common.{◌≡◌, ℕ, Bool, true, false, List, [], ◌∷◌, ◌++◌, append-nil, append_assoc, filter, map, refl, sym, subst, ap, ◌∙◌, arith, if◌then◌else◌}
use Rattle.std.proofs.lemmas.List.{map-append}
use Rattle.std.proofs.lemmas.List.Elements.{filter-append}
use Rattle.design_circuit.specs.declared.place.Place.{Place}
use Rattle.design_circuit.specs.declared.waveform.Written.{Written}
use Rattle.design_circuit.specs.Job.{Job, number_of}
use Rattle.law_model.specs.declared.line.Line.{Line as ALine}
use Rattle.law_model.specs.declared.turn.TurnLine.{TurnLine}
use Rattle.wave_proved.specs.Contents.{Contents, job}
use Rattle.cert_turns.specs.View.{ConditionView}
use Rattle.cert_turns.specs.Conditions.{AreConditionsOf, IsFinishedAt, gives_bit, settled_places}
use Rattle.cert_turns.specs.TurnLines.{AreAllTurnLines, turn_lines}
use Rattle.cert_turns.proofs.StatedTurns.{states_turns}
use Rattle.cert_writer.specs.declared.cert.Entry.{Entry}
use Rattle.cert_writer.specs.declared.cert.Entry.TheVariants.{Line, Turn}
use Rattle.cert_writer.specs.declared.cert.Form.{Form}
use Rattle.cert_writer.specs.declared.cert.Form.TheVariants.{Lines, Turns}
use Rattle.cert_check.specs.Entries.{AreConditionsFor, AreTurnedIn, EachHasTurns, HasTurnsBy, entries_of, lines_in, turns_in_front}
use Rattle.cert_check.specs.Walk.{with_turns}

abbrev pub turned_lines : List TurnLine → List Entry
turned_lines turns = map (λ turn. Turn turn) turns

-- Turns in front of some lines.
pub lines_behind : (turns : List TurnLine) (entries : List Entry)
    → lines_in (turned_lines turns ++ entries) ≡ lines_in entries
lines_behind [] entries = refl
lines_behind (t ∷ turns) entries = lines_behind turns entries

pub front_behind : (turns : List TurnLine) (entries : List Entry)
    → turns_in_front (turned_lines turns ++ entries) ≡ turns ++ turns_in_front entries
front_behind [] entries = refl
front_behind (t ∷ turns) entries = ap (λ ts. t ∷ ts) (front_behind turns entries)

pub each_behind : (form : Form) (j : Job) (limit : ℕ) (w : List Written) (turns : List TurnLine) (entries : List Entry)
    → EachHasTurns form j limit w entries → EachHasTurns form j limit w (turned_lines turns ++ entries)
each_behind form j limit w [] entries each = each
each_behind form j limit w (t ∷ turns) entries each = each_behind form j limit w turns entries each

-- The lines are as before.
pub own_lines : (lines : List ALine) (views : List ConditionView) → lines_in (entries_of lines views) ≡ lines
own_lines [] views = refl
own_lines (l ∷ lines) [] = ap (λ ls. l ∷ ls) (own_lines lines [])
own_lines (l ∷ lines) (v ∷ views) = ap (λ ls. l ∷ ls)
    (elim (gives_bit l.body) as (λ b. lines_in (if b then turned_lines (turn_lines v) ++ entries_of lines views
    else entries_of lines (v ∷ views)) ≡ lines) [
      | true ↦ lines_behind (turn_lines v) (entries_of lines views) ∙ own_lines lines views
      | false ↦ own_lines lines (v ∷ views)
    ])

pub own_front : (lines : List ALine) (views : List ConditionView) → turns_in_front (entries_of lines views) ≡ []
own_front [] views = refl
own_front (l ∷ lines) [] = refl
own_front (l ∷ lines) (v ∷ views) = refl

-- Behind each stand its turns, where the conditions are those of the certain places.
all_stated : (c : Contents) (place : Place) (view : ConditionView) → IsFinishedAt c place view
    → AreAllTurnLines (job c) c.limits.conflicts c.written (number_of (job c) place) (turn_lines view)
all_stated c place view is =
    let states = states_turns c (number_of (job c) place) view is.is in
    let count = states.count in
    let none = is.none_due in
    record { are = states.are; all = omega (arith, count, none) }

abbrev EachIn : Contents → List Entry → Type 0
EachIn c entries = EachHasTurns Turns (job c) c.limits.conflicts c.written entries

abbrev HasIn : Contents → Bool → Place → List TurnLine → Type 0
HasIn c gives place turns = HasTurnsBy gives (job c) c.limits.conflicts c.written (number_of (job c) place) turns

abbrev pub settled_by : Bool → ALine → List ALine → List Place
settled_by gives l lines =
    map (λ (line : ALine). line.place) (if gives then l ∷ filter (λ (line : ALine). gives_bit line.body) lines
    else filter (λ (line : ALine). gives_bit line.body) lines)

pub own_each : (c : Contents) (lines : List ALine) (views : List ConditionView)
    → AreConditionsOf c (settled_places lines) views
    → EachIn c (entries_of lines views)
own_each c [] views are = tt
own_each c (l ∷ lines) [] are =
    (elim (gives_bit l.body) as (λ b. AreConditionsOf c (settled_by b l lines) []
    → HasIn c b l.place (turns_in_front (entries_of lines [])) × EachIn c (entries_of lines [])) [
      | true ↦ λ none. absurd none
      | false ↦ λ all. (own_front lines [], own_each c lines [] all)
    ]) are
own_each c (l ∷ lines) (v ∷ views) are =
    (elim (gives_bit l.body) as (λ b. AreConditionsOf c (settled_by b l lines) (v ∷ views)
    → HasIn c b l.place (turns_in_front (if b then turned_lines (turn_lines v) ++ entries_of lines views
    else entries_of lines (v ∷ views)))
    × EachIn c (if b then turned_lines (turn_lines v) ++ entries_of lines views else entries_of lines (v ∷ views))) [
      | true ↦ λ all. (
        subst (HasIn c true l.place)
            (sym (front_behind (turn_lines v) (entries_of lines views)
            ∙ (ap (λ ts. turn_lines v ++ ts) (own_front lines views) ∙ append-nil (turn_lines v))))
            (all_stated c l.place v all.0),
        each_behind Turns (job c) c.limits.conflicts c.written (turn_lines v) (entries_of lines views)
            (own_each c lines views all.1),
      )
      | false ↦ λ all. (own_front lines (v ∷ views), own_each c lines (v ∷ views) all)
    ]) are

plain_each : (j : Job) (limit : ℕ) (w : List Written) (lines : List ALine)
    → EachHasTurns Lines j limit w (entries_of lines [])
plain_each j limit w [] = tt
plain_each j limit w (l ∷ lines) = (own_front lines [], plain_each j limit w lines)

pub own_turned : (form : Form) (c : Contents) (views : List ConditionView) → AreConditionsFor form c views
    → AreTurnedIn form c (entries_of c.lines views)
own_turned Lines c views none = record {
  none_in_front = own_front c.lines views;
  each = subst (λ vs. EachHasTurns Lines (job c) c.limits.conflicts c.written (entries_of c.lines vs)) (sym none)
      (plain_each (job c) c.limits.conflicts c.written c.lines);
}
own_turned Turns c views are = record { none_in_front = own_front c.lines views; each = own_each c c.lines views are }

-- A line more, with the turns of one more condition,
pub more_turned : (c : Contents) (lines : List ALine) (views : List ConditionView) (l : ALine) (v : ConditionView)
    → AreConditionsOf c (settled_places lines) views → gives_bit l.body ≡ true
    → entries_of (lines ++ l ∷ []) (views ++ v ∷ []) ≡ entries_of lines views ++ with_turns l (turn_lines v)
more_turned c [] [] l v are gives = ap (λ es. Line l ∷ es)
    (ap (λ b. if b then turned_lines (turn_lines v) ++ [] else []) gives ∙ append-nil (turned_lines (turn_lines v)))
more_turned c [] (w ∷ views) l v are gives = absurd are
more_turned c (k ∷ lines) [] l v are gives = ap (λ es. Line k ∷ es)
    ((elim (gives_bit k.body) as (λ b. AreConditionsOf c (settled_by b k lines) []
    → (if b then turned_lines (turn_lines v) ++ entries_of (lines ++ l ∷ []) [] else entries_of (lines ++ l ∷ [])
    (v ∷ []))
    ≡ entries_of lines [] ++ with_turns l (turn_lines v)) [
      | true ↦ λ none. absurd none
      | false ↦ λ all. more_turned c lines [] l v all gives
    ]) are)
more_turned c (k ∷ lines) (w ∷ views) l v are gives = ap (λ es. Line k ∷ es)
    ((elim (gives_bit k.body) as (λ b. AreConditionsOf c (settled_by b k lines) (w ∷ views)
    → (if b then turned_lines (turn_lines w) ++ entries_of (lines ++ l ∷ []) (views ++ v ∷ [])
    else entries_of (lines ++ l ∷ []) (w ∷ (views ++ v ∷ [])))
    ≡ (if b then turned_lines (turn_lines w) ++ entries_of lines views else entries_of lines
    (w ∷ views)) ++ with_turns l (turn_lines v)) [
      | true ↦ λ all.
          ap (λ es. turned_lines (turn_lines w) ++ es) (more_turned c lines views l v all.1 gives)
          ∙ sym (append_assoc (turned_lines (turn_lines w)) (entries_of lines views) (with_turns l (turn_lines v)))
      | false ↦ λ all. more_turned c lines (w ∷ views) l v all gives
    ]) are)

-- or with none.
pub more_unturned : (c : Contents) (lines : List ALine) (views : List ConditionView) (l : ALine)
    → AreConditionsOf c (settled_places lines) views → gives_bit l.body ≡ false
    → entries_of (lines ++ l ∷ []) views ≡ entries_of lines views ++ Line l ∷ []
more_unturned c [] [] l are gives = refl
more_unturned c [] (w ∷ views) l are gives = absurd are
more_unturned c (k ∷ lines) [] l are gives = ap (λ es. Line k ∷ es) (more_plain lines l)
  where
    more_plain : (ls : List ALine) (m : ALine) → entries_of (ls ++ m ∷ []) [] ≡ entries_of ls [] ++ Line m ∷ []
    more_plain [] m = refl
    more_plain (n ∷ ls) m = ap (λ es. Line n ∷ es) (more_plain ls m)
more_unturned c (k ∷ lines) (w ∷ views) l are gives = ap (λ es. Line k ∷ es)
    ((elim (gives_bit k.body) as (λ b. AreConditionsOf c (settled_by b k lines) (w ∷ views)
    → (if b then turned_lines (turn_lines w) ++ entries_of (lines ++ l ∷ []) views else entries_of (lines ++ l ∷ [])
    (w ∷ views))
    ≡ (if b then turned_lines (turn_lines w) ++ entries_of lines views else entries_of lines
    (w ∷ views)) ++ Line l ∷ []) [
      | true ↦ λ all.
          ap (λ es. turned_lines (turn_lines w) ++ es) (more_unturned c lines views l all.1 gives)
          ∙ sym (append_assoc (turned_lines (turn_lines w)) (entries_of lines views) (Line l ∷ []))
      | false ↦ λ all. more_unturned c lines (w ∷ views) l all gives
    ]) are)

pub more_plain : (lines : List ALine) (l : ALine) → entries_of (lines ++ l ∷ []) [] ≡ entries_of lines [] ++ Line l ∷ []
more_plain [] l = refl
more_plain (k ∷ lines) l = ap (λ es. Line k ∷ es) (more_plain lines l)

-- The conditions of a line more.
settled_more : (lines : List ALine) (l : ALine) → settled_places (lines ++ l ∷ []) ≡ settled_places lines ++
    settled_places (l ∷ [])
settled_more lines l =
    ap (map (λ (line : ALine). line.place)) (filter-append (λ (line : ALine). gives_bit line.body) lines (l ∷ []))
    ∙ map-append (λ (line : ALine). line.place) (filter (λ (line : ALine). gives_bit line.body) lines)
    (filter (λ (line : ALine). gives_bit line.body) (l ∷ []))

conditions_append : (c : Contents) (places : List Place) (views : List ConditionView) (place : Place)
    (view : ConditionView)
    → AreConditionsOf c places views → IsFinishedAt c place view
    → AreConditionsOf c (places ++ place ∷ []) (views ++ view ∷ [])
conditions_append c [] [] place view are is = (is, tt)
conditions_append c [] (w ∷ views) place view are is = absurd are
conditions_append c (p ∷ places) [] place view are is = absurd are
conditions_append c (p ∷ places) (w ∷ views) place view are is =
    (are.0, conditions_append c places views place view are.1 is)

pub conditions_turned : (c : Contents) (lines : List ALine) (l : ALine) (views : List ConditionView)
    (view : ConditionView)
    → gives_bit l.body ≡ true → AreConditionsOf c (settled_places lines) views → IsFinishedAt c l.place view
    → AreConditionsOf c (settled_places (lines ++ l ∷ [])) (views ++ view ∷ [])
conditions_turned c lines l views view gives are is =
    subst (λ ps. AreConditionsOf c ps (views ++ view ∷ []))
    (sym (settled_more lines l ∙ ap (λ b. settled_places lines ++ settled_by b l []) gives))
    (conditions_append c (settled_places lines) views l.place view are is)

pub conditions_unturned : (c : Contents) (lines : List ALine) (l : ALine) (views : List ConditionView)
    → gives_bit l.body ≡ false → AreConditionsOf c (settled_places lines) views
    → AreConditionsOf c (settled_places (lines ++ l ∷ [])) views
conditions_unturned c lines l views gives are =
    subst (λ ps. AreConditionsOf c ps views)
    (sym (settled_more lines l ∙ (ap (λ b. settled_places lines ++ settled_by b l []) gives
    ∙ append-nil (settled_places lines)))) are
