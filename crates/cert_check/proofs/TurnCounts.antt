-- How many lines stand behind each line of a Line place, and that this rests on the places up to its own.
use Rattle.std.proofs.Common.{◌≡◌, ℕ, suc, ◌+◌, ◌<◌, ◌≤◌, Bool, true, false, List, [], ◌∷◌, ◌++◌, append_assoc, length, length-append, map, take, refl, sym, subst, ap, ◌∙◌, arith}
use Rattle.std.specs.List.{AllByRecursion}
use Rattle.std.proofs.lemmas.List.{length-map, map-append, take-map, take-take}
use Rattle.std.proofs.Math.Seq.{take-append_seam}
use Rattle.design_cell.specs.declared.value.Value.{Value}
use Rattle.design_circuit.proofs.Rules.{AgreeBelow}
use Rattle.design_circuit.specs.declared.waveform.Written.{Written}
use Rattle.design_circuit.specs.Fits.{Fits, place_at}
use Rattle.design_circuit.specs.Job.{Job, number_of, places_of}
use Rattle.design_circuit.specs.Waveform.{certain}
use Rattle.design_circuit.specs.World.{decided}
use Rattle.cert_turns.specs.OfCone.{certain_boundary}
use Rattle.cert_turns.proofs.TurnsBefore.{certain_boundary_same, turns_of_moved}
use Rattle.cert_turns.specs.Turns.{AreTurns, AreTurnsOf, first_due, first_kept, kept_with}
use Rattle.law_model.specs.declared.line.Line.{Line as ALine}
use Rattle.law_model.specs.declared.turn.Turn.{Turn as ATurn}
use Rattle.law_model.specs.declared.turn.TurnLine.{TurnLine}
use Rattle.cert_turns.specs.Conditions.{gives_bit}
use Rattle.cert_turns.specs.TurnLines.{AreTurnLines, places_of_turns, turn_places, turns_in}
use Rattle.wave_proved.specs.Contents.{Contents, job}
use Rattle.cert_writer.specs.declared.cert.Entry.{Entry}
use Rattle.cert_writer.specs.declared.cert.Entry.TheVariants.{Line, Turn}
use Rattle.cert_writer.specs.declared.cert.Form.{Form}
use Rattle.cert_writer.specs.declared.cert.Form.TheVariants.{Lines, Turns}
use Rattle.cert_check.specs.Entries.{EachHasTurns, HasTurns, HasTurnsBy, lines_in, turns_in_front}
use Rattle.cert_check.specs.Walk.{LacksTurn}
use Rattle.cert_check.proofs.OwnEntries.{front_behind, turned_lines}

-- Lists that begin alike: the longer one goes on behind the shorter.
pub record GoesOnBy {X : Type 0} (front longer rest after : List X) : Type 0 where
  pub extra : List X
  pub longer_is : longer ≡ front ++ extra
  pub rest_is : rest ≡ extra ++ after

pub same_head : {X : Type 0} (x y : X) (xs ys : List X) → x ∷ xs ≡ y ∷ ys → x ≡ y
same_head x y xs ys is = cc

pub same_tail : {X : Type 0} (x y : X) (xs ys : List X) → x ∷ xs ≡ y ∷ ys → xs ≡ ys
same_tail x y xs ys is = cc

pub goes_on_by : {X : Type 0} (front longer rest after : List X) → front ++ rest ≡ longer ++ after
    → length front ≤ length longer
    → GoesOnBy front longer rest after
goes_on_by [] longer rest after is less = record { extra = longer; longer_is = refl; rest_is = is }
goes_on_by (x ∷ front) [] rest after is less = absurd (omega (arith, less))
goes_on_by (x ∷ front) (y ∷ longer) rest after is less =
    let on = goes_on_by front longer rest after (same_tail x y (front ++ rest) (longer ++ after) is) (omega
    (arith, less)) in
    record {
      extra = on.extra;
      longer_is = ap (λ z. z ∷ longer) (sym (same_head x y (front ++ rest) (longer ++ after) is))
          ∙ ap (λ zs. x ∷ zs) on.longer_is;
      rest_is = on.rest_is;
    }

-- The lines of a text's lines.
pub lines_append : (xs ys : List Entry) → lines_in (xs ++ ys) ≡ lines_in xs ++ lines_in ys
lines_append [] ys = refl
lines_append (Line l ∷ xs) ys = ap (λ ls. l ∷ ls) (lines_append xs ys)
lines_append (Turn t ∷ xs) ys = lines_append xs ys

pub each_behind_all : (form : Form) (j : Job) (limit : ℕ) (w : List Written) (xs ys : List Entry)
    → EachHasTurns form j limit w (xs ++ ys) → EachHasTurns form j limit w ys
each_behind_all form j limit w [] ys each = each
each_behind_all form j limit w (Line l ∷ xs) ys each = each_behind_all form j limit w xs ys each.1
each_behind_all form j limit w (Turn t ∷ xs) ys each = each_behind_all form j limit w xs ys each

-- With no turn in front, they begin with a line, if there is one.
pub record BeginsWith (entries : List Entry) (line : ALine) (lines : List ALine) : Type 0 where
  pub others : List Entry
  pub is : entries ≡ Line line ∷ others
  pub lines_are : lines_in others ≡ lines

pub begins_with : (entries : List Entry) (line : ALine) (lines : List ALine) → turns_in_front entries ≡ []
    → lines_in entries ≡ line ∷ lines → BeginsWith entries line lines
begins_with [] line lines none is = absurd cc
begins_with (Line l ∷ entries) line lines none is = record {
  others = entries;
  is = ap (λ x. Line x ∷ entries) (same_head l line (lines_in entries) lines is);
  lines_are = same_tail l line (lines_in entries) lines is;
}
begins_with (Turn t ∷ entries) line lines none is = absurd cc

pub no_entries : (entries : List Entry) → turns_in_front entries ≡ [] → lines_in entries ≡ [] → entries ≡ []
no_entries [] none empty = refl
no_entries (Line l ∷ entries) none empty = absurd cc
no_entries (Turn t ∷ entries) none empty = absurd cc

-- How many turns a line has, and how many lines of the text stand for some lines.
abbrev pub count_by : Bool → Job → List Written → ℕ → ℕ
count_by true j w root = length (turn_places j w root)
count_by false j w root = 0

abbrev pub count_of : Form → Job → List Written → ALine → ℕ
count_of Lines j w line = 0
count_of Turns j w line = count_by (gives_bit line.body) j w (number_of j line.place)

abbrev pub span_of : Form → Job → List Written → List ALine → ℕ
span_of form j w [] = 0
span_of form j w (line ∷ lines) = suc (count_of form j w line + span_of form j w lines)

has_by : (gives : Bool) (j : Job) (limit : ℕ) (w : List Written) (root : ℕ) (turns : List TurnLine)
    → HasTurnsBy gives j limit w root turns → length turns ≡ count_by gives j w root
has_by true j limit w root turns has = has.all
has_by false j limit w root turns has = ap length has

has_count : (form : Form) (j : Job) (limit : ℕ) (w : List Written) (line : ALine) (turns : List TurnLine)
    → HasTurns form j limit w line turns → length turns ≡ count_of form j w line
has_count Lines j limit w line turns has = ap length has
has_count Turns j limit w line turns has = has_by (gives_bit line.body) j limit w (number_of j line.place) turns has

pub each_long : (form : Form) (j : Job) (limit : ℕ) (w : List Written) (entries : List Entry)
    → EachHasTurns form j limit w entries
    → length entries ≡ length (turns_in_front entries) + span_of form j w (lines_in entries)
each_long form j limit w [] each = omega arith
each_long form j limit w (Line l ∷ entries) each =
    let count = has_count form j limit w l (turns_in_front entries) each.0 in
    let long = each_long form j limit w entries each.1 in
    omega (arith, count, long)
each_long form j limit w (Turn t ∷ entries) each =
    let long = each_long form j limit w entries each in omega (arith, long)

pub span_append : (form : Form) (j : Job) (w : List Written) (xs ys : List ALine)
    → span_of form j w (xs ++ ys) ≡ span_of form j w xs + span_of form j w ys
span_append form j w [] ys = omega arith
span_append form j w (l ∷ xs) ys =
    let before = span_append form j w xs ys in omega (arith, before)

-- It rests on the certain values up to the place alone.
abbrev pub AreBelow : Job → ℕ → List ALine → Type 0
AreBelow j n lines = AllByRecursion (λ (line : ALine). number_of j line.place < n) lines

module _ (j : Job) (fits : Fits j) (v w : List Written) (n : ℕ) (within : n ≤ places_of j)
    (agree : AgreeBelow (certain v) (certain w) n) where
  pub boundary_there : (root : ℕ) → root < n → certain_boundary j (certain v) root ≡ certain_boundary j (certain w) root
  boundary_there root low =
      certain_boundary_same j fits (certain v) (certain w) root (omega (arith, within, low)) (λ k less. agree k (omega
      (arith, less, low)))

  pub places_there : (root : ℕ) → root < n → turn_places j v root ≡ turn_places j w root
  places_there root low = ap first_due (boundary_there root low)

  count_there : (gives : Bool) (root : ℕ) → root < n → count_by gives j v root ≡ count_by gives j w root
  count_there true root low = ap length (places_there root low)
  count_there false root low = refl

  counts_there : (form : Form) (line : ALine) → number_of j line.place < n
      → count_of form j v line ≡ count_of form j w line
  counts_there Lines line low = refl
  counts_there Turns line low = count_there (gives_bit line.body) (number_of j line.place) low

  pub span_there : (form : Form) (lines : List ALine) → AreBelow j n lines
      → span_of form j v lines ≡ span_of form j w lines
  span_there form [] low = refl
  span_there form (line ∷ lines) low =
      let here = counts_there form line low.0 in
      let others = span_there form lines low.1 in
      omega (arith, here, others)

  pub turn_lines_there : (limit root : ℕ) (lines : List TurnLine) → root < n → AreTurnLines j limit v root lines
      → AreTurnLines j limit w root lines
  turn_lines_there limit root lines low are = record {
    places = are.places ∙ ap (λ ps. map (place_at j) (take (length lines) ps)) (places_there root low);
    hold = subst (λ x. AreTurnsOf j (certain w) root (decided x false) limit (turns_in lines)) (agree root low)
        (turns_of_moved j fits (certain v) (certain w) root (omega (arith, within, low)) (λ k less. agree k (omega
        (arith, less, low)))
        (decided (certain v root) false) limit (turns_in lines) are.hold);
  }

-- The first of some turns.
first_turns : (j : Job) (known : ℕ → Value) (root : ℕ) (value : Bool) (limit : ℕ) (kept due : List ℕ)
    (xs ys : List ATurn)
    → AreTurns j known root value limit kept due (xs ++ ys) → AreTurns j known root value limit kept due xs
first_turns j known root value limit kept due [] ys are = tt
first_turns j known root value limit kept [] (x ∷ xs) ys are = are
first_turns j known root value limit kept (place ∷ due) (x ∷ xs) ys are =
    (are.0, first_turns j known root value limit (kept_with kept place x) due xs ys are.1)

pub first_turn_lines : (j : Job) (limit : ℕ) (w : List Written) (root : ℕ) (xs ys : List TurnLine)
    → AreTurnLines j limit w root (xs ++ ys) → AreTurnLines j limit w root xs
first_turn_lines j limit w root xs ys are =
    let b : List ℕ = certain_boundary j (certain w) root in
    let ps : List ℕ = turn_places j w root in
    let long = length-append xs ys in
    let long_xs : length (places_of_turns xs) ≡ length xs = length-map xs (λ (line : TurnLine). line.place) in
    record {
      places =
          sym (take-append_seam (places_of_turns xs) (places_of_turns ys))
          ∙ (ap (take (length (places_of_turns xs))) (sym (map-append (λ (line : TurnLine). line.place) xs ys)
          ∙ are.places)
          ∙ (ap (λ m. take m (map (place_at j) (take (length (xs ++ ys)) ps))) long_xs
          ∙ (take-map (place_at j) (length xs) (take (length (xs ++ ys)) ps)
          ∙ ap (map (place_at j)) (take-take (length xs) (length (xs ++ ys)) ps (omega (arith, long))))));
      hold = first_turns j (certain w) root (decided (certain w root) false) limit (first_kept b) (first_due b)
          (turns_in xs) (turns_in ys)
          (subst (AreTurns j (certain w) root (decided (certain w root) false) limit (first_kept b) (first_due b))
          (map-append (λ (line : TurnLine). line.turn) xs ys) are.hold);
    }

-- The turns in front, and what is behind them.
pub record Parted (entries : List Entry) : Type 0 where
  pub behind : List Entry
  pub is : entries ≡ turned_lines (turns_in_front entries) ++ behind

pub parted : (entries : List Entry) → Parted entries
parted [] = record { behind = []; is = refl }
parted (Line l ∷ entries) = record { behind = Line l ∷ entries; is = refl }
parted (Turn t ∷ entries) =
    let p = parted entries in record { behind = p.behind; is = ap (λ es. Turn t ∷ es) p.is }

front_one : (entries : List Entry) (t : TurnLine) (ts : List TurnLine) → turns_in_front entries ≡ t ∷ ts
    → (others : List Entry) × (entries ≡ Turn t ∷ others)
front_one [] t ts is = absurd cc
front_one (Line l ∷ entries) t ts is = absurd cc
front_one (Turn u ∷ entries) t ts is = (
  entries,
  ap (λ x. Turn x ∷ entries) (same_head u t
      (turns_in_front entries) ts is),
)

some_turn : (ts : List TurnLine) → 0 < length ts → (t : TurnLine) × (us : List TurnLine) × (ts ≡ t ∷ us)
some_turn [] less = absurd (omega (arith, less))
some_turn (t ∷ us) less = (t, us, refl)

pub turned_front : (ts : List TurnLine) → turns_in_front (turned_lines ts) ≡ ts
turned_front [] = refl
turned_front (t ∷ ts) = ap (λ us. t ∷ us) (turned_front ts)

pub turned_long : (ts : List TurnLine) → length (turned_lines ts) ≡ length ts
turned_long [] = refl
turned_long (t ∷ ts) = ap suc (turned_long ts)

-- Turns that go on behind those that lack one state the one that is lacked.
pub none_lacks : (after : Contents) (v : List Written) (root : ℕ) (stated : List TurnLine)
    (rest entries behind : List Entry)
    → Fits (job after) → root < places_of (job after) → AgreeBelow (certain v) (certain after.written) (root + 1)
    → LacksTurn after root stated rest → AreTurnLines (job after) after.limits.conflicts v root (turns_in_front entries)
    → length stated < length (turns_in_front entries) → turned_lines stated ++ rest ≡ entries ++ behind → ⊥
none_lacks after v root stated rest entries behind fits within agree lacks are less is =
    lacks.stops some.0 (one.0 ++ (p.behind ++ behind))
    (on.rest_is ∙ ap (λ es. es ++ (p.behind ++ behind)) one.1)
    (turn_lines_there (job after) fits v after.written (root + 1) (omega (arith, within)) agree after.limits.conflicts root
    (stated ++ some.0 ∷ [])
    (omega arith)
    (first_turn_lines (job after) after.limits.conflicts v root (stated ++ some.0 ∷ []) some.1
    (subst (AreTurnLines (job after) after.limits.conflicts v root)
    (front ∙ (ap (λ ts. stated ++ ts) some.2 ∙ sym (append_assoc stated (some.0 ∷ []) some.1))) are)))
  where
    p : Parted entries
    p = parted entries

    on : GoesOnBy (turned_lines stated) (turned_lines (turns_in_front entries)) rest (p.behind ++ behind)
    on =
        let a = turned_long stated in
        let b = turned_long (turns_in_front entries) in
        goes_on_by (turned_lines stated) (turned_lines (turns_in_front entries)) rest (p.behind ++ behind)
        (is ∙ (ap (λ es. es ++ behind) p.is ∙ append_assoc (turned_lines (turns_in_front entries)) p.behind behind))
        (omega (arith, less, a, b))

    front : turns_in_front entries ≡ stated ++ turns_in_front on.extra
    front = sym (turned_front (turns_in_front entries)) ∙ (ap turns_in_front on.longer_is
        ∙ front_behind stated on.extra)

    some : (t : TurnLine) × (us : List TurnLine) × (turns_in_front on.extra ≡ t ∷ us)
    some =
        let long = ap length front ∙ length-append stated (turns_in_front on.extra) in
        some_turn (turns_in_front on.extra) (omega (arith, less, long))

    one : (others : List Entry) × (on.extra ≡ Turn some.0 ∷ others)
    one = front_one on.extra some.0 some.1 some.2
