-- Turns that aren't the next one.
use Rattle.std.proofs.Common.{◌≡◌, ℕ, ◌+◌, ◌≤◌, Bool, true, false, Option, None, Some, ◌==◌, ◌&&◌, List, [], ◌∷◌, ◌++◌, drop, length, map, take, refl, sym, ap, ◌∙◌, arith, subst, get_or, length-append, Contains}
use Rattle.std.specs.Prelude.{ℤ, IfNone, IfSome}
use Rattle.std.proofs.lemmas.Bool.{eq-eqb, eqb-true}
use Rattle.std.specs.List.{All}
use Rattle.std.proofs.lemmas.List.{get_or-take, length-map, map-append}
use Rattle.std.proofs.lemmas.List.Elements.{All-contains, All-contains_itself, All-weaker}
use Rattle.std.proofs.Math.Seq.{get_or-append_seam}
use Rattle.design_cell.specs.declared.value.Value.{Value}
use Rattle.design_circuit.specs.declared.place.Place.{Place}
use Rattle.design_circuit.specs.Fits.{place_at}
use Rattle.design_circuit.specs.Job.{Job}
use Rattle.design_circuit.specs.Waveform.{certain}
use Rattle.sat_proof.specs.Assignment.{IsMet, IsModel, assigned}
use Rattle.sat_proof.specs.Log.{AreFresh, Fit, Refutes}
use Rattle.sat_proof.specs.declared.clause.Cnf.{Cnf}
use Rattle.cert_condition.specs.Boundary.{certain_boundary_in}
use Rattle.cert_condition.specs.Turns.{AreTurns, AreTurnsOf, IsTurn, due_after, first_due, first_kept, kept_after, kept_with}
use Rattle.cert_condition.specs.TurnQuery.{IsTurnQuery}
use Rattle.cert_condition.specs.View.{ConditionView, FindsNext, IsConditionOf, IsNextPlace, IsNextQuery, IsTurnIn, IsTurnQueryIn, IsTurned, next_in, settled_bit}
use Rattle.law_model.specs.declared.turn.Turn.{Turn}
use Rattle.law_model.specs.declared.turn.Turn.TheVariants.{Dropped, Needed, Tried}
use Rattle.law_model.specs.declared.turn.TurnLine.{TurnLine}
use Rattle.wave_proved.specs.Contents.{Contents, job}
use Rattle.cert_turns.specs.TurnLines.{AreTurnLinesIn, IsNeverNext, IsNoTurn, IsTaken, places_of_turns, stated, turn_lines, turn_places, turns_in}
use Rattle.cert_turns.proofs.SameQueries.{fresh_same, refutes_more}
use Rattle.sat_query.specs.Core.{AreAmong}
use Rattle.cert_turns.proofs.StatedTurns.{first_places, kept_within, stated_long, stated_more, stated_turns, turns_fit}

-- The last of some turns is about the list that those before it leave, without the next place.
last_turn : (j : Job) (known : ℕ → Value) (root : ℕ) (value : Bool) (limit : ℕ) (kept due : List ℕ)
    (turns : List Turn) (turn : Turn) → AreTurns j known root value limit kept due (turns ++ turn ∷ [])
    → IsTurn j known root value limit (kept_after kept due turns ++ drop 1 (due_after due turns)) turn
last_turn j known root value limit kept [] [] turn are = absurd are
last_turn j known root value limit kept (place ∷ due) [] turn are = are.0
last_turn j known root value limit kept [] (first ∷ turns) turn are = absurd are
last_turn j known root value limit kept (place ∷ due) (first ∷ turns) turn are =
    last_turn j known root value limit (kept_with kept place first) due turns turn are.1

-- Lines that state the turns of a condition and one more state the next turn.
more_turns : (c : Contents) (root : ℕ) (view : ConditionView) (line : TurnLine) → IsConditionOf c root view
    → turns_in (turn_lines view ++ line ∷ []) ≡ view.turns ++ line.turn ∷ []
more_turns c root view line is =
    map-append (λ (l : TurnLine). l.turn) (turn_lines view) (line ∷ [])
    ∙ ap (λ ts. ts ++ line.turn ∷ []) (stated_turns view.boundary view.turns (kept_within c root view is))

turn_said : (c : Contents) (root : ℕ) (view : ConditionView) (line : TurnLine) → IsConditionOf c root view
    → AreTurnLinesIn c root (turn_lines view ++ line ∷ []) → IsTurnIn c root (next_in c root view.turns) line.turn
turn_said c root view line is lines =
    last_turn (job c) (certain c.written) root (settled_bit c root) c.limits.conflicts (first_kept (certain_boundary_in c root))
    (first_due (certain_boundary_in c root)) view.turns line.turn
    (subst (AreTurnsOf (job c) (certain c.written) root (settled_bit c root) c.limits.conflicts) (more_turns c root view line is)
    lines.hold)

pub missed_turn : (view : ConditionView) (line : TurnLine) → IsNeverNext view line.turn → IsNoTurn view line
missed_turn view line never c root is lines = never c root is (turn_said c root view line is lines)

-- Its place is the next one.
place_said : (c : Contents) (root : ℕ) (view : ConditionView) (line : TurnLine) (d : Place) → IsConditionOf c root view
    → AreTurnLinesIn c root (turn_lines view ++ line ∷ []) → line.place ≡ get_or view.boundary (length view.turns) d
place_said c root view line d is lines =
    sym (get_or-append_seam before line.place [] d)
    ∙ ap (λ n. get_or (before ++ line.place ∷ []) n d) before_long
    ∙ ap (λ ps. get_or ps n d) (sym (map-append (λ (l : TurnLine). l.place) (turn_lines view) (line ∷ []))
    ∙ lines.places ∙ ap (λ m. map (place_at (job c)) (take m (turn_places (job c) c.written root))) long
    ∙ sym (first_places c root view (n + 1) is some))
    ∙ get_or-take (n + 1) view.boundary n d (omega arith)
  where
    n : ℕ
    n = length view.turns

    before : List Place
    before = places_of_turns (turn_lines view)

    lines_long : length (turn_lines view) ≡ n
    lines_long = stated_long view.boundary view.turns (kept_within c root view is)

    before_long : length before ≡ n
    before_long = length-map (turn_lines view) (λ (l : TurnLine). l.place) ∙ lines_long

    long : length (turn_lines view ++ line ∷ []) ≡ n + 1
    long = length-append (turn_lines view) (line ∷ []) ∙ ap (λ m. m + 1) lines_long

    some : n + 1 ≤ length (first_due (certain_boundary_in c root))
    some = let few = turns_fit (job c) (certain c.written) root (settled_bit c root) c.limits.conflicts
        (first_kept (certain_boundary_in c root)) (first_due (certain_boundary_in c root))
        (turns_in (turn_lines view ++ line ∷ [])) lines.hold in
        let same = length-map (turn_lines view ++ line ∷ []) (λ (l : TurnLine). l.turn) in
        omega (arith, few, same, long)

pub missed_place : (view : ConditionView) (line : TurnLine) (place : Place) → IsNextPlace view place
    → (place ≡ line.place → ⊥) → IsNoTurn view line
missed_place view line place next other c root is lines =
    other (sym next.stands ∙ sym (place_said c root view line place is lines))

-- A line of the next place whose turn is made is taken.
pub taken : (old new : ConditionView) (line : TurnLine) (place : Place) → IsNextPlace old place → place ≡ line.place
    → IsTurned old line.turn new → IsTaken old line new
taken old new line place next same turned = record {
  turned = turned;
  lines = ap (λ ps. stated ps new.turns) turned.boundary ∙ ap (stated old.boundary) turned.turns
      ∙ stated_more old.boundary old.turns line.turn place next.within
      ∙ ap (λ p. turn_lines old ++ record { place = p; turn = line.turn } ∷ []) (next.stands ∙ same);
}

pub no_truth : false ≡ true → ⊥
no_truth is = absurd cc

pub never_both : (b : Bool) → b ≡ true → b ≡ false → ⊥
never_both b holds fails = absurd cc

-- What is found, if anything is.
pub if_some : {X : Type 0} (found : Option X) (P Q : X → Type 0) → ((x : X) → P x → Q x) → IfSome found P
    → IfSome found Q
if_some None P Q each is = tt
if_some (Some x) P Q each is = each x is

pub if_none : {X : Type 0} (found : Option X) (P Q : Type 0) → (P → Q) → IfNone found P → IfNone found Q
if_none None P Q then is = then is
if_none (Some x) P Q then is = tt

-- Two places of one step and one net.
same_parts : (a b : Place) → a.step ≡ b.step → a.net ≡ b.net → a ≡ b
same_parts a b step net =
    ap (λ n. record { step = n; net = a.net }) step ∙ ap (λ n. record { step = b.step; net = n }) net

pub same_place : (a b : Place) (holds : Bool) → holds ≡ ((a.step == b.step) && (a.net == b.net)) → holds ≡ true → a ≡ b
same_place a b holds is true_is = at (a.step == b.step) (a.net == b.net) refl refl (sym is ∙ true_is)
  where
    at : (x y : Bool) → (a.step == b.step) ≡ x → (a.net == b.net) ≡ y → x && y ≡ true → a ≡ b
    at true true first second both = same_parts a b (eqb-true a.step b.step first) (eqb-true a.net b.net second)
    at true false first second both = cc
    at false y first second both = cc

pub other_place : (a b : Place) (holds : Bool) → holds ≡ ((a.step == b.step) && (a.net == b.net)) → holds ≡ false
    → a ≡ b → ⊥
other_place a b holds is fails same =
    never_both ((b.step == b.step) && (b.net == b.net)) (rw (eq-eqb b.step b.step refl, eq-eqb b.net b.net refl) refl)
    (sym (subst (λ p. holds ≡ ((p.step == b.step) && (p.net == b.net))) same is) ∙ fails)

-- Two turn queries of one list have the same clauses.
same_turns : (j : Job) (known : ℕ → Value) (root : ℕ) (value : Bool) (listed : List ℕ) (a b : Cnf)
    → IsTurnQuery j known root value listed a → IsTurnQuery j known root value listed b → AreAmong a.clauses b.clauses
same_turns j known root value listed a b first second clause here = second.all clause (first.each clause here)

met_within : (v : ℕ → Bool) (a b : List (List ℤ)) → AreAmong b a → All (IsMet v) a → All (IsMet v) b
met_within v a b within met =
    All-weaker (Contains b) (IsMet v) (λ clause here. All-contains (IsMet v) a clause met (within clause here)) b
    (All-contains_itself b)

-- What the next query refuses no turn says.
record AreAlike (a b : Cnf) : Type 0 where
  vars : a.vars ≡ b.vars
  there : AreAmong a.clauses b.clauses
  back : AreAmong b.clauses a.clauses

alike : (view : ConditionView) (query : Cnf) → IsNextQuery view query → (c : Contents) (root : ℕ)
    → IsConditionOf c root view → (other : Cnf) → IsTurnQueryIn c root (next_in c root view.turns) other
    → AreAlike other query
alike view query next c root is other of = record {
  vars = of.vars ∙ sym here.vars;
  there = same_turns (job c) (certain c.written) root (settled_bit c root) listed other query of here;
  back = same_turns (job c) (certain c.written) root (settled_bit c root) listed query other here of;
}
  where
    listed : List ℕ
    listed = next_in c root view.turns

    here : IsTurnQueryIn c root listed query
    here = next c root is

pub unfit_dropped : (view : ConditionView) (query : Cnf) (log : List (List ℤ)) → IsNextQuery view query
    → (Fit query.vars log → ⊥) → IsNeverNext view (Dropped log)
unfit_dropped view query log next unfit c root is says =
    let same = alike view query next c root is says.query says.is_query in
    unfit (subst (λ n. Fit n log) same.vars says.finds.0.fit)

pub unfit_tried : (view : ConditionView) (query : Cnf) (log : List (List ℤ)) → IsNextQuery view query
    → (Fit query.vars log → ⊥) → IsNeverNext view (Tried log)
unfit_tried view query log next unfit c root is says =
    let same = alike view query next c root is says.query says.is_query in
    unfit (subst (λ n. Fit n log) same.vars says.finds.0.fit)

pub never_dropped : (view : ConditionView) (query : Cnf) (log : List (List ℤ)) → IsNextQuery view query
    → (Refutes query.clauses log → ⊥) → IsNeverNext view (Dropped log)
never_dropped view query log next stands c root is says =
    let same = alike view query next c root is says.query says.is_query in
    stands (refutes_more says.query.clauses query.clauses log same.there says.finds.1)

pub never_tried : (view : ConditionView) (query : Cnf) (log : List (List ℤ)) → IsNextQuery view query
    → (AreFresh query.clauses log × (length log ≡ view.limit) → ⊥) → IsNeverNext view (Tried log)
never_tried view query log next stale c root is says =
    let same = alike view query next c root is says.query says.is_query in
    stale (
      fresh_same says.query.clauses query.clauses log same.there same.back says.finds.1,
      says.finds.2 ∙ sym is.limit,
    )

pub never_needed : (view : ConditionView) (query : Cnf) (model : List Bool) → IsNextQuery view query
    → (IsModel query.vars query.clauses model → ⊥) → IsNeverNext view (Needed model)
never_needed view query model next none c root is says =
    let same = alike view query next c root is says.query says.is_query in
    none (record {
      count = says.finds.count ∙ same.vars;
      met = met_within (assigned model) says.query.clauses query.clauses same.back says.finds.met;
    })

-- What is found of the next query.
pub found_dropped : (view : ConditionView) (query : Cnf) (log : List (List ℤ)) → IsNextQuery view query
    → Fit query.vars log → Refutes query.clauses log
    → FindsNext view (λ q. Fit q.vars log × Refutes q.clauses log)
found_dropped view query log next fit refutes c root is = (query, next c root is, (fit, refutes))

pub found_needed : (view : ConditionView) (query : Cnf) (model : List Bool) → IsNextQuery view query
    → IsModel query.vars query.clauses model → FindsNext view (λ q. IsModel q.vars q.clauses model)
found_needed view query model next holds c root is = (query, next c root is, holds)

pub found_tried : (view : ConditionView) (query : Cnf) (log : List (List ℤ)) → IsNextQuery view query
    → Fit query.vars log → AreFresh query.clauses log → length log ≡ view.limit
    → FindsNext view (λ q. Fit q.vars log × AreFresh q.clauses log × (length log ≡ view.limit))
found_tried view query log next fit fresh long c root is = (query, next c root is, (fit, fresh, long))
