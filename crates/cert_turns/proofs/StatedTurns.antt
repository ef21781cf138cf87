-- The turns that a condition keeps, stated with their places.
use Rattle.std.proofs.Common.{◌≡◌, ℕ, ◌<◌, ◌≤◌, Bool, true, false, List, [], ◌∷◌, ◌++◌, length, map, take, refl, sym, ap, ◌∙◌, arith, subst, get_or}
use Rattle.std.specs.Prelude.{if◌then◌else◌, nat_lt}
use Rattle.std.proofs.lemmas.List.{length-drop, length-map, take-map}
use Rattle.design_cell.specs.declared.value.Value.{Value}
use Rattle.design_circuit.specs.declared.place.Place.{Place}
use Rattle.design_circuit.specs.Fits.{place_at}
use Rattle.design_circuit.specs.Job.{Job}
use Rattle.design_circuit.specs.Waveform.{certain}
use Rattle.cert_condition.specs.Boundary.{certain_boundary_in}
use Rattle.cert_condition.specs.Turns.{AreTurns, AreTurnsOf, first_due, first_kept, kept_with}
use Rattle.cert_condition.specs.View.{ConditionView, IsConditionOf, settled_bit}
use Rattle.law_model.specs.declared.turn.Turn.{Turn}
use Rattle.law_model.specs.declared.turn.TurnLine.{TurnLine}
use Rattle.wave_proved.specs.Contents.{Contents, job}
use Rattle.cert_turns.specs.Laws.{StatedLaw}
use Rattle.cert_turns.specs.TurnLines.{places_of_turns, stated, turn_places, turns_in}

-- There are at most as many turns as places that are due.
pub turns_fit : (j : Job) (known : ℕ → Value) (root : ℕ) (value : Bool) (limit : ℕ) (kept due : List ℕ)
    (turns : List Turn) → AreTurns j known root value limit kept due turns → length turns ≤ length due
turns_fit j known root value limit kept due [] are = omega arith
turns_fit j known root value limit kept [] (turn ∷ turns) are = absurd are
turns_fit j known root value limit kept (place ∷ due) (turn ∷ turns) are =
    let less = turns_fit j known root value limit (kept_with kept place turn) due turns are.1 in omega (arith, less)

-- Turns with as many places or more.
pub stated_places : (places : List Place) (turns : List Turn) → length turns ≤ length places
    → places_of_turns (stated places turns) ≡ take (length turns) places
stated_places places [] less = refl
stated_places [] (turn ∷ turns) less = absurd (omega (arith, less))
stated_places (place ∷ places) (turn ∷ turns) less =
    ap (λ ps. place ∷ ps) (stated_places places turns (omega (arith, less)))

pub stated_turns : (places : List Place) (turns : List Turn) → length turns ≤ length places
    → turns_in (stated places turns) ≡ turns
stated_turns places [] less = refl
stated_turns [] (turn ∷ turns) less = absurd (omega (arith, less))
stated_turns (place ∷ places) (turn ∷ turns) less =
    ap (λ ts. turn ∷ ts) (stated_turns places turns (omega (arith, less)))

pub stated_long : (places : List Place) (turns : List Turn) → length turns ≤ length places
    → length (stated places turns) ≡ length turns
stated_long places turns less =
    sym (length-map (stated places turns) (λ (line : TurnLine). line.turn)) ∙ ap length (stated_turns places turns less)

-- One more, of the place behind those that had theirs.
pub stated_more : (places : List Place) (turns : List Turn) (turn : Turn) (d : Place) → length turns < length places
    → stated places (turns ++ turn ∷ [])
    ≡ stated places turns ++ record { place = get_or places (length turns) d; turn = turn } ∷ []
stated_more [] turns turn d less = absurd (omega (arith, less))
stated_more (place ∷ places) [] turn d less = refl
stated_more (place ∷ places) (first ∷ turns) turn d less =
    ap (λ ls. record { place = place; turn = first } ∷ ls) (stated_more places turns turn d (omega (arith, less)))

-- The places that have turns are the first of the boundary, as far as there are turns.
pub first_turns : (places : List ℕ) (n : ℕ) → n ≤ length (first_due places) → take n places ≡ take n (first_due places)
first_turns places n = by (nat_lt 64 (length places))
  where
    by : (many : Bool) → n ≤ length (if many then [] else places)
        → take n places ≡ take n (if many then [] else places)
    by true less =
        let none : n ≡ 0 = omega (arith, less) in ap (λ m. take m places) none ∙ ap (λ m. take m []) (sym none)
    by false less = refl

first_less : (places : List ℕ) → length (first_due places) ≤ length places
first_less places = by (nat_lt 64 (length places))
  where
    by : (many : Bool) → length (if many then [] else places) ≤ length places
    by true = omega arith
    by false = omega arith

-- A condition keeps at most as many as its boundary has.
pub kept_fit : (c : Contents) (root : ℕ) (view : ConditionView) → IsConditionOf c root view
    → length view.turns ≤ length (first_due (certain_boundary_in c root))
kept_fit c root view is =
    turns_fit (job c) (certain c.written) root (settled_bit c root) c.limits.conflicts (first_kept (certain_boundary_in c root))
    (first_due (certain_boundary_in c root)) view.turns is.turns

pub kept_within : (c : Contents) (root : ℕ) (view : ConditionView) → IsConditionOf c root view
    → length view.turns ≤ length view.boundary
kept_within c root view is =
    let few = kept_fit c root view is in
    let less = first_less (certain_boundary_in c root) in
    let long = ap length is.boundary ∙ length-map (certain_boundary_in c root) (place_at (job c)) in
    omega (arith, few, less, long)

-- The first places of the boundary are those that have turns.
pub first_places : (c : Contents) (root : ℕ) (view : ConditionView) (n : ℕ) → IsConditionOf c root view
    → n ≤ length (first_due (certain_boundary_in c root))
    → take n view.boundary ≡ map (place_at (job c)) (take n (turn_places (job c) c.written root))
first_places c root view n is less =
    ap (take n) is.boundary ∙ take-map (place_at (job c)) n (certain_boundary_in c root)
    ∙ ap (map (place_at (job c))) (first_turns (certain_boundary_in c root) n less)

pub states_turns : StatedLaw
states_turns c root view is = record {
  are = record {
    places = stated_places view.boundary view.turns within
        ∙ first_places c root view (length view.turns) is (kept_fit c root view is)
        ∙ ap (λ n. map (place_at (job c)) (take n (turn_places (job c) c.written root)))
        (sym (stated_long view.boundary view.turns within));
    hold = subst (AreTurnsOf (job c) (certain c.written) root (settled_bit c root) c.limits.conflicts)
        (sym (stated_turns view.boundary view.turns within)) is.turns;
  };
  count = (let long = stated_long view.boundary view.turns within in
      let few = kept_fit c root view is in
      let left = is.due ∙ length-drop (length view.turns) (first_due (certain_boundary_in c root)) in
      omega (arith, long, few, left));
}
  where
    within : length view.turns ≤ length view.boundary
    within = kept_within c root view is
