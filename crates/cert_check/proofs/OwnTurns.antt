-- The turns of a condition have words, and there are at most 64.
use Rattle.std.proofs.Common.{◌≡◌, ℕ, ◌*◌, ◌^◌, ◌<◌, ◌≤◌, Bool, true, false, if◌then◌else◌, List, [], ◌∷◌, ◌++◌, length, map, refl, sym, subst, arith}
use Rattle.std.specs.Prelude.{nat_lt}
use Rattle.std.specs.List.{AllByRecursion}
use Rattle.std.proofs.lemmas.Bool.{or_left}
use Rattle.std.proofs.lemmas.Bool.Decides.{nat_tests}
use Rattle.design_cell.specs.declared.value.Value.{Value}
use Rattle.design_circuit.proofs.Numbers.{few_steps, is_place_at}
use Rattle.design_circuit.specs.declared.place.Place.{Place}
use Rattle.design_circuit.specs.Fits.{Fits, place_at}
use Rattle.design_circuit.specs.Job.{Job, places_of}
use Rattle.design_circuit.specs.Waveform.{certain}
use Rattle.law_model.proofs.Cones.{cone_self}
use Rattle.law_model.proofs.PlacesWhere.{among_all}
use Rattle.law_model.specs.Class.{class_of}
use Rattle.law_model.specs.Cone.{is_carried}
use Rattle.law_model.specs.Query.{is_variable}
use Rattle.law_model.specs.declared.turn.Turn.{Turn}
use Rattle.law_model.specs.declared.turn.Turn.TheVariants.{Dropped, Needed, Tried}
use Rattle.cert_turns.specs.OfCone.{certain_boundary, certain_boundary_in, is_boundary}
use Rattle.cert_turns.proofs.TurnChoices.{variable_listed}
use Rattle.cert_turns.proofs.TurnsBefore.{boundary_is_low}
use Rattle.cert_turns.specs.TurnQuery.{is_turn_variable, turn_variables}
use Rattle.cert_turns.specs.Turns.{AreTurns, IsTurn, first_due, first_kept, kept_with}
use Rattle.cert_turns.specs.View.{ConditionView, IsConditionOf, settled_bit}
use Rattle.cert_turns.specs.TurnLines.{stated, turn_lines}
use Rattle.cert_turns.proofs.StatedTurns.{states_turns}
use Rattle.wave_proved.specs.Contents.{Contents, job}
use Rattle.cert_writer.specs.Fits.{FitsPlace, FitsTurn, FitsTurnLine}
use Rattle.cert_check.proofs.OwnLines.{log_fits, place_fits}

-- The turn query of a place that isn't carried has some variables.
module _ (j : Job) (fits : Fits j) (c : ℕ → Value) (root : ℕ) (within : root < places_of j)
    (free : is_carried (class_of j c root) ≡ false) where
  is_own : is_turn_variable j c root root ≡ true
  is_own = or_left (is_variable j c root root) (is_boundary j c root root)
      (rw (cone_self j fits c root within, free) refl)

  some_variables : 0 < length (turn_variables j c root)
  some_variables = let here = (variable_listed j fits c root root within is_own).1 in omega (arith, here)

  turn_fits : (value : Bool) (limit : ℕ) (listed : List ℕ) (turn : Turn) → 0 < limit
      → IsTurn j c root value limit listed turn → FitsTurn turn
  turn_fits value limit listed (Dropped log) some is =
      let few = is.query.few in
      let ends = is.finds.1.ends.1 in
      log_fits is.query.vars log (omega (arith, few)) (omega (arith, ends))
      (record { fit = is.finds.0.fit; no_zero = is.finds.0.no_zero })
  turn_fits value limit listed (Needed model) some is =
      let vars = is.is_query.vars in
      let count = is.finds.count in
      omega (arith, vars, count, some_variables)
  turn_fits value limit listed (Tried log) some is =
      let few = is.query.few in
      let long = is.finds.2 in
      log_fits is.query.vars log (omega (arith, few)) (omega (arith, long, some))
      (record { fit = is.finds.0.fit; no_zero = is.finds.0.no_zero })

  turns_fit : (value : Bool) (limit : ℕ) (kept due : List ℕ) (turns : List Turn) → 0 < limit
      → AreTurns j c root value limit kept due turns → AllByRecursion FitsTurn turns
  turns_fit value limit kept due [] some are = tt
  turns_fit value limit kept [] (turn ∷ turns) some are = absurd are
  turns_fit value limit kept (place ∷ due) (turn ∷ turns) some are = (
    turn_fits value limit (kept ++ due) turn some are.0,
    turns_fit value limit (kept_with kept place turn) due turns some are.1,
  )

-- Its boundary places are those of the job.
places_fit : (j : Job) → Fits j → j.moments * j.rounds ≤ 2 ^ 32 → (numbers : List ℕ)
    → AllByRecursion (λ k. k < places_of j) numbers
    → AllByRecursion FitsPlace (map (place_at j) numbers)
places_fit j fits most [] all = tt
places_fit j fits most (k ∷ numbers) all = (
  place_fits j fits most (place_at j k) (is_place_at j k fits.ordering fits.all all.0),
  places_fit j fits most numbers all.1,
)

boundary_fits : (j : Job) → Fits j → j.moments * j.rounds ≤ 2 ^ 32 → (c : ℕ → Value) (root : ℕ) → root < places_of j
    → AllByRecursion FitsPlace (map (place_at j) (certain_boundary j c root))
boundary_fits j fits most c root within =
    places_fit j fits most (certain_boundary j c root)
    (among_all (λ k. k < places_of j) (certain_boundary j c root)
    (λ k here. (let low = boundary_is_low j fits c c root within (λ i less. refl) k here in omega
    (arith, low, within))))

stated_fit : (places : List Place) (turns : List Turn) → AllByRecursion FitsPlace places → AllByRecursion FitsTurn turns
    → AllByRecursion FitsTurnLine (stated places turns)
stated_fit places [] fit_places fit_turns = tt
stated_fit [] (turn ∷ turns) fit_places fit_turns = tt
stated_fit (place ∷ places) (turn ∷ turns) fit_places fit_turns = (
  record { place = fit_places.0; turn = fit_turns.0 },
  stated_fit places turns fit_places.1 fit_turns.1,
)

pub turn_lines_fit : (c : Contents) (root : ℕ) (view : ConditionView) → IsConditionOf c root view
    → AllByRecursion FitsTurnLine (turn_lines view)
turn_lines_fit c root view is =
    let j = job c in
    let fits : Fits j = is.wave.fits.fits_job in
    let b : List ℕ = certain_boundary_in c root in
    stated_fit view.boundary view.turns
    (subst (AllByRecursion FitsPlace) (sym is.boundary)
    (boundary_fits j fits (few_steps c.stim) (certain c.written) root is.has.within))
    (turns_fit j fits (certain c.written) root is.has.within is.has.free (settled_bit c root) c.limits.conflicts
    (first_kept b) (first_due b)
    view.turns is.wave.limited.some is.turns)

few_due : (places : List ℕ) → length (first_due places) ≤ 64
few_due places = by (nat_lt 64 (length places)) refl
  where
    by : (many : Bool) → nat_lt 64 (length places) ≡ many → length (if many then [] else places) ≤ 64
    by true is = omega arith
    by false is = not_more (length places) is
      where
        not_more : (n : ℕ) → nat_lt 64 n ≡ false → n ≤ 64
        not_more n less = grind (arith, nat_tests)

pub few_turn_lines : (c : Contents) (root : ℕ) (view : ConditionView) → IsConditionOf c root view
    → length (turn_lines view) ≤ 64
few_turn_lines c root view is =
    let count = (states_turns c root view is).count in
    let few = few_due (certain_boundary_in c root) in
    omega (arith, count, few)
