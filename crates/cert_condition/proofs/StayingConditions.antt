-- A condition stays that of its place, whatever is written next.
use Rattle.std.proofs.Common.{◌≡◌, ℕ, ◌+◌, ◌<◌, ◌==◌, true, false, List, [], ◌∷◌, ◌++◌, length, length-append, map, sym, ap, ◌∙◌, arith, subst}
use Rattle.std.proofs.Math.ListN.{get_or-append}
use Rattle.std.proofs.lemmas.List.Folds.{list_any-append}
use Rattle.design_cell.specs.Value.{bit_value}
use Rattle.design_circuit.specs.declared.waveform.Written.{Written}
use Rattle.design_circuit.specs.Fits.{Fits, place_at}
use Rattle.design_circuit.specs.Job.{Job, places_of}
use Rattle.design_circuit.specs.Waveform.{certain, certain_by, unwritten}
use Rattle.design_circuit.specs.World.{decided}
use Rattle.design_circuit.proofs.Rules.{AgreeBelow}
use Rattle.law_model.specs.Cone.{is_carried}
use Rattle.law_model.specs.Places.{among}
use Rattle.law_model.proofs.ClassesBefore.{class_local}
use Rattle.law_model.proofs.PlacesWhere.{among_itself, or_right}
use Rattle.wave_proved.specs.Contents.{Contents, IsWave, job}
use Rattle.decide_cone.specs.Boundary.{certain_boundary, certain_boundary_in}
use Rattle.decide_cone.specs.Known.{IsGrown}
use Rattle.cert_condition.specs.Laws.{HasCertainBit}
use Rattle.cert_condition.specs.TurnQuery.{AreWholeClauses, turn_denial, turn_variables, unit_clause, unit_clauses}
use Rattle.cert_condition.specs.Turns.{AreTurnsOf, due_after, first_due, first_kept, kept_after}
use Rattle.cert_condition.specs.View.{ConditionView, IsAbout, IsConditionOf, StayLaw, due_in, kept_in, settled_bit}
use Rattle.cert_condition.specs.declared.next.NextQuery.{NextQuery}
use Rattle.cert_condition.proofs.KeptConditions.{among_skipped}
use Rattle.cert_condition.proofs.NextTurns.{condition_holds}
use Rattle.cert_condition.proofs.TurnsBefore.{AreLow, boundary_is_low, certain_boundary_same, denial_same, turns_of_moved, unit_same, units_same, variables_same, whole_clauses_moved}

-- What is written stays.
certain_front : (waveform more : List Written)
    → AgreeBelow (certain waveform) (certain (waveform ++ more)) (length waveform)
unfolding certain
certain_front waveform more k less = ap (λ (w : Written). certain_by w.mark w.value)
    (sym (get_or-append waveform more unwritten k less))

place_there : (kept rest : List ℕ) (place : ℕ) → among (kept ++ place ∷ rest) place ≡ true
place_there kept rest place = list_any-append (λ i. i == place) kept (place ∷ rest)
    ∙ or_right (among kept place) (among (place ∷ rest) place) (among_itself place rest)

module _ (c d : Contents) (root : ℕ) (view : ConditionView) (grown : IsGrown c d) (limits : d.limits ≡ c.limits)
    (wave : IsWave d) (is : IsConditionOf c root view) where
  fits : Fits (job c)
  fits = is.wave.fits.fits_job

  within : root < places_of (job c)
  within = is.has.within

  agree : AgreeBelow (certain c.written) (certain d.written) (root + 1)
  agree k less = subst (λ ws. certain c.written k ≡ certain ws k) (sym grown.written)
      (certain_front c.written grown.more k (let up = is.has.written in omega (arith, up, less)))

  value_same : certain c.written root ≡ certain d.written root
  value_same = agree root (omega arith)

  settled_same : settled_bit c root ≡ settled_bit d root
  settled_same = ap (λ v. decided v false) value_same

  has_still : HasCertainBit (job d) d.written root (settled_bit d root)
  has_still = subst (λ (j : Job). HasCertainBit j d.written root (settled_bit d root)) (sym grown.same) (record {
    written = (let up = is.has.written in
        let long = ap length grown.written ∙ length-append c.written grown.more in omega (arith, up, long));
    within = within;
    free = ap is_carried (sym (class_local (job c) fits (certain c.written) (certain d.written) root within
        (λ k less. agree k (omega (arith, less))))) ∙ is.has.free;
    has = sym value_same ∙ is.has.has ∙ ap bit_value settled_same;
  })

  -- The boundary, and what turns leave of it.
  boundary_still : certain_boundary_in c root ≡ certain_boundary_in d root
  boundary_still = certain_boundary_same (job c) fits (certain c.written) (certain d.written) root within agree
      ∙ ap (λ (j : Job). certain_boundary j (certain d.written) root) (sym grown.same)

  kept_still : kept_in c root view.turns ≡ kept_in d root view.turns
  kept_still = ap (λ b. kept_after (first_kept b) (first_due b) view.turns) boundary_still

  due_still : due_in c root view.turns ≡ due_in d root view.turns
  due_still = ap (λ b. due_after (first_due b) view.turns) boundary_still

  turns_still : AreTurnsOf (job d) (certain d.written) root (settled_bit d root) d.limits.conflicts view.turns
  turns_still =
      subst (λ (j : Job). AreTurnsOf j (certain d.written) root (settled_bit d root) d.limits.conflicts view.turns)
      (sym grown.same)
      (subst (λ n. AreTurnsOf (job c) (certain d.written) root (settled_bit d root) n view.turns) (sym (ap (λ l. l.conflicts) limits))
      (subst (λ b. AreTurnsOf (job c) (certain d.written) root b c.limits.conflicts view.turns) settled_same
      (turns_of_moved (job c) fits (certain c.written) (certain d.written) root within agree (settled_bit c root)
      c.limits.conflicts view.turns is.turns)))

  placed : (numbers : List ℕ) → map (place_at (job c)) numbers ≡ map (place_at (job d)) numbers
  placed numbers = ap (λ (j : Job). map (place_at j) numbers) (sym grown.same)

  -- The places of the list are none behind the root.
  listed_low : AreLow root (kept_in c root view.turns ++ due_in c root view.turns)
  listed_low k at = boundary_is_low (job c) fits (certain c.written) (certain d.written) root within agree k
      ((condition_holds c root view is).places k at)

  -- The query that is kept.
  module _ (next : NextQuery) (listed : List ℕ) (place : ℕ) (low : AreLow root listed) (low_place : place < root + 1)
      (about : IsAbout c root next listed place) where
    whole_still : AreWholeClauses (job d) (certain d.written) root about.whole
    whole_still = subst (λ (j : Job). AreWholeClauses j (certain d.written) root about.whole) (sym grown.same)
        (whole_clauses_moved (job c) fits (certain c.written) (certain d.written) root within agree about.whole
        about.are_whole)

    variables_still : turn_variables (job c) (certain c.written) root ≡ turn_variables (job d) (certain d.written) root
    variables_still = variables_same (job c) fits (certain c.written) (certain d.written) root within agree
        ∙ ap (λ (j : Job). turn_variables j (certain d.written) root) (sym grown.same)

    units_still : unit_clauses (job c) (certain c.written) root listed
        ≡ unit_clauses (job d) (certain d.written) root listed
    units_still = units_same (job c) fits (certain c.written) (certain d.written) root within agree listed low
        ∙ ap (λ (j : Job). unit_clauses j (certain d.written) root listed) (sym grown.same)

    denial_still : turn_denial (job c) (certain c.written) root (settled_bit c root)
        ≡ turn_denial (job d) (certain d.written) root (settled_bit d root)
    denial_still = denial_same (job c) fits (certain c.written) (certain d.written) root within agree
        (settled_bit c root)
        ∙ ap (turn_denial (job c) (certain d.written) root) settled_same
        ∙ ap (λ (j : Job). turn_denial j (certain d.written) root (settled_bit d root)) (sym grown.same)

    unit_still : unit_clause (job c) (certain c.written) root place ≡ unit_clause (job d) (certain d.written) root place
    unit_still = unit_same (job c) fits (certain c.written) (certain d.written) root within agree place low_place
        ∙ ap (λ (j : Job). unit_clause j (certain d.written) root place) (sym grown.same)

    about_still : IsAbout d root next listed place
    about_still = record {
      whole = about.whole;
      are_whole = whole_still;
      cone = about.cone;
      vars = about.vars ∙ ap length variables_still;
      clauses = about.clauses
          ∙ ap (λ us. (about.whole ++ us) ++ turn_denial (job c) (certain c.written) root (settled_bit c root) ∷ [])
          units_still
          ∙ ap (λ clause. (about.whole ++ unit_clauses (job d) (certain d.written) root listed) ++ clause ∷ [])
          denial_still;
      away = about.away ∙ unit_still;
    }

  next_still : (place : ℕ) (rest : List ℕ) → due_in d root view.turns ≡ place ∷ rest
      → IsAbout d root view.next (kept_in d root view.turns ++ rest) place
  next_still place rest at =
      let kept : List ℕ = kept_in c root view.turns in
      let first : due_in c root view.turns ≡ place ∷ rest = due_still ∙ at in
      let low : AreLow root (kept ++ place ∷ rest) = subst (λ due. AreLow root (kept ++ due)) first listed_low in
      subst (λ ks. IsAbout d root view.next (ks ++ rest) place) kept_still
      (about_still view.next (kept ++ rest) place (λ k in_rest. low k (among_skipped kept rest place k in_rest))
      (low place (place_there kept rest place)) (is.about place rest first))

  pub condition_still : IsConditionOf d root view
  condition_still = record {
    wave = wave;
    has = has_still;
    place = is.place ∙ ap (λ (j : Job). place_at j root) (sym grown.same);
    boundary = is.boundary ∙ ap (map (place_at (job c))) boundary_still ∙ placed (certain_boundary_in d root);
    limit = is.limit ∙ sym (ap (λ l. l.conflicts) limits);
    turns = turns_still;
    kept = is.kept ∙ ap length kept_still;
    due = is.due ∙ ap length due_still;
    listed = is.listed
        ∙ ap (λ ks. map (place_at (job c)) (ks ++ due_in c root view.turns)) kept_still
        ∙ ap (λ ks. map (place_at (job c)) (kept_in d root view.turns ++ ks)) due_still
        ∙ placed (kept_in d root view.turns ++ due_in d root view.turns);
    about = next_still;
  }

pub conditions_stay : StayLaw
conditions_stay c d root view grown limits wave is = condition_still c d root view grown limits wave is
