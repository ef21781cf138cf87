-- Each turn leaves a condition.
use Rattle.std.proofs.Common.{◌≡◌, ℕ, ◌<◌, ◌==◌, ◌++◌, Bool, true, false, List, [], ◌∷◌, drop, length, refl, sym, ap, ◌∙◌, subst, ⊎_elim, append_assoc, if◌then◌else◌}
use Rattle.std.specs.Prelude.{nat_lt}
use Rattle.std.proofs.lemmas.Bool.{or_cases}
use Rattle.std.proofs.lemmas.List.Folds.{list_any-append}
use Rattle.design_cell.specs.declared.value.Value.{Value}
use Rattle.design_circuit.specs.Job.{Job, places_of}
use Rattle.design_circuit.specs.Fits.{Fits}
use Rattle.design_circuit.specs.Waveform.{certain}
use Rattle.sat_proof.proofs.Sound.{no_model}
use Rattle.law_model.specs.Places.{among}
use Rattle.law_model.proofs.PlacesWhere.{or_left, or_right}
use Rattle.decide_cone.specs.Boundary.{certain_boundary}
use Rattle.cert_condition.specs.Condition.{IsCondition}
use Rattle.cert_condition.specs.Laws.{TurnsLaw}
use Rattle.cert_condition.specs.Turns.{AreTurns, IsTurn, due_after, first_due, first_kept, kept_after, kept_with}
use Rattle.law_model.specs.declared.turn.Turn.{Turn}
use Rattle.law_model.specs.declared.turn.Turn.TheVariants.{Dropped, Needed, Tried}
use Rattle.cert_condition.proofs.TurnModels.{turn_law}
use Rattle.cert_condition.proofs.WholeLists.{whole_list_law}

-- What is in a list without a place is in the list.
pub among_skipped : (kept due : List ℕ) (place k : ℕ) → among (kept ++ due) k ≡ true → among (kept ++ place ∷ due) k ≡ true
among_skipped kept due place k at =
    list_any-append (λ i. i == k) kept (place ∷ due)
    ∙ ⊎_elim (λ (h : among kept k ≡ true). or_left (among kept k) (among (place ∷ due) k) h)
    (λ (h : among due k ≡ true). or_right (among kept k) (among (place ∷ due) k)
    (or_right (place == k) (among due k) h))
    (or_cases (among kept k) (among due k) (sym (list_any-append (λ i. i == k) kept due) ∙ at))

stays : (j : Job) (c : ℕ → Value) (root : ℕ) (value : Bool) (kept due : List ℕ) (place : ℕ)
    → IsCondition j c root value (kept ++ place ∷ due) → IsCondition j c root value ((kept ++ place ∷ []) ++ due)
stays j c root value kept due place = subst (IsCondition j c root value) (sym (append_assoc kept (place ∷ []) due))

turn_keeps : (j : Job) → Fits j → (c : ℕ → Value) (root : ℕ) (value : Bool) (limit : ℕ) (kept due : List ℕ) (place : ℕ)
    (turn : Turn) → root < places_of j → IsCondition j c root value (kept ++ place ∷ due)
    → IsTurn j c root value limit (kept ++ due) turn → IsCondition j c root value (kept_with kept place turn ++ due)
turn_keeps j fits c root value limit kept due place (Dropped log) within condition is =
    (turn_law j c root value (kept ++ due) is.query fits within
    (λ k at. condition.places k (among_skipped kept due place k at)) is.is_query).0
    (λ model is_model. no_model is.query.vars is.query.clauses log is.finds.1 is.finds.0.no_zero model is_model)
turn_keeps j fits c root value limit kept due place (Needed model) within condition is = stays j c root value kept due
    place condition
turn_keeps j fits c root value limit kept due place (Tried log) within condition is = stays j c root value kept due
    place condition

pub turns_keep : (j : Job) → Fits j → (c : ℕ → Value) (root : ℕ) (value : Bool) (limit : ℕ) (kept due : List ℕ)
    (turns : List Turn) → root < places_of j → IsCondition j c root value (kept ++ due)
    → AreTurns j c root value limit kept due turns
    → IsCondition j c root value (kept_after kept due turns ++ due_after due turns)
turns_keep j fits c root value limit kept due [] within condition are = condition
turns_keep j fits c root value limit kept [] (turn ∷ turns) within condition are = absurd are
turns_keep j fits c root value limit kept (place ∷ due) (turn ∷ turns) within condition are =
    turns_keep j fits c root value limit (kept_with kept place turn) due turns within
    (turn_keeps j fits c root value limit kept due place turn within condition are.0) are.1

pub first_listed : (places : List ℕ) → first_kept places ++ first_due places ≡ places
first_listed places = by (nat_lt 64 (length places))
  where
    nothing_more : (xs : List ℕ) → xs ++ [] ≡ xs
    nothing_more [] = refl
    nothing_more (x ∷ xs) = ap (λ ys. x ∷ ys) (nothing_more xs)

    by : (many : Bool) → (if many then places else []) ++ (if many then [] else places) ≡ places
    by true = nothing_more places
    by false = refl

pub turns_law : TurnsLaw
turns_law j limits shown waveform lines fits sound root bound value turns has are =
    turns_keep j fits (certain waveform) root value bound (first_kept (certain_boundary j (certain waveform) root))
    (first_due (certain_boundary j (certain waveform) root)) turns has.within
    (subst (IsCondition j (certain waveform) root value) (sym (first_listed (certain_boundary j (certain waveform) root)))
    (whole_list_law j limits shown waveform lines fits sound root value has)) are

-- One more turn behind turns.
pub record IsMore (j : Job) (c : ℕ → Value) (root : ℕ) (value : Bool) (limit : ℕ) (kept due : List ℕ)
    (turns : List Turn) (place : ℕ) (turn : Turn) : Type 0 where
  pub are : AreTurns j c root value limit kept due (turns ++ turn ∷ [])
  pub kept_is : kept_after kept due (turns ++ turn ∷ []) ≡ kept_with (kept_after kept due turns) place turn
  pub due_is : due_after due (turns ++ turn ∷ []) ≡ drop 1 (due_after due turns)

pub turns_more : (j : Job) (c : ℕ → Value) (root : ℕ) (value : Bool) (limit : ℕ) (kept due : List ℕ)
    (turns : List Turn) (place : ℕ) (rest : List ℕ) (turn : Turn) → AreTurns j c root value limit kept due turns
    → due_after due turns ≡ place ∷ rest
    → IsTurn j c root value limit (kept_after kept due turns ++ drop 1 (due_after due turns)) turn
    → IsMore j c root value limit kept due turns place turn
turns_more j c root value limit kept [] [] place rest turn are first is = cc
turns_more j c root value limit kept (p ∷ due) [] place rest turn are first is = record {
  are = (is, tt);
  kept_is = ap (λ i. kept_with kept i turn) (let e : p ≡ place = cc in e);
  due_is = refl;
}
turns_more j c root value limit kept [] (t ∷ turns) place rest turn are first is = absurd are
turns_more j c root value limit kept (p ∷ due) (t ∷ turns) place rest turn are first is =
    let more = turns_more j c root value limit (kept_with kept p t) due turns place rest turn are.1 first is in
    record { are = (are.0, more.are); kept_is = more.kept_is; due_is = more.due_is }
