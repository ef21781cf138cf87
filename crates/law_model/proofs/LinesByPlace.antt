-- Lines by their places.
use Rattle.std.proofs.Common.{◌≡◌, ℕ, ◌<◌, ◌≤◌, ◌==◌, Bool, true, false, List, [], ◌∷◌, ◌++◌, map, refl, sym, ap, ◌∙◌, arith, subst, Option, Some, None, if◌then◌else◌, inl, inr, ◌⊎◌, ⊎_elim}
use Rattle.std.specs.List.{AllByRecursion}
use Rattle.std.proofs.lemmas.Bool.{ne_eqb, or_cases}
use Rattle.design_cell.specs.declared.value.Value.{Value}
use Rattle.design_circuit.specs.Job.{Job, number_of, places_of}
use Rattle.design_circuit.specs.Fits.{Fits, place_at}
use Rattle.design_circuit.proofs.Numbers.{number_of_place_at}
use Rattle.law_model.specs.Places.{among}
use Rattle.law_model.specs.Class.{class_of}
use Rattle.law_model.specs.Stated.{body_at}
use Rattle.law_model.specs.Yields.{is_line, line_places, places_of_lines}
use Rattle.law_model.specs.declared.line.Line.{Line as ALine}
use Rattle.law_model.specs.declared.line.Body.{Body}
use Rattle.law_model.specs.declared.class.ClassByNumber.TheVariants.{Line}
use Rattle.law_model.proofs.PlacesWhere.{picked_below, picked_in}

-- No line is of the place.
abbrev pub NoLine : Job → List ALine → ℕ → Type 0
NoLine j lines place = AllByRecursion (λ (line : ALine). number_of j line.place ≡ place → ⊥) lines

pub body_front : (j : Job) (lines new : List ALine) (place : ℕ) → body_at j new place ≡ None
    → body_at j (lines ++ new) place ≡ body_at j lines place
body_front j [] new place none = none
body_front j (line ∷ lines) new place none = rw (body_front j lines new place none) refl

pub body_none : (j : Job) (lines : List ALine) (place : ℕ) → NoLine j lines place → body_at j lines place ≡ None
body_none j [] place others = refl
body_none j (line ∷ lines) place others = rw (ne_eqb (number_of j line.place) place others.0)
    (body_none j lines place others.1)

pub body_back : (j : Job) (lines new : List ALine) (place : ℕ) → NoLine j lines place
    → body_at j (lines ++ new) place ≡ body_at j new place
body_back j [] new place others = refl
body_back j (line ∷ lines) new place others = rw (ne_eqb (number_of j line.place) place others.0)
    (body_back j lines new place others.1)

pub eqb_same : (a b : ℕ) → a ≡ b → (a == b) ≡ true
eqb_same a b same = grind arith

pub body_one : (j : Job) (line : ALine) (place : ℕ) → number_of j line.place ≡ place
    → body_at j (line ∷ []) place ≡ Some line.body
body_one j line place is = rw (eqb_same (number_of j line.place) place is) refl

numbers_below : (j : Job) (n : ℕ) (lines : List ALine)
    → AllByRecursion (λ k. k < n) (map (number_of j) (places_of_lines lines)) → NoLine j lines n
numbers_below j n [] below = tt
numbers_below j n (line ∷ lines) below = (
  λ is. (let less = below.0 in omega (arith, is, less)),
  numbers_below j n lines
      below.1,
)

-- The numbers of the places of some numbers are these.
pub numbers_back : (j : Job) → Fits j → (n : ℕ) (places : List ℕ) → n ≤ places_of j → AllByRecursion (λ k. k < n) places
    → map (number_of j) (map (place_at j) places) ≡ places
numbers_back j fits n [] within below = refl
numbers_back j fits n (k ∷ places) within below =
    rw (
      number_of_place_at j k fits.ordering fits.all (let less = below.0 in omega (arith, less, within)),
      numbers_back
          j fits n places within below.1,
    ) refl

-- Where the lines are those of the Line places up to n, their numbers are these places.
numbers_of_lines : (j : Job) → Fits j → (c : ℕ → Value) (n : ℕ) (lines : List ALine) → n ≤ places_of j
    → places_of_lines lines ≡ map (place_at j) (line_places j c n)
    → map (number_of j) (places_of_lines lines) ≡ line_places j c n
numbers_of_lines j fits c n lines within are =
    ap (map (number_of j)) are ∙ numbers_back j fits n (line_places j c n) within
    (picked_below (λ place. is_line (class_of j c place)) n)

-- So none is of n.
pub no_line_yet : (j : Job) → Fits j → (c : ℕ → Value) (n : ℕ) (lines : List ALine) → n ≤ places_of j
    → places_of_lines lines ≡ map (place_at j) (line_places j c n) → NoLine j lines n
no_line_yet j fits c n lines within are =
    numbers_below j n lines (subst (AllByRecursion (λ k. k < n)) (sym (numbers_of_lines j fits c n lines within are))
    (picked_below (λ place. is_line (class_of j c place)) n))

first_or : (b : Bool) (here : Body) (rest : Option Body) → (b ≡ true) ⊎ ((body : Body) × (rest ≡ Some body))
    → (body : Body) × ((if b then Some here else rest) ≡ Some body)
first_or true here rest found = (here, refl)
first_or false here rest (inl is) = cc
first_or false here rest (inr found) = found

body_among : (j : Job) (lines : List ALine) (k : ℕ) → among (map (number_of j) (places_of_lines lines)) k ≡ true
    → (body : Body) × (body_at j lines k ≡ Some body)
body_among j [] k at = cc
body_among j (line ∷ lines) k at =
    first_or (number_of j line.place == k) line.body (body_at j lines k)
    (⊎_elim (λ (same : (number_of j line.place == k) ≡ true). inl same)
    (λ (deeper : among (map (number_of j) (places_of_lines lines)) k ≡ true). inr (body_among j lines k deeper))
    (or_cases (number_of j line.place == k) (among (map (number_of j) (places_of_lines lines)) k) at))

-- And each Line place has a line.
pub line_found : (j : Job) → Fits j → (c : ℕ → Value) (n k : ℕ) (lines : List ALine) → n ≤ places_of j
    → places_of_lines lines ≡ map (place_at j) (line_places j c n) → k < n → class_of j c k ≡ Line
    → (body : Body) × (body_at j lines k ≡ Some body)
line_found j fits c n k lines within are less is =
    body_among j lines k (subst (λ ks. among ks k ≡ true) (sym (numbers_of_lines j fits c n lines within are))
    (picked_in (λ place. is_line (class_of j c place)) n k less (ap is_line is)))
