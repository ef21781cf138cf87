-- Lines that yield no undecided place have no undecided body.
use Rattle.std.proofs.Common.{◌≡◌, ℕ, zero, suc, ◌<◌, ◌==◌, Bool, true, false, List, [], ◌∷◌, ◌++◌, map, length, refl, sym, ap, ◌∙◌, arith, subst, Some, Option, if◌then◌else◌, ⊎_elim, inl, inr, ◌⊎◌}
use Rattle.std.specs.List.{AllByRecursion}
use Rattle.std.proofs.lemmas.Bool.{cases_Bool, eqb-true}
use Rattle.design_cell.specs.declared.value.Value.{Value}
use Rattle.design_circuit.specs.declared.waveform.Written.{Written}
use Rattle.design_circuit.specs.declared.waveform.Mark.TheVariants.{Undecided}
use Rattle.design_circuit.specs.Job.{Job, number_of}
use Rattle.design_circuit.specs.Waveform.{certain, written_at}
use Rattle.law_model.specs.Class.{class_of}
use Rattle.law_model.specs.Places.{among, places_where}
use Rattle.law_model.specs.Stated.{body_at}
use Rattle.law_model.specs.Yields.{is_line, places_of_lines, written_by}
use Rattle.law_model.specs.declared.class.ClassByNumber.{ClassByNumber}
use Rattle.law_model.specs.declared.class.ClassByNumber.TheVariants.{Local, Free, Carried, Line}
use Rattle.law_model.specs.declared.line.Body.{Body}
use Rattle.law_model.specs.declared.line.Body.TheVariants.{Enumerated, Refuted, Pair, Undecided as Budget}
use Rattle.law_model.specs.declared.line.Line.{Line as ALine}
use Rattle.law_model.proofs.LinesByPlace.{eqb_same, numbers_back}
use Rattle.law_model.proofs.PlacesWhere.{all_among, in_picked, or_left, or_right, picked_below}
use Rattle.law_waveforms.specs.Objection.{AllDecide, AllDecideLaw, Decides}

-- Each number is below all behind it.
Apart : List ℕ → Type 0
Apart [] = Unit {0}
Apart (k ∷ places) = AllByRecursion (λ i. k < i) places × Apart places

all_push : (k n : ℕ) (places : List ℕ) → k < n → AllByRecursion (λ i. k < i) places
    → AllByRecursion (λ i. k < i) (places ++ n ∷ [])
all_push k n [] less all = (less, tt)
all_push k n (i ∷ places) less all = (all.0, all_push k n places less all.1)

apart_push : (n : ℕ) (places : List ℕ) → AllByRecursion (λ k. k < n) places → Apart places → Apart (places ++ n ∷ [])
unfolding Apart
apart_push n [] below apart = (tt, tt)
apart_push n (k ∷ places) below apart = (all_push k n places below.0 apart.0, apart_push n places below.1 apart.1)

either_apart : (b : Bool) (n : ℕ) (places : List ℕ) → AllByRecursion (λ k. k < n) places → Apart places
    → Apart (if b then places ++ n ∷ [] else places)
either_apart false n places below apart = apart
either_apart true n places below apart = apart_push n places below apart

where_apart : (test : ℕ → Bool) (n : ℕ) → Apart (places_where test n)
unfolding Apart
where_apart test zero = tt
where_apart test (suc n) = either_apart (test n) n (places_where test n) (picked_below test n) (where_apart test n)

-- A line that is found is of one of the lines' places.
some_among : (b c : Bool) (here : Body) (rest : Option Body) (body : Body) → (rest ≡ Some body → c ≡ true)
    → (if b then Some here else rest) ≡ Some body → (b ≡ true) ⊎ (c ≡ true)
some_among true c here rest body later at = inl refl
some_among false c here rest body later at = inr (later at)

found_among : (j : Job) (lines : List ALine) (k : ℕ) (body : Body) → body_at j lines k ≡ Some body
    → among (map (number_of j) (places_of_lines lines)) k ≡ true
found_among j [] k body at = cc
found_among j (line ∷ lines) k body at =
    ⊎_elim (λ (e : (number_of j line.place == k) ≡ true). or_left (number_of j line.place == k) _ e)
    (λ (e : among (map (number_of j) (places_of_lines lines)) k ≡ true). or_right (number_of j line.place == k) _ e)
    (some_among (number_of j line.place == k) (among (map (number_of j) (places_of_lines lines)) k) line.body
    (body_at j lines k) body (λ later. found_among j lines k body later) at)

each_decides : (j : Job) (lines : List ALine) → Apart (map (number_of j) (places_of_lines lines))
    → ((k : ℕ) (body : Body) → body_at j lines k ≡ Some body → Decides body) → AllDecide lines
unfolding Apart
each_decides j [] apart each = tt
each_decides j (line ∷ lines) apart each =
    let m = number_of j line.place in (
      each m line.body (ap (λ (b : Bool). if b then Some line.body else body_at j lines m) (eqb_same m m refl)),
      each_decides j lines apart.1
          (λ k body at. each k body (⊎_elim (λ (e : (m == k) ≡ true).
          (let less = all_among (λ i. m < i) (map (number_of j) (places_of_lines lines)) k apart.0
          (found_among j lines k body at) in
          let same = eqb-true m k e in absurd (omega (arith, less, same))))
          (λ (e : (m == k) ≡ false). ap (λ (b : Bool). if b then Some line.body else body_at j lines k) e ∙ at)
          (cases_Bool (m == k)))),
    )

line_decides : (e : ℕ → Written) (class : ClassByNumber) (body : Body) (shown : Value) → is_line class ≡ true
    → ((written_by e class (Some body) shown).mark ≡ Undecided → ⊥) → Decides body
line_decides e (Local bit) body shown is decided = cc
line_decides e Free body shown is decided = cc
line_decides e (Carried from inverted) body shown is decided = cc
line_decides e Line (Enumerated bit) shown is decided = tt
line_decides e Line (Refuted bit log) shown is decided = tt
line_decides e Line (Pair first second) shown is decided = tt
line_decides e Line (Budget log) shown is decided = decided refl

pub all_decide : AllDecideLaw
all_decide j limits shown waveform lines fits yields decided =
    each_decides j lines (subst Apart (sym numbers) (where_apart test n)) each
  where
    n : ℕ
    n = length waveform

    test : ℕ → Bool
    test k = is_line (class_of j (certain waveform) k)

    numbers : map (number_of j) (places_of_lines lines) ≡ places_where test n
    numbers = ap (map (number_of j)) yields.places ∙ numbers_back j fits n (places_where test n) yields.within
        (picked_below test n)

    each : (k : ℕ) (body : Body) → body_at j lines k ≡ Some body → Decides body
    each k body at =
        let there = in_picked test n k (subst (λ ks. among ks k ≡ true) numbers (found_among j lines k body at)) in
        line_decides (written_at waveform) (class_of j (certain waveform) k) body (shown k) there.1
        (λ is. decided k there.0 (ap (λ (w : Written). w.mark) (yields.written k there.0)
        ∙ ap (λ b. (written_by (written_at waveform) (class_of j (certain waveform) k) b (shown k)).mark) at ∙ is))
