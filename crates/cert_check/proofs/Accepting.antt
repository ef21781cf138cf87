-- A certificate that is accepted has no fault: the wave that goes along its lines is, as far as it goes, the waveform that
-- they yield.
use Rattle.std.proofs.Common.{◌≡◌, ℕ, zero, suc, ◌+◌, ◌-◌, ◌<◌, ◌≤◌, ◌==◌, Bool, true, false, Option, Some, if◌then◌else◌, List, [], ◌∷◌, ◌++◌, length, map, refl, sym, ap, ◌∙◌, append_assoc, arith}
use Rattle.std.proofs.lemmas.List.{append-nil, append_cancel_left, map-append}
use Rattle.design_cell.specs.declared.value.Value.{Value}
use Rattle.design_circuit.proofs.Numbers.{number_of_place_at}
use Rattle.design_circuit.proofs.Rules.{AgreeBelow}
use Rattle.design_circuit.specs.declared.place.Place.{Place}
use Rattle.design_circuit.specs.declared.waveform.Written.{Written}
use Rattle.design_circuit.specs.Fits.{place_at}
use Rattle.design_circuit.specs.Job.{Job, number_of, places_of}
use Rattle.design_circuit.specs.Waveform.{certain, certain_by, written_at}
use Rattle.law_model.proofs.ClassesBefore.{class_local}
use Rattle.law_model.proofs.FactsBefore.{body_moved}
use Rattle.law_model.proofs.LinesByPlace.{body_back, eqb_same, line_found, no_line_yet}
use Rattle.law_model.proofs.PlacesWhere.{picked_same}
use Rattle.law_model.proofs.WrittenPlaces.{written_moved}
use Rattle.law_model.proofs.Roots.{carried_below}
use Rattle.law_model.specs.Class.{class_of}
use Rattle.law_model.specs.Line.{BodyHolds}
use Rattle.law_model.specs.Places.{places_where}
use Rattle.law_model.specs.Stated.{body_at}
use Rattle.law_model.specs.Yields.{Yields, is_line, line_of, places_of_lines, written_by}
use Rattle.law_model.specs.declared.class.ClassByNumber.{ClassByNumber}
use Rattle.law_model.specs.declared.class.ClassByNumber.TheVariants.{Local, Free, Carried, Line}
use Rattle.law_model.specs.declared.line.Body.{Body}
use Rattle.law_model.specs.declared.line.Line.{Line as ALine}
use Rattle.wave_proved.specs.Contents.{Contents, IsWave, job, next_number, shown_in}
use Rattle.wave_proved.specs.Token.{HasNext}

-- The numbers from n on, k of them, at which a test holds.
abbrev places_from : (ℕ → Bool) → ℕ → ℕ → List ℕ
places_from test n zero = []
places_from test n (suc k) = if test (n + k) then places_from test n k ++ (n + k) ∷ [] else places_from test n k

add_suc : (n k : ℕ) → n + suc k ≡ suc (n + k)
add_suc n k = omega arith

where_split : (test : ℕ → Bool) (n k : ℕ) → places_where test (n + k) ≡ places_where test n ++ places_from test n k
where_split test n zero = let e : n + 0 ≡ n = omega arith in rw e (sym (append-nil (places_where test n)))
where_split test n (suc k) =
    ap (places_where test) (add_suc n k)
    ∙ (elim (test (n + k)) as (λ t. (if t then places_where test (n + k) ++ (n + k) ∷ [] else places_where test (n + k))
    ≡ places_where test n ++ (if t then places_from test n k ++ (n + k) ∷ [] else places_from test n k)) [
      | true ↦ ap (λ ps. ps ++ (n + k) ∷ []) (where_split test n k) ∙ append_assoc (places_where test n) (places_from test n k) ((n + k) ∷ [])
      | false ↦ where_split test n k
    ])

-- The first of them is n where the test holds there.
from_first : (test : ℕ → Bool) (n k : ℕ) → test n ≡ true → (more : List ℕ) × (places_from test n (suc k) ≡ n ∷ more)
from_first test n zero holds =
    let e : n + 0 ≡ n = omega arith in
    ([], rw (e, holds) refl)
from_first test n (suc k) holds =
    let before = from_first test n k holds in
    elim (test (n + suc k)) as (λ t. (more : List ℕ)
    × ((if t then places_from test n (suc k) ++ (n + suc k) ∷ [] else places_from test n (suc k)) ≡ n ∷ more)) [
      | true ↦ (before.0 ++ (n + suc k) ∷ [], ap (λ ps. ps ++ (n + suc k) ∷ []) before.1)
      | false ↦ before
    ]

-- A line that is found stays so.
body_kept : (j : Job) (lines more : List ALine) (place : ℕ) (body : Body) → body_at j lines place ≡ Some body
    → body_at j (lines ++ more) place ≡ Some body
body_kept j [] more place body found = absurd cc
body_kept j (line ∷ lines) more place body found =
    (elim (number_of j line.place == place) as (λ t. (if t then Some line.body else body_at j lines place) ≡ Some body
    → (if t then Some line.body else body_at j (lines ++ more) place) ≡ Some body) [
      | true ↦ λ h. h
      | false ↦ λ h. body_kept j lines more place body h
    ]) found

-- What stands at a place rests on its line where its class is Line alone.
body_any : (earlier : ℕ → Written) (class : ClassByNumber) (a b : Option Body) (shown : Value) → (class ≡ Line → a ≡ b)
    → written_by earlier class a shown ≡ written_by earlier class b shown
body_any earlier (Local bit) a b shown same = refl
body_any earlier Free a b shown same = refl
body_any earlier (Carried from inverted) a b shown same = refl
body_any earlier Line a b shown same = ap (λ body. line_of body shown) (same refl)

-- A wave, and a waveform of all places that its lines and some more yield.
module _ (c : Contents) (wave : IsWave c) (rest : List ALine) (v : List Written) (long : length v ≡ places_of (job c))
    (yields : Yields (job c) c.limits (shown_in c) v (c.lines ++ rest)) where
  within : length c.written ≤ length v
  within = omega (arith, long, wave.holds.yields.within)

  -- As far as the wave goes, it is that waveform.
  here : (place : ℕ) → place < length c.written → ((k : ℕ) → k < place → written_at c.written k ≡ written_at v k)
      → written_at c.written place ≡ written_at v place
  unfolding certain
  here place less earlier =
      let j = job c in
      let fits = wave.fits.fits_job in
      let agree : AgreeBelow (certain c.written) (certain v) place = λ k before. ap (λ (x : Written). certain_by x.mark x.value) (earlier k before) in
      let low : place < places_of j = omega (arith, less, within, long) in
      let from_same : (from : ℕ) (inverted : Bool) → class_of j (certain c.written) place ≡ Carried from inverted
      → written_at c.written from ≡ written_at v from = λ from inverted is. earlier from (carried_below j fits (certain c.written) place from inverted low is) in
      let lined : class_of j (certain c.written) place ≡ Line → body_at j c.lines place ≡ body_at j (c.lines ++ rest) place = λ is.
      (let found = line_found j fits (certain c.written) (length c.written) place c.lines wave.holds.yields.within wave.holds.yields.places less is in
      found.1 ∙ sym (body_kept j c.lines rest place found.0 found.1)) in
      wave.holds.yields.written place less
      ∙ (written_moved (written_at c.written) (written_at v) (class_of j (certain c.written) place) (body_at j c.lines place) (shown_in c place) from_same
      ∙ (body_any (written_at v) (class_of j (certain c.written) place) (body_at j c.lines place) (body_at j (c.lines ++ rest) place) (shown_in c place) lined
      ∙ (ap (λ class. written_by (written_at v) class (body_at j (c.lines ++ rest) place) (shown_in c place))
      (class_local j fits (certain c.written) (certain v) place low agree)
      ∙ sym (yields.written place (omega (arith, less, within))))))

  below : (n place : ℕ) → place < n → place < length c.written → written_at c.written place ≡ written_at v place
  below zero place before less = absurd (omega arith)
  below (suc n) place before less = here place less (λ k earlier. below n k (omega arith) (omega arith))

  pub as_far : (place : ℕ) → place < length c.written → written_at c.written place ≡ written_at v place
  as_far place less = below (suc place) place (omega arith) less

  agree_next : AgreeBelow (certain c.written) (certain v) (next_number c)
  unfolding certain
  agree_next k before = ap (λ (x : Written). certain_by x.mark x.value) (as_far k before)

  -- What stands at the next place, by its class and its line.
  pub next_is : HasNext c → (body : Option Body)
      → (class_of (job c) (certain c.written) (next_number c) ≡ Line → body ≡ body_at (job c) (c.lines ++ rest) (next_number c))
      → written_by (written_at c.written) (class_of (job c) (certain c.written) (next_number c)) body (shown_in c (next_number c))
      ≡ written_at v (next_number c)
  next_is next body same =
      let j = job c in
      let n = next_number c in
      let class = class_of j (certain c.written) n in
      let from_same : (from : ℕ) (inverted : Bool) → class ≡ Carried from inverted → written_at c.written from ≡ written_at v from =
      λ from inverted is. as_far from (carried_below j wave.fits.fits_job (certain c.written) n from inverted next is) in
      written_moved (written_at c.written) (written_at v) class body (shown_in c n) from_same
      ∙ (body_any (written_at v) class body (body_at j (c.lines ++ rest) n) (shown_in c n) same
      ∙ (ap (λ k. written_by (written_at v) k (body_at j (c.lines ++ rest) n) (shown_in c n))
      (class_local j wave.fits.fits_job (certain c.written) (certain v) n next agree_next)
      ∙ sym (yields.written n (omega (arith, next, long)))))

  -- The places of the lines that are left are the Line places from the next one on.
  abbrev test : ℕ → Bool
  test place = is_line (class_of (job c) (certain v) place)

  front : map (place_at (job c)) (places_where test (next_number c)) ≡ places_of_lines c.lines
  front =
      let j = job c in
      let same : places_where (λ place. is_line (class_of j (certain c.written) place)) (next_number c) ≡ places_where test (next_number c) =
      picked_same (λ place. is_line (class_of j (certain c.written) place)) test (next_number c)
      (λ k less. ap is_line (class_local j wave.fits.fits_job (certain c.written) (certain v) k (omega (arith, less, within, long))
      (λ i low. agree_next i (omega arith)))) in
      ap (map (place_at j)) (sym same) ∙ sym wave.holds.yields.places

  left_from : (k : ℕ) → length v ≡ next_number c + k → places_of_lines rest ≡ map (place_at (job c)) (places_from test (next_number c) k)
  left_from k all =
      let j = job c in
      let n = next_number c in
      append_cancel_left (places_of_lines c.lines) (places_of_lines rest) (map (place_at j) (places_from test n k))
      (sym (map-append (λ (line : ALine). line.place) c.lines rest)
      ∙ (yields.places
      ∙ (ap (λ m. map (place_at j) (places_where test m)) all
      ∙ (ap (map (place_at j)) (where_split test n k)
      ∙ (map-append (place_at j) (places_where test n) (places_from test n k)
      ∙ ap (λ ps. ps ++ map (place_at j) (places_from test n k)) front)))))

  -- No line is left where all places are written,
  pub left_done : places_of (job c) ≤ next_number c → places_of_lines rest ≡ []
  left_done past = left_from 0 (omega (arith, past, within, long))

  -- and the next one is of the next place where that is a Line place.
  pub left_line : HasNext c → class_of (job c) (certain c.written) (next_number c) ≡ Line
      → (more : List Place) × (places_of_lines rest ≡ place_at (job c) (next_number c) ∷ more)
  left_line next is =
      let j = job c in
      let n = next_number c in
      let holds : test n ≡ true = ap is_line (sym (class_local j wave.fits.fits_job (certain c.written) (certain v) n next agree_next) ∙ is) in
      let k = length v - (n + 1) in
      let first = from_first test n k holds in
      (map (place_at j) first.0, left_from (suc k) (omega (arith, next, long)) ∙ ap (map (place_at j)) first.1)

  -- What the lines say of the next place is what its line says.
  pub left_body : (line : ALine) (others : List ALine) → rest ≡ line ∷ others → HasNext c → line.place ≡ place_at (job c) (next_number c)
      → body_at (job c) (c.lines ++ rest) (next_number c) ≡ Some line.body
  left_body line others is next names =
      let j = job c in
      let n = next_number c in
      let fits = wave.fits.fits_job in
      let number : number_of j line.place ≡ n = ap (number_of j) names ∙ number_of_place_at j n fits.ordering fits.all next in
      ap (λ ls. body_at j (c.lines ++ ls) n) is
      ∙ (body_back j c.lines (line ∷ others) n (no_line_yet j fits (certain c.written) n c.lines (omega (arith, next)) wave.holds.yields.places)
      ∙ ap (λ t. if t then Some line.body else body_at j others n) (eqb_same (number_of j line.place) n number))

  -- A body that holds there of the waveform holds of the wave.
  pub left_holds : (body : Body) → HasNext c → BodyHolds (job c) c.limits v (next_number c) body
      → BodyHolds (job c) c.limits c.written (next_number c) body
  left_holds body next holds =
      body_moved (job c) c.limits wave.fits.fits_job v c.written (next_number c) body next (λ k less. sym (agree_next k less)) holds

  pub agree_there : AgreeBelow (certain c.written) (certain v) (next_number c)
  agree_there = agree_next
