-- The wave invariant: what is written as its class and its line say, and doesn't contradict the history, keeps a
-- waveform sound, and its lines yield it.
use Rattle.std.proofs.Common.{◌≡◌, ℕ, suc, ◌<◌, ◌≤◌, Bool, List, [], ◌∷◌, ◌++◌, map, length, refl, sym, ap, ◌∙◌, arith, add-one, length-append, subst, Some, None, if◌then◌else◌}
use Rattle.std.proofs.lemmas.List.{append-nil, map-append}
use Rattle.design_cell.specs.declared.value.Value.{Value}
use Rattle.design_circuit.specs.declared.waveform.Written.{Written}
use Rattle.design_circuit.specs.Job.{Job, number_of, places_of}
use Rattle.design_circuit.specs.Fits.{Fits, place_at}
use Rattle.design_circuit.specs.Waveform.{written_at, certain}
use Rattle.design_circuit.proofs.Numbers.{number_of_place_at}
use Rattle.design_circuit.proofs.Rules.{AgreeBelow}
use Rattle.law_model.specs.Class.{class_of}
use Rattle.law_model.specs.Stated.{body_at}
use Rattle.law_model.specs.Line.{BodyHolds}
use Rattle.law_model.specs.Yields.{written_by, line_places, is_line, places_of_lines, Yields}
use Rattle.law_model.specs.Sound.{IsOptimistic, IsOptimisticAt, IsHonest}
use Rattle.law_model.specs.Growth.{IsLineOf, NextLines, NextSaid, NextHolds, Holds}
use Rattle.law_model.specs.declared.class.ClassByNumber.{ClassByNumber}
use Rattle.law_model.specs.declared.class.ClassByNumber.TheVariants.{Local, Free, Carried, Line}
use Rattle.law_model.specs.declared.line.Line.{Line as ALine}
use Rattle.law_model.specs.declared.line.Body.{Body}
use Rattle.law_model.proofs.LinesByPlace.{body_front, body_none, body_back, body_one, no_line_yet}
use Rattle.law_model.proofs.ClassesBefore.{class_local}
use Rattle.law_model.proofs.FactsBefore.{written_grown, written_last, certain_grown, body_moved}
use Rattle.law_model.proofs.PlacesWhere.{picked_same}
use Rattle.law_model.proofs.WrittenPlaces.{written_moved}
use Rattle.law_model.proofs.SoundGrowth.{each_grown}
use Rattle.law_model.proofs.YieldedSound.{empty_sound, yielded_sound, sound_honest}
use Rattle.law_model.proofs.Roots.{carried_below}
use Rattle.law_model.specs.declared.limits.Limits.{Limits}

-- The place of the new line.
new_number : (j : Job) (limits : Limits) → Fits j → (waveform : List Written) (new : List ALine)
    → length waveform < places_of j → (is : IsLineOf j limits waveform new) → number_of j is.line.place ≡ length waveform
new_number j limits fits waveform new within is = ap (number_of j) is.place
    ∙ number_of_place_at j (length waveform) fits.ordering fits.all within

-- The new lines are of the next place.
new_elsewhere : (j : Job) (limits : Limits) → Fits j → (waveform : List Written) (new : List ALine) (class : ClassByNumber)
    → length waveform < places_of j → NextLines j limits waveform new class → (k : ℕ) → k < length waveform
    → body_at j new k ≡ None
new_elsewhere j limits fits waveform new (Local bit) within is k less = ap (λ ls. body_at j ls k) is
new_elsewhere j limits fits waveform new Free within is k less = ap (λ ls. body_at j ls k) is
new_elsewhere j limits fits waveform new (Carried from inverted) within is k less = ap (λ ls. body_at j ls k) is
new_elsewhere j limits fits waveform new Line within is k less =
    ap (λ ls. body_at j ls k) is.one ∙ body_none j (is.line ∷ []) k
    (λ e. (let place = new_number j limits fits waveform new within is in omega (arith, place, e, less)), tt)

some_same : (a b : Body) → Some a ≡ Some b → a ≡ b
some_same a b same = cc

none_some : (P : Type 0) (body : Body) → None ≡ Some body → P
none_some P body same = cc

-- A new line holds.
new_holds : (j : Job) (limits : Limits) → Fits j → (waveform : List Written) (new : List ALine) (class : ClassByNumber)
    → length waveform < places_of j → NextLines j limits waveform new class → (body : Body)
    → body_at j new (length waveform) ≡ Some body → BodyHolds j limits waveform (length waveform) body
new_holds j limits fits waveform new (Local bit) within is body at = none_some _ body
    (sym (ap (λ ls. body_at j ls (length waveform)) is) ∙ at)
new_holds j limits fits waveform new Free within is body at = none_some _ body
    (sym (ap (λ ls. body_at j ls (length waveform)) is) ∙ at)
new_holds j limits fits waveform new (Carried from inverted) within is body at = none_some _ body
    (sym (ap (λ ls. body_at j ls (length waveform)) is) ∙ at)
new_holds j limits fits waveform new Line within is body at =
    let one : Some is.line.body ≡ Some body =
    sym (body_one j is.line (length waveform) (new_number j limits fits waveform new within is))
    ∙ sym (ap (λ ls. body_at j ls (length waveform)) is.one) ∙ at in
    subst (BodyHolds j limits waveform (length waveform)) (some_same is.line.body body one) is.holds

-- The lines stand at the Line places.
lines_grown : (j : Job) (limits : Limits) (waveform : List Written) (lines new : List ALine) (class : ClassByNumber)
    (places : List ℕ) → NextLines j limits waveform new class → places_of_lines lines ≡ map (place_at j) places
    → places_of_lines (lines ++ new) ≡ map (place_at j)
    (if is_line class then places ++ length waveform ∷ [] else places)
lines_grown j limits waveform lines new (Local bit) places is are = ap (λ ls. places_of_lines (lines ++ ls)) is
    ∙ ap places_of_lines (append-nil lines) ∙ are
lines_grown j limits waveform lines new Free places is are = ap (λ ls. places_of_lines (lines ++ ls)) is
    ∙ ap places_of_lines (append-nil lines) ∙ are
lines_grown j limits waveform lines new (Carried from inverted) places is are = ap (λ ls. places_of_lines (lines ++ ls))
    is ∙ ap places_of_lines (append-nil lines) ∙ are
lines_grown j limits waveform lines new Line places is are =
    map-append (λ (line : ALine). line.place) lines new ∙ ap (λ ls. places_of_lines lines ++ places_of_lines ls) is.one
    ∙ ap (λ p. places_of_lines lines ++ p ∷ []) is.place ∙ ap (λ ps. ps ++ place_at j (length waveform) ∷ []) are
    ∙ sym (map-append (place_at j) places (length waveform ∷ []))

-- Lines yield a waveform with the next place, where it is written as its class and its line say.
pub yields_grown : (j : Job) (limits : Limits) → Fits j
    → (shown : ℕ → Value) (waveform : List Written) (lines : List ALine) (x : Written) (new : List ALine)
    → Yields j limits shown waveform lines → NextSaid j limits shown waveform x new
    → Yields j limits shown (waveform ++ x ∷ []) (lines ++ new)
yields_grown j limits fits shown waveform lines x new yields next = record {
  within = (let long = length-append waveform (x ∷ []) in let low = next.within in omega (arith, long, low));
  places = places_grown;
  bodies = λ k body less. each_grown (λ k. (body : Body) → body_at j (lines ++ new) k ≡ Some body
      → BodyHolds j limits v k body) waveform x bodies_earlier bodies_last k less body;
  written = each_grown (λ k. written_at v k ≡ written_by (written_at v) (class_of j (certain v) k)
      (body_at j (lines ++ new) k) (shown k)) waveform x written_earlier written_next;
}
  where
    n : ℕ
    n = length waveform

    v : List Written
    v = waveform ++ x ∷ []

    agree : (k : ℕ) → k ≤ n → AgreeBelow (certain waveform) (certain v) k
    agree k up = λ i less. certain_grown waveform x i (omega arith)

    class_same : (k : ℕ) → k ≤ n → class_of j (certain waveform) k ≡ class_of j (certain v) k
    class_same k up = let within = next.within in class_local j fits (certain waveform) (certain v) k (omega arith)
        (agree k up)

    body_same : (k : ℕ) → k < n → body_at j (lines ++ new) k ≡ body_at j lines k
    body_same k less = body_front j lines new k
        (new_elsewhere j limits fits waveform new (class_of j (certain waveform) n) next.within next.lines k less)

    body_next : body_at j (lines ++ new) n ≡ body_at j new n
    body_next = let within = next.within in body_back j lines new n
        (no_line_yet j fits (certain waveform) n lines (omega (arith, within)) yields.places)

    from_same : (k : ℕ) → k ≤ n → (from : ℕ) (inverted : Bool) → class_of j (certain waveform) k ≡ Carried from inverted
        → written_at waveform from ≡ written_at v from
    from_same k up from inverted is =
        let within = next.within in
        let less = carried_below j fits (certain waveform) k from inverted (omega arith) is in
        sym (written_grown waveform x from (omega (arith, less)))

    places_grown : places_of_lines (lines ++ new) ≡ map (place_at j) (line_places j (certain v) (length v))
    places_grown =
        let within = next.within in
        let long : length v ≡ suc n = length-append waveform (x ∷ []) ∙ add-one n in
        let same : line_places j (certain waveform) (suc n) ≡ line_places j (certain v) (suc n) = picked_same
        (λ k. is_line (class_of j (certain waveform) k)) (λ k. is_line (class_of j (certain v) k)) (suc n)
        (λ k less. ap is_line (class_same k (omega arith))) in
        lines_grown j limits waveform lines new (class_of j (certain waveform) n) (line_places j (certain waveform) n)
        next.lines yields.places ∙ ap (map (place_at j)) (same ∙ ap (line_places j (certain v)) (sym long))

    bodies_earlier : (k : ℕ) → k < n → (body : Body) → body_at j (lines ++ new) k ≡ Some body
        → BodyHolds j limits v k body
    bodies_earlier k less body at = let within = next.within in body_moved j limits fits waveform v k body (omega arith)
        (agree k (omega arith)) (yields.bodies k body less (sym (body_same k less) ∙ at))

    bodies_last : (body : Body) → body_at j (lines ++ new) n ≡ Some body → BodyHolds j limits v n body
    bodies_last body at = body_moved j limits fits waveform v n body next.within (agree n (omega arith))
        (new_holds j limits fits waveform new (class_of j (certain waveform) n) next.within next.lines body
        (sym body_next ∙ at))

    written_earlier : (k : ℕ) → k < n → written_at v k ≡ written_by (written_at v) (class_of j (certain v) k)
        (body_at j (lines ++ new) k) (shown k)
    written_earlier k less =
        written_grown waveform x k less ∙ yields.written k less
        ∙ written_moved (written_at waveform) (written_at v) (class_of j (certain waveform) k) (body_at j lines k)
        (shown k) (from_same k (omega arith)) ∙ ap (λ class. written_by (written_at v) class (body_at j lines k)
        (shown k)) (class_same k (omega arith)) ∙ ap (λ body. written_by (written_at v) (class_of j (certain v) k)
        body (shown k)) (sym (body_same k less))

    written_next : written_at v n ≡ written_by (written_at v) (class_of j (certain v) n) (body_at j (lines ++ new) n)
        (shown n)
    written_next =
        written_last waveform x ∙ next.as_said ∙ written_moved (written_at waveform) (written_at v)
        (class_of j (certain waveform) n) (body_at j new n) (shown n) (from_same n (omega arith))
        ∙ ap (λ class. written_by (written_at v) class (body_at j new n) (shown n)) (class_same n (omega arith))
        ∙ ap (λ body. written_by (written_at v) (class_of j (certain v) n) body (shown n)) (sym body_next)

-- No place is optimistic where none was, and the next one isn't.
honest_grown : (shown : ℕ → Value) (waveform : List Written) (x : Written) → IsHonest shown waveform
    → (IsOptimistic x.mark x.value (shown (length waveform)) → ⊥) → IsHonest shown (waveform ++ x ∷ [])
honest_grown shown waveform x honest next =
    each_grown (λ k. IsOptimisticAt shown (waveform ++ x ∷ []) k → ⊥) waveform x
    (λ k less. subst (λ (w : Written). IsOptimistic w.mark w.value (shown k) → ⊥)
    (sym (written_grown waveform x k less)) (honest k less))
    (subst (λ (w : Written). IsOptimistic w.mark w.value (shown (length waveform)) → ⊥) (sym (written_last waveform x))
    next)

-- The wave invariant.
pub grown : (j : Job) (limits : Limits) → Fits j
    → (shown : ℕ → Value) (waveform : List Written) (lines : List ALine) (x : Written) (new : List ALine)
    → Holds j limits shown waveform lines → NextHolds j limits shown waveform x new
    → Holds j limits shown (waveform ++ x ∷ []) (lines ++ new)
grown j limits fits shown waveform lines x new holds next =
    let yields = yields_grown j limits fits shown waveform lines x new holds.yields next.said in
    let honest = honest_grown shown waveform x (sound_honest j limits shown waveform lines holds.sound) next.honest in
    record {
      sound = yielded_sound j limits fits shown (waveform ++ x ∷ []) (lines ++ new) yields honest;
      yields =
          yields;
    }

-- At the start nothing is written.
pub nothing_holds : (j : Job) (limits : Limits) (shown : ℕ → Value) → Holds j limits shown [] []
nothing_holds j limits shown = record {
  sound = empty_sound j limits shown [];
  yields = record {
    within = omega arith;
    places = refl;
    bodies = λ place body less at. absurd (omega arith);
    written = λ place less. absurd (omega arith);
  };
}
