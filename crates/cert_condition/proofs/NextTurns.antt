-- One turn more: the list without its next place, and the condition after it.
use Rattle.std.proofs.Common.{◌≡◌, ◌≢◌, ℕ, suc, ◌+◌, ◌-◌, ◌<◌, not, Bool, true, false, List, [], ◌∷◌, ◌++◌, drop, length, map, take, refl, sym, ap, ◌∙◌, arith, subst, length-append, append_assoc}
use Rattle.std.specs.Prelude.{ℤ, nat_lt, if◌then◌else◌, slice_set}
use Rattle.std.specs.List.{All, AllPairs, remove}
use Rattle.std.proofs.lemmas.List.{length-map}
use Rattle.std.proofs.lemmas.List.Edits.{length-remove}
use Rattle.std.proofs.lemmas.List.Kept.{AllPairs-filter, AllPairs-from_increasing}
use Rattle.design_circuit.specs.declared.place.Place.{Place}
use Rattle.design_cell.specs.declared.value.Value.{Value}
use Rattle.design_cell.specs.Value.{is_unknown}
use Rattle.design_circuit.specs.Fits.{place_at}
use Rattle.design_circuit.specs.Job.{Job}
use Rattle.design_circuit.specs.Waveform.{certain}
use Rattle.sat_proof.specs.Assignment.{HasNoZero, IsModel}
use Rattle.sat_proof.specs.Log.{AreFresh, Fit, Refutes}
use Rattle.sat_proof.specs.declared.clause.Cnf.{Cnf}
use Rattle.law_model.proofs.PlacesWhere.{picked_rises}
use Rattle.decide_cone.specs.Boundary.{boundary, certain_boundary, certain_boundary_in, is_boundary}
use Rattle.wave_proved.specs.Contents.{Contents, job, shown_in}
use Rattle.cert_condition.specs.Exchange.{IsNextExchanged, IsNextTaken}
use Rattle.cert_condition.specs.Condition.{AreOfBoundary}
use Rattle.cert_condition.specs.Turns.{AreTurnsOf, due_after, first_due, first_kept, kept_after, kept_with}
use Rattle.cert_condition.specs.TurnQuery.{turn_denial, unit_clause}
use Rattle.cert_condition.specs.View.{IsAbout, ConditionView, FindsNext, HeldLaw, HoldsTogether, HoldsTurns, IsBegun, IsConditionOf, IsKeeping, IsNextQuery, IsNextTurn, IsTurned, due_count, due_in, first_count, kept_in, current_list, next_in, settled_bit}
use Rattle.cert_condition.specs.declared.next.NextQuery.{NextQuery}
use Rattle.law_model.specs.declared.turn.Turn.{Turn}
use Rattle.law_model.specs.declared.turn.Turn.TheVariants.{Dropped, Needed, Tried}
use Rattle.cert_condition.proofs.ApartClauses.{turn_query_is}
use Rattle.cert_condition.proofs.ApartLists.{skipped_apart}
use Rattle.cert_condition.proofs.KeptConditions.{among_skipped, first_listed, turns_law, turns_more}
use Rattle.cert_condition.proofs.KeptUnits.{unit_exchanged, unit_taken, unit_there}

-- A list without the element behind its front.
cut_map : {A : Type 0} (f : ℕ → A) (kept due : List ℕ)
    → take (length kept) (map f (kept ++ due)) ++ drop (suc (length kept)) (map f (kept ++ due))
    ≡ map f (kept ++ drop 1 due)
cut_map f [] [] = refl
cut_map f [] (x ∷ due) = refl
cut_map f (x ∷ kept) due = ap (λ ys. f x ∷ ys) (cut_map f kept due)

-- The list of a condition under way is a condition.
pub condition_holds : HeldLaw
condition_holds c root view is =
    turns_law (job c) c.limits (shown_in c) c.written c.lines is.wave.fits.fits_job is.wave.holds.sound root
    c.limits.conflicts
    (settled_bit c root) view.turns is.has is.turns

skipped_listed : (j : Job) (known : ℕ → Value) (root : ℕ) (kept due : List ℕ) → AreOfBoundary j known root (kept ++ due)
    → AreOfBoundary j known root (kept ++ drop 1 due)
skipped_listed j known root kept [] all k at = all k at
skipped_listed j known root kept (place ∷ due) all k at = all k (among_skipped kept due place k at)

-- Its places are apart.
boundary_apart : (j : Job) (known : ℕ → Value) (root : ℕ) → AllPairs (λ a b. a ≢ b) (certain_boundary j known root)
boundary_apart j known root =
    AllPairs-filter (λ a b. a ≢ b) (λ k. not (is_unknown (known k))) (boundary j known root)
    (λ a b d less within same.
    (let low = AllPairs-from_increasing (boundary j known root) (picked_rises (is_boundary j known root) root) a b d less
    within in omega (arith, low, same)))

turn_apart : (kept due : List ℕ) (place : ℕ) (turn : Turn) → AllPairs (λ a b. a ≢ b) (kept ++ place ∷ due)
    → AllPairs (λ a b. a ≢ b) (kept_with kept place turn ++ due)
turn_apart kept due place (Dropped log) apart = skipped_apart (λ a b. a ≢ b) kept place due apart
turn_apart kept due place (Needed model) apart =
    subst (AllPairs (λ a b. a ≢ b)) (sym (append_assoc kept (place ∷ []) due)) apart
turn_apart kept due place (Tried log) apart =
    subst (AllPairs (λ a b. a ≢ b)) (sym (append_assoc kept (place ∷ []) due)) apart

turns_apart : (kept due : List ℕ) (turns : List Turn) → AllPairs (λ a b. a ≢ b) (kept ++ due)
    → AllPairs (λ a b. a ≢ b) (kept_after kept due turns ++ due_after due turns)
turns_apart kept due [] apart = apart
turns_apart kept [] (turn ∷ turns) apart = apart
turns_apart kept (place ∷ due) (turn ∷ turns) apart =
    turns_apart (kept_with kept place turn) due turns (turn_apart kept due place turn apart)

listed_apart : (c : Contents) (root : ℕ) (turns : List Turn) → AllPairs (λ a b. a ≢ b) (current_list c root turns)
listed_apart c root turns =
    turns_apart (first_kept (certain_boundary_in c root)) (first_due (certain_boundary_in c root)) turns
    (subst (AllPairs (λ a b. a ≢ b)) (sym (first_listed (certain_boundary_in c root)))
    (boundary_apart (job c) (certain c.written) root))

skipped_one : (kept due : List ℕ) → AllPairs (λ a b. a ≢ b) (kept ++ due) → AllPairs (λ a b. a ≢ b) (kept ++ drop 1 due)
skipped_one kept [] apart = apart
skipped_one kept (place ∷ due) apart = skipped_apart (λ a b. a ≢ b) kept place due apart

first_of : (xs : List ℕ) → 0 < length xs → (x : ℕ) × (rest : List ℕ) × (xs ≡ x ∷ rest)
first_of [] some = absurd (omega (arith, some))
first_of (x ∷ rest) some = (x, rest, refl)

-- The query that is kept is that of the next turn.
pub next_query : (view : ConditionView) (query : Cnf) → 0 < view.due → query ≡ view.next.query → IsNextQuery view query
next_query view query some same c root is =
    let before : List ℕ = kept_in c root view.turns in
    let waiting : List ℕ = due_in c root view.turns in
    let first = first_of waiting (let long = is.due in omega (arith, some, long)) in
    let about = is.about first.0 first.1 first.2 in
    turn_query_is (job c) c.limits (shown_in c) c.written c.lines is.wave.fits.fits_job is.wave.holds.sound root
    (settled_bit c root) is.has (next_in c root view.turns)
    (skipped_listed (job c) (certain c.written) root before waiting (condition_holds c root view is).places)
    (skipped_one before waiting (listed_apart c root view.turns)) about.whole about.are_whole query
    (ap (λ (q : Cnf). q.vars) same ∙ about.vars)
    (ap (λ (q : Cnf). q.clauses) same ∙ about.clauses
    ∙ ap (λ xs. (about.whole ++ map (unit_clause (job c) (certain c.written) root) xs)
    ++ turn_denial (job c) (certain c.written) root (settled_bit c root) ∷ [])
    (ap (λ xs. before ++ drop 1 xs) (sym first.2)))

-- What is found of it.
pub found_model : (view : ConditionView) (query : Cnf) (model : List Bool) → IsNextQuery view query
    → IsModel query.vars query.clauses model → FindsNext view (λ q. IsModel q.vars q.clauses model)
found_model view query model next is c root of = (query, next c root of, is)

pub found_refuted : (view : ConditionView) (query : Cnf) (log : List (List ℤ)) → IsNextQuery view query
    → Fit query.vars log → Refutes query.clauses log
    → FindsNext view (λ q. Fit q.vars log × Refutes q.clauses log)
found_refuted view query log next fit is c root of = (query, next c root of, (fit, is))

pub found_fresh : (view : ConditionView) (query : Cnf) (log : List (List ℤ)) → IsNextQuery view query
    → Fit query.vars log → AreFresh query.clauses log → length log ≡ view.limit
    → FindsNext view (λ q. Fit q.vars log × AreFresh q.clauses log × (length log ≡ view.limit))
found_fresh view query log next fit is long c root of = (query, next c root of, (fit, is, long))

-- Turns that say it.
pub turn_dropped : (view : ConditionView) (log : List (List ℤ)) → All HasNoZero log
    → FindsNext view (λ q. Fit q.vars log × Refutes q.clauses log) → IsNextTurn view (Dropped log)
turn_dropped view log some finds c root is =
    let found = finds c root is in
    record {
      query = found.0;
      is_query = found.1;
      finds = (record { fit = found.2.0; no_zero = some }, found.2.1);
    }

pub turn_needed : (view : ConditionView) (model : List Bool)
    → FindsNext view (λ q. IsModel q.vars q.clauses model) → IsNextTurn view (Needed model)
turn_needed view model finds c root is =
    let found = finds c root is in record { query = found.0; is_query = found.1; finds = found.2 }

pub turn_tried : (view : ConditionView) (log : List (List ℤ)) → All HasNoZero log
    → FindsNext view (λ q. Fit q.vars log × AreFresh q.clauses log × (length log ≡ view.limit))
    → IsNextTurn view (Tried log)
turn_tried view log some finds c root is =
    let found = finds c root is in
    record {
      query = found.0;
      is_query = found.1;
      finds = (record { fit = found.2.0; no_zero = some }, found.2.1, found.2.2 ∙ is.limit);
    }

-- The parts of the condition after a turn.
pub record AreTurnedParts (old : ConditionView) (turn : Turn) (new : ConditionView) : Type 0 where
  pub turns_are : new.turns ≡ old.turns ++ turn ∷ []
  pub due_is : new.due + 1 ≡ old.due
  pub limit_is : new.limit ≡ old.limit
  pub place_is : new.place ≡ old.place
  pub boundary_is : new.boundary ≡ old.boundary
  pub kept_is : (c : Contents) (root place : ℕ) (rest : List ℕ) → IsConditionOf c root old
      → due_in c root old.turns ≡ place ∷ rest
      → new.kept ≡ length (kept_with (kept_in c root old.turns) place turn)
  pub listed_is : (c : Contents) (root place : ℕ) (rest : List ℕ) → IsConditionOf c root old
      → due_in c root old.turns ≡ place ∷ rest
      → new.listed ≡ map (place_at (job c)) (kept_with (kept_in c root old.turns) place turn ++ rest)
  pub about_next : (c : Contents) (root place q : ℕ) (more : List ℕ) → IsConditionOf c root old
      → due_in c root old.turns ≡ place ∷ q ∷ more
      → IsAbout c root new.next (kept_with (kept_in c root old.turns) place turn ++ more) q

pub turned : (old : ConditionView) (turn : Turn) (new : ConditionView) → 0 < old.due → IsNextTurn old turn
    → AreTurnedParts old turn new → IsTurned old turn new
turned old turn new some next parts = record {
  turns = parts.turns_are;
  due = parts.due_is;
  limit = parts.limit_is;
  place = parts.place_is;
  boundary = parts.boundary_is;
  is = after;
}
  where
    after : (c : Contents) (root : ℕ) → IsConditionOf c root old → IsConditionOf c root new
    after c root is =
        let j : Job = job c in
        let b : List ℕ = certain_boundary_in c root in
        let before : List ℕ = kept_in c root old.turns in
        let waiting : List ℕ = due_in c root old.turns in
        let first = first_of waiting (let same = is.due in omega (arith, some, same)) in
        let more = turns_more j (certain c.written) root (settled_bit c root) c.limits.conflicts (first_kept b) (first_due b) old.turns
        first.0 first.1 turn is.turns first.2 (next c root is) in
        let kept_now : kept_in c root new.turns ≡ kept_with before first.0 turn =
        ap (kept_in c root) parts.turns_are ∙ more.kept_is in
        let due_now : due_in c root new.turns ≡ first.1 =
        ap (due_in c root) parts.turns_are ∙ more.due_is ∙ ap (drop 1) first.2 in
        record {
          wave = is.wave;
          has = is.has;
          place = parts.place_is ∙ is.place;
          boundary = parts.boundary_is ∙ is.boundary;
          limit = parts.limit_is ∙ is.limit;
          turns = subst (AreTurnsOf j (certain c.written) root (settled_bit c root) c.limits.conflicts) (sym parts.turns_are) more.are;
          kept = parts.kept_is c root first.0 first.1 is first.2 ∙ ap length (sym kept_now);
          due = (let long : length waiting ≡ length first.1 + 1 = ap length first.2
              ∙ (let e : suc (length first.1) ≡ length first.1 + 1 = omega arith in e) in
              let less = ap length due_now in let same = is.due in let step = parts.due_is in
              omega (arith, long, less, same, step));
          listed = parts.listed_is c root first.0 first.1 is first.2
              ∙ ap (map (place_at j)) (ap (λ xs. xs ++ first.1) (sym kept_now)
              ∙ ap (λ ys. kept_in c root new.turns ++ ys) (sym due_now));
          about = λ place rest at.
              (let ahead : waiting ≡ first.0 ∷ place ∷ rest =
              first.2 ∙ ap (λ ys. first.0 ∷ ys) (sym due_now ∙ at) in
              subst (λ xs. IsAbout c root new.next (xs ++ rest) place) (sym kept_now)
              (parts.about_next c root first.0 place rest is ahead));
        }

-- More than one turn was due.
more_due : (c : Contents) (root : ℕ) (old : ConditionView) (place q : ℕ) (more : List ℕ) → IsConditionOf c root old
    → due_in c root old.turns ≡ place ∷ q ∷ more → 1 < old.due
more_due c root old place q more is ahead = let long = ap length ahead in let same = is.due in omega (arith, long, same)

-- Where the place leaves.
pub dropped_parts : (old : ConditionView) (log : List (List ℤ)) (new : ConditionView) → 0 < old.due
    → new.turns ≡ old.turns ++ Dropped log ∷ [] → new.due ≡ old.due - 1 → new.limit ≡ old.limit
    → new.place ≡ old.place → new.boundary ≡ old.boundary → new.kept ≡ old.kept
    → new.listed ≡ remove old.listed old.kept → IsNextTaken old.next old.kept old.due new.next
    → AreTurnedParts old (Dropped log) new
dropped_parts old log new some turns_are due_is limit_is place_is boundary_is kept_is listed_is taken = record {
  turns_are = turns_are;
  due_is = omega (arith, some, due_is);
  limit_is = limit_is;
  place_is = place_is;
  boundary_is = boundary_is;
  kept_is = λ c root place rest is first. kept_is ∙ is.kept;
  listed_is = λ c root place rest is first.
      (let before : List ℕ = kept_in c root old.turns in
      listed_is ∙ ap (λ n. remove old.listed n) is.kept ∙ ap (λ xs. remove xs (length before)) is.listed
      ∙ cut_map (place_at (job c)) before (due_in c root old.turns)
      ∙ ap (λ ys. map (place_at (job c)) (before ++ drop 1 ys)) first);
  about_next = about_next;
}
  where
    about_next : (c : Contents) (root place q : ℕ) (more : List ℕ) → IsConditionOf c root old
        → due_in c root old.turns ≡ place ∷ q ∷ more
        → IsAbout c root new.next (kept_in c root old.turns ++ more) q
    about_next c root place q more is ahead =
        let before : List ℕ = kept_in c root old.turns in
        let about = is.about place (q ∷ more) ahead in
        let now = taken (more_due c root old place q more is ahead) in
        let at : old.next.cone + old.kept ≡ length about.whole + length before =
        (let front = about.cone in let kept = is.kept in omega (arith, front, kept)) in
        let d : List (List ℤ) = turn_denial (job c) (certain c.written) root (settled_bit c root) ∷ [] in
        record {
          whole = about.whole;
          are_whole = about.are_whole;
          cone = now.cone ∙ about.cone;
          vars = now.vars ∙ about.vars;
          clauses = now.clauses ∙ unit_taken (unit_clause (job c) (certain c.written) root) about.whole d
              old.next.query.clauses before q more (old.next.cone + old.kept) about.clauses at;
          away = now.away ∙ unit_there (unit_clause (job c) (certain c.written) root) about.whole d
              old.next.query.clauses before q more (old.next.cone + old.kept) [] about.clauses at;
        }

-- Where it stays.
keeping : (kept : List ℕ) (place : ℕ) (turn : Turn) → IsKeeping turn → kept_with kept place turn ≡ kept ++ place ∷ []
keeping kept place (Dropped log) stays = absurd stays
keeping kept place (Needed model) stays = refl
keeping kept place (Tried log) stays = refl

pub kept_parts : (old : ConditionView) (turn : Turn) (new : ConditionView) → IsKeeping turn → 0 < old.due
    → new.turns ≡ old.turns ++ turn ∷ [] → new.due ≡ old.due - 1 → new.limit ≡ old.limit
    → new.place ≡ old.place → new.boundary ≡ old.boundary → new.kept ≡ old.kept + 1
    → new.listed ≡ old.listed → IsNextExchanged old.next old.kept old.due new.next → AreTurnedParts old turn new
kept_parts old turn new stays some turns_are due_is limit_is place_is boundary_is kept_is listed_is exchanged = record {
  turns_are = turns_are;
  due_is = omega (arith, some, due_is);
  limit_is = limit_is;
  place_is = place_is;
  boundary_is = boundary_is;
  kept_is = λ c root place rest is first.
      (let before : List ℕ = kept_in c root old.turns in
      let long = length-append before (place ∷ []) in
      let same = is.kept in
      (let e : new.kept ≡ length (before ++ place ∷ []) = omega (arith, long, same, kept_is) in e)
      ∙ ap length (sym (keeping before place turn stays)));
  listed_is = λ c root place rest is first.
      (let before : List ℕ = kept_in c root old.turns in
      listed_is ∙ is.listed ∙ ap (map (place_at (job c)))
      (ap (λ ys. before ++ ys) first ∙ sym (append_assoc before (place ∷ []) rest)
      ∙ ap (λ xs. xs ++ rest) (sym (keeping before place turn stays))));
  about_next = about_next;
}
  where
    about_next : (c : Contents) (root place q : ℕ) (more : List ℕ) → IsConditionOf c root old
        → due_in c root old.turns ≡ place ∷ q ∷ more
        → IsAbout c root new.next (kept_with (kept_in c root old.turns) place turn ++ more) q
    about_next c root place q more is ahead =
        let before : List ℕ = kept_in c root old.turns in
        let about = is.about place (q ∷ more) ahead in
        let now = exchanged (more_due c root old place q more is ahead) in
        let at : old.next.cone + old.kept ≡ length about.whole + length before =
        (let front = about.cone in let kept = is.kept in omega (arith, front, kept)) in
        let d : List (List ℤ) = turn_denial (job c) (certain c.written) root (settled_bit c root) ∷ [] in
        subst (λ xs. IsAbout c root new.next (xs ++ more) q) (sym (keeping before place turn stays)) (record {
          whole = about.whole;
          are_whole = about.are_whole;
          cone = now.cone ∙ about.cone;
          vars = now.vars ∙ about.vars;
          clauses = now.clauses
              ∙ ap (slice_set old.next.query.clauses (old.next.cone + old.kept)) about.away
              ∙ unit_exchanged (unit_clause (job c) (certain c.written) root) about.whole d
              old.next.query.clauses before place q more (old.next.cone + old.kept) about.clauses at;
          away = now.away ∙ unit_there (unit_clause (job c) (certain c.written) root) about.whole d
              old.next.query.clauses before q more (old.next.cone + old.kept) [] about.clauses at;
        })

-- Where no turn is made yet.
first_long : (b : List ℕ) → length (first_kept b) ≡ first_count (length b)
first_long b = by (nat_lt 64 (length b))
  where
    by : (many : Bool) → length (if many then b else []) ≡ (if many then length b else 0)
    by true = refl
    by false = refl

pub due_long : (b : List ℕ) → length (first_due b) ≡ due_count (length b)
due_long b = by (nat_lt 64 (length b))
  where
    by : (many : Bool) → length (if many then [] else b) ≡ (if many then 0 else length b)
    by true = refl
    by false = refl

-- Where some are due none is kept at first.
none_kept : (b : List ℕ) (place : ℕ) (rest : List ℕ) → first_due b ≡ place ∷ rest → first_kept b ≡ []
none_kept b place rest = by (nat_lt 64 (length b))
  where
    by : (many : Bool) → (if many then [] else b) ≡ place ∷ rest → (if many then b else []) ≡ []
    by true e = cc
    by false e = refl

pub begun : (place : Place) (listed : List Place) (next : NextQuery) (limit : ℕ) (new : ConditionView)
    → new.turns ≡ [] → new.kept ≡ first_count (length listed) → new.due ≡ due_count (length listed)
    → new.listed ≡ listed → new.limit ≡ limit → new.next ≡ next → new.place ≡ place → new.boundary ≡ listed
    → IsBegun place listed next limit new
begun here listed next limit new none kept_is due_is listed_is limit_is next_is place_is boundary_is c root from =
    let b : List ℕ = certain_boundary_in c root in
    let long : length listed ≡ length b = ap length from.listed_are ∙ length-map b (place_at (job c)) in
    record {
      wave = from.wave;
      has = from.has;
      place = place_is ∙ from.place_is;
      boundary = boundary_is ∙ from.listed_are;
      limit = limit_is ∙ from.limit_is;
      turns = subst (AreTurnsOf (job c) (certain c.written) root (settled_bit c root) c.limits.conflicts) (sym none) tt;
      kept = kept_is ∙ ap first_count long ∙ sym (first_long b) ∙ ap (λ ts. length (kept_in c root ts)) (sym none);
      due = due_is ∙ ap due_count long ∙ sym (due_long b) ∙ ap (λ ts. length (due_in c root ts)) (sym none);
      listed = listed_is ∙ from.listed_are ∙ ap (map (place_at (job c))) (sym (first_listed b))
          ∙ ap (λ ts. map (place_at (job c)) (current_list c root ts)) (sym none);
      about = λ place rest at.
          (let first : first_due b ≡ place ∷ rest = ap (due_in c root) (sym none) ∙ at in
          subst (λ a. IsAbout c root a (kept_in c root new.turns ++ rest) place) (sym next_is)
          (subst (λ xs. IsAbout c root next (xs ++ rest) place)
          (sym (ap (kept_in c root) none ∙ none_kept b place rest first)) (from.about place rest first)));
    }

pub counts_together : (count : ℕ) → first_count count + due_count count ≡ count
counts_together count = by (nat_lt 64 count)
  where
    by : (many : Bool) → (if many then count else 0) + (if many then 0 else count) ≡ count
    by true = omega arith
    by false = omega arith

-- The parts go together after a turn that drops its place.
pub taken_together : (listed now : List Place) (kept due : ℕ) (next new : NextQuery) → HoldsTogether listed kept due next
    → 0 < due → now ≡ remove listed kept → IsNextTaken next kept due new → HoldsTogether now kept (due - 1) new
taken_together listed now kept due next new holds some now_is taken =
    let all = holds.all in
    let shorter : length now + 1 ≡ length listed =
    ap (λ xs. length xs + 1) now_is ∙ length-remove listed kept (omega (arith, all, some)) in
    record {
      all = omega (arith, all, some, shorter);
      long = λ more.
          (let is = taken (omega (arith, more)) in
          let old = holds.long some in
          let cone = is.cone in
          let less = ap (λ cs. length cs + 1) is.clauses
          ∙ length-remove next.query.clauses (next.cone + kept) (omega (arith, old, all, more)) in
          omega (arith, less, old, cone, shorter));
    }

-- Where some are due all have their turns.
pub due_all : (count : ℕ) → 0 < due_count count → due_count count ≡ count
due_all count = by (nat_lt 64 count)
  where
    by : (many : Bool) → 0 < (if many then 0 else count) → (if many then 0 else count) ≡ count
    by true some = absurd (omega (arith, some))
    by false some = refl

pub turns_begin : (boundary listed : List Place) (turns : List Turn) (due : ℕ) → boundary ≡ listed → turns ≡ []
    → due ≡ due_count (length listed) → HoldsTurns boundary turns due
turns_begin boundary listed turns due same none due_is some =
    let all = due_all (length listed) (omega (arith, some, due_is)) in
    let long = ap length same in
    let short = ap length none in
    omega (arith, all, long, short, due_is)

-- One turn more is made.
pub turns_left : (boundary : List Place) (turns now : List Turn) (turn : Turn) (due : ℕ) → HoldsTurns boundary turns due
    → 0 < due → now ≡ turns ++ turn ∷ [] → HoldsTurns boundary now (due - 1)
turns_left boundary turns now turn due holds some now_is more =
    let all = holds some in
    let long = ap length now_is ∙ length-append turns (turn ∷ []) in
    omega (arith, all, long, some)
