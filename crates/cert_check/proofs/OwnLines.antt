-- The lines of a wave that went along lines have words.
use Rattle.std.proofs.Common.{◌≡◌, ◌≢◌, ℕ, zero, suc, ◌*◌, ◌^◌, ◌<◌, ◌≤◌, Bool, true, false, if◌then◌else◌, List, [], ◌∷◌, ◌++◌, length, refl, sym, subst, ap, ◌∙◌, arith}
use Rattle.std.specs.Prelude.{ℤ, pos, nat_abs}
use Rattle.std.specs.List.{All, AllByRecursion}
use Rattle.std.proofs.lemmas.List.{length-append, length-map}
use Rattle.std.proofs.lemmas.List.Elements.{All-head, All-tail}
use Rattle.design_circuit.proofs.Numbers.{is_place_at}
use Rattle.design_circuit.specs.declared.place.Place.{Place}
use Rattle.design_circuit.specs.Filling.{IsPlace}
use Rattle.design_circuit.specs.Fits.{Fits, place_at}
use Rattle.design_circuit.specs.Job.{Job}
use Rattle.design_circuit.specs.Waveform.{certain}
use Rattle.law_model.specs.Class.{class_of}
use Rattle.law_model.specs.Places.{places_where}
use Rattle.law_model.specs.Yields.{is_line, line_places}
use Rattle.law_model.specs.declared.line.Body.{Body}
use Rattle.law_model.specs.declared.line.Body.TheVariants.{Enumerated, Refuted, Pair, Undecided}
use Rattle.law_model.specs.declared.line.Line.{Line as ALine}
use Rattle.sat_proof.specs.Assignment.{HasNoZero}
use Rattle.sat_proof.specs.Log.{Fit}
use Rattle.wave_proved.specs.Contents.{Contents, AreLimits, IsWave, job, next_number}
use Rattle.wave_proved.specs.Token.{HoldsNext}
use Rattle.law_along.proofs.Fitted.{along_job}
use Rattle.law_along.specs.Accepted.{AcceptsLine, BodyFits, NamesVariables, variables_next}
use Rattle.law_along.specs.Along.{GoesAlong, by_class, by_line}
use Rattle.law_along.specs.Along as walk
use Rattle.cert_writer.specs.Fits.{FitsBody, FitsLine, FitsLiteral, FitsLog, FitsPlace}

-- Places of a job of at most 2^32 steps,
pub place_fits : (j : Job) → Fits j → j.moments * j.rounds ≤ 2 ^ 32 → (place : Place) → IsPlace j place → FitsPlace place
place_fits j fits most place is =
    let step = is.step in
    let net = is.net in
    let nets = fits.few_nets in
    record { step = omega (arith, step, most); net = omega (arith, net, nets) }

filling_fits : (j : Job) → Fits j → j.moments * j.rounds ≤ 2 ^ 32 → (places : List Place) → AllByRecursion (IsPlace j) places
    → AllByRecursion FitsPlace places
filling_fits j fits most [] all = tt
filling_fits j fits most (place ∷ places) all =
    (place_fits j fits most place all.0, filling_fits j fits most places all.1)

-- and logs that name variables of a query.
clause_fits : (count : ℕ) (clause : List ℤ) → count < 2 ^ 31 → HasNoZero clause → All (λ l. nat_abs l ≤ count) clause
    → AllByRecursion FitsLiteral clause
clause_fits count [] few no_zero within = tt
clause_fits count (l ∷ ls) few no_zero within =
    let low : nat_abs l ≤ count = All-head (λ k. nat_abs k ≤ count) l ls within in (
      record { some = All-head (λ k. k ≢ pos 0) l ls no_zero; small = omega (arith, low, few) },
      clause_fits count ls few (All-tail (λ k. k ≢ pos 0) l ls no_zero) (All-tail (λ k. nat_abs k ≤ count) l ls within),
    )

clauses_fit : (count : ℕ) (log : List (List ℤ)) → count < 2 ^ 31 → All HasNoZero log → Fit count log
    → AllByRecursion (λ clause. AllByRecursion FitsLiteral clause) log
clauses_fit count [] few no_zero within = tt
clauses_fit count (clause ∷ log) few no_zero within = (
  clause_fits count clause few (All-head HasNoZero clause log no_zero) (All-head (All
      (λ k. nat_abs k ≤ count)) clause log within),
  clauses_fit count log few (All-tail HasNoZero clause log no_zero) (All-tail (All
      (λ k. nat_abs k ≤ count)) clause log within),
)

pub log_fits : (count : ℕ) (log : List (List ℤ)) → count < 2 ^ 31 → 0 < length log → NamesVariables count log
    → FitsLog log
log_fits count log few some names = record { some = some; literals = clauses_fit count log few names.no_zero names.fit }

-- A body that is accepted at the next place has words.
body_fits : (c : Contents) → Fits (job c) → (job c).moments * (job c).rounds ≤ 2 ^ 32 → AreLimits c.limits → (body : Body)
    → HoldsNext c body → BodyFits c body → FitsBody body
body_fits c fits most limited (Enumerated bit) holds names = tt
body_fits c fits most limited (Refuted bit log) holds names =
    let few = holds.query.few in
    let vars = holds.is_query.vars in
    let ends = holds.refutes.ends.1 in
    log_fits (variables_next c) log (omega (arith, few, vars)) (omega (arith, ends)) names
body_fits c fits most limited (Pair first second) holds names = (
  filling_fits (job c) fits most first holds.zero_filling.places,
  filling_fits (job c) fits most second holds.one_filling.places,
)
body_fits c fits most limited (Undecided log) holds names =
    let few = holds.query.few in
    let vars = holds.is_query.vars in
    let long = holds.long in
    let some = limited.some in
    log_fits (variables_next c) log (omega (arith, few, vars)) (omega (arith, long, some)) names

line_fits : (c : Contents) → Fits (job c) → (job c).moments * (job c).rounds ≤ 2 ^ 32 → AreLimits c.limits → (line : ALine)
    → AcceptsLine c line → FitsLine line
line_fits c fits most limited line accepts =
    let next = accepts.line_holds.within in
    record {
      place = subst FitsPlace (sym accepts.line_holds.place_is)
          (place_fits (job c) fits most (place_at (job c) (next_number c))
          (is_place_at (job c) (next_number c) fits.ordering fits.all next));
      body = body_fits c fits most limited line.body accepts.line_holds.holds accepts.fits;
    }

pub along_limits : {a b : Contents} → GoesAlong a b → b.limits ≡ a.limits
along_limits walk.stays = refl
along_limits (by_class goes plain agrees) = along_limits goes
along_limits (by_line goes line next accepts agrees) = along_limits goes

fits_more : (lines : List ALine) (line : ALine) → AllByRecursion FitsLine lines → FitsLine line
    → AllByRecursion FitsLine (lines ++ line ∷ [])
fits_more [] line all last = (last, tt)
fits_more (l ∷ lines) line all last = (all.0, fits_more lines line all.1 last)

pub lines_fit : (start c : Contents) → GoesAlong start c → Fits (job start)
    → (job start).moments * (job start).rounds ≤ 2 ^ 32 → AreLimits start.limits → start.lines ≡ [] → AllByRecursion FitsLine c.lines
lines_fit start c walk.stays fits most limited none = subst (AllByRecursion FitsLine) (sym none) tt
lines_fit start c (by_class {c = d} goes plain agrees) fits most limited none =
    lines_fit start d goes fits most limited none
lines_fit start c (by_line {c = d} goes line next accepts agrees) fits most limited none =
    fits_more d.lines line (lines_fit start d goes fits most limited none)
    (line_fits d (subst Fits (sym (along_job goes)) fits)
    (subst (λ (j : Job). j.moments * j.rounds ≤ 2 ^ 32) (sym (along_job goes)) most)
    (subst AreLimits (sym (along_limits goes)) limited) line accepts)

-- There are no more lines than places.
pub picked_few : (test : ℕ → Bool) (n : ℕ) → length (places_where test n) ≤ n
picked_few test zero = omega arith
picked_few test (suc n) =
    let few = picked_few test n in
    let long = length-append (places_where test n) (n ∷ []) in
    elim (test n) as (λ t. length (if t then places_where test n ++ n ∷ [] else places_where test n) ≤ suc n)
    [ true ↦ omega (arith, few, long) | false ↦ omega (arith, few) ]

pub few_lines : (c : Contents) → IsWave c → length c.lines ≤ 2 ^ 40
few_lines c wave =
    let numbers = line_places (job c) (certain c.written) (length c.written) in
    let long = sym (length-map c.lines (λ (line : ALine). line.place)) ∙ (ap length wave.holds.yields.places
    ∙ length-map numbers (place_at (job c))) in
    let few = picked_few (λ place. is_line (class_of (job c) (certain c.written) place)) (length c.written) in
    let within = wave.holds.yields.within in
    let all = wave.few in
    omega (arith, long, few, within, all)
