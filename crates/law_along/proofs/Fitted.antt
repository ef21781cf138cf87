-- Ways along lines, and the logs of the lines that were taken.
use Rattle.std.proofs.Common.{◌≡◌, ⊎_elim, ℕ, ◌<◌, ◌≤◌, ◌==◌, Bool, true, false, Option, Some, None, if◌then◌else◌}
use Rattle.std.proofs.Common.{List, [], ◌∷◌, ◌++◌, length, refl, sym, subst, ap, ◌∙◌, arith}
use Rattle.std.specs.Prelude.{nat_lt}
use Rattle.std.proofs.lemmas.Bool.{cases_eq, ltb-true, ne_eqb}
use Rattle.std.proofs.lemmas.List.{length-append}
use Rattle.design_circuit.proofs.Numbers.{number_of_place_at}
use Rattle.design_circuit.specs.declared.waveform.Written.{Written}
use Rattle.design_circuit.specs.Fits.{Fits}
use Rattle.design_circuit.specs.Job.{Job, number_of, places_of}
use Rattle.design_circuit.specs.Waveform.{certain}
use Rattle.law_model.proofs.ConesBefore.{variables_local}
use Rattle.law_model.proofs.FactsBefore.{certain_grown}
use Rattle.law_model.proofs.LinesByPlace.{body_front, body_one}
use Rattle.law_model.specs.Class.{class_of, class_seen}
use Rattle.law_model.specs.Query.{variables}
use Rattle.law_model.specs.Stated.{body_at}
use Rattle.law_model.specs.declared.class.ClassByNumber.{ClassByNumber}
use Rattle.law_model.specs.declared.class.ClassByNumber.TheVariants.{Local, Free, Carried, Line}
use Rattle.law_model.specs.declared.line.Body.{Body}
use Rattle.law_model.specs.declared.line.Body.TheVariants.{Enumerated, Refuted, Pair, Undecided}
use Rattle.law_model.specs.declared.line.Line.{Line as ALine}
use Rattle.wave_proved.specs.Advance.{GoesOn, IsPlain, more, plain_written, stays, with_written}
use Rattle.wave_proved.specs.Contents.{Contents, class_or_done, job, next_number, next_seen}
use Rattle.wave_proved.specs.Token.{HasNext, with_line, written_by_line}
use Rattle.law_along.specs.Accepted.{AcceptsLine, BodyFits, NamesVariables}
use Rattle.law_along.specs.Along.{BodyFitsAt, GoesAlong, LogsAlongFit, LogsFit, by_class, by_line}
use Rattle.law_along.specs.Along as walk

-- Two ways, one behind the other.
pub along : (a b c : Contents) → GoesAlong a b → GoesAlong b c → GoesAlong a c
along a b c first walk.stays = first
along a b c first (by_class {c = d} goes plain agrees) = by_class (along a b d first goes) plain agrees
along a b c first (by_line {c = d} goes line next accepts agrees) =
    by_line (along a b d first goes) line next accepts agrees

-- Places whose class says what they are need no line.
pub goes_along : {a b : Contents} → GoesOn a b → GoesAlong a b
goes_along stays = walk.stays
goes_along (more goes plain agrees) = by_class (goes_along goes) plain agrees

-- The job stays along lines.
pub along_job : {a b : Contents} → GoesAlong a b → job b ≡ job a
along_job walk.stays = refl
along_job (by_class goes plain agrees) = along_job goes
along_job (by_line goes line next accepts agrees) = along_job goes

plain_not_line : (j : Job) (class : ClassByNumber) → IsPlain (class_seen j class) → class ≡ Line → ⊥
plain_not_line j (Local bit) plain is = absurd cc
plain_not_line j Free plain is = absurd cc
plain_not_line j (Carried from inverted) plain is = absurd cc
plain_not_line j Line plain is = absurd plain

plain_found_by : (j : Job) (less : Bool) (class : ClassByNumber)
    → IsPlain (class_or_done j (if less then Some class else None))
    → (less ≡ true) × (class ≡ Line → ⊥)
plain_found_by j true class plain = (refl, plain_not_line j class plain)
plain_found_by j false class plain = absurd plain

pub next_plain_is : (c : Contents) → IsPlain (next_seen c) → HasNext c
    × (class_of (job c) (certain c.written) (next_number c) ≡ Line → ⊥)
next_plain_is c plain =
    let found = plain_found_by (job c) (nat_lt (length c.written) (places_of (job c)))
    (class_of (job c) (certain c.written) (length c.written)) plain in
    (ltb-true (length c.written) (places_of (job c)) found.0, found.1)

-- The variables of a place rest on the places before it alone.
some_none : (found : Option Body) (body : Body) → found ≡ None → found ≡ Some body → ⊥
some_none found body none some_body = absurd cc

same_body : (a b : Body) → Some a ≡ Some b → a ≡ b
same_body a b is = cc

none_front : (j : Job) (lines new : List ALine) (place : ℕ) → body_at j lines place ≡ None
    → body_at j (lines ++ new) place ≡ body_at j new place
none_front j [] new place none = refl
none_front j (l ∷ lines) new place none =
    (elim (number_of j l.place == place) as (λ t. (if t then Some l.body else body_at j lines place) ≡ None
    → (if t then Some l.body else body_at j (lines ++ new) place) ≡ body_at j new place) [
      | true ↦ λ h. absurd (some_none (Some l.body) l.body h refl)
      | false ↦ λ h. none_front j lines new place h
    ]) none

none_other : (j : Job) (l : ALine) (place : ℕ) → (number_of j l.place ≡ place → ⊥) → body_at j (l ∷ []) place ≡ None
none_other j l place other = rw (ne_eqb (number_of j l.place) place other) refl

fits_moved : (c : Contents) (v w : List Written) (place : ℕ) (body : Body)
    → variables (job c) (certain v) place ≡ variables (job c) (certain w) place → BodyFitsAt c v place body
    → BodyFitsAt c w place body
fits_moved c v w place (Enumerated bit) same fits = fits
fits_moved c v w place (Refuted bit log) same fits = subst (λ (vs : List ℕ). NamesVariables (length vs) log) same fits
fits_moved c v w place (Pair zero one) same fits = fits
fits_moved c v w place (Undecided log) same fits = subst (λ (vs : List ℕ). NamesVariables (length vs) log) same fits

fits_there : (c : Contents) (body : Body) → BodyFits c body → BodyFitsAt c c.written (next_number c) body
fits_there c (Enumerated bit) fits = fits
fits_there c (Refuted bit log) fits = fits
fits_there c (Pair zero one) fits = fits
fits_there c (Undecided log) fits = fits

-- So far the logs fit, and no line is of a later place.
record IsFitted (c : Contents) : Type 0 where
  logs : LogsFit c
  none : (place : ℕ) → length c.written ≤ place → body_at (job c) c.lines place ≡ None

-- One place more.
grown_fits : (c : Contents) (w : Written) (place : ℕ) (body : Body) → Fits (job c) → HasNext c
    → place ≤ length c.written
    → BodyFitsAt c c.written place body → BodyFitsAt c (c.written ++ w ∷ []) place body
grown_fits c w place body fits next low here =
    fits_moved c c.written (c.written ++ w ∷ []) place body
    (variables_local (job c) fits (certain c.written) (certain (c.written ++ w ∷ [])) place (omega (arith, next, low))
    (λ k less. certain_grown c.written w k (omega (arith, less, low)))) here

fitted_class : (c : Contents) (w : Written) → Fits (job c) → HasNext c → IsFitted c → IsFitted (with_written c w)
fitted_class c w fits next fitted =
    let long = length-append c.written (w ∷ []) in
    record {
      logs = λ place body less found.
          ⊎_elim (λ (same : place ≡ length c.written).
          absurd (some_none (body_at (job c) c.lines place) body (fitted.none place (omega (arith, same))) found))
          (λ differ. (let low : place < length c.written = omega (arith, less, long, differ) in
          grown_fits c w place body fits next (omega (arith, low)) (fitted.logs place body low found)))
          (cases_eq place (length c.written));
      none = λ place past. fitted.none place (omega (arith, past, long));
    }

fitted_line : (c : Contents) (l : ALine) → Fits (job c) → AcceptsLine c l → IsFitted c → IsFitted (with_line c l)
fitted_line c l fits accepts fitted =
    let j = job c in
    let n = next_number c in
    let w = written_by_line c l in
    let next = accepts.line_holds.within in
    let long = length-append c.written (w ∷ []) in
    let number : number_of j l.place ≡ n = ap (number_of j) accepts.line_holds.place_is
    ∙ number_of_place_at j n fits.ordering fits.all next in
    record {
      logs = λ place body less found.
          ⊎_elim (λ (same : place ≡ n).
          (let here : body_at j (c.lines ++ l ∷ []) place ≡ Some l.body =
          none_front j c.lines (l ∷ []) place (fitted.none place (omega (arith, same)))
          ∙ body_one j l place (number ∙ sym same) in
          let body_is : l.body ≡ body = same_body l.body body (sym here ∙ found) in
          grown_fits c w place body fits next (omega (arith, same))
          (subst (λ b. BodyFitsAt c c.written place b) body_is
          (subst (λ p. BodyFitsAt c c.written p l.body) (sym same) (fits_there c l.body accepts.fits)))))
          (λ differ.
          (let low : place < length c.written = omega (arith, less, long, differ) in
          let before : body_at j c.lines place ≡ Some body =
          sym (body_front j c.lines (l ∷ []) place (none_other j l place (λ is. differ (sym is ∙ number)))) ∙ found in
          grown_fits c w place body fits next (omega (arith, low)) (fitted.logs place body low before)))
          (cases_eq place n);
      none = λ place past.
          none_front j c.lines (l ∷ []) place (fitted.none place (omega (arith, past, long)))
          ∙ none_other j l place (λ is. absurd (omega (arith, past, long, is, number)));
    }

fitted_nothing : (start : Contents) → start.written ≡ [] → start.lines ≡ [] → IsFitted start
fitted_nothing start written lines = record {
  logs = λ place body less found. absurd (omega (arith, less, ap length written));
  none = λ place past. ap (λ ls. body_at (job start) ls place) lines;
}

fitted_along : (start c : Contents) → GoesAlong start c → Fits (job start) → start.written ≡ [] → start.lines ≡ []
    → IsFitted c
fitted_along start c walk.stays fits written lines = fitted_nothing start written lines
fitted_along start c (by_class {c = d} goes plain agrees) fits written lines =
    fitted_class d (plain_written d) (subst Fits (sym (along_job goes)) fits) (next_plain_is d plain).0
    (fitted_along start d goes fits written lines)
fitted_along start c (by_line {c = d} goes l next accepts agrees) fits written lines =
    fitted_line d l (subst Fits (sym (along_job goes)) fits) accepts (fitted_along start d goes fits written lines)

pub logs_along_fit : LogsAlongFit
logs_along_fit start c goes fits written lines = (fitted_along start c goes fits written lines).logs
