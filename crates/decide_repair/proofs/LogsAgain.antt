-- What a log shows of a place it shows of every one that asks the same.
use Rattle.std.proofs.Common.{◌≡◌, ℕ, Bool, Some, List, length, refl, sym, ◌∙◌, subst, arith}
use Rattle.std.specs.Prelude.{ℤ}
use Rattle.design_circuit.specs.Waveform.{certain}
use Rattle.law_model.specs.declared.line.Body.TheVariants.{Refuted, Undecided}
use Rattle.law_model.specs.Line.{IsLicence, IsRefuted}
use Rattle.law_model.specs.Query.{variables}
use Rattle.law_model.specs.Stated.{body_at}
use Rattle.law_along.specs.Accepted.{AcceptsBody, LogFits, NamesVariables}
use Rattle.law_along.specs.Along.{GoesAlong}
use Rattle.law_along.proofs.Fitted.{logs_along_fit}
use Rattle.decide_cnf.specs.Same.{AsksSame}
use Rattle.decide_cnf.proofs.SameCones.{same_law}
use Rattle.decide_cone.specs.Shown.{HasNextCone}
use Rattle.wave_proved.specs.Contents.{Contents, IsWave, job, next_number}
use Rattle.decide_repair.specs.Walk.{start_of}

asks_same : (c : Contents) (place : ℕ) → HasNextCone c place → AsksSame c place (next_number c)
asks_same c place cone = same_law c place (next_number c) cone.nodes cone.others cone.own cone.next cone.same

fits_again : (c : Contents) (place : ℕ) (log : List (List ℤ)) → AsksSame c place (next_number c)
    → NamesVariables (length (variables (job c) (certain c.written) place)) log → LogFits c log
fits_again c place log same fits = subst (λ n. NamesVariables n log) (sym same.variables) fits

pub refuted_again : (c : Contents) (place : ℕ) (bit : Bool) (log : List (List ℤ)) → IsWave c → GoesAlong (start_of c) c
    → HasNextCone c place → body_at (job c) c.lines place ≡ Some (Refuted bit log) → AcceptsBody c (Refuted bit log)
refuted_again c place bit log wave along cone found =
    let same = asks_same c place cone in
    let holds : IsRefuted (job c) c.written place bit log =
    wave.holds.yields.bodies place (Refuted bit log) cone.written found in
    record {
      holds = record {
        denied = same.denied ∙ holds.denied;
        query = holds.query;
        is_query = same.query holds.query holds.is_query;
        literals = holds.literals;
        refutes = holds.refutes;
      };
      fits = fits_again c place log same
          (logs_along_fit (start_of c) c along wave.fits.fits_job refl refl place (Refuted bit log) cone.written found);
    }

pub left_again : (c : Contents) (place : ℕ) (log : List (List ℤ)) → IsWave c → GoesAlong (start_of c) c
    → HasNextCone c place → body_at (job c) c.lines place ≡ Some (Undecided log) → AcceptsBody c (Undecided log)
left_again c place log wave along cone found =
    let same = asks_same c place cone in
    let holds : IsLicence (job c) c.limits c.written place log =
    wave.holds.yields.bodies place (Undecided log) cone.written found in
    record {
      holds = record {
        many = (let many = holds.many in let count = same.sources in omega (arith, many, count));
        query = holds.query;
        is_query = same.query holds.query holds.is_query;
        fresh = holds.fresh;
        long = holds.long;
      };
      fits = fits_again c place log same
          (logs_along_fit (start_of c) c along wave.fits.fits_job refl refl place (Undecided log) cone.written found);
    }
