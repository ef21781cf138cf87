-- The files of a job are read before anything is found, and no others.
use Rattle.std.proofs.Common.{◌∷◌, ◌≤◌, List, [], arith, inl, inr, refl, suc, zero, ℕ}
use Rattle.std.specs.Prelude.{Contains}
use Rattle.std.specs.List.{AllByRecursion}
use Rattle.base_line.specs.Line.{Text}
use Rattle.cmd_phases.specs.Phases.{job_parts, job_phases}
use Rattle.cmd_phases.specs.Repair.{recording_limit}
use Rattle.cmd_phases.specs.declared.cause.Refused.{Refused}
use Rattle.cmd_phases.specs.declared.parts.Parts.{Parts}
use Rattle.base_run.specs.Phases.{◌>>=◌, Answer, Phases}
use Rattle.base_run.specs.Reading.{ReadsAmong, ReadsSurely}
use Rattle.cmd_words.specs.Words.{JobValues, job_reads}

pub all_in : (inputs names : List Text) → ((name : Text) → Contains names name → Contains inputs name) → AllByRecursion (Contains inputs) names
all_in inputs [] within = tt
all_in inputs (name ∷ names) within = (within name (0, omega arith, refl), all_in inputs names (λ other (k, less, is). within other (suc k, omega (arith, less), is)))

module _ (inputs : List Text) (w : JobValues) (within : (name : Text) → Contains (job_reads w) name → Contains inputs name) where
  netlists_in : AllByRecursion (Contains inputs) w.netlists
  netlists_in = all_in inputs w.netlists (λ name (k, less, is). within name (suc k, omega (arith, less), is))

  recording_in : AllByRecursion (Contains inputs) (w.recording ∷ [])
  recording_in = (within w.recording (0, omega arith, refl), tt)

  pub job_among : (f : Parts → Phases Answer Refused) → ((job : Parts) → ReadsAmong inputs (f job)) → ReadsAmong inputs (job_phases w >>= f)
  job_among f rest = (netlists_in, λ text n. (recording_in, λ recording r. rest (job_parts w n r)))

pub own_in : (name : Text) (names : List Text) → AllByRecursion (Contains (name ∷ names)) (name ∷ [])
own_in name names = ((0, omega arith, refl), tt)

pub later : (first : Text) (names : List Text) (name : Text) → Contains names name → Contains (first ∷ names) name
later first names name (k, less, is) = (suc k, omega (arith, less), is)

pub itself_in : (names : List Text) (name : Text) → Contains names name → Contains names name
itself_in names name named = named

-- The netlists and the recording come first.
pub job_sure : (w : JobValues) (f : Parts → Phases Answer Refused) (name : Text) (most : ℕ) → recording_limit ≤ most → Contains (job_reads w) name
    → ReadsSurely name most (job_phases w >>= f)
job_sure w f name most fits (zero, less, is) = inr (λ text n. inl ((0, omega arith, is), fits))
job_sure w f name most fits (suc k, less, is) = inl ((k, omega (arith, less), is), omega (arith, fits))

-- The certificate comes after them.
pub cert_sure : (w : JobValues) (f : Parts → Phases Answer Refused) (name : Text) (most : ℕ) → ((job : Parts) → ReadsSurely name most (f job)) → ReadsSurely name most (job_phases w >>= f)
cert_sure w f name most rest = inr (λ text n. inr (λ recording r. rest (job_parts w n r)))
