-- The calls made on a file store or a sink in memory, and those that are set to fail.
use Rattle.std.specs.Prelude.{ℕ, ◌+◌, ◌-◌, ◌^◌, min, List, [], ◌∷◌, ◌++◌, Contains, Bool, if◌then◌else◌, Result, Ok}
use Rattle.std.specs.Prelude.{Err, true, false}
use Rattle.base_shelf.specs.declared.fault.IoErr.{IoErr}
use Rattle.base_shelf.specs.declared.fault.IoErr.TheVariants.{Failed, Memory}

-- How many calls were made, and the numbers, counted from 1, of those that are set to fail.
pub record PlanView : Type 0 where
  pub calls : ℕ
  pub fails : List ℕ

-- No call made, and none set to fail.
abbrev pub no_calls : PlanView
no_calls = record { calls = 0; fails = [] }

-- A count one higher, which stays at the end of its type.
abbrev pub raised : ℕ → ℕ
raised count = min (count + 1) (2 ^ 64 - 1)

-- A count that is raised if there was a fault.
abbrev pub counted : ℕ → Bool → ℕ
counted count fault = if fault then raised count else count

-- One call more was made.
abbrev pub called : PlanView → PlanView
called plan = record { calls = raised plan.calls; fails = plan.fails }

-- One call more is set to fail.
abbrev pub with_fault : PlanView → ℕ → PlanView
with_fault plan call = record { calls = plan.calls; fails = plan.fails ++ call ∷ [] }

-- The next call is set to fail.
abbrev pub FailsNext : PlanView → Type 0
FailsNext plan = Contains plan.fails (raised plan.calls)

-- Whether a call answered that the outside refused.
abbrev pub is_fault : IoErr → Bool
is_fault Failed = true
is_fault Memory = false

abbrev pub has_failed : {T : Type 0} → Result T IoErr → Bool
has_failed (Ok _) = false
has_failed (Err e) = is_fault e
