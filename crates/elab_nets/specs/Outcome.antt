-- An answer, or the first refusal.
use Rattle.std.specs.Prelude.{◌≡◌, ◌≢◌, Option, Some, None, Result, Ok, Err}
use Rattle.elab_nets.specs.declared.fault.ElabErr.{ElabErr}
use Rattle.elab_nets.specs.declared.fault.ElabErr.TheVariants.{Memory}

abbrev pub Outcome : Type 0 → Type 0
Outcome A = Result A ElabErr

-- First this, then what follows from its answer; the first refusal counts.
abbrev pub after : {A B : Type 0} → Result A ElabErr → (A → Result B ElabErr) → Result B ElabErr
after (Ok x) next = next x
after (Err e) next = Err e

-- what is there, else a refusal
abbrev pub or_refuse : {A : Type 0} → Option A → ElabErr → Result A ElabErr
or_refuse (Some x) e = Ok x
or_refuse None e = Err e

-- A call gives the outcome, unless memory runs out.
abbrev pub Gives : {A B : Type 0} → Result B ElabErr → Result A ElabErr → (A → B) → Type 0
Gives wanted (Ok x) seen = wanted ≡ Ok (seen x)
Gives wanted (Err e) seen = e ≢ Memory → wanted ≡ Err e
