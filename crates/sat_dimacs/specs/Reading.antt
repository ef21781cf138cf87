-- What the readers answer: what the machine says, want of memory aside.
use Rattle.std.specs.Prelude.{◌≡◌, ℕ, ◌+◌, List, ◌∷◌, Option, Some, None, Result, Ok, Err}
use Rattle.sat_dimacs.specs.declared.fault.DimacsFault.{DimacsFault}
use Rattle.sat_dimacs.specs.declared.refusal.DimacsErr.{DimacsErr}
use Rattle.sat_dimacs.specs.declared.refusal.DimacsErr.TheVariants.{Refused, Memory}
use Rattle.sat_dimacs.specs.Machine.{LinesView}

-- The fault is this one; or there is no memory.
abbrev pub RefusesDimacs : {X : Type 0} → Result X DimacsFault → DimacsErr → Type 0
RefusesDimacs wanted (Refused fault) = wanted ≡ Err fault
RefusesDimacs wanted Memory = Unit {0}

-- It answers what it should, or refuses as it should; or there is no memory.
abbrev pub ReadsDimacs : {X : Type 0} → Result X DimacsFault → Result X DimacsErr → Type 0
ReadsDimacs wanted (Ok x) = wanted ≡ Ok x
ReadsDimacs wanted (Err e) = RefusesDimacs wanted e

-- What stands in front is answered, and what is left; or the fault.
abbrev pub ReadsFront : {X : Type 0} → Result (X × LinesView) DimacsFault → Result X DimacsFault → LinesView → Type 0
ReadsFront wanted (Ok x) new = wanted ≡ Ok (x, new)
ReadsFront wanted (Err fault) new = wanted ≡ Err fault

-- The next line in front.
pub record TakesLine (old : LinesView) (line : List ℕ) (new : LinesView) : Type 0 where
  pub lines : old.lines ≡ line ∷ new.lines
  pub number : new.number ≡ old.number + 1

-- What is read of the words in front, with those after.
abbrev pub Takes : {X : Type 0} → Option (X × List (List ℕ)) → Option X → List (List ℕ) → Type 0
Takes wanted (Some x) new = wanted ≡ Some (x, new)
Takes wanted None new = wanted ≡ None

abbrev pub Skips : Option (List (List ℕ)) → Option Unit → List (List ℕ) → Type 0
Skips wanted (Some x) new = wanted ≡ Some new
Skips wanted None new = wanted ≡ None
