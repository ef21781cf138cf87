-- Texts that come in of one name, if there is any, and then of others.
use Rattle.std.proofs.Common.{ℕ, zero, suc, List, [], Option, Some, None, arith}
use Rattle.std.specs.Prelude.{Contains}
use Rattle.base_files.specs.Fetched.{AddsAmong}
use Rattle.base_files.specs.declared.fetched.Fetched.{Fetched}
use Rattle.cmd_set.specs.Command.{put_name}

in_first : (name : Option (List ℕ)) (rest : List (List ℕ)) (other : List ℕ) → Contains (put_name name []) other → Contains (put_name name rest) other
in_first None rest other (k, less, is) = absurd (omega (arith, less))
in_first (Some name) rest other (zero, less, is) = (zero, omega arith, is)
in_first (Some name) rest other (suc k, less, is) = absurd (omega (arith, less))

in_rest : (name : Option (List ℕ)) (rest : List (List ℕ)) (other : List ℕ) → Contains rest other → Contains (put_name name rest) other
in_rest None rest other named = named
in_rest (Some name) rest other (k, less, is) = (suc k, omega (arith, less), is)

pub adds_first : (name : Option (List ℕ)) (rest : List (List ℕ)) (old new : Fetched) → AddsAmong (put_name name []) old new → AddsAmong (put_name name rest) old new
adds_first name rest old new adds all within has = adds all (λ other named. within other (in_first name rest other named)) has

pub adds_then : (name : Option (List ℕ)) (rest : List (List ℕ)) (old mid new : Fetched) → AddsAmong (put_name name []) old mid → AddsAmong rest mid new → AddsAmong (put_name name rest) old new
adds_then name rest old mid new first then all within has =
    then all (λ other named. within other (in_rest name rest other named)) (adds_first name rest old mid first all within has)
