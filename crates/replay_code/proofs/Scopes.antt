-- Names of one or more graphic bytes can be written.
use Rattle.std.proofs.Common.{◌≡◌, ℕ, ◌<◌, ◌≤◌, true, List, [], ◌∷◌, length, refl, arith}
use Rattle.std.specs.List.{AllByRecursion, list_all}
use Rattle.std.proofs.lemmas.Bool.Decides.{nat_tests}
use Rattle.recording_binding.specs.Naming.{Texts}
use Rattle.netlist_tokens.specs.Byte.{is_printable}
use Rattle.replay_code.specs.Names.{are_writable, is_writable}
use Rattle.replay_code.proofs.Spelling.{joined}

-- Bytes 33 to 126.
abbrev pub IsGraphic : ℕ → Type 0
IsGraphic byte = (33 ≤ byte) × (byte ≤ 126)

graphic : (byte : ℕ) → IsGraphic byte → is_printable byte ≡ true
graphic byte is = (let least = is.0 in let most = is.1 in grind (arith, nat_tests, least, most))

all_graphic : (name : List ℕ) → AllByRecursion IsGraphic name → list_all is_printable name ≡ true
all_graphic [] all = refl
all_graphic (byte ∷ name) all = joined (is_printable byte) (list_all is_printable name) (graphic byte all.0) (all_graphic name all.1)

pub name_writable : (name : List ℕ) → 0 < length name → AllByRecursion IsGraphic name → is_writable name ≡ true
name_writable [] some all = absurd (omega arith)
name_writable (byte ∷ name) some all = joined (is_printable byte) (list_all is_printable (byte ∷ name)) (graphic byte all.0) (all_graphic (byte ∷ name) all)

-- So can the names of a scope that are so.
pub scope_writable : (P : List ℕ → Type 0) (scope : Texts) → ((name : List ℕ) → P name → is_writable name ≡ true) → AllByRecursion P scope → are_writable scope ≡ true
scope_writable P [] each all = refl
scope_writable P (name ∷ scope) each all = joined (is_writable name) (are_writable scope) (each name all.0) (scope_writable P scope each all.1)
