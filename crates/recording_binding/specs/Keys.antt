-- Names as keys: each text with a space behind it, which no text of a net has.
use Rattle.std.specs.Prelude.{◌≡◌, ℕ, zero, suc, ◌<◌, ◌≤◌, ◌==◌, Bool, true, ◌&&◌, not, List, [], ◌∷◌, ◌++◌, Option}
use Rattle.std.specs.Prelude.{Some, None, length, bytes_eq, if◌then◌else◌, Vec}
use Rattle.std.specs.List.{list_all}
use Rattle.std.specs.declared.alloc.Global.{Global}
use Rattle.std.specs.Map.{lookup}
use Rattle.design_circuit.specs.Design.{FitsDesign}
use Rattle.design_circuit.specs.declared.design.Design.{Design}
use Rattle.recording_binding.specs.Naming.{Texts, texts_of}

abbrev pub key_of : Texts → List ℕ
key_of [] = []
key_of (text ∷ texts) = text ++ 32 ∷ key_of texts

-- a text without a space
abbrev pub is_solid : List ℕ → Bool
is_solid text = list_all (λ b. not (b == 32)) text

abbrev pub are_solid : Texts → Bool
are_solid [] = true
are_solid (text ∷ texts) = is_solid text && are_solid texts

-- the key of names without spaces
pub record IsKey (names : Texts) (key : List ℕ) : Type 0 where
  pub is : key ≡ key_of names
  pub solid : are_solid names ≡ true

-- the nets whose names have a key, among the first so many nets
abbrev pub keyed_below : Design → List ℕ → ℕ → List ℕ
keyed_below design key zero = []
keyed_below design key (suc net) =
    keyed_below design key net ++ (if bytes_eq key (key_of (texts_of design net)) then net ∷ [] else [])

-- what a map has: keys with their nets
abbrev pub Entries : Type 0
Entries = List (Vec ℕ Global × Vec ℕ Global)

abbrev pub listed : Option (Vec ℕ Global) → List ℕ
listed None = []
listed (Some nets) = nets.items

abbrev pub nets_at : Entries → List ℕ → List ℕ
nets_at entries key = listed (lookup (λ (k : Vec ℕ Global). bytes_eq key k.items) entries)

-- The map has the nets of each key among the first so many nets, and no key of theirs is longer than that.
pub record Lists (entries : Entries) (longest : ℕ) (design : Design) (count : ℕ) : Type 0 where
  pub nets : (key : List ℕ) → nets_at entries key ≡ keyed_below design key count
  pub long : (net : ℕ) → net < count → length (key_of (texts_of design net)) ≤ longest

-- The design fits, and the map has the nets of each of its keys.
abbrev pub ListsAll : Entries → ℕ → Design → Type 0
ListsAll entries longest design = FitsDesign design × Lists entries longest design (length design.nets)

-- The list of a key has one net more.
abbrev pub AddsNet : Entries → Entries → List ℕ → ℕ → Type 0
AddsNet old new key net = (q : List ℕ) → nets_at new q ≡ nets_at old q ++ (if bytes_eq q key then net ∷ [] else [])
