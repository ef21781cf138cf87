-- What the variables of a recording tell of nets (IEEE 1364-2005, clause 18, with choices of our own).
use Rattle.std.specs.Prelude.{ℕ, ◌==◌, Bool, List, [], ◌∷◌, ◌++◌, Option, None, map, bytes_eq, if◌then◌else◌}
use Rattle.std.specs.List.{list_any}
use Rattle.design_circuit.specs.declared.design.Design.{Design}
use Rattle.recording_reader.specs.Bytes.{without_range}
use Rattle.recording_reader.specs.Recording.{Recording, path_at}
use Rattle.recording_reader.specs.declared.variable.Variable.{Variable}
use Rattle.recording_binding.specs.Naming.{Texts, names_eq, nets_of}
use Rattle.recording_binding.specs.Bits.{matched_by}
use Rattle.recording_binding.specs.declared.bits.Matched.{Matched}
use Rattle.recording_binding.specs.declared.bits.Matched.TheVariants.{Nothing, Differs, Bits}

-- a recording beside a design, under a scope path
pub record Under : Type 0 where
  pub design : Design
  pub recording : Recording
  pub scope : Texts

abbrev pub under : Design → Recording → Texts → Under
under design recording scope = record { design = design; recording = recording; scope = scope }

-- A scope path is that of a scope. Scopes of one path are one.
abbrev pub has_scope : Texts → List Texts → Bool
has_scope scope paths = list_any (names_eq scope) paths

-- Where a path stands to a scope path: above it, with the names that are left of that; at or below it, with its names
-- below; or neither.
pub data Standing : Type 0 where
  Apart : Standing
  Above : Texts → Standing
  Within : Texts → Standing

-- A path stands at or below a scope path where it begins with the names of that.
abbrev pub standing_of : Texts → Texts → Standing
standing_of [] path = Within path
standing_of (name ∷ scope) [] = Above (name ∷ scope)
standing_of (name ∷ scope) (own ∷ path) = if bytes_eq name own then standing_of scope path else Apart

-- Of the backslashes at the head of a recorded name one is dropped.
abbrev pub bare : List ℕ → List ℕ
bare [] = []
bare (b ∷ bs) = if b == 92 then bs else b ∷ bs

-- A variable tells the names of its scopes below the scope path, and its reference.
abbrev pub tried : Design → Texts → List ℕ → Option (ℕ × ℕ) → ℕ → Matched
tried design names reference range width = matched_by design (nets_of design (names ++ bare reference ∷ [])) range width

-- A reference as recorded, with a range directly behind it, is a name of its own, without a range.
abbrev pub as_recorded : Design → Texts → Variable → Matched
as_recorded design names v = if v.direct then tried design names v.reference None v.width else Nothing

abbrev pub or_else : Matched → Matched → Matched
or_else Nothing next = next
or_else Differs next = Differs
or_else (Bits bits) next = Bits bits

-- The reference as recorded comes first. Where no net has that name, the reference without its range is tried, with the
-- range.
abbrev pub told_below : Design → Texts → Variable → Matched
told_below design names v =
    or_else (as_recorded design names v) (tried design names (without_range v.direct v.reference) v.range v.width)

-- A variable of a scope that isn't at or below the scope path tells nothing.
abbrev pub matched_in : Design → Standing → Variable → Matched
matched_in design Apart v = Nothing
matched_in design (Above names) v = Nothing
matched_in design (Within names) v = told_below design (map bare names) v

abbrev pub matched : Design → Texts → Recording → Variable → Matched
matched design scope recording v = matched_in design (standing_of scope (path_at recording.scopes v.scope)) v
