-- The words of a code text: its tokens with their bytes (IEEE 1364-2005, clause 3).
use Rattle.std.specs.Prelude.{◌≡◌, ℕ, ◌&&◌, Bool, true, false, Option, None, Some, List, [], ◌∷◌, bytes_eq, codes}
use Rattle.std.specs.Prelude.{length, nat_le, slice_range, if◌then◌else◌}
use Rattle.std.specs.Borrow.{Bor}
use Rattle.design_cell.specs.declared.value.Value.{Value}
use Rattle.design_cell.specs.declared.value.Value.TheVariants.{Zero, One, X, Z}
use Rattle.base_scan.specs.Bytes.{all_digits}
use Rattle.base_scan.specs.Numbers.{number_from}
use Rattle.netlist_tokens.specs.declared.token.Kind.{Kind}
use Rattle.netlist_tokens.specs.declared.token.Kind.TheVariants.{Name, Escaped, Number, Text, Mark}
use Rattle.netlist_tokens.specs.declared.token.Token.{Token}

-- the bytes of a token
abbrev pub spelled : List ℕ → Token → List ℕ
spelled text t = if nat_le t.start t.«end» && nat_le t.«end» (length text) then slice_range text t.start t.«end» else []

abbrev pub is_name_kind : Kind → Bool
is_name_kind Name = true
is_name_kind Escaped = false
is_name_kind Number = false
is_name_kind Text = false
is_name_kind Mark = false

abbrev pub is_mark_kind : Kind → Bool
is_mark_kind Name = false
is_mark_kind Escaped = false
is_mark_kind Number = false
is_mark_kind Text = false
is_mark_kind Mark = true

abbrev pub is_number_kind : Kind → Bool
is_number_kind Name = false
is_number_kind Escaped = false
is_number_kind Number = true
is_number_kind Text = false
is_number_kind Mark = false

-- the Name of these bytes, and the Mark of a byte
abbrev pub is_word : List ℕ → Token → List ℕ → Bool
is_word text t word = is_name_kind t.kind && bytes_eq (spelled text t) word

abbrev pub is_mark : List ℕ → Token → List ℕ → Bool
is_mark text t word = is_mark_kind t.kind && bytes_eq (spelled text t) word

abbrev pub behind_first : List ℕ → List ℕ
behind_first [] = []
behind_first (b ∷ bs) = bs

-- The name that a token is: an escaped one stands behind its backslash.
abbrev pub name_by : Kind → List ℕ → Option (List ℕ)
name_by Name bytes = Some bytes
name_by Escaped bytes = Some (behind_first bytes)
name_by Number bytes = None
name_by Text bytes = None
name_by Mark bytes = None

abbrev pub token_name : List ℕ → Token → Option (List ℕ)
token_name text t = name_by t.kind (spelled text t)

-- the digits of the number that a token is
abbrev pub digits_of : List ℕ → Token → Option (List ℕ)
digits_of text t = if is_number_kind t.kind && all_digits (spelled text t) then Some (spelled text t) else None

-- that number, of any number of digits
abbrev pub number_of : List ℕ → Token → Option ℕ
number_of text t =
    if is_number_kind t.kind && all_digits (spelled text t) then Some (number_from 0 (spelled text t)) else None

-- what the code has of a name or of digits: their bytes
abbrev pub IsName : Option (List ℕ) → Option (Bor (List ℕ)) → Type 0
IsName wanted None = wanted ≡ None
IsName wanted (Some found) = wanted ≡ Some found.now

abbrev pub IsDigits : Option (List ℕ) → Option (Bor (List ℕ)) → Type 0
IsDigits wanted None = wanted ≡ None
IsDigits wanted (Some found) = wanted ≡ Some found.now

-- One of `1'b0`, `1'b1`, `1'bx` and `1'bz`.
abbrev pub bit_of : List ℕ → Option Value
bit_of bytes =
    if bytes_eq bytes (codes "1'b0") then Some Zero
    else if bytes_eq bytes (codes "1'b1") then Some One
    else if bytes_eq bytes (codes "1'bx") then Some X
    else if bytes_eq bytes (codes "1'bz") then Some Z
    else None

abbrev pub value_of : List ℕ → Token → Option Value
value_of text t = if is_number_kind t.kind then bit_of (spelled text t) else None
