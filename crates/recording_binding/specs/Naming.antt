-- The nets of a name.
use Rattle.std.specs.Prelude.{ℕ, zero, suc, Bool, true, false, ◌&&◌, List, [], ◌∷◌, ◌++◌, Option, length, bytes_eq}
use Rattle.std.specs.Prelude.{if◌then◌else◌}
use Rattle.design_circuit.specs.Design.{name_in, spelling_of}
use Rattle.design_circuit.specs.declared.design.Design.{Design}

-- A name: the texts of its parts, escaped or not alike.
abbrev pub Texts : Type 0
Texts = List (List ℕ)

-- the texts of a net's name
abbrev pub texts_of : Design → ℕ → Texts
texts_of design net = (spelling_of (name_in design net)).texts

-- the index of a net of a vector
abbrev pub index_of : Design → ℕ → Option ℕ
index_of design net = (spelling_of (name_in design net)).index

-- whether two names have the same texts
abbrev pub names_eq : Texts → Texts → Bool
names_eq [] [] = true
names_eq [] (b ∷ bs) = false
names_eq (a ∷ as') [] = false
names_eq (a ∷ as') (b ∷ bs) = bytes_eq a b && names_eq as' bs

-- the nets of a name among the first so many nets
abbrev pub named_below : Design → Texts → ℕ → List ℕ
named_below design name zero = []
named_below design name (suc net) =
    named_below design name net ++ (if names_eq (texts_of design net) name then net ∷ [] else [])

-- The nets of a name are those with its texts, in number order: those of a vector from its left bit to its right one. A
-- name that no net has is no name of the design.
abbrev pub nets_of : Design → Texts → List ℕ
nets_of design name = named_below design name (length design.nets)
