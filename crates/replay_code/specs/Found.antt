-- A net found by its name.
use Rattle.std.specs.Prelude.{◌≡◌, ℕ, ◌<◌, true, false, Option, None, Some, List, map, length, slice_index, Contains}
use Rattle.std.specs.Prelude.{Vec}
use Rattle.std.specs.declared.alloc.Global.{Global}
use Rattle.std.specs.Borrow.{Bor}
use Rattle.design_circuit.specs.declared.design.Design.{Design}
use Rattle.recording_binding.specs.Keys.{IsKey, are_solid}
use Rattle.recording_binding.specs.Naming.{Texts, index_of}
use Rattle.replay_code.specs.Lookup.{same_index}

-- what the code has of texts: the bytes of each
abbrev pub texts_in : List (Bor (List ℕ)) → Texts
texts_in texts = map (λ (text : Bor (List ℕ)). text.now) texts

abbrev pub IsBelow : Option Texts → Option (Bor (List (Bor (List ℕ)))) → Type 0
IsBelow wanted None = wanted ≡ None
IsBelow wanted (Some found) = wanted ≡ Some (texts_in found.now)

abbrev pub items_in : Option (Vec ℕ Global) → Option (List ℕ)
items_in None = None
items_in (Some key) = Some key.items

-- The key of texts, none where one has a space.
abbrev pub IsKeyOf : Texts → Option (List ℕ) → Type 0
IsKeyOf texts None = are_solid texts ≡ false
IsKeyOf texts (Some key) = IsKey texts key

-- One of these nets, with this index; or none has it.
abbrev pub IsFoundNet : Design → List ℕ → Option ℕ → Option ℕ → Type 0
IsFoundNet design nets index None =
    (k : ℕ) → k < length nets → same_index (index_of design (slice_index nets k)) index ≡ false
IsFoundNet design nets index (Some net) = Contains nets net × (same_index (index_of design net) index ≡ true)
