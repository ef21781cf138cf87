-- What the set of nets that can come next lacks while the readers of a net are looked at. No contract of a public call
-- names it.
use Rattle.std.specs.Prelude.{◌≡◌, ℕ, ◌+◌, ◌<◌, Bool, true, Option, Some, None, List, ◌⊎◌}
use Rattle.design_circuit.specs.declared.design.Driver.{Driver}
use Rattle.design_order.specs.declared.readers.Readers.{Readers}
use Rattle.design_order.specs.Progress.{can_come}
use Rattle.design_order.specs.Readers.{InChain}

-- A net that can come is in the set, or stands among the readers that are still to come.
abbrev pub Pending : (ℕ → Driver) → ℕ → List Bool → Readers → Option ℕ → (ℕ → Bool) → Type 0
Pending driver width flags readers at ready =
    (net : ℕ) → net < width → can_come driver flags net ≡ true → (ready net ≡ true) ⊎ InChain readers.links.items at net

-- how many links may still come
abbrev pub rest_of : Option ℕ → ℕ
rest_of None = 0
rest_of (Some e) = e + 1
