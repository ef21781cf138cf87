-- What a register of a sequential primitive keeps after its pins changed (profile).
use Rattle.std.specs.Prelude.{◌≡◌, ℕ, zero, suc, ◌<◌, ◌==◌, ◌&&◌, ◌++◌, Bool, true, false, cond, List, [], ◌∷◌}
use Rattle.std.specs.Prelude.{slice_index_or, slice_set, not}
use Rattle.std.specs.Int.{bit_at}
use Rattle.design_cell.specs.declared.value.Value.{Value}
use Rattle.design_cell.specs.declared.value.Value.TheVariants.{X}
use Rattle.design_cell.specs.Symbol.{differ}
use Rattle.design_cell.specs.Table.{Table, change}

-- A pin has changed where its old and new values differ; x and z do not differ.
abbrev pub has_changed : List Value → List Value → ℕ → Bool
has_changed old new pin = differ (slice_index_or old pin X) (slice_index_or new pin X)

-- no pin has changed
abbrev pub AreUnchanged : ℕ → List Value → List Value → Type 0
AreUnchanged inputs old new = (pin : ℕ) → pin < inputs → has_changed old new pin ≡ false

-- The clock pins, or the others. Bit i of the clocks stands for pin i.
abbrev pub is_in_group : Bool → ℕ → ℕ → Bool
is_in_group true clocks pin = bit_at clocks pin == 1
is_in_group false clocks pin = not (bit_at clocks pin == 1)

-- the first pins that pass a test, in port order
abbrev pub pins_with : (ℕ → Bool) → ℕ → List ℕ
pins_with test zero = []
pins_with test (suc n) = pins_with test n ++ cond (test n) (n ∷ []) []

-- those of the first pins in a group that have changed
abbrev pub changed_group : Bool → ℕ → List Value → List Value → ℕ → List ℕ
changed_group clock clocks old new n = pins_with (λ pin. is_in_group clock clocks pin && has_changed old new pin) n

-- The changed pins: the clock pins first, and then the others, each group in port order.
abbrev pub changed_pins : ℕ → List Value → List Value → ℕ → List ℕ
changed_pins clocks old new inputs =
    changed_group true clocks old new inputs ++ changed_group false clocks old new inputs

-- the pins where those of a list are new and the others old
abbrev pub pins_after : List Value → List Value → List ℕ → List Value
pins_after old new [] = old
pins_after old new (pin ∷ pins) = pins_after (slice_set old pin (slice_index_or new pin X)) new pins

-- The later pins of a list change one by one, each with the earlier ones and itself new, and the rest old.
abbrev pub state_after : Table → List Value → List Value → List ℕ → List ℕ → Value → Value
state_after table old new earlier [] q = q
state_after table old new earlier (pin ∷ later) q =
    let so_far = earlier ++ pin ∷ [] in
    state_after table old new so_far later (change table (pins_after old new so_far) pin (slice_index_or old pin X) q)

-- The changed pins change one by one. Where no pin has changed, the state stays.
unfoldable pub next : Table → ℕ → List Value → List Value → Value → Value
next table clocks old new q = state_after table old new [] (changed_pins clocks old new table.inputs) q
