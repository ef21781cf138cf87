-- What a pass over the pins has done, as `next` makes two. No contract of a public call names it.
use Rattle.std.specs.Prelude.{◌≡◌, ℕ, ◌++◌, Bool, List}
use Rattle.design_cell.specs.declared.udp.Changing.{Changing}
use Rattle.design_cell.specs.declared.value.Value.{Value}
use Rattle.design_cell.specs.Deciding.{IsLastOf}
use Rattle.design_cell.specs.Table.{Table}
use Rattle.design_cell.specs.Next.{changed_group, pins_after, state_after}

-- the pins, the state and its row where the pins of two lists have changed, those of the first one before the pass
pub record IsPass (table : Table) (old new : List Value) (earlier turned : List ℕ) (from : Changing) (pins : List Value)
    (now : Changing) : Type 0 where
  pub pins_ : pins ≡ pins_after old new (earlier ++ turned)
  pub state_ : now.state ≡ state_after table old new earlier turned from.state
  pub row_ : IsLastOf table old new earlier turned from.state from.row now.row

-- the same for the changed clock pins, or the changed others, and any pins that have turned before
abbrev pub Passes : Table → Bool → ℕ → List Value → List Value → Changing → List Value → List Value → Changing → Type 0
Passes table clock clocks old new from before pins now =
    (earlier : List ℕ) → before ≡ pins_after old new earlier →
    IsPass table old new earlier (changed_group clock clocks old new table.inputs) from pins now
