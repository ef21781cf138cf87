-- Places ahead of the first one that isn't known yet, all in its step: that they are quiet, as far as the places before
-- it tell.
use Rattle.std.specs.Prelude.{◌≡◌, ℕ, ◌*◌, ◌<◌, ◌≤◌, ◌==◌, ◌&&◌, Bool, true, false, List, nat_lt, not}
use Rattle.std.specs.Prelude.{if◌then◌else◌}
use Rattle.std.specs.List.{AllByRecursion}
use Rattle.design_cell.specs.declared.value.Value.{Value}
use Rattle.design_circuit.specs.declared.design.Driver.{Driver}
use Rattle.design_circuit.specs.declared.design.Driver.TheVariants.{Cell, Constant, Copy, Input, Register, Undriven}
use Rattle.design_circuit.specs.declared.design.Pin.{Pin}
use Rattle.design_circuit.specs.declared.design.Table.{Table}
use Rattle.design_circuit.specs.Fits.{Fits}
use Rattle.design_circuit.specs.Job.{Job, at, places_of, step_of}
use Rattle.design_circuit.specs.Order.{arguments_of_driver}
use Rattle.design_cell.specs.Value.{is_unknown}
use Rattle.design_circuit.specs.declared.stim.Levels.{Levels}
use Rattle.design_circuit.specs.declared.stim.Levels.TheVariants.{Change, Hold}
use Rattle.design_circuit.specs.Register.{has_uncertain_clock}
use Rattle.law_model.specs.Class.{before, class_of, is_never_unknown, keeps}
use Rattle.law_model.specs.declared.class.ClassByNumber.{ClassByNumber}
use Rattle.law_model.specs.declared.class.ClassByNumber.TheVariants.{Carried, Free, Line, Local}
use Rattle.wave_class.specs.Facts.{AgreeBefore, AgreesWith}
use Rattle.wave_class.specs.Keeps.{cell_chooses}
use Rattle.law_quiet.specs.Due.{IsQuiet, IsStirred, driver_of, is_clocked}
use Rattle.law_quiet.specs.Laws.{Rests}

-- The classes of the places before a first one, and as if each place from there on were carried from its net's place a
-- step before: with these a net keeps at a later step wherever its place doesn't stand before the first one.
abbrev pub taken_on : Job → (ℕ → ClassByNumber) → ℕ → ℕ → ClassByNumber
taken_on j class first place = if nat_lt place first then class place else Carried (before j place) false

-- A place is quiet, and it is stirred, as far as the places before a first one tell.
abbrev pub RestsFrom : Job → (ℕ → Value) → ℕ → ℕ → Type 0
RestsFrom j certain first place = IsQuiet j certain (taken_on j (class_of j certain) first) place

abbrev pub IsStirredFrom : Job → (ℕ → Value) → ℕ → ℕ → Type 0
IsStirredFrom j certain first place = IsStirred j certain (taken_on j (class_of j certain) first) place

-- A place that isn't before the first one, and in its step.
pub record IsAhead (j : Job) (first place : ℕ) : Type 0 where
  pub within : place < places_of j
  pub behind : first ≤ place
  pub in_step : step_of j place * j.width ≤ first

-- Where all places before a place tell, it is quiet.
abbrev pub HereLaw : Type 0
HereLaw = (j : Job) (certain : ℕ → Value) (place : ℕ) → Fits j → place < places_of j → RestsFrom j certain place place
    → Rests j certain place

-- A place leaves its net's next one nothing to be due for but what stirs it: a cell's rule gives x for no assignment,
-- and a register is behind the first step and has its clock pins certain where it looks back, or, where levels decide
-- it by change, its own place is certain.
abbrev pub is_calm_of : Job → (ℕ → Value) → ℕ → ℕ → Driver → Bool
is_calm_of j certain place step Input = true
is_calm_of j certain place step Undriven = true
is_calm_of j certain place step (Constant bit) = true
is_calm_of j certain place step (Copy argument) = true
is_calm_of j certain place step (Cell table pins) = is_never_unknown j certain place
is_calm_of j certain place step (Register latching) =
    not (step == 0) && is_clocked j.levels (has_uncertain_clock j certain step latching)
    (has_uncertain_clock j certain step latching) (is_unknown (certain place))

abbrev pub is_calm : Job → (ℕ → Value) → ℕ → Bool
is_calm j certain place = is_calm_of j certain place (step_of j place) (driver_of j place)

-- So a place is quiet as far as they tell where its net's place a step before is calm, and it isn't stirred as far as
-- they tell.
abbrev pub StaysLaw : Type 0
StaysLaw = (j : Job) (certain : ℕ → Value) (first place : ℕ) → Fits j → IsAhead j first place
    → AgreeBefore j certain first → (step_of j place ≡ 0 → ⊥) → is_calm j certain (before j place) ≡ true
    → (IsStirredFrom j certain first place → ⊥) → RestsFrom j certain first place

-- A quiet place is calm. So what is due in a step is known from the places of the step before that didn't keep, from
-- what is recorded, and from those of them that were due and aren't calm.
abbrev pub CalmLaw : Type 0
CalmLaw = (j : Job) (certain : ℕ → Value) (place : ℕ) → Fits j → place < places_of j → AgreeBefore j certain place
    → Rests j certain place → AgreesWith certain (class_of j certain place) (certain place)
    → is_calm j certain place ≡ true

-- So is a cell's place that is local or carried.
abbrev pub IsCarriedOrLocal : ClassByNumber → Type 0
IsCarriedOrLocal (Local bit) = Unit {0}
IsCarriedOrLocal Free = ⊥
IsCarriedOrLocal (Carried from inverted) = Unit {0}
IsCarriedOrLocal Line = ⊥

abbrev pub CellLaw : Type 0
CellLaw = (j : Job) (certain : ℕ → Value) (place : ℕ) (table : Table) (pins : List Pin) → Fits j → place < places_of j
    → driver_of j place ≡ Cell table pins → IsCarriedOrLocal (class_of j certain place)
    → is_calm j certain place ≡ true

-- So its class tells: of a cell's place, as well where it is Line and the cell reads no filling; and of a register's,
-- behind the first step, where it isn't free, nor local where levels hold it.
abbrev pub cell_tells : Table → List Pin → ClassByNumber → Bool
cell_tells table pins (Local bit) = true
cell_tells table pins Free = false
cell_tells table pins (Carried from inverted) = true
cell_tells table pins Line = not (cell_chooses table pins)

abbrev pub by_change : Levels → Bool
by_change Change = true
by_change Hold = false

abbrev pub register_tells : Levels → ClassByNumber → Bool
register_tells levels (Local bit) = by_change levels
register_tells levels Free = false
register_tells levels (Carried from inverted) = true
register_tells levels Line = true

abbrev pub tells_calm_of : Levels → ℕ → Driver → ClassByNumber → Bool
tells_calm_of levels step Input class = true
tells_calm_of levels step Undriven class = true
tells_calm_of levels step (Constant bit) class = true
tells_calm_of levels step (Copy argument) class = true
tells_calm_of levels step (Cell table pins) class = cell_tells table pins class
tells_calm_of levels step (Register latching) class = not (step == 0) && register_tells levels class

abbrev pub ToldLaw : Type 0
ToldLaw = (j : Job) (certain : ℕ → Value) (place : ℕ) → Fits j → place < places_of j
    → AgreesWith certain (class_of j certain place) (certain place)
    → tells_calm_of j.levels (step_of j place) (driver_of j place) (class_of j certain place) ≡ true
    → is_calm j certain place ≡ true

-- Of the nets that a place's driver reads in its step, those whose places stand between a first place and a next keep.
abbrev pub KeepBetween : Job → (ℕ → Value) → ℕ → ℕ → ℕ → Type 0
KeepBetween j certain first next place =
    AllByRecursion (λ net. first ≤ at j (step_of j place) net → at j (step_of j place) net < next
    → keeps j certain (class_of j certain) (step_of j place) net ≡ true) (arguments_of_driver (driver_of j place))

-- So it is quiet as far as more places tell.
abbrev pub AlongLaw : Type 0
AlongLaw = (j : Job) (early late : ℕ → Value) (first next place : ℕ) → Fits j → IsAhead j first place → first ≤ next
    → next ≤ place → ((k : ℕ) → k < first → early k ≡ late k) → KeepBetween j late first next place
    → RestsFrom j early first place → RestsFrom j late next place
