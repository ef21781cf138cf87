-- Nets that keep at a place's step, or at the step before, have the certain values that they had.
use Rattle.std.proofs.Common.{◌≡◌, ℕ, ◌-◌, ◌%◌, ◌<◌, ◌==◌, true, false, List, [], ◌∷◌, arith}
use Rattle.std.specs.List.{AllByRecursion}
use Rattle.std.proofs.lemmas.Bool.{and_parts}
use Rattle.design_cell.specs.declared.value.Value.{Value}
use Rattle.design_circuit.specs.Fits.{Fits, StandsBefore}
use Rattle.design_circuit.specs.Job.{Job, at, places_of, step_of}
use Rattle.design_circuit.specs.Order.{position_of}
use Rattle.design_circuit.proofs.Rules.{back_one, position_in, spot}
use Rattle.wave_class.specs.Facts.{AgreeBefore}
use Rattle.wave_class.specs.Keeps.{net_keeps, nets_keep}
use Rattle.wave_class.proofs.MovedRules.{SameAt, kept_value}

-- The places of nets at a step stand before a place.
abbrev pub Earlier : Job → ℕ → ℕ → List ℕ → Type 0
Earlier j place step nets = AllByRecursion (λ net. at j step net < place) nets

pub kept_values : (j : Job) (c : ℕ → Value) (place step : ℕ) (nets : List ℕ) → AgreeBefore j c place
    → Earlier j place step nets → nets_keep j c step nets ≡ true → SameAt j c step (step - 1) nets
kept_values j c place step [] agree less kept = tt
kept_values j c place step (net ∷ nets) agree less kept =
    let parts = and_parts (net_keeps j c step net) (nets_keep j c step nets) kept in
    (kept_value j c place step net agree less.0 parts.0, kept_values j c place step nets agree less.1 parts.1)

-- The nets that a cell reads stand before it in its step, and those that a register looks back at in the step before.
pub earlier_here : (j : Job) → Fits j → (place : ℕ) (nets : List ℕ) → place < places_of j
    → AllByRecursion (StandsBefore j (place % j.width)) nets → Earlier j place (step_of j place) nets
earlier_here j fits place [] within stands = tt
earlier_here j fits place (net ∷ nets) within stands =
    let whole = (spot j fits place within).whole in
    let low = stands.0.before in
    (omega (arith, low, whole), earlier_here j fits place nets within stands.1)

pub earlier_back : (j : Job) → Fits j → (place : ℕ) (nets : List ℕ) → place < places_of j
    → (step_of j place == 0) ≡ false → AllByRecursion (λ net. net < j.width) nets
    → Earlier j place (step_of j place - 1) nets
earlier_back j fits place [] within later low = tt
earlier_back j fits place (net ∷ nets) within later low =
    let whole = (spot j fits place within).whole in
    let back = back_one j.width (step_of j place) (position_of j.order net) (place % j.width) later
    (position_in j fits net low.0) in
    (omega (arith, back, whole), earlier_back j fits place nets within later low.1)
