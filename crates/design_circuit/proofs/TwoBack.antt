-- The step that a later step sees two steps back.
use Rattle.std.proofs.Common.{◌≡◌, ◌⊎◌, ℕ, zero, suc, ◌-◌, ◌<◌, ◌==◌, false, None, Some, IfSome, List, refl, ap, inl, inr, arith}
use Rattle.std.proofs.lemmas.Grind.{common_steps}
use Rattle.design_cell.specs.declared.value.Value.{Value}
use Rattle.design_circuit.specs.declared.design.Pin.{Pin}
use Rattle.design_circuit.specs.declared.stim.StartRule.{StartRule}
use Rattle.design_circuit.specs.declared.stim.StartRule.TheVariants.{Cold, Recorded}
use Rattle.design_circuit.specs.Job.{Job}
use Rattle.design_circuit.specs.Register.{before_start, old_pins, pins_at, pins_back, two_back}

start_before : (rule : StartRule) (step : ℕ) → 0 < step → IfSome (before_start rule) (λ earlier. earlier < step)
start_before Cold step later = tt
start_before Recorded step later = later

-- From step 2 on it is the step two before,
pub back_later : (j : Job) (step : ℕ) → 1 < step → two_back j step ≡ Some (step - 2)
back_later j step later = let no : (step == 1) ≡ false = grind (arith, common_steps) in rw no refl

pub old_later : (j : Job) (values : ℕ → Value) (step : ℕ) (pins : List Pin) → 1 < step → old_pins j values step pins ≡ pins_at j values (step - 2) pins
old_later j values step pins later = ap (pins_back j values pins) (back_later j step later)

start_either : (rule : StartRule) → (before_start rule ≡ None) ⊎ (before_start rule ≡ Some 0)
start_either Cold = inl refl
start_either Recorded = inr refl

-- and at step 1 it is none or step 0.
pub back_either : (j : Job) (step : ℕ) → 0 < step → (two_back j step ≡ None) ⊎ (two_back j step ≡ Some (step - 2))
back_either j zero later = absurd (omega arith)
back_either j (suc zero) later = start_either j.start_rule
back_either j (suc (suc step)) later = inr (back_later j (suc (suc step)) (omega arith))

-- It stands before the later step.
pub back_before : (j : Job) (step : ℕ) → (step == 0) ≡ false → IfSome (two_back j step) (λ earlier. earlier < step)
back_before j zero later = cc
back_before j (suc zero) later = start_before j.start_rule 1 (omega arith)
back_before j (suc (suc step)) later =
    let earlier : suc (suc step) - 2 < suc (suc step) = omega arith in
    rw (back_later j (suc (suc step)) (omega arith)) earlier
