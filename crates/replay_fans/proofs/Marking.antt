-- What isn't due has no change.
use Rattle.std.proofs.Common.{◌≡◌, ℕ, ◌+◌, ◌-◌, ◌/◌, Bool, true, false, List, length, slice_index_or, refl}
use Rattle.std.proofs.Common.{sym, ap, ◌∙◌, arith, subst, ⊎_elim}
use Rattle.std.proofs.lemmas.Bool.{cases_eq}
use Rattle.design_cell.specs.declared.value.Value.{Value}
use Rattle.design_cell.specs.declared.value.Value.TheVariants.{X}
use Rattle.design_circuit.specs.Job.{Job}
use Rattle.design_circuit.specs.Order.{position_of}
use Rattle.design_inputs.specs.Rows.{AreChanged, AreElsewhere, moment_row}
use Rattle.base_ledger.specs.Change.{change_position, nth_change}
use Rattle.base_ledger.specs.declared.change.Change.{Change}
use Rattle.replay_due.specs.Due.{is_due}
use Rattle.replay_fans.specs.Marks.{AreChangesDue, AreInputsDue, OnlyMore}

-- What isn't due was not before.
clear_of : (old new : Bool) → (old ≡ true → new ≡ true) → new ≡ false → old ≡ false
clear_of true new more clear = absurd (let no : true ≡ false = sym (more refl) ∙ clear in cc)
clear_of false new more clear = refl

pub clear_before : (old new : List ℕ) (p : ℕ) → OnlyMore old new → is_due new p ≡ false → is_due old p ≡ false
clear_before old new p more clear = clear_of (is_due old p) (is_due new p) (more p) clear

-- The net of one change more is due.
pub changes_more : (j : Job) (changes : List Change) (n : ℕ) (old new : List ℕ) → OnlyMore old new
    → is_due new (position_of j.order (change_position (nth_change changes n))) ≡ true → AreChangesDue j n changes old
    → AreChangesDue j (n + 1) changes new
changes_more j changes n old new more here due i low =
    ⊎_elim (λ same.
    (let P : ℕ → Type 0 = λ k. is_due new (position_of j.order (change_position (nth_change changes k))) ≡ true in
    subst P (sym same) here))
    (λ differ. more (position_of j.order (change_position (nth_change changes i)))
    (due i (omega (arith, low, differ)))) (cases_eq i n)

-- What isn't due has no change, and is recorded as in the moment before.
pub inputs_due : (j : Job) (step : ℕ) (rows : List (List Value)) (changes : List Change) (due : List ℕ)
    → ((moment net : ℕ) → j.recorded moment net ≡ slice_index_or (moment_row rows moment) net X)
    → length (moment_row rows (step / j.rounds)) ≡ j.width
    → step / j.rounds - 1 ≡ (step - 1) / j.rounds → AreChanged rows (step / j.rounds) changes
    → AreChangesDue j (length changes) changes due → AreInputsDue j step due
inputs_due j step rows changes due reads long earlier changed marked net low clear =
    let moment = step / j.rounds in
    let elsewhere : AreElsewhere changes net = λ i within is.
    (let P : ℕ → Type 0 = λ k. is_due due (position_of j.order k) ≡ true in
    let no : true ≡ false = sym (subst P is (marked i within)) ∙ clear in cc) in
    reads moment net ∙ changed.others net (omega (arith, low, long)) elsewhere ∙ sym (reads (moment - 1) net)
    ∙ ap (λ (m : ℕ). j.recorded m net) earlier
