-- A place, and the one of its net a step before.
use Rattle.std.proofs.Common.{◌≡◌, ℕ, zero, suc, ◌+◌, ◌-◌, ◌*◌, ◌%◌, ◌<◌, ◌≤◌, ◌||◌, Bool, false, refl, sym, ap, ◌∙◌}
use Rattle.std.proofs.Common.{arith}
use Rattle.std.proofs.lemmas.Bool.{ne_eqb}
use Rattle.design_cell.specs.declared.value.Value.{Value}
use Rattle.design_circuit.specs.Fits.{Fits}
use Rattle.design_circuit.specs.Job.{Job, at, step_of, places_of}
use Rattle.design_circuit.proofs.OrderLemmas.{position_is}
use Rattle.design_circuit.proofs.Rules.{spot}
use Rattle.law_model.specs.Class.{are_equal, before}
use Rattle.wave_class.specs.Facts.{facts_of, keeps_by}
use Rattle.wave_class.specs.Keeps.{net_keeps}
use Rattle.law_model.proofs.CarryLaw.{step_at, net_at}

pub one_back : (w step position place : ℕ) → step * w + position ≡ place → (step ≡ 0 → ⊥)
    → place - w ≡ (step - 1) * w + position
one_back w zero position place whole later = absurd (later refl)
one_back w (suc t) position place whole later = let e : suc t - 1 ≡ t = omega arith in rw e (omega (arith, whole))

at_first : (w step position place : ℕ) → step * w + position ≡ place → place < w
    → place ≡ (step - 1) * w + position
at_first w zero position place whole less = omega (arith, whole)
at_first w (suc t) position place whole less = absurd (omega (arith, whole, less))

at_later : (w step position place : ℕ) → step * w + position ≡ place → position < w → w ≤ place
    → place - w ≡ (step - 1) * w + position
at_later w zero position place whole low more = absurd (omega (arith, whole, low, more))
at_later w (suc t) position place whole low more = let e : suc t - 1 ≡ t = omega arith in rw e (omega (arith, whole))

before_is : (j : Job) → Fits j → (place : ℕ) → place < places_of j
    → before j place ≡ (step_of j place - 1) * j.width + place % j.width
before_is j fits place within =
    let s = spot j fits place within in
    let all = fits.all in
    let low = s.position in
    rw (position_is j.order (place % j.width) fits.ordering (omega (arith, all, low))) refl

not_first : (w step position place : ℕ) → step * w + position ≡ place → position < w → w ≤ place → step ≡ 0 → ⊥
not_first w zero position place whole low more e = omega (arith, whole, low, more)
not_first w (suc t) position place whole low more e = omega (arith, e)

pub first_step : (w step position place : ℕ) → step * w + position ≡ place → place < w → step ≡ 0
first_step w zero position place whole less = refl
first_step w (suc t) position place whole less = absurd (omega (arith, whole, less))

-- In the first step it stands for itself, and later it is one width before.
pub before_first : (j : Job) → Fits j → (place : ℕ) → place < places_of j → place < j.width → place ≡ before j place
before_first j fits place within less =
    let s = spot j fits place within in
    at_first j.width (step_of j place) (place % j.width) place s.whole less ∙ sym (before_is j fits place within)

pub before_later : (j : Job) → Fits j → (place : ℕ) → place < places_of j → j.width ≤ place
    → place - j.width ≡ before j place
before_later j fits place within more =
    let s = spot j fits place within in
    at_later j.width (step_of j place) (place % j.width) place s.whole s.position more
    ∙ sym (before_is j fits place within)

-- The same with a width that code found.
pub more_width : (w width place : ℕ) → width ≡ w → width ≤ place → w ≤ place
more_width w width place is more = omega (arith, is, more)

pub before_back : (j : Job) → Fits j → (place width : ℕ) → place < places_of j → width ≡ j.width → width ≤ place
    → place - width ≡ before j place
before_back j fits place width within is more =
    ap (λ k. place - k) is ∙ before_later j fits place within (more_width j.width width place is more)

pub before_at : (j : Job) → Fits j → (step net : ℕ) → net < j.width → before j (at j step net) ≡ at j (step - 1) net
before_at j fits step net within = rw (step_at j fits step net within, net_at j fits step net within) refl

-- Whether a net keeps at a step, by its place there.
pub keeps_at : (j : Job) → Fits j → (c : ℕ → Value) (step net : ℕ) → net < j.width
    → (facts_of j c (at j step net)).keeps ≡ net_keeps j c step net
keeps_at j fits c step net within = rw (step_at j fits step net within, net_at j fits step net within) refl

-- The same of a place behind the first step.
pub keeps_later : (j : Job) → Fits j → (place : ℕ) (here back : Value) (on : Bool) → place < places_of j
    → j.width ≤ place → are_equal here back || on ≡ keeps_by (step_of j place) here back on
keeps_later j fits place here back on within more =
    let s = spot j fits place within in
    let low = s.position in
    let whole = s.whole in
    rw (ne_eqb (step_of j place) 0 (λ e. not_first j.width (step_of j place) (place % j.width) place whole low more e))
    refl

pub keeps_first : (j : Job) → Fits j → (place : ℕ) (here back : Value) (on : Bool) → place < places_of j
    → place < j.width → false ≡ keeps_by (step_of j place) here back on
keeps_first j fits place here back on within less =
    let s = spot j fits place within in
    rw (first_step j.width (step_of j place) (place % j.width) place s.whole less) refl
