-- Where a waveform ends.
use Rattle.std.proofs.Common.{◌≡◌, ℕ, ◌+◌, ◌*◌, ◌/◌, ◌%◌, ◌<◌, ◌≤◌, List, length, sym, ap, ◌∙◌, arith, subst}
use Rattle.std.proofs.Math.Nat.{div-lt_iff_lt-mul}
use Rattle.std.proofs.lemmas.Nat.{div-mul-add, mod-mul-add}
use Rattle.design_circuit.specs.Job.{Job, places_of, step_of}
use Rattle.design_circuit.specs.declared.waveform.Written.{Written}
use Rattle.design_circuit.proofs.Reaching.{step_small}
use Rattle.wave_bytes.specs.OfQuiet.{spot_at}
use Rattle.wave_due.specs.Walk.{HasTables, IsWalk, IsWalkAt, shown_by}
use Rattle.wave_due.specs.declared.walk.Walk.{Walk}

-- It ends at a position of a step.
pub step_there : (w step position n : ℕ) → position < w → n ≡ step * w + position → n / w ≡ step
step_there w step position n low is = ap (λ k. k / w) is ∙ div-mul-add step w position low

pub position_there : (w step position n : ℕ) → position < w → n ≡ step * w + position → n % w ≡ position
position_there w step position n low is = ap (λ k. k % w) is ∙ mod-mul-add step w position low

-- A walk up to a position of a step is one up to the next place.
pub walk_here : (j : Job) (waveform : List Written) (walk : Walk) (position : ℕ) → HasTables j walk
    → position < j.width → IsWalkAt j (shown_by j walk) waveform walk walk.replayed.step position
    → IsWalk j waveform walk
walk_here j waveform walk position tables low at_it =
    let n : ℕ = length waveform in
    let long = at_it.gone.length_is in
    let step = step_there j.width walk.replayed.step position n low long in
    record {
      tables = tables;
      here = λ more. subst (λ s. IsWalkAt j (shown_by j walk) waveform walk s (n % j.width)) (sym step)
          (subst (IsWalkAt j (shown_by j walk) waveform walk walk.replayed.step)
          (sym (position_there j.width walk.replayed.step position n low long)) at_it);
      reads = λ more. sym step;
    }

-- Where no place is left there is nothing to know.
pub walk_done : (j : Job) (waveform : List Written) (walk : Walk) → HasTables j walk
    → (length waveform < places_of j → ⊥) → IsWalk j waveform walk
walk_done j waveform walk tables none = record {
  tables = tables;
  here = λ more. absurd (none more);
  reads = λ more. absurd (none more);
}

-- A step in which a place stands has room for all its places.
pub step_within : (j : Job) (step position place : ℕ) → position < j.width → place ≡ spot_at j step position
    → place < places_of j → step < j.moments * j.rounds
step_within j step position place low is within =
    let less : step_of j place < j.moments * j.rounds =
    (div-lt_iff_lt-mul {x = place} (omega (arith, low))).1 (omega (arith, within)) in
    subst (λ s. s < j.moments * j.rounds) (step_there j.width step position place low is) less

pub step_room : (j : Job) (step position place : ℕ) → position < j.width → place ≡ spot_at j step position
    → place < places_of j → spot_at j step j.width ≤ places_of j
step_room j step position place low is within =
    let less = step_within j step position place low is within in
    let room = step_small j.width step (j.moments * j.rounds) less in
    omega (arith, room)
