-- Between the places that are visited all values are still, and each of them is one of the job's.
use Rattle.std.proofs.Common.{◌≡◌, ℕ, ◌+◌, ◌-◌, ◌*◌, arith, ap, refl, subst}
use Rattle.design_circuit.specs.Circuit.{job_in}
use Rattle.design_circuit.specs.Job.{Job}
use Rattle.replay_forces.specs.Still.{AreMarkedTo, AreMoves, looked_on, watched}
use Rattle.replay_forces.proofs.MovedPlaces.{moved_last, moved_more, moved_to}
use Rattle.replay_forces.proofs.Moving.{looked_nets, marked_none, step_places, watched_nets}
use Rattle.wave_proved.specs.Row.{anew_position}
use Rattle.replay_forces.proofs.moves.mark_moves.Goals as goal

pub moves_at-moves-requires-clause-has : goal.moves_at-moves-requires-clause-has
moves_at-moves-requires-clause-has g c =
    let step = c.args.step.now in
    λ place less.
    c.requires.has place
    (step_places (job_in step.circuit.now) step.number (g.S.Moving.job c.args.values.now).width place
    (ap (λ (j : Job). j.width) c.requires.job) step.within less)

pub mark_place-requires-clause-has : goal.mark_place-requires-clause-has
mark_place-requires-clause-has g c = λ k less.
    (let step = c.args.step.now in
    let j = job_in step.circuit.now in
    let i = c.moves.anew-index in
    let are = subst (λ (j' : Job). AreMoves j' (g.S.Source.reads c.args.values.now) step.number
    c.moves_at-moves.result.now) c.requires.job c.moves_at-moves.ensures in
    let start = are.start i c.moves-test.true in
    let inside = are.inside i c.moves-test.true in
    let is = c.number-place.ensures in
    c.requires.has k (step_places j step.number j.width k refl step.within (omega (arith, less, start, inside, is))))

pub mark_place-requires-clause-place : goal.mark_place-requires-clause-place
mark_place-requires-clause-place g c =
    let step = c.args.step.now in
    let i = c.moves.anew-index in
    let are = subst (λ (j' : Job). AreMoves j' (g.S.Source.reads c.args.values.now) step.number
    c.moves_at-moves.result.now) c.requires.job c.moves_at-moves.ensures in
    let start = are.start i c.moves-test.true in
    let is = c.number-place.ensures in
    let wide = ap (λ w. step.number * w) c.width_of.ensures in
    omega (arith, start, is, wide)

pub mark_place-requires-clause-position : goal.mark_place-requires-clause-position
mark_place-requires-clause-position g c =
    let step = c.args.step.now in
    let i = c.moves.anew-index in
    let are = subst (λ (j' : Job). AreMoves j' (g.S.Source.reads c.args.values.now) step.number
    c.moves_at-moves.result.now) c.requires.job c.moves_at-moves.ensures in
    let inside = are.inside i c.moves-test.true in
    let is = c.number-place.ensures in
    let wide = ap (λ w. step.number * w) c.width_of.ensures in
    omega (arith, inside, is, wide)

pub mark_place-requires-clause-due : goal.mark_place-requires-clause-due
mark_place-requires-clause-due g c =
    let step = c.args.step.now in
    let j = job_in step.circuit.now in
    let fits = step.circuit.now.fits.fits_job in
    let values = g.S.Source.reads c.args.values.now in
    let moves = c.moves_at-moves.result.now in
    let i = c.moves.anew-index in
    let are = subst (λ (j' : Job). AreMoves j' values step.number moves) c.requires.job c.moves_at-moves.ensures in
    let is = c.number-place.ensures in
    let wide = ap (λ w. step.number * w) c.width_of.ensures in
    let at : anew_position j step.number moves i ≡ c.number-place.result - step.number * c.width_of.result =
    omega (arith, is, wide) in
    subst (λ (n : ℕ). AreMarkedTo j values (watched j) step.number n c.moves.waiting.due) at
    (moved_to j step.number moves fits values (watched j) (watched_nets j fits) c.requires.later are i
    c.moves.waiting.due c.moves-test.true c.moves.invariant.due)

pub mark_place-requires-clause-ahead : goal.mark_place-requires-clause-ahead
mark_place-requires-clause-ahead g c =
    let step = c.args.step.now in
    let j = job_in step.circuit.now in
    let fits = step.circuit.now.fits.fits_job in
    let values = g.S.Source.reads c.args.values.now in
    let moves = c.moves_at-moves.result.now in
    let i = c.moves.anew-index in
    let are = subst (λ (j' : Job). AreMoves j' values step.number moves) c.requires.job c.moves_at-moves.ensures in
    let is = c.number-place.ensures in
    let wide = ap (λ w. step.number * w) c.width_of.ensures in
    let at : anew_position j step.number moves i ≡ c.number-place.result - step.number * c.width_of.result =
    omega (arith, is, wide) in
    subst (λ (n : ℕ). AreMarkedTo j values (looked_on j) step.number n c.moves.waiting.ahead) at
    (moved_to j step.number moves fits values (looked_on j) (looked_nets j fits) c.requires.later are i
    c.moves.waiting.ahead c.moves-test.true c.moves.invariant.ahead)

pub moves-init : goal.moves-init
moves-init g c =
    let step = c.args.step.now in
    let j = job_in step.circuit.now in
    let values = g.S.Source.reads c.args.values.now in
    record {
      more = λ p is. is;
      due = marked_none j values (watched j) step.number c.args.waiting.now.due c.requires.due;
      ahead = marked_none j values (looked_on j) step.number c.args.waiting.now.ahead c.requires.ahead;
    }

pub moves-preserved : goal.moves-preserved
moves-preserved g c =
    let step = c.args.step.now in
    let j = job_in step.circuit.now in
    let fits = step.circuit.now.fits.fits_job in
    let values = g.S.Source.reads c.args.values.now in
    let moves = c.moves_at-moves.result.now in
    let i = c.moves.anew-index in
    let are = subst (λ (j' : Job). AreMoves j' values step.number moves) c.requires.job c.moves_at-moves.ensures in
    let is = c.number-place.ensures in
    let wide = ap (λ w. step.number * w) c.width_of.ensures in
    let at : c.number-place.result - step.number * c.width_of.result + 1 ≡ anew_position j step.number moves i + 1 =
    omega (arith, is, wide) in
    record {
      more = λ p was. c.mark_place.ensures.more p (c.moves.invariant.more p was);
      due = moved_more j step.number moves fits values (watched j) (watched_nets j fits) c.requires.later are i
          c.mark_place.new.waiting.due
          (subst (λ (n : ℕ). AreMarkedTo j values (watched j) step.number n c.mark_place.new.waiting.due) at
          c.mark_place.ensures.due);
      ahead = moved_more j step.number moves fits values (looked_on j) (looked_nets j fits) c.requires.later are i
          c.mark_place.new.waiting.ahead
          (subst (λ (n : ℕ). AreMarkedTo j values (looked_on j) step.number n c.mark_place.new.waiting.ahead) at
          c.mark_place.ensures.ahead);
    }

pub returns-clause-due : goal.returns-clause-due
returns-clause-due g c =
    let step = c.args.step.now in
    let j = job_in step.circuit.now in
    let fits = step.circuit.now.fits.fits_job in
    let values = g.S.Source.reads c.args.values.now in
    let moves = c.moves_at-moves.result.now in
    let are = subst (λ (j' : Job). AreMoves j' values step.number moves) c.requires.job c.moves_at-moves.ensures in
    let test = c.moves-test.false in
    let end = c.moves.auto.anew-index-end in
    moved_last j step.number moves fits values (watched j) (watched_nets j fits) c.requires.later are
    c.moves.anew-index c.moves.waiting.due (omega (arith, test, end)) c.moves.invariant.due

pub returns-clause-ahead : goal.returns-clause-ahead
returns-clause-ahead g c =
    let step = c.args.step.now in
    let j = job_in step.circuit.now in
    let fits = step.circuit.now.fits.fits_job in
    let values = g.S.Source.reads c.args.values.now in
    let moves = c.moves_at-moves.result.now in
    let are = subst (λ (j' : Job). AreMoves j' values step.number moves) c.requires.job c.moves_at-moves.ensures in
    let test = c.moves-test.false in
    let end = c.moves.auto.anew-index-end in
    moved_last j step.number moves fits values (looked_on j) (looked_nets j fits) c.requires.later are
    c.moves.anew-index c.moves.waiting.ahead (omega (arith, test, end)) c.moves.invariant.ahead
