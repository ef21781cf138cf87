-- What isn't due between two positions that are stays.
use Rattle.std.proofs.Common.{◌≡◌, ◌+◌, ◌≤◌, ℕ, arith, min, subst}
use Rattle.replay_history.specs.Going.{forced_in, job_at}
use Rattle.replay_history.proofs.Sweeps.{IsGone, gone_to}
use Rattle.replay_history.proofs.sweep.sweep.Goals as goal

pub positions-init : goal.positions-init
positions-init c =
    let j = job_at c.args.step.now in
    record { under_way = c.requires.under_way; gone = gone_to j c.args.step.now.circuit.now.fits.fits_job (forced_in c.args.step.now) c.args.step.now.number 0 c.first_from-position.result c.args.writer.now.history c.args.waiting.now.due c.args.waiting.now.ahead c.args.step.now.fits.within (omega arith) (omega arith) c.first_from-position.ensures.none record { swept = c.requires.swept; due = c.requires.due; ahead = c.requires.ahead } }

pub visit_place-requires-clause-swept : goal.visit_place-requires-clause-swept
visit_place-requires-clause-swept c =
    let j = job_at c.args.step.now in
    let count = c.width_of-nets.ensures in
    let test = c.positions-test.true in
    let here : min c.positions.position j.width ≡ c.positions.position = omega (arith, count, test) in
    let P : ℕ → Type 0 = λ n. IsGone (job_at c.args.step.now) (forced_in c.args.step.now) c.args.step.now.number n c.positions.writer.history c.positions.waiting.due c.positions.waiting.ahead in
    (subst P here c.positions.invariant.gone).swept

pub visit_place-requires-clause-due : goal.visit_place-requires-clause-due
visit_place-requires-clause-due c =
    let j = job_at c.args.step.now in
    let count = c.width_of-nets.ensures in
    let test = c.positions-test.true in
    let here : min c.positions.position j.width ≡ c.positions.position = omega (arith, count, test) in
    let P : ℕ → Type 0 = λ n. IsGone (job_at c.args.step.now) (forced_in c.args.step.now) c.args.step.now.number n c.positions.writer.history c.positions.waiting.due c.positions.waiting.ahead in
    (subst P here c.positions.invariant.gone).due

pub visit_place-requires-clause-ahead : goal.visit_place-requires-clause-ahead
visit_place-requires-clause-ahead c =
    let j = job_at c.args.step.now in
    let count = c.width_of-nets.ensures in
    let test = c.positions-test.true in
    let here : min c.positions.position j.width ≡ c.positions.position = omega (arith, count, test) in
    let P : ℕ → Type 0 = λ n. IsGone (job_at c.args.step.now) (forced_in c.args.step.now) c.args.step.now.number n c.positions.writer.history c.positions.waiting.due c.positions.waiting.ahead in
    (subst P here c.positions.invariant.gone).ahead

pub positions-preserved : goal.positions-preserved
positions-preserved c =
    let j = job_at c.args.step.now in
    let count = c.width_of-nets.ensures in
    let test = c.positions-test.true in
    let within : c.positions.position + 1 ≤ j.width = omega (arith, count, test) in
    let next = c.first_from-position-in-positions in
    record { under_way = c.in_ok-visit_place.ensures.under_way; gone = gone_to j c.args.step.now.circuit.now.fits.fits_job (forced_in c.args.step.now) c.args.step.now.number (c.positions.position + 1) next.result c.visit_place.new.writer.history c.visit_place.new.waiting.due c.visit_place.new.waiting.ahead c.args.step.now.fits.within within next.ensures.forward next.ensures.none record { swept = c.in_ok-visit_place.ensures.swept; due = c.in_ok-visit_place.ensures.due; ahead = c.in_ok-visit_place.ensures.ahead } }

pub returns-clause-swept : goal.returns-clause-swept
returns-clause-swept c =
    let j = job_at c.args.step.now in
    let count = c.width_of-nets.ensures in
    let test = c.positions-test.false in
    let end : min c.positions.position j.width ≡ j.width = omega (arith, count, test) in
    let P : ℕ → Type 0 = λ n. IsGone (job_at c.args.step.now) (forced_in c.args.step.now) c.args.step.now.number n c.positions.writer.history c.positions.waiting.due c.positions.waiting.ahead in
    (subst P end c.positions.invariant.gone).swept

pub returns-clause-due : goal.returns-clause-due
returns-clause-due c = c.positions.invariant.gone.due.room

pub returns-clause-ahead : goal.returns-clause-ahead
returns-clause-ahead c =
    let j = job_at c.args.step.now in
    let count = c.width_of-nets.ensures in
    let test = c.positions-test.false in
    let end : min c.positions.position j.width ≡ j.width = omega (arith, count, test) in
    let P : ℕ → Type 0 = λ n. IsGone (job_at c.args.step.now) (forced_in c.args.step.now) c.args.step.now.number n c.positions.writer.history c.positions.waiting.due c.positions.waiting.ahead in
    (subst P end c.positions.invariant.gone).ahead
