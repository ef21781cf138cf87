-- One word more is none.
use Rattle.std.proofs.Common.{◌≤◌, ◌+◌, length, arith, inl, inr, ⊎_elim, ◌⊎◌}
use Rattle.std.proofs.lemmas.Bool.{cases_lt}
use Rattle.replay_due.proofs.Words.{cleared_end, cleared_none, cleared_one}
use Rattle.replay_due.proofs.due.clear_group.Goals as goal

pub places-init : goal.places-init
places-init c = record { low = omega arith; cleared = cleared_none c.args.words.now c.args.start }

pub places-preserved : goal.places-preserved
places-preserved c =
    let test = c.places-test.true in
    let from = c.places.auto.place in
    let long = c.places.auto.words in
    record { low = omega (arith, test); cleared = cleared_one c.args.words.now c.places.words c.args.start c.places.place from (omega (arith, test, long)) c.places.invariant.cleared }

pub returns : goal.returns
returns c =
    let test = c.places-test.false in
    let long = c.places.auto.words in
    let ends : (c.args.start + 64 ≤ c.min-end.result) ⊎ (length c.places.words ≤ c.min-end.result) = ⊎_elim (λ less. inr (omega (arith, less, long))) (λ more. inl (omega (arith, more))) (cases_lt (length c.args.words.now) (c.args.start + 64)) in
    cleared_end c.args.words.now c.places.words c.args.start c.places.place c.min-end.result c.places.invariant.low ends test c.places.invariant.cleared
