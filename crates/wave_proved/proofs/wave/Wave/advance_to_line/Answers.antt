-- Each place is written as its class says, or objected to.
use Rattle.std.proofs.Common.{◌≡◌, IfErr, sym, subst, rules}
use Rattle.std.specs.Prelude.{Err, Result}
use Rattle.wave_proved.specs.declared.advance.AdvanceErr.{AdvanceErr}
use Rattle.wave_proved.specs.Advance.{GoesOn, IfObjects, IsObjected, more}
use Rattle.wave_proved.specs.Contents.{Contents}
use Rattle.wave_proved.proofs.GoingRuns.{fewer_behind, goes_goes, objected_by}
use Rattle.wave_proved.proofs.wave.Wave.advance_to_line.Goals as goal

pub places-preserved : goal.places-preserved
places-preserved c =
    goes_goes (subst (GoesOn c.args.self) (sym c.in_ok-written.ensures.ok)
    (more c.places.invariant (c.is_plain_next.ensures.plain.0 c.places-test.true)
    (λ otherwise. c.in_ok-written.ensures.optimistic.1 otherwise))) c.skip-wave-in-places.ensures

pub places-smaller : goal.places-smaller
places-smaller c =
    fewer_behind c.places.wave _ _ (c.is_plain_next.ensures.plain.0 c.places-test.true) c.in_ok-written.ensures.ok
    c.skip-wave-in-places.ensures

pub returns-in_err-written-clause-reported : goal.returns-in_err-written-clause-reported
returns-in_err-written-clause-reported c =
    let is : c.from_residual.result ≡ Err c.in_err-written.field-0.0 = search rules in
    subst (λ (r : Result Contents AdvanceErr). IfErr r (IfObjects (IsObjected c.args.self))) (sym is)
    (objected_by c.args.self c.places.wave c.in_err-written.field-0.0 c.places.invariant c.is_plain_next.ensures.wave
    (c.is_plain_next.ensures.plain.0 c.places-test.true) c.in_err-written.ensures.optimistic.0
    c.in_err-written.ensures.reported)
