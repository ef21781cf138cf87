-- The walk began with nothing written, and what is found otherwise is a place of the job.
use Rattle.std.proofs.Common.{◌∙◌, refl, subst}
use Rattle.law_along.specs.Along.{GoesAlong}
use Rattle.decide_repair.specs.Repaired.{IsOfJob}
use Rattle.wave_proved.specs.Contents.{Contents}
use Rattle.cmd_phases.proofs.FoundPlaces.{found_there}
use Rattle.cmd_phases.proofs.walked.wave_under.Goals as goal

pub returns-in-Ok-clause-repaired : goal.returns-in-Ok-clause-repaired
returns-in-Ok-clause-repaired g c =
    let is = c.in-Ok.ensures.start ∙ c.in_ok-walk.ensures in record {
      of_job = subst (λ (start : Contents). IsOfJob start c.into_wave.result) is c.into_wave.ensures.job;
      along = subst (λ (start : Contents). GoesAlong start c.into_wave.result) is c.into_wave.ensures.along;
      sound = c.into_wave.ensures.sound;
      finished = c.into_wave.ensures.finished;
    }

pub objection_of-requires-clause-place : goal.objection_of-requires-clause-place
objection_of-requires-clause-place g c =
    let objected = rw c.in-Err-Optimistic.field-0-is at c.in-Err-Optimistic.ensures.refused in
    let refused = rw c.in_ok-walk.ensures at objected in
    found_there c.args.limits c.args.netlist.now c.args.stim.now c.args.history.now c.in-Err-Optimistic.found c.requires.fits.fits_job refused

pub returns-in_ok-objection_of-in-Err-Optimistic-clause-refused :
    goal.returns-in_ok-objection_of-in-Err-Optimistic-clause-refused
returns-in_ok-objection_of-in-Err-Optimistic-clause-refused g c =
    let objected = rw c.in-Err-Optimistic.field-0-is at c.in-Err-Optimistic.ensures.refused in
    let refused = rw c.in_ok-walk.ensures at objected in (
      c.in_ok-objection_of-in-Err-Optimistic.field-0,
      record { otherwise = c.in-Err-Optimistic.found; objects = refused; is = c.in_ok-objection_of-in-Err-Optimistic.ensures },
      refl,
    )
