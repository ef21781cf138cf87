-- What is refused is of the job.
use Rattle.std.proofs.Common.{refl}
use Rattle.cmd_phases.proofs.CheckedPlaces.{certified_by, missing_at, objected_at, objected_for, refused_for}
use Rattle.cmd_phases.proofs.certified.certified_wave.Goals as goal

pub uncertified_by-requires : goal.uncertified_by-requires
uncertified_by-requires c =
    let refused = rw c.in-Err-Refused.field-0-is at c.in-Err-Refused.ensures.refused in
    missing_at c.args.limits c.args.agreed.now.parts c.args.agreed.now.history c.args.cert c.in-Err-Refused.fault refused

pub objection_of-requires-clause-place : goal.objection_of-requires-clause-place
objection_of-requires-clause-place c =
    let refused = rw c.in-Err-Optimistic.field-0-is at c.in-Err-Optimistic.ensures.refused in
    objected_at c.args.limits c.args.agreed.now.parts c.args.agreed.now.history c.args.cert c.in-Err-Optimistic.found refused

pub returns-in_ok-uncertified_by-in-Err-Refused-clause-refused : goal.returns-in_ok-uncertified_by-in-Err-Refused-clause-refused
returns-in_ok-uncertified_by-in-Err-Refused-clause-refused c =
    let refused = rw c.in-Err-Refused.field-0-is at c.in-Err-Refused.ensures.refused in (
      _,
      refused_for c.args.limits c.args.agreed.now.parts c.args.agreed.now.history c.args.cert c.in-Err-Refused.fault c.in_ok-uncertified_by-in-Err-Refused.field-0
          c.args.agreed.now.fits c.args.agreed.now.replay refused c.in_ok-uncertified_by-in-Err-Refused.ensures,
      refl,
    )

pub returns-in_ok-objection_of-in-Err-Optimistic-clause-refused : goal.returns-in_ok-objection_of-in-Err-Optimistic-clause-refused
returns-in_ok-objection_of-in-Err-Optimistic-clause-refused c =
    let refused = rw c.in-Err-Optimistic.field-0-is at c.in-Err-Optimistic.ensures.refused in (
      _,
      objected_for c.args.limits c.args.agreed.now.parts c.args.agreed.now.history c.args.cert c.in-Err-Optimistic.found c.in_ok-objection_of-in-Err-Optimistic.field-0
          c.args.agreed.now.fits c.args.agreed.now.replay refused c.in_ok-objection_of-in-Err-Optimistic.ensures,
      refl,
    )

pub returns-in-Ok-clause-certified : goal.returns-in-Ok-clause-certified
returns-in-Ok-clause-certified c =
    certified_by c.args.limits c.args.agreed.now.parts c.args.agreed.now.history c.args.cert c.in-Ok.checked.wave c.in-Ok.checked.conditions c.args.agreed.now.fits c.args.agreed.now.replay c.in-Ok.ensures.checked
