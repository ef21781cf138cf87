-- After the undo the trail is as before, and the watches serve it.
use Rattle.std.proofs.Common.{◌∙◌, refl, sym}
use Rattle.sat_proof.specs.Premises.{all_in}
use Rattle.sat_proof.specs.Trail.{IsSameTrail}
use Rattle.sat_proof.proofs.Bases.{at_base}
use Rattle.sat_proof.proofs.Trails.{kept_by_undo, low_to_undo}
use Rattle.sat_search.proofs.tighten.probe.Goals as goal

pub undo-requires : goal.undo-requires
undo-requires c = low_to_undo c.args.propagator.now.trail c.seek-found.new.propagator.trail c.seek-found.ensures.back.over

pub returns-clause-back : goal.returns-clause-back
returns-clause-back c =
    let kept : IsSameTrail c.args.propagator.now.trail c.undo.new.self = kept_by_undo c.args.propagator.now.trail c.seek-found.new.propagator.trail c.undo.new.self
    c.seek-found.ensures.back.over c.undo.ensures.marks c.undo.ensures.len (c.undo.ensures.read ∙ sym c.requires.base.base.read) in
    record { base = at_base c.args.propagator.now c.seek-found.new.propagator _ (all_in c.args.clauses.now) c.requires.base c.seek-found.ensures.back kept refl; kept = kept }
