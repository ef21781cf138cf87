-- A clause follows exactly where propagation refutes its denial, and the undo leaves the trail as before.
use Rattle.std.proofs.Common.{◌++◌, ◌∙◌, refl, sym}
use Rattle.sat_proof.specs.Premises.{all_in}
use Rattle.sat_proof.specs.Trail.{IsSameTrail}
use Rattle.sat_proof.proofs.Bases.{at_base}
use Rattle.sat_proof.proofs.Deciding.{follows_if_none}
use Rattle.sat_proof.proofs.ClosedSets.{none_resists}
use Rattle.sat_proof.proofs.Trails.{kept_by_undo, low_to_undo}
use Rattle.sat_proof.proofs.propagator.Propagator.follows.Goals as goal

pub undo-requires : goal.undo-requires
undo-requires c = low_to_undo c.args.self.now.trail c.is_refuted-conflict.new.self.trail c.is_refuted-conflict.ensures.back.over

pub returns-clause-yes : goal.returns-clause-yes
returns-clause-yes c e = follows_if_none (all_in c.args.clauses.now) (c.args.left.now ++ c.args.right.now) (c.is_refuted-conflict.ensures.yes e)

pub returns-clause-no : goal.returns-clause-no
returns-clause-no c e follows = c.is_refuted-conflict.ensures.no e (none_resists (all_in c.args.clauses.now) (c.args.left.now ++ c.args.right.now) follows)

pub returns-clause-back : goal.returns-clause-back
returns-clause-back c =
    let kept : IsSameTrail c.args.self.now.trail c.undo.new.self = kept_by_undo c.args.self.now.trail c.is_refuted-conflict.new.self.trail c.undo.new.self
    c.is_refuted-conflict.ensures.back.over c.undo.ensures.marks c.undo.ensures.len (c.undo.ensures.read ∙ sym c.requires.base.base.read) in
    record { base = at_base c.args.self.now c.is_refuted-conflict.new.self _ (all_in c.args.clauses.now) c.requires.base c.is_refuted-conflict.ensures.back kept refl; kept = kept }
