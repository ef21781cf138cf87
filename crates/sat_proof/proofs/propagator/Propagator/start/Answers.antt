-- What the clauses of the query propagate is ready for a first line.
use Rattle.std.proofs.Common.{◌++◌, ◌≡◌, ◌∙◌, refl, sym, subst, ap, append-nil, List, ℤ}
use Rattle.sat_proof.specs.Closed.{AreContrary}
use Rattle.sat_proof.specs.Propagation.{AreForced}
use Rattle.sat_proof.specs.Propagator.{CanPropagate}
use Rattle.sat_proof.proofs.Assuming.{contrary_from, forced_clear, forced_more}
use Rattle.sat_proof.proofs.Bases.{ready_contrary, ready_from}
use Rattle.sat_proof.proofs.Trails.{over_sized}
use Rattle.sat_proof.proofs.propagator.Propagator.start.Goals as goal

pub returns-then-gather-clause-ready : goal.returns-then-gather-clause-ready
returns-then-gather-clause-ready c =
    let same : c.args.query.now ≡ c.args.query.now ++ c.args.none.now = sym (append-nil c.args.query.now) ∙ ap (λ (cs : List (List ℤ)). c.args.query.now ++ cs) (sym c.requires.log) in
    ready_contrary c.gather.new.self (c.args.query.now ++ c.args.none.now)
    (subst AreContrary same (contrary_from c.args.self.now.trail.marks.items c.args.query.now
    (forced_clear c.args.self.now.trail.marks.items c.args.query.now c.requires.blank.empty.clear) (c.if-gather.ensures.conflict refl)))

pub returns-then-gather-clause-size : goal.returns-then-gather-clause-size
returns-then-gather-clause-size c = over_sized c.args.self.now.trail c.gather.new.self.trail c.gather.ensures.over

pub propagate-requires : goal.propagate-requires
propagate-requires c =
    let same : c.args.query.now ≡ c.args.query.now ++ c.args.none.now = sym (append-nil c.args.query.now) ∙ ap (λ (cs : List (List ℤ)). c.args.query.now ++ cs) (sym c.requires.log) in
    subst (CanPropagate c.gather.new.self) same (c.if-gather.ensures.ready refl)

pub returns-clause-ready : goal.returns-clause-ready
returns-clause-ready c =
    let same : c.args.query.now ≡ c.args.query.now ++ c.args.none.now = sym (append-nil c.args.query.now) ∙ ap (λ (cs : List (List ℤ)). c.args.query.now ++ cs) (sym c.requires.log) in
    ready_from c.gather.new.self c.propagate.new.self c.propagate.result (c.args.query.now ++ c.args.none.now)
    (subst (CanPropagate c.gather.new.self) same (c.if-gather.ensures.ready refl)).room
    (subst (AreForced c.gather.new.self.trail.marks.items) same (forced_more c.args.self.now.trail.marks.items c.gather.new.self.trail.marks.items c.args.query.now
    (forced_clear c.args.self.now.trail.marks.items c.args.query.now c.requires.blank.empty.clear) (c.if-gather.ensures.growth refl)))
    c.propagate.ensures.conflict c.propagate.ensures.done c.propagate.ensures.back

pub returns-clause-size : goal.returns-clause-size
returns-clause-size c = over_sized c.gather.new.self.trail c.propagate.new.self.trail c.propagate.ensures.back.over ∙ over_sized c.args.self.now.trail c.gather.new.self.trail c.gather.ensures.over
