-- The place of the equal node has the bits of the next one.
use Rattle.std.proofs.Common.{◌≡◌, ℕ, ◌-◌, ◌<◌, Some, length, arith, subst, sym}
use Rattle.decide_lanes.specs.Equal.{AreEqualIn}
use Rattle.decide_lanes.specs.Lanes.{IsLookedAt, IsRightOf, LanesView}
use Rattle.decide_lanes.specs.Shown.{HasNextBits, HasNextCone}
use Rattle.decide_lanes.proofs.EqualNodes.{next_bits, next_cone}
use Rattle.decide_lanes.proofs.lanes.Lanes.shown_by.Goals as goal

pub shown_as-requires-clause-bits : goal.shown_as-requires-clause-bits
shown_as-requires-clause-bits c =
    let lanes : LanesView = record {
      nodes = c.self.inside.nodes;
      first = c.self.inside.first;
      literals = c.self.inside.literals.literals;
      next = c.self.inside.next;
      graph = c.self.inside.graph;
      shared = c.self.inside.shared;
      width = c.self.inside.literals.width;
    } in
    subst (HasNextBits c.args.wave.now) (sym c.place-place.ensures)
    (next_bits c.args.wave.now lanes c.args.node c.args.other c.recall.ensures
    (subst (IsRightOf c.args.wave.now) (sym c.self.view_is) c.requires.right)
    (subst (IsLookedAt c.args.wave.now) (sym c.self.view_is) c.requires.looked)
    (subst (λ (l : LanesView). l.next ≡ Some c.args.node) (sym c.self.view_is) c.requires.next)
    (subst (λ (l : LanesView). AreEqualIn l.graph (c.args.node - 1) c.args.other) (sym c.self.view_is) c.requires.equal))

pub shown_as-requires-clause-cone : goal.shown_as-requires-clause-cone
shown_as-requires-clause-cone c =
    let lanes : LanesView = record {
      nodes = c.self.inside.nodes;
      first = c.self.inside.first;
      literals = c.self.inside.literals.literals;
      next = c.self.inside.next;
      graph = c.self.inside.graph;
      shared = c.self.inside.shared;
      width = c.self.inside.literals.width;
    } in
    subst (HasNextCone c.args.wave.now) (sym c.place-place.ensures)
    (next_cone c.args.wave.now lanes c.args.node c.args.other c.recall.ensures
    (subst (IsRightOf c.args.wave.now) (sym c.self.view_is) c.requires.right)
    (subst (IsLookedAt c.args.wave.now) (sym c.self.view_is) c.requires.looked)
    (subst (λ (l : LanesView). l.next ≡ Some c.args.node) (sym c.self.view_is) c.requires.next)
    (subst (λ (l : LanesView). AreEqualIn l.graph (c.args.node - 1) c.args.other) (sym c.self.view_is) c.requires.equal)
    (subst (λ (k : ℕ). k < length c.args.wave.now.written) c.place-place.ensures (omega arith)))
