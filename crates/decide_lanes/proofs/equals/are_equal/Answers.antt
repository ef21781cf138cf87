-- The two read the same nodes by the same table.
use Rattle.std.proofs.Common.{List, ℕ, ap, sym, ◌∙◌, arith}
use Rattle.design_cell.specs.declared.value.Value.{Value}
use Rattle.decide_nodes.specs.declared.node.Node.{Node}
use Rattle.decide_nodes.specs.declared.node.NodeBody.TheVariants.{Rule}
use Rattle.decide_lanes.proofs.equals.are_equal.Goals as goal

pub returns : goal.returns
returns c same =
    let nodes = c.are_same.ensures.0 c.if-not-are_same.false in
    let tables = c.have_same.ensures.0 same in
    record {
      within = omega (arith, c.if-other-len.false, c.len.ensures);
      arguments = c.node-first.result.arguments.now;
      values = c.node-first.result.values.now;
      own = ap (λ (n : Node). n.body) c.node-first.ensures.node;
      same = ap (λ (n : Node). n.body) c.node-second.ensures.node
          ∙ ap (λ (xs : List ℕ). Rule xs c.node-second.result.values.now) (sym nodes)
          ∙ ap (λ (vs : List Value). Rule c.node-first.result.arguments.now vs) (sym tables);
      known = sym c.any_unknown.ensures ∙ c.if-any_unknown.false;
    }
