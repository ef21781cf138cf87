-- One more literal.
use Rattle.std.proofs.Common.{arith}
use Rattle.std.proofs.lemmas.Grind.{common_steps, elements}
use Rattle.std.proofs.lemmas.List.{map_more}
use Rattle.std.proofs.lemmas.List.Folds.{list_all_more}
use Rattle.decide_guess.proofs.renamed.literals_of.Goals as goal

pub nodes-preserved : goal.nodes-preserved
nodes-preserved c = record {
  found = grind (arith, common_steps, list_all_more, c.nodes.invariant.found, c.in-Some.ensures.found);
  list = grind (arith, common_steps, map_more, c.nodes.invariant.list, c.in_ok-push.ensures.items, c.in-Some.ensures.literal);
  fit = grind (arith, elements, c.nodes.invariant.fit, c.in_ok-push.ensures.items, c.in-Some.ensures.fit);
  no_zero = grind (arith, elements, c.nodes.invariant.no_zero, c.in_ok-push.ensures.items, c.in-Some.ensures.no_zero);
}
