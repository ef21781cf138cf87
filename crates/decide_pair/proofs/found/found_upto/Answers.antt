-- A block with no fewer ones is left out.
use Rattle.std.proofs.Common.{sym, ◌∙◌}
use Rattle.decide_pair.proofs.FoundNumbers.{block_left}
use Rattle.decide_pair.proofs.found.found_upto.Goals as goal

pub returns-then-has_no_fewer-clause-found : goal.returns-then-has_no_fewer-clause-found
returns-then-has_no_fewer-clause-found c =
    block_left c.args.cone.now.nodes c.args.block c.args.found (sym c.has_no_fewer.ensures ∙ c.if-has_no_fewer.true)
    c.requires.found
