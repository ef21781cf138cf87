-- Of the lanes that differ the one with the least ones is found.
use Rattle.std.proofs.Common.{[], length, refl, subst}
use Rattle.std.proofs.lemmas.List.{get_or_read_under}
use Rattle.decide_nodes.specs.Lanes.{HasLanes, in_lane}
use Rattle.law_model.specs.Class.{flipped}
use Rattle.decide_tables.proofs.OtherNumbers.{least_at}
use Rattle.decide_tables.proofs.other.other_in.Goals as goal

pub returns-in-Some : goal.returns-in-Some
returns-in-Some c =
    least_at c.args.blocks.now c.args.empty c.args.block c.in-Some.lane c.turned.result
    (subst (λ bits. HasLanes c.turned.result (λ lane. flipped c.args.empty (in_lane bits lane)))
    (get_or_read_under c.args.blocks.now c.args.block (length c.args.blocks.now) _ [] c.index-blocks-block.is
    c.requires.within refl) c.turned.ensures) c.in-Some.ensures c.requires.within
