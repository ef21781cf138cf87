-- The arguments are covered, and the sources are theirs and the place's own.
use Rattle.std.proofs.Common.{ℕ, IfSome, subst, Vec}
use Rattle.std.specs.declared.alloc.Global.{Global}
use Rattle.decide_lane_nodes.specs.Joined.{IsJoined}
use Rattle.decide_lane_nodes.proofs.LiteralBits.{covered_arguments}
use Rattle.decide_lane_nodes.proofs.LiteralSources.{listed_arguments, made_sources}
use Rattle.decide_lane_nodes.proofs.node.rule_sources.Goals as goal

pub joined-requires-clause-covered : goal.joined-requires-clause-covered
joined-requires-clause-covered c =
    covered_arguments c.args.wave.now c.args.covered c.args.place c.args.arguments.now c.args.values.now
    c.recall.ensures c.requires.reach c.requires.rule c.requires.covered

pub joined-requires-clause-rises : goal.joined-requires-clause-rises
joined-requires-clause-rises c =
    listed_arguments c.args.wave.now c.args.covered c.args.place c.args.arguments.now c.args.values.now
    c.recall.ensures c.requires.reach c.requires.rule c.requires.covered

pub returns-in_ok-sources-in-Some : goal.returns-in_ok-sources-in-Some
returns-in_ok-sources-in-Some c =
    let joined : IsJoined c.args.covered c.args.arguments.now c.in-Some.all.items =
    subst (λ o. IfSome o (λ (all : Vec ℕ Global). IsJoined c.args.covered c.args.arguments.now all.items)) c.in-Some.is c.in_ok-all.ensures in
    made_sources c.args.wave.now c.args.covered c.args.place c.args.arguments.now c.in-Some.all.items c.args.values.now
    c.in_ok-sources-in-Some.sources.items c.any_unknown.result c.recall.ensures c.requires.reach
    c.requires.rule c.requires.covered joined c.any_unknown.ensures c.in_ok-sources-in-Some.ensures
