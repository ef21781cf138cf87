-- One more node, whose lanes come in where it is a source.
use Rattle.std.proofs.Common.{◌≡◌, ◌∙◌, sym, ap, ◌+◌, ◌<◌, ◌++◌, ◌∷◌, [], length, slice_index_or, arith}
use Rattle.std.proofs.lemmas.List.{get_or_read, map-append}
use Rattle.decide_nodes.specs.Nodes.{is_source_node, no_node, node_at}
use Rattle.law_model.specs.Places.{places_where}
use Rattle.decide_guess.specs.Renamed.{is_source_at}
use Rattle.decide_guess.proofs.SourceBits.{places_with, places_without}
use Rattle.decide_guess.proofs.renamed.given_to.Goals as goal
use Rattle.decide_guess.proofs.renamed.given_to.Goals.{then-is_source+in_ok-push, else-is_source}

pub nodes-preserved : goal.nodes-preserved
nodes-preserved c lane less =
    let nodes = c.nodes-nodes.result.now in
    let k = c.nodes.position in
    let within : k < length nodes = omega arith in
    let read : c.index-nodes-position.result ≡ slice_index_or nodes k no_node =
    get_or_read nodes k c.index-nodes-position.result within c.index-nodes-position.is no_node in
    let there : node_at nodes k ≡ node_at c.args.cone.now.nodes k = ap (λ all. node_at all k) c.nodes-nodes.ensures.nodes in
    let is : c.is_source.result ≡ is_source_at c.args.cone.now.nodes k =
    c.is_source.ensures ∙ ap is_source_node (read ∙ there) in
    let test = is_source_at c.args.cone.now.nodes in
    let before = c.nodes.invariant lane less in
    elim c.if-is_source.branch [
      | then-is_source+in_ok-push w ↦
          let more : places_where test (k + 1) ≡ places_where test k ++ k ∷ [] =
          places_with test k (sym is ∙ w.if-is_source.true) in
          let here = w.equal_lanes.ensures lane less in
          rw (w.given-is, w.in_ok-push.ensures.items, more) (simp map-append (cc (before, here)))
      | else-is_source w ↦
          let same : places_where test (k + 1) ≡ places_where test k =
          places_without test k (sym is ∙ w.if-is_source.false) in
          rw (w.given-is, same) before
    ]
