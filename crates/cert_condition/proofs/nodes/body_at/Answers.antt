-- A place near the cone is in it, or of its boundary.
use Rattle.std.proofs.Common.{◌≡◌, [], ◌∷◌, ◌∙◌, sym}
use Rattle.design_cell.specs.declared.value.Value.TheVariants.{X}
use Rattle.decide_nodes.specs.declared.node.NodeBody.TheVariants.{Rule}
use Rattle.std.proofs.lemmas.Result.{IfOk-weaker}
use Rattle.cert_condition.specs.TurnNodes.{IsBodyAround}
use Rattle.cert_condition.proofs.AroundPlaces.{inside_rise, open_for}
use Rattle.cert_condition.proofs.nodes.body_at.Goals as goal

pub is_among-requires : goal.is_among-requires
is_among-requires c =
    inside_rise c.args.wave.now c.requires.around.0 c.args.places.now c.args.inside.now c.requires.around.1

pub returns-else-is_among : goal.returns-else-is_among
returns-else-is_among c = IfOk-weaker c.open_body.result (λ body. body ≡ Rule [] (X ∷ []))
    (IsBodyAround c.args.wave.now c.args.places.now c.args.inside.now c.args.place)
    (λ body is root around. open_for c.args.wave.now root c.args.places.now c.args.inside.now around c.args.place body
    c.requires.near (sym c.is_among.ensures ∙ c.if-is_among.false) is) c.open_body.ensures
