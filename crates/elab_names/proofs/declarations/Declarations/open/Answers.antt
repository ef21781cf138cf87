-- The module opens as its outline says.
use Rattle.std.proofs.Common.{rules, ◌∙◌, ◌+◌, ◌≤◌, ◌^◌, length}
use Rattle.elab_names.proofs.Outlining.{opens_unit, refused_by}
use Rattle.elab_names.proofs.declarations.Declarations.open.Goals as goal

pub returns-in_ok-scope-in-Some : goal.returns-in_ok-scope-in-Some
returns-in_ok-scope-in-Some c =
    let few : length c.args.nets.now.names + c.in-Some.outline.count ≤ 2 ^ 20 = search rules in
    opens_unit c.self.inside.ports c.self.inside.unit.now c.args.self.now c.self.inside.outline c.in-Some.outline c.args.prefix c.args.nets.now
    c.self.invariant.ports_ c.self.invariant.outline_ c.in-Some.is c.self.view_is few ∙ c.in_ok-scope-in-Some.ensures

pub returns-in_err-scope-in-Some : goal.returns-in_err-scope-in-Some
returns-in_err-scope-in-Some c =
    let few : length c.args.nets.now.names + c.in-Some.outline.count ≤ 2 ^ 20 = search rules in
    refused_by _ c.from_residual.result _ c.in_err-scope-in-Some.field-0.0 c.from_residual.ensures.1
    (λ told. opens_unit c.self.inside.ports c.self.inside.unit.now c.args.self.now c.self.inside.outline c.in-Some.outline c.args.prefix c.args.nets.now
    c.self.invariant.ports_ c.self.invariant.outline_ c.in-Some.is c.self.view_is few ∙ c.in_err-scope-in-Some.ensures told)
