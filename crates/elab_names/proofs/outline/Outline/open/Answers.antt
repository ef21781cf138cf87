-- The nets of each name are below 2^20.
use Rattle.std.proofs.Common.{◌≡◌, sym, ap, subst, arith}
use Rattle.elab_names.specs.Outline.{Outline, Counts}
use Rattle.elab_names.proofs.Outlining.{few_from}
use Rattle.elab_names.proofs.outline.Outline.open.Goals as goal

pub over-requires-clause-few : goal.over-requires-clause-few
over-requires-clause-few c =
    let same : c.self.inside.count ≡ c.args.self.now.count = ap (λ (o : Outline). o.count) c.self.view_is in
    let few = c.requires.few in
    let base = c.count-base.ensures.count in
    few_from c.count-base.result c.self.inside.names c.self.inside.count
    (subst (λ (o : Outline). Counts o.names o.count) (sym c.self.view_is) c.requires.counts) (omega (arith, same, few, base))
