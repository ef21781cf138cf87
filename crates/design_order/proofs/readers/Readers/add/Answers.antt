-- A link more.
use Rattle.std.proofs.Common.{◌∙◌, None, refl, rules}
use Rattle.std.proofs.lemmas.List.{get_or_default}
use Rattle.design_order.proofs.Chains.{adds_by}
use Rattle.design_order.proofs.readers.Readers.add.Goals as goal

pub returns : goal.returns
returns c = adds_by c.args.self.now.heads.items _ c.args.self.now.links.items c.push.new.self.items c.args.argument c.args.net c.len.result c.index-next.result.now c.requires.table c.requires.net c.requires.argument (search rules) (c.index-next.ensures ∙ get_or_default c.args.self.now.heads.items c.args.argument c.index-next.result.now None c.requires.argument) refl c.in_ok-push.ensures.items
