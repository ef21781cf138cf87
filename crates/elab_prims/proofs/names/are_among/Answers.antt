-- The set has the same names.
use Rattle.std.proofs.Common.{◌∙◌}
use Rattle.elab_prims.specs.Names.{texts}
use Rattle.elab_prims.proofs.NameLemmas.{all_same}
use Rattle.elab_prims.proofs.names.are_among.Goals as goal

pub returns : goal.returns
returns c = c.has_all.ensures ∙ all_same c.in_ok-set.set (texts c.args.others.now) (texts c.args.names.now) c.in_ok-set.ensures
