-- Each row has so many codes.
use Rattle.design_inputs.proofs.RowLemmas.{net_within}
use Rattle.design_inputs.proofs.inputs.Inputs.value.Goals as goal

pub at-requires-clause-position : goal.at-requires-clause-position
at-requires-clause-position c = net_within c.self.inside.rows.width c.self.inside.rows.steps c.args.self.now c.args.moment c.args.net c.self.invariant c.self.view_is c.requires.moment c.requires.net
