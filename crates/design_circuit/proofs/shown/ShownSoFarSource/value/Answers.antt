-- The place of a number is one of the history's.
use Rattle.design_circuit.proofs.ShownLemmas.{shows_there}
use Rattle.design_circuit.proofs.shown.ShownSoFarSource.value.Goals as goal

pub shown-requires : goal.shown-requires
shown-requires c =
    rw c.place_of.ensures (shows_there c.args.self.now.circuit c.args.self.now.history.now.history c.args.place c.requires)
