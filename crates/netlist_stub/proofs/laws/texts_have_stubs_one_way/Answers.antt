-- One outcome.
use Rattle.netlist_stub.proofs.OneWay.{one_stubbed}
use Rattle.netlist_stub.proofs.laws.texts_have_stubs_one_way.Goals as goal

pub returns : goal.returns
returns c = one_stubbed
