-- Names as texts.
use Rattle.std.proofs.Common.{◌∙◌}
use Rattle.netlist_stub.proofs.Pieces.{among_texts}
use Rattle.netlist_stub.proofs.known.is_among.Goals as goal

pub returns : goal.returns
returns c = c.has_name.ensures ∙ among_texts c.args.names.now c.args.name.now
