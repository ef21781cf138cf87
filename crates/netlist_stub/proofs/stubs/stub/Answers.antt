-- What the modules come to is answered, or why there are none.
use Rattle.std.proofs.Common.{subst, sym}
use Rattle.netlist_stub.specs.Known.{texts_of}
use Rattle.netlist_stub_read.specs.Modules.{IsHeld}
use Rattle.netlist_stub.proofs.OneWay.{held_refused, held_stubbed, unheld_refused}
use Rattle.netlist_stub.proofs.stubs.stub.Goals as goal

pub returns-in-Ok-clause-stubbed : goal.returns-in-Ok-clause-stubbed
returns-in-Ok-clause-stubbed c =
    held_stubbed c.args.text.now (texts_of c.args.names.now) (texts_of c.args.supplies.now) c.as_slice.result.now c.text_of.result
    (subst (IsHeld c.args.text.now) (sym c.as_slice.ensures.value) c.in-Ok.ensures.held) c.text_of.ensures

pub returns-in-Ok-clause-refused : goal.returns-in-Ok-clause-refused
returns-in-Ok-clause-refused c =
    held_refused c.args.text.now (texts_of c.args.names.now) (texts_of c.args.supplies.now) c.as_slice.result.now c.text_of.result
    (subst (IsHeld c.args.text.now) (sym c.as_slice.ensures.value) c.in-Ok.ensures.held) c.text_of.ensures

pub returns-in-Err-clause-refused : goal.returns-in-Err-clause-refused
returns-in-Err-clause-refused c =
    unheld_refused c.args.text.now (texts_of c.args.names.now) (texts_of c.args.supplies.now) c.in-Err.fault c.in-Err.ensures.refused
