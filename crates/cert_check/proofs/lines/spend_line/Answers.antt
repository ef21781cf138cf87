-- The verdict is spent, for the line.
use Rattle.cert_check.specs.Step.{no_memory}
use Rattle.cert_check.proofs.Going.{right_spent}
use Rattle.cert_check.proofs.Refusing.{refused_named, spent_named, stops_named}
use Rattle.cert_check.proofs.lines.spend_line.Goals as goal

pub returns-in-Ok-Some-clause-ok : goal.returns-in-Ok-Some-clause-ok
returns-in-Ok-Some-clause-ok c =
    spent_named c.args.wave c.args.line c.in-Ok-Some.verdict c.spend.result c.requires.names (rw c.in-Ok-Some.field-0-is at c.in-Ok-Some.ensures.verdict)
    c.spend.ensures.ok

pub returns-in-Ok-Some-clause-right : goal.returns-in-Ok-Some-clause-right
returns-in-Ok-Some-clause-right c =
    right_spent c.args.wave c.args.line _ c.spend.result c.requires.wave c.in-Ok-Some.ensures.right
    (spent_named c.args.wave c.args.line c.in-Ok-Some.verdict c.spend.result c.requires.names
    (rw c.in-Ok-Some.field-0-is at c.in-Ok-Some.ensures.verdict) c.spend.ensures.ok)

pub returns-in-Ok-Some-clause-err : goal.returns-in-Ok-Some-clause-err
returns-in-Ok-Some-clause-err c =
    stops_named c.args.wave c.args.number c.args.line c.in-Ok-Some.verdict c.spend.result c.requires.names
    (rw c.in-Ok-Some.field-0-is at c.in-Ok-Some.ensures.verdict) (c.spend.ensures.err c.args.number)

pub returns-in-Ok-None-clause-err : goal.returns-in-Ok-None-clause-err
returns-in-Ok-None-clause-err c =
    refused_named c.args.wave c.args.number c.args.line c.fault_of-fault.result c.requires.class c.requires.names
    (rw c.in-Ok-None.field-0-is at c.in-Ok-None.ensures.none) c.fault_of-fault.ensures

pub returns-clause-err : goal.returns-clause-err
returns-clause-err c = no_memory
