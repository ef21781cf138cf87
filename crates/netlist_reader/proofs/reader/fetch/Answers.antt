-- A token that is read stands before the tokens that are left.
use Rattle.netlist_reader.proofs.Fronts.{tells_on, rest_within}
use Rattle.netlist_reader.proofs.reader.fetch.Goals as goal

pub returns-in-Ok-Some-clause-reads : goal.returns-in-Ok-Some-clause-reads
returns-in-Ok-Some-clause-reads c =
    tells_on c.args.text.now c.in-Ok-Some.token _ _ _ (let h = rw c.in-Ok-Some.field-0-is at c.in-Ok-Some.ensures in h) c.read_token.ensures

pub returns-in-Ok-Some-clause-within : goal.returns-in-Ok-Some-clause-within
returns-in-Ok-Some-clause-within c = rest_within _ c.in-Ok-Some.token _ _ (let h = rw c.in-Ok-Some.field-0-is at c.in-Ok-Some.ensures in h) c.requires
