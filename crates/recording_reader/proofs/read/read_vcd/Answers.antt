-- What the text says, in which scopes, or its first fault.
use Rattle.recording_reader.proofs.Firsts.{first, only}
use Rattle.recording_reader.proofs.Innermost.{read_in_scopes}
use Rattle.recording_reader.proofs.read.read_vcd.Goals as goal

pub returns-clause-first : goal.returns-clause-first
returns-clause-first c = first c.args.bytes.now _ 0 c.read_text.ensures

pub returns-clause-only : goal.returns-clause-only
returns-clause-only c = λ said h. only c.args.bytes.now _ said h c.read_text.ensures

pub returns-clause-scopes : goal.returns-clause-scopes
returns-clause-scopes c = read_in_scopes c.args.bytes.now _ c.read_text.ensures
