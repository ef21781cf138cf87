-- What the machine says is what the definitions say.
use Rattle.std.proofs.Common.{◌<◌, ◌+◌, ◌^◌, length, arith}
use Rattle.cert_reader.proofs.Reading.{found_by, only_by, refused_by}
use Rattle.cert_reader.proofs.read.read_text.Goals as goal

pub returns-clause-found : goal.returns-clause-found
returns-clause-found c = found_by c.args.text.now c.read_all.result c.read_all.ensures.comes c.read_all.ensures.count

pub returns-clause-only : goal.returns-clause-only
returns-clause-only c = only_by c.args.text.now c.read_all.result c.read_all.ensures.comes

pub returns-clause-refused : goal.returns-clause-refused
returns-clause-refused c =
    let small : length c.args.text.now + 1 < 2 ^ 64 = omega arith in
    refused_by c.args.text.now c.read_all.result small c.read_all.ensures.comes
