-- The first piece ends at the first cut.
use Rattle.cert_reader.proofs.PieceLaws.{cut_pieces}
use Rattle.cert_reader.proofs.pieces.first_piece.Goals as goal

pub returns-clause-pieces : goal.returns-clause-pieces
returns-clause-pieces c = cut_pieces c.args.cut c.args.bytes.now c.split_at.result.0.now c.split_at.result.1 c.split_at.ensures.cut
