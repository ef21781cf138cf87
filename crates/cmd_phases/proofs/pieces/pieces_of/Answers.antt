-- Each byte joins the piece, or ends it.
use Rattle.std.proofs.Common.{rules, ◌≡◌, ◌≢◌, ◌<◌, ◌++◌, ◌∷◌, [], ℕ, List, length, get_or, subst, arith}
use Rattle.cmd_phases.proofs.CutTexts.{cut_none, cut_here, cut_byte}
use Rattle.cmd_phases.proofs.pieces.pieces_of.Goals as goal
use Rattle.cmd_phases.proofs.pieces.pieces_of.Goals.{then-byte-cut+in_ok-push, else-byte-cut+in_ok-push-2}

pub bytes-init : goal.bytes-init
bytes-init c = rw (c.new-pieces.ensures.items, c.new-piece.ensures.items) (cut_none c.args.cut c.args.text.now)

pub bytes-preserved : goal.bytes-preserved
bytes-preserved c =
    let bytes : c.as_bytes-byte-items.result.now ≡ c.args.text.now = c.as_bytes-byte-items.ensures.value in
    let P : List ℕ → Type 0 = λ s. c.bytes.byte-index < length s in
    let within : c.bytes.byte-index < length c.args.text.now = subst P bytes (omega arith) in
    elim c.if-byte-cut.branch [
      | then-byte-cut+in_ok-push w ↦
          (let here : get_or c.args.text.now c.bytes.byte-index 0 ≡ c.args.cut = search rules in
          let pieces : c.if-byte-cut.pieces.items ≡ c.bytes.pieces.items ++ c.bytes.piece.items ∷ [] = search rules in
          let piece : c.if-byte-cut.piece.items ≡ [] = search rules in
          rw (pieces, piece) (cut_here c.args.cut c.args.text.now c.bytes.pieces.items c.bytes.piece.items c.bytes.byte-index c.bytes.invariant within here))
      | else-byte-cut+in_ok-push-2 w ↦
          (let differ : get_or c.args.text.now c.bytes.byte-index 0 ≢ c.args.cut = search rules in
          let pieces : c.if-byte-cut.pieces.items ≡ c.bytes.pieces.items = search rules in
          let piece : c.if-byte-cut.piece.items ≡ c.bytes.piece.items ++ get_or c.args.text.now c.bytes.byte-index 0 ∷ [] = search rules in
          rw (pieces, piece) (cut_byte c.args.cut c.args.text.now c.bytes.pieces.items c.bytes.piece.items c.bytes.byte-index c.bytes.invariant within differ))
    ]
