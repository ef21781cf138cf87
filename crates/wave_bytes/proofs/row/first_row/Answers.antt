-- One place more.
use Rattle.std.proofs.Common.{◌≡◌, ◌++◌, ◌∷◌, [], ◌∙◌, length, length-append, ap, arith}
use Rattle.wave_bytes.proofs.ChangedPlaces.{row_more}
use Rattle.wave_bytes.proofs.row.first_row.Goals as goal

pub positions-preserved : goal.positions-preserved
positions-preserved c =
    let row = c.positions.row.items in
    let here = c.written_or_none.result in
    let is : c.push.new.self.items ≡ row ++ here ∷ [] = c.in_ok-push.ensures.items in
    let long = ap length is ∙ length-append row (here ∷ []) in
    let before = c.positions.invariant.long in
    record {
      long = omega (arith, long, before);
      says = row_more c.args.waveform.now.written row c.push.new.self.items here c.positions.position before
          c.positions.invariant.says c.written_or_none.ensures is;
    }
