-- There are none yet.
use Rattle.std.proofs.Common.{◌∙◌, ℕ, List, [], length, ap}
use Rattle.wave_bytes.specs.Rows.{RowsView}
use Rattle.wave_bytes.proofs.RowPlaces.{bytes_none}
use Rattle.wave_bytes.proofs.rows.Rows.new.Goals as goal

pub returns : goal.returns
returns c =
    ap (λ (bs : List ℕ). let v : RowsView = record {
      width = length c.as_slice-width.result.now;
      steps = c.args.steps;
      roots = c.args.roots.items;
      bytes = bs;
    } in v)
    (bytes_none (length c.as_slice-width.result.now) c.args.roots.items c.in_ok-tracks.tracks.items)
    ∙ ap (λ (w : ℕ). let v : RowsView = record {
      width = w;
      steps = c.args.steps;
      roots = c.args.roots.items;
      bytes = [];
    } in v) (ap length c.as_slice-width.ensures.value)
