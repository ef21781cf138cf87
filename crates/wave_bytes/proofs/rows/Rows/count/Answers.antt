-- As many as there are bytes.
use Rattle.std.proofs.Common.{◌≡◌, length, sym, subst}
use Rattle.wave_bytes.specs.Rows.{RowsView}
use Rattle.wave_bytes.proofs.RowPlaces.{bytes_long}
use Rattle.wave_bytes.proofs.rows.Rows.count.Goals as goal

pub returns : goal.returns
returns c =
    subst (λ (v : RowsView). c.self.inside.count ≡ length v.bytes) c.self.view_is
    (sym (bytes_long c.self.inside.width c.self.inside.roots.items c.self.inside.tracks.items c.self.inside.count))
