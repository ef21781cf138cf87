-- No place between is written anew.
use Rattle.std.proofs.Common.{◌≡◌, ◌≤◌, ◌<◌, length, sym, subst, arith, ⊎_elim}
use Rattle.wave_bytes.specs.Anew.{anew_number, nth_anew}
use Rattle.wave_bytes.specs.Rows.{AreAgain, RowsView, bytes_in}
use Rattle.wave_bytes.proofs.NotedPlaces.{again_between}
use Rattle.wave_bytes.proofs.RowPlaces.{bytes_long}
use Rattle.wave_bytes.proofs.rows.Rows.anew_from.Goals as goal

pub returns-clause-from : goal.returns-clause-from
returns-clause-from c =
    let log = c.self.inside.log.items in
    let count = c.count_below-count.result in
    let result = c.noted_or.result in
    let next = rw c.as_slice.ensures.value at c.count_below-count.ensures.next in
    let number = c.requires.number in
    ⊎_elim (λ (found : (count < length log) × (result ≡ anew_number (nth_anew log count))).
    (let up = next found.0 in let is = found.1 in omega (arith, up, is)))
    (λ (none : result ≡ c.args.end). omega (arith, none, number))
    (rw c.as_slice-2.ensures.value at c.noted_or.ensures.from)

pub returns-clause-again : goal.returns-clause-again
returns-clause-again c =
    let w = c.self.inside.width in
    let s = c.self.inside.steps in
    let n = c.self.inside.count in
    let rs = c.self.inside.roots.items in
    let ts = c.self.inside.tracks.items in
    let long = bytes_long w rs ts n in
    let within = c.noted_or.ensures.within in
    let up : c.args.end ≤ length (bytes_in w rs ts n) =
    subst (λ (v : RowsView). c.args.end ≤ length v.bytes) (sym c.self.view_is) c.requires.end in
    subst (λ (v : RowsView). AreAgain v c.args.number c.noted_or.result) c.self.view_is
    (again_between w s n c.args.number c.count_below-count.result c.noted_or.result rs ts
    c.self.inside.log.items c.self.invariant.noted (omega (arith, long, within, up))
    (rw c.as_slice.ensures.value at c.count_below-count.ensures.last)
    (rw c.as_slice.ensures.value at c.count_below-count.ensures.within)
    (rw c.as_slice-2.ensures.value at c.noted_or.ensures.here))
