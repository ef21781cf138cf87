-- The byte at the place's position of its step.
use Rattle.std.proofs.Common.{◌≡◌, ◌%◌, ◌∙◌, length, slice_index_or, sym, ap, subst, arith, mod-lt}
use Rattle.wave_bytes.specs.Rows.{RowsView, byte_by, nth_root}
use Rattle.wave_bytes.proofs.RowPlaces.{bytes_at, number_low, some_width}
use Rattle.wave_bytes.proofs.rows.Rows.byte.Goals as goal

pub front_of-place-requires-clause-number : goal.front_of-place-requires-clause-number
front_of-place-requires-clause-number c =
    number_low c.self.inside.width c.self.inside.steps c.self.inside.count c.args.number c.self.inside.roots.items
    c.self.inside.tracks.items c.args.self.now c.self.view_is c.requires

pub root_of-root-requires : goal.root_of-root-requires
root_of-root-requires c =
    let w = c.self.inside.width in
    let low = number_low w c.self.inside.steps c.self.inside.count c.args.number c.self.inside.roots.items
    c.self.inside.tracks.items c.args.self.now c.self.view_is c.requires in
    let room = c.self.invariant.rows.room in
    let inside = mod-lt c.args.number (some_width w c.self.inside.steps c.args.number (omega (arith, low, room))) in
    let same = c.front_of-place.ensures.position in
    let long = c.self.invariant.rows.rooted.long in
    let slice = ap length c.as_slice.ensures.value in
    omega (arith, inside, same, long, slice)

pub byte_in-requires : goal.byte_in-requires
byte_in-requires c =
    let w = c.self.inside.width in
    let rs = c.self.inside.roots.items in
    let low = number_low w c.self.inside.steps c.self.inside.count c.args.number rs
    c.self.inside.tracks.items c.args.self.now c.self.view_is c.requires in
    let room = c.self.invariant.rows.room in
    let inside = mod-lt c.args.number (some_width w c.self.inside.steps c.args.number (omega (arith, low, room))) in
    let same = c.front_of-place.ensures.position in
    let slice = c.as_slice.ensures.value in
    let root : c.root_of-root.result ≡ nth_root rs c.front_of-place.result.position =
    rw slice at c.root_of-root.ensures in
    let up = c.self.invariant.rows.rooted.low c.front_of-place.result.position (omega (arith, inside, same)) in
    let long = c.self.invariant.rows.long in
    let tracks = ap length c.as_slice-2.ensures.value in
    omega (arith, root, up, inside, same, long, tracks)

pub returns : goal.returns
returns c =
    let w = c.self.inside.width in
    let rs = c.self.inside.roots.items in
    let hs = c.self.inside.tracks.items in
    let number = c.args.number in
    let place = c.front_of-place.result in
    let low = number_low w c.self.inside.steps c.self.inside.count number rs hs c.args.self.now c.self.view_is
    c.requires in
    let slice = c.as_slice.ensures.value in
    let tracks = c.as_slice-2.ensures.value in
    let root : c.root_of-root.result ≡ nth_root rs place.position = rw slice at c.root_of-root.ensures in
    let byte : c.byte_in.result ≡ byte_by hs place.position c.root_of-root.result place.step =
    rw tracks at c.byte_in.ensures in
    subst (λ (v : RowsView). c.byte_in.result ≡ slice_index_or v.bytes number 0) c.self.view_is
    (byte ∙ ap (λ r. byte_by hs place.position r place.step) root
    ∙ ap (λ p. byte_by hs p (nth_root rs p) place.step) c.front_of-place.ensures.position
    ∙ ap (byte_by hs (number % w) (nth_root rs (number % w))) c.front_of-place.ensures.step
    ∙ sym (bytes_at w rs hs c.self.inside.count number low))
