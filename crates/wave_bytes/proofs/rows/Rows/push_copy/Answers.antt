-- A byte more, that of a copy.
use Rattle.std.proofs.Common.{◌≡◌, ◌+◌, ◌∙◌, ℕ, List, refl, sym, ap, subst, arith}
use Rattle.wave_bytes.specs.Track.{with_noted}
use Rattle.wave_bytes.specs.Rows.{AreNoted, IsFrontOf, RowsView, and_byte, byte_by, copied_next, is_again_by}
use Rattle.wave_bytes.specs.Rows.{nth_root, rows_of}
use Rattle.wave_bytes.specs.declared.anew.Anew.{Anew}
use Rattle.wave_bytes.proofs.CopyPlaces.{bytes_copied, copied_again_there, copy_next}
use Rattle.wave_bytes.proofs.RowPlaces.{inside_width, room_of, rows_again, some_width, stands_at}
use Rattle.wave_bytes.proofs.NotedPlaces.{noted_more}
use Rattle.wave_bytes.proofs.rows.Rows.push_copy.Goals as goal

pub invariant_of-self-2 : goal.invariant_of-self-2
invariant_of-self-2 c =
    let w = c.self.inside.width in
    let s = c.self.inside.steps in
    let n = c.self.inside.count in
    let rs = c.self.inside.roots.items in
    let hs = c.self.inside.tracks.items in
    let front = c.self.inside.front in
    let rows = c.self.invariant.rows in
    let room = room_of w s n 1 rs hs c.args.self.now c.self.view_is c.requires.room in
    let some = some_width w s n (omega (arith, room)) in
    let inside = inside_width w n front some rows.at in
    let roots = c.as_slice.ensures.value in
    let tracks = c.as_slice-2.ensures.value in
    let tracks_again = c.as_slice-3.ensures.value in
    let root : c.root_of-root.result ≡ nth_root rs front.position = rw roots at c.root_of-root.ensures in
    let byte : c.byte_in-byte.result ≡ byte_by hs front.position (nth_root rs front.position) front.step =
    (rw tracks at c.byte_in-byte.ensures) ∙ ap (λ r. byte_by hs front.position r front.step) root in
    let again : c.is_again_in-again.result
    ≡ is_again_by hs front.position (nth_root rs front.position) front.step c.byte_in-byte.result =
    (rw tracks_again at c.is_again_in-again.ensures)
    ∙ ap (λ r. is_again_by hs front.position r front.step c.byte_in-byte.result) root in
    let there = stands_at w front.step front.position n rs hs inside rows.at.whole in
    let place = c.new-place.result in
    let noted_is : c.note.new.log.items ≡ with_noted c.self.inside.log.items place c.is_again_in-again.result =
    c.note.ensures ∙ ap (λ log. with_noted log place c.is_again_in-again.result) c.reserve.ensures.items in
    record {
      rows = rows_again w s n 1 front c.front_past-front.result rs hs rows room (omega (arith, inside))
          (subst (λ k. IsFrontOf w (k + 1) c.front_past-front.result) rows.at.whole c.front_past-front.ensures.front)
          c.front_past-front.ensures.step;
      noted = subst (λ (log : List Anew). AreNoted w (n + 1) rs hs log) (sym noted_is)
          (noted_more w n c.byte_in-byte.result rs hs hs place c.self.inside.log.items c.is_again_in-again.result some
          (λ k less. refl) (there ∙ sym byte) c.new-place.ensures.number c.new-place.ensures.byte
          (λ on later. copied_again_there w n c.byte_in-byte.result front rs hs some rows.at (there ∙ sym byte)
          (sym again ∙ on) later)
          c.self.invariant.noted);
    }

pub returns-clause-ok : goal.returns-clause-ok
returns-clause-ok c =
    let w = c.self.inside.width in
    let s = c.self.inside.steps in
    let n = c.self.inside.count in
    let rs = c.self.inside.roots.items in
    let hs = c.self.inside.tracks.items in
    let front = c.self.inside.front in
    let rows = c.self.invariant.rows in
    let room = room_of w s n 1 rs hs c.args.self.now c.self.view_is c.requires.room in
    let some = some_width w s n (omega (arith, room)) in
    subst (λ (v : RowsView). rows_of w s rs hs (n + 1) ≡ and_byte v (copied_next v)) c.self.view_is
    (ap (λ (bs : List ℕ). let v : RowsView = record { width = w; steps = s; roots = rs; bytes = bs } in v)
    (bytes_copied w s n front rs hs some rows
    (copy_next w s n front rs hs c.args.self.now some rows.at c.self.view_is c.requires.copy)))
