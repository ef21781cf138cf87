-- A byte more.
use Rattle.std.proofs.Common.{◌≡◌, ◌+◌, ◌∙◌, ℕ, List, [], slice_set, sym, ap, subst, arith}
use Rattle.std.proofs.lemmas.List.{get_or_default, set-get_or}
use Rattle.wave_bytes.specs.Track.{AreBefore, is_again, with_byte_at, with_noted}
use Rattle.wave_bytes.specs.Rows.{AreNoted, AreRows, IsFrontOf, RowsView, and_byte, nth_track, rows_of}
use Rattle.wave_bytes.specs.declared.anew.Anew.{Anew}
use Rattle.wave_bytes.specs.declared.track.Entry.{Entry}
use Rattle.wave_bytes.proofs.CopyPlaces.{own_next, put_again}
use Rattle.wave_bytes.proofs.RowPlaces.{bytes_put, front_before, inside_width, put_next, room_of}
use Rattle.wave_bytes.proofs.RowPlaces.{rows_put, some_width, step_small, there_earlier, there_next}
use Rattle.wave_bytes.proofs.NotedPlaces.{noted_more}
use Rattle.wave_bytes.proofs.rows.Rows.push.Goals as goal

pub put-requires-clause-step : goal.put-requires-clause-step
put-requires-clause-step c =
    step_small c.self.inside.width c.self.inside.steps c.self.inside.count c.self.inside.front
    c.self.inside.roots.items c.self.inside.tracks.items c.self.invariant.rows (room_of c.self.inside.width
    c.self.inside.steps c.self.inside.count 1 c.self.inside.roots.items c.self.inside.tracks.items c.args.self.now
    c.self.view_is c.requires.room)

pub put-requires-clause-again : goal.put-requires-clause-again
put-requires-clause-again c =
    let w = c.self.inside.width in
    let ts = c.self.inside.tracks.items in
    let front = c.self.inside.front in
    let room = room_of w c.self.inside.steps c.self.inside.count 1 c.self.inside.roots.items ts c.args.self.now
    c.self.view_is c.requires.room in
    let some = some_width w c.self.inside.steps c.self.inside.count (omega (arith, room)) in
    let inside = inside_width w c.self.inside.count front some c.self.invariant.rows.at in
    let long = c.self.invariant.rows.long in
    c.is_again-again.ensures ∙ ap (λ (t : List Entry). is_again t front.step c.args.byte)
    (c.index.ensures ∙ get_or_default ts front.position c.index.result.now [] (omega (arith, inside, long))
    ∙ sym (c.index_mut.ensures.value ∙ get_or_default ts front.position c.index_mut.result.now []
    (omega (arith, inside, long))))

pub put-requires-clause-before : goal.put-requires-clause-before
put-requires-clause-before c =
    let w = c.self.inside.width in
    let hs = c.self.inside.tracks.items in
    let front = c.self.inside.front in
    let room = room_of w c.self.inside.steps c.self.inside.count 1 c.self.inside.roots.items hs c.args.self.now
    c.self.view_is c.requires.room in
    let some = some_width w c.self.inside.steps c.self.inside.count (omega (arith, room)) in
    let inside = inside_width w c.self.inside.count front some c.self.invariant.rows.at in
    let long = c.self.invariant.rows.long in
    subst (λ (h : List Entry). AreBefore h front.step)
    (sym (c.index_mut.ensures.value ∙ get_or_default hs front.position c.index_mut.result.now []
    (omega (arith, inside, long))))
    (front_before w c.self.inside.count front hs some c.self.invariant.rows.below c.self.invariant.rows.at)

pub invariant_of-self-2 : goal.invariant_of-self-2
invariant_of-self-2 c =
    let w = c.self.inside.width in
    let s = c.self.inside.steps in
    let n = c.self.inside.count in
    let hs = c.self.inside.tracks.items in
    let front = c.self.inside.front in
    let rs = c.self.inside.roots.items in
    let room = room_of w s n 1 rs hs c.args.self.now c.self.view_is c.requires.room in
    let some = some_width w s n (omega (arith, room)) in
    let inside = inside_width w n front some c.self.invariant.rows.at in
    let long = c.self.invariant.rows.long in
    let own = own_next w s n front rs hs c.args.self.now some c.self.invariant.rows.at c.self.view_is c.requires.own in
    let put_is : c.put.new.self ≡ with_byte_at (nth_track hs front.position) front.step c.args.byte =
    c.in_ok-put.ensures.ok ∙ ap (λ (h : List Entry). with_byte_at h front.step c.args.byte)
    (c.index_mut.ensures.value ∙ get_or_default hs front.position c.index_mut.result.now []
    (omega (arith, inside, long))) in
    let again = is_again (nth_track hs front.position) front.step c.args.byte in
    let place = c.new-place.result in
    let noted_is : c.note.new.log.items ≡ with_noted c.self.inside.log.items place again =
    c.note.ensures ∙ ap (λ (log : List Anew). with_noted log place c.is_again-again.result) c.reserve.ensures.items
    ∙ ap (with_noted c.self.inside.log.items place) (c.is_again-again.ensures
    ∙ ap (λ (h : List Entry). is_again h front.step c.args.byte) (c.index.ensures
    ∙ get_or_default hs front.position c.index.result.now [] (omega (arith, inside, long)))) in
    record {
      rows = subst (λ (h : List Entry). AreRows w s (n + 1) c.front_past-front.result rs
          (slice_set hs front.position h)) (sym put_is)
          (rows_put w s n c.args.byte front c.front_past-front.result rs hs c.self.invariant.rows room
          (subst (λ k. IsFrontOf w (k + 1) c.front_past-front.result) c.self.invariant.rows.at.whole
          c.front_past-front.ensures.front));
      noted = subst (λ (h : List Entry). AreNoted w (n + 1) rs (slice_set hs front.position h) c.note.new.log.items)
          (sym put_is)
          (subst (λ (log : List Anew). AreNoted w (n + 1) rs (put_next hs front c.args.byte) log) (sym (noted_is))
          (noted_more w n c.args.byte rs hs (put_next hs front c.args.byte) place c.self.inside.log.items again some
          (there_earlier w n c.args.byte front rs hs some c.self.invariant.rows.rooted long c.self.invariant.rows.at)
          (there_next w n c.args.byte front rs hs some own long c.self.invariant.rows.below c.self.invariant.rows.at)
          c.new-place.ensures.number c.new-place.ensures.byte
          (λ on later. put_again w n c.args.byte front rs hs some c.self.invariant.rows.rooted own long
          c.self.invariant.rows.below c.self.invariant.rows.at on later)
          c.self.invariant.noted));
    }

pub returns-clause-ok : goal.returns-clause-ok
returns-clause-ok c =
    let w = c.self.inside.width in
    let s = c.self.inside.steps in
    let n = c.self.inside.count in
    let hs = c.self.inside.tracks.items in
    let front = c.self.inside.front in
    let rs = c.self.inside.roots.items in
    let room = room_of w s n 1 rs hs c.args.self.now c.self.view_is c.requires.room in
    let some = some_width w s n (omega (arith, room)) in
    let inside = inside_width w n front some c.self.invariant.rows.at in
    let long = c.self.invariant.rows.long in
    let own = own_next w s n front rs hs c.args.self.now some c.self.invariant.rows.at c.self.view_is c.requires.own in
    let put_is : c.put.new.self ≡ with_byte_at (nth_track hs front.position) front.step c.args.byte =
    c.in_ok-put.ensures.ok ∙ ap (λ (h : List Entry). with_byte_at h front.step c.args.byte)
    (c.index_mut.ensures.value ∙ get_or_default hs front.position c.index_mut.result.now []
    (omega (arith, inside, long))) in
    subst (λ (v : RowsView). rows_of w s rs (slice_set hs front.position c.put.new.self) (n + 1)
    ≡ and_byte v c.args.byte) c.self.view_is
    (ap (λ (h : List Entry). rows_of w s rs (slice_set hs front.position h) (n + 1)) put_is
    ∙ ap (λ (bs : List ℕ). let v : RowsView = record { width = w; steps = s; roots = rs; bytes = bs } in v)
    (bytes_put w n c.args.byte front rs hs some c.self.invariant.rows.rooted own long c.self.invariant.rows.below
    c.self.invariant.rows.at))

pub overflow_add-self : goal.overflow_add-self
overflow_add-self c =
    let room = room_of c.self.inside.width c.self.inside.steps c.self.inside.count 1 c.self.inside.roots.items
    c.self.inside.tracks.items c.args.self.now c.self.view_is c.requires.room in
    let small = c.self.invariant.rows.small in
    omega (arith, room, small)

pub invariant_of-self-in_err-put : goal.invariant_of-self-in_err-put
invariant_of-self-in_err-put c =
    let w = c.self.inside.width in
    let s = c.self.inside.steps in
    let n = c.self.inside.count in
    let ts = c.self.inside.tracks.items in
    let front = c.self.inside.front in
    let rs = c.self.inside.roots.items in
    let room = room_of w s n 1 rs ts c.args.self.now c.self.view_is c.requires.room in
    let some = some_width w s n (omega (arith, room)) in
    let inside = inside_width w n front some c.self.invariant.rows.at in
    let long = c.self.invariant.rows.long in
    let same : slice_set ts front.position c.put.new.self ≡ ts =
    ap (λ (h : List Entry). slice_set ts front.position h) (c.in_err-put.ensures.err
    ∙ c.index_mut.ensures.value ∙ get_or_default ts front.position c.index_mut.result.now []
    (omega (arith, inside, long))) ∙ set-get_or ts front.position [] in
    record {
      rows = subst (λ (hs : List (List Entry)). AreRows w s n front rs hs) (sym same) c.self.invariant.rows;
      noted = subst (λ (hs : List (List Entry)). AreNoted w n rs hs c.reserve.new.self.items) (sym same)
          (subst (λ (log : List Anew). AreNoted w n rs ts log) (sym c.reserve.ensures.items) c.self.invariant.noted);
    }
