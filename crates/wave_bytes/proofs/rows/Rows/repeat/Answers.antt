-- Places more, of which none is written anew.
use Rattle.std.proofs.Common.{◌≡◌, ◌+◌, ℕ, List, ap, subst, arith}
use Rattle.wave_bytes.specs.Rows.{IsFrontOf, RowsView, and_again, rows_of}
use Rattle.wave_bytes.proofs.CopyPlaces.{run_copies}
use Rattle.wave_bytes.proofs.RowPlaces.{bytes_again, next_again, room_of, rows_again, stretch_later, stretch_row}
use Rattle.wave_bytes.proofs.NotedPlaces.{noted_on}
use Rattle.wave_bytes.proofs.rows.Rows.repeat.Goals as goal

pub front_past-self-inside-requires-clause-one_row : goal.front_past-self-inside-requires-clause-one_row
front_past-self-inside-requires-clause-one_row c =
    stretch_row c.self.inside.width c.self.inside.steps c.self.inside.count c.args.many c.self.inside.front
    c.self.inside.roots.items c.self.inside.tracks.items c.args.self.now c.self.view_is c.self.invariant.rows.at
    c.requires.stretch

pub overflow_add-self : goal.overflow_add-self
overflow_add-self c =
    let room = room_of c.self.inside.width c.self.inside.steps c.self.inside.count c.args.many
    c.self.inside.roots.items c.self.inside.tracks.items c.args.self.now c.self.view_is c.requires.stretch.room in
    let small = c.self.invariant.rows.small in
    omega (arith, room, small)

pub invariant_of-self : goal.invariant_of-self
invariant_of-self c =
    let w = c.self.inside.width in
    let s = c.self.inside.steps in
    let n = c.self.inside.count in
    let rs = c.self.inside.roots.items in
    let hs = c.self.inside.tracks.items in
    let front = c.self.inside.front in
    let next = c.front_past-self-inside.result in
    let rows = c.self.invariant.rows in
    let later = stretch_later w s n c.args.many rs hs c.args.self.now c.self.view_is c.requires.stretch in
    let fits = stretch_row w s n c.args.many front rs hs c.args.self.now c.self.view_is rows.at c.requires.stretch in
    record {
      rows = rows_again w s n c.args.many front next rs hs rows
          (room_of w s n c.args.many rs hs c.args.self.now c.self.view_is c.requires.stretch.room) fits
          (subst (λ k. IsFrontOf w (k + c.args.many) next) rows.at.whole c.front_past-self-inside.ensures.front)
          c.front_past-self-inside.ensures.step;
      noted = noted_on w n c.args.many rs hs c.self.inside.log.items
          (λ k less. next_again w n k c.args.many front rs hs rows.rooted rows.below rows.at later fits
          (run_copies w s n c.args.many front rs hs c.args.self.now rows c.self.view_is later fits c.requires.copied)
          less)
          c.self.invariant.noted;
    }

pub returns : goal.returns
returns c =
    let w = c.self.inside.width in
    let s = c.self.inside.steps in
    let n = c.self.inside.count in
    let rs = c.self.inside.roots.items in
    let hs = c.self.inside.tracks.items in
    let front = c.self.inside.front in
    let rows = c.self.invariant.rows in
    let later = stretch_later w s n c.args.many rs hs c.args.self.now c.self.view_is c.requires.stretch in
    let fits = stretch_row w s n c.args.many front rs hs c.args.self.now c.self.view_is rows.at c.requires.stretch in
    subst (λ (v : RowsView). rows_of w s rs hs (n + c.args.many) ≡ and_again v c.args.many) c.self.view_is
    (ap (λ (bs : List ℕ). let v : RowsView = record { width = w; steps = s; roots = rs; bytes = bs } in v)
    (bytes_again w n c.args.many front rs hs rows.rooted rows.below rows.at later fits
    (run_copies w s n c.args.many front rs hs c.args.self.now rows c.self.view_is later fits c.requires.copied)))
