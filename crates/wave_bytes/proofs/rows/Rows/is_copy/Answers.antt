-- What the position of the next place copies tells.
use Rattle.std.proofs.Common.{◌≡◌, ◌<◌, ◌==◌, ◌∙◌, not, Bool, true, false, refl, sym, subst, arith}
use Rattle.std.proofs.lemmas.Bool.{eqb-true, eq-eqb}
use Rattle.wave_bytes.specs.Rows.{IsCopyNext, IsOwnNext, RowsView, nth_root, root_place}
use Rattle.wave_bytes.proofs.CopyPlaces.{front_copy, front_own}
use Rattle.wave_bytes.proofs.RowPlaces.{bytes_long, room_of, some_width}
use Rattle.wave_bytes.proofs.rows.Rows.is_copy.Goals as goal

negated : (b : Bool) → not b ≡ false → b ≡ true
negated true is = refl
negated false is = cc

differs : (b : Bool) → not b ≡ true → b ≡ true → ⊥
differs true is on = cc
differs false is on = cc

pub returns-clause-own : goal.returns-clause-own
returns-clause-own c = λ is.
    let w = c.self.inside.width in
    let n = c.self.inside.count in
    let rs = c.self.inside.roots.items in
    let hs = c.self.inside.tracks.items in
    let front = c.self.inside.front in
    let room = room_of w c.self.inside.steps n 1 rs hs c.args.self.now c.self.view_is c.requires in
    let some = some_width w c.self.inside.steps n (omega (arith, room)) in
    let slice = c.as_slice.ensures.value in
    let root : c.root_of.result ≡ nth_root rs front.position =
    rw slice at c.root_of.ensures in
    subst (λ (v : RowsView). IsOwnNext v) c.self.view_is
    (subst (λ k. root_place w rs k ≡ k) (sym (bytes_long w rs hs n))
    (front_own w n front rs some c.self.invariant.rows.at
    (sym root ∙ eqb-true c.root_of.result front.position (negated (c.root_of.result == front.position) is))))

pub returns-clause-copy : goal.returns-clause-copy
returns-clause-copy c = λ is.
    let w = c.self.inside.width in
    let n = c.self.inside.count in
    let rs = c.self.inside.roots.items in
    let hs = c.self.inside.tracks.items in
    let front = c.self.inside.front in
    let room = room_of w c.self.inside.steps n 1 rs hs c.args.self.now c.self.view_is c.requires in
    let some = some_width w c.self.inside.steps n (omega (arith, room)) in
    let slice = c.as_slice.ensures.value in
    let root : c.root_of.result ≡ nth_root rs front.position =
    rw slice at c.root_of.ensures in
    subst (λ (v : RowsView). IsCopyNext v) c.self.view_is
    (subst (λ k. root_place w rs k < k) (sym (bytes_long w rs hs n))
    (front_copy w n front rs some c.self.invariant.rows.rooted c.self.invariant.rows.at
    (λ own. differs (c.root_of.result == front.position) is (eq-eqb c.root_of.result front.position (root ∙ own)))))
