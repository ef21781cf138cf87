-- The lowest bit of the rest of a word is the first position that is due.
use Rattle.std.proofs.Common.{◌≡◌, ◌/◌, ◌%◌, ◌<◌, ◌∙◌, ◌+◌, ◌*◌, subst, List, ℕ, length, slice_index, arith, ap, rules, sym}
use Rattle.std.proofs.lemmas.List.{get_or_default}
use Rattle.replay_due.specs.Due.{NoneBetween}
use Rattle.replay_due.proofs.Words.{IsRest, first_found, none_more, none_to}
use Rattle.replay_due.proofs.due.Due.first_from.Goals as goal

pub returns-then-rest-ne0-clause-forward : goal.returns-then-rest-ne0-clause-forward
returns-then-rest-ne0-clause-forward c =
    let view : c.self.inside.words.items ≡ c.args.self.now = c.self.view_is in
    let test = c.words-test.true in
    let count = c.len.ensures in
    let room : c.words.position / 64 < length c.self.inside.words.items = search rules in
    let word : c.index.result.now ≡ slice_index c.args.self.now (c.words.position / 64) = c.index.ensures ∙ get_or_default c.self.inside.words.items (c.words.position / 64) c.index.result.now 0 room ∙ ap (λ (ws : List ℕ). slice_index ws (c.words.position / 64)) view in
    let rest : IsRest c.index.result.now (c.words.position % 64) c.bits_from-rest.result = record { below = c.bits_from-rest.ensures.below; from = c.bits_from-rest.ensures.from; small = omega arith } in
    let found = first_found c.args.self.now c.args.from c.words.position c.index.result.now c.bits_from-rest.result word rest c.if-rest-ne0.true c.words.invariant.forward c.words.invariant.none in
    let low = c.words.invariant.forward in
    let forward = found.forward in
    omega (arith, forward, low)

pub returns-then-rest-ne0-clause-none : goal.returns-then-rest-ne0-clause-none
returns-then-rest-ne0-clause-none c =
    let view : c.self.inside.words.items ≡ c.args.self.now = c.self.view_is in
    let room : c.words.position / 64 < length c.self.inside.words.items = search rules in
    let word : c.index.result.now ≡ slice_index c.args.self.now (c.words.position / 64) = c.index.ensures ∙ get_or_default c.self.inside.words.items (c.words.position / 64) c.index.result.now 0 room ∙ ap (λ (ws : List ℕ). slice_index ws (c.words.position / 64)) view in
    let rest : IsRest c.index.result.now (c.words.position % 64) c.bits_from-rest.result = record { below = c.bits_from-rest.ensures.below; from = c.bits_from-rest.ensures.from; small = omega arith } in
    (first_found c.args.self.now c.args.from c.words.position c.index.result.now c.bits_from-rest.result word rest c.if-rest-ne0.true c.words.invariant.forward c.words.invariant.none).none

pub returns-then-rest-ne0-clause-due : goal.returns-then-rest-ne0-clause-due
returns-then-rest-ne0-clause-due c = λ there.
    (let view : c.self.inside.words.items ≡ c.args.self.now = c.self.view_is in
    let room : c.words.position / 64 < length c.self.inside.words.items = search rules in
    let word : c.index.result.now ≡ slice_index c.args.self.now (c.words.position / 64) = c.index.ensures ∙ get_or_default c.self.inside.words.items (c.words.position / 64) c.index.result.now 0 room ∙ ap (λ (ws : List ℕ). slice_index ws (c.words.position / 64)) view in
    let rest : IsRest c.index.result.now (c.words.position % 64) c.bits_from-rest.result = record { below = c.bits_from-rest.ensures.below; from = c.bits_from-rest.ensures.from; small = omega arith } in
    (first_found c.args.self.now c.args.from c.words.position c.index.result.now c.bits_from-rest.result word rest c.if-rest-ne0.true c.words.invariant.forward c.words.invariant.none).due)

pub words-preserved : goal.words-preserved
words-preserved c =
    let view : c.self.inside.words.items ≡ c.args.self.now = c.self.view_is in
    let room : c.words.position / 64 < length c.self.inside.words.items = search rules in
    let word : c.index.result.now ≡ slice_index c.args.self.now (c.words.position / 64) = c.index.ensures ∙ get_or_default c.self.inside.words.items (c.words.position / 64) c.index.result.now 0 room ∙ ap (λ (ws : List ℕ). slice_index ws (c.words.position / 64)) view in
    let rest : IsRest c.index.result.now (c.words.position % 64) c.bits_from-rest.result = record { below = c.bits_from-rest.ensures.below; from = c.bits_from-rest.ensures.from; small = omega arith } in
    let clear : c.bits_from-rest.result ≡ 0 = omega arith in
    let before = none_more c.args.self.now c.args.from c.words.position c.index.result.now c.bits_from-rest.result word rest clear c.words.invariant.forward c.words.invariant.none in
    let groups : NoneBetween c.self.inside.groups.items (c.words.position / 64 + 1) c.first_bit-position.result = subst (λ (gs : List ℕ). NoneBetween gs (c.words.position / 64 + 1) c.first_bit-position.result) c.as_slice.ensures.value c.first_bit-position.ensures.none in
    let forward = c.words.invariant.forward in
    let on = c.first_bit-position.ensures.forward in
    record {
      forward = omega (arith, forward, on);
      none = subst (λ (ws : List ℕ). NoneBetween ws c.args.from (c.first_bit-position.result * 64)) view (none_to c.self.inside.groups.items c.self.inside.words.items c.args.from (c.words.position / 64) c.first_bit-position.result c.self.invariant.covers (subst (λ (ws : List ℕ). NoneBetween ws c.args.from ((c.words.position / 64 + 1) * 64)) (sym view) before) groups);
    }
