-- The lowest bit of the first word that has any is the first that is set.
use Rattle.std.proofs.Common.{◌<◌, ◌/◌, ◌%◌, ◌^◌, slice_index, arith, refl}
use Rattle.replay_due.specs.Due.{NoneBetween}
use Rattle.replay_due.proofs.Words.{IsRest, first_found, none_to_bit}
use Rattle.replay_due.proofs.due.first_bit.Goals as goal

pub returns-then-rest-ne0-clause-forward : goal.returns-then-rest-ne0-clause-forward
returns-then-rest-ne0-clause-forward c =
    let rest : IsRest (slice_index c.args.words.now (c.args.from / 64)) (c.args.from % 64) c.bits_from-rest.result = record { below = c.bits_from-rest.ensures.below; from = c.bits_from-rest.ensures.from; small = omega arith } in
    let empty : NoneBetween c.args.words.now c.args.from c.args.from = λ q low high. absurd (omega (arith, low, high)) in
    (first_found c.args.words.now c.args.from c.args.from (slice_index c.args.words.now (c.args.from / 64)) c.bits_from-rest.result refl rest c.if-rest-ne0.true (omega arith) empty).forward

pub returns-then-rest-ne0-clause-none : goal.returns-then-rest-ne0-clause-none
returns-then-rest-ne0-clause-none c =
    let rest : IsRest (slice_index c.args.words.now (c.args.from / 64)) (c.args.from % 64) c.bits_from-rest.result = record { below = c.bits_from-rest.ensures.below; from = c.bits_from-rest.ensures.from; small = omega arith } in
    let empty : NoneBetween c.args.words.now c.args.from c.args.from = λ q low high. absurd (omega (arith, low, high)) in
    (first_found c.args.words.now c.args.from c.args.from (slice_index c.args.words.now (c.args.from / 64)) c.bits_from-rest.result refl rest c.if-rest-ne0.true (omega arith) empty).none

pub returns-then-word-ne0-clause-none : goal.returns-then-word-ne0-clause-none
returns-then-word-ne0-clause-none c =
    let small : slice_index c.args.words.now c.places.place < 2 ^ 64 = omega (arith, c.type_inv.words c.places.place) in
    none_to_bit c.args.words.now c.args.from c.places.place c.if-word-ne0.true small c.places.invariant
