-- What is found comes next, and there is room for it.
use Rattle.std.proofs.Common.{◌+◌, ◌<◌, ◌^◌, ◌++◌, ◌∷◌, [], ap, sym, ◌∙◌, arith, length, length-append}
use Rattle.law_model.specs.Places.{among, places_where}
use Rattle.law_model.proofs.PlacesWhere.{all_among}
use Rattle.wave_class.specs.Arguments.{IsLeast}
use Rattle.wave_class.proofs.RisingPlaces.{found, both_end, few_picked, none_after}
use Rattle.wave_class.proofs.arguments.ascending.Goals as goal

pub push-requires : goal.push-requires
push-requires c =
    let places = c.args.places.now in
    let is : IsLeast places c.rest.bound c.in-Some.least = c.in-Some.ensures in
    let next = found (among places) c.rest.bound c.in-Some.least is.above is.inside is.none_before in
    let few = few_picked places (c.in-Some.least + 1) in
    let long = length-append (places_where (among places) c.rest.bound) (c.in-Some.least ∷ []) in
    let all = c.requires.few in
    rw c.rest.invariant.listed (omega (arith, few, ap length next, long, all))

pub overflow_add-bound : goal.overflow_add-bound
overflow_add-bound c =
    let is : IsLeast c.args.places.now c.rest.bound c.in-Some.least = c.in-Some.ensures in
    let low : c.in-Some.least < 2 ^ 40 = all_among (λ k. k < 2 ^ 40) c.args.places.now c.in-Some.least c.requires.small
    is.inside in
    omega (arith, low)

pub rest-smaller : goal.rest-smaller
rest-smaller c =
    let is : IsLeast c.args.places.now c.rest.bound c.in-Some.least = c.in-Some.ensures in
    let low : c.in-Some.least < 2 ^ 40 = all_among (λ k. k < 2 ^ 40) c.args.places.now c.in-Some.least c.requires.small
    is.inside in
    let above = is.above in
    omega (arith, low, above)

pub rest-preserved : goal.rest-preserved
rest-preserved c =
    let places = c.args.places.now in
    let is : IsLeast places c.rest.bound c.in-Some.least = c.in-Some.ensures in
    let low : c.in-Some.least < 2 ^ 40 = all_among (λ k. k < 2 ^ 40) places c.in-Some.least c.requires.small
    is.inside in
    record {
      listed = c.push.ensures ∙ ap (λ xs. xs ++ c.in-Some.least ∷ []) c.rest.invariant.listed
          ∙ sym (found (among places) c.rest.bound c.in-Some.least is.above is.inside is.none_before);
      low = omega (arith, low);
    }

pub returns : goal.returns
returns c = λ n below. c.rest.invariant.listed
    ∙ both_end (among c.args.places.now) c.rest.bound n (rw c.in_default.is at c.least_from.ensures)
    (λ k low. none_after c.args.places.now n k below low)
