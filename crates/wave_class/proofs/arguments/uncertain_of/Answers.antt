-- No more are kept than there are.
use Rattle.std.proofs.Common.{ℕ, arith, take}
use Rattle.std.proofs.lemmas.List.{length-take-le}
use Rattle.std.proofs.lemmas.List.Sums.{length-filter, count_by-le-length}
use Rattle.design_cell.specs.Value.{is_unknown}
use Rattle.wave_class.proofs.arguments.uncertain_of.Goals as goal

pub push-requires : goal.push-requires
push-requires g c =
    let test = λ (k : ℕ). is_unknown (g.C.Source.reads c.args.certain.now k) in
    let so_far = take c.places.place-index c.args.places.now in
    let kept = length-filter test so_far in
    let count = count_by-le-length test so_far in
    let less = c.places-test.true in
    let long = length-take-le c.places.place-index c.args.places.now (omega (arith, less)) in
    let few = c.requires.few in
    rw c.places.invariant (omega (arith, kept, count, less, long, few))
