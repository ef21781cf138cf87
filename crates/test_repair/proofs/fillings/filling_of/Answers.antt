-- One place more, and in the end all places were looked at.
use Rattle.std.proofs.Common.{◌≡◌, ◌∙◌, ℕ, Bool, Vec, Global, ap, sym, false, length, slice_index_or, arith}
use Rattle.test_repair.proofs.ChosenPlaces.{chosen_filling, chosen_more, chosen_same}
use Rattle.test_repair.proofs.fillings.filling_of.Goals as goal
use Rattle.test_repair.proofs.fillings.filling_of.Goals.{then-bit_at+in_ok-push, else-bit_at}
use Rattle.design_circuit.specs.declared.place.Place.{Place}
use Rattle.wave_proved.specs.Contents.{job}

pub places-preserved : goal.places-preserved
places-preserved c =
    let j = job c.args.wave.now in
    let test : ℕ → Bool = λ k. slice_index_or c.args.bits.now k false in
    let before = c.places.invariant in
    elim c.if-bit_at.branch [
      | then-bit_at+in_ok-push w ↦
          chosen_more j test c.places.number c.places.places.items c.if-bit_at.places.items w.place_of.result before (ap (λ (v : Vec Place Global). v.items) w.places-is ∙ w.in_ok-push.ensures.items) w.place_of.ensures.place (sym c.bit_at.ensures ∙ w.if-bit_at.true)
      | else-bit_at w ↦ chosen_same j test c.places.number c.places.places.items c.if-bit_at.places.items before (ap (λ (v : Vec Place Global). v.items) w.places-is) (sym c.bit_at.ensures ∙ w.if-bit_at.false)
    ]

pub returns : goal.returns
returns c =
    let w = c.args.wave.now in
    let all : c.places.number ≡ length w.written =
    omega (arith, c.places-test.false, c.places.auto.number-end, c.count-number-end.ensures.count) in
    chosen_filling w c.count-number-end.ensures.wave (λ k. slice_index_or c.args.bits.now k false) c.places.number all
    c.from_vec.result (c.from_vec.ensures ∙ c.places.invariant)
