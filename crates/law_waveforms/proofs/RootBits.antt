-- In every world a place has the bit of its root, or its complement.
use Rattle.std.proofs.Common.{◌≡◌, ℕ, zero, suc, ◌<◌, ◌≤◌, Bool, true, false, List, length, refl, sym, ap, ◌∙◌, arith}
use Rattle.design_cell.specs.declared.value.Value.{Value}
use Rattle.design_circuit.specs.declared.place.Place.{Place}
use Rattle.design_circuit.specs.declared.waveform.Written.{Written}
use Rattle.design_circuit.specs.Filling.{IsFilling}
use Rattle.design_circuit.specs.Fits.{Fits}
use Rattle.design_circuit.specs.Job.{Job, places_of}
use Rattle.design_circuit.specs.Waveform.{certain}
use Rattle.law_model.specs.Class.{class_of, flipped}
use Rattle.law_model.specs.Cone.{is_carried}
use Rattle.law_model.specs.Laws.{world_over}
use Rattle.law_model.specs.Root.{Root, root_of}
use Rattle.law_model.specs.Sound.{Sound}
use Rattle.law_model.specs.declared.class.ClassByNumber.{ClassByNumber}
use Rattle.law_model.specs.declared.class.ClassByNumber.TheVariants.{Local, Free, Carried, Line}
use Rattle.law_model.specs.declared.line.Line.{Line as ALine}
use Rattle.law_model.proofs.LawProofs.{carry_law}
use Rattle.law_model.proofs.Roots.{carried_below, root_carried, root_own}
use Rattle.law_model.specs.declared.limits.Limits.{Limits}
use Rattle.law_waveforms.specs.Roots.{RootLaw}

flipped_twice : (a b bit : Bool) → flipped (flipped a b) bit ≡ flipped a (flipped b bit)
flipped_twice false b bit = refl
flipped_twice true false bit = refl
flipped_twice true true false = refl
flipped_twice true true true = refl

module _ (j : Job) (limits : Limits) (shown : ℕ → Value) (waveform : List Written) (lines : List ALine) (fits : Fits j)
    (sound : Sound j limits shown waveform lines) (filling : List Place) (filled : IsFilling j filling) where
  abbrev w : ℕ → Bool
  w = world_over j waveform filling

  abbrev c : ℕ → Value
  c = certain waveform

  abbrev Same : ℕ → Type 0
  Same place = w place ≡ flipped (root_of j c place).inverted (w (root_of j c place).place)

  own : (place : ℕ) → is_carried (class_of j c place) ≡ false → Same place
  own place free = sym (ap (λ (r : Root). flipped r.inverted (w r.place)) (root_own j c place free))

  along : (place : ℕ) (class : ClassByNumber) → class_of j c place ≡ class → place ≤ length waveform
      → place < places_of j → ((k : ℕ) → k < place → Same k) → Same place
  along place (Local bit) is up within earlier = own place (ap is_carried is)
  along place Free is up within earlier = own place (ap is_carried is)
  along place Line is up within earlier = own place (ap is_carried is)
  along place (Carried from inverted) is up within earlier =
      let r = root_of j c from in
      carry_law j limits shown waveform lines fits sound place from inverted filling
      (record { written = up; within = within }) filled is
      ∙ ap (flipped inverted) (earlier from (carried_below j fits c place from inverted within is))
      ∙ sym (flipped_twice inverted r.inverted (w r.place))
      ∙ sym (ap (λ (r : Root). flipped r.inverted (w r.place)) (root_carried j fits c place from inverted within is))

  below : (n place : ℕ) → place < n → place ≤ length waveform → place < places_of j → Same place
  below zero place before up within = absurd (omega (arith, before))
  below (suc n) place before up within = along place (class_of j c place) refl up within
      (λ k less. below n k (omega (arith, less, before)) (omega (arith, less, up)) (omega (arith, less, within)))

pub root_law : RootLaw
root_law j limits shown waveform lines fits sound place filling reach filled =
    below j limits shown waveform lines fits sound filling filled (suc place) place (omega arith) reach.written
    reach.within
