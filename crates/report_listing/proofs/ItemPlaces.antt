-- What is gained and lost is at places of the jobs.
use Rattle.std.proofs.Common.{◌≡◌, Bool, List, [], ◌∷◌, length, map, sym, subst}
use Rattle.std.specs.List.{AllByRecursion, filter}
use Rattle.recording_binding.specs.Binding.{FitsBinding}
use Rattle.recording_binding.specs.BoundBits.{IsBitOf, bound_bits}
use Rattle.recording_binding.specs.declared.binding.Binding.{Binding}
use Rattle.recording_binding.specs.declared.bound_bits.BoundBit.{BoundBit}
use Rattle.recording_binding.proofs.BoundBitLemmas.{bits_within}
use Rattle.wave_proved.specs.Contents.{Contents}
use Rattle.report_fix.specs.Gained.{AreBeside, gained_items, is_gained, is_lost, item_in, lost_items}
use Rattle.report_fix.specs.declared.items.Item.{Item}
use Rattle.report_listing.specs.Fixed.{IsThere}
use Rattle.report_listing.proofs.ToldPlaces.{all_kept, place_there}

all_items : (c : Contents) (bits : List BoundBit) → AllByRecursion (IsBitOf c.design (length c.stim.times)) bits → AllByRecursion (IsThere c) (map (item_in c) bits)
all_items c [] all = tt
all_items c (bit ∷ bits) all = (place_there c bit all.0, all_items c bits all.1)

beside : (before after : Contents) → AreBeside before after → (bits : List BoundBit) → AllByRecursion (IsBitOf before.design (length before.stim.times)) bits
    → AllByRecursion (IsBitOf after.design (length after.stim.times)) bits
beside before after are [] all = tt
beside before after are (bit ∷ bits) all =
    (record { moment = rw are.moments all.0.moment; net = rw are.design all.0.net }, beside before after are bits all.1)

module _ (before after : Contents) (binding : Binding) where
  within : (p : BoundBit → Bool) → FitsBinding before.design binding
      → AllByRecursion (IsBitOf before.design (length before.stim.times)) (filter p (bound_bits (length before.stim.times) binding.bound))
  within p fits =
      all_kept (IsBitOf before.design (length before.stim.times)) p (bound_bits (length before.stim.times) binding.bound)
      (bits_within before.design (length before.stim.times) binding.bound fits.each)

  pub gained_there : (items : List Item) → AreBeside before after → FitsBinding before.design binding → items ≡ gained_items before after binding
      → AllByRecursion (IsThere after) items
  gained_there items are fits is =
      let bits = filter (is_gained before after) (bound_bits (length before.stim.times) binding.bound) in
      subst (AllByRecursion (IsThere after)) (sym is) (all_items after bits (beside before after are bits (within (is_gained before after) fits)))

  pub lost_there : (items : List Item) → FitsBinding before.design binding → items ≡ lost_items before after binding
      → AllByRecursion (IsThere before) items
  lost_there items fits is =
      let bits = filter (is_lost before after) (bound_bits (length before.stim.times) binding.bound) in
      subst (AllByRecursion (IsThere before)) (sym is) (all_items before bits (within (is_lost before after) fits))
