-- The walk begins with all bound bits, each of which both waves have.
use Rattle.std.proofs.Common.{◌≡◌, ◌∷◌, ◌∙◌, List, length, map, ap, sym, subst, rules}
use Rattle.std.specs.List.{AllByRecursion, filter}
use Rattle.design_circuit.specs.declared.stim.Stim.{Stim}
use Rattle.recording_binding.specs.BoundBits.{IsBitOf, bound_bits, left_of}
use Rattle.recording_binding.specs.declared.binding.Bound.{Bound}
use Rattle.recording_binding.specs.declared.bound_bits.BoundBit.{BoundBit}
use Rattle.recording_binding.proofs.BoundBitLemmas.{bits_within}
use Rattle.report_fix.specs.Gained.{is_gained, is_lost, item_in, lost_items}
use Rattle.report_bits.proofs.FinishedBits.{bit_there}
use Rattle.report_fix.proofs.FinishedBits.{bit_beside}
use Rattle.report_fix.proofs.KeptBits.{nothing_lost}
use Rattle.report_fix.proofs.MoreItems.{items_more}
use Rattle.report_fix.proofs.items.gained.Goals as goal

pub bits-init : goal.bits-init
bits-init c =
    let before = c.args.before.now in
    let after = c.args.after.now in
    let bound = c.args.bound.now.bound in
    let all : left_of c.new-bits.result ≡ bound_bits (length before.stim.times) bound = c.new-bits.ensures
    ∙ ap (λ (stim : Stim). bound_bits (length stim.times) c.as_slice.result.now) c.stim.ensures
    ∙ ap (λ (l : List Bound). bound_bits (length before.stim.times) l) c.as_slice.ensures in
    record {
      gained = rw c.new.ensures.items
          (ap (λ (bits : List BoundBit). map (item_in after) (filter (is_gained before after) bits)) all);
      lost = rw c.new-2.ensures.items
          (ap (λ (bits : List BoundBit). map (item_in before) (filter (is_lost before after) bits)) all);
      within = subst (λ (bits : List BoundBit). AllByRecursion (IsBitOf before.design (length before.stim.times)) bits)
          (sym all) (bits_within before.design (length before.stim.times) bound c.requires.binding.each);
    }

pub add_bit-requires-clause-first : goal.add_bit-requires-clause-first
add_bit-requires-clause-first c =
    let before = c.args.before.now in
    let is : IsBitOf before.design (length before.stim.times) c.in-Some.bit = search rules in
    bit_there before c.recall.ensures c.requires.waves.finished c.in-Some.bit is

pub add_bit-requires-clause-second : goal.add_bit-requires-clause-second
add_bit-requires-clause-second c =
    let before = c.args.before.now in
    let is : IsBitOf before.design (length before.stim.times) c.in-Some.bit = search rules in
    bit_beside before c.args.after.now c.recall-2.ensures c.requires.waves c.in-Some.bit is

pub bits-preserved : goal.bits-preserved
bits-preserved c =
    let before = c.args.before.now in
    let after = c.args.after.now in
    let left : left_of c.bits.bits ≡ c.in-Some.bit ∷ left_of c.next.new.self = c.in-Some.ensures.bit in
    record {
      gained = items_more (item_in after) (is_gained before after) _ _ _ c.in-Some.bit (left_of c.bits.bits)
          (left_of c.next.new.self) left c.bits.invariant.gained c.in_ok-add_bit.ensures.gained;
      lost = items_more (item_in before) (is_lost before after) _ _ _ c.in-Some.bit (left_of c.bits.bits)
          (left_of c.next.new.self) left c.bits.invariant.lost c.in_ok-add_bit.ensures.lost;
      within = (subst (λ (bits : List BoundBit).
          AllByRecursion (IsBitOf before.design (length before.stim.times)) bits) left c.bits.invariant.within).1;
    }

pub returns-clause-kept : goal.returns-clause-kept
returns-clause-kept c = λ chooses.
    (let lost : c.bits.fixed.lost.items ≡ lost_items c.args.before.now c.args.after.now c.args.bound.now = search rules in
    lost ∙ nothing_lost c.args.before.now c.args.after.now c.recall.ensures c.recall-2.ensures c.requires.waves
    chooses c.args.bound.now c.requires.binding)
