-- The walk begins with all bound bits, each of which the wave has.
use Rattle.std.proofs.Common.{◌≡◌, ◌∷◌, ◌∙◌, Bool, false, List, [], length, refl, ap, sym, subst, rules}
use Rattle.std.specs.List.{AllByRecursion, filter}
use Rattle.design_circuit.specs.Row.{RowView}
use Rattle.design_circuit.specs.declared.stim.Stim.{Stim}
use Rattle.recording_binding.specs.BoundBits.{IsBitOf, bound_bits, left_of}
use Rattle.recording_binding.specs.declared.binding.Bound.{Bound}
use Rattle.recording_binding.specs.declared.bound_bits.BoundBit.{BoundBit}
use Rattle.recording_binding.proofs.BoundBitLemmas.{bits_within}
use Rattle.report_blame.specs.Blamed.{AddsBit, AddsIf, is_unknown_bit}
use Rattle.report_blame.specs.declared.bits.Blamed.{Blamed}
use Rattle.report_bits.proofs.FinishedBits.{bit_there}
use Rattle.report_blame.proofs.ToldBits.{AreToldBefore, told_more}
use Rattle.report_blame.proofs.bits.blame_bits.Goals as goal

pub bits-init : goal.bits-init
bits-init c =
    let wave = c.args.wave.now in
    let bound = c.args.bound.now.bound in
    let all : left_of c.new-bits.result ≡ bound_bits (length wave.stim.times) bound = c.new-bits.ensures
    ∙ ap (λ (stim : Stim). bound_bits (length stim.times) c.as_slice.result.now) c.stim.ensures
    ∙ ap (λ (l : List Bound). bound_bits (length wave.stim.times) l) c.as_slice.ensures in
    let none : AreToldBefore wave bound [] (left_of c.new-bits.result) =
    record { bits = []; are = tt; whole = ap (filter (is_unknown_bit wave)) all } in
    record {
      told = subst (λ (told : List Blamed). AreToldBefore wave bound told (left_of c.new-bits.result))
          (sym c.new-blamed.ensures.items) none;
      causes = c.in_ok-causes.ensures wave;
      history = ap (λ (row : RowView). row.history) c.in_ok-replayed.ensures ∙ c.replayed.ensures;
      within = subst (λ (bits : List BoundBit). AllByRecursion (IsBitOf wave.design (length wave.stim.times)) bits)
          (sym all) (bits_within wave.design (length wave.stim.times) bound c.requires.binding.each);
    }

pub is_shown_unknown-requires-clause-bit : goal.is_shown_unknown-requires-clause-bit
is_shown_unknown-requires-clause-bit c =
    let wave = c.args.wave.now in
    let is : IsBitOf wave.design (length wave.stim.times) c.in-Some.bit = search rules in
    bit_there wave c.recall.ensures c.requires.finished c.in-Some.bit is

pub add_bit-requires-clause-bit : goal.add_bit-requires-clause-bit
add_bit-requires-clause-bit c =
    let wave = c.args.wave.now in
    let is : IsBitOf wave.design (length wave.stim.times) c.in-Some.bit = search rules in
    bit_there wave c.recall.ensures c.requires.finished c.in-Some.bit is

pub bits-preserved-in-Continue-branch-4 : goal.bits-preserved-in-Continue-branch-4
bits-preserved-in-Continue-branch-4 c =
    let wave = c.args.wave.now in
    let left : left_of c.bits.bits ≡ c.in-Some.bit ∷ left_of c.next.new.self = c.in-Some.ensures.bit in
    let history : c.bring.new.replayed.history ≡ wave.history = search rules in
    record {
      told = told_more wave c.args.bound.now.bound _ _ c.in-Some.bit (left_of c.bits.bits) (left_of c.next.new.self) left
          c.bits.invariant.told c.in_ok-add_bit.ensures.added;
      causes = c.in_ok-add_bit.ensures.causes;
      history = history;
      within = (subst (λ (bits : List BoundBit).
          AllByRecursion (IsBitOf wave.design (length wave.stim.times)) bits) left c.bits.invariant.within).1;
    }

pub bits-preserved : goal.bits-preserved
bits-preserved c =
    let wave = c.args.wave.now in
    let told = c.bits.blamed.items in
    let left : left_of c.bits.bits ≡ c.in-Some.bit ∷ left_of c.next.new.self = c.in-Some.ensures.bit in
    let history : c.bring.new.replayed.history ≡ wave.history = search rules in
    let no : c.is_shown_unknown.result ≡ false = search rules in
    let adds : AddsBit wave c.in-Some.bit told told =
    subst (λ (b : Bool). AddsIf b wave c.in-Some.bit told told) (sym (c.is_shown_unknown.ensures no)) refl in
    record {
      told = told_more wave c.args.bound.now.bound told told c.in-Some.bit (left_of c.bits.bits) (left_of c.next.new.self)
          left c.bits.invariant.told adds;
      causes = c.bits.invariant.causes;
      history = history;
      within = (subst (λ (bits : List BoundBit).
          AllByRecursion (IsBitOf wave.design (length wave.stim.times)) bits) left c.bits.invariant.within).1;
    }
