-- The walk begins with all bound bits.
use Rattle.std.proofs.Common.{◌≡◌, ◌∙◌, ◌++◌, List, length, ap, sym, subst}
use Rattle.std.specs.List.{AllByRecursion, flat_map}
use Rattle.recording_binding.specs.BoundBits.{IsBitOf, bound_bits, left_of}
use Rattle.recording_binding.specs.declared.binding.Bound.{Bound}
use Rattle.recording_binding.specs.declared.bound_bits.BoundBit.{BoundBit}
use Rattle.recording_binding.proofs.BoundBitLemmas.{bits_within}
use Rattle.design_circuit.specs.declared.stim.Stim.{Stim}
use Rattle.report_bits.specs.Bits.{bound_line}
use Rattle.report_bits.proofs.bits.put_all.Goals as goal

pub bits-init : goal.bits-init
bits-init c =
    let wave = c.args.from.now.wave.now in
    let bound = c.args.bound.now.bound in
    let all : left_of c.new-bits.result ≡ bound_bits (length wave.stim.times) bound = c.new-bits.ensures
    ∙ ap (λ (stim : Stim). bound_bits (length stim.times) c.as_slice.result.now) c.stim.ensures
    ∙ ap (λ (l : List Bound). bound_bits (length wave.stim.times) l) c.as_slice.ensures in
    record {
      lines = ap (λ (bits : List BoundBit). c.args.writer.now.text.items
          ++ flat_map (bound_line wave c.args.from.now.lines) bits) all;
      within = subst (λ (bits : List BoundBit). AllByRecursion (IsBitOf wave.design (length wave.stim.times)) bits)
          (sym all) (bits_within wave.design (length wave.stim.times) bound c.requires.binding.each);
      writer = c.requires.writer;
    }
