-- One bit more.
use Rattle.std.proofs.Common.{None, Option, map, take, get_or, slice_index, rules, sym, ap, ◌∙◌}
use Rattle.recording_binding.specs.Holding.{given_at, holder_in, or_next}
use Rattle.recording_binding.specs.declared.inputs.Holder.{Holder}
use Rattle.recording_binding.proofs.CopiedHolders.{mapped_more}
use Rattle.recording_binding.proofs.HoldLemmas.{next_assoc}
use Rattle.recording_binding.proofs.holders.hold_originals.Goals as goal

pub bits-preserved : goal.bits-preserved
bits-preserved c =
    let v = c.args.variable in
    let bits = c.args.bits.now in
    let f = slice_index c.args.originals.now in
    let i = c.bits.bit in
    let own = f (get_or bits i 0) in
    record {
      long = search rules;
      each = λ net. (
          let first = get_or c.args.holders.now net None in
          let h : Holder = record { variable = v; bit = i } in
          c.hold.ensures.each net ∙ ap (λ (o : Option Holder). or_next o (given_at own h net)) (c.bits.invariant.each net) ∙ next_assoc first (holder_in v (take i (map f bits)) net) (given_at own h net)
          ∙ ap (or_next first) (sym (mapped_more f v net bits i c.bits-test.true)));
    }
