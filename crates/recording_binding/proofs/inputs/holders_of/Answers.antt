-- One variable more.
use Rattle.std.proofs.Common.{◌≡◌, ◌+◌, ℕ, List, [], ◌∷◌, ◌++◌, Option, None, length, get_or, take, drop, sym, ap, ◌∙◌}
use Rattle.std.proofs.lemmas.List.{take_more}
use Rattle.recording_binding.specs.Holding.{holder_in, or_next}
use Rattle.recording_binding.specs.declared.binding.Bound.{Bound}
use Rattle.recording_binding.specs.declared.inputs.Holder.{Holder}
use Rattle.recording_binding.proofs.HoldLemmas.{holder_more}
use Rattle.recording_binding.proofs.Written.{written}
use Rattle.recording_binding.proofs.inputs.holders_of.Goals as goal

pub bound-preserved : goal.bound-preserved
bound-preserved c =
    let old = c.bound.holders.items in
    let new = c.hold_bits.new.holders in
    let bound = c.args.bound.now in
    let i = c.bound.b-index in
    let b = c.b-item.result in
    let seen : c.as_mut_slice.result.now ≡ old = c.as_mut_slice.ensures.value in
    let many : length new ≡ length old = c.hold_bits.ensures.long ∙ ap (λ (l : List (Option Holder)). length l) seen in
    let whole : take c.bound.holders.len (new ++ drop (length new) old) ≡ new = written old new c.bound.holders.len c.bound.holders.ok.0 many in
    let more : take (i + 1) bound ≡ take i bound ++ b ∷ [] = take_more bound i b c.bound-test.true ∙ ap (λ (x : Bound). take i bound ++ x ∷ []) (sym c.b-item.is) in
    let bits : c.as_slice-in-bound.result.now ≡ b.bits = c.as_slice-in-bound.ensures in
    rw (whole, more) (record {
      as_many = many ∙ c.bound.invariant.as_many;
      each = λ net within. c.hold_bits.ensures.each net ∙ ap (λ (l : List (Option Holder)). or_next (get_or l net None) (holder_in b.variable c.as_slice-in-bound.result.now net)) seen
          ∙ ap (λ (l : List ℕ). or_next (get_or old net None) (holder_in b.variable l net)) bits
          ∙ ap (λ (o : Option Holder). or_next o (holder_in b.variable b.bits net)) (c.bound.invariant.each net within) ∙ sym (holder_more (take i bound) b net);
    })
