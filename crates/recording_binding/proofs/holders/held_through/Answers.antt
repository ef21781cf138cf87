-- One variable more.
use Rattle.std.proofs.Common.{◌≡◌, ◌+◌, ◌<◌, ◌≤◌, ◌^◌, ℕ, List, [], ◌∷◌, ◌++◌, Option, None, length, get_or, map, take, drop, slice_index, sym, ap, subst, ◌∙◌, All}
use Rattle.recording_binding.specs.Holding.{FitsHeld, Holds, holder_in, or_next}
use Rattle.recording_binding.specs.Originals.{original_of, with_originals}
use Rattle.recording_binding.specs.declared.binding.Bound.{Bound}
use Rattle.recording_binding.specs.declared.inputs.Holder.{Holder}
use Rattle.recording_binding.proofs.CopiedHolders.{originals_listed, originals_within, variables_more}
use Rattle.recording_binding.proofs.HoldLemmas.{holder_more}
use Rattle.recording_binding.proofs.Written.{written}
use Rattle.recording_binding.proofs.holders.held_through.Goals as goal

pub hold_originals-requires-clause-within : goal.hold_originals-requires-clause-within
hold_originals-requires-clause-within c =
    let d = c.args.design.now in
    let b = c.b-item.result in
    let fits : FitsHeld d b = subst (FitsHeld d) (sym c.b-item.is) (c.requires.fits c.bound.b-index b c.bound-test.true) in
    subst (λ (l : List ℕ). All (λ (net : ℕ). net < length c.args.originals.now) l) (sym c.as_slice-bits.ensures)
    (subst (λ (n : ℕ). All (λ (net : ℕ). net < n) b.bits) (sym c.requires.originals.as_many) fits.nets)

pub hold_originals-requires-clause-listed : goal.hold_originals-requires-clause-listed
hold_originals-requires-clause-listed c =
    let d = c.args.design.now in
    let many : length c.as_mut_slice.result.now ≡ length d.nets = ap (λ (l : List (Option Holder)). length l) c.as_mut_slice.ensures.value ∙ c.bound.invariant.as_many in
    subst (λ (n : ℕ). All (λ (net : ℕ). net < n) c.args.originals.now) (sym many)
    (originals_within d c.requires.design c.args.originals.now c.requires.originals)

pub hold_originals-requires-clause-few : goal.hold_originals-requires-clause-few
hold_originals-requires-clause-few c =
    let d = c.args.design.now in
    let b = c.b-item.result in
    let fits : FitsHeld d b = subst (FitsHeld d) (sym c.b-item.is) (c.requires.fits c.bound.b-index b c.bound-test.true) in
    subst (λ (l : List ℕ). length l ≤ 2 ^ 20) (sym c.as_slice-bits.ensures) fits.few

pub bound-preserved : goal.bound-preserved
bound-preserved c =
    let d = c.args.design.now in
    let originals = c.args.originals.now in
    let old = c.bound.holders.items in
    let new = c.hold_originals.new.holders in
    let bound = c.args.bound.now in
    let i = c.bound.b-index in
    let b = c.b-item.result in
    let before = map (with_originals d) (take i bound) in
    let fits : FitsHeld d b = subst (FitsHeld d) (sym c.b-item.is) (c.requires.fits i b c.bound-test.true) in
    let seen : c.as_mut_slice.result.now ≡ old = c.as_mut_slice.ensures.value in
    let many : length new ≡ length old = c.hold_originals.ensures.long ∙ ap (λ (l : List (Option Holder)). length l) seen in
    let whole : take c.bound.holders.len (new ++ drop (length new) old) ≡ new = written old new c.bound.holders.len c.bound.holders.ok.0 many in
    let more : map (with_originals d) (take (i + 1) bound) ≡ before ++ with_originals d b ∷ [] = variables_more d bound i b c.bound-test.true c.b-item.is in
    let bits : map (slice_index originals) c.as_slice-bits.result.now ≡ map (original_of d) b.bits =
    ap (map (slice_index originals)) c.as_slice-bits.ensures ∙ originals_listed d originals b.bits c.requires.originals fits.nets in
    subst (λ (l : List (Option Holder)). Holds d (map (with_originals d) (take (i + 1) bound)) l) (sym whole)
    (subst (λ (bs : List Bound). Holds d bs new) (sym more)
    (record {
      as_many = many ∙ c.bound.invariant.as_many;
      each = λ net within. c.hold_originals.ensures.each net
          ∙ ap (λ (l : List (Option Holder)). or_next (get_or l net None) (holder_in b.variable (map (slice_index originals) c.as_slice-bits.result.now) net)) seen
          ∙ ap (λ (l : List ℕ). or_next (get_or old net None) (holder_in b.variable l net)) bits
          ∙ ap (λ (o : Option Holder). or_next o (holder_in b.variable (map (original_of d) b.bits) net)) (c.bound.invariant.each net within)
          ∙ sym (holder_more before (with_originals d b) net);
    }))
