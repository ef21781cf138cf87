-- A text by its number.
use Rattle.std.proofs.Common.{◌≡◌, ◌∙◌, ℕ, List, ◌∷◌, length, arith, ap, get_or}
use Rattle.recording_changes.proofs.Cuts.{count_is, Bounds, bounds_are, text_at}
use Rattle.recording_changes.proofs.texts.Texts.get.Goals as goal

pub start_of-start-requires : goal.start_of-start-requires
start_of-start-requires c = omega (arith, count_is _ _ _ c.self.view_is, c.requires, c.as_slice.ensures.len, c.self.inside.ends.ok.0)

pub index-end-requires : goal.index-end-requires
index-end-requires c = omega (arith, count_is _ _ _ c.self.view_is, c.requires, c.self.inside.ends.ok.0)

starts_at : (c : goal.After-as_slice-2) → c.start_of-start.result ≡ get_or (0 ∷ c.self.inside.ends.items) c.args.number 0
starts_at c = c.start_of-start.ensures ∙ ap (λ (es : List ℕ). get_or (0 ∷ es) c.args.number 0) c.as_slice.ensures.value

bounds : (c : goal.After-as_slice-2) → Bounds (length c.self.inside.bytes.items) c.start_of-start.result c.index-end.result.now
bounds c = bounds_are _ _ _ _ _ _ c.self.invariant c.self.view_is c.requires (starts_at c) c.index-end.ensures

pub part-requires-clause-order : goal.part-requires-clause-order
part-requires-clause-order c = (bounds c).order

pub part-requires-clause-within : goal.part-requires-clause-within
part-requires-clause-within c = rw c.as_slice-2.ensures.value (bounds c).within

pub returns : goal.returns
returns c = c.part.ensures ∙ rw c.as_slice-2.ensures.value (text_at _ _ _ _ _ _ c.self.view_is c.requires (c.start_of-start.ensures ∙ ap (λ (es : List ℕ). get_or (0 ∷ es) c.args.number 0) c.as_slice.ensures.value) c.index-end.ensures)
