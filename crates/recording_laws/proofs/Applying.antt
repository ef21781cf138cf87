-- How items change what is read: the times of the moments so far, and the changes of each code.
use Rattle.std.proofs.Common.{◌≡◌, ℕ, ◌<◌, List, [], ◌∷◌, ◌++◌, length}
use Rattle.recording_reader.specs.Changes.{Body, changed, last_time, with_time}
use Rattle.recording_laws.specs.Body.{BodyItem}
use Rattle.recording_laws.specs.Body.BodyItem.{at, takes}
use Rattle.recording_laws.proofs.Coding.{IsFoundAt}

pub data Applies : Body → List BodyItem → Body → Type 0 where
  none : {b : Body} → Applies b [] b
  -- the first time, a time that is the last one, and a later one
  first : {b to : Body} {time : ℕ} {items : List BodyItem} → length b.times ≡ 0 → Applies (with_time b time) items to → Applies b (at time ∷ items) to
  same : {b to : Body} {time : ℕ} {items : List BodyItem} → 0 < length b.times → time ≡ last_time b → Applies b items to → Applies b (at time ∷ items) to
  later : {b to : Body} {time : ℕ} {items : List BodyItem} → 0 < length b.times → last_time b < time → Applies (with_time b time) items to → Applies b (at time ∷ items) to
  change : {b to : Body} {code digits : List ℕ} {number : ℕ} {items : List BodyItem} → IsFoundAt b.declared.codes code number → Applies (changed b number digits) items to
      → Applies b (takes code digits ∷ items) to

-- items after others
pub applies_more : {b mid to : Body} {these those : List BodyItem} → Applies b these mid → Applies mid those to → Applies b (these ++ those) to
applies_more Applies.none rest = rest
applies_more (Applies.first empty these) rest = Applies.first empty (applies_more these rest)
applies_more (Applies.same some is these) rest = Applies.same some is (applies_more these rest)
applies_more (Applies.later some less these) rest = Applies.later some less (applies_more these rest)
applies_more (Applies.change found these) rest = Applies.change found (applies_more these rest)
