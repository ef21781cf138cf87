-- The relation and the function say the same.
use Rattle.std.proofs.Common.{◌≡◌, ℕ, zero, suc, ◌<◌, ◌≤◌, ◌==◌, Bool, true, false, true≢false, Option, Some, None, List, [], ◌∷◌, ◌++◌, length, refl, sym, ◌∙◌, subst, arith, Ok, Err, length-append, if◌then◌else◌, eqb-true, eq-eqb}
use Rattle.netlist_grammar.specs.declared.tree.InstanceItem.{InstanceItem}
use Rattle.netlist_grammar.specs.declared.tree.Item.{Item}
use Rattle.netlist_grammar.specs.declared.tree.Item.TheVariants as item
use Rattle.elab_nets.specs.declared.fault.ElabErr.TheVariants.{SelfInstance, TooDeep}
use Rattle.elab_nets.specs.Outcome.{Outcome, after}
use Rattle.elab_nets.specs.State.{finished}
use Rattle.elab_names.specs.Scope.{Scope}
use Rattle.elab_names.specs.Here.{Here, here_of}
use Rattle.elab_names.specs.Names.{opened}
use Rattle.elab_prims.specs.declared.definitions.Definition.{Definition}
use Rattle.elab_prims.specs.declared.definitions.Definition.TheVariants as definition
use Rattle.elab_prims.specs.Definitions.{definition_of}
use Rattle.elab_joins.specs.Joined.{joined}
use Rattle.elab_tree.specs.Library.{Library, module_of}
use Rattle.elab_tree.specs.Elaborate.{is_on, entered, filled, instance_of, item_with, items_with, body, instance_item, at_top, whole as whole_of}
use Rattle.elab_tree.specs.Relation.{Makes, NamesModule, MayEnter, Elaborated, Instantiated, HasRoom, IsExact}
use Rattle.elab_tree.specs.Relation.Makes.{declare, gate, assign}
use Rattle.elab_tree.specs.Relation.Elaborated.{none, next, refused, instance, instance_refused}
use Rattle.elab_tree.specs.Relation.Instantiated.{no_module, primitive, on_path, too_deep, not_joined, whole, refused_inside}

-- The items of a module, where its path has room.
pub body_more : (l : Library) (room : ℕ) (path : List ℕ) (is : List Item) (here : Here) → body l (suc room) path is here ≡ items_with (instance_item l path room) is here
unfolding body
body_more l room path is here = refl

suc_not_zero : (room : ℕ) → (suc room == 0) ≡ false
suc_not_zero room = by (suc room == 0) refl
  where
    by : (b : Bool) → (suc room == 0) ≡ b → (suc room == 0) ≡ false
    by true is = absurd (let none = eqb-true (suc room) 0 is in omega (arith, none))
    by false is = is

some_room : (room : ℕ) → (room == 0) ≡ false → (path : List ℕ) → HasRoom path room → length path < 32
some_room zero at path h = absurd (true≢false (sym (eq-eqb 0 0 refl) ∙ at))
some_room (suc room) at path h = let sum = h.sum in omega (arith, sum)

one_less : (path : List ℕ) (room k : ℕ) → HasRoom path (suc room) → HasRoom (path ++ k ∷ []) room
one_less path room k h = let more = length-append path (k ∷ []) in let sum = h.sum in record { sum = omega (arith, more, sum) }

no_room : (path : List ℕ) → HasRoom path zero → length path < 32 → ⊥
no_room path h less = let sum = h.sum in omega (arith, sum, less)

zero_is : (path : List ℕ) (room : ℕ) → HasRoom path room → 32 ≤ length path → (room == 0) ≡ true
zero_is path room h deep = let sum = h.sum in let none : room ≡ 0 = omega (arith, sum, deep) in rw none refl

makes_is : (one : InstanceItem → Here → Outcome Here) {i : Item} {here : Here} {r : Outcome Here} → Makes i here r → item_with one i here ≡ r
makes_is one declare = refl
makes_is one gate = refl
makes_is one assign = refl

module _ (l : Library) where
  mutual
    -- What the relation says, the function answers.
    items_run : {path : List ℕ} {is : List Item} {here : Here} {r : Outcome Here} (room : ℕ) → HasRoom path room → Elaborated l path is here r → items_with (instance_item l path room) is here ≡ r
    items_run room h none = refl
    items_run {path = path} room h (next one rest) = let is = makes_is (instance_item l path room) one in rw is (items_run room h rest)
    items_run {path = path} room h (refused one) = let is = makes_is (instance_item l path room) one in rw is refl
    items_run room h (instance one rest) = let is = instance_run room h one in rw is (items_run room h rest)
    items_run room h (instance_refused one) = let is = instance_run room h one in rw is refl

    instance_run : {path : List ℕ} {i : InstanceItem} {here : Here} {r : Outcome Here} (room : ℕ) → HasRoom path room → Instantiated l path i here r → instance_item l path room i here ≡ r
    instance_run room h (no_module is) = rw is refl
    instance_run room h (primitive is) = let found = is.found in rw found refl
    instance_run room h (on_path is on) = let found = is.found in rw (found, on) refl
    instance_run {path = path} room h (too_deep is off deep) = let found = is.found in let at = zero_is path room h deep in rw (found, off, at) refl
    instance_run {path = path} zero h (not_joined may not) = absurd (no_room path h may.room)
    instance_run {path = path} zero h (whole may at inside) = absurd (no_room path h may.room)
    instance_run {path = path} zero h (refused_inside may at inside) = absurd (no_room path h may.room)
    instance_run (suc room) h (not_joined may not) = let found = may.names.found in let off = may.off in let more = suc_not_zero room in rw (found, off, more, not) refl
    instance_run {path = path} (suc room) h (whole {k = k} {inner = inner} may at inside) =
        let found = may.names.found in
        let off = may.off in
        let more = suc_not_zero room in
        let all = body_more l room (path ++ k ∷ []) (module_of l k).items inner ∙ items_run room (one_less path room k h) inside in
        rw (found, off, more, at, all) refl
    instance_run {path = path} (suc room) h (refused_inside {k = k} {inner = inner} may at inside) =
        let found = may.names.found in
        let off = may.off in
        let more = suc_not_zero room in
        let all = body_more l room (path ++ k ∷ []) (module_of l k).items inner ∙ items_run room (one_less path room k h) inside in
        rw (found, off, more, at, all) refl

  -- ---- the other way: the relation always leads somewhere, and so to what the function answers.

  -- what the items behind one lead to
  abbrev Rest : ℕ → List ℕ → List Item → Type 0
  Rest room path is = (made : Here) → Elaborated l path is made (items_with (instance_item l path room) is made)

  made_leads : (room : ℕ) (path : List ℕ) (i : Item) (is : List Item) (here : Here) → (r : Outcome Here) → Makes i here r → Rest room path is
      → Elaborated l path (i ∷ is) here (after r (items_with (instance_item l path room) is))
  made_leads room path i is here (Ok made) one rest = next one (rest made)
  made_leads room path i is here (Err e) one rest = refused one

  instance_then : (room : ℕ) (path : List ℕ) (i : InstanceItem) (is : List Item) (here : Here) → (r : Outcome Here) → Instantiated l path i here r → Rest room path is
      → Elaborated l path (item.Instance i ∷ is) here (after r (items_with (instance_item l path room) is))
  instance_then room path i is here (Ok made) one rest = instance one (rest made)
  instance_then room path i is here (Err e) one rest = instance_refused one

  items_lead : (room : ℕ) (path : List ℕ) → ((i : InstanceItem) (here : Here) → Instantiated l path i here (instance_item l path room i here))
      → (is : List Item) (here : Here) → Elaborated l path is here (items_with (instance_item l path room) is here)
  items_lead room path lead [] here = none
  items_lead room path lead (item.Declare d ∷ is) here = made_leads room path (item.Declare d) is here _ declare (λ made. items_lead room path lead is made)
  items_lead room path lead (item.Gate g ∷ is) here = made_leads room path (item.Gate g) is here _ gate (λ made. items_lead room path lead is made)
  items_lead room path lead (item.Assign left right ∷ is) here = made_leads room path (item.Assign left right) is here _ assign (λ made. items_lead room path lead is made)
  items_lead room path lead (item.Instance i ∷ is) here = instance_then room path i is here _ (lead i here) (λ made. items_lead room path lead is made)

  -- the items of a module that may be entered
  abbrev Inside : ℕ → List ℕ → ℕ → Type 0
  Inside room path k = (inner : Here) → length path < 32 → Elaborated l (path ++ k ∷ []) (module_of l k).items inner (body l room (path ++ k ∷ []) (module_of l k).items inner)

  filled_leads : (room : ℕ) (path : List ℕ) (i : InstanceItem) (here : Here) (k : ℕ) → MayEnter l path i k → Inside room path k → Instantiated l path i here (filled l path (body l room) k i here)
  filled_leads room path i here k may inside = by_joined (joined i (module_of l k) here) refl
    where
      by_done : (outer : Scope) (inner : Here) → joined i (module_of l k) here ≡ Ok (outer, inner) → (r : Outcome Here) → Elaborated l (path ++ k ∷ []) (module_of l k).items inner r
          → Instantiated l path i here (after r (λ (done : Here). Ok (here_of outer done.state)))
      by_done outer inner at (Ok done) e = whole may at e
      by_done outer inner at (Err x) e = refused_inside may at e

      by_joined : (r : Outcome (Scope × Here)) → joined i (module_of l k) here ≡ r
          → Instantiated l path i here (after r (λ (j : Scope × Here). after (body l room (path ++ k ∷ []) (module_of l k).items j.1) (λ (done : Here). Ok (here_of j.0 done.state))))
      by_joined (Ok j) at = by_done j.0 j.1 at _ (inside j.1 may.room)
      by_joined (Err x) at = not_joined may at

  module_leads : (room : ℕ) (path : List ℕ) (i : InstanceItem) (here : Here) (k : ℕ) → HasRoom path room → NamesModule l i k → Inside room path k
      → Instantiated l path i here (after (entered path room i.definition.text k) (λ (k : ℕ). filled l path (body l room) k i here))
  module_leads room path i here k h names inside = by_path (is_on path k) refl
    where
      by_room : is_on path k ≡ false → (b : Bool) → (room == 0) ≡ b → Instantiated l path i here (after (if b then Err (TooDeep i.definition.text) else Ok k) (λ (k : ℕ). filled l path (body l room) k i here))
      by_room off true at = too_deep names off (let none : room ≡ 0 = eqb-true room 0 at in let sum = h.sum in omega (arith, sum, none))
      by_room off false at = filled_leads room path i here k (record { names = names; off = off; room = some_room room at path h }) inside

      by_path : (b : Bool) → is_on path k ≡ b
          → Instantiated l path i here (after (if b then Err (SelfInstance i.definition.text) else (if room == 0 then Err (TooDeep i.definition.text) else Ok k)) (λ (k : ℕ). filled l path (body l room) k i here))
      by_path true on = on_path names on
      by_path false off = by_room off (room == 0) refl

  definition_leads : (room : ℕ) (path : List ℕ) (i : InstanceItem) (here : Here) → HasRoom path room → ((k : ℕ) → Inside room path k) → (o : Option Definition) → definition_of l.source i.definition.text ≡ o
      → Instantiated l path i here (instance_of l path room (body l room) o i here)
  definition_leads room path i here h inside None is = no_module is
  definition_leads room path i here h inside (Some (definition.Primitive k)) is = primitive (record { found = is })
  definition_leads room path i here h inside (Some (definition.Module k)) is = module_leads room path i here k h (record { found = is }) (inside k)

  instance_leads : (room : ℕ) (path : List ℕ) → HasRoom path room → (i : InstanceItem) (here : Here) → Instantiated l path i here (instance_item l path room i here)
  instance_leads zero path h i here = definition_leads 0 path i here h (λ k inner less. absurd (no_room path h less)) (definition_of l.source i.definition.text) refl
  instance_leads (suc room) path h i here =
      definition_leads (suc room) path i here h
      (λ k inner less. subst (Elaborated l (path ++ k ∷ []) (module_of l k).items inner) (sym (body_more l room (path ++ k ∷ []) (module_of l k).items inner))
      (items_lead room (path ++ k ∷ []) (instance_leads room (path ++ k ∷ []) (one_less path room k h)) (module_of l k).items inner))
      (definition_of l.source i.definition.text) refl

  -- The function answers exactly what the relation says.
  pub items_are : (path : List ℕ) (room : ℕ) → HasRoom path room → (is : List Item) (here : Here) → Elaborated l path is here (items_with (instance_item l path room) is here)
  items_are path room h is here = items_lead room path (instance_leads room path h) is here

pub items_exact : (l : Library) (path : List ℕ) (room : ℕ) (is : List Item) (here : Here) → HasRoom path room → IsExact l path room is here
items_exact l path room is here h = record { leads = items_are l path room h is here; only = λ r e. items_run l room h e }

-- What the items of the top lead to is the design's.
pub top_exact : (l : Library) (k : ℕ) (here : Here) (r : Outcome Here) → opened (module_of l k).ports (module_of l k).items at_top ≡ Ok here → Elaborated l (k ∷ []) (module_of l k).items here r
    → whole_of l k ≡ after r (λ (done : Here). Ok (finished l.tables done.state))
top_exact l k here r at e =
    let all = body_more l 31 (k ∷ []) (module_of l k).items here ∙ items_run l 31 (record { sum = refl }) e in
    rw (at, all) refl
