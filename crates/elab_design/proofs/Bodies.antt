-- The items of a module, as the code meets them.
use Rattle.std.proofs.Common.{◌≡◌, ◌∙◌, ℕ, zero, suc, ◌-◌, ◌<◌, Bool, true, false, true≢false, Option, Some, None, is_some, List, [], ◌∷◌, refl, sym, arith, sub-one, Ok, Err, if◌then◌else◌}
use Rattle.netlist_grammar.specs.declared.tree.Item.{Item}
use Rattle.netlist_grammar.specs.declared.tree.Item.TheVariants as item
use Rattle.netlist_grammar.specs.declared.tree.InstanceItem.{InstanceItem}
use Rattle.netlist_grammar.specs.declared.tree.Word.{Word}
use Rattle.netlist_grammar.specs.declared.tree.Expr.{Expr}
use Rattle.elab_names.specs.Here.{Here}
use Rattle.elab_names.specs.Outline.{left_of}
use Rattle.elab_gates.specs.Gates.{gate_item}
use Rattle.elab_gates.specs.Assigns.{assign_item, value_item, value_of}
use Rattle.elab_tree.specs.Library.{Library}
use Rattle.elab_nets.specs.Outcome.{Outcome, after}
use Rattle.elab_prims.specs.Definitions.{definition_of}
use Rattle.elab_tree.specs.Elaborate.{body, items_with, instance_item, top_of, whole, design_of}

pub body_more : (l : Library) (room : ℕ) (path : List ℕ) (is : List Item) (here : Here) → body l (suc room) path is here ≡ items_with (instance_item l path room) is here
unfolding body
body_more l room path is here = refl

next_same : (r : Outcome Here) (f g : Here → Outcome Here) → ((h : Here) → f h ≡ g h) → after r f ≡ after r g
next_same (Ok h) f g same = same h
next_same (Err e) f g same = refl

pub body_is : (l : Library) (room : ℕ) (path : List ℕ) (is : List Item) (here : Here) → 0 < room → body l room path is here ≡ items_with (instance_item l path (room - 1)) is here
unfolding body
body_is l zero path is here some = absurd (omega arith)
body_is l (suc room) path is here some = rw sub-one refl

no_value : (w : Word) (v : Option Expr) (here : Here) → is_some v ≡ false → value_of w v here ≡ Ok here
no_value w None here is = refl
no_value w (Some e) here is = absurd (true≢false is)

left_with : (instance : InstanceItem → Here → Outcome Here) (is : List Item) (here : Here) → items_with instance (left_of is) here ≡ items_with instance is here
left_with instance [] here = refl
left_with instance (item.Declare d ∷ is) here = by (is_some d.value) refl (λ (h : Here). left_with instance is h)
  where
    by : (b : Bool) → is_some d.value ≡ b → ((h : Here) → items_with instance (left_of is) h ≡ items_with instance is h)
        → items_with instance (if b then item.Declare d ∷ left_of is else left_of is) here ≡ items_with instance (item.Declare d ∷ is) here
    by true some rest = next_same (value_item d here) _ _ rest
    by false none rest = rw (no_value d.name d.value here none) (rest here)
left_with instance (item.Gate g ∷ is) here = next_same (gate_item g here) _ _ (λ (h : Here). left_with instance is h)
left_with instance (item.Assign a b ∷ is) here = next_same (assign_item a b here) _ _ (λ (h : Here). left_with instance is h)
left_with instance (item.Instance i ∷ is) here = next_same (instance i here) _ _ (λ (h : Here). left_with instance is h)

-- A declaration without a value has nothing left to do.
pub body_left : (l : Library) (room : ℕ) (path : List ℕ) (is : List Item) (here : Here) → 0 < room → body l room path is here ≡ items_with (instance_item l path (room - 1)) (left_of is) here
body_left l room path is here some = body_is l room path is here some ∙ sym (left_with (instance_item l path (room - 1)) is here)

pub design_is : (l : Library) (top : List ℕ) → design_of l top ≡ after (top_of (definition_of l.source top) top) (whole l)
unfolding design_of
design_is l top = refl
