-- The items of a module keep what elaboration needs.
use Rattle.std.proofs.Common.{◌≡◌, ℕ, zero, suc, ◌<◌, ltb, Bool, true, false, List, [], ◌∷◌, ◌++◌, length, position, refl, sym, subst, Option, Some, None, IfOk, Ok, bytes_eq, ltb-true, ltb-false}
use Rattle.std.specs.List.{All, AllByRecursion}
use Rattle.std.specs.Option.{option_or, option_map}
use Rattle.std.proofs.lemmas.List.{get_or_past}
use Rattle.std.proofs.lemmas.List.Quantifiers.{position-Some}
use Rattle.netlist_grammar.specs.Whole.{IsItem, IsInstance, IsWhole}
use Rattle.netlist_grammar.specs.declared.tree.InstanceItem.{InstanceItem}
use Rattle.netlist_grammar.specs.declared.tree.Item.{Item}
use Rattle.netlist_grammar.specs.declared.tree.Item.TheVariants as item
use Rattle.netlist_grammar.specs.declared.tree.Module.{Module}
use Rattle.netlist_grammar.specs.declared.tree.Primitive.{Primitive}
use Rattle.netlist_grammar.specs.declared.tree.Source.{Source}
use Rattle.elab_nets.specs.Outcome.{Outcome}
use Rattle.elab_names.specs.Here.{Here}
use Rattle.elab_prims.specs.declared.definitions.Definition.{Definition}
use Rattle.elab_prims.specs.declared.definitions.Definition.TheVariants as definition
use Rattle.elab_prims.specs.Definitions.{definition_of}
use Rattle.elab_joins.specs.Joined.{joined}
use Rattle.elab_tree.specs.Library.{Library, module_of, no_module}
use Rattle.elab_tree.specs.Elaborate.{entered, Body, filled, instance_of, instance_with, instance_item, item_with, items_with, body}
use Rattle.elab_tree.specs.Sound.{Within, Under, StandsWell, Keeps}
use Rattle.elab_tree.proofs.Steps.{also, any_ok, weaker, still, Stays, stays_same, stays_under}
use Rattle.elab_tree.proofs.Lists.{all_by}
use Rattle.elab_tree.proofs.Terminals.{assign_stays, value_stays}
use Rattle.elab_tree.proofs.Gates.{gate_stays}
use Rattle.elab_tree.proofs.Tables.{TablesFit}
use Rattle.elab_tree.proofs.Primitives.{udp_stays}
use Rattle.elab_tree.proofs.Joining.{joined_stays, filled_by}

-- ---- definitions

-- The tree is that of a text, and each of its primitives has its table.
pub record LibraryFits (l : Library) : Type 0 where
  pub whole : IsWhole l.source
  pub tables : TablesFit (length l.source.primitives) l.tables

primitive_by : (a b : Option ℕ) (k : ℕ) → option_or (option_map definition.Module a) (option_map definition.Primitive b) ≡ Some (definition.Primitive k) → b ≡ Some k
primitive_by (Some j) b k is = absurd cc
primitive_by None (Some j) k is = cc
primitive_by None None k is = absurd cc

primitive_within : (ps : List Primitive) (name : List ℕ) (d : Primitive) (k : ℕ) → position (λ (p : Primitive). bytes_eq name p.name.text) ps ≡ Some k → k < length ps
primitive_within ps name d k is = (position-Some (λ (p : Primitive). bytes_eq name p.name.text) ps k d is).0

no_primitive_at : (name : List ℕ) (k : ℕ) → position (λ (p : Primitive). bytes_eq name p.name.text) [] ≡ Some k → ⊥
no_primitive_at name k is = absurd cc

-- A primitive that a name defines is one of the source.
pub primitive_there : (s : Source) (name : List ℕ) (k : ℕ) → definition_of s name ≡ Some (definition.Primitive k) → k < length s.primitives
primitive_there s name k is = by s.primitives (primitive_by _ _ k is)
  where
    by : (ps : List Primitive) → position (λ (p : Primitive). bytes_eq name p.name.text) ps ≡ Some k → k < length ps
    by [] at = absurd (no_primitive_at name k at)
    by (p ∷ ps) at = primitive_within (p ∷ ps) name p k at

-- The items of each module are those of a text.
pub module_items : (l : Library) (k : ℕ) → IsWhole l.source → AllByRecursion IsItem (module_of l k).items
module_items l k whole = by (ltb k (length l.source.modules)) refl
  where
    by : (b : Bool) → ltb k (length l.source.modules) ≡ b → AllByRecursion IsItem (module_of l k).items
    by true at = all_by IsItem _ (whole.modules k no_module (ltb-true _ _ at)).items
    by false at = subst (λ (m : Module). AllByRecursion IsItem m.items) (sym (get_or_past l.source.modules k no_module (ltb-false _ _ at))) tt

-- ---- instances

-- what elaborates the items of a module keeps what it needs
pub record BodyStays (l : Library) (b : Body) : Type 0 where
  pub stays : (path : List ℕ) (is : List Item) (here : Here) → StandsWell l.tables here → AllByRecursion IsItem is → IfOk (b path is here) (Stays l.tables Under here)

filled_stays : (l : Library) (path : List ℕ) (b : Body) (k : ℕ) (i : InstanceItem) (here : Here) → LibraryFits l → BodyStays l b → StandsWell l.tables here → IsInstance i → IfOk (filled l path b k i here) (Stays l.tables Under here)
filled_stays l path b k i here fits keeps well is =
    also _ _ (joined i (module_of l k) here) _ (joined_stays l.tables i (module_of l k) here well is (module_items l k fits.whole)) (λ j at.
    also _ _ (b (path ++ k ∷ []) (module_of l k).items j.1) _ (keeps.stays (path ++ k ∷ []) (module_of l k).items j.1 at.inner (module_items l k fits.whole)) (λ done stays.
    filled_by l.tables here j done at stays))

within_is_under : (l : Library) (here : Here) (r : Outcome Here) → IfOk r (Stays l.tables Within here) → IfOk r (Stays l.tables Under here)
within_is_under l here r h = weaker _ _ r (λ (next : Here) (s : Stays l.tables Within here next). stays_under l.tables here next s) h

instance_by : (l : Library) (path : List ℕ) (room : ℕ) (b : Body) (o : Option Definition) (i : InstanceItem) (here : Here) → LibraryFits l → BodyStays l b → definition_of l.source i.definition.text ≡ o → StandsWell l.tables here
    → IsInstance i → IfOk (instance_of l path room b o i here) (Stays l.tables Under here)
instance_by l path room b None i here fits keeps at well is = tt
instance_by l path room b (Some (definition.Primitive k)) i here fits keeps at well is =
    within_is_under l here _ (udp_stays l.tables (length l.source.primitives) k i here fits.tables (primitive_there l.source i.definition.text k at) well is)
instance_by l path room b (Some (definition.Module k)) i here fits keeps at well is =
    also (λ _. Unit {0}) _ (entered path room i.definition.text k) _ (any_ok _) (λ n _. filled_stays l path b n i here fits keeps well is)

instance_stays : (l : Library) (path : List ℕ) (room : ℕ) (b : Body) (i : InstanceItem) (here : Here) → LibraryFits l → BodyStays l b → StandsWell l.tables here → IsInstance i
    → IfOk (instance_with l path room b i here) (Stays l.tables Under here)
instance_stays l path room b i here fits keeps well is = instance_by l path room b (definition_of l.source i.definition.text) i here fits keeps refl well is

-- ---- items

-- what elaborates an instance keeps what it needs
pub record InstanceStays (l : Library) (instance : InstanceItem → Here → Outcome Here) : Type 0 where
  pub stays : (i : InstanceItem) (here : Here) → StandsWell l.tables here → IsInstance i → IfOk (instance i here) (Stays l.tables Under here)

item_stays : (l : Library) (instance : InstanceItem → Here → Outcome Here) → InstanceStays l instance → (i : Item) (here : Here) → StandsWell l.tables here → IsItem i → IfOk (item_with instance i here) (Stays l.tables Under here)
item_stays l instance keeps (item.Declare d) here well is = within_is_under l here _ (value_stays l.tables d here well is)
item_stays l instance keeps (item.Gate g) here well is = within_is_under l here _ (gate_stays l.tables g here well is)
item_stays l instance keeps (item.Assign left right) here well is = within_is_under l here _ (assign_stays l.tables left right here well is.0 is.1)
item_stays l instance keeps (item.Instance i) here well is = keeps.stays i here well is

items_stay : (l : Library) (instance : InstanceItem → Here → Outcome Here) → InstanceStays l instance → (is : List Item) (here : Here) → StandsWell l.tables here → AllByRecursion IsItem is
    → IfOk (items_with instance is here) (Stays l.tables Under here)
items_stay l instance keeps [] here well all = stays_same l.tables Under here well
items_stay l instance keeps (i ∷ is) here well all =
    also _ _ (item_with instance i here) _ (item_stays l instance keeps i here well all.0) (λ h stays. still l.tables Under here h stays _ (items_stay l instance keeps is h stays.well all.1))

pub body_stays : (l : Library) (room : ℕ) → LibraryFits l → BodyStays l (body l room)
unfolding body
body_stays l zero fits = record { stays = λ path is here well all. stays_same l.tables Under here well }
body_stays l (suc room) fits = more (body_stays l room fits)
  where
    more : BodyStays l (body l room) → BodyStays l (body l (suc room))
    more keeps = record { stays = λ path is here well all. items_stay l (instance_with l path room (body l room)) (record { stays = λ i h stands one. instance_stays l path room (body l room) i h fits keeps stands one }) is here well all }

-- The items of a module leave elaboration well, and keep what was there.
pub items_well : (l : Library) (path : List ℕ) (room : ℕ) (is : List Item) (here done : Here) → LibraryFits l → All IsItem is → StandsWell l.tables here → items_with (instance_item l path room) is here ≡ Ok done
    → StandsWell l.tables done × Keeps Under here done
items_well l path room is here done fits all well at =
    let one : InstanceStays l (instance_with l path room (body l room)) = record { stays = λ i h stands is_one. instance_stays l path room (body l room) i h fits (body_stays l room fits) stands is_one } in
    let stays = subst (λ (r : Outcome Here). IfOk r (Stays l.tables Under here)) at (items_stay l (instance_with l path room (body l room)) one is here well (all_by IsItem is all)) in
    (stays.well, stays.keeps)
