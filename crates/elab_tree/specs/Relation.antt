-- Elaboration as a relation by cases: what the items of a module at the end of a path lead to (IEEE 1364-2005,
-- clause 12).
use Rattle.std.specs.Prelude.{◌≡◌, ℕ, ◌+◌, ◌<◌, ◌≤◌, true, false, Some, None, List, [], ◌∷◌, ◌++◌, length, Ok, Err}
use Rattle.netlist_grammar.specs.declared.tree.Declare.{Declare}
use Rattle.netlist_grammar.specs.declared.tree.Expr.{Expr}
use Rattle.netlist_grammar.specs.declared.tree.GateItem.{GateItem}
use Rattle.netlist_grammar.specs.declared.tree.InstanceItem.{InstanceItem}
use Rattle.netlist_grammar.specs.declared.tree.Item.{Item}
use Rattle.netlist_grammar.specs.declared.tree.Item.TheVariants as item
use Rattle.design_circuit.specs.Job.{primitive_of}
use Rattle.elab_nets.specs.declared.fault.ElabErr.{ElabErr}
use Rattle.elab_nets.specs.declared.fault.ElabErr.TheVariants.{NoModule, SelfInstance, TooDeep}
use Rattle.elab_nets.specs.Outcome.{Outcome}
use Rattle.elab_names.specs.Scope.{Scope}
use Rattle.elab_names.specs.Here.{Here, here_of}
use Rattle.elab_prims.specs.declared.definitions.Definition.TheVariants as definition
use Rattle.elab_prims.specs.Definitions.{definition_of}
use Rattle.elab_gates.specs.Gates.{gate_item}
use Rattle.elab_gates.specs.Assigns.{assign_item, value_item}
use Rattle.elab_gates.specs.Primitives.{udp_item}
use Rattle.elab_joins.specs.Joined.{joined}
use Rattle.elab_tree.specs.Library.{Library, module_of}
use Rattle.elab_tree.specs.Elaborate.{is_on, items_with, instance_item}

-- What an item other than an instance leads to.
pub data Makes : Item → Here → Outcome Here → Type 0 where
  declare : {d : Declare} {here : Here} → Makes (item.Declare d) here (value_item d here)
  gate : {g : GateItem} {here : Here} → Makes (item.Gate g) here (gate_item g here)
  assign : {left right : Expr} {here : Here} → Makes (item.Assign left right) here (assign_item left right here)

-- The name of an instance's definition is that of a primitive.
pub record NamesPrimitive (l : Library) (i : InstanceItem) (k : ℕ) : Type 0 where
  pub found : definition_of l.source i.definition.text ≡ Some (definition.Primitive k)

-- It is that of a module.
pub record NamesModule (l : Library) (i : InstanceItem) (k : ℕ) : Type 0 where
  pub found : definition_of l.source i.definition.text ≡ Some (definition.Module k)

-- A module that isn't on the path, which has fewer than 32 modules.
pub record MayEnter (l : Library) (path : List ℕ) (i : InstanceItem) (k : ℕ) : Type 0 where
  pub names : NamesModule l i k
  pub off : is_on path k ≡ false
  pub room : length path < 32

mutual
  -- Items come in text order; the first refusal counts.
  pub data Elaborated (l : Library) : List ℕ → List Item → Here → Outcome Here → Type 0 where
    none : {path : List ℕ} {here : Here} → Elaborated l path [] here (Ok here)
    next : {path : List ℕ} {i : Item} {is : List Item} {here made : Here} {r : Outcome Here}
        → Makes i here (Ok made) → Elaborated l path is made r → Elaborated l path (i ∷ is) here r
    refused : {path : List ℕ} {i : Item} {is : List Item} {here : Here} {e : ElabErr}
        → Makes i here (Err e) → Elaborated l path (i ∷ is) here (Err e)
    instance : {path : List ℕ} {i : InstanceItem} {is : List Item} {here made : Here} {r : Outcome Here}
        → Instantiated l path i here (Ok made) → Elaborated l path is made r
        → Elaborated l path (item.Instance i ∷ is) here r
    instance_refused : {path : List ℕ} {i : InstanceItem} {is : List Item} {here : Here} {e : ElabErr}
        → Instantiated l path i here (Err e) → Elaborated l path (item.Instance i ∷ is) here (Err e)

  -- An instance of a primitive; or one of a module that may be entered: it is joined, and then its items come.
  pub data Instantiated (l : Library) : List ℕ → InstanceItem → Here → Outcome Here → Type 0 where
    no_module : {path : List ℕ} {i : InstanceItem} {here : Here}
        → definition_of l.source i.definition.text ≡ None
        → Instantiated l path i here (Err (NoModule i.definition.text))
    primitive : {path : List ℕ} {i : InstanceItem} {here : Here} {k : ℕ}
        → NamesPrimitive l i k → Instantiated l path i here (udp_item k (primitive_of l.tables k) i here)
    on_path : {path : List ℕ} {i : InstanceItem} {here : Here} {k : ℕ}
        → NamesModule l i k → is_on path k ≡ true → Instantiated l path i here (Err (SelfInstance i.definition.text))
    too_deep : {path : List ℕ} {i : InstanceItem} {here : Here} {k : ℕ}
        → NamesModule l i k → is_on path k ≡ false → 32 ≤ length path
        → Instantiated l path i here (Err (TooDeep i.definition.text))
    not_joined : {path : List ℕ} {i : InstanceItem} {here : Here} {k : ℕ} {e : ElabErr}
        → MayEnter l path i k → joined i (module_of l k) here ≡ Err e → Instantiated l path i here (Err e)
    whole : {path : List ℕ} {i : InstanceItem} {here : Here} {k : ℕ} {outer : Scope} {inner done : Here}
        → MayEnter l path i k → joined i (module_of l k) here ≡ Ok (outer, inner)
        → Elaborated l (path ++ k ∷ []) (module_of l k).items inner (Ok done)
        → Instantiated l path i here (Ok (here_of outer done.state))
    refused_inside : {path : List ℕ} {i : InstanceItem} {here : Here} {k : ℕ} {outer : Scope} {inner : Here}
        {e : ElabErr} → MayEnter l path i k → joined i (module_of l k) here ≡ Ok (outer, inner)
        → Elaborated l (path ++ k ∷ []) (module_of l k).items inner (Err e) → Instantiated l path i here (Err e)

-- A path has room for 32 modules.
pub record HasRoom (path : List ℕ) (room : ℕ) : Type 0 where
  pub sum : length path + room ≡ 32

-- The items of a module lead to one outcome, and `items_with` computes it.
pub record IsExact (l : Library) (path : List ℕ) (room : ℕ) (is : List Item) (here : Here) : Type 0 where
  pub leads : Elaborated l path is here (items_with (instance_item l path room) is here)
  pub only : (r : Outcome Here) → Elaborated l path is here r → items_with (instance_item l path room) is here ≡ r
