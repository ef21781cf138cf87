-- The nets that instances, items and the top make (IEEE 1364-2005, clause 12).
use Rattle.std.specs.Prelude.{ℕ, zero, suc, ◌==◌, Bool, Option, Some, None, List, [], ◌∷◌, ◌++◌, Ok, Err, if◌then◌else◌}
use Rattle.std.specs.List.{list_any}
use Rattle.netlist_grammar.specs.declared.tree.InstanceItem.{InstanceItem}
use Rattle.netlist_grammar.specs.declared.tree.Item.{Item}
use Rattle.netlist_grammar.specs.declared.tree.Item.TheVariants as item
use Rattle.design_circuit.specs.declared.design.Design.{Design}
use Rattle.design_circuit.specs.Job.{primitive_of}
use Rattle.elab_nets.specs.declared.fault.ElabErr.TheVariants.{NoModule, SelfInstance, TooDeep}
use Rattle.elab_nets.specs.Outcome.{Outcome, after}
use Rattle.elab_nets.specs.State.{nothing_made, finished}
use Rattle.elab_names.specs.Scope.{scope_of}
use Rattle.elab_names.specs.Here.{Here, here_of}
use Rattle.elab_names.specs.Names.{opened}
use Rattle.elab_prims.specs.declared.definitions.Definition.{Definition}
use Rattle.elab_prims.specs.declared.definitions.Definition.TheVariants as definition
use Rattle.elab_prims.specs.Definitions.{definition_of}
use Rattle.elab_gates.specs.Gates.{gate_item}
use Rattle.elab_gates.specs.Assigns.{assign_item, value_item}
use Rattle.elab_gates.specs.Primitives.{udp_item}
use Rattle.elab_joins.specs.Joined.{joined}
use Rattle.elab_tree.specs.Library.{Library, module_of}

-- ---- instances

-- A path is the positions of the modules that are open, the top first.
abbrev pub is_on : List ℕ → ℕ → Bool
is_on path k = list_any (λ (p : ℕ). p == k) path

-- A path has no module twice, and may have `room` modules more.
abbrev pub entered : List ℕ → ℕ → List ℕ → ℕ → Outcome ℕ
entered path room name k =
    if is_on path k then Err (SelfInstance name) else
    if room == 0 then Err (TooDeep name) else Ok k

-- what elaborates the items of a module that ends this path
abbrev pub Body : Type 0
Body = List ℕ → List Item → Here → Outcome Here

-- The module is joined, and then its items follow.
abbrev pub filled : Library → List ℕ → Body → ℕ → InstanceItem → Here → Outcome Here
filled l path body k i here =
    after (joined i (module_of l k) here) (λ j.
    after (body (path ++ k ∷ []) (module_of l k).items j.1) (λ done.
    Ok (here_of j.0 done.state)))

-- An instance of a module or of a primitive, by what its name defines.
abbrev pub instance_of : Library → List ℕ → ℕ → Body → Option Definition → InstanceItem → Here → Outcome Here
instance_of l path room body None i here = Err (NoModule i.definition.text)
instance_of l path room body (Some (definition.Primitive k)) i here =
    udp_item k (primitive_of l.tables k) i here
instance_of l path room body (Some (definition.Module k)) i here =
    after (entered path room i.definition.text k) (λ k. filled l path body k i here)

abbrev pub instance_with : Library → List ℕ → ℕ → Body → InstanceItem → Here → Outcome Here
instance_with l path room body i here =
    instance_of l path room body (definition_of l.source i.definition.text) i here

-- ---- items

-- Declarations were there before the other items; a value is assigned at its place.
abbrev pub item_with : (InstanceItem → Here → Outcome Here) → Item → Here → Outcome Here
item_with instance (item.Declare d) here = value_item d here
item_with instance (item.Gate g) here = gate_item g here
item_with instance (item.Assign left right) here = assign_item left right here
item_with instance (item.Instance i) here = instance i here

-- The items in text order.
abbrev pub items_with : (InstanceItem → Here → Outcome Here) → List Item → Here → Outcome Here
items_with instance [] here = Ok here
items_with instance (i ∷ is) here = after (item_with instance i here) (items_with instance is)

-- The items of a module, where the path before it may have `room` modules more.
unfoldable pub body : Library → ℕ → Body
body l zero path is here = Ok here
body l (suc room) path is here = items_with (instance_with l path room (body l room)) is here

-- An instance in a module whose path may have `room` modules more.
abbrev pub instance_item : Library → List ℕ → ℕ → InstanceItem → Here → Outcome Here
instance_item l path room i here = instance_with l path room (body l room) i here

-- ---- the top

-- Nothing is made, and no instance leads to the top.
abbrev pub at_top : Here
at_top = here_of (scope_of [] [] []) nothing_made

-- The top is opened like any module, and a path has at most 32 modules.
abbrev pub whole : Library → ℕ → Outcome Design
whole l k =
    after (opened (module_of l k).ports (module_of l k).items at_top) (λ here.
    after (body l 32 (k ∷ []) (module_of l k).items here) (λ done.
    Ok (finished l.tables done.state)))

-- The top is a module.
abbrev pub top_of : Option Definition → List ℕ → Outcome ℕ
top_of (Some (definition.Module k)) name = Ok k
top_of _ name = Err (NoModule name)

-- The design of the module of this name.
unfoldable pub design_of : Library → List ℕ → Outcome Design
design_of l top = after (top_of (definition_of l.source top) top) (whole l)
