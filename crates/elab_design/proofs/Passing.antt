-- An instance of a module that makes no net changes nothing but the names of instances, at any place where depth and path allow.
use Rattle.std.proofs.Common.{◌≡◌, ℕ, zero, suc, ◌+◌, ◌<◌, ◌≤◌, ◌^◌, ◌==◌, Bool, true, false, true≢false, not, nat_le, Option, Some, None, List, [], ◌∷◌, ◌++◌, length, slice_get, refl, sym, ◌∙◌, ap, arith, Ok, Err, if◌then◌else◌}
use Rattle.std.proofs.lemmas.Bool.{and_parts, not-true, ltb-true, eqb-true, leb-true, le-leb, lt-ltb}
use Rattle.std.proofs.lemmas.Option.{slice_get-get_or}
use Rattle.design_circuit.specs.declared.name.NamePart.{NamePart}
use Rattle.netlist_grammar.specs.declared.tree.Word.{Word}
use Rattle.netlist_grammar.specs.declared.tree.Connections.{Connections}
use Rattle.netlist_grammar.specs.declared.tree.Connections.TheVariants.{Positional, Named}
use Rattle.netlist_grammar.specs.declared.tree.InstanceItem.{InstanceItem}
use Rattle.netlist_grammar.specs.declared.tree.Item.{Item}
use Rattle.netlist_grammar.specs.declared.tree.Item.TheVariants as item
use Rattle.netlist_grammar.specs.declared.tree.Module.{Module}
use Rattle.netlist_grammar.specs.declared.tree.Source.{Source}
use Rattle.elab_nets.specs.declared.fault.ElabErr.{ElabErr}
use Rattle.elab_nets.specs.Outcome.{Outcome, or_refuse}
use Rattle.elab_nets.specs.State.{State, part_of}
use Rattle.elab_names.specs.declared.scope.Entry.{Entry}
use Rattle.elab_names.specs.Sets.{has}
use Rattle.elab_names.specs.Scope.{Scope, scope_of, named_instance}
use Rattle.elab_names.specs.Here.{Here, here_of}
use Rattle.elab_names.specs.Names.{all_declared}
use Rattle.elab_prims.specs.declared.definitions.Definition.{Definition}
use Rattle.elab_prims.specs.declared.definitions.Definition.TheVariants as definition
use Rattle.elab_prims.specs.Definitions.{definition_of}
use Rattle.elab_joins.specs.Joined.{inner_scope, joined}
use Rattle.elab_tree.specs.Library.{Library, module_of, no_module}
use Rattle.elab_tree.specs.Elaborate.{is_on, items_with, body, instance_item}
use Rattle.elab_design.proofs.Bodies.{body_more}
use Rattle.elab_design.proofs.Found.{module_within}
use Rattle.elab_design.proofs.Regs.{AreRegs, none, StandsStill, quiet_is_reg, declares_reg, no_value_item}
use Rattle.elab_design.specs.Held.{IsPassing}
use Rattle.elab_design.specs.Quiet.{level_at, connects_nothing, is_below, is_new, with_named, is_quiet_instance, are_quiet, IsQuiet, IsLevelTable, are_from, passed, is_passed_over}

-- ---- the path

not_same : (levels : List ℕ) (level p n : ℕ) → nat_le level (level_at levels p) ≡ true → level_at levels n < level → (p == n) ≡ false
not_same levels level p n from less = by (p == n) refl
  where
    by : (b : Bool) → (p == n) ≡ b → (p == n) ≡ false
    by false is = is
    by true is =
        let same : p ≡ n = eqb-true p n is in
        let high : level ≤ level_at levels p = leb-true level (level_at levels p) from in
        let equal : level_at levels p ≡ level_at levels n = ap (level_at levels) same in
        absurd (omega arith)

not_on : (levels path : List ℕ) (level n : ℕ) → are_from levels level path ≡ true → level_at levels n < level → is_on path n ≡ false
not_on levels [] level n from less = refl
not_on levels (p ∷ ps) level n from less =
    let parts = and_parts _ _ from in
    rw (not_same levels level p n parts.0 less) (not_on levels ps level n parts.1 less)

from_more : (levels path : List ℕ) (level n : ℕ) → are_from levels level path ≡ true → level_at levels n < level → are_from levels (level_at levels n) (path ++ n ∷ []) ≡ true
from_more levels [] level n from less = rw (le-leb (level_at levels n) (level_at levels n) (omega arith)) refl
from_more levels (p ∷ ps) level n from less =
    let parts = and_parts _ _ from in
    let high : level ≤ level_at levels p = leb-true level (level_at levels p) parts.0 in
    rw (le-leb (level_at levels n) (level_at levels p) (omega arith)) (from_more levels ps level n parts.1 less)

suc_not_zero : (n : ℕ) → (suc n == 0) ≡ false
suc_not_zero n = by (suc n == 0) refl
  where
    by : (b : Bool) → (suc n == 0) ≡ b → (suc n == 0) ≡ false
    by false is = is
    by true is = let nothing : suc n ≡ 0 = eqb-true (suc n) 0 is in absurd (omega arith)

-- ---- the module of an instance

module_there : (l : Library) (name : List ℕ) (k : ℕ) → definition_of l.source name ≡ Some (definition.Module k) → slice_get l.source.modules k ≡ Some (module_of l k)
module_there l name k found = slice_get-get_or l.source.modules k no_module (module_within l.source name k found)

goes_through : (l : Library) (room : ℕ) (path : List ℕ) (i : InstanceItem) (here : Here) (k : ℕ) → definition_of l.source i.definition.text ≡ Some (definition.Module k) → is_on path k ≡ false
    → (outer : Scope) (inner : Here) → joined i (module_of l k) here ≡ Ok (outer, inner) → (s : Scope) (state : State) → body l (suc room) (path ++ k ∷ []) (module_of l k).items inner ≡ Ok (here_of s state)
    → instance_item l path (suc room) i here ≡ Ok (here_of outer state)
goes_through l room path i here k found off outer inner joint s state all = rw (found, off, suc_not_zero room, joint, all) refl

-- ---- the name of an instance

named_by : (b : Bool) (w : Word) (t s : Scope) (e : ElabErr) → ◌≡◌ {A = Outcome Scope} (if b then Err e else Ok t) (Ok s) → (not b ≡ true) × (s ≡ t)
named_by true w t s e is = absurd cc
named_by false w t s e is = (refl, cc)

there_by : (o : Option Word) (e : ElabErr) (w : Word) → or_refuse o e ≡ Ok w → o ≡ Some w
there_by (Some x) e w is = cc
there_by None e w is = absurd cc

-- A name that an instance takes is new.
named_is_new : (w : Word) (scope s : Scope) → named_instance w scope ≡ Ok s → (is_new scope.instances (Some w) ≡ true) × (s ≡ record scope { instances = scope.instances ++ w.text ∷ [] })
named_is_new w scope s is = named_by (has scope.instances w.text) w (record scope { instances = scope.instances ++ w.text ∷ [] }) s _ is

-- ---- a module whose items are quiet

nothing_is : (c : Connections) → connects_nothing c ≡ true → c ≡ Positional []
nothing_is (Positional []) nothing = refl
nothing_is (Positional (_ ∷ _)) nothing = absurd (true≢false (sym nothing))
nothing_is (Named _) nothing = absurd (true≢false (sym nothing))

-- A quiet module is open with its `reg`s, and its instance has its name.
pub record Opens (i : InstanceItem) (m : Module) (here : Here) (o : Option Word) : Type 0 where
  pub prefix : List NamePart
  pub names : List (List ℕ × Entry)
  pub is : joined i m here ≡ Ok (record here.scope { instances = with_named here.scope.instances o }, here_of (scope_of prefix names []) here.state)

module _ (source : Source) (levels : List ℕ) where
  regs_declared : (level : ℕ) (seen : List (List ℕ)) (is : List Item) (c : Scope) (s : State) → length s.names ≤ 2 ^ 20 → AreRegs c.names → are_quiet source levels level seen is ≡ true
      → StandsStill c s (all_declared [] is (here_of c s))
  regs_declared level seen [] c s few regs quiet = record { names = c.names; regs = regs; is = refl }
  regs_declared level seen (item.Declare d ∷ is) c s few regs quiet =
      let parts = and_parts _ _ quiet in
      let one = declares_reg [] d c s parts.0 few regs in
      let rest = regs_declared level seen is (scope_of c.prefix one.names c.instances) s few one.regs parts.1 in
      record { names = rest.names; regs = rest.regs; is = rw one.is rest.is }
  regs_declared level seen (item.Instance i ∷ is) c s few regs quiet =
      let parts = and_parts _ _ quiet in
      regs_declared level (with_named seen i.name) is c s few regs parts.1
  regs_declared level seen (item.Gate _ ∷ is) c s few regs quiet = absurd (true≢false (sym quiet))
  regs_declared level seen (item.Assign _ _ ∷ is) c s few regs quiet = absurd (true≢false (sym quiet))

  -- Where each quiet instance passes, all items pass.
  items_pass : (level : ℕ) (instance : InstanceItem → Here → Outcome Here)
      → ((i : InstanceItem) (here : Here) → length here.state.names ≤ 2 ^ 20 → is_quiet_instance source levels level here.scope.instances i ≡ true → instance i here ≡ Ok (passed i here))
      → (is : List Item) (here : Here) → length here.state.names ≤ 2 ^ 20 → are_quiet source levels level here.scope.instances is ≡ true
      → (s : Scope) × (items_with instance is here ≡ Ok (here_of s here.state))
  items_pass level instance pass [] here few quiet = (here.scope, refl)
  items_pass level instance pass (item.Declare d ∷ is) here few quiet =
      let parts = and_parts _ _ quiet in
      let rest = items_pass level instance pass is here few parts.1 in
      (rest.0, rw (no_value_item d.name d.value here (quiet_is_reg d parts.0).2) rest.1)
  items_pass level instance pass (item.Instance i ∷ is) here few quiet =
      let parts = and_parts _ _ quiet in
      let rest = items_pass level instance pass is (passed i here) few parts.1 in
      (rest.0, rw (pass i here few parts.0) rest.1)
  items_pass level instance pass (item.Gate _ ∷ is) here few quiet = absurd (true≢false (sym quiet))
  items_pass level instance pass (item.Assign _ _ ∷ is) here few quiet = absurd (true≢false (sym quiet))

  -- A quiet instance joins its module.
  joins : (i : InstanceItem) (m : Module) (here : Here) (level : ℕ) (o : Option Word) → i.name ≡ o → IsQuiet source levels level m → length here.state.names ≤ 2 ^ 20
      → is_new here.scope.instances o ≡ true → connects_nothing i.connections ≡ true → Opens i m here o
  joins i m here level None name quiet few new nothing = absurd (true≢false (sym new))
  joins i m here level (Some w) name quiet few new nothing =
      let taken = not-true _ new in
      let inside = regs_declared level [] m.items (inner_scope here.scope.prefix w) here.state few none quiet.items in
      let connections = nothing_is i.connections nothing in
      let ports = quiet.ports in
      record { prefix = here.scope.prefix ++ part_of w ∷ []; names = inside.names; is = rw (name, taken, ports, inside.is, connections) refl }

module _ (l : Library) (levels : List ℕ) (table : IsLevelTable l.source levels) where
  -- the module of a quiet instance
  below_found : (level : ℕ) (i : InstanceItem) (o : Option Definition) → definition_of l.source i.definition.text ≡ o → level ≤ 33 → is_below levels level o ≡ true
      → (k : ℕ) × (definition_of l.source i.definition.text ≡ Some (definition.Module k)) × (level_at levels k < level) × IsQuiet l.source levels (level_at levels k) (module_of l k)
  below_found level i None is few below = absurd (true≢false (sym below))
  below_found level i (Some (definition.Primitive k)) is few below = absurd (true≢false (sym below))
  below_found level i (Some (definition.Module k)) is few below =
      let less : level_at levels k < level = ltb-true _ _ below in
      (k, is, less, table.right k (module_of l k) (module_there l i.definition.text k is) (omega arith))

  passes_by : (room : ℕ) (path : List ℕ) (level : ℕ) (i : InstanceItem) (here : Here) → level ≤ suc room + 1 → level ≤ 33 → are_from levels level path ≡ true → length here.state.names ≤ 2 ^ 20
      → (k : ℕ) → definition_of l.source i.definition.text ≡ Some (definition.Module k) → level_at levels k < level → IsQuiet l.source levels (level_at levels k) (module_of l k)
      → is_new here.scope.instances i.name ≡ true → connects_nothing i.connections ≡ true
      → ((path' : List ℕ) (level' : ℕ) → level' ≤ room + 1 → level' ≤ 33 → are_from levels level' path' ≡ true
      → (j : InstanceItem) (there : Here) → length there.state.names ≤ 2 ^ 20 → is_quiet_instance l.source levels level' there.scope.instances j ≡ true → instance_item l path' room j there ≡ Ok (passed j there))
      → instance_item l path (suc room) i here ≡ Ok (passed i here)
  passes_by room path level i here fits few from small k found less quiet new nothing pass =
      let joint = joins l.source levels i (module_of l k) here (level_at levels k) i.name refl quiet small new nothing in
      let inner : Here = here_of (scope_of joint.prefix joint.names []) here.state in
      let rest = items_pass l.source levels (level_at levels k) (instance_item l (path ++ k ∷ []) room)
      (pass (path ++ k ∷ []) (level_at levels k) (omega arith) (omega arith) (from_more levels path level k from less)) (module_of l k).items inner small quiet.items in
      goes_through l room path i here k found (not_on levels path level k from less) _ _ joint.is rest.0 here.state (body_more l room (path ++ k ∷ []) (module_of l k).items inner ∙ rest.1)

  -- An instance of a module of a level that the path has room for.
  pub passes : (room : ℕ) (path : List ℕ) (level : ℕ) (i : InstanceItem) (here : Here) → level ≤ room + 1 → level ≤ 33 → are_from levels level path ≡ true → length here.state.names ≤ 2 ^ 20
      → is_quiet_instance l.source levels level here.scope.instances i ≡ true → instance_item l path room i here ≡ Ok (passed i here)
  passes zero path level i here fits few from small quiet =
      let new = and_parts _ _ quiet in
      let parts = and_parts _ _ new.0 in
      let below = below_found level i (definition_of l.source i.definition.text) refl few parts.0 in
      absurd (omega (arith, below.2, below.3.some))
  passes (suc room) path level i here fits few from small quiet =
      let new = and_parts _ _ quiet in
      let parts = and_parts _ _ new.0 in
      let below = below_found level i (definition_of l.source i.definition.text) refl few parts.0 in
      passes_by room path level i here fits few from small below.0 below.1 below.2 below.3 new.1 parts.1
      (λ path' level' fits' few' from'. λ j there small' q. passes room path' level' j there fits' few' from' small' q)

  -- An instance that passes takes its name, and nothing else.
  passes_over : (path : List ℕ) (room : ℕ) (i : InstanceItem) (here : Here) (k : ℕ) → length here.state.names ≤ 2 ^ 20 → definition_of l.source i.definition.text ≡ Some (definition.Module k) → is_passed_over levels path room k i ≡ true
      → (w : Word) → i.name ≡ Some w → (s : Scope) → named_instance w here.scope ≡ Ok s → instance_item l path room i here ≡ Ok (here_of s here.state)
  passes_over path room i here k small found p w name s named =
      let new = named_is_new w here.scope s named in
      let nothing = and_parts _ _ p in
      let above = and_parts _ _ nothing.0 in
      let fits = and_parts _ _ above.0 in
      let few : level_at levels k ≤ 32 = leb-true _ _ fits.0 in
      let has_room : level_at levels k ≤ room = leb-true _ _ fits.1 in
      let below : is_below levels (level_at levels k + 1) (Some (definition.Module k)) ≡ true = lt-ltb _ _ (omega arith) in
      passes room path (level_at levels k + 1) i here (omega (arith, has_room)) (omega (arith, few)) above.1 small (rw (found, below, name, new.0, nothing.1) refl) ∙ by_name i.name name new.1
    where
      by_name : (o : Option Word) → o ≡ Some w → s ≡ record here.scope { instances = here.scope.instances ++ w.text ∷ [] }
          → ◌≡◌ {A = Outcome Here} (Ok (here_of (record here.scope { instances = with_named here.scope.instances o }) here.state)) (Ok (here_of s here.state))
      by_name o is same = rw (is, same) refl

-- The same by the levels of the text.
pub passes_named : (l : Library) (path : List ℕ) (room : ℕ) (i : InstanceItem) (here : Here) (k : ℕ) → length here.state.names ≤ 2 ^ 20 → definition_of l.source i.definition.text ≡ Some (definition.Module k)
    → IsPassing l.source path room k i true → (e : ElabErr) (w : Word) → or_refuse i.name e ≡ Ok w → (s : Scope) → named_instance w here.scope ≡ Ok s → instance_item l path room i here ≡ Ok (here_of s here.state)
passes_named l path room i here k small found p e w name s named = passes_over l p.levels p.right.table path room i here k small found (sym p.is) w (there_by i.name e w name) s named
