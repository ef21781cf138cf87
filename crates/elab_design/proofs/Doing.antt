-- The items that aren't idle lead to what all of them lead to.
use Rattle.std.proofs.Common.{◌≡◌, ◌∙◌, ℕ, ◌-◌, ◌<◌, ◌≤◌, ◌^◌, Bool, true, false, true≢false, ◌&&◌, Option, Some, None, is_some, List, [], ◌∷◌, ◌++◌, length, bytes_eq, refl, sym, ap, subst, arith, Ok, Err, if◌then◌else◌}
use Rattle.std.proofs.lemmas.Bool.{and_parts, not-true, or_parts}
use Rattle.std.proofs.lemmas.List.Folds.{list_any-append}
use Rattle.netlist_grammar.specs.declared.tree.Word.{Word}
use Rattle.netlist_grammar.specs.declared.tree.Item.{Item}
use Rattle.netlist_grammar.specs.declared.tree.Item.TheVariants as item
use Rattle.netlist_grammar.specs.declared.tree.InstanceItem.{InstanceItem}
use Rattle.elab_nets.specs.declared.fault.ElabErr.{ElabErr}
use Rattle.elab_nets.specs.Outcome.{Outcome, after}
use Rattle.elab_nets.specs.State.{State}
use Rattle.elab_names.specs.Sets.{has}
use Rattle.elab_names.specs.Here.{Here}
use Rattle.elab_names.specs.Outline.{left_of}
use Rattle.elab_prims.specs.declared.definitions.Definition.{Definition}
use Rattle.elab_prims.specs.declared.definitions.Definition.TheVariants as definition
use Rattle.elab_prims.specs.Definitions.{definition_of}
use Rattle.elab_tree.specs.Library.{Library}
use Rattle.elab_tree.specs.Elaborate.{body, item_with, items_with, instance_item}
use Rattle.elab_design.specs.Quiet.{is_below, is_new, with_named, passed, connects_nothing}
use Rattle.elab_design.specs.Busy.{state_of, is_idle_instance, busy_of, counted_name, counted_instance, is_apart, are_apart}
use Rattle.elab_design.proofs.Choosing.{Allows, Suffice, all, busy}
use Rattle.elab_design.proofs.Bodies.{body_left}
use Rattle.elab_design.proofs.Framing.{here_with, through, item_frames, item_names}
use Rattle.elab_design.proofs.Passing.{passes}

-- ---- names

-- These names are among those.
pub record Among (names all : List (List ℕ)) : Type 0 where
  pub new : (name : List ℕ) → has all name ≡ false → has names name ≡ false

has_push : (names : List (List ℕ)) (w q : List ℕ) → has (names ++ w ∷ []) q ≡ false → (has names q ≡ false) × (has (w ∷ []) q ≡ false)
has_push names w q none = or_parts _ _ (sym (list_any-append (bytes_eq q) names (w ∷ [])) ∙ none)

has_neither : (names : List (List ℕ)) (w q : List ℕ) → has names q ≡ false → has (w ∷ []) q ≡ false → has (names ++ w ∷ []) q ≡ false
has_neither names w q none last = list_any-append (bytes_eq q) names (w ∷ []) ∙ rw none last

among_more : (names more : List (List ℕ)) (o : Option Word) → Among names more → Among (with_named names o) (with_named more o)
among_more names more None among = among
among_more names more (Some w) among = record { new = λ q none. (let parts = has_push more w.text q none in has_neither names w.text q (among.new q parts.0) parts.1) }

among_still : (names more : List (List ℕ)) (o : Option Word) → Among names more → Among names (with_named more o)
among_still names more None among = among
among_still names more (Some w) among = record { new = λ q none. among.new q (has_push more w.text q none).0 }

apart_among : (names more : List (List ℕ)) (o : Option Word) → Among names more → is_apart more o ≡ true → is_apart names o ≡ true
apart_among names more None among apart = refl
apart_among names more (Some w) among apart = (let none = not-true _ apart in rw (among.new w.text none) refl)

-- ---- idle items

quiet_by : (names : List (List ℕ)) (below nothing : Bool) (o : Option Word) → ((below && is_some o) && nothing) ≡ true → is_apart names o ≡ true → ((below && nothing) && is_new names o) ≡ true
quiet_by names below nothing (Some w) idle apart =
    let parts = and_parts (below && true) nothing idle in
    let first = and_parts below true parts.0 in
    rw (first.0, parts.1, apart) refl
quiet_by names below nothing None idle apart =
    let parts = and_parts (below && false) nothing idle in
    let first = and_parts below false parts.0 in
    absurd (true≢false (sym first.1))

-- An instance of a module below a level counts with its name.
counts : (levels : List ℕ) (level : ℕ) (o : Option Definition) (name : Option Word) → is_below levels level o ≡ true → counted_name o name ≡ name
counts levels level None name below = absurd (true≢false (sym below))
counts levels level (Some (definition.Primitive k)) name below = absurd (true≢false (sym below))
counts levels level (Some (definition.Module k)) name below = refl

module _ (l : Library) (path : List ℕ) (room : ℕ) (some : 0 < room) (levels : List ℕ) (level : ℕ) (allows : Allows l.source path room levels level) where
  named_idle : (i : InstanceItem) → is_idle_instance l.source levels level i ≡ true → counted_name (definition_of l.source i.definition.text) i.name ≡ i.name
  named_idle i idle =
      let parts = and_parts _ _ idle in
      let first = and_parts _ _ parts.0 in
      counts levels level (definition_of l.source i.definition.text) i.name first.0

  idle_passes : (i : InstanceItem) (here : Here) → length here.state.names ≤ 2 ^ 20 → is_idle_instance l.source levels level i ≡ true → is_apart here.scope.instances i.name ≡ true
      → instance_item l path (room - 1) i here ≡ Ok (passed i here)
  idle_passes i here small idle apart =
      passes l levels allows.table (room - 1) path level i here (omega (arith, allows.fits)) (omega (arith, allows.few)) allows.path_ small
      (quiet_by here.scope.instances (is_below levels level (definition_of l.source i.definition.text)) (connects_nothing i.connections) i.name idle apart)

  -- What is left of the items leads to the same without the first of them, where that is idle.
  without : (i : InstanceItem) (is : List Item) (here : Here) (names : List (List ℕ)) → length here.state.names ≤ 2 ^ 20 → is_idle_instance l.source levels level i ≡ true
      → is_apart names (counted_name (definition_of l.source i.definition.text) i.name) ≡ true
      → items_with (instance_item l path (room - 1)) (item.Instance i ∷ is) (here_with names here)
      ≡ items_with (instance_item l path (room - 1)) is (here_with (with_named names (counted_name (definition_of l.source i.definition.text) i.name)) here)
  without i is here names small idle apart =
      let named = named_idle i idle in
      let other : is_apart names i.name ≡ true = subst (λ (o : Option Word). is_apart names o ≡ true) named apart in
      ap (λ (r : Outcome Here). after r (items_with (instance_item l path (room - 1)) is)) (idle_passes i (here_with names here) small idle other)
      ∙ ap (λ (o : Option Word). items_with (instance_item l path (room - 1)) is (here_with (with_named names o) here)) (sym named)

  -- ---- where the items stand

  -- The items of the definition that are left, where those that aren't idle begin with this one; and the names of the
  -- instances so far, among which are those that were gone through.
  pub record Next (wanted : Outcome State) (i : Item) (more : List Item) (here : Here) : Type 0 where
    pub rest : List Item
    pub names : List (List ℕ)
    pub busy_ : busy_of l.source levels level rest ≡ more
    pub new : is_apart names (counted_instance l.source i) ≡ true
    pub apart : are_apart l.source (with_named names (counted_instance l.source i)) rest ≡ true
    pub own : Among here.scope.instances names
    pub is : wanted ≡ state_of (items_with (instance_item l path (room - 1)) (i ∷ rest) (here_with names here))

  at_next : (wanted : Outcome State) (j i : Item) (js more : List Item) (here : Here) (names : List (List ℕ)) → are_apart l.source names (j ∷ js) ≡ true → Among here.scope.instances names
      → wanted ≡ state_of (items_with (instance_item l path (room - 1)) (j ∷ js) (here_with names here)) → ◌≡◌ {A = List Item} (j ∷ busy_of l.source levels level js) (i ∷ more) → Next wanted i more here
  at_next wanted j i js more here names apart own is same =
      let first : j ≡ i = cc in
      let others : busy_of l.source levels level js ≡ more = cc in
      let parts = and_parts _ _ apart in
      subst (λ (x : Item). Next wanted x more here) first (record { rest = js; names = names; busy_ = others; new = parts.0; apart = parts.1; own = own; is = is })

  to_next : (wanted : Outcome State) (i : Item) (more : List Item) (here : Here) → length here.state.names ≤ 2 ^ 20 → (rest : List Item) (names : List (List ℕ))
      → busy_of l.source levels level rest ≡ i ∷ more → are_apart l.source names rest ≡ true → Among here.scope.instances names
      → wanted ≡ state_of (items_with (instance_item l path (room - 1)) rest (here_with names here)) → Next wanted i more here
  to_next wanted i more here small [] names at apart own is = absurd cc
  to_next wanted i more here small (item.Declare d ∷ js) names at apart own is = at_next wanted (item.Declare d) i js more here names apart own is at
  to_next wanted i more here small (item.Gate g ∷ js) names at apart own is = at_next wanted (item.Gate g) i js more here names apart own is at
  to_next wanted i more here small (item.Assign a b ∷ js) names at apart own is = at_next wanted (item.Assign a b) i js more here names apart own is at
  to_next wanted i more here small (item.Instance q ∷ js) names at apart own is =
      by (is_idle_instance l.source levels level q) refl at (λ names' at' apart' own' is'. to_next wanted i more here small js names' at' apart' own' is')
    where
      by : (b : Bool) → is_idle_instance l.source levels level q ≡ b → (if b then busy_of l.source levels level js else item.Instance q ∷ busy_of l.source levels level js) ≡ i ∷ more
          → ((names' : List (List ℕ)) → busy_of l.source levels level js ≡ i ∷ more → are_apart l.source names' js ≡ true → Among here.scope.instances names'
          → wanted ≡ state_of (items_with (instance_item l path (room - 1)) js (here_with names' here)) → Next wanted i more here)
          → Next wanted i more here
      by true idle left next =
          let parts = and_parts _ _ apart in
          let name = counted_name (definition_of l.source q.definition.text) q.name in
          next (with_named names name) left parts.1 (among_still here.scope.instances names name own) (is ∙ ap state_of (without q js here names small idle parts.0))
      by false idle left next = at_next wanted (item.Instance q) i js more here names apart own is left

  -- Where only idle items are left, all is made.
  all_idle : (here : Here) → length here.state.names ≤ 2 ^ 20 → (rest : List Item) (names : List (List ℕ)) → busy_of l.source levels level rest ≡ [] → are_apart l.source names rest ≡ true
      → state_of (items_with (instance_item l path (room - 1)) rest (here_with names here)) ≡ Ok here.state
  all_idle here small [] names at apart = refl
  all_idle here small (item.Declare d ∷ js) names at apart = absurd cc
  all_idle here small (item.Gate g ∷ js) names at apart = absurd cc
  all_idle here small (item.Assign a b ∷ js) names at apart = absurd cc
  all_idle here small (item.Instance q ∷ js) names at apart = by (is_idle_instance l.source levels level q) refl at (λ names' at' apart'. all_idle here small js names' at' apart')
    where
      by : (b : Bool) → is_idle_instance l.source levels level q ≡ b → (if b then busy_of l.source levels level js else item.Instance q ∷ busy_of l.source levels level js) ≡ []
          → ((names' : List (List ℕ)) → busy_of l.source levels level js ≡ [] → are_apart l.source names' js ≡ true
          → state_of (items_with (instance_item l path (room - 1)) js (here_with names' here)) ≡ Ok here.state)
          → state_of (items_with (instance_item l path (room - 1)) (item.Instance q ∷ js) (here_with names here)) ≡ Ok here.state
      by true idle left next =
          let parts = and_parts _ _ apart in
          ap state_of (without q js here names small idle parts.0) ∙ next (with_named names (counted_name (definition_of l.source q.definition.text) q.name)) left parts.1
      by false idle left next = absurd cc

-- ---- what the items lead to, as the code meets them

-- The items of the definition that are left, where these are those that aren't idle.
pub record Skips (l : Library) (path : List ℕ) (room : ℕ) (wanted : Outcome State) (todo : List Item) (here : Here) : Type 0 where
  pub levels : List ℕ
  pub level : ℕ
  pub allows : Allows l.source path room levels level
  pub rest : List Item
  pub names : List (List ℕ)
  pub busy_ : busy_of l.source levels level rest ≡ todo
  pub apart : are_apart l.source names rest ≡ true
  pub own : Among here.scope.instances names
  pub is : wanted ≡ state_of (items_with (instance_item l path (room - 1)) rest (here_with names here))

-- The items lead from here to what is wanted.
pub data Leads (l : Library) (path : List ℕ) (room : ℕ) (wanted : Outcome State) (todo : List Item) (here : Here) : Type 0 where
  each : wanted ≡ state_of (items_with (instance_item l path (room - 1)) todo here) → Leads l path room wanted todo here
  others : Skips l path room wanted todo here → Leads l path room wanted todo here

no_names : (here : Here) → here.scope.instances ≡ [] → here ≡ here_with [] here
no_names here new = ap (λ (ns : List (List ℕ)). here_with ns here) new

among_none : (names : List (List ℕ)) → names ≡ [] → Among names []
among_none names none = record { new = λ q h. rw none refl }

-- The items of a module that is just open, and what suffices of them.
pub leads_first : (l : Library) (path : List ℕ) (room : ℕ) (items todo : List Item) (here : Here) → 0 < room → here.scope.instances ≡ [] → Suffice l.source path room (left_of items) todo
    → Leads l path room (state_of (body l room path items here)) todo here
leads_first l path room items todo here some new all = each (ap state_of (body_left l room path items here some))
leads_first l path room items todo here some new (busy levels level allows apart) = others (record {
  levels = levels;
  level = level;
  allows = allows;
  rest = left_of items;
  names = [];
  busy_ = refl;
  apart = apart;
  own = among_none here.scope.instances new;
  is = ap state_of (body_left l room path items here some ∙ ap (items_with (instance_item l path (room - 1)) (left_of items)) (no_names here new));
})

-- The names that come with an item come to those so far.
names_more : (l : Library) (path : List ℕ) (room : ℕ) (i : Item) (here next : Here) (names : List (List ℕ)) → Among here.scope.instances names → is_apart names (counted_instance l.source i) ≡ true
    → item_with (instance_item l path room) i here ≡ Ok next → Among next.scope.instances (with_named names (counted_instance l.source i))
names_more l path room i here next names own new done =
    let apart = apart_among here.scope.instances names (counted_instance l.source i) own new in
    subst (λ (ns : List (List ℕ)). Among ns (with_named names (counted_instance l.source i))) (sym (item_names l path room (body l room) i here next apart done))
    (among_more here.scope.instances names (counted_instance l.source i) own)

leads_after : (l : Library) (path : List ℕ) (room : ℕ) (some : 0 < room) (levels : List ℕ) (level : ℕ) (allows : Allows l.source path room levels level)
    (wanted : Outcome State) (i : Item) (more : List Item) (here next : Here) → Next l path room some levels level allows wanted i more here → item_with (instance_item l path (room - 1)) i here ≡ Ok next
    → Leads l path room wanted more next
leads_after l path room some levels level allows wanted i more here next n done =
    let apart = apart_among here.scope.instances n.names (counted_instance l.source i) n.own n.new in
    let frame = item_frames l path (room - 1) (body l (room - 1)) n.names i here apart n.new in
    others (record {
      levels = levels;
      level = level;
      allows = allows;
      rest = n.rest;
      names = with_named n.names (counted_instance l.source i);
      busy_ = n.busy_;
      apart = n.apart;
      own = names_more l path (room - 1) i here next n.names n.own n.new done;
      is = n.is ∙ ap (λ (r : Outcome Here). state_of (after r (items_with (instance_item l path (room - 1)) n.rest))) (frame ∙ ap (through (here_with (with_named n.names (counted_instance l.source i)))) done);
    })

more_by : (l : Library) (path : List ℕ) (room : ℕ) (wanted : Outcome State) (i : Item) (more : List Item) (here next : Here) → 0 < room → length here.state.names ≤ 2 ^ 20
    → Leads l path room wanted (i ∷ more) here → item_with (instance_item l path (room - 1)) i here ≡ Ok next → Leads l path room wanted more next
more_by l path room wanted i more here next some small (each is) done = each (is ∙ ap (λ (r : Outcome Here). state_of (after r (items_with (instance_item l path (room - 1)) more))) done)
more_by l path room wanted i more here next some small (others s) done =
    leads_after l path room some s.levels s.level s.allows wanted i more here next
    (to_next l path room some s.levels s.level s.allows wanted i more here small s.rest s.names s.busy_ s.apart s.own s.is) done

-- An item more.
pub leads_more : (l : Library) (path : List ℕ) (room : ℕ) (wanted : Outcome State) (i : Item) (more todo : List Item) (here next : Here) → 0 < room → length here.state.names ≤ 2 ^ 20 → todo ≡ i ∷ more
    → Leads l path room wanted todo here → item_with (instance_item l path (room - 1)) i here ≡ Ok next → Leads l path room wanted more next
leads_more l path room wanted i more todo here next some small same leads done =
    more_by l path room wanted i more here next some small (subst (λ (is : List Item). Leads l path room wanted is here) same leads) done

refused_after : (l : Library) (path : List ℕ) (room : ℕ) (some : 0 < room) (levels : List ℕ) (level : ℕ) (allows : Allows l.source path room levels level)
    (wanted : Outcome State) (i : Item) (more : List Item) (here : Here) (e : ElabErr) → Next l path room some levels level allows wanted i more here
    → item_with (instance_item l path (room - 1)) i here ≡ Err e → wanted ≡ Err e
refused_after l path room some levels level allows wanted i more here e n done =
    let apart = apart_among here.scope.instances n.names (counted_instance l.source i) n.own n.new in
    let frame = item_frames l path (room - 1) (body l (room - 1)) n.names i here apart n.new in
    n.is ∙ ap (λ (r : Outcome Here). state_of (after r (items_with (instance_item l path (room - 1)) n.rest))) (frame ∙ ap (through (here_with (with_named n.names (counted_instance l.source i)))) done)

refused_by : (l : Library) (path : List ℕ) (room : ℕ) (wanted : Outcome State) (i : Item) (more : List Item) (here : Here) (e : ElabErr) → 0 < room → length here.state.names ≤ 2 ^ 20
    → Leads l path room wanted (i ∷ more) here → item_with (instance_item l path (room - 1)) i here ≡ Err e → wanted ≡ Err e
refused_by l path room wanted i more here e some small (each is) done = is ∙ ap (λ (r : Outcome Here). state_of (after r (items_with (instance_item l path (room - 1)) more))) done
refused_by l path room wanted i more here e some small (others s) done =
    refused_after l path room some s.levels s.level s.allows wanted i more here e
    (to_next l path room some s.levels s.level s.allows wanted i more here small s.rest s.names s.busy_ s.apart s.own s.is) done

-- The first refusal counts.
pub leads_refused : (l : Library) (path : List ℕ) (room : ℕ) (wanted : Outcome State) (i : Item) (more todo : List Item) (here : Here) (e : ElabErr) → 0 < room → length here.state.names ≤ 2 ^ 20 → todo ≡ i ∷ more
    → Leads l path room wanted todo here → item_with (instance_item l path (room - 1)) i here ≡ Err e → wanted ≡ Err e
leads_refused l path room wanted i more todo here e some small same leads done =
    refused_by l path room wanted i more here e some small (subst (λ (is : List Item). Leads l path room wanted is here) same leads) done

last_by : (l : Library) (path : List ℕ) (room : ℕ) (wanted : Outcome State) (here : Here) → 0 < room → length here.state.names ≤ 2 ^ 20
    → Leads l path room wanted [] here → wanted ≡ Ok here.state
last_by l path room wanted here some small (each is) = is
last_by l path room wanted here some small (others s) = s.is ∙ all_idle l path room some s.levels s.level s.allows here small s.rest s.names s.busy_ s.apart

-- No item is left.
pub leads_last : (l : Library) (path : List ℕ) (room : ℕ) (wanted : Outcome State) (todo : List Item) (here : Here) → 0 < room → length here.state.names ≤ 2 ^ 20 → todo ≡ []
    → Leads l path room wanted todo here → wanted ≡ Ok here.state
leads_last l path room wanted todo here some small same leads = last_by l path room wanted here some small (subst (λ (is : List Item). Leads l path room wanted is here) same leads)
