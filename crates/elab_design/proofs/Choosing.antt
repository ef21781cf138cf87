-- Where the other items are idle, the busy ones suffice.
use Rattle.std.proofs.Common.{◌≡◌, ℕ, zero, suc, ◌<◌, ◌≤◌, Bool, true, false, List, [], ◌∷◌, ◌++◌, length, map, append_assoc, ap, ◌∙◌, ◌+◌, add-one, get_or, drop, Bor, slice_index_or, refl, sym, subst, arith, if◌then◌else◌}
use Rattle.std.proofs.lemmas.Bool.{and_parts, ltb-true, leb-true}
use Rattle.netlist_grammar.specs.declared.tree.Item.{Item}
use Rattle.netlist_grammar.specs.declared.tree.Module.{Module}
use Rattle.netlist_grammar.specs.declared.tree.Source.{Source}
use Rattle.elab_design.specs.Quiet.{IsLevelTable, are_from}
use Rattle.elab_names.specs.Outline.{items_in}
use Rattle.elab_tree.specs.Library.{no_module}
use Rattle.elab_design.specs.Busy.{are_apart, all_idle_from, idle_level, busy_of, busy_of_module, no_busy, is_idle, allows, IsToDo}

-- Depth and path allow that instances below this level are idle.
pub record Allows (source : Source) (path : List ℕ) (room : ℕ) (levels : List ℕ) (level : ℕ) : Type 0 where
  pub table : IsLevelTable source levels
  pub few : level ≤ 32
  pub fits : level ≤ room
  pub path_ : are_from levels level path ≡ true

-- These are all of the items, or those of them that aren't idle.
pub data Suffice (source : Source) (path : List ℕ) (room : ℕ) (items : List Item) : List Item → Type 0 where
  all : Suffice source path room items items
  busy : (levels : List ℕ) (level : ℕ) → Allows source path room levels level → are_apart source [] items ≡ true
      → Suffice source path room items (busy_of source levels level items)

allowed : (source : Source) (path : List ℕ) (room : ℕ) (levels : List ℕ) (level : ℕ) → IsLevelTable source levels → allows levels path room level ≡ true → Allows source path room levels level
allowed source path room levels level table allowed_now =
    let parts = and_parts _ _ allowed_now in
    let first = and_parts _ _ parts.0 in
    let few = and_parts _ _ first.0 in
    record { table = table; few = leb-true level 32 few.1; fits = leb-true level room first.1; path_ = parts.1 }

apart_by : (source : Source) (levels : List ℕ) (items : List Item) (b : Bool) → are_apart source [] items ≡ b → 0 < (if b then all_idle_from source levels items else 0) → are_apart source [] items ≡ true
apart_by source levels items true is some = is
apart_by source levels items false is some = absurd (omega arith)

busy_suffice : (source : Source) (path : List ℕ) (room : ℕ) (levels : List ℕ) (items : List Item) → IsLevelTable source levels → allows levels path room (idle_level source levels items) ≡ true
    → Suffice source path room items (busy_of source levels (idle_level source levels items) items)
busy_suffice source path room levels items table h =
    let parts = and_parts _ _ h in
    let first = and_parts _ _ parts.0 in
    let few = and_parts _ _ first.0 in
    busy levels (idle_level source levels items) (allowed source path room levels (idle_level source levels items) table h)
    (apart_by source levels items (are_apart source [] items) refl (ltb-true 0 (idle_level source levels items) few.0))

-- What is gone through suffices.
pub to_do_suffice : (source : Source) (path : List ℕ) (room : ℕ) (items todo : List Item) → IsToDo source path room items todo → Suffice source path room items todo
to_do_suffice source path room items todo d = subst (λ (is : List Item). Suffice source path room items is) (sym d.is) (by (allows d.levels path room (idle_level source d.levels items)) refl)
  where
    by : (b : Bool) → allows d.levels path room (idle_level source d.levels items) ≡ b
        → Suffice source path room items (if b then busy_of source d.levels (idle_level source d.levels items) items else items)
    by true h = busy_suffice source path room d.levels items d.right.table h
    by false h = all

-- What is worked out for the module at a position stands there.
pub busy_there : (source : Source) (levels : List ℕ) (modules : List Module) (k : ℕ) → k < length modules
    → slice_index_or (map (busy_of_module source levels) modules) k no_busy ≡ busy_of_module source levels (slice_index_or modules k no_module)
busy_there source levels [] k within = absurd (omega arith)
busy_there source levels (m ∷ ms) zero within = refl
busy_there source levels (m ∷ ms) (suc k) within = busy_there source levels ms k (omega arith)

-- ---- one item more

pub items_push : (is : List (Bor Item)) (i : Bor Item) → items_in (is ++ i ∷ []) ≡ items_in is ++ i.now ∷ []
items_push [] i = refl
items_push (x ∷ is) i = ap (λ (l : List Item). x.now ∷ l) (items_push is i)

busy_by : (b : Bool) (i : Item) (rest : List Item) → (if b then rest else i ∷ rest) ≡ (if b then [] else i ∷ []) ++ rest
busy_by true i rest = refl
busy_by false i rest = refl

-- The busy items so far, and then those that are left.
pub busy_step : (source : Source) (levels : List ℕ) (level : ℕ) (i : Item) (whole before more rest : List Item) → whole ≡ before ++ busy_of source levels level (i ∷ rest) → more ≡ before ++ busy_of source levels level (i ∷ [])
    → whole ≡ more ++ busy_of source levels level rest
busy_step source levels level i whole before more rest is grown =
    is ∙ ap (λ (l : List Item). before ++ l) (busy_by (is_idle source levels level i) i (busy_of source levels level rest))
    ∙ sym (append_assoc before (busy_of source levels level (i ∷ [])) (busy_of source levels level rest))
    ∙ ap (λ (l : List Item). l ++ busy_of source levels level rest) (sym grown)

-- What is left of the references begins with the next one.
pub items_split : (items : List (Bor Item)) (k : ℕ) (i : Bor Item) → k < length items → i ≡ get_or items k i → items_in (drop k items) ≡ i.now ∷ items_in (drop (suc k) items)
items_split [] k i within is = absurd (omega arith)
items_split (x ∷ xs) zero i within is = ap (λ (b : Bor Item). b.now ∷ items_in xs) (sym is)
items_split (x ∷ xs) (suc k) i within is = items_split xs k i (omega arith) is

pub items_more : (items : List (Bor Item)) (k : ℕ) (i : Bor Item) → k < length items → i ≡ get_or items k i → items_in (drop k items) ≡ i.now ∷ items_in (drop (k + 1) items)
items_more items k i within is = rw add-one (items_split items k i within is)

pub items_none : (items : List (Bor Item)) (k : ℕ) → length items ≤ k → items_in (drop k items) ≡ []
items_none [] zero past = refl
items_none [] (suc k) past = refl
items_none (x ∷ xs) zero past = absurd (omega arith)
items_none (x ∷ xs) (suc k) past = items_none xs k (omega arith)
