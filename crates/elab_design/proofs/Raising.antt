-- Level by level each module has the lowest at which it is quiet.
use Rattle.std.proofs.Common.{◌≡◌, ◌≢◌, ℕ, ◌+◌, ◌-◌, ◌<◌, ◌≤◌, ◌==◌, zero, suc, Bool, true, false, true≢false, not, Option, Some, None, List, [], ◌∷◌, length, length-set, replicate, refl, sym, ◌∙◌, ap, subst, arith, nat_lt, nat_le, slice_get, slice_set, get_or-set_other, get_or-set_same}
use Rattle.std.proofs.lemmas.Bool.{and_parts, ltb-true, ltb-false, lt-ltb, leb-true, leb-false, eqb-true, eq-eqb}
use Rattle.std.proofs.lemmas.List.{length-replicate}
use Rattle.std.proofs.lemmas.Option.{slice_get_within}
use Rattle.netlist_grammar.specs.declared.tree.Word.{Word}
use Rattle.netlist_grammar.specs.declared.tree.Item.{Item}
use Rattle.netlist_grammar.specs.declared.tree.Item.TheVariants as item
use Rattle.netlist_grammar.specs.declared.tree.InstanceItem.{InstanceItem}
use Rattle.netlist_grammar.specs.declared.tree.Module.{Module}
use Rattle.netlist_grammar.specs.declared.tree.Source.{Source}
use Rattle.elab_prims.specs.declared.definitions.Definition.{Definition}
use Rattle.elab_prims.specs.declared.definitions.Definition.TheVariants as definition
use Rattle.elab_prims.specs.Definitions.{definition_of}
use Rattle.elab_design.specs.Quiet.{level_at, is_below, is_quiet_instance, is_quiet_item, with_item, are_quiet, has_ports, is_quiet, IsQuiet, AreLevels, AreRaised}

-- ---- tables in which the same modules are below

pub lt_same : (x u y v : ℕ) → (x < u → y < v) → (y < v → x < u) → nat_lt x u ≡ nat_lt y v
lt_same x u y v there back = by (nat_lt x u) refl (nat_lt y v) refl
  where
    by : (b : Bool) → nat_lt x u ≡ b → (c : Bool) → nat_lt y v ≡ c → nat_lt x u ≡ nat_lt y v
    by true p true q = p ∙ sym q
    by false p false q = p ∙ sym q
    by true p false q = absurd (true≢false (sym (lt-ltb y v (there (ltb-true x u p))) ∙ q))
    by false p true q = absurd (true≢false (sym (lt-ltb x u (back (ltb-true y v q))) ∙ p))

module _ (source : Source) (a b : List ℕ) (low high : ℕ) (same : (d : ℕ) → nat_lt (level_at a d) low ≡ nat_lt (level_at b d) high) where
  below_same : (o : Option Definition) → is_below a low o ≡ is_below b high o
  below_same None = refl
  below_same (Some (definition.Primitive d)) = refl
  below_same (Some (definition.Module d)) = same d

  instance_same : (names : List (List ℕ)) (i : InstanceItem) → is_quiet_instance source a low names i ≡ is_quiet_instance source b high names i
  instance_same names i = rw (below_same (definition_of source i.definition.text)) refl

  item_same : (names : List (List ℕ)) (i : Item) → is_quiet_item source a low names i ≡ is_quiet_item source b high names i
  item_same names (item.Declare d) = refl
  item_same names (item.Instance i) = instance_same names i
  item_same names (item.Gate _) = refl
  item_same names (item.Assign _ _) = refl

  are_same : (names : List (List ℕ)) (is : List Item) → are_quiet source a low names is ≡ are_quiet source b high names is
  are_same names [] = refl
  are_same names (i ∷ is) = rw (item_same names i, are_same (with_item names i) is) refl

  pub quiet_same : (m : Module) → is_quiet source a low m ≡ is_quiet source b high m
  quiet_same m = rw (are_same [] m.items) refl

-- ---- a level more

level_beside : (levels : List ℕ) (k v j : ℕ) → j ≢ k → level_at (slice_set levels k v) j ≡ level_at levels j
level_beside levels k v j other = get_or-set_other levels k j v 33 other

no_ports : (ps : List Word) → not (has_ports ps) ≡ true → ps ≡ []
no_ports [] none = refl
no_ports (_ ∷ _) none = absurd (true≢false (sym none))

unit_is : (modules : List Module) (k : ℕ) (m n : Module) → slice_get modules k ≡ Some m → slice_get modules k ≡ Some n → m ≡ n
unit_is modules k m n one other = (let both : Some m ≡ Some n = sym one ∙ other in cc)

module _ (source : Source) (levels : List ℕ) (k level : ℕ) (m : Module) (few : level ≤ 32) (raised : AreRaised source level k levels) (there : slice_get source.modules k ≡ Some m) where
  pub within : k < length levels
  within = (let here = slice_get_within source.modules k m there in omega (arith, raised.long, here))

  raised_same : (level < level_at levels k → is_quiet source levels level m ≡ false) → AreRaised source level (k + 1) levels
  raised_same not_quiet = record {
    long = raised.long;
    few = raised.few;
    table = raised.table;
    lowest = raised.lowest;
    asked = λ j n found before over. by j n found before over (j == k) refl;
  }
    where
      by : (j : ℕ) (n : Module) → slice_get source.modules j ≡ Some n → j < k + 1 → level < level_at levels j → (b : Bool) → (j == k) ≡ b → is_quiet source levels level n ≡ false
      by j n found before over true is =
          let same : j ≡ k = eqb-true j k is in
          let own : slice_get source.modules k ≡ Some n = subst (λ (x : ℕ). slice_get source.modules x ≡ Some n) same found in
          subst (λ (u : Module). is_quiet source levels level u ≡ false) (unit_is source.modules k m n there own) (not_quiet (subst (λ (x : ℕ). level < level_at levels x) same over))
      by j n found before over false is =
          let other : j ≢ k = λ same. true≢false (sym (eq-eqb j k same) ∙ is) in
          raised.asked j n found (omega (arith, before, other)) over

  -- A module that has a level keeps it.
  pub raised_had : level_at levels k ≤ 32 → AreRaised source level (k + 1) levels
  raised_had low = raised_same (λ over. absurd (let up = raised.few k (λ high. absurd (omega (arith, high, low))) in omega (arith, up, over)))

  -- One that isn't quiet at this level has none.
  pub raised_not : is_quiet source levels level m ≡ false → AreRaised source level (k + 1) levels
  raised_not none = raised_same (λ over. none)

  module _ (some : 0 < level) (none : 32 < level_at levels k) (quiet : is_quiet source levels level m ≡ true) where
    -- Up to this level the same modules are below.
    still : (r : ℕ) → r ≤ level → (d : ℕ) → nat_lt (level_at (slice_set levels k level) d) r ≡ nat_lt (level_at levels d) r
    still r up d = by (d == k) refl
      where
        by : (b : Bool) → (d == k) ≡ b → nat_lt (level_at (slice_set levels k level) d) r ≡ nat_lt (level_at levels d) r
        by true is =
            let same : d ≡ k = eqb-true d k is in
            let new : level_at (slice_set levels k level) d ≡ level = ap (level_at (slice_set levels k level)) same ∙ get_or-set_same levels k level 33 within in
            let old : level_at levels d ≡ level_at levels k = ap (level_at levels) same in
            lt_same _ r _ r (λ less. absurd (omega (arith, less, new, up))) (λ less. absurd (omega (arith, less, old, none, up, few)))
        by false is = ap (λ (x : ℕ). nat_lt x r) (level_beside levels k level d (λ same. true≢false (sym (eq-eqb d k same) ∙ is)))

    new_level : level_at (slice_set levels k level) k ≡ level
    new_level = get_or-set_same levels k level 33 within

    -- A module that is quiet at this level has it now.
    pub raised_more : AreRaised source level (k + 1) (slice_set levels k level)
    raised_more = record {
      long = length-set levels k level ∙ raised.long;
      few = λ j other. few_by j other (j == k) refl;
      table = record { right = λ j n found at. right_by j n found at (j == k) refl };
      lowest = λ j low n found any less under. quiet_same source (slice_set levels k level) levels low low (still low (omega (arith, less))) n ∙ lowest_by j low n found any less under (j == k) refl;
      asked = λ j n found before over. quiet_same source (slice_set levels k level) levels level level (still level (omega arith)) n ∙ asked_by j n found before over (j == k) refl;
    }
      where
        few_by : (j : ℕ) → level_at (slice_set levels k level) j ≢ 33 → (b : Bool) → (j == k) ≡ b → level_at (slice_set levels k level) j ≤ level
        few_by j other true is =
            let new : level_at (slice_set levels k level) j ≡ level = ap (level_at (slice_set levels k level)) (eqb-true j k is) ∙ new_level in
            omega (arith, new)
        few_by j other false is =
            let beside = level_beside levels k level j (λ same. true≢false (sym (eq-eqb j k same) ∙ is)) in
            rw beside (raised.few j (λ high. other (beside ∙ high)))

        right_by : (j : ℕ) (n : Module) → slice_get source.modules j ≡ Some n → level_at (slice_set levels k level) j ≤ 32 → (b : Bool) → (j == k) ≡ b
            → IsQuiet source (slice_set levels k level) (level_at (slice_set levels k level) j) n
        right_by j n found at true is =
            let same : j ≡ k = eqb-true j k is in
            let own : slice_get source.modules k ≡ Some n = subst (λ (x : ℕ). slice_get source.modules x ≡ Some n) same found in
            let parts = and_parts (not (has_ports m.ports)) (are_quiet source levels level [] m.items) quiet in
            let items = are_same source (slice_set levels k level) levels level level (still level (omega arith)) [] m.items ∙ parts.1 in
            let q : IsQuiet source (slice_set levels k level) level m = record { some = some; ports = no_ports m.ports parts.0; items = items } in
            rw (ap (level_at (slice_set levels k level)) same ∙ new_level) (subst (λ (u : Module). IsQuiet source (slice_set levels k level) level u) (unit_is source.modules k m n there own) q)
        right_by j n found at false is =
            let beside = level_beside levels k level j (λ same. true≢false (sym (eq-eqb j k same) ∙ is)) in
            let small : level_at levels j ≤ 32 = omega (arith, at, beside) in
            let old = raised.table.right j n found small in
            let up : level_at levels j ≤ level = raised.few j (λ high. absurd (omega (arith, high, small))) in
            let items = are_same source (slice_set levels k level) levels (level_at levels j) (level_at levels j) (still (level_at levels j) up) [] n.items ∙ old.items in
            rw beside (record { some = old.some; ports = old.ports; items = items })

        lowest_by : (j low : ℕ) (n : Module) → slice_get source.modules j ≡ Some n → 0 < low → low < level → low < level_at (slice_set levels k level) j → (b : Bool) → (j == k) ≡ b
            → is_quiet source levels low n ≡ false
        lowest_by j low n found any less under true is =
            let old : level_at levels j ≡ level_at levels k = ap (level_at levels) (eqb-true j k is) in
            raised.lowest j low n found any less (omega (arith, old, none, less, few))
        lowest_by j low n found any less under false is =
            let beside = level_beside levels k level j (λ same. true≢false (sym (eq-eqb j k same) ∙ is)) in
            raised.lowest j low n found any less (omega (arith, under, beside))

        asked_by : (j : ℕ) (n : Module) → slice_get source.modules j ≡ Some n → j < k + 1 → level < level_at (slice_set levels k level) j → (b : Bool) → (j == k) ≡ b
            → is_quiet source levels level n ≡ false
        asked_by j n found before over true is =
            let new : level_at (slice_set levels k level) j ≡ level = ap (level_at (slice_set levels k level)) (eqb-true j k is) ∙ new_level in
            absurd (omega (arith, over, new))
        asked_by j n found before over false is =
            let other : j ≢ k = λ same. true≢false (sym (eq-eqb j k same) ∙ is) in
            let beside = level_beside levels k level j other in
            raised.asked j n found (omega (arith, before, other)) (omega (arith, over, beside))

-- ---- level by level

none_there : (n k : ℕ) → level_at (replicate n 33) k ≡ 33
none_there zero k = refl
none_there (suc n) zero = refl
none_there (suc n) (suc k) = none_there n k

-- At first no module has a level.
pub none_at_first : (source : Source) (levels : List ℕ) → levels ≡ replicate (length source.modules) 33 → AreLevels source 0 levels
none_at_first source levels is = record {
  long = ap length is ∙ length-replicate (length source.modules) 33;
  few = λ k other. absurd (other (high k));
  table = record { right = λ k m found small. absurd (omega (arith, high k, small)) };
  lowest = λ k level m found some few under. absurd (omega (arith, some, few));
}
  where
    high : (k : ℕ) → level_at levels k ≡ 33
    high k = ap (λ (ls : List ℕ). level_at ls k) is ∙ none_there (length source.modules) k

-- Before the first module is asked.
pub none_asked : (source : Source) (levels : List ℕ) (level : ℕ) → 0 < level → AreLevels source (level - 1) levels → AreRaised source level 0 levels
none_asked source levels level some l = record {
  long = l.long;
  few = λ k other. (let up = l.few k other in omega (arith, up));
  table = l.table;
  lowest = λ k low m found any less under. l.lowest k low m found any (omega (arith, less)) under;
  asked = λ k m found before over. absurd (omega (arith, before));
}

-- Behind the last one.
pub all_asked : (source : Source) (levels : List ℕ) (level count : ℕ) → length source.modules ≤ count → AreRaised source level count levels → AreLevels source level levels
all_asked source levels level count all r = record {
  long = r.long;
  few = r.few;
  table = r.table;
  lowest = λ k low m found any up under. by k low m found any up under (nat_lt low level) refl;
}
  where
    by : (k low : ℕ) (m : Module) → slice_get source.modules k ≡ Some m → 0 < low → low ≤ level → low < level_at levels k → (b : Bool) → nat_lt low level ≡ b → is_quiet source levels low m ≡ false
    by k low m found any up under true is = r.lowest k low m found any (ltb-true low level is) under
    by k low m found any up under false is =
        let past = ltb-false low level is in
        let same : level ≡ low = omega (arith, past, up) in
        let here = slice_get_within source.modules k m found in
        subst (λ (n : ℕ). is_quiet source levels n m ≡ false) same (r.asked k m found (omega (arith, all, here)) (omega (arith, under, same)))

-- Where no module has this level, none has a higher one.
pub no_more : (source : Source) (levels : List ℕ) (level : ℕ) → 0 < level → level ≤ 32 → AreLevels source (level - 1) levels → AreLevels source level levels → AreLevels source 32 levels
no_more source levels level some few before now = record {
  long = now.long;
  few = λ k other. (let up = now.few k other in omega (arith, up, few));
  table = now.table;
  lowest = λ k high m found any up under. by k high m found any up under (nat_le high level) refl;
}
  where
    same : (high : ℕ) → level < high → high ≤ 32 → (d : ℕ) → nat_lt (level_at levels d) high ≡ nat_lt (level_at levels d) level
    same high over up d =
        lt_same _ high _ level (λ less. (let low = before.few d (λ none. absurd (omega (arith, less, none, up))) in omega (arith, low, some)))
        (λ less. omega (arith, less, over))

    by : (k high : ℕ) (m : Module) → slice_get source.modules k ≡ Some m → 0 < high → high ≤ 32 → high < level_at levels k → (b : Bool) → nat_le high level ≡ b → is_quiet source levels high m ≡ false
    by k high m found any up under true is = now.lowest k high m found any (leb-true high level is) under
    by k high m found any up under false is =
        let over = leb-false high level is in
        quiet_same source levels levels high level (same high over up) m ∙ now.lowest k level m found some (omega arith) (omega (arith, under, over))
