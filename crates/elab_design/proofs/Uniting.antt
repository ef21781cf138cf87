-- A text has one table of levels.
use Rattle.std.proofs.Common.{◌≡◌, ◌≢◌, ℕ, ◌<◌, ◌≤◌, ◌==◌, zero, suc, Bool, true, false, true≢false, not, Some, List, [], length, refl, sym, ◌∙◌, ap, subst, arith, nat_lt, nat_le, slice_get, get_or}
use Rattle.std.proofs.lemmas.Bool.{ltb-true, ltb-false, leb-true, leb-false, eqb-true, eq-eqb}
use Rattle.std.proofs.lemmas.List.{ext_get_or, get_or_past}
use Rattle.std.proofs.lemmas.Option.{slice_get-get_or}
use Rattle.netlist_grammar.specs.declared.tree.Word.{Word}
use Rattle.netlist_grammar.specs.declared.tree.Module.{Module}
use Rattle.netlist_grammar.specs.declared.tree.Source.{Source}
use Rattle.elab_tree.specs.Library.{no_module}
use Rattle.elab_design.specs.Quiet.{level_at, has_ports, is_quiet, IsQuiet, AreLevels}
use Rattle.elab_design.proofs.Raising.{lt_same, quiet_same}

without_ports : (ps : List Word) → ps ≡ [] → not (has_ports ps) ≡ true
without_ports ps none = ap (λ (l : List Word). not (has_ports l)) none

quiet_is : (source : Source) (levels : List ℕ) (level : ℕ) (m : Module) → IsQuiet source levels level m → is_quiet source levels level m ≡ true
quiet_is source levels level m q = rw (without_ports m.ports q.ports, q.items) refl

-- A level is 32 at most, or 33.
at_most_33 : (n : ℕ) → (n ≢ 33 → n ≤ 32) → n ≤ 33
at_most_33 n few = by (n == 33) refl
  where
    by : (b : Bool) → (n == 33) ≡ b → n ≤ 33
    by true is = let same = eqb-true n 33 is in omega (arith, same)
    by false is = let low = few (λ same. true≢false (sym (eq-eqb n 33 same) ∙ is)) in omega (arith, low)

module _ (source : Source) (a b : List ℕ) (of_a : AreLevels source 32 a) (of_b : AreLevels source 32 b) where
  -- Where the same modules are below a level, those of this level aren't higher there.
  not_higher : (n d : ℕ) → n ≤ 32 → ((e : ℕ) → nat_lt (level_at a e) n ≡ nat_lt (level_at b e) n) → level_at a d ≤ n → level_at b d ≤ n
  not_higher n d few same up = by (nat_le (level_at b d) n) refl (nat_lt (level_at a d) n) refl
    where
      high : n < level_at b d → level_at a d ≡ n → ⊥
      high over is =
          let within : d < length source.modules = inside (nat_lt d (length source.modules)) refl in
          let m : Module = get_or source.modules d no_module in
          let found : slice_get source.modules d ≡ Some m = slice_get-get_or source.modules d no_module within in
          let q = of_a.table.right d m found (omega (arith, is, few)) in
          let quiet : is_quiet source a n m ≡ true = quiet_at is m q in
          true≢false (sym quiet ∙ quiet_same source a b n n same m ∙ of_b.lowest d n m found (some_at is q.some) few over)
        where
          inside : (c : Bool) → nat_lt d (length source.modules) ≡ c → d < length source.modules
          inside true less = ltb-true _ _ less
          inside false past =
              let behind : level_at a d ≡ 33 = get_or_past a d 33 (let far = ltb-false _ _ past in omega (arith, far, of_a.long)) in
              absurd (omega (arith, behind, is, few))

          quiet_at : level_at a d ≡ n → (m : Module) → IsQuiet source a (level_at a d) m → is_quiet source a n m ≡ true
          quiet_at same_level m q = subst (λ (x : ℕ). is_quiet source a x m ≡ true) same_level (quiet_is source a (level_at a d) m q)

          some_at : level_at a d ≡ n → 0 < level_at a d → 0 < n
          some_at same_level some = omega (arith, same_level, some)

      by : (c : Bool) → nat_le (level_at b d) n ≡ c → (e : Bool) → nat_lt (level_at a d) n ≡ e → level_at b d ≤ n
      by true is e lower = leb-true _ _ is
      by false is true lower =
          let less = ltb-true (level_at b d) n (sym (same d) ∙ lower) in
          omega (arith, less)
      by false is false lower =
          let over = leb-false (level_at b d) n is in
          let least = ltb-false (level_at a d) n lower in
          absurd (high over (omega (arith, least, up)))

module _ (source : Source) (a b : List ℕ) (of_a : AreLevels source 32 a) (of_b : AreLevels source 32 b) where
  below_one : (n : ℕ) → n ≤ 33 → (d : ℕ) → nat_lt (level_at a d) n ≡ nat_lt (level_at b d) n
  below_one zero few d = lt_same (level_at a d) 0 (level_at b d) 0 (λ less. absurd (omega (arith, less))) (λ less. absurd (omega (arith, less)))
  below_one (suc n) few d =
      let prev = below_one n (omega (arith, few)) in
      lt_same (level_at a d) (suc n) (level_at b d) (suc n)
      (λ less. (let up = not_higher source a b of_a of_b n d (omega (arith, few)) prev (omega (arith, less)) in omega (arith, up)))
      (λ less. (let up = not_higher source b a of_b of_a n d (omega (arith, few)) (λ e. sym (prev e)) (omega (arith, less)) in omega (arith, up)))

  no_less : (x y : ℕ) → nat_lt x y ≡ nat_lt y y → y ≤ x
  no_less x y same = by (nat_lt x y) refl
    where
      by : (c : Bool) → nat_lt x y ≡ c → y ≤ x
      by false is = ltb-false x y is
      by true is = (let less = ltb-true y y (sym same ∙ is) in absurd (omega (arith, less)))

  one_level : (d : ℕ) → level_at a d ≡ level_at b d
  one_level d =
      let first = no_less (level_at a d) (level_at b d) (below_one (level_at b d) (at_most_33 _ (of_b.few d)) d) in
      let second = no_less (level_at b d) (level_at a d) (sym (below_one (level_at a d) (at_most_33 _ (of_a.few d)) d)) in
      omega (arith, first, second)

  pub one_table : a ≡ b
  one_table = ext_get_or 33 a b (of_a.long ∙ sym of_b.long) (λ d within. one_level d)
