-- What the earlier refusals leave of a row.
use Rattle.std.proofs.Common.{◌≡◌, ℕ, zero, suc, ◌+◌, ◌<◌, ◌≤◌, ◌==◌, ◌||◌, Bool, true, false, cond, not, List, [], ◌∷◌, length, get_or, refl, sym, ap, ◌∙◌, arith, inl, inr, Option, Some, None}
use Rattle.std.specs.List.{list_any, list_all, count_by}
use Rattle.std.proofs.lemmas.Bool.{cases_lt}
use Rattle.std.proofs.lemmas.Bool.Decides.{eqb_tells}
use Rattle.std.proofs.lemmas.List.Folds.{list_any_at}
use Rattle.std.proofs.lemmas.List.Sums.{sum_by-cons}
use Rattle.std.proofs.lemmas.List.{get_or_past}
use Rattle.design_cell.specs.declared.symbol.Symbol.{Symbol}
use Rattle.design_cell.specs.declared.symbol.Symbol.TheVariants.{Single, Change}
use Rattle.design_cell.specs.declared.row.RawRow.{RawRow}
use Rattle.design_cell.specs.declared.value.Value.{Value}
use Rattle.design_cell.specs.declared.value.Value.TheVariants.{Zero}
use Rattle.design_cell.specs.Symbol.{is_edge, is_edge_letter, is_level, is_level_letter, output_letter, output_of}
use Rattle.design_cell.specs.Row.{symbol_at, state_symbol, row_at}
use Rattle.design_cell.specs.Refusal.{AreRows, has_length, has_symbols, has_one_edge, is_entry, has_state, is_state, is_output}
use Rattle.design_cell.specs.Meeting.{IsRow}
use Rattle.design_cell.specs.Sweep.{IsStateless, AreStateless}
use Rattle.design_cell.proofs.Booleans.{and_left, and_right, or_cases}

at_letter : (c k : ℕ) → is_edge_letter k ≡ false → (c == k) ≡ true → is_edge_letter c ≡ false
at_letter c k h e = elim (eqb_tells c k) as (λ _. is_edge_letter c ≡ false) [
  | inl p ↦ ap is_edge_letter p.1 ∙ h
  | inr p ↦ absurd (let g : true ≡ false = sym e ∙ p.0 in cc)
]

pub level_letter : (c : ℕ) → is_level_letter c ≡ true → is_edge_letter c ≡ false
level_letter c h =
    elim (or_cases (c == 48 || c == 49 || c == 120 || c == 88 || c == 63 || c == 98) (c == 66) h) as (λ _. is_edge_letter c ≡ false) [
      | inr e ↦ at_letter c 66 refl e
      | inl h ↦
          elim (or_cases (c == 48 || c == 49 || c == 120 || c == 88 || c == 63) (c == 98) h) as (λ _. is_edge_letter c ≡ false) [
            | inr e ↦ at_letter c 98 refl e
            | inl h ↦
                elim (or_cases (c == 48 || c == 49 || c == 120 || c == 88) (c == 63) h) as (λ _. is_edge_letter c ≡ false) [
                  | inr e ↦ at_letter c 63 refl e
                  | inl h ↦
                      elim (or_cases (c == 48 || c == 49 || c == 120) (c == 88) h) as (λ _. is_edge_letter c ≡ false) [
                        | inr e ↦ at_letter c 88 refl e
                        | inl h ↦
                            elim (or_cases (c == 48 || c == 49) (c == 120) h) as (λ _. is_edge_letter c ≡ false) [
                              | inr e ↦ at_letter c 120 refl e
                              | inl h ↦
                                  elim (or_cases (c == 48) (c == 49) h) as (λ _. is_edge_letter c ≡ false) [ inr e ↦ at_letter c 49 refl e | inl e ↦ at_letter c 48 refl e ]
                            ]
                      ]
                ]
          ]
    ]

level_symbol : (s : Symbol) → is_level s ≡ true → is_edge s ≡ false
unfolding is_edge
level_symbol (Single c) h = level_letter c h
level_symbol (Change a b) h = cc

state_level : (s : Option Symbol) → is_state s ≡ true → is_edge (state_symbol s) ≡ false
unfolding is_edge
state_level None h = refl
state_level (Some s) h = level_symbol s h

count_cons : (p : Symbol → Bool) (x : Symbol) (xs : List Symbol) → count_by p (x ∷ xs) ≡ cond (p x) 1 0 + count_by p xs
count_cons p x xs = sum_by-cons (λ y. cond (p y) 1 0) x xs

count_yes : (p : Symbol → Bool) (x : Symbol) (xs : List Symbol) → p x ≡ true → count_by p (x ∷ xs) ≡ 1 + count_by p xs
count_yes p x xs h = count_cons p x xs ∙ ap (λ b. cond b 1 0 + count_by p xs) h

count_more : (p : Symbol → Bool) (x : Symbol) (xs : List Symbol) → count_by p xs ≤ count_by p (x ∷ xs)
count_more p x xs = omega (arith, count_cons p x xs)

count_some : (p : Symbol → Bool) (xs : List Symbol) (d : Symbol) (i : ℕ) → i < length xs → p (get_or xs i d) ≡ true → 1 ≤ count_by p xs
count_some p [] d i within h = absurd (omega arith)
count_some p (x ∷ xs) d zero within h = omega (arith, count_yes p x xs h)
count_some p (x ∷ xs) d (suc i) within h = let k = count_some p xs d i (omega arith) h in omega (arith, count_more p x xs)

one_at : (p : Symbol → Bool) (xs : List Symbol) (d : Symbol) → count_by p xs ≤ 1 → (i j : ℕ) → i < length xs → j < length xs → p (get_or xs i d) ≡ true → p (get_or xs j d) ≡ true → i ≡ j
one_at p [] d few i j hi hj h k = absurd (omega arith)
one_at p (x ∷ xs) d few zero zero hi hj h k = refl
one_at p (x ∷ xs) d few zero (suc j) hi hj h k = absurd (let some = count_some p xs d j (omega arith) k in omega (arith, count_yes p x xs h))
one_at p (x ∷ xs) d few (suc i) zero hi hj h k = absurd (let some = count_some p xs d i (omega arith) h in omega (arith, count_yes p x xs k))
one_at p (x ∷ xs) d few (suc i) (suc j) hi hj h k = ap suc (one_at p xs d (omega (arith, count_more p x xs)) i j (omega arith) (omega arith) h k)

any_at : (p : Symbol → Bool) (xs : List Symbol) (d : Symbol) → list_any p xs ≡ true → (i : ℕ) × (i < length xs) × (p (get_or xs i d) ≡ true)
any_at p [] d h = cc
any_at p (x ∷ xs) d h = elim (or_cases (p x) (list_any p xs) h) as (λ _. (i : ℕ) × (i < length (x ∷ xs)) × (p (get_or (x ∷ xs) i d) ≡ true)) [
  | inl e ↦ (0, omega arith, e)
  | inr e ↦ (let f = any_at p xs d e in (suc f.0, omega (arith, f.1), f.2))
]

few_edges : (r : RawRow) → has_one_edge r ≡ true → count_by is_edge r.entries ≤ 1
unfolding has_one_edge
few_edges r h = elim (eqb_tells (count_by is_edge r.entries) 0) as (λ _. count_by is_edge r.entries ≤ 1) [
  | inl p ↦ omega (arith, p.1)
  | inr p ↦ elim (eqb_tells (count_by is_edge r.entries) 1) as (λ _. count_by is_edge r.entries ≤ 1) [
    | inl q ↦ omega (arith, q.1)
    | inr q ↦ absurd (let e = rw p.0 at h in let g : true ≡ false = sym e ∙ q.0 in cc)
  ]
]

length_is : (sequential : Bool) (n : ℕ) (r : RawRow) → has_length sequential n r ≡ true → length r.entries ≡ n
unfolding has_length
length_is sequential n r h = elim (eqb_tells (length r.entries) n) as (λ _. length r.entries ≡ n) [
  | inl p ↦ p.1
  | inr p ↦ absurd (let e = and_left (length r.entries == n) _ h in let g : true ≡ false = sym e ∙ p.0 in cc)
]

state_is : (sequential : Bool) (r : RawRow) → has_symbols sequential r ≡ true → is_state r.state ≡ true
unfolding has_symbols
state_is sequential r h = and_right _ (is_state r.state) (and_left _ (is_output sequential r.output) h)

inside : (r : RawRow) → is_state r.state ≡ true → (c : ℕ) → is_edge (symbol_at r c) ≡ true → c < length r.entries
inside r level c e = elim (cases_lt c (length r.entries)) as (λ _. c < length r.entries) [
  | inl h ↦ h
  | inr h ↦ absurd (let f = ap is_edge (get_or_past r.entries c (state_symbol r.state) h) in let k = state_level r.state level in let g : true ≡ false = sym e ∙ f ∙ k in cc)
]

pub is_row : (sequential : Bool) (n : ℕ) (r : RawRow) → has_length sequential n r ≡ true → has_symbols sequential r ≡ true → has_one_edge r ≡ true → IsRow n r
is_row sequential n r long symbols edges =
    let len = length_is sequential n r long in
    let level = state_is sequential r symbols in
    let few = few_edges r edges in
    record {
      one = λ c d h k. one_at is_edge r.entries (state_symbol r.state) few c d (inside r level c h) (inside r level d k) h k;
      state = ap is_edge (get_or_past r.entries n (state_symbol r.state) (omega (arith, len))) ∙ state_level r.state level;
      found = λ e. let f = any_at is_edge r.entries (state_symbol r.state) e in (f.0, omega (arith, f.1, len), f.2);
      kind = λ c below e. list_any_at is_edge r.entries c (state_symbol r.state) (inside r level c e) e;
    }

pub are_rows : (sequential : Bool) (n : ℕ) (rows : List RawRow) → AreRows sequential n rows → (k : ℕ) → k < length rows → IsRow n (row_at rows k)
are_rows sequential n rows good k below = is_row sequential n (row_at rows k) (good.lengths k below) (good.symbols k below) (good.edges k below)

or_false : (a : Bool) → (a || false) ≡ true → a ≡ true
or_false true h = refl
or_false false h = h

no_edge : (s : Symbol) → is_entry false s ≡ true → is_edge s ≡ false
unfolding is_edge
no_edge (Single c) h = level_letter c (or_false (is_level_letter c) h)
no_edge (Change a b) h = cc

pub no_edges : (symbols : List Symbol) → list_all (is_entry false) symbols ≡ true → list_any is_edge symbols ≡ false
no_edges [] h = refl
no_edges (s ∷ symbols) h =
    let here = no_edge s (and_left (is_entry false s) (list_all (is_entry false) symbols) h) in
    rw here (no_edges symbols (and_right (is_entry false s) (list_all (is_entry false) symbols) h))

-- An output other than '-' is one at each state.
same_output : (c : ℕ) (q : Value) → (c == 45) ≡ false → output_letter c q ≡ output_letter c Zero
same_output c q e = rw e refl

dash : (c k : ℕ) → (k == 45) ≡ false → (c == k) ≡ true → (c == 45) ≡ false
dash c k h e = elim (eqb_tells c k) as (λ _. (c == 45) ≡ false) [
  | inl p ↦ ap (λ x. x == 45) p.1 ∙ h
  | inr p ↦ absurd (let g : true ≡ false = sym e ∙ p.0 in cc)
]

no_dash : (c : ℕ) → is_output false (Single c) ≡ true → (c == 45) ≡ false
no_dash c h =
    elim (or_cases (c == 48 || c == 49 || c == 120 || c == 88) false h) as (λ _. (c == 45) ≡ false) [
      | inr e ↦ absurd (let g : false ≡ true = e in cc)
      | inl h ↦
          elim (or_cases (c == 48 || c == 49 || c == 120) (c == 88) h) as (λ _. (c == 45) ≡ false) [
            | inr e ↦ dash c 88 refl e
            | inl h ↦
                elim (or_cases (c == 48 || c == 49) (c == 120) h) as (λ _. (c == 45) ≡ false) [
                  | inr e ↦ dash c 120 refl e
                  | inl h ↦ elim (or_cases (c == 48) (c == 49) h) as (λ _. (c == 45) ≡ false) [ inr e ↦ dash c 49 refl e | inl e ↦ dash c 48 refl e ]
                ]
          ]
    ]

fixed_output : (s : Symbol) (q : Value) → is_output false s ≡ true → output_of s q ≡ output_of s Zero
fixed_output (Single c) q h = same_output c q (no_dash c h)
fixed_output (Change a b) q h = cc

no_state : (s : Option Symbol) → not (has_state s) ≡ true → state_symbol s ≡ Single 63
no_state None h = refl
no_state (Some s) h = cc

is_stateless : (n : ℕ) (r : RawRow) → has_length false n r ≡ true → has_symbols false r ≡ true → IsStateless n r
unfolding has_length has_symbols
is_stateless n r long symbols = record {
  level = no_edges r.entries (and_left _ (is_state r.state) (and_left _ (is_output false r.output) symbols));
  any = get_or_past r.entries n (state_symbol r.state) (omega (arith, length_is false n r long)) ∙ no_state r.state (and_right (length r.entries == n) _ long);
  fixed = λ q. fixed_output r.output q (and_right _ (is_output false r.output) symbols);
}

pub are_stateless : (sequential : Bool) (n : ℕ) (rows : List RawRow) → AreRows sequential n rows → AreStateless sequential n rows
are_stateless true n rows good = λ k below e. cc
are_stateless false n rows good = λ k below e. is_stateless n (row_at rows k) (good.lengths k below) (good.symbols k below)
