-- Words of the rows in conflict with a row.
use Rattle.std.proofs.Common.{◌≡◌, ℕ, ◌+◌, ◌-◌, ◌*◌, ◌/◌, ◌%◌, ◌<◌, ◌≤◌, ◌==◌, ◌&&◌, ◌||◌, ◌^◌, Bool, true, false, not, List, refl, sym, ap, ◌∙◌, arith, max, bit_and, bit_or, slice_index, slice_index_or, add-one, w64}
use Rattle.std.specs.Int.{bit_at}
use Rattle.std.proofs.lemmas.Nat.Bits.{bit_at_or, bit_at_not, bit_at-zero}
use Rattle.design_cell.specs.declared.value.Value.{Value}
use Rattle.design_cell.specs.declared.value.Value.TheVariants.{X}
use Rattle.design_cell.specs.declared.symbol.Symbol.{Symbol}
use Rattle.design_cell.specs.declared.row.RawRow.{RawRow}
use Rattle.design_cell.specs.declared.index.Block.{Block}
use Rattle.design_cell.specs.declared.probe.Probe.{Probe}
use Rattle.design_cell.specs.Probe.{IsProbe}
use Rattle.design_cell.specs.Below.{any_below}
use Rattle.design_cell.specs.Symbol.{fits, output_of}
use Rattle.design_cell.specs.Row.{symbol_at, is_edge_row, row_at}
use Rattle.design_cell.specs.Index.{code, value_of, flag, IsMask, IsBlock}
use Rattle.design_cell.specs.Meeting.{takes, meet_at, meet, meet_below, part_at, same_kind, is_conflict}
use Rattle.design_cell.proofs.Masks.{mask_and}

max_flags : (a b : Bool) → max (flag a) (flag b) ≡ flag (a || b)
max_flags true true = refl
max_flags true false = refl
max_flags false true = refl
max_flags false false = refl

flag_not : (b : Bool) → 1 - flag b ≡ flag (not b)
flag_not true = refl
flag_not false = refl

pub mask_or : (p r : ℕ → Bool) (a b : ℕ) → IsMask p a → IsMask r b → IsMask (λ i. p i || r i) (bit_or a b)
mask_or p r a b h k i small =
    let e = h i small in
    let f = k i small in
    bit_at_or a b i ∙ rw (e, f) (max_flags (p i) (r i))

pub mask_not : (p : ℕ → Bool) (a : ℕ) → a < 2 ^ 64 → IsMask p a → IsMask (λ i. not (p i)) (18446744073709551615 - a)
mask_not p a fit h i small =
    let e = h i small in
    bit_at_not w64 a i fit small ∙ rw e (flag_not (p i))

pub mask_none : IsMask (λ i. false) 0
mask_none i small = bit_at-zero i

flag_zero : (b r : Bool) → flag b ≡ 0 → 0 ≡ flag (b && r)
flag_zero true r h = absurd (omega arith)
flag_zero false r h = refl

pub mask_empty : (p r : ℕ → Bool) (a : ℕ) → a ≡ 0 → IsMask p a → IsMask (λ i. p i && r i) 0
mask_empty p r a e h i small = bit_at-zero i ∙ flag_zero (p i) (r i) (sym (h i small) ∙ ap (λ w. bit_at w i) e ∙ bit_at-zero i)

-- the rows of a row's kind
pub kind_edge : (row : RawRow) (rows : List RawRow) (base : ℕ) (b : Block) → is_edge_row row ≡ true → IsBlock rows base b → IsMask (λ i. same_kind row (row_at rows (base + i))) b.edges
kind_edge row rows base b edge is = λ i small. is.edges i small ∙ rw edge refl

pub kind_level : (row : RawRow) (rows : List RawRow) (base : ℕ) (b : Block) → is_edge_row row ≡ false → IsBlock rows base b → IsMask (λ i. same_kind row (row_at rows (base + i))) (18446744073709551615 - b.edges)
kind_level row rows base b level is = λ i small. mask_not (λ i. is_edge_row (row_at rows (base + i))) b.edges is.small is.edges i small ∙ rw level refl

-- the word of a column and a pair of values
pair_word : (rows : List RawRow) (base : ℕ) (b : Block) → IsBlock rows base b → (c pair : ℕ) → c < 11 → pair < 9 → IsMask (λ i. fits (symbol_at (row_at rows (base + i)) c) (value_of (pair / 3)) (value_of (pair % 3))) (slice_index b.masks (9 * c + pair))
pair_word rows base b is c pair few small_pair i small =
    let column : (9 * c + pair) / 9 ≡ c = omega arith in
    let old : (9 * c + pair) % 9 / 3 ≡ pair / 3 = omega arith in
    let new : (9 * c + pair) % 3 ≡ pair % 3 = omega arith in
    is.cells (9 * c + pair) (omega arith) i small ∙ ap flag (ap (λ k. fits (symbol_at (row_at rows (base + i)) k) (value_of ((9 * c + pair) % 9 / 3)) (value_of ((9 * c + pair) % 3))) column ∙ rw (old, new) refl)

pub taking_word : (s : Symbol) (rows : List RawRow) (base : ℕ) (b : Block) → IsBlock rows base b → (c pair : ℕ) → c < 11 → pair < 9 → takes s pair ≡ true → IsMask (λ i. meet_at s (symbol_at (row_at rows (base + i)) c) pair) (slice_index b.masks (9 * c + pair))
unfolding meet_at
taking_word s rows base b is c pair few small_pair taken i small = pair_word rows base b is c pair few small_pair i small ∙ rw taken refl

pub taking_none : (s : Symbol) (rows : List RawRow) (base : ℕ) (c pair : ℕ) → takes s pair ≡ false → IsMask (λ i. meet_at s (symbol_at (row_at rows (base + i)) c) pair) 0
unfolding meet_at
taking_none s rows base c pair open_ i small = bit_at-zero i ∙ rw open_ refl

-- what a probe holds of a column and a pair of values
pub taken_at : (inputs : ℕ) (row : RawRow) (probe : Probe) → IsProbe inputs row probe → (c pair : ℕ) → c < probe.inputs → pair < 9 → slice_index_or probe.takes (9 * c + pair) false ≡ takes (symbol_at row c) pair
taken_at inputs row probe is c pair below small =
    let column : (9 * c + pair) / 9 ≡ c = omega arith in
    let which : (9 * c + pair) % 9 ≡ pair = omega arith in
    is.pairs (9 * c + pair) (omega (arith, is.columns)) ∙ rw (column, which) refl

-- the word of the rows with another output at a state
pub parting_word : (inputs : ℕ) (row : RawRow) (rows : List RawRow) (base : ℕ) (b : Block) → IsBlock rows base b → (state k : ℕ) → inputs ≤ 10 → state < 3 → k < 3 → k ≡ code (output_of row.output (value_of state)) → fits (symbol_at row inputs) (value_of state) (value_of state) ≡ true → IsMask (λ i. part_at inputs row (row_at rows (base + i)) state) (bit_and (slice_index b.masks (inputs * 9 + state * 4)) (18446744073709551615 - slice_index b.outputs (state * 3 + k)))
unfolding part_at
parting_word inputs row rows base b is state k few small_state small_k k_is taken i small =
    let q = value_of state in
    let p = inputs * 9 + state * 4 in
    let o = state * 3 + k in
    let fit : IsMask (λ i. fits (symbol_at (row_at rows (base + i)) inputs) q q) (slice_index b.masks (inputs * 9 + state * 4)) = λ i small.
    let column : (inputs * 9 + state * 4) / 9 ≡ inputs = omega arith in
    let old : (inputs * 9 + state * 4) % 9 / 3 ≡ state = omega arith in
    let new : (inputs * 9 + state * 4) % 3 ≡ state = omega arith in
    is.cells (inputs * 9 + state * 4) (omega arith) i small ∙ ap flag (ap (λ k. fits (symbol_at (row_at rows (base + i)) k) (value_of ((inputs * 9 + state * 4) % 9 / 3)) (value_of ((inputs * 9 + state * 4) % 3))) column ∙ rw (old, new) refl) in
    let output : IsMask (λ i. code (output_of (row_at rows (base + i)).output q) == k) (slice_index b.outputs (state * 3 + k)) = λ i small.
    let at : (state * 3 + k) / 3 ≡ state = omega arith in
    let which : (state * 3 + k) % 3 ≡ k = omega arith in
    is.outputs_ (state * 3 + k) (omega arith) i small ∙ ap flag (rw (at, which) refl) in
    let other = mask_not (λ i. code (output_of (row_at rows (base + i)).output q) == k) (slice_index b.outputs (state * 3 + k)) (is.small_outputs (state * 3 + k) (omega arith)) output in
    mask_and _ _ _ _ fit other i small ∙ rw (taken, k_is) refl

pub probe_word : (inputs : ℕ) (row : RawRow) (rows : List RawRow) (base : ℕ) (b : Block) (probe : Probe) → IsProbe inputs row probe → IsBlock rows base b → (state k : ℕ) (output : Value) → probe.inputs ≤ 10 → state < 3 → k < 3 → output ≡ slice_index_or probe.outputs state X → k ≡ code output → slice_index_or probe.states state false ≡ true → IsMask (λ i. part_at inputs row (row_at rows (base + i)) state) (bit_and (slice_index b.masks (probe.inputs * 9 + state * 4)) (18446744073709551615 - slice_index b.outputs (state * 3 + k)))
probe_word inputs row rows base b probe is block state k output few small_state small_k output_is k_is taken =
    let inputs_few : inputs ≤ 10 = omega (arith, is.columns) in
    rw is.columns (parting_word inputs row rows base b block state k inputs_few small_state small_k (k_is ∙ ap code (output_is ∙ is.gives state small_state)) (sym (is.stands state small_state) ∙ taken))

pub parting_none : (inputs : ℕ) (row : RawRow) (rows : List RawRow) (base state : ℕ) → fits (symbol_at row inputs) (value_of state) (value_of state) ≡ false → IsMask (λ i. part_at inputs row (row_at rows (base + i)) state) 0
unfolding part_at
parting_none inputs row rows base state open_ i small = bit_at-zero i ∙ rw open_ refl

-- one number more below an end
pub any_more : (test : ℕ → ℕ → Bool) (n a b : ℕ) → IsMask (λ i. any_below n (test i)) a → IsMask (λ i. test i n) b → IsMask (λ i. any_below (n + 1) (test i)) (bit_or a b)
any_more test n a b h k = rw add-one (mask_or (λ i. any_below n (test i)) (λ i. test i n) a b h k)

pub meet_more : (row : RawRow) (rows : List RawRow) (base n a b : ℕ) → IsMask (λ i. meet_below n row (row_at rows (base + i))) a → IsMask (λ i. meet (symbol_at row n) (symbol_at (row_at rows (base + i)) n)) b → IsMask (λ i. meet_below (n + 1) row (row_at rows (base + i))) (bit_and a b)
meet_more row rows base n a b h k = rw add-one (mask_and (λ i. meet_below n row (row_at rows (base + i))) (λ i. meet (symbol_at row n) (symbol_at (row_at rows (base + i)) n)) a b h k)

pub conflict_word : (inputs : ℕ) (row : RawRow) (rows : List RawRow) (base a b d : ℕ) → IsMask (λ i. same_kind row (row_at rows (base + i))) a → IsMask (λ i. any_below 3 (part_at inputs row (row_at rows (base + i)))) b → IsMask (λ i. meet_below inputs row (row_at rows (base + i))) d → IsMask (λ i. is_conflict inputs row (row_at rows (base + i))) (bit_and (bit_and a b) d)
unfolding is_conflict
conflict_word inputs row rows base a b d kind part meets = mask_and (λ i. same_kind row (row_at rows (base + i)) && any_below 3 (part_at inputs row (row_at rows (base + i)))) (λ i. meet_below inputs row (row_at rows (base + i))) (bit_and a b) d (mask_and (λ i. same_kind row (row_at rows (base + i))) (λ i. any_below 3 (part_at inputs row (row_at rows (base + i)))) a b kind part) meets

pub conflict_none : (inputs : ℕ) (row : RawRow) (rows : List RawRow) (base a b : ℕ) → bit_and a b ≡ 0 → IsMask (λ i. same_kind row (row_at rows (base + i))) a → IsMask (λ i. any_below 3 (part_at inputs row (row_at rows (base + i)))) b → IsMask (λ i. is_conflict inputs row (row_at rows (base + i))) 0
unfolding is_conflict
conflict_none inputs row rows base a b empty kind part = mask_empty (λ i. same_kind row (row_at rows (base + i)) && any_below 3 (part_at inputs row (row_at rows (base + i)))) (λ i. meet_below inputs row (row_at rows (base + i))) (bit_and a b) empty (mask_and (λ i. same_kind row (row_at rows (base + i))) (λ i. any_below 3 (part_at inputs row (row_at rows (base + i)))) a b kind part)
