-- Rows that clash in a sweep are in conflict, and rows in conflict clash in one.
use Rattle.std.proofs.Common.{◌≡◌, ℕ, suc, ◌+◌, ◌*◌, ◌-◌, ◌/◌, ◌%◌, ◌<◌, ◌≤◌, ◌==◌, Bool, true, false, cond, not, List, length, refl, sym, ap, ◌∙◌, arith, min, inl, inr, add-one, subst, Option, Some, None, ◌⊎◌}
use lib.Dec.{ltb}
use Rattle.std.proofs.lemmas.Bool.{cases_lt, lt-ltb, le-ltb}
use Rattle.std.proofs.lemmas.Bool.Decides.{eqb_tells}
use Rattle.design_cell.specs.declared.value.Value.{Value}
use Rattle.design_cell.specs.declared.value.Value.TheVariants.{Zero}
use Rattle.design_cell.specs.declared.symbol.Symbol.{Symbol}
use Rattle.design_cell.specs.declared.symbol.Symbol.TheVariants.{Single}
use Rattle.design_cell.specs.declared.row.RawRow.{RawRow}
use Rattle.design_cell.specs.declared.row.Changed.{Changed}
use Rattle.design_cell.specs.declared.sweep.Sweep.{Sweep}
use Rattle.design_cell.specs.Symbol.{fits, is_edge, output_of}
use Rattle.design_cell.specs.Row.{symbol_at, is_edge_row, row_at, before, fits_below}
use Rattle.design_cell.specs.Conflict.{AreInConflict, NoneFrom, NoConflict, IsFirstConflict, IsPinBelow}
use Rattle.design_cell.specs.Index.{code, value_of, IsFirst, IsFirstBelow}
use Rattle.design_cell.specs.Meeting.{IsRow, is_conflict}
use Rattle.design_cell.specs.Sweep.{accepts, takes_part, is_turned, changed_of, sweep_of, sweep_count, Clash, Differ, IsFirstIn, FirstIn, FirstToDiffer, IsStateless, AreStateless, earlier_of}
use Rattle.design_cell.proofs.Booleans.{and_both, and_left, and_right, fits_from, fits_to, last}
use Rattle.design_cell.proofs.Masks.{fits_code, code_small}
use Rattle.design_cell.proofs.Conflicts.{cases_bool, level_stays, output_same, output_code, moved, sound, complete}
use Rattle.design_cell.proofs.Pairs.{symmetric, irreflexive}

-- what was before a change, by the value after it
before_at : (changed : Option Changed) (new : ℕ → Value) (v : Value) (c : ℕ) → new c ≡ v → before changed new c ≡ before changed (λ _. v) c
before_at None new v c e = e
before_at (Some t) new v c e = ap (cond (c == t.pin) t.old) e

before_state : (changed : Option Changed) (new : ℕ → Value) (n : ℕ) → IsPinBelow n changed → before changed new n ≡ new n
before_state None new n pin = refl
before_state (Some t) new n pin = elim (eqb_tells n t.pin) as (λ _. cond (n == t.pin) t.old (new n) ≡ new n) [
  | inl p ↦ absurd (omega (arith, p.1, pin))
  | inr p ↦ rw p.0 refl
]

column_fits : (n : ℕ) (sweep : Sweep) (row : RawRow) (c d : ℕ) → c < n → accepts n sweep row c d ≡ true → fits (symbol_at row c) (before sweep.changed (λ _. value_of d) c) (value_of d) ≡ true
unfolding accepts
column_fits n sweep row c d below h = let e : ltb c n ≡ true = lt-ltb c n below in rw e at h

fits_column : (n : ℕ) (sweep : Sweep) (row : RawRow) (c d : ℕ) → c < n → fits (symbol_at row c) (before sweep.changed (λ _. value_of d) c) (value_of d) ≡ true → accepts n sweep row c d ≡ true
unfolding accepts
fits_column n sweep row c d below h = let e : ltb c n ≡ true = lt-ltb c n below in rw e h

past_column : (n : ℕ) (sweep : Sweep) (row : RawRow) (c : ℕ) → n ≤ c → accepts n sweep row c 0 ≡ true
unfolding accepts
past_column n sweep row c le = let e : ltb c n ≡ false = le-ltb c n le in rw e refl

-- the values of a case
values_of : ℕ → Value → (ℕ → ℕ) → ℕ → Value
values_of n q case c = cond (c == n) q (value_of (case c))

values_below : (n : ℕ) (q : Value) (case : ℕ → ℕ) (c : ℕ) → c < n → values_of n q case c ≡ value_of (case c)
unfolding values_of
values_below n q case c below = elim (eqb_tells c n) as (λ _. values_of n q case c ≡ value_of (case c)) [
  | inl p ↦ absurd (omega (arith, p.1))
  | inr p ↦ rw p.0 refl
]

values_here : (n : ℕ) (q : Value) (case : ℕ → ℕ) → values_of n q case n ≡ q
unfolding values_of
values_here n q case = elim (eqb_tells n n) as (λ _. values_of n q case n ≡ q) [
  | inl p ↦ rw p.0 refl
  | inr p ↦ absurd (p.1 refl)
]

row_matches : (n : ℕ) (sweep : Sweep) (row : RawRow) (case : ℕ → ℕ) → n ≤ 10 → IsPinBelow n sweep.changed → takes_part n sweep row ≡ true → ((c : ℕ) → c < 10 → accepts n sweep row c (case c) ≡ true) → fits_below (n + 1) row (before sweep.changed (values_of n sweep.state case)) (values_of n sweep.state case) ≡ true
row_matches n sweep row case few pin part takes =
    let new = values_of n sweep.state case in
    let here : values_of n sweep.state case n ≡ sweep.state = values_here n sweep.state case in
    let was : before sweep.changed (values_of n sweep.state case) n ≡ sweep.state = before_state sweep.changed new n pin ∙ here in
    let state = and_right (is_turned sweep.changed row) (fits (symbol_at row n) sweep.state sweep.state) part in
    let columns : (c : ℕ) → c < suc n → fits (symbol_at row c) (before sweep.changed (values_of n sweep.state case) c) (values_of n sweep.state case c) ≡ true = λ c below. elim (last c n below) as (λ _. fits (symbol_at row c) (before sweep.changed (values_of n sweep.state case) c) (values_of n sweep.state case c) ≡ true) [
      | inl lt ↦ (let e = values_below n sweep.state case c lt in let f = before_at sweep.changed new (value_of (case c)) c e in rw (f, e) (column_fits n sweep row c (case c) lt (takes c (omega arith))))
      | inr e ↦ subst (λ k. fits (symbol_at row k) (before sweep.changed (values_of n sweep.state case) k) (values_of n sweep.state case k) ≡ true) (sym e) (rw (was, here) state)
    ] in
    rw add-one (fits_from (suc n) row _ _ columns)

is_false : (a : Bool) → not a ≡ true → a ≡ false
is_false true h = cc
is_false false h = refl

kind_of : (n : ℕ) (changed : Option Changed) (row other : RawRow) → IsRow n row → IsRow n other → IsPinBelow n changed → is_turned changed row ≡ true → is_turned changed other ≡ true → is_edge_row row ≡ is_edge_row other
kind_of n None row other r s pin h k = is_false (is_edge_row row) h ∙ sym (is_false (is_edge_row other) k)
kind_of n (Some t) row other r s pin h k = r.kind t.pin pin h ∙ sym (s.kind t.pin pin k)

pub clash_conflicts : (n : ℕ) (sweep : Sweep) (row other : RawRow) → n ≤ 10 → IsRow n row → IsRow n other → IsPinBelow n sweep.changed → Clash n sweep row other → AreInConflict n row other
clash_conflicts n sweep row other few r s pin k =
    let here = values_here n sweep.state k.case in
    record {
      changed = sweep.changed;
      new = values_of n sweep.state k.case;
      pin = pin;
      kind = kind_of n sweep.changed row other r s pin (and_left (is_turned sweep.changed row) _ k.first) (and_left (is_turned sweep.changed other) _ k.second);
      first = row_matches n sweep row k.case few pin k.first k.first_takes;
      second = row_matches n sweep other k.case few pin k.second k.second_takes;
      apart = λ e. k.apart (ap code (sym (ap (output_of row.output) here) ∙ e ∙ ap (output_of other.output) here));
    }

-- the number of a sweep gives a pin that is an input
pin_below : (n number : ℕ) → number < 3 * n + 1 → IsPinBelow n (changed_of number)
pin_below n number h = elim (eqb_tells number 0) as (λ _. IsPinBelow n (changed_of number)) [
  | inl e ↦ rw e.0 tt
  | inr e ↦ (let some : (number - 1) / 3 < n = omega (arith, e.1) in rw e.0 some)
]

count_below : (sequential : Bool) (n : ℕ) → sweep_count sequential n ≤ 9 * n + 3
count_below true n = omega arith
count_below false n = omega arith

pub differ_conflicts : (sequential : Bool) (n : ℕ) (rows : List RawRow) → n ≤ 10 → ((k : ℕ) → k < length rows → IsRow n (row_at rows k)) → (i j : ℕ) → i < j → j < length rows → Differ n rows (sweep_count sequential n) i j → AreInConflict n (row_at rows i) (row_at rows j)
differ_conflicts sequential n rows few all i j lt below d =
    clash_conflicts n (sweep_of d.0) (row_at rows i) (row_at rows j) few (all i (omega arith)) (all j below) (pin_below n (d.0 / 3) (omega (arith, d.1, count_below sequential n))) d.2

-- the digits of a case, 0 behind the inputs
digits_of : ℕ → (ℕ → Value) → ℕ → ℕ
digits_of n new c = cond (ltb c n) (code (new c)) 0

digits_small : (n : ℕ) (new : ℕ → Value) (c : ℕ) → digits_of n new c < 3
unfolding digits_of
digits_small n new c = elim (cases_lt c n) as (λ _. digits_of n new c < 3) [
  | inl lt ↦ (let e : ltb c n ≡ true = lt-ltb c n lt in rw e (code_small (new c)))
  | inr ge ↦ (let e : ltb c n ≡ false = le-ltb c n ge in rw e (omega arith))
]

digits_take : (n : ℕ) (sweep : Sweep) (row : RawRow) (new : ℕ → Value) → ((c : ℕ) → c < n → fits (symbol_at row c) (before sweep.changed (λ _. value_of (code (new c))) c) (value_of (code (new c))) ≡ true) → (c : ℕ) → c < 10 → accepts n sweep row c (digits_of n new c) ≡ true
unfolding digits_of
digits_take n sweep row new h c below = elim (cases_lt c n) as (λ _. accepts n sweep row c (digits_of n new c) ≡ true) [
  | inl lt ↦ (let e : ltb c n ≡ true = lt-ltb c n lt in rw e (fits_column n sweep row c (code (new c)) lt (h c lt)))
  | inr ge ↦ (let e : ltb c n ≡ false = le-ltb c n ge in rw e (past_column n sweep row c ge))
]

-- a clash of rows that fit a case, at the codes of its values
clash_of : (n : ℕ) (sweep : Sweep) (row other : RawRow) (new : ℕ → Value) → sweep.state ≡ value_of (code (new n)) → is_turned sweep.changed row ≡ true → is_turned sweep.changed other ≡ true → fits (symbol_at row n) (new n) (new n) ≡ true → fits (symbol_at other n) (new n) (new n) ≡ true → ((c : ℕ) → c < n → fits (symbol_at row c) (before sweep.changed (λ _. value_of (code (new c))) c) (value_of (code (new c))) ≡ true) → ((c : ℕ) → c < n → fits (symbol_at other c) (before sweep.changed (λ _. value_of (code (new c))) c) (value_of (code (new c))) ≡ true) → (output_of row.output (new n) ≡ output_of other.output (new n) → ⊥) → Clash n sweep row other
clash_of n sweep row other new q h k hq kq first second apart =
    let v = new n in
    let fr = fits_code (symbol_at row n) v v ∙ hq in
    let fs = fits_code (symbol_at other n) v v ∙ kq in
    record {
      first = and_both _ _ h (subst (λ (w : Value). fits (symbol_at row n) w w ≡ true) (sym q) fr);
      second = and_both _ _ k (subst (λ (w : Value). fits (symbol_at other n) w w ≡ true) (sym q) fs);
      case = digits_of n new;
      small = digits_small n new;
      first_takes = digits_take n sweep row new first;
      second_takes = digits_take n sweep other new second;
      apart = λ e. apart (
          let f = output_same row.output other.output sweep.state e in
          let a : output_of row.output sweep.state ≡ output_of row.output (new n) = ap (output_of row.output) q ∙ output_code row.output v in
          let b : output_of other.output sweep.state ≡ output_of other.output (new n) = ap (output_of other.output) q ∙ output_code other.output v in
          sym a ∙ f ∙ b);
    }

record Fitting (n : ℕ) (row : RawRow) (changed : Option Changed) (new : ℕ → Value) : Type 0 where
  columns : (c : ℕ) → c < n → fits (symbol_at row c) (before changed new c) (new c) ≡ true
  state : fits (symbol_at row n) (new n) (new n) ≡ true

fitting : (n : ℕ) (row : RawRow) (changed : Option Changed) (new : ℕ → Value) → IsRow n row → fits_below (n + 1) row (before changed new) new ≡ true → Fitting n row changed new
fitting n row changed new r h =
    let all : fits_below (suc n) row (before changed new) new ≡ true = rw add-one at h in
    let each = fits_to (suc n) row (before changed new) new all in
    record {
      columns = λ c below. each c (omega arith);
      state = level_stays (symbol_at row n) (before changed new n) (new n) r.state (each n (omega arith));
    }

no_edge : (n : ℕ) (row : RawRow) → IsRow n row → is_edge_row row ≡ false → (c : ℕ) → c < n → is_edge (symbol_at row c) ≡ false
no_edge n row r level c below = elim (cases_bool (is_edge (symbol_at row c))) as (λ _. is_edge (symbol_at row c) ≡ false) [
  | inr e ↦ e
  | inl e ↦ absurd (let g : true ≡ false = sym (r.kind c below e) ∙ level in cc)
]

level_column : (n : ℕ) (row : RawRow) (changed : Option Changed) (new : ℕ → Value) → IsRow n row → is_edge_row row ≡ false → Fitting n row changed new → (c : ℕ) → c < n → fits (symbol_at row c) (value_of (code (new c))) (value_of (code (new c))) ≡ true
level_column n row changed new r level f c below =
    fits_code (symbol_at row c) (new c) (new c) ∙ level_stays (symbol_at row c) (before changed new c) (new c) (no_edge n row r level c below) (f.columns c below)

edge_column : (n : ℕ) (row : RawRow) (t : Changed) (new : ℕ → Value) → Fitting n row (Some t) new → (c : ℕ) → c < n → fits (symbol_at row c) (cond (c == t.pin) (value_of (code t.old)) (value_of (code (new c)))) (value_of (code (new c))) ≡ true
edge_column n row t new f c below =
    let h = f.columns c below in
    elim (eqb_tells c t.pin) as (λ _. fits (symbol_at row c) (cond (c == t.pin) (value_of (code t.old)) (value_of (code (new c)))) (value_of (code (new c))) ≡ true) [
      | inl p ↦ rw p.0 (fits_code (symbol_at row c) t.old (new c) ∙ (rw p.0 at h))
      | inr p ↦ rw p.0 (fits_code (symbol_at row c) (new c) (new c) ∙ (rw p.0 at h))
    ]

edge_here : (n : ℕ) (row : RawRow) (t : Changed) (new : ℕ → Value) → IsRow n row → is_edge_row row ≡ true → Fitting n row (Some t) new → (t.pin < n) × (is_edge (symbol_at row t.pin) ≡ true)
edge_here n row t new r edge f =
    let at = r.found edge in
    let same : at.0 ≡ t.pin = moved (Some t) new (symbol_at row at.0) at.0 at.2 (f.columns at.0 at.1) in
    (omega (arith, same, at.1), ap (λ c. is_edge (symbol_at row c)) (sym same) ∙ at.2)

level_clash : (n : ℕ) (row other : RawRow) (case : AreInConflict n row other) → IsRow n row → IsRow n other → is_edge_row row ≡ false → Fitting n row case.changed case.new → Fitting n other case.changed case.new → (t : ℕ) × (t < 9 * n + 3) × Clash n (sweep_of t) row other
level_clash n row other case r s level f g =
    let new = case.new in
    let q = code (case.new n) in
    let small : code (case.new n) < 3 = code_small (case.new n) in
    let zero_ : code (case.new n) / 3 ≡ 0 = omega arith in
    let rest : code (case.new n) % 3 ≡ code (case.new n) = omega arith in
    let none : changed_of (code (case.new n) / 3) ≡ None = ap changed_of zero_ in
    let state : value_of (code (case.new n) % 3) ≡ value_of (code (case.new n)) = ap value_of rest in
    let either = sym case.kind ∙ level in
    let start : Clash n (record { changed = None; state = value_of (code (case.new n)) }) row other = clash_of n (record { changed = None; state = value_of (code (case.new n)) }) row other new refl (ap not level) (ap not either) f.state g.state (level_column n row case.changed new r level f) (level_column n other case.changed new s either g) case.apart in
    let same : sweep_of (code (case.new n)) ≡ record { changed = None; state = value_of (code (case.new n)) } = rw (none, state) refl in
    (q, omega (arith, small), subst (λ (w : Sweep). Clash n w row other) (sym same) start)

turned_of : (m pin d : ℕ) → m ≡ suc (3 * pin + d) → d < 3 → changed_of m ≡ Some (record { pin = pin; old = value_of d })
turned_of m pin d is small = elim (eqb_tells m 0) as (λ _. changed_of m ≡ Some (record { pin = pin; old = value_of d })) [
  | inl p ↦ absurd (omega (arith, p.1))
  | inr p ↦ (let e : (m - 1) / 3 ≡ pin = omega arith in let f : (m - 1) % 3 ≡ d = omega arith in rw (p.0, e, f) refl)
]

edge_clash : (n : ℕ) (row other : RawRow) (changed : Option Changed) (new : ℕ → Value) → IsRow n row → IsRow n other → is_edge_row row ≡ true → is_edge_row other ≡ true → Fitting n row changed new → Fitting n other changed new → (output_of row.output (new n) ≡ output_of other.output (new n) → ⊥) → (t : ℕ) × (t < 9 * n + 3) × Clash n (sweep_of t) row other
edge_clash n row other None new r s edge either f g apart =
    let at = r.found edge in
    absurd (moved None new (symbol_at row at.0) at.0 at.2 (f.columns at.0 at.1))
edge_clash n row other (Some t) new r s edge either f g apart =
    let a = code t.old in
    let q = code (new n) in
    let ha : code t.old < 3 = code_small t.old in
    let hq : code (new n) < 3 = code_small (new n) in
    let here = edge_here n row t new r edge f in
    let there = edge_here n other t new s either g in
    let number = 9 * t.pin + 3 * code t.old + 3 + code (new n) in
    let top : number / 3 ≡ suc (3 * t.pin + code t.old) = omega arith in
    let rest : number % 3 ≡ code (new n) = omega arith in
    let turned : changed_of (number / 3) ≡ Some (record { pin = t.pin; old = value_of (code t.old) }) = turned_of (number / 3) t.pin (code t.old) top ha in
    let state : value_of (number % 3) ≡ value_of (code (new n)) = ap value_of rest in
    let sweep : Sweep = record { changed = Some (record { pin = t.pin; old = value_of (code t.old) }); state = value_of (code (new n)) } in
    let start : Clash n sweep row other = clash_of n sweep row other new refl here.1 there.1 f.state g.state (edge_column n row t new f) (edge_column n other t new g) apart in
    let same : sweep_of number ≡ sweep = rw (turned, state) refl in
    (number, omega (arith, here.0), subst (λ (w : Sweep). Clash n w row other) (sym same) start)

any_clash : (n : ℕ) (row other : RawRow) → IsRow n row → IsRow n other → AreInConflict n row other → (t : ℕ) × (t < 9 * n + 3) × Clash n (sweep_of t) row other
any_clash n row other r s case =
    let f = fitting n row case.changed case.new r case.first in
    let g = fitting n other case.changed case.new s case.second in
    elim (cases_bool (is_edge_row row)) as (λ _. (t : ℕ) × (t < 9 * n + 3) × Clash n (sweep_of t) row other) [
      | inl e ↦ edge_clash n row other case.changed case.new r s e (sym case.kind ∙ e) f g case.apart
      | inr e ↦ level_clash n row other case r s e f g
    ]

-- the same values with the state at 0
at_zero : ℕ → (ℕ → Value) → ℕ → Value
at_zero n new c = cond (c == n) Zero (new c)

zero_below : (n : ℕ) (new : ℕ → Value) (c : ℕ) → c < n → at_zero n new c ≡ new c
unfolding at_zero
zero_below n new c below = elim (eqb_tells c n) as (λ _. at_zero n new c ≡ new c) [
  | inl p ↦ absurd (omega (arith, p.1))
  | inr p ↦ rw p.0 refl
]

zero_here : (n : ℕ) (new : ℕ → Value) → at_zero n new n ≡ Zero
unfolding at_zero
zero_here n new = elim (eqb_tells n n) as (λ _. at_zero n new n ≡ Zero) [
  | inl p ↦ rw p.0 refl
  | inr p ↦ absurd (p.1 refl)
]

any_state : (s : Symbol) → s ≡ Single 63 → fits s Zero Zero ≡ true
unfolding fits
any_state s e = rw e refl

state_zero : (n : ℕ) (row : RawRow) (new : ℕ → Value) → IsStateless n row → fits (symbol_at row n) (at_zero n new n) (at_zero n new n) ≡ true
state_zero n row new t = let e = zero_here n new in rw e (any_state (symbol_at row n) t.any)

column_zero : (n : ℕ) (row : RawRow) (changed : Option Changed) (new : ℕ → Value) → IsRow n row → IsStateless n row → Fitting n row changed new → (c : ℕ) → c < n → fits (symbol_at row c) (value_of (code (at_zero n new c))) (value_of (code (at_zero n new c))) ≡ true
column_zero n row changed new r t f c below = let e = zero_below n new c below in rw e (level_column n row changed new r t.level f c below)

stateless_clash : (n : ℕ) (row other : RawRow) → IsRow n row → IsRow n other → IsStateless n row → IsStateless n other → AreInConflict n row other → Clash n (sweep_of 0) row other
stateless_clash n row other r s a b case =
    let new = case.new in
    let f = fitting n row case.changed case.new r case.first in
    let g = fitting n other case.changed case.new s case.second in
    let here : at_zero n case.new n ≡ Zero = zero_here n new in
    let state : Zero ≡ value_of (code (at_zero n case.new n)) = rw here refl in
    clash_of n (sweep_of 0) row other (at_zero n new) state (ap not a.level) (ap not b.level) (state_zero n row new a) (state_zero n other new b) (column_zero n row case.changed new r a f) (column_zero n other case.changed new s b g) (λ e. case.apart (a.fixed (new n) ∙ sym (ap (output_of row.output) here) ∙ e ∙ ap (output_of other.output) here ∙ sym (b.fixed (new n))))

pub conflict_clashes : (sequential : Bool) (n : ℕ) (row other : RawRow) → IsRow n row → IsRow n other → (sequential ≡ false → IsStateless n row) → (sequential ≡ false → IsStateless n other) → AreInConflict n row other → (t : ℕ) × (t < sweep_count sequential n) × Clash n (sweep_of t) row other
conflict_clashes true n row other r s a b case = any_clash n row other r s case
conflict_clashes false n row other r s a b case = (0, omega arith, stateless_clash n row other r s (a refl) (b refl) case)

-- the first of two relations together is the earlier of the first ones of each
pub first_joined : (R S T : ℕ → ℕ → Type 0) (start end : ℕ) (a b : Option ℕ) → ((i j : ℕ) → T i j → (R i j) ⊎ (S i j)) → ((i j : ℕ) → R i j → T i j) → ((i j : ℕ) → S i j → T i j) → FirstIn R start end a → FirstIn S start end b → FirstIn T start end (earlier_of a b)
first_joined R S T start end None None split left right ha hb = λ i j from after below t. elim (split i j t) as (λ _. ⊥) [
  | inl r ↦ ha i j from after below r
  | inr s ↦ hb i j from after below s
]
first_joined R S T start end None (Some k) split left right ha hb = record {
  from = hb.from;
  second = hb.second;
  after = hb.after;
  below = hb.below;
  here = right k hb.second hb.here;
  earlier = λ i j from lt after below t. elim (split i j t) as (λ _. ⊥) [
    | inl r ↦ ha i j from after below r
    | inr s ↦ hb.earlier i j from lt after below s
  ];
}
first_joined R S T start end (Some k) None split left right ha hb = record {
  from = ha.from;
  second = ha.second;
  after = ha.after;
  below = ha.below;
  here = left k ha.second ha.here;
  earlier = λ i j from lt after below t. elim (split i j t) as (λ _. ⊥) [
    | inl r ↦ ha.earlier i j from lt after below r
    | inr s ↦ hb i j from after below s
  ];
}
first_joined R S T start end (Some k) (Some m) split left right ha hb = elim (cases_lt k m) as (λ _. IsFirstIn T start end (min k m)) [
  | inl lt ↦ (let e : k ≡ min k m = omega arith in subst (IsFirstIn T start end) e (record {
    from = ha.from;
    second = ha.second;
    after = ha.after;
    below = ha.below;
    here = left k ha.second ha.here;
    earlier = λ i j from here after below t. elim (split i j t) as (λ _. ⊥) [
      | inl r ↦ ha.earlier i j from here after below r
      | inr s ↦ hb.earlier i j from (omega arith) after below s
    ];
  }))
  | inr ge ↦ (let e : m ≡ min k m = omega arith in subst (IsFirstIn T start end) e (record {
    from = hb.from;
    second = hb.second;
    after = hb.after;
    below = hb.below;
    here = right m hb.second hb.here;
    earlier = λ i j from here after below t. elim (split i j t) as (λ _. ⊥) [
      | inl r ↦ ha.earlier i j from (omega arith) after below r
      | inr s ↦ hb.earlier i j from here after below s
    ];
  }))
]

-- a sweep more
pub sweep_more : (n : ℕ) (rows : List RawRow) (number : ℕ) (first found : Option ℕ) → FirstIn (Differ n rows number) 0 (length rows) first → FirstIn (λ i j. Clash n (sweep_of number) (row_at rows i) (row_at rows j)) 0 (length rows) found → FirstIn (Differ n rows (number + 1)) 0 (length rows) (earlier_of first found)
sweep_more n rows number first found h k =
    let Here : ℕ → ℕ → Type 0 = λ i j. Clash n (sweep_of number) (row_at rows i) (row_at rows j) in
    first_joined (Differ n rows number) Here (Differ n rows (number + 1)) 0 (length rows) first found
    (λ i j d. let below : d.0 < suc number = omega (arith, d.1) in elim (last d.0 number below) as (λ _. Differ n rows number i j ⊎ Clash n (sweep_of number) (row_at rows i) (row_at rows j)) [
      | inl lt ↦ inl (d.0, lt, d.2)
      | inr e ↦ inr (subst (λ t. Clash n (sweep_of t) (row_at rows i) (row_at rows j)) e d.2)
    ])
    (λ i j d. (d.0, omega (arith, d.1), d.2))
    (λ i j c. (number, omega arith, c))
    h k

pub none_differ : (sequential : Bool) (n : ℕ) (rows : List RawRow) → ((k : ℕ) → k < length rows → IsRow n (row_at rows k)) → AreStateless sequential n rows → FirstToDiffer sequential n rows None → NoConflict n rows
none_differ sequential n rows all states none i below j after until case = none i j (omega arith) after until (conflict_clashes sequential n (row_at rows i) (row_at rows j) (all i below) (all j until) (states i below) (states j until) case)

-- a row in conflict with one behind it is in conflict with some row
pub some_second : (sequential : Bool) (n : ℕ) (rows : List RawRow) (k : ℕ) → n ≤ 10 → ((k : ℕ) → k < length rows → IsRow n (row_at rows k)) → FirstToDiffer sequential n rows (Some k) → IsFirstBelow (is_conflict n (row_at rows k)) rows (length rows) None → ⊥
some_second sequential n rows k few all first none =
    let case = differ_conflicts sequential n rows few all k first.second first.after first.below first.here in
    let is = complete n (row_at rows k) (row_at rows first.second) (all k (omega (arith, first.after, first.below))) (all first.second first.below) case in
    let no : true ≡ false = sym is ∙ none first.second first.below in
    cc

pub first_pair : (sequential : Bool) (n : ℕ) (rows : List RawRow) (k j : ℕ) → ((k : ℕ) → k < length rows → IsRow n (row_at rows k)) → AreStateless sequential n rows → FirstToDiffer sequential n rows (Some k) → IsFirst (is_conflict n (row_at rows k)) rows j → IsFirstConflict n rows k j
first_pair sequential n rows k j all states first second =
    let within : k < length rows = omega (arith, first.after, first.below) in
    let case = sound n (row_at rows k) (row_at rows j) (all k within) second.here in
    let earlier : (i : ℕ) → i < k → NoneFrom n rows i (length rows) = λ i lt m after until other. first.earlier i m (omega arith) lt after until (conflict_clashes sequential n (row_at rows i) (row_at rows m) (all i (omega arith)) (all m until) (states i (omega arith)) (states m until) other) in
    record {
      order = elim (cases_lt k j) as (λ _. k < j) [
        | inl lt ↦ lt
        | inr ge ↦ absurd (elim (cases_lt j k) as (λ _. ⊥) [
          | inl lt ↦ earlier j lt k lt within (symmetric n (row_at rows k) (row_at rows j) case)
          | inr le ↦ (let same : k ≡ j = omega arith in irreflexive n (row_at rows k) (row_at rows j) (ap (row_at rows) same) case)
        ])
      ];
      within = second.within;
      here = case;
      same_row = λ m after until other. (let is = complete n (row_at rows k) (row_at rows m) (all k within) (all m (omega (arith, second.within))) other in let no : true ≡ false = sym is ∙ second.earlier m until in cc);
      earlier = earlier;
    }
