-- Column by column is case by case.
use Rattle.std.proofs.Common.{◌≡◌, ℕ, suc, ◌+◌, ◌*◌, ◌/◌, ◌%◌, ◌<◌, ◌==◌, ◌&&◌, ◌||◌, Bool, true, false, cond, not, refl, sym, ap, ◌∙◌, arith, ◌⊎◌, inl, inr, subst, add-one, eq-eqb, Option, Some, None}
use Rattle.std.proofs.lemmas.Bool.Decides.{eqb_tells}
use Rattle.design_cell.specs.Value.{read}
use Rattle.design_cell.specs.declared.value.Value.{Value}
use Rattle.design_cell.specs.declared.value.Value.TheVariants.{Zero, One, X, Z}
use Rattle.design_cell.specs.declared.symbol.Symbol.{Symbol}
use Rattle.design_cell.specs.declared.symbol.Symbol.TheVariants.{Single, Change}
use Rattle.design_cell.specs.declared.row.RawRow.{RawRow}
use Rattle.design_cell.specs.declared.row.Changed.{Changed}
use Rattle.design_cell.specs.Symbol.{fits, is_edge, changes, output_of}
use Rattle.design_cell.specs.Row.{is_edge_row, symbol_at, fits_below, before}
use Rattle.design_cell.specs.Conflict.{AreInConflict, IsPinBelow}
use Rattle.design_cell.specs.Index.{code, value_of}
use Rattle.design_cell.specs.Meeting.{takes, meet_at, meet, meet_below, part_at, same_kind, is_conflict, IsRow}
use Rattle.design_cell.specs.Below.{any_below, first_below}
use Rattle.design_cell.proofs.Masks.{fits_code, code_small}
use Rattle.design_cell.proofs.Booleans.{and_both, and_left, and_right, any_here, any_found, first_found, fits_from, fits_to, meets_from, meets_to, or_left, or_right, or_cases, last}

pub cases_bool : (b : Bool) → (b ≡ true) ⊎ (b ≡ false)
cases_bool true = inl refl
cases_bool false = inr refl

changes_same : (c : ℕ) (v : Value) → changes c v v ≡ false
changes_same c Zero = refl
changes_same c One = refl
changes_same c X = refl
changes_same c Z = refl

pub and_false : (a : Bool) → (a && false) ≡ false
and_false true = refl
and_false false = refl

pub level_stays : (s : Symbol) (o v : Value) → is_edge s ≡ false → fits s o v ≡ true → fits s v v ≡ true
unfolding fits is_edge
level_stays (Single c) o v e h = rw e (rw e at h)
level_stays (Change a b) o v e h = cc

edge_rests : (s : Symbol) (v : Value) → is_edge s ≡ true → fits s v v ≡ false
unfolding fits is_edge
edge_rests (Single c) v e = rw e (changes_same c v)
edge_rests (Change a b) v e = rw (changes_same 42 v) (and_false _)

code_same : (a b : Value) → code a ≡ code b → read a ≡ read b
code_same Zero Zero h = refl
code_same Zero One h = absurd (omega arith)
code_same Zero X h = absurd (omega arith)
code_same Zero Z h = absurd (omega arith)
code_same One Zero h = absurd (omega arith)
code_same One One h = refl
code_same One X h = absurd (omega arith)
code_same One Z h = absurd (omega arith)
code_same X Zero h = absurd (omega arith)
code_same X One h = absurd (omega arith)
code_same X X h = refl
code_same X Z h = refl
code_same Z Zero h = absurd (omega arith)
code_same Z One h = absurd (omega arith)
code_same Z X h = refl
code_same Z Z h = refl

read_twice : (v : Value) → read (read v) ≡ read v
read_twice Zero = refl
read_twice One = refl
read_twice X = refl
read_twice Z = refl

read_letter : (dash zero_ one_ : Bool) (q : Value) → read (cond dash (read q) (cond zero_ Zero (cond one_ One X))) ≡ cond dash (read q) (cond zero_ Zero (cond one_ One X))
read_letter true zero_ one_ q = read_twice q
read_letter false true one_ q = refl
read_letter false false true q = refl
read_letter false false false q = refl

-- an output is no z
output_read : (s : Symbol) (q : Value) → read (output_of s q) ≡ output_of s q
output_read (Single c) q = read_letter (c == 45) (c == 48) (c == 49) q
output_read (Change a b) q = refl

pub output_code : (s : Symbol) (v : Value) → output_of s (value_of (code v)) ≡ output_of s v
output_code (Single c) Zero = refl
output_code (Single c) One = refl
output_code (Single c) X = refl
output_code (Single c) Z = refl
output_code (Change a b) v = refl

-- outputs with one code are equal
pub output_same : (s t : Symbol) (q : Value) → code (output_of s q) ≡ code (output_of t q) → output_of s q ≡ output_of t q
output_same s t q e = sym (output_read s q) ∙ code_same (output_of s q) (output_of t q) e ∙ output_read t q

apart_from : (s t : Symbol) (q : Value) → (output_of t q ≡ output_of s q → ⊥) → not (code (output_of s q) == code (output_of t q)) ≡ true
apart_from s t q h = elim (eqb_tells (code (output_of s q)) (code (output_of t q))) as (λ _. not (code (output_of s q) == code (output_of t q)) ≡ true) [
  | inl p ↦ absurd (h (sym (output_same s t q p.1)))
  | inr p ↦ rw p.0 refl
]

apart_to : (a b : Value) → not (code a == code b) ≡ true → b ≡ a → ⊥
apart_to a b h e = let f : (code a == code b) ≡ true = eq-eqb (code a) (code b) (ap code (sym e)) in let g : not true ≡ true = rw f at h in cc

same_from : (a b : Bool) → a ≡ b → cond a b (not b) ≡ true
same_from true true h = refl
same_from true false h = cc
same_from false true h = cc
same_from false false h = refl

same_to : (a b : Bool) → cond a b (not b) ≡ true → a ≡ b
same_to true true h = refl
same_to true false h = cc
same_to false true h = cc
same_to false false h = refl

meets_by : (a b : Symbol) (o v : Value) → fits a o v ≡ true → fits b o v ≡ true → (is_edge a || (code o == code v)) ≡ true → meet a b ≡ true
unfolding meet meet_at takes
meets_by a b o v h k either =
    let ho : code o < 3 = code_small o in
    let hv : code v < 3 = code_small v in
    let e : (code o * 3 + code v) / 3 ≡ code o = omega arith in
    let f : (code o * 3 + code v) % 3 ≡ code v = omega arith in
    let all : meet_at a b (code o * 3 + code v) ≡ true = rw (e, f) (and_both _ _ (and_both _ _ (fits_code a o v ∙ h) either) (fits_code b o v ∙ k)) in
    any_here 9 (meet_at a b) (code o * 3 + code v) (omega arith) all

-- the pin that changes
abbrev IsTurned : Option Changed → ℕ → Type 0
IsTurned None c = ⊥
IsTurned (Some t) c = c ≡ t.pin

pub moved : (turn : Option Changed) (new : ℕ → Value) (s : Symbol) (c : ℕ) → is_edge s ≡ true → fits s (before turn new c) (new c) ≡ true → IsTurned turn c
moved None new s c e h = let f = edge_rests s (new c) e in let g : true ≡ false = sym h ∙ f in cc
moved (Some t) new s c e h = elim (eqb_tells c t.pin) as (λ _. c ≡ t.pin) [
  | inl p ↦ p.1
  | inr p ↦ absurd (let f = edge_rests s (new c) e in let k = rw p.0 at h in let g : true ≡ false = sym k ∙ f in cc)
]

one_pin : (turn : Option Changed) (c d : ℕ) → IsTurned turn c → IsTurned turn d → c ≡ d
one_pin None c d h k = absurd h
one_pin (Some t) c d h k = h ∙ sym k

mixed : (n : ℕ) (r s : RawRow) → IsRow n r → IsRow n s → is_edge_row r ≡ is_edge_row s → (turn : Option Changed) (new : ℕ → Value) → fits_below n s (before turn new) new ≡ true → (c : ℕ) → c < n → fits (symbol_at r c) (before turn new c) (new c) ≡ true → is_edge (symbol_at r c) ≡ true → is_edge (symbol_at s c) ≡ false → ⊥
mixed n r s row_r row_s kind turn new all c below h e level =
    let f = row_s.found (sym kind ∙ row_r.kind c below e) in
    let there = moved turn new (symbol_at s f.0) f.0 f.2 (fits_to n s (before turn new) new all f.0 f.1) in
    let here = moved turn new (symbol_at r c) c e h in
    let same : c ≡ f.0 = one_pin turn c f.0 here there in
    let g : true ≡ false = sym f.2 ∙ ap (λ k. is_edge (symbol_at s k)) (sym same) ∙ level in
    cc

column_meets : (n : ℕ) (r s : RawRow) → IsRow n r → IsRow n s → is_edge_row r ≡ is_edge_row s → (turn : Option Changed) (new : ℕ → Value) → fits_below n r (before turn new) new ≡ true → fits_below n s (before turn new) new ≡ true → (c : ℕ) → c < n → meet (symbol_at r c) (symbol_at s c) ≡ true
column_meets n r s row_r row_s kind turn new all_r all_s c below =
    let a = symbol_at r c in
    let b = symbol_at s c in
    let h : fits (symbol_at r c) (before turn new c) (new c) ≡ true = fits_to n r (before turn new) new all_r c below in
    let k : fits (symbol_at s c) (before turn new c) (new c) ≡ true = fits_to n s (before turn new) new all_s c below in
    elim (cases_bool (is_edge (symbol_at r c))) as (λ _. meet (symbol_at r c) (symbol_at s c) ≡ true) [
      | inl edge ↦ meets_by (symbol_at r c) (symbol_at s c) (before turn new c) (new c) h k (or_left _ _ edge)
      | inr level ↦ elim (cases_bool (is_edge (symbol_at s c))) as (λ _. meet (symbol_at r c) (symbol_at s c) ≡ true) [
        | inl edge ↦ absurd (mixed n s r row_s row_r (sym kind) turn new all_r c below k edge level)
        | inr other ↦ meets_by (symbol_at r c) (symbol_at s c) (new c) (new c) (level_stays _ _ (new c) level h) (level_stays _ _ (new c) other k) (or_right _ _ (eq-eqb (code (new c)) (code (new c)) refl))
      ]
    ]

pub complete : (n : ℕ) (r s : RawRow) → IsRow n r → IsRow n s → AreInConflict n r s → is_conflict n r s ≡ true
unfolding is_conflict part_at
complete n r s row_r row_s case =
    let turn = case.changed in
    let new = case.new in
    let first : fits_below (suc n) r (before case.changed case.new) case.new ≡ true = rw add-one at case.first in
    let second : fits_below (suc n) s (before case.changed case.new) case.new ≡ true = rw add-one at case.second in
    let front_r = and_left (fits_below n r (before turn new) new) _ first in
    let front_s = and_left (fits_below n s (before turn new) new) _ second in
    let v = new n in
    let hr = level_stays (symbol_at r n) (before turn new n) v row_r.state (and_right (fits_below n r (before turn new) new) _ first) in
    let hs = level_stays (symbol_at s n) (before turn new n) v row_s.state (and_right (fits_below n s (before turn new) new) _ second) in
    let differ = apart_from s.output r.output (value_of (code v)) (λ e. case.apart (sym (output_code r.output v) ∙ e ∙ output_code s.output v)) in
    let state = any_here 3 (part_at n r s) (code v) (code_small v) (and_both _ _ (fits_code (symbol_at r n) v v ∙ hr) (and_both _ _ (fits_code (symbol_at s n) v v ∙ hs) differ)) in
    and_both _ _ (and_both _ _ (same_from _ _ case.kind) state) (meets_from n r s (column_meets n r s row_r row_s case.kind turn new front_r front_s))

-- the first pair of values that both columns take
place : RawRow → RawRow → ℕ → ℕ
place r s c = first_below 9 (meet_at (symbol_at r c) (symbol_at s c))

old_of : RawRow → RawRow → ℕ → Value
old_of r s c = value_of (place r s c / 3)

new_of : RawRow → RawRow → ℕ → ℕ → ℕ → Value
new_of r s n k c = cond (c == n) (value_of k) (value_of (place r s c % 3))

new_below : (r s : RawRow) (n k c : ℕ) → c < n → new_of r s n k c ≡ value_of (place r s c % 3)
unfolding new_of
new_below r s n k c below = elim (eqb_tells c n) as (λ _. new_of r s n k c ≡ value_of (place r s c % 3)) [
  | inl p ↦ absurd (omega (arith, p.1))
  | inr p ↦ rw p.0 refl
]

new_at : (r s : RawRow) (n k : ℕ) → new_of r s n k n ≡ value_of k
unfolding new_of
new_at r s n k = let e : (n == n) ≡ true = eq-eqb n n refl in rw e refl

record AtPlace (r s : RawRow) (c : ℕ) : Type 0 where
  first : fits (symbol_at r c) (old_of r s c) (value_of (place r s c % 3)) ≡ true
  second : fits (symbol_at s c) (old_of r s c) (value_of (place r s c % 3)) ≡ true
  rests : is_edge (symbol_at r c) ≡ false → value_of (place r s c % 3) ≡ old_of r s c

at_place : (r s : RawRow) (c : ℕ) → meet (symbol_at r c) (symbol_at s c) ≡ true → AtPlace r s c
unfolding meet meet_at takes place old_of
at_place r s c h =
    let a = symbol_at r c in
    let b = symbol_at s c in
    let p = first_below 9 (meet_at a b) in
    let f = (first_found 9 (meet_at a b) h).1 in
    let taken = and_left (fits a (value_of (p / 3)) (value_of (p % 3)) && (is_edge a || (p / 3 == p % 3))) (fits b (value_of (p / 3)) (value_of (p % 3))) f in
    record {
      first = and_left (fits a (value_of (p / 3)) (value_of (p % 3))) (is_edge a || (p / 3 == p % 3)) taken;
      second = and_right (fits a (value_of (p / 3)) (value_of (p % 3)) && (is_edge a || (p / 3 == p % 3))) (fits b (value_of (p / 3)) (value_of (p % 3))) f;
      rests = λ level. elim (or_cases (is_edge a) (p / 3 == p % 3) (and_right (fits a (value_of (p / 3)) (value_of (p % 3))) (is_edge a || (p / 3 == p % 3)) taken)) as (λ _. value_of (p % 3) ≡ value_of (p / 3)) [
        | inl e ↦ absurd (let g : true ≡ false = sym e ∙ level in cc)
        | inr e ↦ elim (eqb_tells (p / 3) (p % 3)) as (λ _. value_of (p % 3) ≡ value_of (p / 3)) [
          | inl q ↦ ap value_of (sym q.1)
          | inr q ↦ absurd (let g : true ≡ false = sym e ∙ q.0 in cc)
        ]
      ];
    }

-- the case of those pairs, where the columns before are those of the turn
case_of : (n k : ℕ) (r s : RawRow) (turn : Option Changed) → ((c : ℕ) → c < n → before turn (new_of r s n k) c ≡ old_of r s c) → before turn (new_of r s n k) n ≡ new_of r s n k n → IsPinBelow n turn → is_edge_row r ≡ is_edge_row s → ((c : ℕ) → c < n → AtPlace r s c) → part_at n r s k ≡ true → AreInConflict n r s
unfolding part_at
case_of n k r s turn olds state pin kind places parts =
    let new = new_of r s n k in
    let v = value_of k in
    let a = symbol_at r n in
    let b = symbol_at s n in
    let apart = not (code (output_of s.output v) == code (output_of r.output v)) in
    let fa = and_left (fits a v v) (fits b v v && apart) parts in
    let rest = and_right (fits a v v) (fits b v v && apart) parts in
    let fb = and_left (fits b v v) apart rest in
    let differ = apart_to (output_of s.output v) (output_of r.output v) (and_right (fits b v v) apart rest) in
    let here : new_of r s n k n ≡ value_of k = new_at r s n k in
    let was_here : before turn (new_of r s n k) n ≡ value_of k = state ∙ here in
    let firsts : (c : ℕ) → c < suc n → fits (symbol_at r c) (before turn (new_of r s n k) c) (new_of r s n k c) ≡ true = λ c below. elim (last c n below) as (λ _. fits (symbol_at r c) (before turn (new_of r s n k) c) (new_of r s n k c) ≡ true) [
      | inl lt ↦ (let e = olds c lt in let f = new_below r s n k c lt in rw (e, f) (places c lt).first)
      | inr e ↦ subst (λ i. fits (symbol_at r i) (before turn (new_of r s n k) i) (new_of r s n k i) ≡ true) (sym e) (rw (was_here, here) fa)
    ] in
    let seconds : (c : ℕ) → c < suc n → fits (symbol_at s c) (before turn (new_of r s n k) c) (new_of r s n k c) ≡ true = λ c below. elim (last c n below) as (λ _. fits (symbol_at s c) (before turn (new_of r s n k) c) (new_of r s n k c) ≡ true) [
      | inl lt ↦ (let e = olds c lt in let f = new_below r s n k c lt in rw (e, f) (places c lt).second)
      | inr e ↦ subst (λ i. fits (symbol_at s i) (before turn (new_of r s n k) i) (new_of r s n k i) ≡ true) (sym e) (rw (was_here, here) fb)
    ] in
    record {
      changed = turn;
      new = new;
      pin = pin;
      kind = kind;
      first = rw add-one (fits_from (suc n) r _ _ firsts);
      second = rw add-one (fits_from (suc n) s _ _ seconds);
      apart = λ e. differ (sym (ap (output_of r.output) here) ∙ e ∙ ap (output_of s.output) here);
    }

sound_level : (n k : ℕ) (r s : RawRow) → IsRow n r → is_edge_row r ≡ false → is_edge_row r ≡ is_edge_row s → ((c : ℕ) → c < n → AtPlace r s c) → part_at n r s k ≡ true → AreInConflict n r s
sound_level n k r s row level kind places parts =
    let no_edge : (c : ℕ) → c < n → is_edge (symbol_at r c) ≡ false = λ c below. elim (cases_bool (is_edge (symbol_at r c))) as (λ _. is_edge (symbol_at r c) ≡ false) [
      | inl e ↦ absurd (let g : true ≡ false = sym (row.kind c below e) ∙ level in cc)
      | inr e ↦ e
    ] in
    case_of n k r s None (λ c below. new_below r s n k c below ∙ (places c below).rests (no_edge c below)) refl tt kind places parts

sound_edge : (n k : ℕ) (r s : RawRow) → IsRow n r → is_edge_row r ≡ true → is_edge_row r ≡ is_edge_row s → ((c : ℕ) → c < n → AtPlace r s c) → part_at n r s k ≡ true → AreInConflict n r s
sound_edge n k r s row edge kind places parts =
    let found = row.found edge in
    let d = found.0 in
    let turn : Option Changed = Some (record { pin = d; old = old_of r s d }) in
    let olds : (c : ℕ) → c < n → cond (c == d) (old_of r s d) (new_of r s n k c) ≡ old_of r s c = λ c below. elim (eqb_tells c d) as (λ _. cond (c == d) (old_of r s d) (new_of r s n k c) ≡ old_of r s c) [
      | inl p ↦ rw p.0 (ap (old_of r s) (sym p.1))
      | inr p ↦ rw p.0 (new_below r s n k c below ∙ (places c below).rests (elim (cases_bool (is_edge (symbol_at r c))) as (λ _. is_edge (symbol_at r c) ≡ false) [
        | inl e ↦ absurd (p.1 (row.one c d e found.2))
        | inr e ↦ e
      ]))
    ] in
    let state : cond (n == d) (old_of r s d) (new_of r s n k n) ≡ new_of r s n k n = elim (eqb_tells n d) as (λ _. cond (n == d) (old_of r s d) (new_of r s n k n) ≡ new_of r s n k n) [
      | inl p ↦ absurd (omega (arith, p.1, found.1))
      | inr p ↦ rw p.0 refl
    ] in
    case_of n k r s (Some (record { pin = d; old = old_of r s d })) olds state found.1 kind places parts

pub sound : (n : ℕ) (r s : RawRow) → IsRow n r → is_conflict n r s ≡ true → AreInConflict n r s
unfolding is_conflict
sound n r s row h =
    let front = and_left (same_kind r s && any_below 3 (part_at n r s)) (meet_below n r s) h in
    let kind = same_to _ _ (and_left (same_kind r s) (any_below 3 (part_at n r s)) front) in
    let meet = and_right (same_kind r s && any_below 3 (part_at n r s)) (meet_below n r s) h in
    let state = any_found 3 (part_at n r s) (and_right (same_kind r s) (any_below 3 (part_at n r s)) front) in
    let places : (c : ℕ) → c < n → AtPlace r s c = λ c below. at_place r s c (meets_to n r s meet c below) in
    elim (cases_bool (is_edge_row r)) as (λ _. AreInConflict n r s) [
      | inl e ↦ sound_edge n state.0 r s row e kind places state.2
      | inr e ↦ sound_level n state.0 r s row e kind places state.2
    ]
