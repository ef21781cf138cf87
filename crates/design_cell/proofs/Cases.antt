-- Cases by their digits.
use Rattle.std.proofs.Common.{◌≡◌, ℕ, zero, suc, ◌+◌, ◌*◌, ◌/◌, ◌%◌, ◌<◌, ◌≤◌, ◌==◌, ◌&&◌, Bool, true, false, refl, sym, ap, ◌∙◌, arith, inl, inr, subst, eq-eqb}
use lib.Dec.{ltb}
use Rattle.std.proofs.lemmas.Bool.{cases_lt, lt-ltb, le-ltb}
use Rattle.std.proofs.lemmas.Bool.Decides.{eqb_tells}
use Rattle.design_cell.specs.declared.row.RawRow.{RawRow}
use Rattle.design_cell.specs.declared.sweep.Sweep.{Sweep}
use Rattle.design_cell.specs.declared.taken.Taken.{Taken}
use Rattle.design_cell.specs.Symbol.{output_of}
use Rattle.design_cell.specs.Index.{code, flag}
use Rattle.design_cell.specs.Below.{any_below}
use Rattle.design_cell.specs.Digits.{digit, triple, four, has, IsTriple, middle_end, high_end, place}
use Rattle.design_cell.specs.Marks.{covers_middle, covers_high, covers}
use Rattle.design_cell.specs.Sweep.{accepts, takes_part}
use Rattle.design_cell.specs.Seen.{IsTaken, Owns}
use Rattle.design_cell.proofs.Booleans.{and_both, and_left, and_right, any_here, any_found}

pub is_equal : (a b : ℕ) → (a == b) ≡ true → a ≡ b
is_equal a b h = elim (eqb_tells a b) as (λ _. a ≡ b) [
  | inl p ↦ p.1
  | inr p ↦ absurd (let g : true ≡ false = sym h ∙ p.0 in cc)
]

flag_is : (b : Bool) → (flag b == 1) ≡ b
flag_is true = refl
flag_is false = refl

-- the number of three digits
abbrev pub three : ℕ → ℕ → ℕ → ℕ
three x y z = x + 3 * (y + 3 * z)

split : (b : ℕ) → b ≡ three (b % 3) (b / 3 % 3) (b / 9)
split b = omega arith

triple_from : (takes : ℕ → ℕ → Bool) (c x y z : ℕ) → x < 3 → y < 3 → z < 3 → takes c x ≡ true → takes (c + 1) y ≡ true → takes (c + 2) z ≡ true → triple takes c (three x y z) ≡ true
unfolding triple
triple_from takes c x y z hx hy hz tx ty tz =
    let ex : three x y z % 3 ≡ x = omega arith in
    let ey : three x y z / 3 % 3 ≡ y = omega arith in
    let ez : three x y z / 9 ≡ z = omega arith in
    rw (ex, ey, ez) (and_both _ _ (and_both _ _ tx ty) tz)

record Three (takes : ℕ → ℕ → Bool) (c b : ℕ) : Type 0 where
  low : takes c (b % 3) ≡ true
  mid : takes (c + 1) (b / 3 % 3) ≡ true
  top : takes (c + 2) (b / 9) ≡ true

triple_to : (takes : ℕ → ℕ → Bool) (c b : ℕ) → triple takes c b ≡ true → Three takes c b
unfolding triple
triple_to takes c b h = record {
  low = and_left _ _ (and_left _ (takes (c + 2) (b / 9)) h);
  mid = and_right (takes c (b % 3)) _ (and_left _ (takes (c + 2) (b / 9)) h);
  top = and_right (takes c (b % 3) && takes (c + 1) (b / 3 % 3)) _ h;
}

has_from : (takes : ℕ → ℕ → Bool) (c word b : ℕ) → IsTriple takes c word → b < 27 → triple takes c b ≡ true → has word b ≡ true
has_from takes c word b is small h = ap (λ k. k == 1) (is.numbers b small) ∙ flag_is (triple takes c b) ∙ h

has_to : (takes : ℕ → ℕ → Bool) (c word b : ℕ) → IsTriple takes c word → has word b ≡ true → (b < 27) × (triple takes c b ≡ true)
has_to takes c word b is h = elim (cases_lt b 27) as (λ _. (b < 27) × (triple takes c b ≡ true)) [
  | inl small ↦ (small, sym (ap (λ k. k == 1) (is.numbers b small) ∙ flag_is (triple takes c b)) ∙ h)
  | inr big ↦ absurd (let e : has word b ≡ false = ap (λ k. k == 1) (is.no_other b big) in let g : true ≡ false = sym h ∙ e in cc)
]

-- a digit of a row, by its list and by its column
pub digit_is : (inputs : ℕ) (sweep : Sweep) (row : RawRow) (t : Taken) → IsTaken inputs sweep row t → (c d : ℕ) → c < 10 → d < 3 → digit t.digits c d ≡ accepts inputs sweep row c d
digit_is inputs sweep row t is c d hc hd =
    let e : (3 * c + d) / 3 ≡ c = omega arith in
    let f : (3 * c + d) % 3 ≡ d = omega arith in
    is.digits_ (3 * c + d) (omega arith) ∙ rw (e, f) refl

-- behind the inputs a column takes 0 alone
beyond_inputs : (inputs : ℕ) (sweep : Sweep) (row : RawRow) (c d : ℕ) → inputs ≤ c → accepts inputs sweep row c d ≡ true → d ≡ 0
unfolding accepts
beyond_inputs inputs sweep row c d le h = let e : ltb c inputs ≡ false = le-ltb c inputs le in is_equal d 0 (rw e at h)

-- a row takes the digits of a case
pub record Digits (inputs : ℕ) (sweep : Sweep) (row : RawRow) (case : ℕ → ℕ) : Type 0 where
  pub small : (c : ℕ) → case c < 3
  pub takes : (c : ℕ) → c < 10 → accepts inputs sweep row c (case c) ≡ true

abbrev pub low_of : (ℕ → ℕ) → ℕ
low_of case = three (case 0) (case 1) (case 2)

abbrev pub middle_of : (ℕ → ℕ) → ℕ
middle_of case = three (case 3) (case 4) (case 5)

abbrev pub high_of : (ℕ → ℕ) → ℕ
high_of case = three (case 6) (case 7) (case 8) + 27 * case 9

middle_within : (inputs : ℕ) (sweep : Sweep) (row : RawRow) (case : ℕ → ℕ) → Digits inputs sweep row case → middle_of case < middle_end inputs
unfolding middle_end
middle_within inputs sweep row case is = elim (cases_lt 3 inputs) as (λ _. three (case 3) (case 4) (case 5) < middle_end inputs) [
  | inl lt ↦ (let e : ltb 3 inputs ≡ true = lt-ltb 3 inputs lt in rw e (omega (arith, is.small 3, is.small 4, is.small 5)))
  | inr ge ↦ (let e : ltb 3 inputs ≡ false = le-ltb 3 inputs ge in
      let zero_ : (c : ℕ) → 3 ≤ c → c < 10 → case c ≡ 0 = λ c h k. beyond_inputs inputs sweep row c (case c) (omega arith) (is.takes c k) in
      rw e (omega (arith, zero_ 3 (omega arith) (omega arith), zero_ 4 (omega arith) (omega arith), zero_ 5 (omega arith) (omega arith))))
]

high_within : (inputs : ℕ) (sweep : Sweep) (row : RawRow) (case : ℕ → ℕ) → Digits inputs sweep row case → high_of case < high_end inputs
unfolding high_end
high_within inputs sweep row case is = elim (cases_lt 6 inputs) as (λ _. three (case 6) (case 7) (case 8) + 27 * case 9 < high_end inputs) [
  | inl lt ↦ (let e : ltb 6 inputs ≡ true = lt-ltb 6 inputs lt in rw e (omega (arith, is.small 6, is.small 7, is.small 8, is.small 9)))
  | inr ge ↦ (let e : ltb 6 inputs ≡ false = le-ltb 6 inputs ge in
      let zero_ : (c : ℕ) → 6 ≤ c → c < 10 → case c ≡ 0 = λ c h k. beyond_inputs inputs sweep row c (case c) (omega arith) (is.takes c k) in
      rw e (omega (arith, zero_ 6 (omega arith) (omega arith), zero_ 7 (omega arith) (omega arith), zero_ 8 (omega arith) (omega arith), zero_ 9 (omega arith) (omega arith))))
]

pub record Spot (inputs : ℕ) (t : Taken) (case : ℕ → ℕ) : Type 0 where
  pub high : high_of case < high_end inputs
  pub middle : middle_of case < middle_end inputs
  pub fours : four (digit t.digits) (high_of case) ≡ true
  pub middles : has t.middle (middle_of case) ≡ true
  pub lows : has t.low (low_of case) ≡ true

three_of : (inputs : ℕ) (sweep : Sweep) (row : RawRow) (t : Taken) → IsTaken inputs sweep row t → (case : ℕ → ℕ) → Digits inputs sweep row case → (c : ℕ) → c < 8 → triple (digit t.digits) c (three (case c) (case (c + 1)) (case (c + 2))) ≡ true
three_of inputs sweep row t is case d c small =
    let column : (k : ℕ) → k < 10 → digit t.digits k (case k) ≡ true = λ k h. digit_is inputs sweep row t is k (case k) h (d.small k) ∙ d.takes k h in
    triple_from (digit t.digits) c (case c) (case (c + 1)) (case (c + 2)) (d.small c) (d.small (c + 1)) (d.small (c + 2)) (column c (omega arith)) (column (c + 1) (omega arith)) (column (c + 2) (omega arith))

four_from : (takes : ℕ → ℕ → Bool) (n d : ℕ) → n < 27 → triple takes 6 n ≡ true → takes 9 d ≡ true → four takes (n + 27 * d) ≡ true
unfolding four
four_from takes n d small h k =
    let e : (n + 27 * d) % 27 ≡ n = omega arith in
    let f : (n + 27 * d) / 27 ≡ d = omega arith in
    rw (e, f) (and_both _ _ h k)

pub spot : (inputs : ℕ) (sweep : Sweep) (row : RawRow) (t : Taken) → IsTaken inputs sweep row t → (case : ℕ → ℕ) → Digits inputs sweep row case → Spot inputs t case
spot inputs sweep row t is case d = record {
  high = high_within inputs sweep row case d;
  middle = middle_within inputs sweep row case d;
  fours = four_from (digit t.digits) (three (case 6) (case 7) (case 8)) (case 9) (omega (arith, d.small 6, d.small 7, d.small 8)) (three_of inputs sweep row t is case d 6 (omega arith)) (digit_is inputs sweep row t is 9 (case 9) (omega arith) (d.small 9) ∙ d.takes 9 (omega arith));
  middles = has_from (digit t.digits) 3 t.middle (middle_of case) is.middles (omega (arith, d.small 3, d.small 4, d.small 5)) (three_of inputs sweep row t is case d 3 (omega arith));
  lows = has_from (digit t.digits) 0 t.low (low_of case) is.lows (omega (arith, d.small 0, d.small 1, d.small 2)) (three_of inputs sweep row t is case d 0 (omega arith));
}

-- the digits of the parts of a case
case_of : ℕ → ℕ → ℕ → ℕ → ℕ
case_of b m h zero = b % 3
case_of b m h (suc zero) = b / 3 % 3
case_of b m h (suc (suc zero)) = b / 9
case_of b m h (suc (suc (suc zero))) = m % 3
case_of b m h (suc (suc (suc (suc zero)))) = m / 3 % 3
case_of b m h (suc (suc (suc (suc (suc zero))))) = m / 9
case_of b m h (suc (suc (suc (suc (suc (suc zero)))))) = h % 27 % 3
case_of b m h (suc (suc (suc (suc (suc (suc (suc zero))))))) = h % 27 / 3 % 3
case_of b m h (suc (suc (suc (suc (suc (suc (suc (suc zero)))))))) = h % 27 / 9
case_of b m h (suc (suc (suc (suc (suc (suc (suc (suc (suc zero))))))))) = h / 27
case_of b m h (suc (suc (suc (suc (suc (suc (suc (suc (suc (suc c)))))))))) = 0

each_column : (P : ℕ → Type 0) → P 0 → P 1 → P 2 → P 3 → P 4 → P 5 → P 6 → P 7 → P 8 → P 9 → (c : ℕ) → c < 10 → P c
each_column P p0 p1 p2 p3 p4 p5 p6 p7 p8 p9 zero h = p0
each_column P p0 p1 p2 p3 p4 p5 p6 p7 p8 p9 (suc zero) h = p1
each_column P p0 p1 p2 p3 p4 p5 p6 p7 p8 p9 (suc (suc zero)) h = p2
each_column P p0 p1 p2 p3 p4 p5 p6 p7 p8 p9 (suc (suc (suc zero))) h = p3
each_column P p0 p1 p2 p3 p4 p5 p6 p7 p8 p9 (suc (suc (suc (suc zero)))) h = p4
each_column P p0 p1 p2 p3 p4 p5 p6 p7 p8 p9 (suc (suc (suc (suc (suc zero))))) h = p5
each_column P p0 p1 p2 p3 p4 p5 p6 p7 p8 p9 (suc (suc (suc (suc (suc (suc zero)))))) h = p6
each_column P p0 p1 p2 p3 p4 p5 p6 p7 p8 p9 (suc (suc (suc (suc (suc (suc (suc zero))))))) h = p7
each_column P p0 p1 p2 p3 p4 p5 p6 p7 p8 p9 (suc (suc (suc (suc (suc (suc (suc (suc zero)))))))) h = p8
each_column P p0 p1 p2 p3 p4 p5 p6 p7 p8 p9 (suc (suc (suc (suc (suc (suc (suc (suc (suc zero))))))))) h = p9
each_column P p0 p1 p2 p3 p4 p5 p6 p7 p8 p9 (suc (suc (suc (suc (suc (suc (suc (suc (suc (suc c)))))))))) h = absurd (omega arith)

case_small : (b m h : ℕ) → b < 27 → m < 27 → h < 81 → (c : ℕ) → case_of b m h c < 3
unfolding case_of
case_small b m h hb hm hh zero = omega arith
case_small b m h hb hm hh (suc zero) = omega arith
case_small b m h hb hm hh (suc (suc zero)) = omega arith
case_small b m h hb hm hh (suc (suc (suc zero))) = omega arith
case_small b m h hb hm hh (suc (suc (suc (suc zero)))) = omega arith
case_small b m h hb hm hh (suc (suc (suc (suc (suc zero))))) = omega arith
case_small b m h hb hm hh (suc (suc (suc (suc (suc (suc zero)))))) = omega arith
case_small b m h hb hm hh (suc (suc (suc (suc (suc (suc (suc zero))))))) = omega arith
case_small b m h hb hm hh (suc (suc (suc (suc (suc (suc (suc (suc zero)))))))) = omega arith
case_small b m h hb hm hh (suc (suc (suc (suc (suc (suc (suc (suc (suc zero))))))))) = omega arith
case_small b m h hb hm hh (suc (suc (suc (suc (suc (suc (suc (suc (suc (suc c)))))))))) = omega arith

-- the parts of a case, as they are found
pub record Parts (t : Taken) (b m h : ℕ) : Type 0 where
  pub lows : has t.low b ≡ true
  pub middles : has t.middle m ≡ true
  pub fours : four (digit t.digits) h ≡ true
  pub small : h < 81

four_to : (takes : ℕ → ℕ → Bool) (h : ℕ) → four takes h ≡ true → Three takes 6 (h % 27) × (takes 9 (h / 27) ≡ true)
unfolding four
four_to takes h e = (triple_to takes 6 (h % 27) (and_left _ (takes 9 (h / 27)) e), and_right (triple takes 6 (h % 27)) _ e)

parts_digits : (inputs : ℕ) (sweep : Sweep) (row : RawRow) (t : Taken) → IsTaken inputs sweep row t → (b m h : ℕ) → Parts t b m h → Digits inputs sweep row (case_of b m h)
unfolding case_of
parts_digits inputs sweep row t is b m h p =
    let low = has_to (digit t.digits) 0 t.low b is.lows p.lows in
    let mid = has_to (digit t.digits) 3 t.middle m is.middles p.middles in
    let l = triple_to (digit t.digits) 0 b low.1 in
    let k = triple_to (digit t.digits) 3 m mid.1 in
    let f = four_to (digit t.digits) h p.fours in
    let small : (c : ℕ) → case_of b m h c < 3 = case_small b m h low.0 mid.0 p.small in
    let at : (c : ℕ) → c < 10 → digit t.digits c (case_of b m h c) ≡ true → accepts inputs sweep row c (case_of b m h c) ≡ true = λ c below e. sym (digit_is inputs sweep row t is c (case_of b m h c) below (small c)) ∙ e in
    record {
      small = small;
      takes = each_column (λ c. accepts inputs sweep row c (case_of b m h c) ≡ true) (at 0 (omega arith) l.low) (at 1 (omega arith) l.mid) (at 2 (omega arith) l.top) (at 3 (omega arith) k.low) (at 4 (omega arith) k.mid) (at 5 (omega arith) k.top) (at 6 (omega arith) f.0.low) (at 7 (omega arith) f.0.mid) (at 8 (omega arith) f.0.top) (at 9 (omega arith) f.1);
    }

word_split : (m h : ℕ) → 27 * h + m ≡ m % 3 + 3 * (m / 3 % 3 + 3 * (m / 9 + 3 * (h % 27 % 3 + 3 * (h % 27 / 3 % 3 + 3 * (h % 27 / 9 + 3 * (h / 27))))))
word_split m h =
    let e = split m in
    let f = split (h % 27) in
    omega arith

pub owns_parts : (inputs : ℕ) (sweep : Sweep) (row : RawRow) (t : Taken) → IsTaken inputs sweep row t → takes_part inputs sweep row ≡ true → (b m h : ℕ) → Parts t b m h → Owns inputs sweep row (place h m t.output) b
unfolding case_of
owns_parts inputs sweep row t is part b m h p =
    let d = parts_digits inputs sweep row t is b m h p in
    record {
      part = part;
      case = case_of b m h;
      small = d.small;
      takes = d.takes;
      low = split b;
      word = 27 * h + m;
      word_is = word_split m h;
      place_is = ap (λ v. 3 * (27 * h + m) + v) is.gives;
    }

pub high_small : (inputs : ℕ) → high_end inputs ≤ 81
unfolding high_end
high_small inputs = elim (cases_lt 6 inputs) as (λ _. high_end inputs ≤ 81) [
  | inl lt ↦ (let e : ltb 6 inputs ≡ true = lt-ltb 6 inputs lt in rw e (omega arith))
  | inr ge ↦ (let e : ltb 6 inputs ≡ false = le-ltb 6 inputs ge in rw e (omega arith))
]

-- a marked place is that of a case
pub owns_covered : (inputs : ℕ) (sweep : Sweep) (row : RawRow) (t : Taken) → IsTaken inputs sweep row t → takes_part inputs sweep row ≡ true → (p b : ℕ) → covers t p ≡ true → has t.low b ≡ true → Owns inputs sweep row p b
unfolding covers covers_high covers_middle
owns_covered inputs sweep row t is part p b h low =
    let high = any_found (high_end t.inputs) (covers_high t p) h in
    let middle = any_found (middle_end t.inputs) (covers_middle t p high.0) (and_right (four (digit t.digits) high.0) _ high.2) in
    let here : p ≡ place high.0 middle.0 t.output = is_equal p _ (and_right (has t.middle middle.0) _ middle.2) in
    let parts : Parts t b middle.0 high.0 = record {
      lows = low;
      middles = and_left (has t.middle middle.0) (p == place high.0 middle.0 t.output) middle.2;
      fours = and_left (four (digit t.digits) high.0) (any_below (middle_end t.inputs) (covers_middle t p high.0)) high.2;
      small = omega (arith, high.1, high_small t.inputs);
    } in
    subst (λ q. Owns inputs sweep row q b) (sym here) (owns_parts inputs sweep row t is part b middle.0 high.0 parts)

-- the place of a case is one that is marked
pub word_of_parts : (case : ℕ → ℕ) → 27 * high_of case + middle_of case ≡ case 3 + 3 * (case 4 + 3 * (case 5 + 3 * (case 6 + 3 * (case 7 + 3 * (case 8 + 3 * case 9)))))
word_of_parts case = omega arith

pub owned_place : (inputs : ℕ) (sweep : Sweep) (row : RawRow) (p b : ℕ) (o : Owns inputs sweep row p b) → p ≡ place (high_of o.case) (middle_of o.case) (code (output_of row.output sweep.state))
owned_place inputs sweep row p b o = o.place_is ∙ ap (λ w. 3 * w + code (output_of row.output sweep.state)) (o.word_is ∙ sym (word_of_parts o.case))

pub covered_owns : (inputs : ℕ) (sweep : Sweep) (row : RawRow) (t : Taken) → IsTaken inputs sweep row t → (p b : ℕ) → Owns inputs sweep row p b → (covers t p && has t.low b) ≡ true
unfolding covers covers_high covers_middle
covered_owns inputs sweep row t is p b o =
    let case = o.case in
    let s = spot inputs sweep row t is o.case (record { small = o.small; takes = o.takes }) in
    let here : p ≡ place (high_of o.case) (middle_of o.case) t.output = owned_place inputs sweep row p b o ∙ ap (λ v. 3 * (27 * high_of o.case + middle_of o.case) + v) (sym is.gives) in
    let middle : covers_middle t p (high_of o.case) (middle_of o.case) ≡ true = and_both _ _ s.middles (eq-eqb p _ here) in
    let high : covers_high t p (high_of o.case) ≡ true = and_both _ _ s.fours (any_here (middle_end t.inputs) (covers_middle t p (high_of o.case)) (middle_of o.case) (rw is.columns s.middle) middle) in
    and_both _ _ (any_here (high_end t.inputs) (covers_high t p) (high_of o.case) (rw is.columns s.high) high) (ap (has t.low) o.low ∙ s.lows)

-- numbers with one low digit and one rest
next_digit : (a b x y : ℕ) → a < 3 → b < 3 → a + 3 * x ≡ b + 3 * y → (a ≡ b) × (x ≡ y)
next_digit a b x y ha hb e = (omega arith, omega arith)

record SameLow (f g : ℕ → ℕ) : Type 0 where
  first : f 0 ≡ g 0
  second : f 1 ≡ g 1
  third : f 2 ≡ g 2

same_low : (f g : ℕ → ℕ) → ((c : ℕ) → f c < 3) → ((c : ℕ) → g c < 3) → low_of f ≡ low_of g → SameLow f g
same_low f g hf hg e =
    let a = next_digit (f 0) (g 0) _ _ (hf 0) (hg 0) e in
    let b = next_digit (f 1) (g 1) _ _ (hf 1) (hg 1) a.1 in
    record { first = a.0; second = b.0; third = b.1 }

record SameWord (f g : ℕ → ℕ) : Type 0 where
  first : f 3 ≡ g 3
  second : f 4 ≡ g 4
  third : f 5 ≡ g 5
  fourth : f 6 ≡ g 6
  fifth : f 7 ≡ g 7
  sixth : f 8 ≡ g 8
  last_ : f 9 ≡ g 9

same_word : (f g : ℕ → ℕ) → ((c : ℕ) → f c < 3) → ((c : ℕ) → g c < 3) → f 3 + 3 * (f 4 + 3 * (f 5 + 3 * (f 6 + 3 * (f 7 + 3 * (f 8 + 3 * f 9))))) ≡ g 3 + 3 * (g 4 + 3 * (g 5 + 3 * (g 6 + 3 * (g 7 + 3 * (g 8 + 3 * g 9))))) → SameWord f g
same_word f g hf hg e =
    let a = next_digit (f 3) (g 3) _ _ (hf 3) (hg 3) e in
    let b = next_digit (f 4) (g 4) _ _ (hf 4) (hg 4) a.1 in
    let c = next_digit (f 5) (g 5) _ _ (hf 5) (hg 5) b.1 in
    let d = next_digit (f 6) (g 6) _ _ (hf 6) (hg 6) c.1 in
    let i = next_digit (f 7) (g 7) _ _ (hf 7) (hg 7) d.1 in
    let j = next_digit (f 8) (g 8) _ _ (hf 8) (hg 8) i.1 in
    record { first = a.0; second = b.0; third = c.0; fourth = d.0; fifth = i.0; sixth = j.0; last_ = j.1 }

pub same_case : (f g : ℕ → ℕ) → ((c : ℕ) → f c < 3) → ((c : ℕ) → g c < 3) → low_of f ≡ low_of g → f 3 + 3 * (f 4 + 3 * (f 5 + 3 * (f 6 + 3 * (f 7 + 3 * (f 8 + 3 * f 9))))) ≡ g 3 + 3 * (g 4 + 3 * (g 5 + 3 * (g 6 + 3 * (g 7 + 3 * (g 8 + 3 * g 9))))) → (c : ℕ) → c < 10 → f c ≡ g c
same_case f g hf hg e k =
    let l = same_low f g hf hg e in
    let w = same_word f g hf hg k in
    each_column (λ c. f c ≡ g c) l.first l.second l.third w.first w.second w.third w.fourth w.fifth w.sixth w.last_
