-- Words of a sweep, and the rows whose cases they have.
use Rattle.std.proofs.Common.{◌≡◌, ◌⊎◌, ◌%◌, ℕ, zero, suc, ◌+◌, ◌*◌, ◌<◌, ◌≤◌, ◌==◌, ◌&&◌, ◌||◌, ◌^◌, Bool, true, false, cond, not, List, length, refl, sym, ap, ◌∙◌, arith, max, min, bit_or, bit_and, slice_index, slice_set, inl, inr, eq-eqb, subst, w64, Option, Some, None, add-one}
use Rattle.std.specs.Int.{bit_at, trailing_zeros}
use lib.Dec.{ltb, eqb}
use Rattle.std.specs.Option.{option_eq}
use Rattle.std.proofs.lemmas.Nat.Bits.{bit_at_or, bit_at_and, bit_at-lt, bit_at-zero, bit_at-trailing_zeros}
use Rattle.std.proofs.lemmas.Nat.{and_le_r}
use Rattle.std.proofs.lemmas.Bool.{cases_lt, lt-ltb, le-ltb}
use Rattle.std.proofs.lemmas.Bool.Decides.{eqb_tells}
use Rattle.std.proofs.lemmas.List.{get_or-set_same, get_or-set_other}
use Rattle.design_cell.specs.declared.row.RawRow.{RawRow}
use Rattle.design_cell.specs.declared.sweep.Sweep.{Sweep}
use Rattle.design_cell.specs.declared.taken.Taken.{Taken}
use Rattle.design_cell.specs.Symbol.{output_of}
use Rattle.design_cell.specs.Row.{row_at}
use Rattle.design_cell.specs.Index.{code}
use Rattle.design_cell.specs.Below.{any_below}
use Rattle.design_cell.specs.Digits.{digit, four, has, marked, Marks, middle_end, high_end, word_count, place}
use Rattle.design_cell.specs.Marks.{meets_output, meets_word, meets_middle, meets_high, meets, covers}
use Rattle.design_cell.specs.Sweep.{accepts, takes_part, Clash, FirstIn, IsFirstIn}
use Rattle.design_cell.specs.Seen.{IsTaken, Owns, IsSeen, Looks, Repeats}
use Rattle.design_cell.proofs.Booleans.{and_both, and_left, and_right, or_left, or_right, or_cases, any_here, any_found}
use Rattle.design_cell.proofs.Masks.{code_small}
use Rattle.design_cell.proofs.Conflicts.{cases_bool}
use Rattle.design_cell.proofs.Cases.{is_equal, spot, owns_parts, owns_covered, covered_owns, same_case, high_small, word_of_parts, high_of, middle_of, low_of}

or_and : (b c d w : Bool) → ((b || c && w) || d && w) ≡ (b || (c || d) && w)
or_and true c d w = refl
or_and false true true true = refl
or_and false true true false = refl
or_and false true false true = refl
or_and false true false false = refl
or_and false false d w = refl

-- a step more of what is marked
pub marks_more : (old seen new : List ℕ) (test next : ℕ → Bool) (low : ℕ) → Marks old seen test low → Marks seen new next low → Marks old new (λ p. test p || next p) low
marks_more old seen new test next low h k p b = k p b ∙ ap (λ x. x || next p && has low b) (h p b) ∙ or_and (marked old p b) (test p) (next p) (has low b)

has_max : (x y : ℕ) → x < 2 → y < 2 → (max x y == 1) ≡ ((x == 1) || (y == 1))
has_max zero zero h k = refl
has_max zero (suc zero) h k = refl
has_max (suc zero) zero h k = refl
has_max (suc zero) (suc zero) h k = refl
has_max (suc (suc x)) y h k = absurd (omega arith)
has_max zero (suc (suc y)) h k = absurd (omega arith)
has_max (suc zero) (suc (suc y)) h k = absurd (omega arith)

pub has_or : (u v b : ℕ) → has (bit_or u v) b ≡ (has u b || has v b)
has_or u v b = ap (λ x. x == 1) (bit_at_or u v b) ∙ has_max (bit_at u b) (bit_at v b) (bit_at-lt u b) (bit_at-lt v b)

or_false : (a : Bool) → a ≡ (a || false)
or_false true = refl
or_false false = refl

-- a word that takes the bits of another one
pub word_marked : (seen : List ℕ) (place low p b : ℕ) → place < length seen → marked (slice_set seen place (bit_or (slice_index seen place) low)) p b ≡ (marked seen p b || (p == place) && has low b)
word_marked seen place low p b within = elim (eqb_tells p place) as (λ _. marked (slice_set seen place (bit_or (slice_index seen place) low)) p b ≡ (marked seen p b || (p == place) && has low b)) [
  | inl e ↦ rw (e.0, e.1, get_or-set_same seen place (bit_or (slice_index seen place) low) 0 within) (has_or (slice_index seen place) low b)
  | inr e ↦ rw (e.0, get_or-set_other seen place p (bit_or (slice_index seen place) low) 0 e.1) (or_false (marked seen p b))
]

-- a set bit of two words
bit_found : (u v : ℕ) → v < 2 ^ 64 → not (bit_and u v == 0) ≡ true → (b : ℕ) × (has u b ≡ true) × (has v b ≡ true)
bit_found u v small h =
    let word = bit_and u v in
    let pos : 0 < bit_and u v = elim (eqb_tells (bit_and u v) 0) as (λ _. 0 < bit_and u v) [
      | inl e ↦ absurd (let g : false ≡ true = sym (ap not e.0) ∙ h in cc)
      | inr e ↦ elim (cases_lt 0 (bit_and u v)) as (λ _. 0 < bit_and u v) [ inl lt ↦ lt | inr ge ↦ absurd (e.1 (omega arith)) ]
    ] in
    let low = (bit_at-trailing_zeros w64 (bit_and u v) pos (omega (arith, and_le_r u v))).1 in
    let b = trailing_zeros w64 (bit_and u v) in
    let both : min (bit_at u (trailing_zeros w64 (bit_and u v))) (bit_at v (trailing_zeros w64 (bit_and u v))) ≡ 1 = sym (bit_at_and u v b) ∙ low in
    let bu : bit_at u (trailing_zeros w64 (bit_and u v)) ≡ 1 = omega (arith, bit_at-lt u b, bit_at-lt v b) in
    let bv : bit_at v (trailing_zeros w64 (bit_and u v)) ≡ 1 = omega (arith, bit_at-lt u b, bit_at-lt v b) in
    (b, eq-eqb _ 1 bu, eq-eqb _ 1 bv)

bit_meets : (u v b : ℕ) → has u b ≡ true → has v b ≡ true → not (bit_and u v == 0) ≡ true
bit_meets u v b h k = elim (eqb_tells (bit_and u v) 0) as (λ _. not (bit_and u v == 0) ≡ true) [
  | inr e ↦ rw e.0 refl
  | inl e ↦ absurd (
      let none : bit_at (bit_and u v) b ≡ 0 = ap (λ w. bit_at w b) e.1 ∙ bit_at-zero b in
      let both : min (bit_at u b) (bit_at v b) ≡ 0 = sym (bit_at_and u v b) ∙ none in
      let bu = is_equal _ 1 h in
      let bv = is_equal _ 1 k in
      omega arith)
]

within_words : (inputs h m v : ℕ) → h < high_end inputs → m < middle_end inputs → v < 3 → place h m v < 3 * word_count inputs
unfolding high_end middle_end word_count
within_words inputs h m v hh hm hv = elim (cases_lt 6 inputs) as (λ _. place h m v < 3 * word_count inputs) [
  | inl lt ↦ (
      let e : ltb 6 inputs ≡ true = lt-ltb 6 inputs lt in
      let f : ltb 3 inputs ≡ true = lt-ltb 3 inputs (omega arith) in
      let a : h < 81 = rw e at hh in
      let b : m < 27 = rw f at hm in
      rw (e, f) (omega arith))
  | inr ge ↦ (
      let e : ltb 6 inputs ≡ false = le-ltb 6 inputs ge in
      let a : h < 1 = rw e at hh in
      elim (cases_lt 3 inputs) as (λ _. place h m v < 3 * word_count inputs) [
        | inl lt ↦ (let f : ltb 3 inputs ≡ true = lt-ltb 3 inputs lt in let b : m < 27 = rw f at hm in rw (e, f) (omega arith))
        | inr le ↦ (let f : ltb 3 inputs ≡ false = le-ltb 3 inputs le in let b : m < 1 = rw f at hm in rw (e, f) (omega arith))
      ])
]

-- an output other than one of three is one of the next two
other_output : (v o : ℕ) → v < 3 → o < 3 → (v ≡ o → ⊥) → (v ≡ (o + 1) % 3) ⊎ (v ≡ (o + 2) % 3)
other_output v o hv ho apart = elim (eqb_tells v ((o + 1) % 3)) as (λ _. (v ≡ (o + 1) % 3) ⊎ (v ≡ (o + 2) % 3)) [
  | inl p ↦ inl p.1
  | inr p ↦ inr (omega (arith, p.1, apart))
]

-- where a case of a row is marked for another output, the two rows clash
both_own : (inputs : ℕ) (sweep : Sweep) (row other : RawRow) (h m v q b : ℕ) → v < 3 → (v ≡ code (output_of row.output sweep.state) → ⊥) → Owns inputs sweep row (place h m q) b → q < 3 → Owns inputs sweep other (place h m v) b → Clash inputs sweep row other
both_own inputs sweep row other h m v q b hv apart o hq k =
    let co : code (output_of row.output sweep.state) < 3 = code_small (output_of row.output sweep.state) in
    let ck : code (output_of other.output sweep.state) < 3 = code_small (output_of other.output sweep.state) in
    let eo = o.place_is in
    let ek = k.place_is in
    let words : o.word ≡ k.word = omega (arith, eo, ek) in
    let output : code (output_of other.output sweep.state) ≡ v = omega (arith, eo, ek) in
    let same = same_case o.case k.case o.small k.small (sym o.low ∙ k.low) (sym o.word_is ∙ words ∙ k.word_is) in
    record {
      first = o.part;
      second = k.part;
      case = o.case;
      small = o.small;
      first_takes = o.takes;
      second_takes = λ c below. subst (λ d. accepts inputs sweep other c d ≡ true) (sym (same c below)) (k.takes c below);
      apart = λ e. apart (sym (e ∙ output));
    }

pub clash_found : (inputs : ℕ) (sweep : Sweep) (rows : List RawRow) (start : ℕ) (seen : List ℕ) (row : RawRow) (t : Taken) → IsSeen inputs sweep rows start seen → takes_part inputs sweep row ≡ true → IsTaken inputs sweep row t → meets t seen ≡ true → (j : ℕ) × (start ≤ j) × (j < length rows) × Clash inputs sweep row (row_at rows j)
unfolding meets meets_high meets_middle meets_word meets_output
clash_found inputs sweep rows start seen row t is part taken h =
    let high = any_found (high_end t.inputs) (meets_high t seen) h in
    let middle = any_found (middle_end t.inputs) (meets_middle t seen high.0) (and_right (four (digit t.digits) high.0) _ high.2) in
    let gives : t.output < 3 = rw taken.gives (code_small (output_of row.output sweep.state)) in
    let output : (v : ℕ) × (v < 3) × (v ≡ t.output → ⊥) × (meets_output t seen (place high.0 middle.0 v) ≡ true) = elim (or_cases (meets_output t seen (place high.0 middle.0 ((t.output + 1) % 3))) (meets_output t seen (place high.0 middle.0 ((t.output + 2) % 3))) (and_right (has t.middle middle.0) _ middle.2)) as (λ _. (v : ℕ) × (v < 3) × (v ≡ t.output → ⊥) × (meets_output t seen (place high.0 middle.0 v) ≡ true)) [
      | inl e ↦ ((t.output + 1) % 3, omega arith, (λ k. omega arith), e)
      | inr e ↦ ((t.output + 2) % 3, omega arith, (λ k. omega arith), e)
    ] in
    let p = place high.0 middle.0 output.0 in
    let bits = bit_found (slice_index seen p) t.low taken.small output.3 in
    let hh : high.0 < high_end inputs = subst (λ n. high.0 < high_end n) taken.columns high.1 in
    let hm : middle.0 < middle_end inputs = subst (λ n. middle.0 < middle_end n) taken.columns middle.1 in
    let behind = is.sound p bits.0 (within_words inputs high.0 middle.0 output.0 hh hm output.1) bits.1 in
    let own = owns_parts inputs sweep row t taken part bits.0 middle.0 high.0 (record {
      lows = bits.2;
      middles = and_left (has t.middle middle.0) (meets_word t seen high.0 middle.0) middle.2;
      fours = and_left (four (digit t.digits) high.0) (any_below (middle_end t.inputs) (meets_middle t seen high.0)) high.2;
      small = omega (arith, high.1, high_small t.inputs);
    }) in
    (behind.0, behind.1, behind.2, both_own inputs sweep row (row_at rows behind.0) high.0 middle.0 output.0 t.output bits.0 output.1 (λ e. output.2 (e ∙ sym taken.gives)) own gives behind.3)

owns_clash : (inputs : ℕ) (sweep : Sweep) (row other : RawRow) (k : Clash inputs sweep row other) → Owns inputs sweep other (place (high_of k.case) (middle_of k.case) (code (output_of other.output sweep.state))) (low_of k.case)
owns_clash inputs sweep row other k = record {
  part = k.second;
  case = k.case;
  small = k.small;
  takes = k.second_takes;
  low = refl;
  word = 27 * high_of k.case + middle_of k.case;
  word_is = word_of_parts k.case;
  place_is = refl;
}

pub clash_met : (inputs : ℕ) (sweep : Sweep) (rows : List RawRow) (start : ℕ) (seen : List ℕ) (row : RawRow) (t : Taken) → IsSeen inputs sweep rows start seen → IsTaken inputs sweep row t → (j : ℕ) → start ≤ j → j < length rows → Clash inputs sweep row (row_at rows j) → meets t seen ≡ true
unfolding meets meets_high meets_middle meets_word meets_output
clash_met inputs sweep rows start seen row t is taken j from below k =
    let other = row_at rows j in
    let v = code (output_of other.output sweep.state) in
    let s = spot inputs sweep row t taken k.case (record { small = k.small; takes = k.first_takes }) in
    let p = place (high_of k.case) (middle_of k.case) (code (output_of (row_at rows j).output sweep.state)) in
    let set = is.complete j p (low_of k.case) from below (owns_clash inputs sweep row (row_at rows j) k) in
    let word = bit_meets (slice_index seen p) t.low (low_of k.case) set s.lows in
    let apart : code (output_of (row_at rows j).output sweep.state) ≡ t.output → ⊥ = λ e. k.apart (sym (e ∙ taken.gives)) in
    let gives : t.output < 3 = rw taken.gives (code_small (output_of row.output sweep.state)) in
    let At : ℕ → Bool = λ v. meets_output t seen (place (high_of k.case) (middle_of k.case) v) in
    let output : (At ((t.output + 1) % 3) || At ((t.output + 2) % 3)) ≡ true = elim (other_output v t.output (code_small (output_of other.output sweep.state)) gives apart) as (λ _. (At ((t.output + 1) % 3) || At ((t.output + 2) % 3)) ≡ true) [
      | inl e ↦ or_left (At ((t.output + 1) % 3)) (At ((t.output + 2) % 3)) (subst (λ v. meets_output t seen (place (high_of k.case) (middle_of k.case) v) ≡ true) e word)
      | inr e ↦ or_right (At ((t.output + 1) % 3)) (At ((t.output + 2) % 3)) (subst (λ v. meets_output t seen (place (high_of k.case) (middle_of k.case) v) ≡ true) e word)
    ] in
    let middle = any_here (middle_end t.inputs) (meets_middle t seen (high_of k.case)) (middle_of k.case) (rw taken.columns s.middle) (and_both _ _ s.middles output) in
    any_here (high_end t.inputs) (meets_high t seen) (high_of k.case) (rw taken.columns s.high) (and_both _ _ s.fours middle)

-- with a row more the words have its cases too
pub seen_more : (inputs : ℕ) (sweep : Sweep) (rows : List RawRow) (i : ℕ) (old new : List ℕ) (hit : Bool) → i < length rows → IsSeen inputs sweep rows (suc i) old → Looks inputs sweep (row_at rows i) old new hit → IsSeen inputs sweep rows i new
seen_more inputs sweep rows i old new hit below is look = elim (cases_bool (takes_part inputs sweep (row_at rows i))) as (λ _. IsSeen inputs sweep rows i new) [
  | inr e ↦ (
      let same = (look.absent e).0 in
      record {
        sound = λ p b small h. (let f = is.sound p b small (rw same at h) in (f.0, omega (arith, f.1), f.2, f.3));
        complete = λ j p b from lt o. elim (cases_lt i j) as (λ _. marked new p b ≡ true) [
          | inl after ↦ ap (λ s. marked s p b) same ∙ is.complete j p b (omega arith) lt o
          | inr le ↦ absurd (let same_row : i ≡ j = omega arith in let part = ap (λ k. takes_part inputs sweep (row_at rows k)) same_row ∙ o.part in let g : true ≡ false = sym part ∙ e in cc)
        ];
      })
  | inl e ↦ (
      let found = look.present e in
      let t = found.0 in
      let taken = found.1 in
      let marks = found.3 in
      record {
        sound = λ p b small h. elim (or_cases (marked old p b) (covers t p && has t.low b) (sym (marks p b) ∙ h)) as (λ _. (j : ℕ) × (i ≤ j) × (j < length rows) × Owns inputs sweep (row_at rows j) p b) [
          | inl k ↦ (let f = is.sound p b small k in (f.0, omega (arith, f.1), f.2, f.3))
          | inr k ↦ (i, omega arith, below, owns_covered inputs sweep (row_at rows i) t taken e p b (and_left (covers t p) (has t.low b) k) (and_right (covers t p) (has t.low b) k))
        ];
        complete = λ j p b from lt o. elim (cases_lt i j) as (λ _. marked new p b ≡ true) [
          | inl after ↦ marks p b ∙ or_left (marked old p b) (covers t p && has t.low b) (is.complete j p b (omega arith) lt o)
          | inr le ↦ (let same_row : j ≡ i = omega arith in marks p b ∙ or_right (marked old p b) (covers t p && has t.low b) (covered_owns inputs sweep (row_at rows i) t taken p b (subst (λ k. Owns inputs sweep (row_at rows k) p b) same_row o)))
        ];
      })
]

abbrev pub Clashing : ℕ → Sweep → List RawRow → ℕ → ℕ → Type 0
Clashing inputs sweep rows i j = Clash inputs sweep (row_at rows i) (row_at rows j)

-- a row that clashes with none behind it leaves the first one as it is
pub first_stays : (related : ℕ → ℕ → Type 0) (i end : ℕ) (first : Option ℕ) → ((j : ℕ) → i < j → j < end → related i j → ⊥) → FirstIn related (suc i) end first → FirstIn related i end first
first_stays related i end None none h = λ a j from after below r. elim (cases_lt i a) as (λ _. ⊥) [
  | inl lt ↦ h a j (omega arith) after below r
  | inr le ↦ (let same : a ≡ i = omega arith in none j (omega arith) below (subst (λ k. related k j) same r))
]
first_stays related i end (Some k) none h = record {
  from = omega (arith, h.from);
  second = h.second;
  after = h.after;
  below = h.below;
  here = h.here;
  earlier = λ a j from lt after below r. elim (cases_lt i a) as (λ _. ⊥) [
    | inl later ↦ h.earlier a j (omega arith) lt after below r
    | inr le ↦ (let same : a ≡ i = omega arith in none j (omega arith) below (subst (λ k. related k j) same r))
  ];
}

pub first_more : (inputs : ℕ) (sweep : Sweep) (rows : List RawRow) (i : ℕ) (old new : List ℕ) (hit : Bool) (first : Option ℕ) → i < length rows → IsSeen inputs sweep rows (suc i) old → Looks inputs sweep (row_at rows i) old new hit → FirstIn (Clashing inputs sweep rows) (suc i) (length rows) first → FirstIn (Clashing inputs sweep rows) i (length rows) (cond hit (Some i) first)
first_more inputs sweep rows i old new true first below is look h = elim (cases_bool (takes_part inputs sweep (row_at rows i))) as (λ _. IsFirstIn (Clashing inputs sweep rows) i (length rows) i) [
  | inr e ↦ absurd (let g : true ≡ false = (look.absent e).1 in cc)
  | inl e ↦ (
      let found = look.present e in
      let k = clash_found inputs sweep rows (suc i) old (row_at rows i) found.0 is e found.1 (sym found.2) in
      record { from = omega arith; second = k.0; after = omega (arith, k.1); below = k.2; here = k.3; earlier = λ a j from lt after below r. absurd (omega arith) })
]
first_more inputs sweep rows i old new false first below is look h = first_stays (Clashing inputs sweep rows) i (length rows) first (λ j after lt k.
    let found = look.present k.first in
    let met = clash_met inputs sweep rows (suc i) old (row_at rows i) found.0 is found.1 j (omega arith) lt k in
    let g : false ≡ true = found.2 ∙ met in
    cc) h

-- no row is behind the last one
pub seen_none : (inputs : ℕ) (sweep : Sweep) (rows : List RawRow) (seen : List ℕ) → ((p : ℕ) → p < 3 * word_count inputs → slice_index seen p ≡ 0) → IsSeen inputs sweep rows (length rows) seen
seen_none inputs sweep rows seen clear = record {
  sound = λ p b small h. absurd (let e : has (slice_index seen p) b ≡ false = ap (λ w. has w b) (clear p small) ∙ ap (λ k. k == 1) (bit_at-zero b) in let g : true ≡ false = sym h ∙ e in cc);
  complete = λ j p b from below o. absurd (omega arith);
}

-- a row that repeats the one behind it has its cases
pub seen_repeats : (inputs : ℕ) (sweep : Sweep) (rows : List RawRow) (i : ℕ) (seen : List ℕ) → Repeats rows i → IsSeen inputs sweep rows (i + 1) seen → IsSeen inputs sweep rows i seen
seen_repeats inputs sweep rows i seen same is = record {
  sound = λ p b small h. (let f = is.sound p b small h in (f.0, omega (arith, f.1), f.2, f.3));
  complete = λ j p b from below o. elim (cases_lt i j) as (λ _. marked seen p b ≡ true) [
    | inl after ↦ is.complete j p b (omega arith) below o
    | inr le ↦ (let e : j ≡ i = omega arith in let next = subst (λ (r : RawRow). Owns inputs sweep r p b) (ap (row_at rows) e ∙ same.same) o in is.complete (i + 1) p b (omega arith) same.within next)
  ];
}

first_is : (first : Option ℕ) (i : ℕ) → option_eq eqb first (Some i) ≡ true → first ≡ Some i
first_is None i h = cc
first_is (Some k) i h = ap Some (is_equal k i h)

first_not : (first : Option ℕ) (i : ℕ) → option_eq eqb first (Some i) ≡ false → first ≡ Some i → ⊥
first_not first i h e = let f : option_eq eqb first (Some i) ≡ (i == i) = ap (λ (o : Option ℕ). option_eq eqb o (Some i)) e in let g : (i == i) ≡ true = eq-eqb i i refl in let no : false ≡ true = sym h ∙ f ∙ g in cc

-- a row that clashes with one behind it is the first
is_first : (related : ℕ → ℕ → Type 0) (i end : ℕ) (first : Option ℕ) (j : ℕ) → FirstIn related i end first → i < j → j < end → related i j → first ≡ Some i
is_first related i end None j h lt below r = absurd (h i j (omega arith) lt below r)
is_first related i end (Some k) j h lt below r = elim (cases_lt i k) as (λ _. Some k ≡ Some i) [
  | inl before ↦ absurd (h.earlier i j (omega arith) before lt below r)
  | inr le ↦ (let e : k ≡ i = omega (arith, h.from) in ap Some e)
]

clash_apart : (inputs : ℕ) (sweep : Sweep) (row other : RawRow) → row ≡ other → Clash inputs sweep row other → ⊥
clash_apart inputs sweep row other e k = k.apart (ap (λ (r : RawRow). code (output_of r.output sweep.state)) e)

pub first_repeats : (inputs : ℕ) (sweep : Sweep) (rows : List RawRow) (i : ℕ) (first : Option ℕ) (hit : Bool) → Repeats rows i → hit ≡ option_eq eqb first (Some (i + 1)) → FirstIn (Clashing inputs sweep rows) (i + 1) (length rows) first → FirstIn (Clashing inputs sweep rows) i (length rows) (cond hit (Some i) first)
first_repeats inputs sweep rows i first true same is h =
    let first_is_next = first_is first (i + 1) (sym is) in
    let k : IsFirstIn (Clashing inputs sweep rows) (i + 1) (length rows) (i + 1) = subst (λ (o : Option ℕ). FirstIn (Clashing inputs sweep rows) (i + 1) (length rows) o) first_is_next h in
    let here = subst (λ (r : RawRow). Clash inputs sweep r (row_at rows k.second)) (sym same.same) k.here in
    record { from = omega arith; second = k.second; after = omega (arith, k.after); below = k.below; here = here; earlier = λ a j from lt after below r. absurd (omega arith) }
first_repeats inputs sweep rows i first false same is h = first_stays (Clashing inputs sweep rows) i (length rows) first (λ j after below k.
    elim (cases_lt (i + 1) j) as (λ _. ⊥) [
      | inl later ↦ first_not first (i + 1) (sym is) (is_first (Clashing inputs sweep rows) (i + 1) (length rows) first j h later below (subst (λ (r : RawRow). Clash inputs sweep r (row_at rows j)) same.same k))
      | inr le ↦ (let e : i + 1 ≡ j = omega arith in clash_apart inputs sweep (row_at rows i) (row_at rows j) (same.same ∙ ap (row_at rows) e) k)
    ]) (rw (← add-one) h)
