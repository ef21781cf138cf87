-- Origins counted by what gave them, and the groups of the counts.
use Rattle.std.specs.BTreeMap as tree
use Rattle.std.proofs.Common.{◌≡◌, ◌≢◌, ◌⊎◌, ℕ, zero, suc, ◌+◌, ◌<◌, ◌≤◌, ◌==◌, Bool, true, false, Option, None, Some, List, [], ◌∷◌, All, Ordering, cond, drop, get_or, length, map, nat_lt, take, refl, sym, ap, ◌∙◌, subst, arith, add-one, inl, inr, ⊎_elim}
use Rattle.std.proofs.Math.Seq.{drop-cons}
use Rattle.std.proofs.lemmas.Bool.{and_parts, cases_eq, cases_lt, eq-eqb, le-ltb, lt-ltb, ne_eqb}
use Rattle.std.proofs.lemmas.Bool.Decides.{Decides-eqb}
use Rattle.std.proofs.lemmas.Cmp.{tied_back}
use Rattle.std.proofs.lemmas.List.{get_or-map}
use Rattle.std.proofs.lemmas.List.Elements.{All-map}
use Rattle.std.proofs.lemmas.List.Sums.{sum_by-cons, sum_by_more}
use Rattle.std.proofs.lemmas.Map.Keys.{Less-from_sorted, sorted_head, sorted_tail}
use Rattle.std.specs.declared.cmp.Ordering.TheVariants.{Less, Equal, Greater}
use Rattle.std.specs.BTreeMap.{is_at}
use Rattle.std.specs.Cmp.{IsTotalOrder, both_tied, nat_cmp_total, on_total, then_total, unsigned_tied}
use Rattle.std.specs.Cmp.Lexicographic.{options_total}
use Rattle.std.specs.List.{AllByRecursion}
use Rattle.std.specs.List.Sorted.{IsStrictlySortedBy}
use Rattle.std.specs.Map.{count_at, keys_of, lookup, update, values_of}
use Rattle.std.specs.Option.{is_some, option_cmp, unwrap_or}
use Rattle.std.specs.Ordering.{eq_by_cmp, is_eq, nat_cmp}
use Rattle.std.specs.Prelude.{count_by, sum, sum_by}
use Rattle.design_circuit.specs.declared.design.Driver.{Driver}
use Rattle.design_circuit.specs.declared.design.Driver.TheVariants.{Input, Undriven, Constant, Copy, Cell, Register}
use Rattle.design_circuit.specs.declared.design.Table.TheVariants.{Gate, Udp}
use Rattle.design_circuit.specs.Fits.{IsPlain}
use Rattle.design_circuit.specs.Job.{Job}
use Rattle.report_bits.specs.Counts.{one_if}
use Rattle.report_audit.specs.Counted.{AreCounted, Counts, CountsIf, CountsOne, compared, count_of, group_of, some_if}
use Rattle.report_audit.specs.Found.{IsDriven}
use Rattle.report_audit.specs.Groups.{AreGroups, Giver, GroupBefore, RowBefore, giver_by, giver_of, groups_for, is_from, is_row, is_same, origins_from, primitive_of_driver}
use Rattle.report_audit.specs.declared.found.Found.{Found}
use Rattle.report_audit.specs.declared.groups.Group.{Group}

-- ---- the order of givers

pub compared_total : IsTotalOrder compared
compared_total =
    then_total (on_total (λ (g : Giver). g.0) nat_cmp_total) (on_total (λ (g : Giver). g.1) (options_total nat_cmp_total))

rows_tied : (row other : Option ℕ) → is_row row other ≡ is_eq (option_cmp nat_cmp row other)
rows_tied None None = refl
rows_tied None (Some other) = refl
rows_tied (Some row) None = refl
rows_tied (Some row) (Some other) = sym (unsigned_tied row other)

-- Givers are the same where their order says so.
same_tied : (giver other : Giver) → is_same giver other ≡ is_eq (compared giver other)
same_tied giver other =
    both_tied (giver.0 == other.0) (is_row giver.1 other.1) (nat_cmp giver.0 other.0) (option_cmp nat_cmp giver.1 other.1)
    (sym (unsigned_tied giver.0 other.0)) (rows_tied giver.1 other.1)

rows_before : (row other : Option ℕ) → option_cmp nat_cmp row other ≡ Less → RowBefore row other
rows_before None None less = cc
rows_before None (Some other) less = tt
rows_before (Some row) None less = cc
rows_before (Some row) (Some other) less = ⊎_elim (λ (below : row < other). below)
    (λ (up : other ≤ row). ⊎_elim
    (λ (same : row ≡ other). absurd (let e = rw (le-ltb row other up, eq-eqb row other same) at less in cc))
    (λ (apart : row ≢ other). absurd (let e = rw (le-ltb row other up, ne_eqb row other apart) at less in cc))
    (cases_eq row other)) (cases_lt row other)

tied_so : (o : Ordering) → is_eq o ≡ true → o ≡ Equal
tied_so Less is = cc
tied_so Equal is = refl
tied_so Greater is = cc

same_row : (row other : Option ℕ) → is_row row other ≡ true → row ≡ other
same_row None None is = refl
same_row None (Some other) is = cc
same_row (Some row) None is = cc
same_row (Some row) (Some other) is = ap Some ((Decides-eqb row other).0 is)

same_so : (giver other : Giver) → is_same giver other ≡ true → giver ≡ other
same_so giver other is =
    let parts = and_parts (giver.0 == other.0) (is_row giver.1 other.1) is in
    let first : giver ≡ (other.0, giver.1) = ap (λ (n : ℕ). (n, giver.1)) ((Decides-eqb giver.0 other.0).0 parts.0) in
    let second : (other.0, giver.1) ≡ other = ap (λ (r : Option ℕ). (other.0, r)) (same_row giver.1 other.1 parts.1) in
    first ∙ second

-- Where one giver is the other, so the other way round.
same_back : (giver other : Giver) (b : Bool) → is_eq (compared giver other) ≡ b → is_same other giver ≡ b
same_back giver other true is =
    same_tied other giver ∙ ap is_eq (tied_back compared_total giver other (tied_so (compared giver other) is))
same_back giver other false is = by (is_same other giver) refl
  where
    by : (b : Bool) → is_same other giver ≡ b → b ≡ false
    by false e = refl
    by true e = absurd (let t = ap is_eq (tied_back compared_total other giver (tied_so (compared other giver)
        (sym (same_tied other giver) ∙ e))) in cc)

-- A giver that comes before another gives a group before that one's.
givers_before : (giver other : Giver) → compared giver other ≡ Less
    → (giver.0 < other.0) ⊎ ((giver.0 ≡ other.0) × RowBefore giver.1 other.1)
givers_before giver other less = ⊎_elim (λ (below : giver.0 < other.0). inl below)
    (λ (up : other.0 ≤ giver.0). ⊎_elim
    (λ (same : giver.0 ≡ other.0). inr (
      same,
      rows_before giver.1 other.1
          (rw (le-ltb giver.0 other.0 up, eq-eqb giver.0 other.0 same) at less),
    ))
    (λ (apart : giver.0 ≢ other.0). absurd
    (let e = rw (le-ltb giver.0 other.0 up, ne_eqb giver.0 other.0 apart) at less in cc))
    (cases_eq giver.0 other.0)) (cases_lt giver.0 other.0)

-- ---- a step of the count

not_plain : (driver : Driver) → (IsPlain driver → ⊥) → primitive_of_driver driver ≡ None → ⊥
not_plain Input plain none = plain tt
not_plain Undriven plain none = plain tt
not_plain (Constant bit) plain none = plain tt
not_plain (Copy argument) plain none = plain tt
not_plain (Cell (Gate gate) pins) plain none = plain tt
not_plain (Cell (Udp number) pins) plain none = cc
not_plain (Register latching) plain none = cc

-- What is driven by a primitive has a giver exactly where it is an origin.
given_so : (origin : Bool) (primitive row : Option ℕ) → (origin ≡ true → primitive ≡ None → ⊥)
    → is_some (giver_by origin primitive row) ≡ origin
given_so false primitive row driven = refl
given_so true None row driven = absurd (driven refl refl)
given_so true (Some primitive) row driven = refl

is_given : (j : Job) (found : Found) → IsDriven j found → is_some (giver_of j found) ≡ found.origin
is_given j found driven =
    given_so found.origin (primitive_of_driver (j.driver found.place.net)) found.row
    (λ origin none. not_plain (j.driver found.place.net) (driven origin) none)

some_more : (n : ℕ) → Some (unwrap_or (some_if n) 0 + 1) ≡ some_if (n + 1)
some_more zero = refl
some_more (suc n) = ap Some (add-one (suc n)) ∙ ap some_if (sym (add-one (suc n)))

count_back : (n : ℕ) (count : Option ℕ) → count ≡ some_if n → Some (unwrap_or count 0 + 1) ≡ some_if (n + 1)
count_back n count is = ap (λ (o : Option ℕ). Some (unwrap_or o 0 + 1)) is ∙ some_more n

module _ (j : Job) (listed : List Found) (i : ℕ) (found : Found) (less : i < length listed)
    (item : found ≡ get_or listed i found) (old new : Counts)
  where
    -- Giver by giver.
    count_next : (giver : Giver) → origins_from j (take (i + 1) listed) giver
        ≡ origins_from j (take i listed) giver + (cond (is_from giver (giver_of j found)) 1 0)
    count_next giver =
        sum_by_more (λ (f : Found). cond (is_from giver (giver_of j f)) 1 0) listed i found less
        ∙ ap (λ (f : Found). origins_from j (take i listed) giver + (cond (is_from giver (giver_of j f)) 1 0)) (sym item)

    total_next : count_by (λ (f : Found). f.origin) (take (i + 1) listed)
        ≡ count_by (λ (f : Found). f.origin) (take i listed) + (cond found.origin 1 0)
    total_next =
        sum_by_more (λ (f : Found). cond f.origin 1 0) listed i found less
        ∙ ap (λ (f : Found). count_by (λ (g : Found). g.origin) (take i listed) + (cond f.origin 1 0)) (sym item)

    none_counted : giver_of j found ≡ None → IsDriven j found → AreCounted j (take i listed) old
        → AreCounted j (take (i + 1) listed) old
    none_counted none driven counted = record {
      counts_ = λ giver. (
          let same : origins_from j (take (i + 1) listed) giver ≡ origins_from j (take i listed) giver + 0 =
          count_next giver ∙ ap (λ (g : Option Giver). origins_from j (take i listed) giver + (cond (is_from giver g) 1 0)) none in
          counted.counts_ giver ∙ ap some_if (omega (arith, same)));
      total = (
          let quiet : found.origin ≡ false = sym (is_given j found driven) ∙ ap is_some none in
          let same : count_by (λ (f : Found). f.origin) (take (i + 1) listed) ≡ count_by (λ (f : Found). f.origin) (take i listed) + 0 =
          total_next ∙ ap (λ (b : Bool). count_by (λ (f : Found). f.origin) (take i listed) + (cond b 1 0)) quiet in
          counted.total ∙ omega (arith, same));
    }

    one_counted : (giver : Giver) → giver_of j found ≡ Some giver → IsDriven j found → CountsOne giver old new
        → AreCounted j (take i listed) old → AreCounted j (take (i + 1) listed) new
    one_counted giver given driven one counted = record {
      counts_ = λ other. one.counts other ∙ by other (eq_by_cmp compared giver other) refl;
      total = (
          let origin : found.origin ≡ true = sym (is_given j found driven) ∙ ap is_some given in
          let more : count_by (λ (f : Found). f.origin) (take (i + 1) listed) ≡ count_by (λ (f : Found). f.origin) (take i listed) + 1 =
          total_next ∙ ap (λ (b : Bool). count_by (λ (f : Found). f.origin) (take i listed) + (cond b 1 0)) origin in
          let before = counted.total in
          one.total ∙ omega (arith, more, before));
    }
      where
        from : (other : Giver) (b : Bool) → is_same other giver ≡ b
            → origins_from j (take (i + 1) listed) other ≡ origins_from j (take i listed) other + (cond b 1 0)
        from other b is = count_next other
            ∙ ap (λ (g : Option Giver). origins_from j (take i listed) other + (cond (is_from other g) 1 0)) given
            ∙ ap (λ (c : Bool). origins_from j (take i listed) other + (cond c 1 0)) is

        by : (other : Giver) (b : Bool) → eq_by_cmp compared giver other ≡ b
            → update (eq_by_cmp compared) (count_of old) giver (Some (count_at (count_of old) giver + 1)) other
            ≡ some_if (origins_from j (take (i + 1) listed) other)
        by other false is = rw is (
            let same = from other false (same_back giver other false is) in
            counted.counts_ other ∙ ap some_if (omega (arith, same)))
        by other true is = rw is (
            let more = from other true (same_back giver other true is) in
            let alike : giver ≡ other = same_so giver other (same_tied giver other ∙ is) in
            ap (λ (g : Giver). Some (count_at (count_of old) g + 1)) alike
            ∙ count_back (origins_from j (take i listed) other) (count_of old other) (counted.counts_ other)
            ∙ ap some_if (sym more))

    -- A listed place more is counted.
    pub counted_more : (given : Option Giver) → giver_of j found ≡ given → IsDriven j found → CountsIf given old new
        → AreCounted j (take i listed) old → AreCounted j (take (i + 1) listed) new
    counted_more None given driven is counted =
        subst (AreCounted j (take (i + 1) listed)) (sym is) (none_counted given driven counted)
    counted_more (Some giver) given driven is counted = one_counted giver given driven is counted

-- ---- the groups of the counts

pub head_and_rest : {X : Type 0} (P : X → Type 0) (xs : List X) (i : ℕ) (x : X) → i < length xs → AllByRecursion P (drop i xs)
    → P (get_or xs i x) × AllByRecursion P (drop (i + 1) xs)
head_and_rest P xs i x less all =
    let parts = subst (AllByRecursion P) (drop-cons xs i x less) all in
    (parts.0, rw (add-one i) parts.1)

is_count : (n count : ℕ) → some_if n ≡ Some count → count ≡ n
is_count zero count is = cc
is_count (suc n) count is = cc

is_some_if : (n : ℕ) → is_some (some_if n) ≡ nat_lt 0 n
is_some_if zero = refl
is_some_if (suc n) = sym (lt-ltb 0 (suc n) (omega arith))

length_map : {X Y : Type 0} (f : X → Y) (xs : List X) → length (map f xs) ≡ length xs
length_map f [] = refl
length_map f (x ∷ xs) = ap (λ (k : ℕ). suc k) (length_map f xs)

-- Behind a giver none is the same.
none_behind : (giver first : Giver) (entries : List (Giver × ℕ)) → compared giver first ≡ Equal
    → AllByRecursion (λ (key : Giver). compared first key ≡ Less) (keys_of entries)
    → groups_for (map group_of entries) giver ≡ 0
none_behind giver first [] same all = refl
none_behind giver first (e ∷ entries) same all =
    let less : compared giver e.0 ≡ Less = compared_total.congr giver first e.0 same ∙ all.0 in
    let other : is_same giver (e.0.0, e.0.1) ≡ false = same_tied giver e.0 ∙ ap is_eq less in
    let parts = sum_by-cons (λ (g : Group). cond (is_same giver (g.primitive, g.row)) 1 0) (group_of e) (map group_of entries) in
    parts ∙ ap (λ (b : Bool). cond b 1 0 + groups_for (map group_of entries) giver) other
    ∙ (let rest = none_behind giver first entries same all.1 in omega (arith, rest))

-- A giver has one group where a look-up finds it, and else none.
found_once : (giver : Giver) (entries : List (Giver × ℕ)) → IsStrictlySortedBy compared (keys_of entries)
    → groups_for (map group_of entries) giver ≡ one_if (is_some (lookup (is_at (compared giver)) entries))
found_once giver [] sorted = refl
found_once giver (e ∷ entries) sorted =
    sum_by-cons (λ (g : Group). cond (is_same giver (g.primitive, g.row)) 1 0) (group_of e) (map group_of entries)
    ∙ ap (λ (b : Bool). cond b 1 0 + groups_for (map group_of entries) giver) (same_tied giver e.0)
    ∙ by (is_eq (compared giver e.0)) refl
    (found_once giver entries (sorted_tail compared e.0 (keys_of entries) sorted))
  where
    by : (b : Bool) → is_eq (compared giver e.0) ≡ b → groups_for (map group_of entries) giver
        ≡ one_if (is_some (lookup (is_at (compared giver)) entries)) → cond b 1 0 + groups_for (map group_of entries) giver
        ≡ one_if (is_some (cond b (Some e.1) (lookup (is_at (compared giver)) entries)))
    by true same rest =
        let none = none_behind giver e.0 entries (tied_so (compared giver e.0) same)
        (sorted_head compared e.0 (keys_of entries) sorted) in
        omega (arith, none)
    by false other rest = omega (arith, rest)

sum_values : (entries : List (Giver × ℕ)) → sum_by (λ (g : Group). g.places) (map group_of entries) ≡ sum (values_of entries)
sum_values [] = refl
sum_values (e ∷ entries) =
    sum_by-cons (λ (g : Group). g.places) (group_of e) (map group_of entries)
    ∙ ap (λ (k : ℕ). e.1 + k) (sum_values entries) ∙ sym (sum_by-cons (λ (n : ℕ). n) e.1 (values_of entries))

pub are_groups : (j : Job) (listed : List Found) (counts : Counts) → AreCounted j listed counts → tree.IsOrdered compared counts
    → All (λ (entry : Giver × ℕ). count_of counts entry.0 ≡ Some entry.1) counts.entries
    → AreGroups j listed (map group_of counts.entries)
are_groups j listed counts counted ordered found = record {
  numbers = All-map (λ (g : Group). g.places ≡ origins_from j listed (g.primitive, g.row)) group_of counts.entries
      (λ k d less. (let e = get_or counts.entries k d in
      is_count (origins_from j listed e.0) e.1 (sym (counted.counts_ e.0) ∙ found k d less)));
  once = λ giver. found_once giver counts.entries ordered
      ∙ ap (λ (o : Option ℕ). one_if (is_some o)) (counted.counts_ giver)
      ∙ ap one_if (is_some_if (origins_from j listed giver));
  order = λ k d less. in_order k d less;
  total = sum_values counts.entries ∙ counted.total;
}
  where
    in_order : (k : ℕ) (d : Group) → k + 1 < length (map group_of counts.entries)
        → GroupBefore (get_or (map group_of counts.entries) k d) (get_or (map group_of counts.entries) (k + 1) d)
    in_order k d less =
        let entries = counts.entries in
        let e : Giver × ℕ = ((0, None), 0) in
        let long = length_map group_of entries in
        let first = get_or-map group_of entries k e d (omega (arith, long, less)) in
        let second = get_or-map group_of entries (k + 1) e d (omega (arith, long, less)) in
        let a = get_or-map (λ (p : Giver × ℕ). p.0) entries k e e.0 (omega (arith, long, less)) in
        let b = get_or-map (λ (p : Giver × ℕ). p.0) entries (k + 1) e e.0 (omega (arith, long, less)) in
        let keys = length_map (λ (p : Giver × ℕ). p.0) entries in
        let sorted = Less-from_sorted compared (keys_of entries) k (k + 1) e.0 ordered (omega arith)
        (omega (arith, long, keys, less)) in
        let less' : compared (get_or entries k e).0 (get_or entries (k + 1) e).0 ≡ Less = rw (sym a, sym b) sorted in
        subst (λ (g : Group). GroupBefore g (get_or (map group_of entries) (k + 1) d)) (sym first)
        (subst (λ (g : Group). GroupBefore (group_of (get_or entries k e)) g) (sym second)
        (givers_before (get_or entries k e).0 (get_or entries (k + 1) e).0 less'))
