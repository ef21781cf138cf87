-- A full listing is an order of all nets.
use Rattle.std.proofs.Common.{◌≡◌, ℕ, zero, suc, ◌+◌, ◌<◌, Bool, true, false, cond, Option, Some, None, List, [], ◌∷◌, ◌++◌, length, length-append, is_some, MatchOption, IfNone, take, slice_index, refl, sym, ap, ◌∙◌, arith, inl, inr, subst}
use Rattle.std.specs.List.{Contains, count_by}
use Rattle.std.proofs.lemmas.Bool.{cases_lt}
use Rattle.std.proofs.lemmas.List.{get_or-take, length-take-le}
use Rattle.std.proofs.lemmas.List.Sums.{sum_by-cons, count_by-le-length}
use Rattle.design_circuit.specs.Order.{IsOrder, IsOrdering}
use Rattle.design_circuit.specs.declared.design.Driver.{Driver}
use Rattle.design_order.specs.Progress.{flag_at, IsListed}
use Rattle.design_order.proofs.Finds.{contains_at, index_of}

-- where as many flags are set as there are, all are
pub all_flags : (flags : List Bool) → count_by (λ flag. flag) flags ≡ length flags → (i : ℕ) → i < length flags → flag_at flags i ≡ true
all_flags [] h i lt = absurd (omega arith)
all_flags (true ∷ flags) h zero lt = refl
all_flags (true ∷ flags) h (suc i) lt =
    let step = sum_by-cons (λ (f : Bool). cond f 1 0) true flags in
    all_flags flags (omega (arith, step, h)) i (omega arith)
all_flags (false ∷ flags) h i lt =
    let step = sum_by-cons (λ (f : Bool). cond f 1 0) false flags in
    let few = count_by-le-length (λ flag. flag) flags in
    absurd (omega (arith, step, few, h))

pub every_net : (driver : ℕ → Driver) (width : ℕ) (listed : List ℕ) (flags : List Bool) → IsListed driver width listed flags → length listed ≡ width → (net : ℕ) → net < width → Contains listed net
every_net driver width listed flags known full net lt = known.flagged net (all_flags flags (known.count ∙ full ∙ sym known.long) net (omega (arith, known.long)))

once_before : (driver : ℕ → Driver) (width : ℕ) (listed : List ℕ) (flags : List Bool) → IsListed driver width listed flags → (p q : ℕ) → p < q → q < length listed → slice_index listed p ≡ slice_index listed q → ⊥
once_before driver width listed flags known p q lt within same =
    let long : length (take q listed) ≡ q = length-take-le q listed (omega arith) in
    let here = contains_at (take q listed) p (omega (arith, long)) in
    (known.listing q within).unlisted (subst (λ n. Contains (take q listed) n) (get_or-take q listed p 0 lt ∙ same) here)

pub ordering_of : (driver : ℕ → Driver) (width : ℕ) (listed : List ℕ) (flags : List Bool) → IsListed driver width listed flags → length listed ≡ width → IsOrdering listed
ordering_of driver width listed flags known full = record {
  below = λ p lt. (let h = (known.listing p lt).within in omega (arith, h, full));
  each = λ net lt. index_of listed net (every_net driver width listed flags known full net (omega (arith, full)));
  once = λ p q p_in q_in same. elim (cases_lt p q) as (λ _. p ≡ q) [
    | inl lt ↦ absurd (once_before driver width listed flags known p q lt q_in same)
    | inr ge ↦ elim (cases_lt q p) as (λ _. p ≡ q) [
      | inl lt ↦ absurd (once_before driver width listed flags known q p lt p_in (sym same))
      | inr le ↦ omega arith
    ]
  ];
}

pub order_of : (driver : ℕ → Driver) (width : ℕ) (listed : List ℕ) (flags : List Bool) → IsListed driver width listed flags → length listed ≡ width → IsOrder driver width listed
order_of driver width listed flags known full = record { all = full; next = known.listing }

-- where each flag is set, as many are set as there are
pub count_all : (flags : List Bool) → ((i : ℕ) → i < length flags → flag_at flags i ≡ true) → count_by (λ flag. flag) flags ≡ length flags
count_all [] h = refl
count_all (true ∷ flags) h =
    let step = sum_by-cons (λ (f : Bool). cond f 1 0) true flags in
    let rest = count_all flags (λ i lt. h (suc i) (omega arith)) in
    omega (arith, step, rest)
count_all (false ∷ flags) h = absurd (let e : false ≡ true = h 0 (omega arith) in cc)

-- a net more is listed
pub listed_count : (next : Option ℕ) (old new : List ℕ) → is_some next ≡ true → MatchOption next (new ≡ old) (λ net. new ≡ old ++ net ∷ []) → length new ≡ length old + 1
listed_count None old new some is = absurd (let e : false ≡ true = some in cc)
listed_count (Some net) old new some is = ap length is ∙ length-append old (net ∷ [])

pub listed_same : (next : Option ℕ) (old new : List ℕ) → is_some next ≡ false → MatchOption next (new ≡ old) (λ net. new ≡ old ++ net ∷ []) → length new ≡ length old
listed_same None old new none is = ap length is
listed_same (Some net) old new none is = absurd (let e : true ≡ false = none in cc)

pub none_holds : {P : Type 0} (next : Option ℕ) → is_some next ≡ false → IfNone next P → P
none_holds None none is = is
none_holds (Some net) none is = absurd (let e : true ≡ false = none in cc)
