-- The listing, net by net.
use Rattle.std.proofs.Common.{◌≡◌, ◌≢◌, ℕ, ◌+◌, ◌<◌, ◌&&◌, Bool, true, false, cond, not, Option, Some, None, List, [], ◌∷◌, ◌++◌, length, take, slice_index, slice_index_or, slice_set, refl, sym, ap, ◌∙◌, arith, ◌⊎◌, inl, inr, subst, is_some, length-append, length-set}
use Rattle.std.specs.List.{Contains, sum_by}
use Rattle.std.proofs.lemmas.Bool.{cases_eq, cases_lt}
use Rattle.std.proofs.lemmas.List.{take-append-le, get_or-set_same, get_or-set_other}
use Rattle.std.proofs.Math.ListN.{get_or-append}
use Rattle.std.proofs.Math.Seq.{get_or-append_seam, take-append_seam}
use Rattle.std.proofs.lemmas.List.Elements.{Contains-append_left, Contains-append_right, Contains-append_cases}
use Rattle.std.proofs.lemmas.List.Sums.{sum_by-set}
use Rattle.design_circuit.specs.Order.{arguments_of_driver, IsNext}
use Rattle.design_circuit.specs.declared.design.Driver.{Driver}
use Rattle.design_order.specs.declared.readers.Readers.{Readers}
use Rattle.design_order.specs.Loop.{IsListing}
use Rattle.design_order.specs.Progress.{flag_at, first_open, can_come, IsListed, IsSound, IsComplete, IsProgress, Offers}
use Rattle.design_order.specs.Popped.{Popped}
use Rattle.design_order.specs.Readers.{InChain, head_at, AreReaders}
use Rattle.design_order.specs.Pending.{Pending}
use Rattle.design_order.proofs.Finds.{cases_bool, contains_here, contains_cases, contains_none, all_from, all_to, find_none, find_some, find_from, not_true, not_false}

and_first : (a b : Bool) → (a && b) ≡ true → a ≡ true
and_first true b h = refl
and_first false b h = h

and_second : (a b : Bool) → (a && b) ≡ true → b ≡ true
and_second true b h = h
and_second false b h = absurd (let no : false ≡ true = h in cc)

no_some : {A : Type 0} (o : Option A) → not (is_some o) ≡ true → o ≡ None
no_some None h = refl
no_some (Some x) h = absurd (let no : false ≡ true = h in cc)

-- a net that can come has no flag, and its arguments all have one
pub come_open : (driver : ℕ → Driver) (flags : List Bool) (net : ℕ) → can_come driver flags net ≡ true → flag_at flags net ≡ false
unfolding can_come
come_open driver flags net h = not_false (flag_at flags net) (and_first (not (flag_at flags net)) _ h)

pub come_none : (driver : ℕ → Driver) (flags : List Bool) (net : ℕ) → can_come driver flags net ≡ true → first_open flags (arguments_of_driver (driver net)) ≡ None
unfolding can_come
come_none driver flags net h = no_some _ (and_second (not (flag_at flags net)) _ h)

pub come_from : (driver : ℕ → Driver) (flags : List Bool) (net : ℕ) → flag_at flags net ≡ false → first_open flags (arguments_of_driver (driver net)) ≡ None → can_come driver flags net ≡ true
unfolding can_come
come_from driver flags net open_ none = rw (open_, none) refl

pub next_is : (driver : ℕ → Driver) (width : ℕ) (listed : List ℕ) (flags : List Bool) (ready now : ℕ → Bool) (net : ℕ) → IsProgress driver width listed flags ready → Popped ready now net → IsNext driver width listed net
next_is driver width listed flags ready now net p pop =
    let can = p.sound net pop.here in
    let known = p.listed_ in
    record {
      within = can.0;
      unlisted = λ c. (let no : true ≡ false = sym (known.marked net c) ∙ come_open driver flags net can.1 in cc);
      ready = all_from (Contains listed) (arguments_of_driver (driver net)) (λ a c. known.flagged a (not_true (flag_at flags a) (find_none (λ n. not (flag_at flags n)) (arguments_of_driver (driver net)) (come_none driver flags net can.1) a c)));
      least = λ other lt unlisted ready_other.
          let open_ : flag_at flags other ≡ false = elim (cases_bool (flag_at flags other)) as (λ _. flag_at flags other ≡ false) [ inl e ↦ absurd (unlisted (known.flagged other e)) | inr e ↦ e ] in
          let none = find_from (λ n. not (flag_at flags n)) (arguments_of_driver (driver other)) (λ a c. ap not (known.marked a (all_to (Contains listed) (arguments_of_driver (driver other)) a ready_other c))) in
          let there = p.complete other (omega (arith, can.0)) (come_from driver flags other open_ none) in
          let no : true ≡ false = sym there ∙ pop.least other lt in
          cc;
    }

flag_same : (flags : List Bool) (net : ℕ) → net < length flags → flag_at (slice_set flags net true) net ≡ true
flag_same flags net within = get_or-set_same flags net true false within

flag_other : (flags : List Bool) (net other : ℕ) → other ≢ net → flag_at (slice_set flags net true) other ≡ flag_at flags other
flag_other flags net other ne = get_or-set_other flags net other true false ne

last_or : (p n : ℕ) → p < n + 1 → (p < n) ⊎ (p ≡ n)
last_or p n h = elim (cases_lt p n) as (λ _. (p < n) ⊎ (p ≡ n)) [ inl lt ↦ inl lt | inr ge ↦ inr (omega arith) ]

listing_more : (driver : ℕ → Driver) (width : ℕ) (listed : List ℕ) (net : ℕ) → IsListing driver width listed → IsNext driver width listed net → IsListing driver width (listed ++ net ∷ [])
listing_more driver width listed net all next p within =
    let long : length (listed ++ net ∷ []) ≡ length listed + 1 = length-append listed (net ∷ []) in
    elim (last_or p (length listed) (omega arith)) as (λ _. IsNext driver width (take p (listed ++ net ∷ [])) (slice_index (listed ++ net ∷ []) p)) [
      | inl lt ↦ (
          let front : take p (listed ++ net ∷ []) ≡ take p listed = take-append-le p listed (net ∷ []) (omega arith) in
          let here : slice_index (listed ++ net ∷ []) p ≡ slice_index listed p = get_or-append listed (net ∷ []) 0 p lt in
          subst (λ l. IsNext driver width l (slice_index (listed ++ net ∷ []) p)) (sym front) (subst (λ n. IsNext driver width (take p listed) n) (sym here) (all p lt)))
      | inr e ↦ (
          let front : take p (listed ++ net ∷ []) ≡ listed = ap (λ k. take k (listed ++ net ∷ [])) e ∙ take-append_seam listed (net ∷ []) in
          let here : slice_index (listed ++ net ∷ []) p ≡ net = ap (slice_index (listed ++ net ∷ [])) e ∙ get_or-append_seam listed net [] 0 in
          subst (λ l. IsNext driver width l (slice_index (listed ++ net ∷ []) p)) (sym front) (subst (λ n. IsNext driver width listed n) (sym here) next))
    ]

pub listed_more : (driver : ℕ → Driver) (width : ℕ) (listed : List ℕ) (flags : List Bool) (net : ℕ) → IsListed driver width listed flags → IsNext driver width listed net → flag_at flags net ≡ false → IsListed driver width (listed ++ net ∷ []) (slice_set flags net true)
listed_more driver width listed flags net known next open_ =
    let within : net < length flags = omega (arith, next.within, known.long) in
    record {
      long = length-set flags net true ∙ known.long;
      listing = listing_more driver width listed net known.listing next;
      flagged = λ other h. elim (cases_eq other net) as (λ _. Contains (listed ++ net ∷ []) other) [
        | inl e ↦ Contains-append_right listed (net ∷ []) other (subst (λ n. Contains (net ∷ []) n) (sym e) (contains_here net []))
        | inr ne ↦ Contains-append_left listed (net ∷ []) other (known.flagged other (sym (flag_other flags net other ne) ∙ h))
      ];
      marked = λ other c. elim (cases_eq other net) as (λ _. flag_at (slice_set flags net true) other ≡ true) [
        | inl e ↦ ap (flag_at (slice_set flags net true)) e ∙ flag_same flags net within
        | inr ne ↦ flag_other flags net other ne ∙ known.marked other (elim (Contains-append_cases listed (net ∷ []) other c) as (λ _. Contains listed other) [
          | inl d ↦ d
          | inr d ↦ absurd (elim (contains_cases net [] other d) as (λ _. ⊥) [ inl e ↦ ne (sym e) | inr f ↦ contains_none other f ])
        ])
      ];
      count =
          let total = sum_by-set (λ (f : Bool). cond f 1 0) flags net true false within in
          let weight : Bool → ℕ = λ f. cond f 1 0 in
          let zero_ : weight (slice_index_or flags net false) ≡ 0 = ap weight open_ in
          let before : sum_by (λ (f : Bool). cond f 1 0) flags ≡ length listed = known.count in
          let after : length (listed ++ net ∷ []) ≡ length listed + 1 = length-append listed (net ∷ []) in
          omega (arith, total, zero_, before, after);
    }

-- the flags of one net more let no net lose its place
open_none : (flags : List Bool) (net : ℕ) (args : List ℕ) → net < length flags → first_open flags args ≡ None → first_open (slice_set flags net true) args ≡ None
open_none flags net args within none = find_from (λ n. not (flag_at (slice_set flags net true) n)) args (λ a c. ap not (elim (cases_eq a net) as (λ _. flag_at (slice_set flags net true) a ≡ true) [
  | inl e ↦ ap (flag_at (slice_set flags net true)) e ∙ flag_same flags net within
  | inr ne ↦ flag_other flags net a ne ∙ not_true (flag_at flags a) (find_none (λ n. not (flag_at flags n)) args none a c)
]))

pub sound_after : (driver : ℕ → Driver) (width : ℕ) (flags : List Bool) (ready now : ℕ → Bool) (net : ℕ) → net < length flags → IsSound driver width flags ready → Popped ready now net → IsSound driver width (slice_set flags net true) now
sound_after driver width flags ready now net within sound pop other h = elim (cases_eq other net) as (λ _. (other < width) × (can_come driver (slice_set flags net true) other ≡ true)) [
  | inl e ↦ absurd (let no : true ≡ false = sym h ∙ ap now e ∙ pop.gone in cc)
  | inr ne ↦ (
      let can = sound other (sym (pop.others other ne) ∙ h) in
      (can.0, come_from driver (slice_set flags net true) other (flag_other flags net other ne ∙ come_open driver flags other can.1) (open_none flags net (arguments_of_driver (driver other)) within (come_none driver flags other can.1))))
]

flag_differs : (flags : List Bool) (net a : ℕ) → flag_at flags a ≡ false → flag_at (slice_set flags net true) a ≡ true → a ≡ net
flag_differs flags net a open_ closed = elim (cases_eq a net) as (λ _. a ≡ net) [
  | inl e ↦ e
  | inr ne ↦ absurd (let no : true ≡ false = sym closed ∙ flag_other flags net a ne ∙ open_ in cc)
]

option_cases : {A : Type 0} (o : Option A) → (o ≡ None) ⊎ ((x : A) × (o ≡ Some x))
option_cases None = inl refl
option_cases (Some x) = inr (x, refl)

pub pending_after : (driver : ℕ → Driver) (width : ℕ) (flags : List Bool) (ready now : ℕ → Bool) (net : ℕ) (readers : Readers) → net < length flags → IsComplete driver width flags ready → Popped ready now net → AreReaders driver width readers → Pending driver width (slice_set flags net true) readers (head_at readers.heads.items net) now
pending_after driver width flags ready now net readers within complete pop reads other inside can =
    let args = arguments_of_driver (driver other) in
    let closed = come_none driver (slice_set flags net true) other can in
    let ne : other ≢ net = λ e. (let no : true ≡ false = sym (flag_same flags net within) ∙ ap (flag_at (slice_set flags net true)) (sym e) ∙ come_open driver (slice_set flags net true) other can in cc) in
    let open_ = sym (flag_other flags net other ne) ∙ come_open driver (slice_set flags net true) other can in
    elim (option_cases (first_open flags args)) as (λ _. (now other ≡ true) ⊎ InChain readers.links.items (head_at readers.heads.items net) other) [
      | inl none ↦ inl (pop.others other ne ∙ complete other inside (come_from driver flags other open_ none))
      | inr some ↦ (
          let first = find_some (λ n. not (flag_at flags n)) args some.0 some.1 in
          let now_closed = not_true (flag_at (slice_set flags net true) some.0) (find_none (λ n. not (flag_at (slice_set flags net true) n)) args closed some.0 first.0) in
          let is_net = flag_differs flags net some.0 (not_false (flag_at flags some.0) first.1) now_closed in
          inr (reads other net inside (subst (λ a. Contains (arguments_of_driver (driver other)) a) is_net first.0)))
    ]

pub sound_offered : (driver : ℕ → Driver) (width : ℕ) (flags : List Bool) (ready now : ℕ → Bool) (net : ℕ) → net < width → IsSound driver width flags ready → Offers (can_come driver flags) ready now net → IsSound driver width flags now
sound_offered driver width flags ready now net within sound offer other h = elim (offer.only other h) as (λ _. (other < width) × (can_come driver flags other ≡ true)) [
  | inl before ↦ sound other before
  | inr e ↦ subst (λ n. (n < width) × (can_come driver flags n ≡ true)) (sym e.0) (within, e.1)
]

-- the nets below an end that can come are in the set
pub complete_more : (driver : ℕ → Driver) (flags : List Bool) (ready now : ℕ → Bool) (n : ℕ) → IsComplete driver n flags ready → Offers (can_come driver flags) ready now n → IsComplete driver (n + 1) flags now
complete_more driver flags ready now n complete offer net within can = elim (last_or net n within) as (λ _. now net ≡ true) [
  | inl lt ↦ offer.kept net (complete net lt can)
  | inr e ↦ subst (λ k. now k ≡ true) (sym e) (offer.joined (subst (λ k. can_come driver flags k ≡ true) e can))
]

pub progress_after : (driver : ℕ → Driver) (width : ℕ) (listed new_listed : List ℕ) (flags new_flags : List Bool) (net : ℕ) (ready : ℕ → Bool) → new_listed ≡ listed ++ net ∷ [] → new_flags ≡ slice_set flags net true → IsListed driver width listed flags → IsNext driver width listed net → flag_at flags net ≡ false → IsSound driver width (slice_set flags net true) ready → IsComplete driver width (slice_set flags net true) ready → IsProgress driver width new_listed new_flags ready
progress_after driver width listed new_listed flags new_flags net ready listed_is flags_are known next open_ sound complete =
    subst (λ l. IsProgress driver width l new_flags ready) (sym listed_is) (subst (λ f. IsProgress driver width (listed ++ net ∷ []) f ready) (sym flags_are) (record {
      listed_ = listed_more driver width listed flags net known next open_;
      sound = sound;
      complete = complete;
    }))
