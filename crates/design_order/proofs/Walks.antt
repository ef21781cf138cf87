-- The walk round a loop, net by net.
use Rattle.std.proofs.Common.{◌≡◌, ◌≢◌, ℕ, ◌+◌, ◌-◌, ◌<◌, ◌++◌, ◌==◌, Bool, true, false, cond, not, Option, Some, None, List, [], ◌∷◌, length, drop, replicate, slice_index, slice_index_or, slice_set, refl, sym, ap, ◌∙◌, arith, ◌⊎◌, inl, inr, subst, length-append, length-set}
use Rattle.std.specs.List.{list_any, Contains, AllByRecursion, count_by}
use Rattle.std.proofs.lemmas.Bool.{cases_eq, cases_lt}
use Rattle.std.proofs.lemmas.List.{get_or_default, get_or-set_same, get_or-set_other, get_or-replicate, get_or_past, length-replicate}
use Rattle.std.proofs.Math.ListN.{get_or-append}
use Rattle.std.proofs.Math.Seq.{get_or-append_seam}
use Rattle.std.proofs.lemmas.List.Sums.{sum_by-set}
use Rattle.design_circuit.specs.Order.{arguments_of_driver}
use Rattle.design_circuit.specs.declared.design.Driver.{Driver}
use Rattle.design_order.specs.Loop.{IsToldLoop, first_unlisted}
use Rattle.design_order.specs.Progress.{flag_at, first_open, can_come, IsListed, IsLeastOpen}
use Rattle.design_order.specs.Walk.{is_free, place_of, IsWalking}
use Rattle.design_order.proofs.Finds.{cases_bool, all_to, find_some, find_from, find_same, not_false, any_from, any_none}
use Rattle.design_order.proofs.Listings.{come_from}

no_place : (n net place : ℕ) → place_of (replicate n None) net ≡ Some place → ⊥
no_place n net place h = elim (cases_lt net n) as (λ _. ⊥) [
  | inl lt ↦ (let no : None ≡ Some place = sym (get_or-replicate n net None None lt) ∙ h in cc)
  | inr ge ↦ (let no : None ≡ Some place = sym (get_or_past (replicate n None) net None (omega (arith, length-replicate {A = Option ℕ} n None))) ∙ h in cc)
]

pub walking_start : (driver : ℕ → Driver) (flags : List Bool) (net : ℕ) (walk : List ℕ) (places : List (Option ℕ)) (n : ℕ) → walk ≡ [] → places ≡ replicate n None → n ≡ length flags → IsLeastOpen flags net → IsWalking driver flags walk net places
walking_start driver flags net walk places n walk_is places_are n_is least =
    subst (λ w. IsWalking driver flags w net places) (sym walk_is) (subst (λ ps. IsWalking driver flags [] net ps) (sym places_are) (record {
      long = length-replicate {A = Option ℕ} n None ∙ n_is;
      within = least.within;
      open_ = least.here;
      start = least;
      step = λ p lt. absurd (omega arith);
      at = λ other place h. absurd (no_place n other place h);
      met = λ p lt. absurd (omega arith);
    }))

last_or : (p n : ℕ) → p < n + 1 → (p < n) ⊎ (p ≡ n)
last_or p n h = elim (cases_lt p n) as (λ _. (p < n) ⊎ (p ≡ n)) [ inl lt ↦ inl lt | inr ge ↦ inr (omega arith) ]

before_end : (walk : List ℕ) (net p : ℕ) → p < length walk → slice_index (walk ++ net ∷ []) p ≡ slice_index walk p
before_end walk net p lt = get_or-append walk (net ∷ []) 0 p lt

at_end : (walk : List ℕ) (net p : ℕ) → p ≡ length walk → slice_index (walk ++ net ∷ []) p ≡ net
at_end walk net p e = ap (slice_index (walk ++ net ∷ [])) e ∙ get_or-append_seam walk net [] 0

place_same : (places : List (Option ℕ)) (net : ℕ) (v : Option ℕ) → net < length places → place_of (slice_set places net v) net ≡ v
place_same places net v lt = get_or-set_same places net v None lt

place_other : (places : List (Option ℕ)) (net other : ℕ) (v : Option ℕ) → other ≢ net → place_of (slice_set places net v) other ≡ place_of places other
place_other places net other v ne = get_or-set_other places net other v None ne

pub walking_more : (driver : ℕ → Driver) (flags : List Bool) (walk : List ℕ) (net next k : ℕ) (places : List (Option ℕ)) → k ≡ length walk → IsWalking driver flags walk net places → place_of places net ≡ None → first_open flags (arguments_of_driver (driver net)) ≡ Some next → next < length flags → IsWalking driver flags (walk ++ net ∷ []) next (slice_set places net (Some k))
walking_more driver flags walk net next k places k_is w free found within =
    let long : length (walk ++ net ∷ []) ≡ length walk + 1 = length-append walk (net ∷ []) in
    let room : net < length places = omega (arith, w.long, w.within) in
    record {
      long = length-set places net (Some k) ∙ w.long;
      within = within;
      open_ = not_false (flag_at flags next) (find_some (λ a. not (flag_at flags a)) (arguments_of_driver (driver net)) next found).1;
      start = subst (λ n. IsLeastOpen flags n) (sym (before_end (walk ++ net ∷ []) next 0 (omega (arith, long)))) w.start;
      step = λ p lt. elim (last_or p (length walk) (omega (arith, long, lt))) as (λ _. first_open flags (arguments_of_driver (driver (slice_index (walk ++ net ∷ []) p))) ≡ Some (slice_index ((walk ++ net ∷ []) ++ next ∷ []) (p + 1))) [
        | inl before ↦ ap (λ n. first_open flags (arguments_of_driver (driver n))) (before_end walk net p before) ∙ w.step p before ∙ ap (λ n. Some n) (sym (before_end (walk ++ net ∷ []) next (p + 1) (omega (arith, long, before))))
        | inr last ↦ ap (λ n. first_open flags (arguments_of_driver (driver n))) (at_end walk net p last) ∙ found ∙ ap (λ n. Some n) (sym (at_end (walk ++ net ∷ []) next (p + 1) (omega (arith, long, last))))
      ];
      at = λ other place h. elim (cases_eq other net) as (λ _. (place < length (walk ++ net ∷ [])) × (slice_index (walk ++ net ∷ []) place ≡ other)) [
        | inl same ↦ (
            let e : Some k ≡ Some place = sym (place_same places net (Some k) room) ∙ ap (place_of (slice_set places net (Some k))) (sym same) ∙ h in
            let f : k ≡ place = cc in
            (omega (arith, long, f, k_is), at_end walk net place (sym f ∙ k_is) ∙ sym same))
        | inr ne ↦ (
            let old = w.at other place (sym (place_other places net other (Some k) ne) ∙ h) in
            (omega (arith, long, old.0), before_end walk net place old.0 ∙ old.1))
      ];
      met = λ p lt. elim (last_or p (length walk) (omega (arith, long, lt))) as (λ _. place_of (slice_set places net (Some k)) (slice_index (walk ++ net ∷ []) p) ≡ Some p) [
        | inl before ↦ (
            let old = w.met p before in
            let ne : slice_index walk p ≢ net = λ e. (let no : None ≡ Some p = sym free ∙ ap (place_of places) (sym e) ∙ old in cc) in
            ap (place_of (slice_set places net (Some k))) (before_end walk net p before) ∙ place_other places net (slice_index walk p) (Some k) ne ∙ old)
        | inr last ↦ ap (place_of (slice_set places net (Some k))) (at_end walk net p last) ∙ place_same places net (Some k) room ∙ ap (λ i. Some i) (k_is ∙ sym last)
      ];
    }

-- the first argument that isn't listed is the first without a flag
unlisted_is : (driver : ℕ → Driver) (width : ℕ) (listed : List ℕ) (flags : List Bool) → IsListed driver width listed flags → (net : ℕ) → first_unlisted driver listed net ≡ first_open flags (arguments_of_driver (driver net))
unlisted_is driver width listed flags known net = find_same (λ a. not (list_any (λ other. other == a) listed)) (λ a. not (flag_at flags a)) (arguments_of_driver (driver net)) (λ a c. ap not (elim (cases_bool (flag_at flags a)) as (λ _. list_any (λ other. other == a) listed ≡ flag_at flags a) [
  | inl e ↦ any_from listed a (known.flagged a e) ∙ sym e
  | inr e ↦ any_none listed a (λ d. (let no : true ≡ false = sym (known.marked a d) ∙ e in cc)) ∙ sym e
]))

pub told_by : (driver : ℕ → Driver) (width : ℕ) (listed : List ℕ) (flags : List Bool) (walk : List ℕ) (net from : ℕ) (places : List (Option ℕ)) → IsListed driver width listed flags → ((other : ℕ) → other < width → can_come driver flags other ≡ false) → IsWalking driver flags walk net places → place_of places net ≡ Some from → IsToldLoop driver width (drop from walk)
told_by driver width listed flags walk net from places known stuck w met =
    let back = w.at net from met in
    record {
      listed = listed;
      listing = known.listing;
      stuck = λ other next.
          let open_ : flag_at flags other ≡ false = elim (cases_bool (flag_at flags other)) as (λ _. flag_at flags other ≡ false) [ inl e ↦ absurd (next.unlisted (known.flagged other e)) | inr e ↦ e ] in
          let none = find_from (λ n. not (flag_at flags n)) (arguments_of_driver (driver other)) (λ a c. ap not (known.marked a (all_to (Contains listed) (arguments_of_driver (driver other)) a next.ready c))) in
          let no : true ≡ false = sym (come_from driver flags other open_ none) ∙ stuck other next.within in
          cc;
      walk = walk;
      walked = record {
        some = omega (arith, back.0);
        start =
            let least = subst (λ n. IsLeastOpen flags n) (before_end walk net 0 (omega (arith, back.0))) w.start in
            record {
              within = omega (arith, least.within, known.long);
              unlisted = λ c. (let no : true ≡ false = sym (known.marked (slice_index walk 0) c) ∙ least.here in cc);
              least = λ other lt. known.flagged other (least.below other lt);
            };
        step = λ p lt. unlisted_is driver width listed flags known (slice_index walk p) ∙ w.step p (omega arith) ∙ ap (λ n. Some n) (before_end walk net (p + 1) lt);
        once = λ p q lt q_in same.
            let e : Some p ≡ Some q = sym (w.met p (omega arith)) ∙ ap (place_of places) same ∙ w.met q q_in in
            let f : p ≡ q = cc in
            omega (arith, f, lt);
      };
      from = from;
      inside = back.0;
      again =
          let last : length walk - 1 + 1 ≡ length walk = omega (arith, back.0) in
          unlisted_is driver width listed flags known (slice_index walk (length walk - 1)) ∙ w.step (length walk - 1) (omega (arith, back.0)) ∙ ap (λ n. Some n) (at_end walk net (length walk - 1 + 1) last ∙ sym back.1);
      nets_ = refl;
    }

pub fewer_free : (places : List (Option ℕ)) (net k : ℕ) → net < length places → place_of places net ≡ None → count_by is_free (slice_set places net (Some k)) < count_by is_free places
fewer_free places net k within free =
    let total = sum_by-set (λ (o : Option ℕ). cond (is_free o) 1 0) places net (Some k) None within in
    let weight : Option ℕ → ℕ = λ o. cond (is_free o) 1 0 in
    let one : weight (slice_index_or places net None) ≡ 1 = ap weight free in
    omega (arith, total, one)

pub next_in : (flags : List Bool) (arguments : List ℕ) (next width : ℕ) → first_open flags arguments ≡ Some next → AllByRecursion (λ a. a < width) arguments → next < width
next_in flags arguments next width found all = all_to (λ a. a < width) arguments next all (find_some (λ a. not (flag_at flags a)) arguments next found).0

pub place_read : (places : List (Option ℕ)) (net : ℕ) (value : Option ℕ) → net < length places → value ≡ slice_index_or places net value → place_of places net ≡ value
place_read places net value within read = sym (read ∙ get_or_default places net value None within)
