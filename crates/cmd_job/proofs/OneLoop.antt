-- A design has one order or one loop that is told.
use Rattle.std.proofs.Common.{◌≡◌, ℕ, zero, suc, ◌+◌, ◌-◌, ◌<◌, ◌≤◌, List, length, take, drop, get_or, slice_index}
use Rattle.std.proofs.Common.{Some, refl, sym, ap, ◌∙◌, subst, arith, inl, inr, add-one}
use Rattle.std.specs.List.{Contains}
use Rattle.std.proofs.lemmas.Bool.{cases_lt}
use Rattle.std.proofs.lemmas.List.{ext_get_or, get_or-take}
use Rattle.std.proofs.lemmas.List.Elements.{Contains-get_or}
use Rattle.std.proofs.Math.Seq.{take-suc, take-length}
use Rattle.design_circuit.specs.Order.{IsNext, IsOrder}
use Rattle.design_circuit.specs.declared.design.Driver.{Driver}
use Rattle.design_circuit.proofs.OrdersFit.{order_lists}
use Rattle.design_order.specs.Loop.{IsLeastUnlisted, IsListing, IsToldLoop, IsWalk, first_unlisted}

some_same : (a b : ℕ) → Some a ≡ Some b → a ≡ b
some_same a b same = cc

module _ (driver : ℕ → Driver) (width : ℕ) where
  one_next : (listed : List ℕ) (m n : ℕ) → IsNext driver width listed m → IsNext driver width listed n → m ≡ n
  one_next listed m n first second = elim (cases_lt m n) as (λ _. m ≡ n) [
    | inl less ↦ absurd (second.least m less first.unlisted first.ready)
    | inr other ↦ elim (cases_lt n m) as (λ _. m ≡ n) [
      | inl less ↦ absurd (first.least n less second.unlisted second.ready)
      | inr equal ↦ omega arith
    ]
  ]

  -- Two listings agree as far as both go.
  agree : (a b : List ℕ) → IsListing driver width a → IsListing driver width b → (p : ℕ) → p ≤ length a → p ≤ length b → take p a ≡ take p b
  agree a b first second zero within inside = refl
  agree a b first second (suc p) within inside =
      let before = agree a b first second p (omega arith) (omega arith) in
      let here = first p (omega arith) in
      let there = subst (λ (l : List ℕ). IsNext driver width l (slice_index b p)) (sym before) (second p (omega arith)) in
      let same = one_next (take p a) (slice_index a p) (slice_index b p) here there in
      let left = take-suc a p 0 (omega arith) in
      let right = take-suc b p 0 (omega arith) in
      rw (left, right, before, same) refl

  pub one_order : (a b : List ℕ) → IsOrder driver width a → IsOrder driver width b → a ≡ b
  one_order a b first second =
      let long = first.all in
      let wide = second.all in
      let both = agree a b first.next second.next (length a) (omega arith) (omega arith) in
      let size : length a ≡ length b = long ∙ sym wide in
      sym (take-length a) ∙ both ∙ (ap (λ (k : ℕ). take k b) size ∙ take-length b)

  -- A listing after which nothing can come is no shorter than another.
  stuck_long : (a b : List ℕ) → IsListing driver width a → IsListing driver width b → ((net : ℕ) → IsNext driver width a net → ⊥) → length a < length b → ⊥
  stuck_long a b first second stuck less =
      let both = agree a b first second (length a) (omega arith) (omega arith) in
      let all : take (length a) b ≡ a = sym both ∙ take-length a in
      stuck (slice_index b (length a)) (subst (λ (l : List ℕ). IsNext driver width l (slice_index b (length a))) all (second (length a) less))

  one_listing : (a b : List ℕ) → IsListing driver width a → IsListing driver width b
      → ((net : ℕ) → IsNext driver width a net → ⊥) → ((net : ℕ) → IsNext driver width b net → ⊥) → a ≡ b
  one_listing a b first second stuck ended = elim (cases_lt (length a) (length b)) as (λ _. a ≡ b) [
    | inl less ↦ absurd (stuck_long a b first second stuck less)
    | inr other ↦ elim (cases_lt (length b) (length a)) as (λ _. a ≡ b) [
      | inl less ↦ absurd (stuck_long b a second first ended less)
      | inr equal ↦ (let size : length a ≡ length b = omega arith in
          let both = agree a b first second (length a) (omega arith) (omega arith) in
          sym (take-length a) ∙ both ∙ (ap (λ (k : ℕ). take k b) size ∙ take-length b))
    ]
  ]

  -- A design with an order has no loop that is told.
  pub order_or_loop : (order nets : List ℕ) → IsOrder driver width order → IsToldLoop driver width nets → ⊥
  order_or_loop order nets is told =
      let start = told.walked.start in
      let net = slice_index told.walk 0 in
      let there = (order_lists driver width order is).each net (let all = is.all in let within = start.within in omega (arith, all, within)) in
      elim (cases_lt (length told.listed) (length order)) as (λ _. ⊥) [
        | inl less ↦ stuck_long told.listed order told.listing is.next told.stuck less
        | inr more ↦ (let both = agree order told.listed is.next told.listing (length order) (omega arith) more in
            let inside : there.0 < length told.listed = (let h = there.1 in omega (arith, h)) in
            let same : get_or told.listed there.0 0 ≡ net =
            sym (get_or-take (length order) told.listed there.0 0 there.1)
            ∙ (ap (λ (l : List ℕ). get_or l there.0 0) (sym both ∙ take-length order) ∙ there.2) in
            start.unlisted (subst (λ (n : ℕ). Contains told.listed n) same (Contains-get_or told.listed there.0 0 inside)))
      ]

  one_start : (listed : List ℕ) (m n : ℕ) → IsLeastUnlisted width listed m → IsLeastUnlisted width listed n → m ≡ n
  one_start listed m n first second = elim (cases_lt m n) as (λ _. m ≡ n) [
    | inl less ↦ absurd (first.unlisted (second.least m less))
    | inr other ↦ elim (cases_lt n m) as (λ _. m ≡ n) [
      | inl less ↦ absurd (second.unlisted (first.least n less))
      | inr equal ↦ omega arith
    ]
  ]

  module _ (listed a b : List ℕ) (first : IsWalk driver width listed a) (second : IsWalk driver width listed b) where
    same_step : (p : ℕ) → p < length a → p < length b → slice_index a p ≡ slice_index b p
    same_step zero within inside = one_start listed (slice_index a 0) (slice_index b 0) first.start second.start
    same_step (suc p) within inside =
        let before = same_step p (omega arith) (omega arith) in
        let here = rw (add-one) at (first.step p (rw add-one within)) in
        let there = rw (add-one) at (second.step p (rw add-one inside)) in
        some_same (slice_index a (suc p)) (slice_index b (suc p)) (sym here ∙ (ap (first_unlisted driver listed) before ∙ there))

    -- A walk that comes back doesn't go on.
    no_longer : (from : ℕ) → from < length a → first_unlisted driver listed (slice_index a (length a - 1)) ≡ Some (slice_index a from) → length a < length b → ⊥
    no_longer from inside again less =
        let some = first.some in
        let last : length a - 1 + 1 ≡ length a = omega arith in
        let step = second.step (length a - 1) (omega arith) in
        let at_last = same_step (length a - 1) (omega arith) (omega arith) in
        let at_from = same_step from inside (omega arith) in
        let on : first_unlisted driver listed (slice_index b (length a - 1)) ≡ Some (slice_index b (length a)) = rw last at step in
        let same = some_same (slice_index a from) (slice_index b (length a)) (sym again ∙ (ap (first_unlisted driver listed) at_last ∙ on)) in
        second.once from (length a) inside less (sym at_from ∙ same)

  module _ (listed w v : List ℕ) (on : IsWalk driver width listed w) (off : IsWalk driver width listed v) (f g : ℕ) (f_in : f < length w) (g_in : g < length v) (f_again : first_unlisted driver listed (slice_index w (length w - 1)) ≡ Some (slice_index w f)) (g_again : first_unlisted driver listed (slice_index v (length v - 1)) ≡ Some (slice_index v g)) where
    same_length : length w ≡ length v
    same_length = elim (cases_lt (length w) (length v)) as (λ _. length w ≡ length v) [
      | inl less ↦ absurd (no_longer listed w v on off f f_in f_again less)
      | inr other ↦ elim (cases_lt (length v) (length w)) as (λ _. length w ≡ length v) [
        | inl less ↦ absurd (no_longer listed v w off on g g_in g_again less)
        | inr equal ↦ omega arith
      ]
    ]

    one_walk : w ≡ v
    one_walk = ext_get_or 0 w v same_length (λ i within. same_step listed w v on off i within (let long = same_length in omega (arith, long)))

    one_from : f ≡ g
    one_from =
        let long = same_length in
        let last : slice_index w (length w - 1) ≡ slice_index v (length v - 1) = ap (λ (l : List ℕ). slice_index l (length l - 1)) one_walk in
        let back = some_same (slice_index w f) (slice_index v g) (sym f_again ∙ (ap (first_unlisted driver listed) last ∙ g_again)) in
        let same : slice_index w f ≡ slice_index w g = back ∙ ap (λ (l : List ℕ). slice_index l g) (sym one_walk) in
        elim (cases_lt f g) as (λ _. f ≡ g) [
          | inl less ↦ absurd (on.once f g less (omega arith) same)
          | inr other ↦ elim (cases_lt g f) as (λ _. f ≡ g) [
            | inl less ↦ absurd (on.once g f less f_in (sym same))
            | inr equal ↦ omega arith
          ]
        ]

  -- The loop that is told is one.
  pub one_loop : (a b : List ℕ) → IsToldLoop driver width a → IsToldLoop driver width b → a ≡ b
  one_loop a b first second =
      let listed : second.listed ≡ first.listed = one_listing second.listed first.listed second.listing first.listing second.stuck first.stuck in
      let walked : IsWalk driver width first.listed second.walk = subst (λ (l : List ℕ). IsWalk driver width l second.walk) listed second.walked in
      let again : first_unlisted driver first.listed (slice_index second.walk (length second.walk - 1)) ≡ Some (slice_index second.walk second.from) =
      subst (λ (l : List ℕ). first_unlisted driver l (slice_index second.walk (length second.walk - 1)) ≡ Some (slice_index second.walk second.from)) listed second.again in
      let walk = one_walk first.listed first.walk second.walk first.walked walked first.from second.from first.inside second.inside first.again again in
      let from = one_from first.listed first.walk second.walk first.walked walked first.from second.from first.inside second.inside first.again again in
      first.nets_ ∙ (ap (λ (k : ℕ). drop k first.walk) from ∙ (ap (λ (l : List ℕ). drop second.from l) walk ∙ sym second.nets_))
