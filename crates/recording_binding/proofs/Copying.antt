-- The original of a net is reached, and is copied.
use Rattle.std.proofs.Common.{◌≡◌, ◌∙◌, ◌⊎◌, inl, inr, ℕ, zero, suc, ◌+◌, ◌-◌, ◌<◌, List, [], ◌∷◌, length, set, take, refl, sym, ap, subst, arith, below_more, get_or-set_other, get_or-set_same, slice_index}
use Rattle.std.specs.List.{AllByRecursion, Contains}
use Rattle.std.proofs.lemmas.List.{get_or-take, get_or_default, length-take-le}
use Rattle.design_circuit.specs.Job.{driver_in}
use Rattle.design_circuit.specs.Order.{IsOrder, IsOrdering, arguments_of_driver}
use Rattle.design_circuit.specs.declared.design.Design.{Design}
use Rattle.design_circuit.specs.declared.design.Driver.{Driver}
use Rattle.design_circuit.specs.declared.design.Driver.TheVariants.{Input, Undriven, Constant, Copy, Cell, Register}
use Rattle.design_circuit.proofs.OrdersFit.{order_lists}
use Rattle.recording_binding.specs.Originals.{AreOriginals, CopiesOver, IsOrCopies, copied_after, copied_by, copied_of, listed_original, original_of}

-- ---- one Copy back

-- a net is a Copy, or copies none
abbrev IsEither : Driver → Type 0
IsEither d = ((argument : ℕ) × (d ≡ Copy argument)) ⊎ ((net : ℕ) → copied_by net d ≡ net)

either : (d : Driver) → IsEither d
either Input = inr (λ net. refl)
either Undriven = inr (λ net. refl)
either (Constant bit) = inr (λ net. refl)
either (Copy argument) = inl (argument, refl)
either (Cell table pins) = inr (λ net. refl)
either (Register latching) = inr (λ net. refl)

stays : (design : Design) (net : ℕ) → copied_of design net ≡ net → (n : ℕ) → copied_after design n net ≡ net
stays design net own zero = refl
stays design net own (suc n) = ap (copied_after design n) own ∙ stays design net own n

last_copy : (design : Design) (n net : ℕ) → copied_after design (suc n) net ≡ copied_of design (copied_after design n net)
last_copy design zero net = refl
last_copy design (suc n) net = last_copy design n (copied_of design net)

-- ---- in an order

module _ (design : Design) (order : List ℕ) (is : IsOrder (driver_in design) (length design.nets) order) where
  -- what a net is a Copy of stands before it
  pub before : (p argument : ℕ) → p < length order → driver_in design (slice_index order p) ≡ Copy argument → (q : ℕ) × (q < p) × (slice_index order q ≡ argument)
  before p argument within copy =
      let ready : AllByRecursion (Contains (take p order)) (argument ∷ []) = subst (λ (d : Driver). AllByRecursion (Contains (take p order)) (arguments_of_driver d)) copy (is.next p within).ready in
      let has = ready.0 in
      let long : length (take p order) ≡ p = length-take-le p order (omega arith) in
      let early : has.0 < p = omega (arith, long, has.1) in
      (has.0, early, sym (get_or-take p order has.0 0 early) ∙ get_or_default (take p order) has.0 0 argument has.1 ∙ has.2)

  -- as many Copies back as nets stand before it, no net is copied
  ends : (n p : ℕ) → p < n → p < length order → copied_of design (copied_after design n (slice_index order p)) ≡ copied_after design n (slice_index order p)
  ends zero p less within = absurd (omega (arith, less))
  ends (suc n) p less within = elim (either (driver_in design (slice_index order p))) as (λ _. copied_of design (copied_after design (suc n) (slice_index order p)) ≡ copied_after design (suc n) (slice_index order p)) [
    | inl copy ↦ (let b = before p copy.0 within copy.1 in
        let early = b.1 in
        let here : copied_of design (slice_index order p) ≡ slice_index order b.0 = ap (copied_by (slice_index order p)) copy.1 ∙ sym b.2 in
        subst (λ (x : ℕ). copied_of design (copied_after design n x) ≡ copied_after design n x) (sym here) (ends n b.0 (omega (arith, early, less)) (omega (arith, early, within))))
    | inr own ↦ (let e : copied_of design (slice_index order p) ≡ slice_index order p = own (slice_index order p) in
        let s = stays design (slice_index order p) e (suc n) in
        ap (copied_of design) s ∙ e ∙ sym s)
  ]

  copied_on : (n p argument : ℕ) → p < n → p < length order → driver_in design (slice_index order p) ≡ Copy argument → copied_after design n (slice_index order p) ≡ copied_after design n argument
  copied_on zero p argument less within copy = absurd (omega (arith, less))
  copied_on (suc n) p argument less within copy =
      let b = before p argument within copy in
      let early = b.1 in
      let here : copied_of design (slice_index order p) ≡ argument = ap (copied_by (slice_index order p)) copy in
      let ended : copied_of design (copied_after design n argument) ≡ copied_after design n argument =
      subst (λ (x : ℕ). copied_of design (copied_after design n x) ≡ copied_after design n x) b.2 (ends n b.0 (omega (arith, early, less)) (omega (arith, early, within))) in
      ap (copied_after design n) here ∙ sym ended ∙ sym (last_copy design n argument)

  -- The original of a Copy is that of what it copies.
  pub original_on : (p argument : ℕ) → p < length order → driver_in design (slice_index order p) ≡ Copy argument → original_of design (slice_index order p) ≡ original_of design argument
  original_on p argument within copy = (let all = is.all in copied_on (length design.nets) p argument (omega (arith, all, within)) within copy)

  -- A net that is listed has its original by those before it.
  pub original_listed : (p : ℕ) (originals : List ℕ) → p < length order → ((q : ℕ) → q < p → slice_index originals (slice_index order q) ≡ original_of design (slice_index order q))
      → listed_original originals (slice_index order p) (driver_in design (slice_index order p)) ≡ original_of design (slice_index order p)
  original_listed p originals within known = by (driver_in design (slice_index order p)) refl
    where
      own : (d : Driver) → driver_in design (slice_index order p) ≡ d → copied_by (slice_index order p) d ≡ slice_index order p → slice_index order p ≡ original_of design (slice_index order p)
      own d is_d same = sym (stays design (slice_index order p) (ap (copied_by (slice_index order p)) is_d ∙ same) (length design.nets))

      by : (d : Driver) → driver_in design (slice_index order p) ≡ d → listed_original originals (slice_index order p) d ≡ original_of design (slice_index order p)
      by Input is_d = own Input is_d refl
      by Undriven is_d = own Undriven is_d refl
      by (Constant bit) is_d = own (Constant bit) is_d refl
      by (Copy argument) is_d =
          let b = before p argument within is_d in
          ap (slice_index originals) (sym b.2) ∙ known b.0 b.1 ∙ ap (original_of design) b.2 ∙ sym (original_on p argument within is_d)
      by (Cell table pins) is_d = own (Cell table pins) is_d refl
      by (Register latching) is_d = own (Register latching) is_d refl

  -- ---- the originals of the nets of the first positions

  ordering : IsOrdering order
  ordering = order_lists (driver_in design) (length design.nets) order is

  -- one position more
  pub listed_more : (p v : ℕ) (originals : List ℕ) → p < length order → length originals ≡ length design.nets
      → ((q : ℕ) → q < p → slice_index originals (slice_index order q) ≡ original_of design (slice_index order q))
      → v ≡ listed_original originals (slice_index order p) (driver_in design (slice_index order p))
      → (q : ℕ) → q < p + 1 → slice_index (set originals (slice_index order p) v) (slice_index order q) ≡ original_of design (slice_index order q)
  listed_more p v originals within many known is_v = below_more (λ (q : ℕ). slice_index (set originals (slice_index order p) v) (slice_index order q) ≡ original_of design (slice_index order q)) p
      (λ q less. (let other : slice_index order q ≡ slice_index order p → ⊥ = λ same. (let q_is_p = ordering.once q p (omega (arith, less, within)) within same in omega (arith, q_is_p, less)) in
      get_or-set_other originals (slice_index order p) (slice_index order q) v 0 other ∙ known q less))
      (get_or-set_same originals (slice_index order p) v 0 room ∙ is_v ∙ original_listed p originals within known)
    where
      room : slice_index order p < length originals
      room = (let low = ordering.below p within in let all = is.all in omega (arith, low, all, many))

  pub listed_all : (originals : List ℕ) → length originals ≡ length design.nets
      → ((q : ℕ) → q < length order → slice_index originals (slice_index order q) ≡ original_of design (slice_index order q)) → AreOriginals design originals
  listed_all originals many known = record {
    as_many = many;
    each = λ net within. (let all = is.all in let there = ordering.each net (omega (arith, all, within)) in
        subst (λ (n : ℕ). slice_index originals n ≡ original_of design n) there.2 (known there.0 there.1));
  }

  -- ---- the nets that copy a net are those whose original it is

  goes_on : (own argument other : ℕ) → driver_in design own ≡ Copy argument → IsOrCopies design argument other → IsOrCopies design own other
  goes_on own argument other copy (inl same) = inr (zero, copy ∙ ap Copy same)
  goes_on own argument other copy (inr more) = inr (suc more.0, (argument, copy, more.1))

  reached : (n own : ℕ) → IsOrCopies design own (copied_after design n own)
  reached zero own = inl refl
  reached (suc n) own = elim (either (driver_in design own)) as (λ _. IsOrCopies design own (copied_after design (suc n) own)) [
    | inl copy ↦ (let here : copied_of design own ≡ copy.0 = ap (copied_by own) copy.1 in
        subst (λ (x : ℕ). IsOrCopies design own (copied_after design n x)) (sym here) (goes_on own copy.0 (copied_after design n copy.0) copy.1 (reached n copy.0)))
    | inr same ↦ subst (λ (x : ℕ). IsOrCopies design own (copied_after design n x)) (sym (same own)) (reached n own)
  ]

  position : (net : ℕ) → net < length design.nets → (p : ℕ) × (p < length order) × (slice_index order p ≡ net)
  position net within = ordering.each net (let all = is.all in omega (arith, all, within))

  on_copy : (own argument : ℕ) → own < length design.nets → driver_in design own ≡ Copy argument → (original_of design own ≡ original_of design argument) × (argument < length design.nets)
  on_copy own argument within copy =
      let at = position own within in
      let there : driver_in design (slice_index order at.0) ≡ Copy argument = ap (driver_in design) at.2 ∙ copy in
      let b = before at.0 argument at.1 there in
      let early = b.1 in
      let inside = at.1 in
      let low : slice_index order b.0 < length design.nets = (is.next b.0 (omega (arith, early, inside))).within in
      (ap (original_of design) (sym at.2) ∙ original_on at.0 argument at.1 there, subst (λ (x : ℕ). x < length design.nets) b.2 low)

  copies_end : (between own net : ℕ) → CopiesOver design between own net → own < length design.nets → original_of design own ≡ original_of design net
  copies_end zero own net copy within = (on_copy own net within copy).0
  copies_end (suc between) own net copy within =
      let on = on_copy own copy.0 within copy.1 in
      on.0 ∙ copies_end between copy.0 net copy.2 on.1

  end_is : (own net : ℕ) → own < length design.nets → driver_in design net ≡ Undriven → IsOrCopies design own net → original_of design own ≡ net
  end_is own net within none (inl same) = ap (original_of design) same ∙ stays design net (ap (copied_by net) none) (length design.nets)
  end_is own net within none (inr more) = copies_end more.0 own net more.1 within ∙ stays design net (ap (copied_by net) none) (length design.nets)

  pub original_is : (own net : ℕ) → own < length design.nets → driver_in design net ≡ Undriven → (original_of design own ≡ net → IsOrCopies design own net) × (IsOrCopies design own net → original_of design own ≡ net)
  original_is own net within none = (λ same. subst (IsOrCopies design own) same (reached (length design.nets) own), end_is own net within none)
