-- Choices that are added one after another.
use Rattle.std.proofs.Common.{◌≡◌, ◌≢◌, ℕ, ◌+◌, ◌^◌, Bool, true, false, List, [], ◌∷◌, ◌++◌, length, sym, ap, ◌∙◌, arith, subst, inl, inr, ⊎_elim, Contains, length-append, if◌then◌else◌, slice_index_or}
use Rattle.std.proofs.Math.ListN.{get_or-append}
use Rattle.std.proofs.Math.Seq.{get_or-append_seam}
use Rattle.std.proofs.lemmas.List.Elements.{Contains-append_left, Contains-get_or, Contains-push, Contains-push_cases}
use Rattle.std.proofs.lemmas.List.Quantifiers.{all_pairs_push}
use Rattle.design_cell.specs.declared.value.Value.{Value}
use Rattle.decide_choices.specs.declared.choice.Choice.{Choice}
use Rattle.decide_choices.specs.Choices.{ForcesIn, StandOnce}
use Rattle.decide_choices.specs.Halves.{with_argument, IsAlone, StandApart, AreAdded}

nowhere : {P : Type 0} (x : Choice) → Contains [] x → P
nowhere x at = absurd (let less = at.1 in omega (arith, less))

once_front : (xs : List Choice) (x : Choice) → StandOnce (xs ++ x ∷ []) → StandOnce xs
once_front xs x once i j d less within same =
    once i j d less (let long = length-append xs (x ∷ []) in omega (arith, long, within))
    (get_or-append xs (x ∷ []) d i (omega (arith, less, within)) ∙ same
    ∙ sym (get_or-append xs (x ∷ []) d j within))

once_last : (xs : List Choice) (x : Choice) → StandOnce (xs ++ x ∷ []) → Contains xs x → ⊥
once_last xs x once at =
    let within = at.1 in
    once at.0 (length xs) x within (let long = length-append xs (x ∷ []) in omega (arith, long))
    (get_or-append xs (x ∷ []) x at.0 within ∙ at.2 ∙ sym (get_or-append_seam xs x [] x))

-- One more argument leaves different choices different.
bits_back : (last : Bool) (n a b : ℕ) → a + (if last then 2 ^ n else 0) ≡ b + (if last then 2 ^ n else 0) → a ≡ b
bits_back true n a b same = omega (arith, same)
bits_back false n a b same = omega (arith, same)

abbrev made : ℕ → ℕ → Choice
made care bits = record { care = care; bits = bits }

with_back : (n : ℕ) (last : Bool) (a b : Choice) → with_argument n last a ≡ with_argument n last b → a ≡ b
with_back n last a b same =
    let care : a.care ≡ b.care = (let e = ap (λ c. c.care) same in omega (arith, e)) in
    let bits : a.bits ≡ b.bits = bits_back last n a.bits b.bits (ap (λ c. c.bits) same) in
    ap (λ i. made i a.bits) care ∙ ap (λ i. made b.care i) bits

module _ (other : List Value) (n : ℕ) (bit last : Bool) (old : List Choice) where
  pub added_none : AreAdded other n bit last old [] old
  added_none = record {
    kept = λ c at. at;
    added = λ c is. nowhere c is.inside;
    each = λ c at. inl at;
    once = λ once found apart. once;
  }

  still_alone : (xs : List Choice) (x c : Choice) → IsAlone other n bit xs c → IsAlone other n bit (xs ++ x ∷ []) c
  still_alone xs x c is = record { inside = Contains-append_left xs (x ∷ []) c is.inside; alone = is.alone }

  front_apart : (xs : List Choice) (x : Choice) → StandApart n last old (xs ++ x ∷ []) → StandApart n last old xs
  front_apart xs x apart a b at in_xs = apart a b at (Contains-append_left xs (x ∷ []) b in_xs)

  pub added_more : (xs choices : List Choice) (x : Choice) → AreAdded other n bit last old xs choices
      → (ForcesIn other n bit x → ⊥)
      → AreAdded other n bit last old (xs ++ x ∷ []) (choices ++ with_argument n last x ∷ [])
  added_more xs choices x are alone = record {
    kept = λ c at. Contains-append_left choices (with_argument n last x ∷ []) c (are.kept c at);
    added = λ c is. ⊎_elim
        (λ (front : Contains xs c). Contains-append_left choices (with_argument n last x ∷ []) (with_argument n last c)
        (are.added c (record { inside = front; alone = is.alone })))
        (λ (here : x ≡ c). subst (λ d. Contains (choices ++ with_argument n last x ∷ []) (with_argument n last d)) here
        (Contains-push choices (with_argument n last x))) (Contains-push_cases xs x c is.inside);
    each = λ c at. ⊎_elim
        (λ (front : Contains choices c). ⊎_elim (λ (in_old : Contains old c). inl in_old)
        (λ (one : (k : Choice) × IsAlone other n bit xs k × (c ≡ with_argument n last k)).
        inr (one.0, still_alone xs x one.0 one.1, one.2)) (are.each c front))
        (λ (here : with_argument n last x ≡ c).
        inr (x, record { inside = Contains-push xs x; alone = alone }, sym here))
        (Contains-push_cases choices (with_argument n last x) c at);
    once = λ once found apart. all_pairs_push (λ a b. a ≢ b) choices (with_argument n last x)
        (are.once once (once_front xs x found) (front_apart xs x apart))
        (λ k d less same. differs once found apart (slice_index_or choices k d) (Contains-get_or choices k d less)
        same);
  }
    where
      differs : StandOnce old → StandOnce (xs ++ x ∷ []) → StandApart n last old (xs ++ x ∷ []) → (c : Choice)
          → Contains choices c → c ≢ with_argument n last x
      differs once found apart c at same = ⊎_elim
          (λ (in_old : Contains old c). apart c x in_old (Contains-push xs x) same)
          (λ (one : (k : Choice) × IsAlone other n bit xs k × (c ≡ with_argument n last k)).
          once_last xs x found (subst (Contains xs) (with_back n last one.0 x (sym one.2 ∙ same)) one.1.inside))
          (are.each c at)

  pub added_skipped : (xs choices : List Choice) (x : Choice) → AreAdded other n bit last old xs choices
      → ForcesIn other n bit x → AreAdded other n bit last old (xs ++ x ∷ []) choices
  added_skipped xs choices x are forces = record {
    kept = are.kept;
    added = λ c is. ⊎_elim (λ (front : Contains xs c). are.added c (record { inside = front; alone = is.alone }))
        (λ (here : x ≡ c). absurd (is.alone (subst (ForcesIn other n bit) here forces)))
        (Contains-push_cases xs x c is.inside);
    each = λ c at. ⊎_elim (λ (in_old : Contains old c). inl in_old)
        (λ (one : (k : Choice) × IsAlone other n bit xs k × (c ≡ with_argument n last k)).
        inr (one.0, still_alone xs x one.0 one.1, one.2)) (are.each c at);
    once = λ once found apart. are.once once (once_front xs x found) (front_apart xs x apart);
  }
