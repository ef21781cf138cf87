-- Lists of clauses that grow by clauses of some kind.
use Rattle.std.proofs.Common.{◌≡◌, ◌≢◌, ℕ, zero, suc, ◌+◌, ◌<◌, ◌≤◌, not, Bool, true, false, List, [], ◌∷◌, ◌++◌, length, map, take, refl, sym, ap, ◌∙◌, arith, subst, inl, inr, ◌⊎◌, ⊎_elim, Contains, slice_index_or, if◌then◌else◌}
use Rattle.std.specs.Prelude.{ℤ, nat_abs}
use Rattle.std.specs.List.Sorted.{IsStrictlyIncreasing}
use Rattle.std.proofs.Math.Path.{fun_ext}
use Rattle.std.proofs.lemmas.Bool.{cases_eq, cases_lt}
use Rattle.std.proofs.lemmas.List.{take_more}
use Rattle.std.proofs.lemmas.List.Elements.{All-contains, Contains-append_cases, Contains-append_left, Contains-append_right, Contains-push, Contains-push_cases}
use Rattle.design_cell.specs.declared.value.Value.{Value}
use Rattle.law_model.specs.Node.{table_of, upto}
use Rattle.law_model.specs.Places.{among}
use Rattle.law_model.specs.Query.{IsChoice, IsClause}
use Rattle.law_model.proofs.ChoiceNumbers.{above, clause_bits, clause_one, rest_rises, split}
use Rattle.decide_choices.proofs.ChoiceBits.{bit_past}
use Rattle.decide_choices.specs.declared.choice.Choice.{Choice}
use Rattle.decide_choices.specs.Choices.{AreChoices, IsAmong, IsMinimalIn, bits_in, chosen_in}
use Rattle.decide_cnf.specs.Clauses.{IsTableClause, node_says}
use Rattle.decide_cnf.specs.Growth.{IsBitClause, IsChoiceClause, IsGrown, IsSomeClause, clause_literals, denied, denied_at}
use Rattle.decide_cnf.specs.Merged.{AreOpposed, IsMerged}

-- Nothing comes where there is no clause of the kind.
pub grown_same : (Kind : List ℤ → Type 0) (old : List (List ℤ)) → ((clause : List ℤ) → Kind clause → ⊥)
    → IsGrown Kind old old
grown_same Kind old none = record {
  kept = λ clause at. at;
  added = λ clause is. absurd (none clause is);
  each = λ clause at. inl at;
}

pub grown_push : (Kind : List ℤ → Type 0) (old : List (List ℤ)) (one : List ℤ) → Kind one
    → ((clause : List ℤ) → Kind clause → clause ≡ one) → IsGrown Kind old (old ++ one ∷ [])
grown_push Kind old one is only = record {
  kept = λ clause at. Contains-append_left old (one ∷ []) clause at;
  added = λ clause of. subst (Contains (old ++ one ∷ [])) (sym (only clause of)) (Contains-push old one);
  each = λ clause at. ⊎_elim (λ (front : Contains old clause). inl front)
      (λ (same : one ≡ clause). inr (subst Kind same is)) (Contains-push_cases old one clause at);
}

pub grown_then : (First Second Both : List ℤ → Type 0) (a b c : List (List ℤ)) → IsGrown First a b
    → IsGrown Second b c → ((clause : List ℤ) → First clause → Both clause)
    → ((clause : List ℤ) → Second clause → Both clause)
    → ((clause : List ℤ) → Both clause → First clause ⊎ Second clause) → IsGrown Both a c
grown_then First Second Both a b c first second left right parts = record {
  kept = λ clause at. second.kept clause (first.kept clause at);
  added = λ clause is. ⊎_elim (λ (one : First clause). second.kept clause (first.added clause one))
      (λ (two : Second clause). second.added clause two) (parts clause is);
  each = λ clause at. ⊎_elim (λ (early : Contains b clause). ⊎_elim (λ (old : Contains a clause). inl old)
      (λ (one : First clause). inr (left clause one)) (first.each clause early))
      (λ (two : Second clause). inr (right clause two)) (second.each clause at);
}

nowhere : {P : Type 0} {A : Type 0} (x : A) → Contains [] x → P
nowhere x at = absurd (let less = at.1 in omega (arith, less))

-- What the literals of a choice are.
pub record IsDenied (says : ℕ → Bool → ℤ) (choice : Choice) (count : ℕ) (l : ℤ) : Type 0 where
  pub argument : ℕ
  pub early : argument < count
  pub taken : chosen_in choice argument ≡ true
  pub is : l ≡ says argument (not (bits_in choice argument))

at_one : (says : ℕ → Bool → ℤ) (choice : Choice) (k : ℕ) (l : ℤ) (b : Bool) → chosen_in choice k ≡ b
    → Contains (if b then says k (not (bits_in choice k)) ∷ [] else []) l → IsDenied says choice (suc k) l
at_one says choice k l false off at = nowhere l at
at_one says choice k l true on at = record {
  argument = k;
  early = omega arith;
  taken = on;
  is = ⊎_elim (λ (e : l ≡ says k (not (bits_in choice k))). e) (λ (deep : Contains [] l). nowhere l deep)
      (split (says k (not (bits_in choice k))) l [] at);
}

denied_is : (says : ℕ → Bool → ℤ) (choice : Choice) (n : ℕ) (l : ℤ) → Contains (denied says choice n) l
    → IsDenied says choice n l
denied_is says choice zero l at = nowhere l at
denied_is says choice (suc n) l at = ⊎_elim
    (λ (front : Contains (denied says choice n) l). (let is = denied_is says choice n l front in record {
      argument = is.argument;
      early = (let less = is.early in omega (arith, less));
      taken = is.taken;
      is = is.is;
    }))
    (λ (last : Contains (denied_at says choice n) l). at_one says choice n l (chosen_in choice n) refl last)
    (Contains-append_cases (denied says choice n) (denied_at says choice n) l at)

is_denied : (says : ℕ → Bool → ℤ) (choice : Choice) (n k : ℕ) → k < n → chosen_in choice k ≡ true
    → Contains (denied says choice n) (says k (not (bits_in choice k)))
is_denied says choice zero k less on = absurd (omega arith)
is_denied says choice (suc n) k less on = ⊎_elim
    (λ (same : k ≡ n). Contains-append_right (denied says choice n) (denied_at says choice n)
    (says k (not (bits_in choice k)))
    (subst (λ i. Contains (denied_at says choice i) (says k (not (bits_in choice k)))) same
    (subst (λ b. Contains (if b then says k (not (bits_in choice k)) ∷ [] else []) (says k (not (bits_in choice k))))
    (sym on) (0, omega arith, refl))))
    (λ (other : k ≢ n). Contains-append_left (denied says choice n) (denied_at says choice n)
    (says k (not (bits_in choice k))) (is_denied says choice n k (omega arith) on)) (cases_eq k n)

module _ (says : ℕ → Bool → ℤ) (count : ℕ) (choice : Choice) (bit : Bool)
    (inside : (k : ℕ) → chosen_in choice k ≡ true → k < count) where
  -- What is merged of them is the clause of the choice.
  pub merged_clause : (clause : List ℤ) → IsMerged (clause_literals says count choice bit) clause
      → IsClause says count (chosen_in choice) (bits_in choice) bit clause
  merged_clause clause is = record {
    ascends = is.rises;
    denies = λ k on. is.all (says k (not (bits_in choice k)))
        (Contains-append_left (denied says choice count) (says count bit ∷ []) (says k (not (bits_in choice k)))
        (is_denied says choice count k (inside k on) on));
    gives = is.all (says count bit) (Contains-push (denied says choice count) (says count bit));
    no_other = λ l at. ⊎_elim
        (λ (front : Contains (denied says choice count) l). (let of = denied_is says choice count l front in
        inr (of.argument, of.taken, of.is)))
        (λ (same : says count bit ≡ l). inl (sym same))
        (Contains-push_cases (denied says choice count) (says count bit) l (is.each l at));
  }

  wanted_in : (clause : List ℤ) → IsClause says count (chosen_in choice) (bits_in choice) bit clause → (l : ℤ)
      → Contains (clause_literals says count choice bit) l → Contains clause l
  wanted_in clause is l at = ⊎_elim
      (λ (front : Contains (denied says choice count) l). (let of = denied_is says choice count l front in
      subst (Contains clause) (sym of.is) (is.denies of.argument of.taken)))
      (λ (same : says count bit ≡ l). subst (Contains clause) same is.gives)
      (Contains-push_cases (denied says choice count) (says count bit) l at)

  one_variable : (l m : ℤ) (clause : List ℤ) → IsStrictlyIncreasing (map nat_abs clause) → Contains clause l
      → Contains clause m → nat_abs l ≡ nat_abs m → l ≡ m
  one_variable l m [] rises at_l at_m same = nowhere l at_l
  one_variable l m (x ∷ xs) rises at_l at_m same =
      ⊎_elim (λ (e : l ≡ x). ⊎_elim (λ (d : m ≡ x). e ∙ sym d)
      (λ (deep : Contains xs m). (let up = above x m xs rises deep in let one = ap nat_abs e in
      absurd (omega (arith, up, one, same)))) (split x m xs at_m))
      (λ (deep : Contains xs l). ⊎_elim (λ (d : m ≡ x).
      (let up = above x l xs rises deep in let one = ap nat_abs d in absurd (omega (arith, up, one, same))))
      (λ (other : Contains xs m). one_variable l m xs (rest_rises x xs rises) deep other same) (split x m xs at_m))
      (split x l xs at_l)

  -- A tautology has no clause.
  pub opposed_clause : AreOpposed (clause_literals says count choice bit) → (clause : List ℤ)
      → IsClause says count (chosen_in choice) (bits_in choice) bit clause → ⊥
  opposed_clause opposed clause is = opposed.opposed.differs
      (one_variable opposed.opposed.other opposed.literal clause is.ascends
      (wanted_in clause is opposed.opposed.other opposed.opposed.inside)
      (wanted_in clause is opposed.literal opposed.inside) opposed.opposed.variable)

  pub choice_grown : (old : List (List ℤ)) (clause : List ℤ)
      → IsMerged (clause_literals says count choice bit) clause
      → IsGrown (IsClause says count (chosen_in choice) (bits_in choice) bit) old (old ++ clause ∷ [])
  choice_grown old clause is = grown_push (IsClause says count (chosen_in choice) (bits_in choice) bit) old clause
      (merged_clause clause is)
      (λ other of. clause_one says count (chosen_in choice) (bits_in choice) bit other clause of
      (merged_clause clause is))

-- Choice after choice.
pub choices_more : (literals : List ℤ) (arguments : List ℕ) (position : ℕ) (bit : Bool) (choices : List Choice) (i : ℕ)
    (d : Choice) (a b c : List (List ℤ)) → i < length choices
    → IsGrown (IsSomeClause literals arguments position bit (take i choices)) a b
    → IsGrown (IsChoiceClause literals arguments position bit (slice_index_or choices i d)) b c
    → IsGrown (IsSomeClause literals arguments position bit (take (i + 1) choices)) a c
choices_more literals arguments position bit choices i d a b c less first second =
    subst (λ xs. IsGrown (IsSomeClause literals arguments position bit xs) a c) (sym (take_more choices i d less))
    (grown_then (IsSomeClause literals arguments position bit front)
    (IsChoiceClause literals arguments position bit one)
    (IsSomeClause literals arguments position bit (front ++ one ∷ [])) a b c first second
    (λ clause is. record {
      choice = is.choice;
      inside = Contains-append_left front (one ∷ []) is.choice is.inside;
      is_clause = is.is_clause;
    })
    (λ clause is. record { choice = one; inside = Contains-push front one; is_clause = is })
    (λ clause is. ⊎_elim (λ (early : Contains front is.choice).
    inl (record { choice = is.choice; inside = early; is_clause = is.is_clause }))
    (λ (same : one ≡ is.choice). inr (subst (λ x. IsChoiceClause literals arguments position bit x clause) (sym same)
    is.is_clause)) (Contains-push_cases front one is.choice is.inside)))
  where
    front : List Choice
    front = take i choices

    one : Choice
    one = slice_index_or choices i d

pub choices_none : (literals : List ℤ) (arguments : List ℕ) (position : ℕ) (bit : Bool) (a : List (List ℤ))
    → IsGrown (IsSomeClause literals arguments position bit []) a a
choices_none literals arguments position bit a = grown_same (IsSomeClause literals arguments position bit []) a
    (λ clause is. nowhere is.choice is.inside)

-- The clauses of all choices that are found are those of all minimal choices.
pub bit_grown : (literals : List ℤ) (arguments : List ℕ) (values : List Value) (position : ℕ) (bit : Bool)
    (choices : List Choice) (a b : List (List ℤ)) → AreChoices values (length arguments) bit choices
    → IsGrown (IsSomeClause literals arguments position bit choices) a b
    → IsGrown (IsBitClause literals arguments values position bit) a b
bit_grown literals arguments values position bit choices a b are grown = record {
  kept = grown.kept;
  added = λ clause is. grown.added clause (to clause is);
  each = λ clause at. ⊎_elim (λ (old : Contains a clause). inl old)
      (λ (some : IsSomeClause literals arguments position bit choices clause). inr (from clause some))
      (grown.each clause at);
}
  where
    from : (clause : List ℤ) → IsSomeClause literals arguments position bit choices clause
        → IsBitClause literals arguments values position bit clause
    from clause some = record {
      chosen = chosen_in some.choice;
      bits = bits_in some.choice;
      choice = All-contains (IsMinimalIn values (length arguments) bit) choices some.choice are.each some.inside;
      is_clause = some.is_clause;
    }

    to : (clause : List ℤ) → IsBitClause literals arguments values position bit clause
        → IsSomeClause literals arguments position bit choices clause
    to clause is =
        let found = are.all is.chosen is.bits is.choice in
        let stands = found.stands in
        let same : chosen_in found.choice ≡ is.chosen = fun_ext stands.is_chosen in
        record {
          choice = found.choice;
          inside = found.inside;
          is_clause = subst (λ chosen. IsClause (node_says literals arguments position) (length arguments) chosen
              (bits_in found.choice) bit clause) (sym same)
              (clause_bits (node_says literals arguments position) (length arguments) is.chosen is.bits
              (bits_in found.choice) bit clause (λ k on. sym (stands.has_bits k on)) is.is_clause);
        }

-- Both bits.
pub table_grown : (literals : List ℤ) (arguments : List ℕ) (values : List Value) (position : ℕ) (a b c : List (List ℤ))
    → IsGrown (IsBitClause literals arguments values position false) a b
    → IsGrown (IsBitClause literals arguments values position true) b c
    → IsGrown (IsTableClause literals arguments values position) a c
table_grown literals arguments values position a b c first second =
    grown_then (IsBitClause literals arguments values position false)
    (IsBitClause literals arguments values position true) (IsTableClause literals arguments values position) a b c first
    second (up false) (up true) (λ clause is. parts clause is is.bit refl)
  where
    up : (bit : Bool) (clause : List ℤ) → IsBitClause literals arguments values position bit clause
        → IsTableClause literals arguments values position clause
    up bit clause is = record {
      bit = bit;
      chosen = is.chosen;
      bits = is.bits;
      choice = is.choice;
      is_clause = is.is_clause;
    }

    down : (clause : List ℤ) (is : IsTableClause literals arguments values position clause) (bit : Bool) → is.bit ≡ bit
        → IsBitClause literals arguments values position bit clause
    down clause is bit same = record {
      chosen = is.chosen;
      bits = is.bits;
      choice = subst (λ b. IsChoice (upto (length arguments)) (table_of values (length arguments)) is.chosen is.bits b)
          same is.choice;
      is_clause = subst (λ b. IsClause (node_says literals arguments position) (length arguments) is.chosen is.bits b
          clause) same is.is_clause;
    }

    parts : (clause : List ℤ) (is : IsTableClause literals arguments values position clause) (bit : Bool)
        → is.bit ≡ bit → IsBitClause literals arguments values position false clause
        ⊎ IsBitClause literals arguments values position true clause
    parts clause is false same = inl (down clause is false same)
    parts clause is true same = inr (down clause is true same)

-- What is chosen of the first arguments is one of them.
pub chosen_below : (count : ℕ) (choice : Choice) → IsAmong count choice → (k : ℕ) → chosen_in choice k ≡ true
    → k < count
chosen_below count choice among k on = ⊎_elim (λ (less : k < count). less)
    (λ (past : count ≤ k). (let e : false ≡ true = sym (bit_past count choice.care k among.care past) ∙ on in cc))
    (cases_lt k count)
