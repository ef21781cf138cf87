-- A table has one refusal, and a legal one has none.
use Rattle.std.proofs.Common.{◌≡◌, ◌≢◌, ℕ, ◌+◌, ◌<◌, ◌≤◌, Bool, true, List, length, refl, sym, ap, subst, ◌∙◌, arith, inl, inr, ◌⊎◌}
use Rattle.std.proofs.lemmas.Bool.{cases_lt}
use Rattle.design_cell.specs.declared.row.RawRow.{RawRow}
use Rattle.design_cell.specs.declared.refusal.UdpErr.{UdpErr}
use Rattle.design_cell.specs.declared.refusal.UdpErr.TheVariants.{TooManyInputs, RowLength, BadSymbol, TwoEdges, Conflict, Memory}
use Rattle.design_cell.specs.Row.{row_at}
use Rattle.design_cell.specs.Conflict.{NoConflict, IsFirstConflict}
use Rattle.design_cell.specs.Refusal.{input_limit, has_length, has_symbols, has_one_edge, AllRows, IsFirstBadRow, IsLegal, IsRefusal}

module _ (test : RawRow → Bool) (rows : List RawRow) where
  all_or_bad : (row : ℕ) → AllRows test rows → IsFirstBadRow test rows row → ⊥
  all_or_bad row all bad = let here : test (row_at rows bad.0) ≡ true = all bad.0 bad.2.within in absurd (let other = bad.2.here in cc)

  bad_once : (row other : ℕ) → IsFirstBadRow test rows row → IsFirstBadRow test rows other → row ≡ other
  bad_once row other a b = elim (cases_lt a.0 b.0) as (λ _. row ≡ other) [
    | inl less ↦ absurd (let e : test (row_at rows a.0) ≡ true = b.2.earlier a.0 less in let f = a.2.here in cc)
    | inr more ↦ elim (cases_lt b.0 a.0) as (λ _. row ≡ other) [
      | inl less ↦ absurd (let e : test (row_at rows b.0) ≡ true = a.2.earlier b.0 less in let f = b.2.here in cc)
      | inr not_more ↦ (let e = a.1 in let f = b.1 in omega arith)
    ]
  ]

module _ (inputs : ℕ) (rows : List RawRow) where
  none_or_first : (i j : ℕ) → NoConflict inputs rows → IsFirstConflict inputs rows i j → ⊥
  none_or_first i j none first = let less : i < length rows = (let o = first.order in let w = first.within in omega arith) in none i less j first.order first.within first.here

  first_row : (i j k l : ℕ) → IsFirstConflict inputs rows i j → IsFirstConflict inputs rows k l → i < k → ⊥
  first_row i j k l a b less = b.earlier i less j a.order a.within a.here

  second_row : (i j k l : ℕ) → IsFirstConflict inputs rows i j → IsFirstConflict inputs rows k l → i ≡ k → j < l → ⊥
  second_row i j k l a b same less =
      let b' : IsFirstConflict inputs rows i l = subst (λ (n : ℕ). IsFirstConflict inputs rows n l) (sym same) b in
      b'.same_row j a.order less a.here

  pair_once : (i j k l : ℕ) → IsFirstConflict inputs rows i j → IsFirstConflict inputs rows k l → (i ≡ k) × (j ≡ l)
  pair_once i j k l a b =
      let not_less : (n m : ℕ) → (n < m → ⊥) → m ≤ n = λ n m real. elim (cases_lt n m) as (λ _. m ≤ n) [ inl less ↦ absurd (real less) | inr more ↦ more ] in
      let one : k ≤ i = not_less i k (first_row i j k l a b) in
      let two : i ≤ k = not_less k i (first_row k l i j b a) in
      let same : i ≡ k = omega arith in
      let three : l ≤ j = not_less j l (second_row i j k l a b same) in
      let four : j ≤ l = not_less l j (second_row k l i j b a (sym same)) in
      (same, omega arith)

module _ (sequential : Bool) (inputs : ℕ) (rows : List RawRow) where
  -- a legal table has no refusal
  pub legal_or_refused : (fault : UdpErr) → fault ≢ Memory → IsLegal sequential inputs rows → IsRefusal sequential inputs rows fault → ⊥
  legal_or_refused TooManyInputs real legal refused = let few = legal.few in absurd (omega arith)
  legal_or_refused (RowLength row) real legal refused = all_or_bad (has_length sequential inputs) rows row legal.rows_.lengths refused.1
  legal_or_refused (BadSymbol row) real legal refused = all_or_bad (has_symbols sequential) rows row legal.rows_.symbols refused.2
  legal_or_refused (TwoEdges row) real legal refused = all_or_bad has_one_edge rows row legal.rows_.edges refused.3
  legal_or_refused (Conflict first second) real legal refused = none_or_first inputs rows refused.2 refused.3 legal.apart refused.6
  legal_or_refused Memory real legal refused = real refl

  -- how many inputs a refusal leaves open
  few_inputs : (fault : UdpErr) → fault ≢ Memory → IsRefusal sequential inputs rows fault → (fault ≡ TooManyInputs) ⊎ (inputs ≤ input_limit sequential)
  few_inputs TooManyInputs real refused = inl refl
  few_inputs (RowLength row) real refused = inr refused.0
  few_inputs (BadSymbol row) real refused = inr refused.0
  few_inputs (TwoEdges row) real refused = inr refused.0
  few_inputs (Conflict first second) real refused = inr refused.0
  few_inputs Memory real refused = absurd (real refl)

  many_once : (fault : UdpErr) → fault ≢ Memory → input_limit sequential < inputs → IsRefusal sequential inputs rows fault → TooManyInputs ≡ fault
  many_once fault real many refused = elim (few_inputs fault real refused) as (λ _. TooManyInputs ≡ fault) [ inl is ↦ sym is | inr few ↦ absurd (omega arith) ]

  -- a table has one refusal
  pub fault_once : (fault other : UdpErr) → fault ≢ Memory → other ≢ Memory → IsRefusal sequential inputs rows fault → IsRefusal sequential inputs rows other → fault ≡ other
  fault_once TooManyInputs other real not a b = many_once other not a b
  fault_once fault TooManyInputs real not a b = sym (many_once fault real b a)
  fault_once (RowLength row) (RowLength other) real not a b = ap RowLength (bad_once (has_length sequential inputs) rows row other a.1 b.1)
  fault_once (RowLength row) (BadSymbol other) real not a b = absurd (all_or_bad (has_length sequential inputs) rows row b.1 a.1)
  fault_once (RowLength row) (TwoEdges other) real not a b = absurd (all_or_bad (has_length sequential inputs) rows row b.1 a.1)
  fault_once (RowLength row) (Conflict first second) real not a b = absurd (all_or_bad (has_length sequential inputs) rows row b.1.lengths a.1)
  fault_once (BadSymbol row) (RowLength other) real not a b = absurd (all_or_bad (has_length sequential inputs) rows other a.1 b.1)
  fault_once (BadSymbol row) (BadSymbol other) real not a b = ap BadSymbol (bad_once (has_symbols sequential) rows row other a.2 b.2)
  fault_once (BadSymbol row) (TwoEdges other) real not a b = absurd (all_or_bad (has_symbols sequential) rows row b.2 a.2)
  fault_once (BadSymbol row) (Conflict first second) real not a b = absurd (all_or_bad (has_symbols sequential) rows row b.1.symbols a.2)
  fault_once (TwoEdges row) (RowLength other) real not a b = absurd (all_or_bad (has_length sequential inputs) rows other a.1 b.1)
  fault_once (TwoEdges row) (BadSymbol other) real not a b = absurd (all_or_bad (has_symbols sequential) rows other a.2 b.2)
  fault_once (TwoEdges row) (TwoEdges other) real not a b = ap TwoEdges (bad_once has_one_edge rows row other a.3 b.3)
  fault_once (TwoEdges row) (Conflict first second) real not a b = absurd (all_or_bad has_one_edge rows row b.1.edges a.3)
  fault_once (Conflict first second) (RowLength other) real not a b = absurd (all_or_bad (has_length sequential inputs) rows other a.1.lengths b.1)
  fault_once (Conflict first second) (BadSymbol other) real not a b = absurd (all_or_bad (has_symbols sequential) rows other a.1.symbols b.2)
  fault_once (Conflict first second) (TwoEdges other) real not a b = absurd (all_or_bad has_one_edge rows other a.1.edges b.3)
  fault_once (Conflict first second) (Conflict third fourth) real not a b =
      let same = pair_once inputs rows a.2 a.3 b.2 b.3 a.6 b.6 in
      λ i. Conflict ((a.4 ∙ ap (λ (n : ℕ). n + 1) same.0 ∙ sym b.4) i) ((a.5 ∙ ap (λ (n : ℕ). n + 1) same.1 ∙ sym b.5) i)
  fault_once Memory other real not a b = absurd (real refl)
  fault_once fault Memory real not a b = absurd (not refl)
