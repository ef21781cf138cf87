-- Where no rows conflict, it does not matter which of the rows that match is taken.
use Rattle.std.proofs.Common.{◌≡◌, ℕ, ◌<◌, Bool, true, false, not, List, length, refl, sym, ap, ◌∙◌, arith, inl, inr, Option, Some, None, subst}
use Rattle.std.specs.List.{list_any}
use Rattle.std.proofs.lemmas.Bool.{cases_order}
use Rattle.std.proofs.lemmas.List.{get_or_past}
use Rattle.std.proofs.lemmas.List.Elements.{All-from_get_or}
use Rattle.std.proofs.lemmas.Bool.Decides.{eqb_tells}
use Rattle.design_cell.specs.declared.value.Value.{Value}
use Rattle.design_cell.specs.declared.value.Value.TheVariants.{X}
use Rattle.design_cell.specs.declared.row.RawRow.{RawRow}
use Rattle.design_cell.specs.declared.row.Changed.{Changed}
use Rattle.design_cell.specs.Symbol.{output_of}
use Rattle.design_cell.specs.Row.{columns, before, matches, is_edge_row, nowhere, row_at}
use Rattle.design_cell.specs.Table.{Table, pick, level_at, edge_at, look, change, IsOutput, IsLook, IsChange}
use Rattle.design_cell.specs.Conflict.{IsPinBelow, NoConflict}
use Rattle.design_cell.specs.Refusal.{IsLegal}
use Rattle.design_cell.specs.Hold.{level_output, matches_level}
use Rattle.design_cell.specs.Index.{code}
use Rattle.design_cell.proofs.Booleans.{and_left, and_right}
use Rattle.design_cell.proofs.Conflicts.{output_same}
use Rattle.design_cell.proofs.Looks.{level_row}
use Rattle.design_cell.proofs.Picks.{pick_any, pick_fails}

-- two rows of a kind that match one case have one output there
one_output : (n : ℕ) (rows : List RawRow) → NoConflict n rows → (turn : Option Changed) (new : ℕ → Value) → IsPinBelow n turn → (i j : ℕ) → i < length rows → j < length rows → is_edge_row (row_at rows i) ≡ is_edge_row (row_at rows j) → matches n (before turn new) new (row_at rows i) ≡ true → matches n (before turn new) new (row_at rows j) ≡ true → output_of (row_at rows i).output (new n) ≡ output_of (row_at rows j).output (new n)
one_output n rows none turn new pin i j hi hj kind fi fj =
    elim (eqb_tells (code (output_of (row_at rows i).output (new n))) (code (output_of (row_at rows j).output (new n)))) as (λ _. output_of (row_at rows i).output (new n) ≡ output_of (row_at rows j).output (new n)) [
      | inl p ↦ output_same (row_at rows i).output (row_at rows j).output (new n) p.1
      | inr p ↦ elim (cases_order i j) as (λ _. output_of (row_at rows i).output (new n) ≡ output_of (row_at rows j).output (new n)) [
        | inl e ↦ ap (λ k. output_of (row_at rows k).output (new n)) e
        | inr o ↦ elim o as (λ _. output_of (row_at rows i).output (new n) ≡ output_of (row_at rows j).output (new n)) [
          | inl lt ↦ absurd (none i hi j lt hj (record { changed = turn; new = new; pin = pin; kind = kind; first = fi; second = fj; apart = λ e. p.1 (ap code e) }))
          | inr lt ↦ absurd (none j hj i lt hi (record { changed = turn; new = new; pin = pin; kind = sym kind; first = fj; second = fi; apart = λ e. p.1 (sym (ap code e)) }))
        ]
      ]
    ]

-- The same for a test that only rows of one kind pass, and only where they match. The state is the column behind the pins.
any_output : (n : ℕ) (rows : List RawRow) → NoConflict n rows → (turn : Option Changed) (pins : List Value) (q : Value) → IsPinBelow n turn → length pins ≡ n → (test : RawRow → Bool) (edge : Bool) → ((k : ℕ) → k < length rows → test (row_at rows k) ≡ true → is_edge_row (row_at rows k) ≡ edge) → ((row : RawRow) → test row ≡ true → matches n (before turn (columns pins q)) (columns pins q) row ≡ true) → (other : Value) → IsOutput test q rows (pick test q other rows)
any_output n rows none turn pins q pin long test edge kind passes other =
    let new = columns pins q in
    let state : columns pins q n ≡ q = get_or_past pins n q (omega (arith, long)) in
    All-from_get_or (λ (row : RawRow). test row ≡ true → pick test q other rows ≡ output_of row.output q) rows nowhere (λ k within here.
    pick_any test q other rows nowhere k within here (λ i hi p.
    let same : is_edge_row (row_at rows i) ≡ is_edge_row (row_at rows k) = kind i hi p ∙ sym (kind k within here) in
    let e = one_output n rows none turn new pin i k hi within same (passes (row_at rows i) p) (passes (row_at rows k) here) in
    ap (output_of (row_at rows i).output) (sym state) ∙ e ∙ ap (output_of (row_at rows k).output) state))

is_false : (a : Bool) → not a ≡ true → a ≡ false
is_false true h = cc
is_false false h = refl

pub is_look : (t : Table) (pins : List Value) → t.sequential ≡ false → IsLegal t.sequential t.inputs t.rows → length pins ≡ t.inputs → IsLook t pins (look t pins)
unfolding look
is_look t pins kind legal long =
    let test = matches t.inputs (columns pins X) (columns pins X) in
    record {
      row = any_output t.inputs t.rows legal.apart None pins X tt long test false (λ k within _. level_row t.inputs t.rows (rw kind at legal) k within) (λ _ h. h) X;
      none = pick_fails test X X t.rows;
    }

-- the value where no level row matches
edge_value : Table → List Value → ℕ → Value → Value → Value
edge_value t pins pin old q = pick (edge_at t pins pin old q) q X t.rows

to_edge : (t : Table) (pins : List Value) (pin : ℕ) (old q : Value) → list_any (level_at t pins pin old q) t.rows ≡ false → edge_value t pins pin old q ≡ change t pins pin old q
unfolding change edge_value
to_edge t pins pin old q none = sym (pick_fails (level_at t pins pin old q) q _ t.rows none)

is_edge_output : (t : Table) (pins : List Value) (pin : ℕ) (old q : Value) → NoConflict t.inputs t.rows → length pins ≡ t.inputs → pin < t.inputs → IsOutput (edge_at t pins pin old q) q t.rows (edge_value t pins pin old q)
unfolding edge_value
is_edge_output t pins pin old q apart long below =
    any_output t.inputs t.rows apart (Some (record { pin = pin; old = old })) pins q below long (edge_at t pins pin old q) true (λ k _ h. and_left (is_edge_row (row_at t.rows k)) _ h) (λ row h. and_right (is_edge_row row) _ h) X

pub is_change : (t : Table) (pins : List Value) (pin : ℕ) (old q : Value) → NoConflict t.inputs t.rows → length pins ≡ t.inputs → pin < t.inputs → IsChange t pins pin old q (change t pins pin old q)
unfolding change edge_value
is_change t pins pin old q apart long below =
    let level = level_at t pins pin old q in
    record {
      level = any_output t.inputs t.rows apart (Some (record { pin = pin; old = old })) pins q below long level false (λ k _ h. is_false (is_edge_row (row_at t.rows k)) (and_left (not (is_edge_row (row_at t.rows k))) _ h)) (λ row h. and_right (not (is_edge_row row)) _ h) (edge_value t pins pin old q);
      edge = λ none. subst (λ (v : Value). IsOutput (edge_at t pins pin old q) q t.rows v) (to_edge t pins pin old q none) (is_edge_output t pins pin old q apart long below);
      none = λ none none_either. sym (to_edge t pins pin old q none) ∙ pick_fails (edge_at t pins pin old q) q X t.rows none_either;
    }

pub is_level_output : (t : Table) (pins : List Value) (q : Value) → IsLegal t.sequential t.inputs t.rows → length pins ≡ t.inputs → IsOutput (matches_level t pins q) q t.rows (level_output t pins q)
unfolding level_output
is_level_output t pins q legal long =
    any_output t.inputs t.rows legal.apart None pins q tt long (matches_level t pins q) false (λ k _ h. is_false (is_edge_row (row_at t.rows k)) (and_left (not (is_edge_row (row_at t.rows k))) _ h)) (λ row h. and_right (not (is_edge_row row)) _ h) X
