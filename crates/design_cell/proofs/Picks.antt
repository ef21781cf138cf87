-- Which row's output a table gives.
use Rattle.std.proofs.Common.{◌≡◌, ℕ, zero, suc, ◌<◌, Bool, true, false, cond, List, [], ◌∷◌, length, refl, arith, get_or}
use Rattle.std.specs.List.{list_any}
use Rattle.design_cell.specs.declared.value.Value.{Value}
use Rattle.design_cell.specs.declared.row.RawRow.{RawRow}
use Rattle.design_cell.specs.Symbol.{output_of}
use Rattle.design_cell.specs.Table.{pick}

-- no row passes
pub pick_none : (test : RawRow → Bool) (q other : Value) (rows : List RawRow) (d : RawRow) → ((i : ℕ) → i < length rows → test (get_or rows i d) ≡ false) → pick test q other rows ≡ other
pick_none test q other [] d h = refl
pick_none test q other (r ∷ rs) d h =
    let here : test r ≡ false = h 0 (omega arith) in
    rw here (pick_none test q other rs d (λ i below. h (suc i) (omega arith)))

-- the first row that passes
pub pick_found : (test : RawRow → Bool) (q other : Value) (rows : List RawRow) (d : RawRow) (k : ℕ) → k < length rows → test (get_or rows k d) ≡ true → ((i : ℕ) → i < k → test (get_or rows i d) ≡ false) → pick test q other rows ≡ output_of (get_or rows k d).output q
pick_found test q other [] d k within passes h = absurd (omega arith)
pick_found test q other (r ∷ rs) d zero within passes h = rw passes refl
pick_found test q other (r ∷ rs) d (suc k) within passes h =
    let here : test r ≡ false = h 0 (omega arith) in
    rw here (pick_found test q other rs d k (omega arith) passes (λ i below. h (suc i) (omega arith)))

-- any row that passes, where all that pass have one output
pub pick_any : (test : RawRow → Bool) (q other : Value) (rows : List RawRow) (d : RawRow) (k : ℕ) → k < length rows → test (get_or rows k d) ≡ true → ((i : ℕ) → i < length rows → test (get_or rows i d) ≡ true → output_of (get_or rows i d).output q ≡ output_of (get_or rows k d).output q) → pick test q other rows ≡ output_of (get_or rows k d).output q
pick_any test q other [] d k within passes h = absurd (omega arith)
pick_any test q other (r ∷ rs) d zero within passes h = rw passes refl
pick_any test q other (r ∷ rs) d (suc k) within passes h =
    let goal : Bool → Type 0 = λ b. cond b (output_of r.output q) (pick test q other rs) ≡ output_of (get_or rs k d).output q in
    let cases : (b : Bool) → test r ≡ b → goal b = λ b e. elim b as (λ b. test r ≡ b → goal b) [
      | true ↦ λ e. h 0 (omega arith) e
      | false ↦ λ e. pick_any test q other rs d k (omega arith) passes (λ i below p. h (suc i) (omega arith) p)
    ] e in
    cases (test r) refl

-- no row passes, by a test of all of them
pub pick_fails : (test : RawRow → Bool) (q other : Value) (rows : List RawRow) → list_any test rows ≡ false → pick test q other rows ≡ other
pick_fails test q other [] h = refl
pick_fails test q other (r ∷ rs) h =
    let cases : (b : Bool) → test r ≡ b → cond b (output_of r.output q) (pick test q other rs) ≡ other = λ b e. elim b as (λ b. test r ≡ b → cond b (output_of r.output q) (pick test q other rs) ≡ other) [
      | true ↦ λ e. absurd (let k = rw e at h in let g : true ≡ false = k in cc)
      | false ↦ λ e. pick_fails test q other rs (rw e at h)
    ] e in
    cases (test r) refl
