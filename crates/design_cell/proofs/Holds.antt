-- The bit at which pins hold a register is that of any level row that matches, and of no other order of the rows.
use Rattle.std.proofs.Common.{◌≡◌, ◌↔◌, ℕ, zero, suc, ◌<◌, Bool, true, false, cond, List, [], ◌∷◌, length, refl, sym, ap, ◌∙◌, arith, Option, Some, None, subst}
use Rattle.std.proofs.lemmas.List.Elements.{All-get_or}
use Rattle.design_cell.specs.declared.value.Value.{Value}
use Rattle.design_cell.specs.declared.value.Value.TheVariants.{Zero, One, X, Z}
use Rattle.design_cell.specs.declared.row.RawRow.{RawRow}
use Rattle.design_cell.specs.declared.index.Block.{Block}
use Rattle.design_cell.specs.Value.{IsKnown}
use Rattle.design_cell.specs.Symbol.{output_of}
use Rattle.design_cell.specs.Row.{columns, nowhere, row_at}
use Rattle.design_cell.specs.Table.{Table, level_matches, pick}
use Rattle.design_cell.specs.Refusal.{IsLegal}
use Rattle.design_cell.specs.Index.{Holds, IsFirstBelow, output_at}
use Rattle.design_cell.specs.Hold.{agreed, level_output, matches_level, GivesByLevel, HoldsAt}
use Rattle.design_cell.proofs.Looks.{Searched, at_inputs}
use Rattle.design_cell.proofs.Picks.{pick_none, pick_found}
use Rattle.design_cell.proofs.Unordered.{is_level_output}

level_found : (t : Table) (pins : List Value) (q : Value) (k : Option ℕ) → IsFirstBelow (matches_level t pins q) t.rows (length t.rows) k → level_output t pins q ≡ output_at t.rows k q
unfolding level_output
level_found t pins q None h = pick_none _ q X t.rows nowhere h
level_found t pins q (Some k) h = pick_found _ q X t.rows nowhere k h.within h.here h.earlier

-- what a search for the level row gives
pub level_result : (t : Table) (blocks : List Block) (pins : List Value) (q v : Value) (level : Option ℕ) → Holds t.sequential t.inputs t.rows blocks → length pins ≡ t.inputs → Searched (λ n. level_matches n (columns pins q) (columns pins q)) (length pins) blocks level → v ≡ output_at t.rows level q → v ≡ level_output t pins q
level_result t blocks pins q v level holds long found e =
    e ∙ sym (level_found t pins q level (at_inputs (λ n. level_matches n (columns pins q) (columns pins q)) (length pins) t.inputs t.rows blocks level long holds.indexed found))

-- The first row's output is that of some row, where it isn't x.
record Gives (test : RawRow → Bool) (q v : Value) (rows : List RawRow) : Type 0 where
  row : ℕ
  within : row < length rows
  here : test (row_at rows row) ≡ true
  gives : output_of (row_at rows row).output q ≡ v

not_x : (bit : Value) → IsKnown bit → X ≡ bit → ⊥
not_x Zero known e = cc
not_x One known e = cc
not_x X known e = absurd known
not_x Z known e = absurd known

picked : (test : RawRow → Bool) (q v : Value) (rows : List RawRow) → IsKnown v → pick test q X rows ≡ v → Gives test q v rows
picked test q v [] known e = absurd (not_x v known e)
picked test q v (r ∷ rows) known e =
    let cases : (b : Bool) → test r ≡ b → Gives test q v (r ∷ rows) = λ b is. elim b as (λ b. test r ≡ b → Gives test q v (r ∷ rows)) [
      | true ↦ λ passes. record { row = 0; within = omega arith; here = passes; gives = rw passes at e }
      | false ↦ λ fails. (let later : Gives test q v rows = picked test q v rows known (rw fails at e) in
          let less = later.within in
          record { row = suc later.row; within = omega (arith, less); here = later.here; gives = later.gives })
    ] is in
    cases (test r) refl

gives_by_level : (t : Table) (pins : List Value) (q bit : Value) → IsKnown bit → level_output t pins q ≡ bit → GivesByLevel t pins q bit
unfolding level_output
gives_by_level t pins q bit known e =
    let g = picked (matches_level t pins q) q bit t.rows known e in
    record { row = g.row; within = g.within; here = g.here; gives = g.gives }

given : (t : Table) (pins : List Value) (q bit : Value) → IsLegal t.sequential t.inputs t.rows → length pins ≡ t.inputs → GivesByLevel t pins q bit → level_output t pins q ≡ bit
given t pins q bit legal long g =
    All-get_or (λ (row : RawRow). matches_level t pins q row ≡ true → level_output t pins q ≡ output_of row.output q) t.rows g.row nowhere g.within (is_level_output t pins q legal long) g.here ∙ g.gives

first_agrees : (a b v : Value) → IsKnown v → agreed a b ≡ v → a ≡ v
first_agrees Zero Zero v known e = e
first_agrees One One v known e = e
first_agrees Zero One Zero known e = refl
first_agrees Zero One One known e = cc
first_agrees Zero X Zero known e = refl
first_agrees Zero X One known e = cc
first_agrees Zero Z Zero known e = refl
first_agrees Zero Z One known e = cc
first_agrees One Zero One known e = refl
first_agrees One Zero Zero known e = cc
first_agrees One X One known e = refl
first_agrees One X Zero known e = cc
first_agrees One Z One known e = refl
first_agrees One Z Zero known e = cc
first_agrees X b Zero known e = cc
first_agrees X b One known e = cc
first_agrees Z b Zero known e = cc
first_agrees Z b One known e = cc
first_agrees a b X known e = absurd known
first_agrees a b Z known e = absurd known

agreed_same : (v : Value) → IsKnown v → agreed v v ≡ v
agreed_same Zero known = refl
agreed_same One known = refl
agreed_same X known = absurd known
agreed_same Z known = absurd known

agreed_swapped : (a b : Value) → agreed a b ≡ agreed b a
agreed_swapped Zero Zero = refl
agreed_swapped Zero One = refl
agreed_swapped Zero X = refl
agreed_swapped Zero Z = refl
agreed_swapped One Zero = refl
agreed_swapped One One = refl
agreed_swapped One X = refl
agreed_swapped One Z = refl
agreed_swapped X Zero = refl
agreed_swapped X One = refl
agreed_swapped X X = refl
agreed_swapped X Z = refl
agreed_swapped Z Zero = refl
agreed_swapped Z One = refl
agreed_swapped Z X = refl
agreed_swapped Z Z = refl

-- The output of a level row is a bit exactly where some level row gives it.
pub level_exact : (t : Table) (pins : List Value) (q v bit : Value) → IsLegal t.sequential t.inputs t.rows → length pins ≡ t.inputs → v ≡ level_output t pins q → IsKnown bit → (v ≡ bit) ↔ GivesByLevel t pins q bit
level_exact t pins q v bit legal long is known = (
  λ e. gives_by_level t pins q bit known (sym is ∙ e),
  λ g. is ∙ given t pins q bit legal long g,
)

abbrev IsExact : Table → List Value → Value → Value → Type 0
IsExact t pins q v = (bit : Value) → IsKnown bit → (v ≡ bit) ↔ GivesByLevel t pins q bit

pub hold_exact : (t : Table) (pins : List Value) (first second bit : Value) → IsExact t pins Zero first → IsExact t pins One second → IsKnown bit → (agreed first second ≡ bit) ↔ HoldsAt t pins bit
hold_exact t pins first second bit at_zero at_one known = (
  λ e. record {
    known = known;
    at_zero = (at_zero bit known).0 (first_agrees first second bit known e);
    at_one = (at_one bit known).0 (first_agrees second first bit known (agreed_swapped second first ∙ e));
  },
  λ h. (let f : first ≡ bit = (at_zero bit known).1 h.at_zero in
      let s : second ≡ bit = (at_one bit known).1 h.at_one in
      ap (λ v. agreed v second) f ∙ ap (agreed bit) s ∙ agreed_same bit known),
)

pub hold_unknown : (t : Table) (pins : List Value) (first bit : Value) → IsExact t pins Zero first → (IsKnown first → ⊥) → IsKnown bit → (X ≡ bit) ↔ HoldsAt t pins bit
hold_unknown t pins first bit at_zero unknown known = (
  λ e. absurd (not_x bit known e),
  λ h. absurd (unknown (subst IsKnown (sym ((at_zero bit known).1 h.at_zero)) known)),
)
