-- What a table gives, by the first rows that match.
use Rattle.std.proofs.Common.{◌≡◌, ℕ, ◌+◌, ◌<◌, ◌&&◌, Bool, true, false, not, List, length, refl, sym, ◌∙◌, arith, Option, Some, None, subst, inl, inr}
use Rattle.std.specs.List.{list_any}
use Rattle.std.specs.Option.{option_or, is_some}
use Rattle.std.proofs.lemmas.List.Elements.{All-from_get_or}
use Rattle.std.proofs.lemmas.List.Folds.{list_any_at, list_any_none}
use Rattle.design_cell.specs.declared.value.Value.{Value}
use Rattle.design_cell.specs.declared.value.Value.TheVariants.{X}
use Rattle.design_cell.specs.declared.row.RawRow.{RawRow}
use Rattle.design_cell.specs.declared.index.Block.{Block}
use Rattle.design_cell.specs.Row.{columns, matches, is_edge_row, nowhere, row_at}
use Rattle.design_cell.specs.Table.{Table, level_matches, edge_matches, level_at, edge_at, columns_before, look, change}
use Rattle.design_cell.specs.Refusal.{IsLegal, has_symbols, is_output, is_state}
use Rattle.design_cell.specs.Clock.{acts, is_known_other}
use Rattle.design_cell.specs.Deciding.{IsLeastRow, IsRowOf, IsRowOfChange, numbered}
use Rattle.design_cell.specs.Index.{Holds, IsFirst, IsFirstBelow, IsIndexed, output_at}
use Rattle.design_cell.proofs.Booleans.{and_left, and_right}
use Rattle.design_cell.proofs.Picks.{pick_none, pick_found}
use Rattle.design_cell.proofs.Rows.{no_edges}

look_found : (t : Table) (pins : List Value) (k : Option ℕ) → IsFirstBelow (matches t.inputs (columns pins X) (columns pins X)) t.rows (length t.rows) k → look t pins ≡ output_at t.rows k X
unfolding look
look_found t pins None h = pick_none _ X X t.rows nowhere h
look_found t pins (Some k) h = pick_found _ X X t.rows nowhere k h.within h.here h.earlier

pub change_found : (t : Table) (pins : List Value) (pin : ℕ) (old q : Value) (level edge : Option ℕ) → IsFirstBelow (level_at t pins pin old q) t.rows (length t.rows) level → IsFirstBelow (edge_at t pins pin old q) t.rows (length t.rows) edge → change t pins pin old q ≡ output_at t.rows (option_or level edge) q
unfolding change
change_found t pins pin old q (Some k) edge h g = pick_found _ q _ t.rows nowhere k h.within h.here h.earlier
change_found t pins pin old q None (Some k) h g = pick_none _ q _ t.rows nowhere h ∙ pick_found _ q X t.rows nowhere k g.within g.here g.earlier
change_found t pins pin old q None None h g = pick_none _ q _ t.rows nowhere h ∙ pick_none _ q X t.rows nowhere g

-- a combinational primitive has level rows only
pub level_row : (n : ℕ) (rows : List RawRow) → IsLegal false n rows → (k : ℕ) → k < length rows → is_edge_row (row_at rows k) ≡ false
unfolding has_symbols
level_row n rows legal k within =
    let row = row_at rows k in
    no_edges row.entries (and_left _ (is_state row.state) (and_left _ (is_output false row.output) (legal.rows_.symbols k within)))

matches_less : (n : ℕ) (old new : ℕ → Value) (row : RawRow) → is_edge_row row ≡ false → level_matches n old new row ≡ false → matches n old new row ≡ false
matches_less n old new row level h = rw level at h

plain : (n : ℕ) (rows : List RawRow) → IsLegal false n rows → (old new : ℕ → Value) (k : Option ℕ) → IsFirstBelow (level_matches n old new) rows (length rows) k → IsFirstBelow (matches n old new) rows (length rows) k
plain n rows legal old new None h = λ i below. matches_less n old new (row_at rows i) (level_row n rows legal i below) (h i below)
plain n rows legal old new (Some k) h = record {
  within = h.within;
  here = and_right (not (is_edge_row (row_at rows k))) (matches n old new (row_at rows k)) h.here;
  earlier = λ i below. matches_less n old new (row_at rows i) (level_row n rows legal i (omega (arith, h.within))) (h.earlier i below);
}

-- what `search` finds, with the number of pins for that of the inputs
abbrev pub Searched : (ℕ → RawRow → Bool) → ℕ → List Block → Option ℕ → Type 0
Searched test n blocks k = (rows : List RawRow) → IsIndexed rows blocks → IsFirstBelow (test n) rows (length rows) k

pub at_inputs : (test : ℕ → RawRow → Bool) (n inputs : ℕ) (rows : List RawRow) (blocks : List Block) (k : Option ℕ) → n ≡ inputs → IsIndexed rows blocks → Searched test n blocks k → IsFirstBelow (test inputs) rows (length rows) k
at_inputs test n inputs rows blocks k e indexed h = subst (λ (i : ℕ). IsFirstBelow (test i) rows (length rows) k) e (h rows indexed)

-- what a value of `Udp` keeps, said of the record that contracts see
pub held : (view table : Table) (inside blocks : List Block) → view ≡ table → blocks ≡ inside → Holds view.sequential view.inputs view.rows inside → Holds table.sequential table.inputs table.rows blocks
held view table inside blocks e f h = rw f (subst (λ (t : Table). Holds t.sequential t.inputs t.rows inside) e h)

pub look_result : (t : Table) (blocks : List Block) (pins : List Value) (v : Value) (level : Option ℕ) → Holds t.sequential t.inputs t.rows blocks → t.sequential ≡ false → length pins ≡ t.inputs → Searched (λ n. level_matches n (columns pins X) (columns pins X)) (length pins) blocks level → v ≡ output_at t.rows level X → v ≡ look t pins
look_result t blocks pins v level holds kind long found e =
    let h = at_inputs (λ n. level_matches n (columns pins X) (columns pins X)) (length pins) t.inputs t.rows blocks level long holds.indexed found in
    e ∙ sym (look_found t pins level (plain t.inputs t.rows (rw kind at holds.legal) (columns pins X) (columns pins X) level h))

abbrev pub LevelSearched : List Value → ℕ → Value → Value → List Block → Option ℕ → Type 0
LevelSearched pins pin old q = Searched (λ n. level_matches n (columns_before pins pin old q) (columns pins q)) (length pins)

abbrev pub EdgeSearched : List Value → ℕ → Value → Value → List Block → Option ℕ → Type 0
EdgeSearched pins pin old q = Searched (λ n. edge_matches n (columns_before pins pin old q) (columns pins q)) (length pins)

pub change_result : (t : Table) (blocks : List Block) (pins : List Value) (pin : ℕ) (old q v : Value) (level edge : Option ℕ) → Holds t.sequential t.inputs t.rows blocks → length pins ≡ t.inputs → LevelSearched pins pin old q blocks level → EdgeSearched pins pin old q blocks edge → v ≡ output_at t.rows (option_or level edge) q → v ≡ change t pins pin old q
change_result t blocks pins pin old q v level edge holds long h g e =
    e ∙ sym (change_found t pins pin old q level edge
    (at_inputs (λ n. level_matches n (columns_before pins pin old q) (columns pins q)) (length pins) t.inputs t.rows blocks level long holds.indexed h)
    (at_inputs (λ n. edge_matches n (columns_before pins pin old q) (columns pins q)) (length pins) t.inputs t.rows blocks edge long holds.indexed g))

none_any : (test : RawRow → Bool) (rows : List RawRow) → IsFirstBelow test rows (length rows) None → list_any test rows ≡ false
none_any test rows h = list_any_none test rows (All-from_get_or (λ (row : RawRow). test row ≡ false) rows nowhere h)

some_any : (test : RawRow → Bool) (rows : List RawRow) (k : ℕ) → IsFirst test rows k → list_any test rows ≡ true
some_any test rows k h = list_any_at test rows k nowhere h.within h.here

acts_found : (t : Table) (pins : List Value) (pin : ℕ) (old q : Value) (level edge : Option ℕ) → IsFirstBelow (level_at t pins pin old q) t.rows (length t.rows) level → change t pins pin old q ≡ output_at t.rows (option_or level edge) q → (not (is_some level) && is_known_other (output_at t.rows edge q) q) ≡ acts t pins pin old q
acts_found t pins pin old q None edge h e = rw (none_any (level_at t pins pin old q) t.rows h, e) refl
acts_found t pins pin old q (Some k) edge h e = rw (some_any (level_at t pins pin old q) t.rows k h) refl

pub acts_result : (t : Table) (blocks : List Block) (pins : List Value) (pin : ℕ) (old q : Value) (level edge : Option ℕ) → Holds t.sequential t.inputs t.rows blocks → length pins ≡ t.inputs → LevelSearched pins pin old q blocks level → EdgeSearched pins pin old q blocks edge → (not (is_some level) && is_known_other (output_at t.rows edge q) q) ≡ acts t pins pin old q
acts_result t blocks pins pin old q level edge holds long h g =
    acts_found t pins pin old q level edge
    (at_inputs (λ n. level_matches n (columns_before pins pin old q) (columns pins q)) (length pins) t.inputs t.rows blocks level long holds.indexed h)
    (sym (change_result t blocks pins pin old q _ level edge holds long h g refl))

first_numbered : (test : RawRow → Bool) (rows : List RawRow) (k : ℕ) → IsFirst test rows k → IsLeastRow test rows (k + 1)
first_numbered test rows k first = record { position = k; row_is = refl; first = first }

row_found : (t : Table) (pins : List Value) (k : Option ℕ) → IsFirstBelow (matches t.inputs (columns pins X) (columns pins X)) t.rows (length t.rows) k → IsRowOf t pins (numbered k)
row_found t pins None h = h
row_found t pins (Some k) h = first_numbered (matches t.inputs (columns pins X) (columns pins X)) t.rows k h

pub row_result : (t : Table) (blocks : List Block) (pins : List Value) (row level : Option ℕ) → Holds t.sequential t.inputs t.rows blocks → t.sequential ≡ false → length pins ≡ t.inputs → Searched (λ n. level_matches n (columns pins X) (columns pins X)) (length pins) blocks level → row ≡ numbered level → IsRowOf t pins row
row_result t blocks pins row level holds kind long found e =
    let h = at_inputs (λ n. level_matches n (columns pins X) (columns pins X)) (length pins) t.inputs t.rows blocks level long holds.indexed found in
    subst (λ (r : Option ℕ). IsRowOf t pins r) (sym e) (row_found t pins level (plain t.inputs t.rows (rw kind at holds.legal) (columns pins X) (columns pins X) level h))

row_of_change_found : (t : Table) (pins : List Value) (pin : ℕ) (old q : Value) (level edge : Option ℕ) → IsFirstBelow (level_at t pins pin old q) t.rows (length t.rows) level → IsFirstBelow (edge_at t pins pin old q) t.rows (length t.rows) edge → IsRowOfChange t pins pin old q (numbered (option_or level edge))
row_of_change_found t pins pin old q (Some k) edge h g = inl (first_numbered (level_at t pins pin old q) t.rows k h)
row_of_change_found t pins pin old q None (Some k) h g = inr (record { no_level = h; edge = first_numbered (edge_at t pins pin old q) t.rows k g })
row_of_change_found t pins pin old q None None h g = (h, g)

pub row_of_change_result : (t : Table) (blocks : List Block) (pins : List Value) (pin : ℕ) (old q : Value) (row level edge : Option ℕ) → Holds t.sequential t.inputs t.rows blocks → length pins ≡ t.inputs → LevelSearched pins pin old q blocks level → EdgeSearched pins pin old q blocks edge → row ≡ numbered (option_or level edge) → IsRowOfChange t pins pin old q row
row_of_change_result t blocks pins pin old q row level edge holds long h g e =
    subst (λ (r : Option ℕ). IsRowOfChange t pins pin old q r) (sym e) (row_of_change_found t pins pin old q level edge
    (at_inputs (λ n. level_matches n (columns_before pins pin old q) (columns pins q)) (length pins) t.inputs t.rows blocks level long holds.indexed h)
    (at_inputs (λ n. edge_matches n (columns_before pins pin old q) (columns pins q)) (length pins) t.inputs t.rows blocks edge long holds.indexed g))
