-- Rows of values that steps of codes stand for.
use Rattle.std.proofs.Common.{◌≡◌, ℕ, zero, suc, ◌-◌, ◌<◌, List, [], ◌∷◌, length, map, replicate, set, slice_index, slice_index_or, take, refl, sym, ap, ◌∙◌, All, arith, drop, subst}
use Rattle.std.proofs.lemmas.List.{get_or-map, length-map, map-set, set-get_or, take_all}
use Rattle.std.proofs.lemmas.List.Elements.{All-drop, All-push, All-take}
use Rattle.design_cell.specs.declared.value.Value.{Value}
use Rattle.design_cell.specs.declared.value.Value.TheVariants.{X}
use Rattle.base_ledger.specs.Change.{AreInWidth}
use Rattle.base_ledger.specs.Ledger.{IndexView, LedgerStep, LedgerView, RowFollows, finished_ledger, new_ledger, no_step, row_with, step_changes, step_row, with_put}
use Rattle.base_ledger.specs.declared.change.Change.{Change}
use Rattle.base_ledger.proofs.Rows.{value_none}
use Rattle.design_inputs.specs.Codes.{AreWide, IsWide, value_of_code, value_rows, written_rows}
use Rattle.design_inputs.specs.Rows.{AreChanged, AreElsewhere, HasWidth, WrittenRows, moment_row, new_rows, with_value}

rows_long : (steps : List LedgerStep) → length (value_rows steps) ≡ length steps
rows_long steps = length-map steps (λ (step : LedgerStep). map value_of_code step.row)

row_there : (steps : List LedgerStep) (moment : ℕ) → moment < length steps → moment_row (value_rows steps) moment ≡ map value_of_code (step_row steps moment)
row_there steps moment less = get_or-map (λ (step : LedgerStep). map value_of_code step.row) steps moment no_step [] less

row_width : (width : ℕ) (steps : List LedgerStep) (moment : ℕ) → AreWide width steps → moment < length steps → length (moment_row (value_rows steps) moment) ≡ width
row_width width steps moment wide less = ap (λ (row : List Value). length row) (row_there steps moment less) ∙ length-map (step_row steps moment) value_of_code ∙ wide moment no_step less

value_there : (width : ℕ) (steps : List LedgerStep) (moment net : ℕ) → AreWide width steps → moment < length steps → net < width → slice_index_or (moment_row (value_rows steps) moment) net X ≡ value_of_code (slice_index (step_row steps moment) net)
value_there width steps moment net wide less within =
    let long : length (step_row steps moment) ≡ width = wide moment no_step less in
    ap (λ (row : List Value). slice_index_or row net X) (row_there steps moment less) ∙ get_or-map value_of_code (step_row steps moment) net 0 X (omega (arith, long, within))

moment_within : (steps : List LedgerStep) (rows : List (List Value)) (moment : ℕ) → value_rows steps ≡ rows → moment < length rows → moment < length steps
moment_within steps rows moment is there =
    let long : length rows ≡ length steps = ap (λ (rows : List (List Value)). length rows) (sym is) ∙ rows_long steps in
    omega (arith, long, there)

pub net_within : (width : ℕ) (steps : List LedgerStep) (rows : List (List Value)) (moment net : ℕ) → AreWide width steps → value_rows steps ≡ rows → moment < length rows → net < length (moment_row rows moment) → net < width
net_within width steps rows moment net wide is there less =
    let same : length (moment_row rows moment) ≡ width = ap (λ (rows : List (List Value)). length (moment_row rows moment)) (sym is) ∙ row_width width steps moment wide (moment_within steps rows moment is there) in
    omega (arith, less, same)

-- A position that no change is at has what it had.
unchanged : (row : List ℕ) (changes : List Change) (net : ℕ) → AreElsewhere changes net → slice_index (row_with row changes) net ≡ slice_index row net
unchanged row changes net elsewhere =
    let all = take_all (length changes) changes (omega arith) in
    ap (λ (cs : List Change). slice_index (row_with row cs) net) (sym all) ∙ value_none row changes net (length changes) (omega arith) elsewhere

pub are_changed : (width : ℕ) (steps : List LedgerStep) (rows : List (List Value)) (moment : ℕ) (changes : List Change) → AreWide width steps → value_rows steps ≡ rows → 0 < moment → moment < length rows → changes ≡ step_changes steps moment → AreInWidth width changes → RowFollows steps moment → AreChanged rows moment changes
are_changed width steps rows moment changes wide is later there changes_is within follows =
    subst (λ (rows : List (List Value)). AreChanged rows moment changes) is record {
      nets = subst (λ n. AreInWidth n changes) (sym (row_width width steps moment wide inside)) within;
      others = λ net less elsewhere. same net (let long = row_width width steps moment wide inside in omega (arith, long, less)) elsewhere;
    }
  where
    inside : moment < length steps
    inside = moment_within steps rows moment is there

    same : (net : ℕ) → net < width → AreElsewhere changes net → slice_index_or (moment_row (value_rows steps) moment) net X ≡ slice_index_or (moment_row (value_rows steps) (moment - 1)) net X
    same net less elsewhere =
        let row : step_row steps moment ≡ row_with (step_row steps (moment - 1)) changes = follows later ∙ ap (λ (cs : List Change). row_with (step_row steps (moment - 1)) cs) (sym changes_is) in
        value_there width steps moment net wide inside less
        ∙ ap (λ (row : List ℕ). value_of_code (slice_index row net)) row
        ∙ ap value_of_code (unchanged (step_row steps (moment - 1)) changes net elsewhere)
        ∙ sym (value_there width steps (moment - 1) net wide (omega (arith, inside)) less)

-- What a ledger is made as, and what a value more leaves of it.
map-replicate : (n code : ℕ) → map value_of_code (replicate n code) ≡ replicate n (value_of_code code)
map-replicate zero code = refl
map-replicate (suc n) code = ap (λ (values : List Value). value_of_code code ∷ values) (map-replicate n code)

pub written_new : (ledger : LedgerView) (width code : ℕ) → ledger ≡ new_ledger width code → value_of_code code ≡ X → written_rows ledger ≡ new_rows width
written_new ledger width code is code_is =
    ap written_rows is ∙ ap (λ (row : List Value). record { before = []; row = row }) (map-replicate width code ∙ ap (replicate width) code_is)

with_code : (row : List ℕ) (net code : ℕ) (value : Value) → value_of_code code ≡ value → map value_of_code (set row net code) ≡ set (map value_of_code row) net value
with_code row net code value is = map-set value_of_code row net code ∙ ap (set (map value_of_code row) net) is

pub value_kept : (ledger : LedgerView) (view : WrittenRows) (net code : ℕ) (value : Value) → written_rows ledger ≡ view → slice_index ledger.last.row net ≡ code → value_of_code code ≡ value → view ≡ with_value view net value
value_kept ledger view net code value is there code_is =
    subst (λ (view : WrittenRows). view ≡ with_value view net value) is (ap (λ (row : List Value). record { before = value_rows ledger.before; row = row }) same)
  where
    same : map value_of_code ledger.last.row ≡ set (map value_of_code ledger.last.row) net value
    same = ap (map value_of_code) (sym (set-get_or ledger.last.row net 0)) ∙ with_code ledger.last.row net (slice_index ledger.last.row net) value (ap value_of_code there ∙ code_is)

pub value_put : (ledger new : LedgerView) (view : WrittenRows) (net code : ℕ) (value : Value) → written_rows ledger ≡ view → new ≡ with_put ledger net code → value_of_code code ≡ value → written_rows new ≡ with_value view net value
value_put ledger new view net code value is new_is code_is =
    ap written_rows new_is
    ∙ ap (λ (row : List Value). record { before = value_rows ledger.before; row = row }) (with_code ledger.last.row net code value code_is)
    ∙ ap (λ (view : WrittenRows). with_value view net value) is

pub finished_wide : (ledger : LedgerView) (index : IndexView) → IsWide ledger → index ≡ finished_ledger ledger → AreWide index.width index.steps
finished_wide ledger index wide is =
    subst (λ (index : IndexView). AreWide index.width index.steps) (sym is) (All-push (λ (step : LedgerStep). length step.row ≡ ledger.width) ledger.before ledger.last wide.before wide.last)

-- Rows after the first are as wide as all.
pub rest_even : (rows : List (List Value)) (width : ℕ) → width ≡ length (moment_row rows 0) → All (HasWidth (length (moment_row rows 0))) rows → All (HasWidth width) (take (length rows - 1) (drop 1 rows))
rest_even rows width is even =
    rw is (All-take (HasWidth (length (moment_row rows 0))) (length rows - 1) (drop 1 rows) (All-drop (HasWidth (length (moment_row rows 0))) 1 rows even))
