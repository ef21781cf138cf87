-- Rows of bytes from step to step.
use Rattle.std.proofs.Common.{◌≡◌, ℕ, zero, suc, ◌+◌, ◌-◌, ◌*◌, ◌<◌, ◌≤◌, arith, List, [], ◌∷◌, ◌++◌, length, length-set, set, slice_index, slice_index_or, take, get_or-set_other, get_or-set_same, refl, ◌∙◌, ap, subst, sym, ⊎_elim}
use Rattle.std.proofs.Math.Nat.{mul-le-mul_right}
use Rattle.std.proofs.lemmas.Bool.{cases_eq, cases_lt}
use Rattle.std.proofs.lemmas.List.{get_or_append_left, get_or_push, length-replicate, length_push, take_all, take_at}
use Rattle.std.specs.List.{AllByRecursion}
use Rattle.base_ledger.specs.Change.{AreInWidth, change_payload, change_position, no_change, packed_change}
use Rattle.base_ledger.specs.Ledger.{LedgerStep, LedgerView, RowFollows, after_turn, new_ledger, no_step, row_with, step_changes, step_row, steps_of, with_put}
use Rattle.base_ledger.specs.declared.change.Change.{Change}
use Rattle.base_ledger.proofs.Rows.{change_position-packed_change, length-row_with, value_none}
use Rattle.design_circuit.specs.History.{AreRows, HasPlace, HistoryView, IsRow, held_in, held_of_byte, history_by, net_place}
use Rattle.design_circuit.specs.Row.{AreBytesAt, AreWritten, IsBlankAt, IsUnwritten}
use Rattle.design_circuit.proofs.HistoryLemmas.{held_there, row_after, row_there}

-- What holds of each.
all_push : {A : Type 0} (P : A → Type 0) (xs : List A) (x : A) → AllByRecursion P xs → P x → AllByRecursion P (xs ++ x ∷ [])
all_push P [] x all here = (here, tt)
all_push P (y ∷ ys) x all here = (all.0, all_push P ys x all.1 here)

all_before : {A : Type 0} (P : A → Type 0) (xs : List A) (x : A) → AllByRecursion P (xs ++ x ∷ []) → AllByRecursion P xs
all_before P [] x all = tt
all_before P (y ∷ ys) x all = (all.0, all_before P ys x all.1)

all_last : {A : Type 0} (P : A → Type 0) (xs : List A) (x : A) → AllByRecursion P (xs ++ x ∷ []) → P x
all_last P [] x all = all.0
all_last P (y ∷ ys) x all = all_last P ys x all.1

all_at : {A : Type 0} (P : A → Type 0) (xs : List A) (k : ℕ) (d : A) → AllByRecursion P xs → k < length xs → P (slice_index_or xs k d)
all_at P [] k d all within = absurd (omega arith)
all_at P (x ∷ xs) zero d all within = all.0
all_at P (x ∷ xs) (suc k) d all within = all_at P xs k d all.1 (omega arith)

-- The row under way is as long as there are nets.
pub row_long : (nets : ℕ) (ledger : LedgerView) → AreRows nets ledger.width (steps_of ledger) → length ledger.last.row ≡ nets
row_long nets ledger are = (all_last (IsRow nets) ledger.before ledger.last are.rows).long

-- Rows of a first step, with a byte put, and with a step more.
pub rows_new : (nets : ℕ) (ledger : LedgerView) → ledger ≡ new_ledger nets 10 → AreRows nets ledger.width (steps_of ledger)
rows_new nets ledger is = rw is record {
  wide = refl;
  rows = (record { long = length-replicate nets 10; inside = λ i less. absurd (omega (arith, less)) }, tt);
}

put_inside : (nets : ℕ) (changes : List Change) (net byte : ℕ) → net < nets → byte < 256 → AreInWidth nets changes → AreInWidth nets (changes ++ packed_change net byte ∷ [])
put_inside nets changes net byte within small inside i less =
    let long = length_push changes (packed_change net byte) in
    ⊎_elim (λ (before : i < length changes). rw (get_or_append_left changes (packed_change net byte ∷ []) no_change i before) (inside i before))
    (λ (behind : length changes ≤ i). (let same : length changes ≡ i = omega (arith, less, behind, long) in
    rw (get_or_push changes (packed_change net byte) no_change i same, change_position-packed_change net byte small) within))
    (cases_lt i (length changes))

pub rows_put : (nets : ℕ) (ledger new : LedgerView) (net byte : ℕ) → new ≡ with_put ledger net byte → net < nets → byte < 256 → AreRows nets ledger.width (steps_of ledger) → AreRows nets new.width (steps_of new)
rows_put nets ledger new net byte is within small are =
    let last = all_last (IsRow nets) ledger.before ledger.last are.rows in
    rw is record {
      wide = are.wide;
      rows = all_push (IsRow nets) ledger.before (with_put ledger net byte).last (all_before (IsRow nets) ledger.before ledger.last are.rows) record {
        long = length-set ledger.last.row net byte ∙ last.long;
        inside = put_inside nets ledger.last.changes net byte within small last.inside;
      };
    }

pub rows_next : (nets : ℕ) (ledger new : LedgerView) → new ≡ after_turn ledger → AreRows nets ledger.width (steps_of ledger) → AreRows nets new.width (steps_of new)
rows_next nets ledger new is are = rw is record {
  wide = are.wide;
  rows = all_push (IsRow nets) (steps_of ledger) (after_turn ledger).last are.rows record {
    long = row_long nets ledger are;
    inside = λ i less. absurd (omega (arith, less));
  };
}

-- Two rows that say the same of a net still do so with the same changes written into both.
same_written : (changes : List Change) (row other : List ℕ) (net : ℕ) → net < length row → length row ≡ length other → held_of_byte (slice_index row net) ≡ held_of_byte (slice_index other net) → held_of_byte (slice_index (row_with row changes) net) ≡ held_of_byte (slice_index (row_with other changes) net)
same_written [] row other net less long same = same
same_written (change ∷ changes) row other net less long same =
    let row_long = length-set row at byte in
    let other_long = length-set other at byte in
    same_written changes (set row at byte) (set other at byte) net (omega (arith, less, row_long)) (omega (arith, long, row_long, other_long)) (⊎_elim here away (cases_eq net at))
  where
    at : ℕ
    at = change_position change

    byte : ℕ
    byte = change_payload change

    away : (net ≡ at → ⊥) → held_of_byte (slice_index (set row at byte) net) ≡ held_of_byte (slice_index (set other at byte) net)
    away differ = rw (get_or-set_other row at net byte 0 differ, get_or-set_other other at net byte 0 differ) same

    here : net ≡ at → held_of_byte (slice_index (set row at byte) net) ≡ held_of_byte (slice_index (set other at byte) net)
    here is =
        ap (λ n. held_of_byte (slice_index (set row at byte) n)) is
        ∙ ap held_of_byte (get_or-set_same row at byte 0 (omega (arith, less, is)) ∙ sym (get_or-set_same other at byte 0 (omega (arith, less, is, long))))
        ∙ sym (ap (λ n. held_of_byte (slice_index (set other at byte) n)) is)

-- Behind the last row every place is blank.
pub blank_behind : (nets count : ℕ) (steps : List LedgerStep) (history : HistoryView) (step : ℕ) → history_by nets count steps ≡ history → length steps ≤ step → IsBlankAt history step
blank_behind nets count steps history step is past =
    subst (λ (h : HistoryView). IsBlankAt h step) is (λ net has. held_there nets count steps (net_place step net) has ∙ row_after steps step net past)

-- The changes of a row are all that was written at its step.
module _ (nets count : ℕ) (steps : List LedgerStep) (step : ℕ) (rows : AllByRecursion (IsRow nets) steps) (later : 0 < step) (less : step < length steps) (turns : RowFollows steps step) where
  abbrev whole : HistoryView
  whole = history_by nets count steps

  abbrev changes : List Change
  changes = step_changes steps step

  here : IsRow nets (slice_index_or steps step no_step)
  here = all_at (IsRow nets) steps step no_step rows less

  before : IsRow nets (slice_index_or steps (step - 1) no_step)
  before = all_at (IsRow nets) steps (step - 1) no_step rows (omega (arith, less))

  has_before : (net : ℕ) → HasPlace whole (net_place step net) → HasPlace whole (net_place (step - 1) net)
  has_before net has =
      let fewer : (step - 1) * nets ≤ step * nets = mul-le-mul_right nets (omega arith) in
      let low = has.step in
      record { net = has.net; step = omega (arith, fewer, low) }

  row_here : (net : ℕ) → HasPlace whole (net_place step net) → held_in whole (net_place step net) ≡ held_of_byte (slice_index (row_with (step_row steps (step - 1)) changes) net)
  row_here net has =
      held_there nets count steps (net_place step net) has
      ∙ row_there steps step net less
      ∙ ap (λ (row : List ℕ). held_of_byte (slice_index row net)) (turns later)

  row_before : (net : ℕ) → HasPlace whole (net_place step net) → held_in whole (net_place (step - 1) net) ≡ held_of_byte (slice_index (step_row steps (step - 1)) net)
  row_before net has =
      held_there nets count steps (net_place (step - 1) net) (has_before net has)
      ∙ row_there steps (step - 1) net (omega (arith, less))

  stays : (net : ℕ) → IsUnwritten changes net → slice_index (row_with (step_row steps (step - 1)) changes) net ≡ slice_index (step_row steps (step - 1)) net
  stays net none =
      ap (λ (cs : List Change). slice_index (row_with (step_row steps (step - 1)) cs) net) (sym (take_all (length changes) changes (omega arith)))
      ∙ value_none (step_row steps (step - 1)) changes net (length changes) (omega arith) none

  follows : (bytes : List ℕ) → AreBytesAt whole (step - 1) bytes → AreBytesAt whole step (row_with bytes changes)
  follows bytes are = record {
    long = length-row_with bytes changes ∙ are.long;
    held = λ net has.
        same_written changes bytes (step_row steps (step - 1)) net (let long = are.long in let low = has.net in omega (arith, long, low)) (are.long ∙ sym before.long)
        (are.held net (has_before net has) ∙ row_before net has)
        ∙ sym (row_here net has);
  }

  pub written_here : AreWritten whole step changes
  written_here = record {
    inside = here.inside;
    others = λ net has none. row_here net has ∙ ap held_of_byte (stays net none) ∙ sym (row_before net has);
    follows = follows;
  }

pub are_written : (nets width count : ℕ) (steps : List LedgerStep) (history : HistoryView) (step : ℕ) → history_by width count steps ≡ history → AreRows nets width steps → 0 < step → step < length steps → RowFollows steps step → AreWritten history step (step_changes steps step)
are_written nets width count steps history step is are later less turns =
    let rows = subst (λ n. AllByRecursion (IsRow n) steps) (sym are.wide) are.rows in
    subst (λ (h : HistoryView). AreWritten h step (step_changes steps step)) is (written_here width count steps step rows later less turns)

-- Bytes with the changes of the next step written into them are those of it.
pub next_bytes : (history : HistoryView) (step count : ℕ) (bytes wrote rest : List ℕ) (changes : List Change) → AreWritten history (step + 1) changes → AreBytesAt history step bytes → wrote ≡ row_with bytes changes → length wrote ≡ count → AreBytesAt history (step + 1) (take count (wrote ++ rest))
next_bytes history step count bytes wrote rest changes written are is long =
    let back : step + 1 - 1 ≡ step = omega arith in
    let next = written.follows bytes (subst (λ s. AreBytesAt history s bytes) (sym back) are) in
    subst (λ (bs : List ℕ). AreBytesAt history (step + 1) bs) (sym is ∙ sym (take_at wrote rest count long)) next

-- The bytes of the first nets with that of one net more.
pub byte_more : (history : HistoryView) (bytes : List ℕ) (net byte : ℕ) → net < length bytes → ((n : ℕ) → n < net → HasPlace history (net_place 0 n) → held_of_byte (slice_index bytes n) ≡ held_in history (net_place 0 n)) → (HasPlace history (net_place 0 net) → held_of_byte byte ≡ held_in history (net_place 0 net)) → (n : ℕ) → n < net + 1 → HasPlace history (net_place 0 n) → held_of_byte (slice_index (set bytes net byte) n) ≡ held_in history (net_place 0 n)
byte_more history bytes net byte within before here n less has =
    ⊎_elim (λ (is : n ≡ net).
    ap (λ k. held_of_byte (slice_index (set bytes net byte) k)) is
    ∙ ap held_of_byte (get_or-set_same bytes net byte 0 within)
    ∙ here (subst (λ k. HasPlace history (net_place 0 k)) is has)
    ∙ ap (λ k. held_in history (net_place 0 k)) (sym is))
    (λ (differ : n ≡ net → ⊥). rw (get_or-set_other bytes net n byte 0 differ) (before n (omega (arith, less, differ)) has))
    (cases_eq n net)
