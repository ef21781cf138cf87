-- Rows of values by steps, and the changes that give them.
use Rattle.std.specs.Prelude.{◌≡◌, ℕ, ◌+◌, ◌-◌, ◌<◌, ◌≤◌, ◌^◌, List, [], ◌∷◌, ◌++◌, length, map, replicate, slice_index}
use Rattle.std.specs.Prelude.{slice_index_or, slice_range, slice_set, take}
use Rattle.std.specs.List.{range_with_len}
use Rattle.base_ledger.specs.Change.{AreInWidth, packed_change, change_payload, change_position}
use Rattle.base_ledger.specs.declared.change.Change.{Change}

-- A row with changes written into it, one after another.
abbrev pub row_with : List ℕ → List Change → List ℕ
row_with row [] = row
row_with row (change ∷ changes) = row_with (slice_set row (change_position change) (change_payload change)) changes

-- The position has this value after changes of a row that has one value everywhere, however long it is.
abbrev pub IsValueAfter : ℕ → List Change → ℕ → ℕ → Type 0
IsValueAfter first changes position value =
    (width : ℕ) → position < width → value ≡ slice_index (row_with (replicate width first) changes) position

-- What each position has at a step, and what was put at it, in order.
pub record LedgerStep : Type 0 where
  pub row : List ℕ
  pub changes : List Change

abbrev pub no_step : LedgerStep
no_step = record { row = []; changes = [] }

-- How many positions there are, the steps before, and the last one, which is under way.
pub record LedgerView : Type 0 where
  pub width : ℕ
  pub before : List LedgerStep
  pub last : LedgerStep

abbrev pub steps_of : LedgerView → List LedgerStep
steps_of ledger = ledger.before ++ ledger.last ∷ []

abbrev pub step_row : List LedgerStep → ℕ → List ℕ
step_row steps step = (slice_index_or steps step no_step).row

abbrev pub step_changes : List LedgerStep → ℕ → List Change
step_changes steps step = (slice_index_or steps step no_step).changes

-- A step's row is the one before with the step's changes written into it.
abbrev pub RowFollows : List LedgerStep → ℕ → Type 0
RowFollows steps step = 0 < step → step_row steps step ≡ row_with (step_row steps (step - 1)) (step_changes steps step)

-- The row of the step that lies so many before the one under way.
abbrev pub row_back : LedgerView → ℕ → List ℕ
row_back ledger back = step_row ledger.before (length ledger.before - back)

-- A finished ledger: how many positions there are, and all steps.
pub record IndexView : Type 0 where
  pub width : ℕ
  pub steps : List LedgerStep

abbrev pub finished_ledger : LedgerView → IndexView
finished_ledger ledger = record { width = ledger.width; steps = steps_of ledger }

-- A ledger of one step, in which each position has the same.
abbrev pub new_ledger : ℕ → ℕ → LedgerView
new_ledger width first = record {
  width = width;
  before = [];
  last = record { row = replicate width first; changes = [] };
}

-- It, with a value put at a position of the step under way.
abbrev pub with_put : LedgerView → ℕ → ℕ → LedgerView
with_put old position payload = record {
  width = old.width;
  before = old.before;
  last = record {
    row = slice_set old.last.row position payload;
    changes = old.last.changes ++ packed_change position payload ∷ [];
  };
}

-- It, with the step under way done, and a next one that begins as that one ends.
abbrev pub after_turn : LedgerView → LedgerView
after_turn old = record { width = old.width; before = steps_of old; last = record { row = old.last.row; changes = [] } }

-- The step that lies between two bounds in the list of all changes.
abbrev pub step_between : List ℕ → List Change → ℕ → ℕ → LedgerStep
step_between blank changes start end = record {
  row = row_with blank (take end changes);
  changes = slice_range changes start end;
}

-- The steps that lie between the bounds of a list.
unfoldable pub steps_between : List ℕ → List Change → List ℕ → List LedgerStep
steps_between blank changes starts =
    map (λ k. step_between blank changes (slice_index starts k) (slice_index starts (k + 1)))
    (range_with_len 0 (length starts - 1))

-- What a log of changes says, by where its steps start.
abbrev pub ledger_of : ℕ → List ℕ → List Change → List ℕ → LedgerView
ledger_of width blank changes starts = record {
  width = width;
  before = steps_between blank changes starts;
  last = step_between blank changes (slice_index starts (length starts - 1)) (length changes);
}

-- The same of a first row that has one value everywhere.
abbrev pub logged : ℕ → ℕ → List Change → List ℕ → LedgerView
logged width first changes starts = ledger_of width (replicate width first) changes starts

abbrev pub logged_steps : ℕ → ℕ → List Change → List ℕ → IndexView
logged_steps width first changes starts = record {
  width = width;
  steps = steps_between (replicate width first) changes starts;
}

-- Bounds of steps rise, within the changes.
pub record AreBounds (changes : List Change) (starts : List ℕ) : Type 0 where
  pub within : (k : ℕ) → k < length starts → slice_index starts k ≤ length changes
  pub rising : (k : ℕ) → k + 1 < length starts → slice_index starts k ≤ slice_index starts (k + 1)

-- The log is in order, and three rows are those of the step under way and of the two before it.
pub record IsLogged (width : ℕ) (blank : List ℕ) (changes : List Change)
    (starts row_now row_one row_two : List ℕ) : Type 0 where
  pub wide : width ≤ 2 ^ 24
  pub inside : AreInWidth width changes
  pub some : 0 < length starts
  pub bounds : AreBounds changes starts
  pub now : row_now ≡ row_with blank changes
  pub one : row_one ≡ row_with blank (take (slice_index starts (length starts - 1)) changes)
  pub two : row_two ≡ row_with blank (take (slice_index starts (length starts - 2)) changes)

-- The same of a first row that has one value everywhere.
abbrev pub IsLoggedFrom : ℕ → ℕ → List Change → List ℕ → List ℕ → List ℕ → List ℕ → Type 0
IsLoggedFrom width first changes starts row_now row_one row_two =
    IsLogged width (replicate width first) changes starts row_now row_one row_two

-- There is a bound and a next one, and they bound a part of a list that is so long.
pub record AreBoundsAt (long : ℕ) (bounds : List ℕ) (k : ℕ) : Type 0 where
  pub next : k + 1 < length bounds
  pub rising : slice_index bounds k ≤ slice_index bounds (k + 1)
  pub within : slice_index bounds (k + 1) ≤ long

-- That part.
abbrev pub part_between : {A : Type 0} → List A → List ℕ → ℕ → List A
part_between items bounds k = slice_range items (slice_index bounds k) (slice_index bounds (k + 1))
