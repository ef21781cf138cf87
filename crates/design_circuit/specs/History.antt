-- What a history has for each place.
use Rattle.std.specs.Prelude.{◌≡◌, ℕ, ◌+◌, ◌*◌, ◌/◌, ◌%◌, ◌<◌, ◌==◌, List, length, map, nat_lt, replicate, slice_index}
use Rattle.std.specs.Prelude.{slice_index_or, slice_set, if◌then◌else◌}
use Rattle.std.specs.List.{AllByRecursion, range_with_len}
use Rattle.design_cell.specs.declared.value.Value.{Value}
use Rattle.design_cell.specs.declared.value.Value.TheVariants.{Zero, One, X, Z}
use Rattle.design_circuit.specs.Replay.{Held, blank}
use Rattle.design_circuit.specs.declared.design.Design.{Design}
use Rattle.design_circuit.specs.declared.place.Place.{Place}
use Rattle.design_circuit.specs.declared.stim.Stim.{Stim}
use Rattle.base_ledger.specs.Change.{AreInWidth}
use Rattle.base_ledger.specs.Ledger.{LedgerStep, LedgerView, step_row, steps_of}

-- How many nets there are, and what each place has: by step, and within a step by the number of the net.
pub record HistoryView : Type 0 where
  pub nets : ℕ
  pub places : List Held

abbrev pub index_in : HistoryView → Place → ℕ
index_in history place = place.step * history.nets + place.net

-- The place is one of the history's.
pub record HasPlace (history : HistoryView) (place : Place) : Type 0 where
  pub net : place.net < history.nets
  pub step : index_in history place < length history.places

abbrev pub held_in : HistoryView → Place → Held
held_in history place = slice_index_or history.places (index_in history place) blank

-- The history that a design has under a stimulus where every value is x.
abbrev pub blank_history : Design → Stim → HistoryView
blank_history design stim = record {
  nets = length design.nets;
  places = replicate (length design.nets * (length stim.times * stim.rounds)) blank;
}

-- The place has these two values, and each other what it had.
abbrev pub with_held : HistoryView → Place → Held → HistoryView
with_held history place held = record history { places = slice_set history.places (index_in history place) held }

-- A history that is written step by step: the step under way, which is the last one begun, and what it has so far.
pub record WriterView : Type 0 where
  pub step : ℕ
  pub history : HistoryView

-- Nothing is written yet.
abbrev pub new_writer : Design → Stim → WriterView
new_writer design stim = record { step = 0; history = blank_history design stim }

-- The place has these two values, and all else is as it was.
abbrev pub writer_with : WriterView → Place → Held → WriterView
writer_with old place held = record old { history = with_held old.history place held }

-- The place of a net at a step.
abbrev pub net_place : ℕ → ℕ → Place
net_place step net = record { step = step; net = net }

-- The next step is begun. Each place of it has what the place of its net has at the step that was under way, and each
-- other what it had.
pub record IsNextStep (old new : WriterView) : Type 0 where
  pub step : new.step ≡ old.step + 1
  pub nets : new.history.nets ≡ old.history.nets
  pub long : length new.history.places ≡ length old.history.places
  pub row : (net : ℕ) → HasPlace old.history (net_place (old.step + 1) net)
      → held_in new.history (net_place (old.step + 1) net) ≡ held_in old.history (net_place old.step net)
  pub others : (place : Place) → HasPlace old.history place → (place.step ≡ old.step + 1 → ⊥)
      → held_in new.history place ≡ held_in old.history place

-- Two values in a byte: the value shown in the low two bits, the value kept in the next two.
abbrev pub two_bits : Value → ℕ
two_bits Zero = 0
two_bits One = 1
two_bits X = 2
two_bits Z = 3

abbrev pub value_of_bits : ℕ → Value
value_of_bits bits = if bits == 0 then Zero else if bits == 1 then One else if bits == 2 then X else Z

abbrev pub held_of_byte : ℕ → Held
held_of_byte byte = record { shown = value_of_bits (byte % 4); kept = value_of_bits (byte / 4 % 4) }

-- What a net has at a step of rows of such bytes, blank after the last one.
abbrev pub held_row : List LedgerStep → ℕ → ℕ → Held
held_row steps step net =
    if nat_lt step (length steps) then held_of_byte (slice_index (step_row steps step) net) else blank

-- The history that the rows of the first of so many steps give.
abbrev pub history_by : ℕ → ℕ → List LedgerStep → HistoryView
history_by nets count steps = record {
  nets = nets;
  places = map (λ k. held_row steps (k / nets) (k % nets)) (range_with_len 0 (nets * count));
}

-- What a writer has by its ledger.
abbrev pub writer_by : ℕ → LedgerView → WriterView
writer_by count ledger = record {
  step = length ledger.before;
  history = history_by ledger.width count (steps_of ledger);
}

-- A row has a byte for each net, and its changes are of these.
pub record IsRow (nets : ℕ) (row : LedgerStep) : Type 0 where
  pub long : length row.row ≡ nets
  pub inside : AreInWidth nets row.changes

-- The rows of a history are as wide as there are nets.
pub record AreRows (nets width : ℕ) (steps : List LedgerStep) : Type 0 where
  pub wide : width ≡ nets
  pub rows : AllByRecursion (IsRow nets) steps
