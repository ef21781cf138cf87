-- Steps of which a wave has places, and rows of it and of its history at them.
use Rattle.std.specs.Prelude.{ℕ, ◌≡◌, ◌+◌, ◌-◌, ◌*◌, ◌<◌, ◌≤◌, length}
use Rattle.design_circuit.specs.History.{HasPlace, HistoryView, held_in, net_place}
use Rattle.report_bits.specs.declared.bits.BitWriter.{BitWriter}
use Rattle.report_bits.specs.declared.rows.Rows.{Rows}
use Rattle.wave_proved.specs.Contents.{Contents, IsWritten}

-- Each net's place at a step is written, and the history has it.
pub record HasStep (c : Contents) (step : ℕ) : Type 0 where
  pub written : (net : ℕ) → net < length c.design.nets → IsWritten c (record { step = step; net = net })
  pub history : (net : ℕ) → net < length c.design.nets → HasPlace c.history (record { step = step; net = net })
  pub whole : (step + 1) * length c.design.nets ≤ length c.written

-- Rows are those of a wave and of its history.
pub record AreRowsOf (c : Contents) (rows : Rows) : Type 0 where
  pub history : rows.replayed.history ≡ c.history
  pub wave : rows.wave.wave ≡ c

-- They stand at a step.
pub record AreRowsAt (c : Contents) (step : ℕ) (rows : Rows) : Type 0 where
  pub are : AreRowsOf c rows
  pub replayed : rows.replayed.step ≡ step
  pub written : rows.wave.step ≡ step

-- What the lines of bits are made from belongs to a wave.
pub record IsWriterOf (c : Contents) (writer : BitWriter) : Type 0 where
  pub here : AreRowsOf c writer.here
  pub before : AreRowsOf c writer.before
  pub names : writer.names ≡ c.design

-- Each net has at a step of a history what it has a step before.
abbrev pub IsStillAt : HistoryView → ℕ → Type 0
IsStillAt history step = (net : ℕ) → HasPlace history (net_place step net)
    → held_in history (net_place step net) ≡ held_in history (net_place (step - 1) net)
