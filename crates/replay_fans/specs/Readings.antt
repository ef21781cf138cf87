-- Which positions read which nets.
use Rattle.std.specs.Prelude.{◌≡◌, ℕ, zero, suc, ◌<◌, List, [], ◌++◌, Contains, map}
use Rattle.std.specs.List.{AllByRecursion}
use Rattle.design_circuit.specs.Circuit.{job_in}
use Rattle.design_circuit.specs.Job.{Job}
use Rattle.design_circuit.specs.declared.circuit.Circuit.{Circuit}
use Rattle.design_circuit.specs.Order.{arguments_of_driver}
use Rattle.design_circuit.specs.declared.design.Driver.{Driver}
use Rattle.replay_due.specs.Readers.{IsReaderTable, ReadersView, readers_of}
use Rattle.replay_due.specs.declared.readings.Reading.{Reading}
use Rattle.replay_fans.specs.Nets.{driver_on, looked_at}
use Rattle.replay_fans.specs.declared.fans.Fans.{Fans}

-- a position's readings of nets
abbrev pub readings_of : ℕ → List ℕ → List Reading
readings_of position nets = map (λ net. let reading : Reading = record { net = net; position = position } in
    reading) nets

-- those of the first positions, by the nets that a driver reads
abbrev pub readings_to : Job → (Driver → List ℕ) → ℕ → List Reading
readings_to j nets_by zero = []
readings_to j nets_by (suc n) = readings_to j nets_by n ++ readings_of n (nets_by (driver_on j n))

-- A position's readings of nets come behind others.
abbrev pub AppendsReadings : List Reading → List Reading → ℕ → List ℕ → Type 0
AppendsReadings old new position nets = new ≡ old ++ readings_of position nets

-- For each net, the positions whose drivers read it are among its readers.
pub record AreReaders (j : Job) (nets_by : Driver → List ℕ) (readers : ReadersView) : Type 0 where
  pub table : IsReaderTable j.width readers
  pub has : (p : ℕ) → p < j.width
      → AllByRecursion (λ net. Contains (readers_of readers net) p) (nets_by (driver_on j p))

-- The copies and cells that read a net, and the registers that look back at it.
pub record AreFans (j : Job) (fans : Fans) : Type 0 where
  pub cells : AreReaders j arguments_of_driver fans.cells
  pub registers : AreReaders j looked_at fans.registers

-- The readings of the nets that the driver at a position reads, or looks back at, come behind others.
abbrev pub PushesArguments : Circuit → ℕ → List Reading → List Reading → Type 0
PushesArguments circuit position old new =
    AppendsReadings old new position (arguments_of_driver (driver_on (job_in circuit) position))

abbrev pub PushesLookedAt : Circuit → ℕ → List Reading → List Reading → Type 0
PushesLookedAt circuit position old new =
    AppendsReadings old new position (looked_at (driver_on (job_in circuit) position))
