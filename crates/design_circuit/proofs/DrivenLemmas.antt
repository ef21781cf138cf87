-- What a driver gives and keeps, by what it reads.
use Rattle.std.proofs.Common.{◌≡◌, ℕ, refl}
use Rattle.design_circuit.specs.Job.{Job}
use Rattle.design_circuit.specs.declared.design.Driver.{Driver}
use Rattle.design_circuit.specs.declared.design.Driver.TheVariants.{Input, Undriven, Constant, Copy, Cell, Register}
use Rattle.design_circuit.specs.Replay.{Held, driven, kept, kept_by}

-- A register keeps what it gives, and no other driver keeps anything.
pub kept_driven : (j : Job) (f : ℕ → Held) (step net : ℕ) (driver : Driver) → kept j f step net driver ≡ kept_by driver (driven j f step net driver)
kept_driven j f step net Input = refl
kept_driven j f step net Undriven = refl
kept_driven j f step net (Constant bit) = refl
kept_driven j f step net (Copy argument) = refl
kept_driven j f step net (Cell table pins) = refl
kept_driven j f step net (Register latching) = refl
