-- Quiet places worked by hand.
use Rattle.std.specs.Prelude.{◌≡◌, ℕ, Bool, true, false, List, [], ◌∷◌, length, map, slice_index_or}
use Rattle.design_cell.specs.declared.gate.Gate.TheVariants.{And, Not}
use Rattle.design_cell.specs.declared.value.Value.{Value}
use Rattle.design_cell.specs.declared.value.Value.TheVariants.{Zero, One, X}
use Rattle.design_circuit.specs.declared.design.Driver.{Driver}
use Rattle.design_circuit.specs.declared.design.Driver.TheVariants.{Cell, Copy, Input, Register, Undriven}
use Rattle.design_circuit.specs.declared.design.Pin.TheVariants.{Bit, Dead, Net}
use Rattle.design_circuit.specs.declared.design.Table.TheVariants.{Gate}
use Rattle.design_circuit.specs.declared.stim.Levels.TheVariants.{Change}
use Rattle.design_circuit.specs.declared.stim.StartRule.TheVariants.{Cold}
use Rattle.design_circuit.specs.Job.{Job}
use Rattle.design_cell.specs.Table.{Table as Primitive}
use Rattle.law_model.specs.Class.{class_in}
use Rattle.law_model.specs.Places.{places_where}
use Rattle.law_model.specs.WorkedClasses.{AreClasses}
use Rattle.law_model.specs.WorkedRegisters.{clocked, dff, dff0, holding, latch, reset_classes, reset_values}
use Rattle.law_model.specs.WorkedRegisters.{unknown_reset}
use Rattle.law_model.specs.declared.class.ClassByNumber.{ClassByNumber}
use Rattle.law_model.specs.declared.class.ClassByNumber.TheVariants.{Carried, Free, Line, Local}
use Rattle.law_quiet.specs.Due.{is_quiet}

-- The first places of a job, where these are their certain values, have these classes, and these of them are quiet.
pub record AreQuiet (j : Job) (values : List Value) (classes : List ClassByNumber) (quiet : List Bool) : Type 0 where
  pub has_classes : AreClasses j values classes
  pub are_quiet : map (is_quiet j (λ place. slice_index_or values place X) (class_in classes))
      (places_where (λ place. true) (length classes)) ≡ quiet

-- A register on the edge of ck over d, which is 1, with four rounds a moment and ck 0 and then 1. In place order: d,
-- ck, q. In the second moment d is recorded as before, ck isn't, and q is due a step later, when it sees the edge.
abbrev pub EdgeIsDue : Type 0
EdgeIsDue = AreQuiet (clocked dff Cold 4 (Zero ∷ One ∷ []))
    (One ∷ Zero ∷ X ∷ One ∷ Zero ∷ X ∷ One ∷ Zero ∷ X ∷ One ∷ Zero ∷ X ∷ One ∷ One ∷ X ∷ One ∷ One ∷ One ∷ [])
    (Local true ∷ Local false ∷ Free ∷ Local true ∷ Local false ∷ Free ∷ Local true ∷ Local false ∷ Carried 5 false
    ∷ Local true ∷ Local false ∷ Carried 8 false ∷ Local true ∷ Local true ∷ Carried 11 false
    ∷ Local true ∷ Local true ∷ Local true ∷ [])
    (false ∷ false ∷ false ∷ true ∷ true ∷ false ∷ true ∷ true ∷ true ∷ true ∷ true ∷ true ∷ true ∷ false ∷ true ∷ true
    ∷ true ∷ false ∷ [])

-- Its clock is x, and it keeps. A register whose own place isn't certain is due at each step, where it is free anew;
abbrev pub still_classes : ClassByNumber → List ClassByNumber
still_classes q = Local true ∷ Free ∷ q ∷ Local true ∷ Carried 1 false ∷ q ∷ Local true ∷ Carried 4 false ∷ q
    ∷ Local true ∷ Carried 7 false ∷ q ∷ []

abbrev pub UnclockedIsDue : Type 0
UnclockedIsDue = AreQuiet (clocked dff Cold 4 (X ∷ []))
    (One ∷ X ∷ X ∷ One ∷ X ∷ X ∷ One ∷ X ∷ X ∷ One ∷ X ∷ X ∷ []) (still_classes Free)
    (false ∷ false ∷ false ∷ true ∷ true ∷ false ∷ true ∷ true ∷ false ∷ true ∷ true ∷ false ∷ [])

-- one whose own place is certain rests.
abbrev pub CertainRests : Type 0
CertainRests = AreQuiet (clocked dff0 Cold 4 (X ∷ []))
    (One ∷ X ∷ Zero ∷ One ∷ X ∷ Zero ∷ One ∷ X ∷ Zero ∷ One ∷ X ∷ Zero ∷ []) (still_classes (Local false))
    (false ∷ false ∷ false ∷ true ∷ true ∷ false ∷ true ∷ true ∷ true ∷ true ∷ true ∷ true ∷ [])

abbrev pub over : List Primitive → List Driver → Value → ℕ → ℕ → Job
over udps drivers input rounds moments = record {
  width = length drivers;
  driver = λ net. slice_index_or drivers net Undriven;
  udps = udps;
  order = places_where (λ net. true) (length drivers);
  rounds = rounds;
  moments = moments;
  recorded = λ moment net. input;
  start_rule = Cold;
  levels = Change;
  start = λ net. X;
}

-- A gate with a dead pin gives x: it is restless, and free at each step.
abbrev pub RestlessIsDue : Type 0
RestlessIsDue = AreQuiet (over [] (Input ∷ Cell (Gate And) (Net 0 ∷ Dead ∷ []) ∷ []) One 2 1) (One ∷ X ∷ One ∷ X ∷ [])
    (Local true ∷ Free ∷ Local true ∷ Free ∷ []) (false ∷ false ∷ true ∷ false ∷ [])

-- An input that is x, a net without a driver, a copy of the input and its complement, over two moments of two rounds:
-- the first two are due as each moment begins, and with them what reads them.
abbrev pub of_moments : List Driver
of_moments = Input ∷ Undriven ∷ Copy 0 ∷ Cell (Gate Not) (Net 0 ∷ []) ∷ []

abbrev pub MomentsAreDue : Type 0
MomentsAreDue = AreQuiet (over [] of_moments X 2 2)
    (X ∷ X ∷ X ∷ X ∷ X ∷ X ∷ X ∷ X ∷ X ∷ X ∷ X ∷ X ∷ X ∷ X ∷ X ∷ X ∷ [])
    (Free ∷ Free ∷ Carried 0 false ∷ Carried 0 true ∷ Carried 0 false ∷ Carried 1 false ∷ Carried 2 false
    ∷ Carried 3 false
    ∷ Free ∷ Free ∷ Carried 8 false ∷ Carried 8 true ∷ Carried 8 false ∷ Carried 9 false ∷ Carried 10 false
    ∷ Carried 11 false ∷ [])
    (false ∷ false ∷ false ∷ false ∷ true ∷ true ∷ true ∷ true ∷ false ∷ false ∷ false ∷ false ∷ true ∷ true ∷ true
    ∷ true
    ∷ [])

-- A latch over the constants 1 and 0, so that it is open: no net moves, but where registers start cold it opens at step
-- 1.
abbrev pub SecondIsDue : Type 0
SecondIsDue = AreQuiet
    (over (latch ∷ []) (Register (record { udp = 0; pins = Bit true ∷ Bit false ∷ []; clocks = 0; start = X })
    ∷ []) X 4 1)
    (X ∷ One ∷ One ∷ []) (Free ∷ Local true ∷ Local true ∷ []) (false ∷ false ∷ true ∷ [])

-- With levels that hold: after an uncertain clock a register with an unknown reset looks back at step 4 at what it
-- looked back at before, but it may be held now as it wasn't then.
abbrev pub HeldIsDue : Type 0
HeldIsDue = AreQuiet (holding unknown_reset) reset_values (reset_classes Line)
    (false ∷ false ∷ false ∷ true ∷ true ∷ false ∷ false ∷ false ∷ false ∷ true ∷ true ∷ false ∷ false ∷ true ∷ false
    ∷ [])
