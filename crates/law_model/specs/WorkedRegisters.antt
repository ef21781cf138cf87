-- Registers worked by hand: a register over a data net d, which is 1, and a clock net ck. In place order: d, ck, q.
use Rattle.std.specs.Prelude.{◌≡◌, ℕ, ◌/◌, ◌%◌, ◌==◌, Bool, true, false, List, [], ◌∷◌, ◌++◌, map, length}
use Rattle.std.specs.Prelude.{slice_index_or, Some, if◌then◌else◌}
use Rattle.design_cell.specs.declared.value.Value.{Value}
use Rattle.design_cell.specs.declared.value.Value.TheVariants.{Zero, One, X}
use Rattle.design_cell.specs.Value.{is_one}
use Rattle.design_cell.specs.declared.symbol.Symbol.{Symbol}
use Rattle.design_cell.specs.declared.symbol.Symbol.TheVariants.{Single, Change}
use Rattle.design_cell.specs.declared.row.RawRow.{RawRow}
use Rattle.design_cell.specs.Table.{Table as Primitive}
use Rattle.design_circuit.specs.declared.design.Driver.{Driver}
use Rattle.design_circuit.specs.declared.design.Driver.TheVariants.{Input, Register}
use Rattle.design_circuit.specs.declared.design.Latching.{Latching}
use Rattle.design_circuit.specs.declared.design.Pin.{Pin}
use Rattle.design_circuit.specs.declared.design.Pin.TheVariants.{Net, Bit, Dead}
use Rattle.design_circuit.specs.declared.stim.Levels.TheVariants.{Change, Hold}
use Rattle.design_circuit.specs.declared.stim.StartRule.{StartRule}
use Rattle.design_circuit.specs.declared.stim.StartRule.TheVariants.{Cold, Recorded}
use Rattle.design_circuit.specs.Job.{Job}
use Rattle.design_circuit.specs.Rule.{rule, arguments}
use Rattle.law_model.specs.Class.{class_by}
use Rattle.law_model.specs.WorkedClasses.{AreClasses}
use Rattle.law_model.specs.declared.class.ClassByNumber.{ClassByNumber}
use Rattle.law_model.specs.declared.class.ClassByNumber.TheVariants.{Local, Free, Carried, Line}

-- The row for entries and an output, whatever the state is.
abbrev pub row : List Symbol → ℕ → RawRow
row entries output = record { entries = entries; state = Some (Single 63); output = Single output }

-- The letters 0 (48), 1 (49), - (45), ? (63), * (42), r (114) and n (110).
abbrev pub letters : ℕ → ℕ → List Symbol
letters d ck = Single d ∷ Single ck ∷ []

-- 0 r : ? : 0; 1 r : ? : 1; ? n : ? : -; * ? : ? : -
abbrev pub edge_rows : List RawRow
edge_rows = row (letters 48 114) 48 ∷ row (letters 49 114) 49 ∷ row (letters 63 110) 45 ∷ row (letters 42 63) 45 ∷ []

-- The row for d, a change of ck, and a state that stays.
abbrev pub state_row : ℕ → ℕ → ℕ → RawRow
state_row bit old new =
    record { entries = Single bit ∷ Change old new ∷ []; state = Some (Single bit); output = Single bit }

-- 0 (0x) : 0 : 0; 1 (0x) : 1 : 1; 0 (x1) : 0 : 0; 1 (x1) : 1 : 1
abbrev pub unknown_rows : List RawRow
unknown_rows = state_row 48 48 120 ∷ state_row 49 48 120 ∷ state_row 48 120 49 ∷ state_row 49 120 49 ∷ []

-- A register on the edge of ck, one that starts at 0, one that starts at 1 and keeps its state at an unknown edge
-- where d is that state, and a latch that is open while ck is 0.
abbrev pub dff : Primitive
dff = record { sequential = true; inputs = 2; rows = edge_rows; start = X }

abbrev pub dff0 : Primitive
dff0 = record { sequential = true; inputs = 2; rows = edge_rows; start = Zero }

abbrev pub dffp : Primitive
dffp = record { sequential = true; inputs = 2; rows = edge_rows ++ unknown_rows; start = One }

-- 0 0 : ? : 0; 1 0 : ? : 1; ? 1 : ? : -
abbrev pub level_rows : List RawRow
level_rows = row (letters 48 48) 48 ∷ row (letters 49 48) 49 ∷ row (letters 63 49) 45 ∷ []

abbrev pub latch : Primitive
latch = record { sequential = true; inputs = 2; rows = level_rows; start = X }

-- The job of a register of a primitive, with its clock pin and clocks, the value of d, those of ck by moment, and the
-- start.
abbrev pub latching : Primitive → Pin → ℕ → Latching
latching primitive clock clocks =
    record { udp = 0; pins = Net 0 ∷ clock ∷ []; clocks = clocks; start = primitive.start }

abbrev pub drivers : Primitive → Pin → ℕ → ℕ → Driver
drivers primitive clock clocks net =
    if net == 2 then Register (latching primitive clock clocks) else Input

abbrev pub registered : Primitive → Pin → ℕ → StartRule → ℕ → Value → List Value → Job
registered primitive clock clocks start rounds input ck = record {
  width = 3;
  driver = drivers primitive clock clocks;
  udps = primitive ∷ [];
  order = 0 ∷ 1 ∷ 2 ∷ [];
  rounds = rounds;
  moments = length ck;
  recorded = λ moment net. if net == 0 then input else slice_index_or ck moment X;
  start_rule = start;
  levels = Change;
  start = λ net. primitive.start;
}

abbrev pub clocked : Primitive → StartRule → ℕ → List Value → Job
clocked primitive start rounds ck = registered primitive (Net 1) 2 start rounds One ck

-- With one round a moment, ck 0, 1 and 1. d is 1 at each step. At step 1 the clock falls from x to 0, which keeps the
-- state, and at step 2 the edge has come.
abbrev pub rising : List Value
rising = Zero ∷ One ∷ One ∷ []

abbrev pub rising_values : Value → Value → Value → List Value
rising_values first second third = One ∷ Zero ∷ first ∷ One ∷ One ∷ second ∷ One ∷ One ∷ third ∷ []

abbrev pub rising_classes : ClassByNumber → ClassByNumber → ClassByNumber → List ClassByNumber
rising_classes first second third =
    Local true ∷ Local false ∷ first ∷ Local true ∷ Local true ∷ second ∷ Local true ∷ Local true ∷ third ∷ []

-- a start that is x stays free until the edge
abbrev pub DffRises : Type 0
DffRises = AreClasses (clocked dff Cold 1 rising) (rising_values X X One)
    (rising_classes Free Free (Local true))

abbrev pub Dff0Rises : Type 0
Dff0Rises = AreClasses (clocked dff0 Cold 1 rising) (rising_values Zero Zero One)
    (rising_classes (Local false) (Local false) (Local true))

-- the latch is open at step 1, where its pins come from x
abbrev pub LatchOpens : Type 0
LatchOpens = AreClasses (registered latch (Net 1) 0 Cold 1 One rising) (rising_values X One One)
    (rising_classes Free (Local true) (Local true))

-- d is x: the latch carries it
abbrev pub LatchCarries : Type 0
LatchCarries = AreClasses (registered latch (Net 1) 0 Cold 1 X rising) (X ∷ Zero ∷ X ∷ X ∷ One ∷ X ∷ [])
    (Free ∷ Local false ∷ Free ∷ Free ∷ Local true ∷ Carried 0 false ∷ [])

-- ck 0 and then x: an uncertain clock at step 2
abbrev pub unknown_values : Value → Value → Value → List Value
unknown_values first second third = One ∷ Zero ∷ first ∷ One ∷ X ∷ second ∷ One ∷ X ∷ third ∷ []

abbrev pub unknown_classes : ClassByNumber → ClassByNumber → ClassByNumber → List ClassByNumber
unknown_classes first second third =
    Local true ∷ Local false ∷ first ∷ Local true ∷ Free ∷ second ∷ Local true ∷ Free ∷ third ∷ []

-- the register begins anew,
abbrev pub Dff0Unknown : Type 0
Dff0Unknown = AreClasses (clocked dff0 Cold 1 (Zero ∷ X ∷ X ∷ [])) (unknown_values Zero Zero X)
    (unknown_classes (Local false) (Local false) Free)

-- but for the one whose table keeps the state there
abbrev pub DffpUnknown : Type 0
DffpUnknown = AreClasses (clocked dffp Cold 1 (Zero ∷ X ∷ X ∷ [])) (unknown_values One One One)
    (unknown_classes (Local true) (Local true) (Local true))

-- At step 1 it has no argument places: it goes by the certain values.
abbrev pub NoArguments : Job → List Value → ℕ → Value → Type 0
NoArguments j values place value =
    (arguments j (λ k. slice_index_or values k X) place ≡ [])
    × ((bits : ℕ → Bool) → rule j (λ k. slice_index_or values k X) bits place ≡ value)

-- The clock pin is the constant 1. Where registers start cold, it isn't certain before step 0, so the register begins
-- anew at step 1 and keeps that from there on;
abbrev pub constant_classes : ClassByNumber → ClassByNumber → List ClassByNumber
constant_classes second third =
    Local true ∷ Free ∷ Local false ∷ Local true ∷ Free ∷ second ∷ Local true ∷ Free ∷ third ∷ []

abbrev pub constant_values : Value → List Value
constant_values later = One ∷ X ∷ Zero ∷ One ∷ X ∷ later ∷ One ∷ X ∷ later ∷ []

abbrev pub ColdConstant : Type 0
ColdConstant =
    AreClasses (registered dff0 (Bit true) 2 Cold 1 One (X ∷ X ∷ X ∷ [])) (constant_values X)
    (constant_classes Free (Carried 5 false))

abbrev pub ColdConstantRule : Type 0
ColdConstantRule = NoArguments (registered dff0 (Bit true) 2 Cold 1 One (X ∷ X ∷ X ∷ [])) (constant_values X) 5 X

-- where they start as recorded, nothing changes before step 1, and it keeps its start.
abbrev pub RecordedConstant : Type 0
RecordedConstant =
    AreClasses (registered dff0 (Bit true) 2 Recorded 1 One (X ∷ X ∷ X ∷ [])) (constant_values Zero)
    (constant_classes (Local false) (Local false))

-- The start is x, ck is 1: where registers start as recorded, step 1 carries step 0.
abbrev pub RecordedCarries : Type 0
RecordedCarries = AreClasses (clocked dff Recorded 1 (One ∷ One ∷ [])) (One ∷ One ∷ X ∷ One ∷ One ∷ X ∷ [])
    (Local true ∷ Local true ∷ Free ∷ Local true ∷ Local true ∷ Carried 2 false ∷ [])

abbrev pub ColdBegins : Type 0
ColdBegins = AreClasses (clocked dff Cold 1 (One ∷ One ∷ [])) (One ∷ One ∷ X ∷ One ∷ One ∷ X ∷ [])
    (Local true ∷ Local true ∷ Free ∷ Local true ∷ Local true ∷ Free ∷ [])

-- With four rounds a moment, ck 0 and then 1: the edge at step 4 is seen at step 5.
abbrev pub RoundsRise : Type 0
RoundsRise = AreClasses (clocked dff Cold 4 (Zero ∷ One ∷ []))
    (One ∷ Zero ∷ X ∷ One ∷ Zero ∷ X ∷ One ∷ Zero ∷ X ∷ One ∷ Zero ∷ X ∷ One ∷ One ∷ X ∷ One ∷ One ∷ One ∷ [])
    (Local true ∷ Local false ∷ Free ∷ Local true ∷ Local false ∷ Free ∷ Local true ∷ Local false ∷ Carried 5 false
    ∷ Local true ∷ Local false ∷ Carried 8 false ∷ Local true ∷ Local true ∷ Carried 11 false
    ∷ Local true ∷ Local true ∷ Local true ∷ [])

-- The same job with levels that hold registers.
abbrev pub holding : Job → Job
holding j = record j { levels = Hold }

-- A latch that is open from the start, with one round a moment. Where registers start as recorded no pin ever changes,
-- so that it carries its start; with levels that hold it takes the data.
abbrev pub opened : Job
opened = registered latch (Net 1) 0 Recorded 1 One (Zero ∷ Zero ∷ [])

abbrev pub OpenCarries : Type 0
OpenCarries = AreClasses opened (One ∷ Zero ∷ X ∷ One ∷ Zero ∷ X ∷ [])
    (Local true ∷ Local false ∷ Free ∷ Local true ∷ Local false ∷ Carried 2 false ∷ [])

abbrev pub OpenHolds : Type 0
OpenHolds = AreClasses (holding opened) (One ∷ Zero ∷ X ∷ One ∷ Zero ∷ One ∷ [])
    (Local true ∷ Local false ∷ Free ∷ Local true ∷ Local false ∷ Local true ∷ [])

-- A register that is reset while its first pin is 0, and takes 1 at the edge of ck.
-- 0 ? : ? : 0; 1 r : ? : 1; 1 n : ? : -; * ? : ? : -
abbrev pub reset_rows : List RawRow
reset_rows = row (letters 48 63) 48 ∷ row (letters 49 114) 49 ∷ row (letters 49 110) 45 ∷ row (letters 42 63) 45 ∷ []

abbrev pub resettable : Primitive
resettable = record { sequential = true; inputs = 2; rows = reset_rows; start = X }

-- With two rounds a moment, ck x and then 1, and a reset that is x, a new unknown in each moment. The register begins
-- anew at step 3, where ck is uncertain two steps back. Its pins are the same at steps 2 and 3, so that at step 4 it is
-- carried; with levels that hold it is a line there, since the unknown reset may have held it at step 3.
abbrev pub unknown_reset : Job
unknown_reset = registered resettable (Net 1) 2 Cold 2 X (X ∷ One ∷ One ∷ [])

abbrev pub reset_values : List Value
reset_values = X ∷ X ∷ X ∷ X ∷ X ∷ X ∷ X ∷ One ∷ X ∷ X ∷ One ∷ X ∷ X ∷ One ∷ X ∷ []

abbrev pub reset_classes : ClassByNumber → List ClassByNumber
reset_classes last =
    Free ∷ Free ∷ Free ∷ Carried 0 false ∷ Carried 1 false ∷ Free ∷ Free ∷ Local true ∷ Free
    ∷ Carried 6 false ∷ Local true ∷ Free ∷ Free ∷ Local true ∷ last ∷ []

abbrev pub ResetCarries : Type 0
ResetCarries = AreClasses unknown_reset reset_values (reset_classes (Carried 11 false))

abbrev pub ResetHolds : Type 0
ResetHolds = AreClasses (holding unknown_reset) reset_values (reset_classes Line)

-- A scan register over the nets ck, d, si, se, rn and sn, its last pin dead. In place order: these, and q.
abbrev pub scan_row : ℕ → ℕ → ℕ → ℕ → ℕ → ℕ → ℕ → ℕ → RawRow
scan_row ck d si se rn sn nt output =
    row (Single ck ∷ Single d ∷ Single si ∷ Single se ∷ Single rn ∷ Single sn ∷ Single nt ∷ []) output

-- ? ? ? ? 0 ? ? : ? : 0; ? ? ? ? 1 0 ? : ? : 1; r 0 ? 0 1 1 ? : ? : 0; r 1 ? 0 1 1 ? : ? : 1; r ? 0 1 1 1 ? : ? : 0;
-- r ? 1 1 1 1 ? : ? : 1; n ? ? ? 1 1 ? : ? : -; ? * ? ? 1 1 ? : ? : -; ? ? * ? 1 1 ? : ? : -; ? ? ? * 1 1 ? : ? : -;
-- ? ? ? ? r 1 ? : ? : -; ? ? ? ? 1 r ? : ? : -; ? ? ? ? ? ? * : ? : x
abbrev pub scan_rows : List RawRow
scan_rows =
    scan_row 63 63 63 63 48 63 63 48 ∷ scan_row 63 63 63 63 49 48 63 49
    ∷ scan_row 114 48 63 48 49 49 63 48 ∷ scan_row 114 49 63 48 49 49 63 49
    ∷ scan_row 114 63 48 49 49 49 63 48 ∷ scan_row 114 63 49 49 49 49 63 49
    ∷ scan_row 110 63 63 63 49 49 63 45 ∷ scan_row 63 42 63 63 49 49 63 45
    ∷ scan_row 63 63 42 63 49 49 63 45 ∷ scan_row 63 63 63 42 49 49 63 45
    ∷ scan_row 63 63 63 63 114 49 63 45 ∷ scan_row 63 63 63 63 49 114 63 45
    ∷ scan_row 63 63 63 63 63 63 42 120 ∷ []

abbrev pub scan : Primitive
scan = record { sequential = true; inputs = 7; rows = scan_rows; start = X }

abbrev pub scan_pins : List Pin
scan_pins = Net 0 ∷ Net 1 ∷ Net 2 ∷ Net 3 ∷ Net 4 ∷ Net 5 ∷ Dead ∷ []

-- With one round a moment: rn is 0 and then 1, and ck rises at the third moment while d is 1; si is x.
abbrev pub scan_moments : List (List Value)
scan_moments =
    (Zero ∷ One ∷ X ∷ Zero ∷ Zero ∷ One ∷ []) ∷ (Zero ∷ One ∷ X ∷ Zero ∷ One ∷ One ∷ [])
    ∷ (One ∷ One ∷ X ∷ Zero ∷ One ∷ One ∷ []) ∷ []

abbrev pub scan_input : ℕ → ℕ → Value
scan_input moment net = slice_index_or (slice_index_or scan_moments moment []) net X

abbrev pub scanned : Job
scanned = record {
  width = 7;
  driver = λ net. if net == 6 then Register (record { udp = 0; pins = scan_pins; clocks = 1; start = X }) else Input;
  udps = scan ∷ [];
  order = 0 ∷ 1 ∷ 2 ∷ 3 ∷ 4 ∷ 5 ∷ 6 ∷ [];
  rounds = 1;
  moments = 4;
  recorded = scan_input;
  start_rule = Cold;
  levels = Change;
  start = λ net. X;
}

-- What is recorded is certain; q is x at step 0 and 0 at later steps.
abbrev pub scan_certain : ℕ → Value
scan_certain place = if place == 6 then X else if place % 7 == 6 then Zero else scan_input (place / 7) (place % 7)

abbrev pub scan_bits : ℕ → Bool
scan_bits place = is_one (scan_certain place)

-- x at step 0; at step 1 the reset has come, at step 2 its release keeps 0, and at step 3 the edge takes d
abbrev pub ScanSteps : Type 0
ScanSteps = map (rule scanned scan_certain scan_bits) (6 ∷ 13 ∷ 20 ∷ 27 ∷ []) ≡ X ∷ Zero ∷ Zero ∷ One ∷ []

-- so it is free, and then local
abbrev pub ScanResets : Type 0
ScanResets = map (class_by scanned scan_certain (λ place. Line)) (6 ∷ 13 ∷ []) ≡ Free ∷ Local false ∷ []
