-- Classes worked by hand: each kind of class, and each way to be carried, once.
use Rattle.std.specs.Prelude.{◌≡◌, true, false, List, [], ◌∷◌, map, length, slice_index_or}
use Rattle.design_cell.specs.declared.value.Value.{Value}
use Rattle.design_cell.specs.declared.value.Value.TheVariants.{One, X}
use Rattle.design_cell.specs.declared.gate.Gate.TheVariants.{Xor, Not}
use Rattle.design_circuit.specs.declared.design.Driver.{Driver}
use Rattle.design_circuit.specs.declared.design.Driver.TheVariants.{Input, Undriven, Constant, Copy, Cell}
use Rattle.design_circuit.specs.declared.design.Table.TheVariants.{Gate}
use Rattle.design_circuit.specs.declared.design.Pin.TheVariants.{Net}
use Rattle.design_circuit.specs.declared.stim.Levels.TheVariants.{Change}
use Rattle.design_circuit.specs.declared.stim.StartRule.TheVariants.{Cold}
use Rattle.design_circuit.specs.Job.{Job}
use Rattle.law_model.specs.Places.{places_where}
use Rattle.law_model.specs.Class.{class_by, class_in}
use Rattle.law_model.specs.declared.class.ClassByNumber.{ClassByNumber}
use Rattle.law_model.specs.declared.class.ClassByNumber.TheVariants.{Local, Free, Carried, Line}

-- These are the classes of the first places where these are their certain values: each is the first that applies, by
-- those before it.
abbrev pub AreClasses : Job → List Value → List ClassByNumber → Type 0
AreClasses j values classes =
    map (class_by j (λ place. slice_index_or values place X) (class_in classes))
    (places_where (λ place. true) (length classes)) ≡ classes

-- An input s that is x, a copy of it, a net without a driver, the constant 1, the exclusive or of s and that net, and
-- the complement of s, over two rounds.
abbrev pub drivers : List Driver
drivers = Input ∷ Copy 0 ∷ Undriven ∷ Constant true
    ∷ Cell (Gate Xor) (Net 0 ∷ Net 2 ∷ []) ∷ Cell (Gate Not) (Net 0 ∷ []) ∷ []

abbrev pub job : Job
job = record {
  width = 6;
  driver = λ net. slice_index_or drivers net Undriven;
  udps = [];
  order = 0 ∷ 1 ∷ 2 ∷ 3 ∷ 4 ∷ 5 ∷ [];
  rounds = 2;
  moments = 1;
  recorded = λ moment net. X;
  start_rule = Cold;
  levels = Change;
  start = λ net. X;
}

-- At round 0 the input and the net are free, the copy and the complement are carried from the input, the constant is
-- local, and the exclusive or has a line. At round 1 each is carried from the step before, and the constant is local.
abbrev pub EachKind : Type 0
EachKind = AreClasses job (X ∷ X ∷ X ∷ One ∷ X ∷ X ∷ X ∷ X ∷ X ∷ One ∷ X ∷ X ∷ [])
    (Free ∷ Carried 0 false ∷ Free ∷ Local true ∷ Line ∷ Carried 0 true
    ∷ Carried 0 false ∷ Carried 1 false ∷ Carried 2 false ∷ Local true ∷ Carried 4 false ∷ Carried 5 false ∷ [])
