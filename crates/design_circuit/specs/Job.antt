-- A design with its order and its stimulus, and its places by number.
use Rattle.std.specs.Prelude.{ℕ, ◌+◌, ◌*◌, ◌/◌, ◌%◌, true, List, [], length, map, slice_index, slice_index_or}
use Rattle.design_cell.specs.declared.value.Value.{Value}
use Rattle.design_cell.specs.declared.value.Value.TheVariants.{X}
use Rattle.design_cell.specs.Table.{Table as Primitive}
use Rattle.design_circuit.specs.Order.{position_of}
use Rattle.design_circuit.specs.declared.design.Driver.{Driver}
use Rattle.design_circuit.specs.declared.design.Driver.TheVariants.{Undriven}
use Rattle.design_circuit.specs.declared.design.Design.{Design}
use Rattle.design_circuit.specs.declared.design.Net.{Net}
use Rattle.design_circuit.specs.declared.place.Place.{Place}
use Rattle.design_circuit.specs.declared.stim.Levels.{Levels}
use Rattle.design_circuit.specs.declared.stim.StartRule.{StartRule}
use Rattle.design_circuit.specs.declared.stim.Stim.{Stim}

-- How many nets there are, the driver of each, the primitives, the order of the nets within a step, the rounds of a
-- moment, the number of moments, the recorded value of an input in a moment, the rule by which registers start, when
-- levels decide them, and the value that each starts with.
pub record Job : Type 0 where
  pub width : ℕ
  pub driver : ℕ → Driver
  pub udps : List Primitive
  pub order : List ℕ
  pub rounds : ℕ
  pub moments : ℕ
  pub recorded : ℕ → ℕ → Value
  pub start_rule : StartRule
  pub levels : Levels
  pub start : ℕ → Value

abbrev pub driver_in : Design → ℕ → Driver
driver_in design net = slice_index_or (map (λ (n : Net). n.driver) design.nets) net Undriven

abbrev pub job_of : Design → List ℕ → Stim → Job
job_of design order stim = record {
  width = length design.nets;
  driver = driver_in design;
  udps = design.udps;
  order = order;
  rounds = stim.rounds;
  moments = length stim.times;
  recorded = λ moment net. slice_index_or (slice_index_or stim.inputs moment []) net X;
  start_rule = stim.rules.start;
  levels = stim.rules.levels;
  start = λ net. slice_index_or stim.starts net X;
}

-- A primitive without rows stands behind the last one.
abbrev pub no_primitive : Primitive
no_primitive = record { sequential = true; inputs = 0; rows = []; start = X }

abbrev pub primitive_of : List Primitive → ℕ → Primitive
primitive_of udps number = slice_index_or udps number no_primitive

-- Places are numbered in place order: by step, and within a step by the order of the nets.
abbrev pub number_of : Job → Place → ℕ
number_of j place = place.step * j.width + position_of j.order place.net

abbrev pub step_of : Job → ℕ → ℕ
step_of j place = place / j.width

abbrev pub net_of : Job → ℕ → ℕ
net_of j place = slice_index j.order (place % j.width)

-- The number of a net's place at a step.
abbrev pub at : Job → ℕ → ℕ → ℕ
at j step net = step * j.width + position_of j.order net

abbrev pub places_of : Job → ℕ
places_of j = j.width * (j.moments * j.rounds)
