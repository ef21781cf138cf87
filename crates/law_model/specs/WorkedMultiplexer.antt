-- The multiplexer worked by hand, its data both 1 and its select s unknown: y is `a or b`, a is `d1 and s`, b is `d0
-- and ns`, ns is `not s`. In place order: d0, d1, s, ns, a, b, y.
use Rattle.std.specs.Prelude.{◌≡◌, ℕ, ℤ, pos, negsuc, true, false, List, [], ◌∷◌, slice_index_or}
use Rattle.design_cell.specs.declared.value.Value.{Value}
use Rattle.design_cell.specs.declared.value.Value.TheVariants.{One, X}
use Rattle.design_cell.specs.declared.gate.Gate.TheVariants.{And, Or, Not}
use Rattle.design_circuit.specs.declared.design.Driver.{Driver}
use Rattle.design_circuit.specs.declared.design.Driver.TheVariants.{Input, Undriven, Cell}
use Rattle.design_circuit.specs.declared.design.Table.TheVariants.{Gate}
use Rattle.design_circuit.specs.declared.design.Pin.TheVariants.{Net}
use Rattle.design_circuit.specs.declared.stim.Levels.TheVariants.{Change}
use Rattle.design_circuit.specs.declared.stim.StartRule.TheVariants.{Cold}
use Rattle.design_circuit.specs.Job.{Job}
use Rattle.sat_proof.specs.declared.clause.Cnf.{Cnf}
use Rattle.law_model.specs.Cone.{essentials, cone, sources, denied_value}
use Rattle.law_model.specs.Query.{variables, IsQuery}
use Rattle.law_model.specs.WorkedClasses.{AreClasses}
use Rattle.law_model.specs.declared.class.ClassByNumber.TheVariants.{Local, Free, Carried, Line}

abbrev pub drivers : List Driver
drivers = Input ∷ Input ∷ Input ∷ Cell (Gate Not) (Net 2 ∷ []) ∷ Cell (Gate And) (Net 1 ∷ Net 2 ∷ [])
    ∷ Cell (Gate And) (Net 0 ∷ Net 3 ∷ []) ∷ Cell (Gate Or) (Net 4 ∷ Net 5 ∷ []) ∷ []

abbrev pub mux : Job
mux = record {
  width = 7;
  driver = λ net. slice_index_or drivers net Undriven;
  udps = [];
  order = 0 ∷ 1 ∷ 2 ∷ 3 ∷ 4 ∷ 5 ∷ 6 ∷ [];
  rounds = 1;
  moments = 1;
  recorded = λ moment net. slice_index_or (One ∷ One ∷ X ∷ []) net X;
  start_rule = Cold;
  levels = Change;
  start = λ net. X;
}

abbrev pub certain_data : ℕ → Value
certain_data place = slice_index_or (One ∷ One ∷ []) place X

-- a and b are carried from s, b by way of its complement; y has a line
abbrev pub MuxClasses : Type 0
MuxClasses = AreClasses mux (One ∷ One ∷ X ∷ X ∷ X ∷ X ∷ X ∷ [])
    (Local true ∷ Local true ∷ Free ∷ Carried 2 true ∷ Carried 2 false ∷ Carried 3 false ∷ Line ∷ [])

abbrev pub MuxEssentials : Type 0
MuxEssentials = essentials mux certain_data 6 ≡ 4 ∷ 5 ∷ []

abbrev pub MuxCone : Type 0
MuxCone = cone mux certain_data 6 ≡ 2 ∷ 3 ∷ 4 ∷ 5 ∷ 6 ∷ []

abbrev pub MuxSources : Type 0
MuxSources = sources mux certain_data 6 ≡ 2 ∷ []

-- s is variable 1, y is variable 2
abbrev pub MuxVariables : Type 0
MuxVariables = variables mux certain_data 6 ≡ 2 ∷ 6 ∷ []

-- under the empty filling s is 0 and y is 1
abbrev pub MuxDenied : Type 0
MuxDenied = denied_value mux certain_data 6 ≡ true

-- 'not a, or y', 'not b, or y', and 'not y'. 'a, or b, or not y' is a tautology, since b is the complement of a.
abbrev pub mux_clauses : List (List ℤ)
mux_clauses = (negsuc 0 ∷ pos 2 ∷ []) ∷ (pos 1 ∷ pos 2 ∷ []) ∷ (negsuc 1 ∷ []) ∷ []

-- The query is the formula of these over the two variables.
abbrev pub MuxQuery : Type 0
MuxQuery = (query : Cnf) × (query.vars ≡ 2) × (query.clauses ≡ mux_clauses) × IsQuery mux certain_data 6 query
