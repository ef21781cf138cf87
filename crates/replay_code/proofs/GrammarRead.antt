-- A text says forces exactly where the machine reads it to its end and comes to them.
use Rattle.std.proofs.Common.{◌≡◌, Option, Result, Ok, List, MatchResult, ap, ◌∙◌}
use Rattle.design_circuit.specs.Design.{FitsDesign}
use Rattle.design_circuit.specs.declared.force.Event.{Event}
use Rattle.replay_forces.specs.Changes.{changes_by}
use Rattle.netlist_tokens.specs.Left.{Left}
use Rattle.netlist_tokens.specs.Tokens.{Tokens}
use Rattle.netlist_tokens.specs.declared.token.LexErr.{LexErr}
use Rattle.replay_code.specs.Code.{Code, job}
use Rattle.replay_code.specs.Laws.{GrammarIsRead}
use Rattle.replay_code.specs.Machine.{begun, run}
use Rattle.replay_code.specs.Says.{CodeSays, IsRead, MachineSays, statements_of, stop_of}
use Rattle.replay_code.specs.declared.refusal.CodeErr.{CodeErr}
use Rattle.replay_code.specs.declared.refusal.CodeErr.TheVariants.{Memory}
use Rattle.replay_code.specs.declared.state.State.TheVariants.{Module}
use Rattle.replay_code.proofs.Accepts.{is_code}
use Rattle.replay_code.proofs.Follows.{code_read}
use Rattle.replay_code.proofs.Stops.{no_fault}

-- What the grammar says is read, in any design.
pub machine_says : (c : Code) (forces : List Event) → CodeSays c forces → MachineSays c forces
machine_says c forces says = record {
  left = says.left;
  tokens = says.tokens;
  statements = says.statements;
  read = ap (λ (fault : Option LexErr). run Module (begun c) says.left.tokens (stop_of c.text fault)) says.whole ∙ code_read c says.left.tokens says.statements says.parsed;
  are = says.are;
}

-- What is read the grammar says, where the design fits.
pub code_says : (c : Code) (forces : List Event) → FitsDesign c.design → MachineSays c forces → CodeSays c forces
code_says c forces fits says =
    let is = is_code c says.left.tokens (stop_of c.text says.left.fault) says.statements fits says.read in
    record {
      left = says.left;
      tokens = says.tokens;
      whole = no_fault c.text says.left says.tokens is.whole;
      statements = says.statements;
      parsed = is.parsed;
      are = says.are;
    }

pub grammar_is_read : GrammarIsRead
grammar_is_read c forces fits = (machine_says c forces, code_says c forces fits)

-- The statements that are read make up what the text says.
pub read_says : (c : Code) (statements forces : List Event) → FitsDesign c.design → (left : Left) × Tokens 0 c.text left → ((left : Left) → Tokens 0 c.text left → statements_of c left ≡ Ok statements) → forces ≡ changes_by (job c) statements → CodeSays c forces
read_says c statements forces fits some reads are =
    code_says c forces fits record { left = some.0; tokens = some.1; statements = statements; read = reads some.0 some.1; are = are }

-- What the machine comes to is read, so what the text says is.
abbrev pub IsReadOff : Code → Result (List Event) CodeErr → Type 0
IsReadOff c result = (forces : List Event) → MachineSays c forces → MatchResult result (λ found. found ≡ forces) (λ e. e ≡ Memory)

pub is_read : (c : Code) (result : Result (List Event) CodeErr) → IsReadOff c result → IsRead c result
is_read c result read forces says = read forces (machine_says c forces says)
