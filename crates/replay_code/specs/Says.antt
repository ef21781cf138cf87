-- What a code text says, and its first fault.
use Rattle.std.specs.Prelude.{◌≡◌, ℕ, Option, None, Some, Result, Ok, Err, List, [], ◌∷◌, ◌++◌, MatchResult, length}
use Rattle.design_circuit.specs.declared.force.Event.{Event}
use Rattle.replay_forces.specs.Changes.{changes_by}
use Rattle.netlist_tokens.specs.Left.{Left, place_of}
use Rattle.netlist_tokens.specs.Tokens.{Tokens}
use Rattle.netlist_tokens.specs.declared.token.LexErr.{LexErr}
use Rattle.netlist_tokens.specs.declared.token.Token.{Token}
use Rattle.replay_code.specs.Code.{Code, job}
use Rattle.replay_code.specs.Grammar.{IsCode}
use Rattle.replay_code.specs.Machine.{Next, begun, finish, run, step}
use Rattle.replay_code.specs.declared.fault.CodeFault.{CodeFault}
use Rattle.replay_code.specs.declared.refusal.CodeErr.{CodeErr}
use Rattle.replay_code.specs.declared.refusal.CodeErr.TheVariants.{Memory}
use Rattle.replay_code.specs.declared.state.State.TheVariants.{Module}

-- The text says these forces: its tokens have no fault and are code, and the forces are the changes that its statements
-- make.
pub record CodeSays (code : Code) (forces : List Event) : Type 0 where
  pub left : Left
  pub tokens : Tokens 0 code.text left
  pub whole : left.fault ≡ None
  pub statements : List Event
  pub parsed : IsCode code left.tokens statements
  pub are : forces ≡ changes_by (job code) statements

-- A text that says forces is read, or refused only when out of memory.
abbrev pub IsRead : Code → Result (List Event) CodeErr → Type 0
IsRead code result = (forces : List Event) → CodeSays code forces
    → MatchResult result (λ found. found ≡ forces) (λ e. e ≡ Memory)

-- Where the tokens of a text end: at its first fault, or its end.
abbrev pub stop_of : List ℕ → Option LexErr → ℕ
stop_of text None = length text
stop_of text (Some fault) = place_of fault

-- what the machine comes to by the tokens of a text
abbrev pub statements_of : Code → Left → Result (List Event) CodeFault
statements_of code left = run Module (begun code) left.tokens (stop_of code.text left.fault)

-- The machine reads the tokens of the text to its end, and these forces are the changes that its statements make.
pub record MachineSays (code : Code) (forces : List Event) : Type 0 where
  pub left : Left
  pub tokens : Tokens 0 code.text left
  pub statements : List Event
  pub read : statements_of code left ≡ Ok statements
  pub are : forces ≡ changes_by (job code) statements

abbrev pub reach_on : Result Next CodeFault → (Next → Result Next CodeFault) → Result Next CodeFault
reach_on (Ok n) go = go n
reach_on (Err fault) go = Err fault

-- Where tokens lead to, if none of them is refused.
abbrev pub reach : Next → List Token → Result Next CodeFault
reach n [] = Ok n
reach n (t ∷ ts) = reach_on (step n.state n.progress t) (λ m. reach m ts)

-- The token that stands there, or the end of the text, is refused with this fault.
abbrev pub stops : Next → List Token → ℕ → CodeFault → Type 0
stops n [] stop fault = finish n.state n.progress stop ≡ Err fault
stops n (t ∷ ts) stop fault = step n.state n.progress t ≡ Err fault

-- before the first token
abbrev pub beginning : Code → Next
beginning code = record { state = Module; progress = begun code }

-- The tokens before are read without a fault, and what stands there then is refused with this one.
pub record FirstFault (code : Code) (fault : CodeFault) : Type 0 where
  pub left : Left
  pub tokens : Tokens 0 code.text left
  pub front : List Token
  pub rest : List Token
  pub split : left.tokens ≡ front ++ rest
  pub next : Next
  pub reached : reach (beginning code) front ≡ Ok next
  pub stopped : stops next rest (stop_of code.text left.fault) fault
