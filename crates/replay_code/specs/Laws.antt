-- Laws of code: what the grammar says is what the machine reads, and what is written of forces is read as these.
use Rattle.std.specs.Prelude.{◌≡◌, ℕ, true, Result, List, MatchResult}
use Rattle.design_circuit.specs.Parts.{PartsFit}
use Rattle.design_circuit.specs.Design.{FitsDesign}
use Rattle.design_circuit.specs.Job.{job_of}
use Rattle.design_circuit.specs.declared.design.Design.{Design}
use Rattle.design_circuit.specs.declared.force.Event.{Event}
use Rattle.design_circuit.specs.declared.stim.Stim.{Stim}
use Rattle.replay_forces.specs.Changes.{changes_by}
use Rattle.recording_binding.specs.Naming.{Texts}
use Rattle.replay_code.specs.Code.{Code, code, job}
use Rattle.replay_code.specs.Names.{are_writable}
use Rattle.replay_code.specs.Says.{CodeSays, MachineSays}
use Rattle.replay_code.specs.Written.{code_text}
use Rattle.replay_code.specs.declared.refusal.CodeErr.{CodeErr}
use Rattle.replay_code.specs.declared.refusal.CodeErr.TheVariants.{Memory}

-- A text says forces exactly where the machine reads it to its end and comes to them.
abbrev pub GrammarIsRead : Type 0
GrammarIsRead = (c : Code) (forces : List Event) → FitsDesign c.design
    → (CodeSays c forces → MachineSays c forces) × (MachineSays c forces → CodeSays c forces)

-- The text that is written of forces says them, where they are their own changes and the scope's names can be written.
abbrev pub OwnCodeIsRead : Type 0
OwnCodeIsRead = (design : Design) (order : List ℕ) (stim : Stim) (scope : Texts) (forces : List Event)
    → PartsFit design order stim → FitsDesign design → are_writable scope ≡ true
    → forces ≡ changes_by (job_of design order stim) forces
    → CodeSays (code (code_text design stim scope forces) design order stim scope) forces

-- Where a text is that one, the forces are read, or refused only when out of memory.
abbrev pub OwnIsRead : Code → Result (List Event) CodeErr → Type 0
OwnIsRead c result = (forces : List Event) → are_writable c.scope ≡ true → forces ≡ changes_by (job c) forces
    → c.text ≡ code_text c.design c.stim c.scope forces
    → MatchResult result (λ found. found ≡ forces) (λ e. e ≡ Memory)
