-- A code's fault: its place, its words, its line, and which refusal is one.
use Rattle.std.specs.Prelude.{ℕ, List, ◌++◌, Option, Some, None, codes, decimal}
use Rattle.replay_code.specs.declared.fault.CodeFault.{CodeFault}
use Rattle.replay_code.specs.declared.fault.CodeFault.TheVariants.{Syntax, NoNet, NoMoment, RoundPast, ReleaseUnforced}
use Rattle.replay_code.specs.declared.refusal.CodeErr.{CodeErr}
use Rattle.replay_code.specs.declared.refusal.CodeErr.TheVariants.{Refused, Memory}

-- the byte that is refused
abbrev pub fault_at : CodeFault → ℕ
fault_at (Syntax at) = at
fault_at (NoNet at) = at
fault_at (NoMoment at) = at
fault_at (RoundPast at) = at
fault_at (ReleaseUnforced at) = at

-- its words
abbrev pub fault_words : CodeFault → List ℕ
fault_words (Syntax at) = codes "syntax"
fault_words (NoNet at) = codes "no net"
fault_words (NoMoment at) = codes "no moment"
fault_words (RoundPast at) = codes "round past"
fault_words (ReleaseUnforced at) = codes "release unforced"

-- a byte and what is wrong there
abbrev pub fault_text : ℕ → List ℕ → List ℕ
fault_text at words = decimal at ++ (codes ": " ++ words)

-- `refused: code at AT: WORD`
abbrev pub code_line : CodeFault → List ℕ
code_line fault = codes "refused: code at " ++ fault_text (fault_at fault) (fault_words fault)

-- Each refusal but out of memory is a fault of the code.
abbrev pub fault_in : CodeErr → Option CodeFault
fault_in (Refused fault) = Some fault
fault_in Memory = None
