-- The words of a refused certificate, and what a check ends with where a wave doesn't go on.
use Rattle.std.specs.Prelude.{ℕ, List, ◌++◌, codes, decimal}
use Rattle.wave_proved.specs.declared.advance.AdvanceErr.{AdvanceErr}
use Rattle.wave_proved.specs.declared.advance.AdvanceErr.TheVariants as stopped
use Rattle.cert_check.specs.declared.refusal.CertFault.{CertFault}
use Rattle.cert_check.specs.declared.refusal.CertFault.TheVariants.{Syntax, Header, Missing, Stray, BadLog, BadPair}
use Rattle.cert_check.specs.declared.refusal.CertFault.TheVariants.{BadEnum, BadTurn}
use Rattle.cert_check.specs.declared.refusal.CheckErr.{CheckErr}
use Rattle.cert_check.specs.declared.refusal.CheckErr.TheVariants.{Memory, Optimistic}

-- The number of a line, and a word.
abbrev pub line_says : ℕ → List ℕ → List ℕ
line_says line word = codes "certificate line " ++ (decimal line ++ (codes ": " ++ word))

-- Of a place that lacks its line the words stand alone.
abbrev pub fault_text : CertFault → List ℕ
fault_text (Syntax line) = line_says line (codes "syntax")
fault_text (Header line) = line_says line (codes "header")
fault_text (Missing place) = codes "certificate lacks"
fault_text (Stray line) = line_says line (codes "stray")
fault_text (BadLog line) = line_says line (codes "log")
fault_text (BadPair line) = line_says line (codes "pair")
fault_text (BadEnum line) = line_says line (codes "enumeration")
fault_text (BadTurn line) = line_says line (codes "turn")

-- A check ends as the wave does.
abbrev pub stopped_by : AdvanceErr → CheckErr
stopped_by (stopped.Optimistic objection) = Optimistic objection
stopped_by stopped.Memory = Memory
