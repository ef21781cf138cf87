-- A piece that can't be set: its number, its words, its line, and which refusal is one.
use Rattle.std.specs.Prelude.{ℕ, List, ◌++◌, Option, Some, None, codes, decimal}
use Rattle.report_fix.specs.declared.refusal.FixErr.{FixErr}
use Rattle.report_fix.specs.declared.refusal.FixErr.TheVariants.{Refused, Memory}
use Rattle.report_fix.specs.declared.refusal.StartFault.{StartFault}
use Rattle.report_fix.specs.declared.refusal.StartFault.TheVariants.{NoRegister, Twice, KnownStart}

-- the number of the piece, from 1
abbrev pub number_of : StartFault → ℕ
number_of (NoRegister index) = index
number_of (Twice index) = index
number_of (KnownStart index) = index

-- its words
abbrev pub fault_words : StartFault → List ℕ
fault_words (NoRegister index) = codes "no register"
fault_words (Twice index) = codes "twice"
fault_words (KnownStart index) = codes "known start"

-- `refused: set INDEX: WORD`
abbrev pub words_line : ℕ → List ℕ → List ℕ
words_line index words = codes "refused: set " ++ (decimal index ++ (codes ": " ++ words))

abbrev pub start_line : StartFault → List ℕ
start_line fault = words_line (number_of fault) (fault_words fault)

-- Each refusal but out of memory is a piece that can't be set.
abbrev pub fault_in : FixErr → Option StartFault
fault_in (Refused fault) = Some fault
fault_in Memory = None
