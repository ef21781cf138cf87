-- The phases of the program: the files are read and joined, stubs are put in place of the modules that are named, what
-- the top needs of this is found, and it is written.
use Rattle.std.specs.Prelude.{◌≡◌, ℕ, List, [], ◌∷◌, Result, Ok}
use Rattle.base_run.specs.Phases.{Answer, Phases, reads, judges, ◌>>=◌}
use Rattle.netlist_trim.specs.Trims.{TrimComes}
use Rattle.netlist_stub.specs.Stubs.{StubComes}
use Rattle.netlist_stub.specs.declared.fault.StubFault.{StubFault}
use Rattle.cmd_trim.specs.Words.{TrimValues}
use Rattle.cmd_trim.specs.declared.cause.Refused.{Refused}
use Rattle.cmd_trim.specs.declared.cause.Refused.TheVariants.{Long, Stub, Text}

-- The most bytes of the joined text: 2^30.
abbrev pub text_limit : ℕ
text_limit = 1073741824

-- One file, and nothing printed.
abbrev pub trim_answer : TrimValues → List ℕ → Answer
trim_answer w out = record { files = record { name = w.to; bytes = out } ∷ []; printed = [] }

-- What a text comes to by the stubs of these modules: where none is named, to itself.
abbrev pub StubsCome : List (List ℕ) → List (List ℕ) → List ℕ → Result (List ℕ) StubFault → Type 0
StubsCome [] supplies text outcome = outcome ≡ Ok text
StubsCome (name ∷ names) supplies text outcome = StubComes text (name ∷ names) supplies outcome

abbrev pub kept_phases : TrimValues → List ℕ → Phases Answer Refused
kept_phases w text = do
  out ← judges (TrimComes text w.top) Text
  Phases.Finds (trim_answer w out)

abbrev pub text_phases : TrimValues → List ℕ → Phases Answer Refused
text_phases w text = do
  stubbed ← judges (StubsCome w.stubs w.supplies text) Stub
  kept_phases w stubbed

abbrev pub trim_phases : TrimValues → Phases Answer Refused
trim_phases w = do
  text ← reads w.files text_limit Long
  text_phases w text
