-- Why texts are refused: its status and its words.
use Rattle.std.specs.Prelude.{ℕ, List, ◌++◌, codes, decimal}
use Rattle.netlist_tokens.specs.Left.{fault_words, place_of}
use Rattle.netlist_trim.specs.declared.fault.TrimFault.{TrimFault}
use Rattle.netlist_trim.specs.declared.fault.TrimFault.TheVariants.{Token, Open, NoTop}
use Rattle.netlist_stub.specs.declared.fault.StubFault.{StubFault}
use Rattle.netlist_stub.specs.declared.fault.StubFault.TheVariants as stub
use Rattle.cmd_trim.specs.declared.cause.Refused.{Refused}
use Rattle.cmd_trim.specs.declared.cause.Refused.TheVariants.{Long, Stub, Text}

abbrev pub status_of : Refused → ℕ
status_of Long = 11
status_of (Stub fault) = 5
status_of (Text fault) = 5

-- `refused: netlist at AT: WORD`
abbrev pub placed_text : ℕ → List ℕ → List ℕ
placed_text at words = codes "refused: netlist at " ++ (decimal at ++ (codes ": " ++ words))

abbrev pub fault_text : TrimFault → List ℕ
fault_text (Token fault) = placed_text (place_of fault) (fault_words fault)
fault_text (Open at) = placed_text at (codes "open definition")
fault_text (NoTop name) = codes "refused: netlist: no module " ++ name

abbrev pub stub_fault_text : StubFault → List ℕ
stub_fault_text (stub.Text fault) = fault_text fault
stub_fault_text (stub.Unexpected at) = placed_text at (codes "unexpected")
stub_fault_text (stub.Range at) = placed_text at (codes "unknown range")
stub_fault_text (stub.Supply at) = placed_text at (codes "inout")
stub_fault_text (stub.Undirected at) = placed_text at (codes "no direction")

abbrev pub text_of : Refused → List ℕ
text_of Long = codes "refused: too large netlist"
text_of (Stub fault) = stub_fault_text fault
text_of (Text fault) = fault_text fault
