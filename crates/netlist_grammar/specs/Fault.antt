-- What is wrong with a text that is none of the grammar: its place and its words.
use Rattle.std.specs.Prelude.{ℕ, List, Option, Some, None, codes}
use Rattle.netlist_tokens.specs.Left.{place_of, fault_words as token_fault_words}
use Rattle.netlist_grammar.specs.declared.fault.NetlistFault.{NetlistFault}
use Rattle.netlist_grammar.specs.declared.fault.NetlistFault.TheVariants.{Lex, Unexpected, OutOfProfile}
use Rattle.netlist_grammar.specs.declared.refusal.ParseErr.{ParseErr}
use Rattle.netlist_grammar.specs.declared.refusal.ParseErr.TheVariants as refusal

-- the byte that is refused
abbrev pub fault_at : NetlistFault → ℕ
fault_at (Lex fault) = place_of fault
fault_at (Unexpected at) = at
fault_at (OutOfProfile at) = at

-- the words of a refusal, without the place
abbrev pub fault_words : NetlistFault → List ℕ
fault_words (Lex fault) = token_fault_words fault
fault_words (Unexpected at) = codes "unexpected"
fault_words (OutOfProfile at) = codes "out of profile"

-- What is wrong with the text. Want of memory says nothing about it.
abbrev pub fault_in : ParseErr → Option NetlistFault
fault_in (refusal.Lex fault) = Some (Lex fault)
fault_in (refusal.Unexpected at) = Some (Unexpected at)
fault_in (refusal.OutOfProfile at) = Some (OutOfProfile at)
fault_in refusal.Memory = None

-- The refusal that reports it.
abbrev pub refusal_of : NetlistFault → ParseErr
refusal_of (Lex fault) = refusal.Lex fault
refusal_of (Unexpected at) = refusal.Unexpected at
refusal_of (OutOfProfile at) = refusal.OutOfProfile at
