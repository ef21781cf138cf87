-- The tokens of a text as the grammar tells them apart (IEEE 1364-2005, annex A).
use Rattle.std.specs.Prelude.{ℕ, List, [], ◌∷◌, map, length, drop, Bool, true, false, ◌==◌, if◌then◌else◌, Option, Some}
use Rattle.std.specs.Prelude.{None, slice_range}
use Rattle.std.specs.List.{list_any}
use Rattle.std.specs.Str.{bytes_eq}
use lib.Chars.{codes}
use Rattle.design_cell.specs.declared.gate.Gate.TheVariants.{And, Nand, Or, Nor, Xor, Xnor, Buf, Not}
use Rattle.design_cell.specs.declared.value.Value.{Value}
use Rattle.netlist_tokens.specs.Left.{Left, place_of}
use Rattle.netlist_tokens.specs.declared.token.Token.{Token}
use Rattle.netlist_tokens.specs.declared.token.Kind.{Kind}
use Rattle.netlist_tokens.specs.declared.token.Kind.TheVariants as kind
use Rattle.netlist_tokens.specs.declared.token.LexErr.{LexErr}
use Rattle.netlist_grammar.specs.Numbers.{int_of, bit_of, literal_of}
use Rattle.netlist_grammar.specs.declared.fixed.Fixed.{Fixed}
use Rattle.netlist_grammar.specs.declared.fixed.Fixed.TheVariants as fixed
use Rattle.netlist_grammar.specs.declared.refusal.ParseErr.{ParseErr}
use Rattle.netlist_grammar.specs.declared.refusal.ParseErr.TheVariants.{Lex, Unexpected}
use Rattle.netlist_grammar.specs.declared.tree.GateKind.{GateKind}
use Rattle.netlist_grammar.specs.declared.tree.GateKind.TheVariants.{Logic, Pullup, Pulldown}
use Rattle.netlist_grammar.specs.declared.tree.Word.{Word}

pub data Lexeme : Type 0 where
  -- a keyword or a mark that the grammar quotes
  quoted : Fixed → Lexeme
  -- a keyword that is the kind of a gate
  gate : GateKind → Lexeme
  -- any other name, and whether it is escaped
  named : List ℕ → Bool → Lexeme
  number : List ℕ → Lexeme
  -- any other mark
  mark : ℕ → Lexeme
  -- a text in quotation marks
  quotation : Lexeme
  -- the end of the text
  ending : Lexeme
  -- no token
  broken : LexErr → Lexeme

-- a lexeme, and the byte at which it stands
pub record TokenAt : Type 0 where
  pub at : ℕ
  pub what : Lexeme

abbrev pub token_at : ℕ → Lexeme → TokenAt
token_at at what = record { at = at; what = what }

-- the lexemes of a text, and what stands after the last one: the end of the text, or what is no token
pub record TokenStream : Type 0 where
  pub tokens : List TokenAt
  pub stop : TokenAt

-- ---- the lexeme of a token

-- The keywords that the grammar quotes.
abbrev pub keyword_table : List (List ℕ × Lexeme)
keyword_table =
    (codes "module", quoted fixed.Module) ∷ (codes "endmodule", quoted fixed.Endmodule)
    ∷ (codes "input", quoted fixed.Input) ∷ (codes "output", quoted fixed.Output)
    ∷ (codes "wire", quoted fixed.Wire) ∷ (codes "tri", quoted fixed.Tri)
    ∷ (codes "supply0", quoted fixed.Supply0) ∷ (codes "supply1", quoted fixed.Supply1)
    ∷ (codes "reg", quoted fixed.Reg) ∷ (codes "assign", quoted fixed.Assign)
    ∷ (codes "and", gate (Logic And)) ∷ (codes "nand", gate (Logic Nand))
    ∷ (codes "or", gate (Logic Or)) ∷ (codes "nor", gate (Logic Nor))
    ∷ (codes "xor", gate (Logic Xor)) ∷ (codes "xnor", gate (Logic Xnor))
    ∷ (codes "buf", gate (Logic Buf)) ∷ (codes "not", gate (Logic Not))
    ∷ (codes "pullup", gate Pullup) ∷ (codes "pulldown", gate Pulldown)
    ∷ (codes "specify", quoted fixed.Specify) ∷ (codes "endspecify", quoted fixed.Endspecify)
    ∷ (codes "primitive", quoted fixed.Primitive) ∷ (codes "endprimitive", quoted fixed.Endprimitive)
    ∷ (codes "table", quoted fixed.Table) ∷ (codes "endtable", quoted fixed.Endtable)
    ∷ (codes "initial", quoted fixed.Initial) ∷ []

-- The keywords that begin items which the profile leaves out. `initial`, which the grammar quotes, is one more.
abbrev pub left_out : List (List ℕ)
left_out =
    codes "inout" ∷ codes "always" ∷ codes "parameter" ∷ codes "localparam" ∷ codes "defparam" ∷ codes "generate"
    ∷ codes "genvar"
    ∷ codes "function" ∷ codes "task" ∷ codes "event" ∷ codes "integer" ∷ codes "real" ∷ codes "realtime" ∷ codes "time"
    ∷ codes "wand" ∷ codes "wor" ∷ codes "triand" ∷ codes "trior" ∷ codes "tri0" ∷ codes "tri1" ∷ codes "trireg"
    ∷ codes "bufif0" ∷ codes "bufif1" ∷ codes "notif0" ∷ codes "notif1" ∷ codes "nmos" ∷ codes "pmos" ∷ codes "cmos"
    ∷ codes "rnmos" ∷ codes "rpmos" ∷ codes "rcmos" ∷ codes "tran" ∷ codes "tranif0" ∷ codes "tranif1"
    ∷ codes "rtran" ∷ codes "rtranif0" ∷ codes "rtranif1" ∷ []

-- what a table has at a keyword, or else this
abbrev pub entry_or : List (List ℕ × Lexeme) → List ℕ → Lexeme → Lexeme
entry_or [] text otherwise = otherwise
entry_or (e ∷ es) text otherwise = if bytes_eq text e.0 then e.1 else entry_or es text otherwise

-- A keyword that the grammar quotes is no plain name.
unfoldable pub name_lexeme : List ℕ → Lexeme
name_lexeme text = entry_or keyword_table text (named text false)

-- The marks that the grammar quotes: ( ) [ ] { } , ; : = . # *
abbrev pub mark_of : ℕ → Lexeme
mark_of b =
    if b == 40 then quoted fixed.Open
    else if b == 41 then quoted fixed.Close
    else if b == 91 then quoted fixed.SquareOpen
    else if b == 93 then quoted fixed.SquareClose
    else if b == 123 then quoted fixed.BraceOpen
    else if b == 125 then quoted fixed.BraceClose
    else if b == 44 then quoted fixed.Comma
    else if b == 59 then quoted fixed.Semi
    else if b == 58 then quoted fixed.Colon
    else if b == 61 then quoted fixed.Equals
    else if b == 46 then quoted fixed.Dot
    else if b == 35 then quoted fixed.Hash
    else if b == 42 then quoted fixed.Star
    else mark b

-- the mark of one byte
abbrev pub first_mark : List ℕ → Lexeme
first_mark [] = quotation
first_mark (b ∷ bs) = mark_of b

-- The name of an escaped token is without its backslash.
abbrev pub lexeme_of : Kind → List ℕ → Lexeme
lexeme_of kind.Name text = name_lexeme text
lexeme_of kind.Escaped text = named (drop 1 text) true
lexeme_of kind.Number text = number text
lexeme_of kind.Text text = quotation
lexeme_of kind.Mark text = first_mark text

abbrev pub token_of : List ℕ → Token → TokenAt
token_of text token = token_at token.start (lexeme_of token.kind (slice_range text token.start token.end))

abbrev pub stop_of : ℕ → Option LexErr → TokenAt
stop_of size None = token_at size ending
stop_of size (Some fault) = token_at (place_of fault) (broken fault)

-- the lexemes of the tokens of a text
abbrev pub tokens_of : List ℕ → Left → TokenStream
tokens_of text left = record { tokens = map (token_of text) left.tokens; stop = stop_of (length text) left.fault }

-- ---- what a lexeme may be read as

abbrev pub code : Fixed → ℕ
code fixed.Module = 0
code fixed.Endmodule = 1
code fixed.Input = 2
code fixed.Output = 3
code fixed.Wire = 4
code fixed.Tri = 5
code fixed.Supply0 = 6
code fixed.Supply1 = 7
code fixed.Reg = 8
code fixed.Assign = 9
code fixed.Specify = 10
code fixed.Endspecify = 11
code fixed.Primitive = 12
code fixed.Endprimitive = 13
code fixed.Table = 14
code fixed.Endtable = 15
code fixed.Initial = 16
code fixed.Open = 17
code fixed.Close = 18
code fixed.SquareOpen = 19
code fixed.SquareClose = 20
code fixed.BraceOpen = 21
code fixed.BraceClose = 22
code fixed.Comma = 23
code fixed.Semi = 24
code fixed.Colon = 25
code fixed.Equals = 26
code fixed.Dot = 27
code fixed.Hash = 28
code fixed.Star = 29

abbrev pub is_fixed : Fixed → Lexeme → Bool
is_fixed f (quoted g) = code f == code g
is_fixed f _ = false

abbrev pub gate_kind_of : Lexeme → Option GateKind
gate_kind_of (gate k) = Some k
gate_kind_of _ = None

abbrev pub word_at : ℕ → List ℕ → Bool → Word
word_at at text escaped = record { text = text; escaped = escaped; at = at }

abbrev pub name_at : ℕ → Lexeme → Option Word
name_at at (named text escaped) = Some (word_at at text escaped)
name_at at _ = None

abbrev pub named_word : TokenAt → Option Word
named_word t = name_at t.at t.what

abbrev pub int_at : Lexeme → Option ℕ
int_at (number text) = int_of text
int_at _ = None

abbrev pub bit_at : Lexeme → Option Value
bit_at (number text) = bit_of text
bit_at _ = None

abbrev pub literal_at : Lexeme → Option (ℕ × ℕ)
literal_at (number text) = literal_of text
literal_at _ = None

-- A mark that the grammar quotes is a symbol of a table, but for ( ) : and ;
abbrev pub fixed_symbols : Fixed → List ℕ
fixed_symbols fixed.SquareOpen = 91 ∷ []
fixed_symbols fixed.SquareClose = 93 ∷ []
fixed_symbols fixed.BraceOpen = 123 ∷ []
fixed_symbols fixed.BraceClose = 125 ∷ []
fixed_symbols fixed.Comma = 44 ∷ []
fixed_symbols fixed.Equals = 61 ∷ []
fixed_symbols fixed.Dot = 46 ∷ []
fixed_symbols fixed.Hash = 35 ∷ []
fixed_symbols fixed.Star = 42 ∷ []
fixed_symbols _ = []

-- The symbols of a table that a lexeme has: each byte of a plain name or a number, and a mark. A keyword that the
-- grammar quotes has none.
abbrev pub symbols_of : Lexeme → List ℕ
symbols_of (quoted f) = fixed_symbols f
symbols_of (named text false) = text
symbols_of (number text) = text
symbols_of (mark b) = b ∷ []
symbols_of _ = []

-- a keyword that the profile leaves out
unfoldable pub is_keyword_left_out : List ℕ → Bool
is_keyword_left_out text = list_any (λ keyword. bytes_eq text keyword) left_out

-- Whether an item that begins so is left out by the profile. An escaped name may be spelled like any keyword.
abbrev pub is_left_out : Lexeme → Bool
is_left_out (quoted fixed.Initial) = true
is_left_out (named text false) = is_keyword_left_out text
is_left_out _ = false

-- ---- what stands in front

abbrev pub head_of : List TokenAt → TokenAt → TokenAt
head_of [] stop = stop
head_of (t ∷ ts) stop = t

abbrev pub head : TokenStream → TokenAt
head w = head_of w.tokens w.stop

-- a token stands in front
abbrev pub before : TokenAt → TokenStream → TokenStream
before t w = record { tokens = t ∷ w.tokens; stop = w.stop }

-- ---- refusals

abbrev pub fault_at : Lexeme → ℕ → ParseErr
fault_at (broken e) at = Lex e
fault_at _ at = Unexpected at

abbrev pub fault_of : TokenAt → ParseErr
fault_of t = fault_at t.what t.at
