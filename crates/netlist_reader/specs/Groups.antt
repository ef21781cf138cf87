-- The keywords that the grammar quotes, and those that the profile leaves out, by groups.
use Rattle.std.specs.Prelude.{◌≡◌, ℕ, List, [], ◌∷◌, Bool, Option, Some, None}
use Rattle.std.specs.List.{list_any}
use Rattle.std.specs.Str.{bytes_eq}
use lib.Chars.{codes}
use Rattle.design_cell.specs.declared.gate.Gate.TheVariants.{And, Nand, Or, Nor, Xor, Xnor, Buf, Not}
use Rattle.netlist_grammar.specs.Lexemes.{Lexeme, quoted, gate, entry_or}
use Rattle.netlist_grammar.specs.declared.fixed.Fixed.TheVariants as fixed
use Rattle.netlist_grammar.specs.declared.tree.GateKind.TheVariants.{Logic, Pullup, Pulldown}

abbrev pub head_keywords : List (List ℕ × Lexeme)
head_keywords =
    (codes "module", quoted fixed.Module) ∷ (codes "endmodule", quoted fixed.Endmodule)
    ∷ (codes "input", quoted fixed.Input) ∷ (codes "output", quoted fixed.Output) ∷ []

abbrev pub item_keywords : List (List ℕ × Lexeme)
item_keywords =
    (codes "wire", quoted fixed.Wire) ∷ (codes "tri", quoted fixed.Tri)
    ∷ (codes "supply0", quoted fixed.Supply0) ∷ (codes "supply1", quoted fixed.Supply1)
    ∷ (codes "reg", quoted fixed.Reg) ∷ (codes "assign", quoted fixed.Assign) ∷ []

abbrev pub gate_keywords : List (List ℕ × Lexeme)
gate_keywords =
    (codes "and", gate (Logic And)) ∷ (codes "nand", gate (Logic Nand))
    ∷ (codes "or", gate (Logic Or)) ∷ (codes "nor", gate (Logic Nor))
    ∷ (codes "xor", gate (Logic Xor)) ∷ (codes "xnor", gate (Logic Xnor))
    ∷ (codes "buf", gate (Logic Buf)) ∷ (codes "not", gate (Logic Not))
    ∷ (codes "pullup", gate Pullup) ∷ (codes "pulldown", gate Pulldown) ∷ []

abbrev pub block_keywords : List (List ℕ × Lexeme)
block_keywords =
    (codes "specify", quoted fixed.Specify) ∷ (codes "endspecify", quoted fixed.Endspecify)
    ∷ (codes "primitive", quoted fixed.Primitive) ∷ (codes "endprimitive", quoted fixed.Endprimitive)
    ∷ (codes "table", quoted fixed.Table) ∷ (codes "endtable", quoted fixed.Endtable)
    ∷ (codes "initial", quoted fixed.Initial) ∷ []

-- what a table has at a name
abbrev pub Finds : {X : Type 0} → List (List ℕ × Lexeme) → List ℕ → (X → Lexeme) → Option X → Type 0
Finds table text shows None = (otherwise : Lexeme) → entry_or table text otherwise ≡ otherwise
Finds table text shows (Some x) = (otherwise : Lexeme) → entry_or table text otherwise ≡ shows x

abbrev pub is_among : List (List ℕ) → List ℕ → Bool
is_among keywords text = list_any (λ keyword. bytes_eq text keyword) keywords

abbrev pub general : List (List ℕ)
general = codes "inout" ∷ codes "always" ∷ codes "parameter" ∷ codes "localparam" ∷ codes "defparam" ∷ codes "generate"
    ∷ codes "genvar" ∷ []

abbrev pub behavioral : List (List ℕ)
behavioral = codes "function" ∷ codes "task" ∷ codes "event" ∷ codes "integer" ∷ codes "real" ∷ codes "realtime"
    ∷ codes "time" ∷ []

abbrev pub wired_nets : List (List ℕ)
wired_nets =
    codes "wand" ∷ codes "wor" ∷ codes "triand" ∷ codes "trior" ∷ codes "tri0" ∷ codes "tri1" ∷ codes "trireg" ∷ []

abbrev pub switches : List (List ℕ)
switches =
    codes "bufif0" ∷ codes "bufif1" ∷ codes "notif0" ∷ codes "notif1" ∷ codes "nmos" ∷ codes "pmos" ∷ codes "cmos"
    ∷ codes "rnmos" ∷ codes "rpmos" ∷ codes "rcmos" ∷ []

abbrev pub pass_switches : List (List ℕ)
pass_switches =
    codes "tran" ∷ codes "tranif0" ∷ codes "tranif1" ∷ codes "rtran" ∷ codes "rtranif0" ∷ codes "rtranif1" ∷ []
