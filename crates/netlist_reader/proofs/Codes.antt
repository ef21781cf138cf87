-- Keywords and marks differ in their codes.
use Rattle.std.proofs.Common.{◌≡◌, List, [], ◌∷◌, refl, ap, sym, ◌∙◌, get_or}
use Rattle.netlist_grammar.specs.Lexemes.{code}
use Rattle.netlist_grammar.specs.declared.fixed.Fixed.{Fixed}
use Rattle.netlist_grammar.specs.declared.fixed.Fixed.TheVariants as fixed

all : List Fixed
all =
    fixed.Module ∷ fixed.Endmodule ∷ fixed.Input ∷ fixed.Output ∷ fixed.Wire ∷ fixed.Tri ∷ fixed.Supply0 ∷ fixed.Supply1 ∷ fixed.Reg ∷ fixed.Assign ∷ fixed.Specify ∷ fixed.Endspecify ∷ fixed.Primitive ∷ fixed.Endprimitive ∷ fixed.Table ∷ fixed.Endtable ∷ fixed.Initial ∷ fixed.Open ∷ fixed.Close ∷ fixed.SquareOpen ∷ fixed.SquareClose ∷ fixed.BraceOpen ∷ fixed.BraceClose ∷ fixed.Comma ∷ fixed.Semi ∷ fixed.Colon ∷ fixed.Equals ∷ fixed.Dot ∷ fixed.Hash ∷ fixed.Star ∷ []

at_code : (f : Fixed) → get_or all (code f) fixed.Module ≡ f
unfolding all
at_code fixed.Module = refl
at_code fixed.Endmodule = refl
at_code fixed.Input = refl
at_code fixed.Output = refl
at_code fixed.Wire = refl
at_code fixed.Tri = refl
at_code fixed.Supply0 = refl
at_code fixed.Supply1 = refl
at_code fixed.Reg = refl
at_code fixed.Assign = refl
at_code fixed.Specify = refl
at_code fixed.Endspecify = refl
at_code fixed.Primitive = refl
at_code fixed.Endprimitive = refl
at_code fixed.Table = refl
at_code fixed.Endtable = refl
at_code fixed.Initial = refl
at_code fixed.Open = refl
at_code fixed.Close = refl
at_code fixed.SquareOpen = refl
at_code fixed.SquareClose = refl
at_code fixed.BraceOpen = refl
at_code fixed.BraceClose = refl
at_code fixed.Comma = refl
at_code fixed.Semi = refl
at_code fixed.Colon = refl
at_code fixed.Equals = refl
at_code fixed.Dot = refl
at_code fixed.Hash = refl
at_code fixed.Star = refl

pub same_code : (f g : Fixed) → code f ≡ code g → f ≡ g
same_code f g h = sym (at_code f) ∙ ap (λ n. get_or all n fixed.Module) h ∙ at_code g
