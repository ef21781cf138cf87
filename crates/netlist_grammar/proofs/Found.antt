-- Which lexeme a test found.
use Rattle.std.proofs.Common.{◌≡◌, ℕ, true, cond, eqb, List, Option, Some, refl, sym, ap, ◌∙◌}
use Rattle.std.proofs.lemmas.Bool.{eqb-true}
use Rattle.netlist_grammar.specs.Lexemes.{Lexeme, quoted, gate, named, number, code, is_fixed, gate_kind_of, name_at, int_at, bit_at, literal_at}
use Rattle.netlist_grammar.specs.Numbers.{int_of, bit_of, literal_of}
use Rattle.design_cell.specs.declared.value.Value.{Value}
use Rattle.netlist_grammar.specs.declared.fixed.Fixed.{Fixed}
use Rattle.netlist_grammar.specs.declared.fixed.Fixed.TheVariants as fixed
use Rattle.netlist_grammar.specs.declared.tree.GateKind.{GateKind}
use Rattle.netlist_grammar.specs.declared.tree.Word.{Word}

decode : ℕ → Fixed
decode n =
    cond (eqb n 0) fixed.Module (cond (eqb n 1) fixed.Endmodule (cond (eqb n 2) fixed.Input (cond (eqb n 3) fixed.Output
    (cond (eqb n 4) fixed.Wire (cond (eqb n 5) fixed.Tri (cond (eqb n 6) fixed.Supply0 (cond (eqb n 7) fixed.Supply1
    (cond (eqb n 8) fixed.Reg (cond (eqb n 9) fixed.Assign (cond (eqb n 10) fixed.Specify (cond (eqb n 11) fixed.Endspecify
    (cond (eqb n 12) fixed.Primitive (cond (eqb n 13) fixed.Endprimitive (cond (eqb n 14) fixed.Table (cond (eqb n 15) fixed.Endtable
    (cond (eqb n 16) fixed.Initial (cond (eqb n 17) fixed.Open (cond (eqb n 18) fixed.Close (cond (eqb n 19) fixed.SquareOpen
    (cond (eqb n 20) fixed.SquareClose (cond (eqb n 21) fixed.BraceOpen (cond (eqb n 22) fixed.BraceClose (cond (eqb n 23) fixed.Comma
    (cond (eqb n 24) fixed.Semi (cond (eqb n 25) fixed.Colon (cond (eqb n 26) fixed.Equals (cond (eqb n 27) fixed.Dot
    (cond (eqb n 28) fixed.Hash fixed.Star))))))))))))))))))))))))))))

decoded : (f : Fixed) → decode (code f) ≡ f
unfolding decode
decoded fixed.Module = refl
decoded fixed.Endmodule = refl
decoded fixed.Input = refl
decoded fixed.Output = refl
decoded fixed.Wire = refl
decoded fixed.Tri = refl
decoded fixed.Supply0 = refl
decoded fixed.Supply1 = refl
decoded fixed.Reg = refl
decoded fixed.Assign = refl
decoded fixed.Specify = refl
decoded fixed.Endspecify = refl
decoded fixed.Primitive = refl
decoded fixed.Endprimitive = refl
decoded fixed.Table = refl
decoded fixed.Endtable = refl
decoded fixed.Initial = refl
decoded fixed.Open = refl
decoded fixed.Close = refl
decoded fixed.SquareOpen = refl
decoded fixed.SquareClose = refl
decoded fixed.BraceOpen = refl
decoded fixed.BraceClose = refl
decoded fixed.Comma = refl
decoded fixed.Semi = refl
decoded fixed.Colon = refl
decoded fixed.Equals = refl
decoded fixed.Dot = refl
decoded fixed.Hash = refl
decoded fixed.Star = refl

pub found_fixed : (f : Fixed) (l : Lexeme) → is_fixed f l ≡ true → quoted f ≡ l
found_fixed f (quoted g) h = ap (λ (x : Fixed). quoted x) (sym (decoded f) ∙ ap decode (eqb-true _ _ h) ∙ decoded g)
found_fixed f _ h = absurd cc

pub found_gate : (l : Lexeme) (k : GateKind) → gate_kind_of l ≡ Some k → gate k ≡ l
found_gate (gate j) k h = cc
found_gate _ k h = absurd cc

pub found_name : (at : ℕ) (l : Lexeme) (w : Word) → name_at at l ≡ Some w → (named w.text w.escaped ≡ l) × (w.at ≡ at)
found_name at (named text escaped) w h = (cc, cc)
found_name at _ w h = absurd cc

-- a number by its digits, with what they are read as
pub record Digits {X : Type 0} (of : List ℕ → Option X) (l : Lexeme) (x : X) : Type 0 where
  pub text : List ℕ
  pub is : number text ≡ l
  pub value : of text ≡ Some x

pub found_int : (l : Lexeme) (n : ℕ) → int_at l ≡ Some n → Digits int_of l n
found_int (number text) n h = record { text = text; is = refl; value = h }
found_int _ n h = absurd cc

pub found_bit : (l : Lexeme) (v : Value) → bit_at l ≡ Some v → Digits bit_of l v
found_bit (number text) v h = record { text = text; is = refl; value = h }
found_bit _ v h = absurd cc

pub found_literal : (l : Lexeme) (x : ℕ × ℕ) → literal_at l ≡ Some x → Digits literal_of l x
found_literal (number text) x h = record { text = text; is = refl; value = h }
found_literal _ x h = absurd cc
