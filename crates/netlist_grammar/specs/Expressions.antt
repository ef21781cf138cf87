-- The rules of expressions (IEEE 1364-2005, annex A.8).
use Rattle.std.specs.Prelude.{◌≡◌, ℕ, List, [], ◌∷◌, ◌++◌, Some}
use Rattle.netlist_grammar.specs.Lexemes.{TokenAt}
use Rattle.netlist_grammar.specs.Numbers.{int_of, literal_of}
use Rattle.netlist_grammar.specs.Trees.{whole_part, bit_part, slice_part, literal_part, expr_of}
use Rattle.netlist_grammar.specs.Rules.{quote, name, digits}
use Rattle.netlist_grammar.specs.declared.fixed.Fixed.TheVariants as fixed
use Rattle.netlist_grammar.specs.declared.tree.Word.{Word}
use Rattle.netlist_grammar.specs.declared.tree.Part.{Part}
use Rattle.netlist_grammar.specs.declared.tree.Expr.{Expr}

mutual
  -- The parts of an expression, from left to right:
  -- name  |  name '[' int ']'  |  name '[' int ':' int ']'  |  literal  |  '{' expr { ',' expr } '}'
  pub data Parts : List TokenAt → List TokenAt → List Part → Type 0 where
    whole : {w : Word} {ts : List TokenAt} → Parts (name w ∷ ts) ts (whole_part w ∷ [])
    bit : {p q r n : ℕ} {w : Word} {ds : List ℕ} {ts : List TokenAt} → int_of ds ≡ Some n
        → Parts (name w ∷ quote p fixed.SquareOpen ∷ digits q ds ∷ quote r fixed.SquareClose ∷ ts) ts
        (bit_part w n ∷ [])
    slice : {p q r s t n m : ℕ} {w : Word} {ds es : List ℕ} {ts : List TokenAt} → int_of ds ≡ Some n → int_of es
        ≡ Some m
        → Parts (name w ∷ quote p fixed.SquareOpen ∷ digits q ds ∷ quote r fixed.Colon ∷ digits s es
        ∷ quote t fixed.SquareClose ∷ ts) ts (slice_part w n m ∷ [])
    literal : {p : ℕ} {l : ℕ × ℕ} {ds : List ℕ} {ts : List TokenAt} → literal_of ds ≡ Some l
        → Parts (digits p ds ∷ ts) ts (literal_part p l ∷ [])
    braces : {p q : ℕ} {ts rest : List TokenAt} {ps : List Part} → Flat ts (quote q fixed.BraceClose ∷ rest) ps
        → Parts (quote p fixed.BraceOpen ∷ ts) rest ps

  -- The parts of several: expr { ',' expr }. Braces within braces mean the same as their parts.
  pub data Flat : List TokenAt → List TokenAt → List Part → Type 0 where
    last : {ts rest : List TokenAt} {ps : List Part} → Parts ts rest ps → Flat ts rest ps
    next : {p : ℕ} {ts mid rest : List TokenAt} {ps qs : List Part} → Parts ts (quote p fixed.Comma ∷ mid) ps
        → Flat mid rest qs → Flat ts rest (ps ++ qs)

-- An expression has the byte of its first token and its parts.
pub data Expression : List TokenAt → List TokenAt → Expr → Type 0 where
  expression : {t : TokenAt} {ts rest : List TokenAt} {ps : List Part} → Parts (t ∷ ts) rest ps
      → Expression (t ∷ ts) rest (expr_of t.at ps)
