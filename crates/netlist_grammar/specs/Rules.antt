-- What the rules of the grammar are made of. A rule relates the tokens before it, the tokens after it and what it
-- stands for.
use Rattle.std.specs.Prelude.{◌≡◌, ℕ, List, [], ◌∷◌, false, Some, None}
use Rattle.netlist_grammar.specs.Lexemes.{quoted, named, number, TokenAt, token_at, is_fixed}
use Rattle.netlist_grammar.specs.Numbers.{int_of}
use Rattle.netlist_grammar.specs.Trees.{Range}
use Rattle.netlist_grammar.specs.declared.fixed.Fixed.{Fixed}
use Rattle.netlist_grammar.specs.declared.fixed.Fixed.TheVariants as fixed
use Rattle.netlist_grammar.specs.declared.tree.Word.{Word}

abbrev pub quote : ℕ → Fixed → TokenAt
quote at f = token_at at (quoted f)

abbrev pub name : Word → TokenAt
name w = token_at w.at (named w.text w.escaped)

abbrev pub digits : ℕ → List ℕ → TokenAt
digits at text = token_at at (number text)

-- name
pub data OneName : List TokenAt → List TokenAt → Word → Type 0 where
  one : {w : Word} {ts : List TokenAt} → OneName (name w ∷ ts) ts w

-- R { ',' R }
pub data Listed {X : Type 0} (R : List TokenAt → List TokenAt → X → Type 0) : List TokenAt → List TokenAt → List X
    → Type 0 where
  last : {ts rest : List TokenAt} {x : X} → R ts rest x → Listed R ts rest (x ∷ [])
  next : {at : ℕ} {ts mid rest : List TokenAt} {x : X} {xs : List X} → R ts (quote at fixed.Comma ∷ mid) x
      → Listed R mid rest xs → Listed R ts rest (x ∷ xs)

-- tokens up to the first token f, and that token
pub data Until (f : Fixed) : List TokenAt → List TokenAt → Type 0 where
  here : {at : ℕ} {ts : List TokenAt} → Until f (quote at f ∷ ts) ts
  further : {t : TokenAt} {ts rest : List TokenAt} → is_fixed f t.what ≡ false → Until f ts rest → Until f (t ∷ ts) rest

-- tokens up to the first '*' ')', and those two
pub data UntilStar : List TokenAt → List TokenAt → Type 0 where
  here : {p q : ℕ} {ts : List TokenAt} → UntilStar (quote p fixed.Star ∷ quote q fixed.Close ∷ ts) ts
  further : {t : TokenAt} {ts rest : List TokenAt} → is_fixed fixed.Star t.what ≡ false → UntilStar ts rest
      → UntilStar (t ∷ ts) rest
  star : {p : ℕ} {t : TokenAt} {ts rest : List TokenAt} → is_fixed fixed.Close t.what ≡ false → UntilStar (t ∷ ts) rest
      → UntilStar (quote p fixed.Star ∷ t ∷ ts) rest

-- '(' '*' tokens '*' ')'
pub data Attribute : List TokenAt → List TokenAt → Type 0 where
  attribute : {p q : ℕ} {ts rest : List TokenAt} → UntilStar ts rest
      → Attribute (quote p fixed.Open ∷ quote q fixed.Star ∷ ts) rest

-- tokens with parentheses in pairs up to the ')' that is one too many, and that one
pub data Balanced : List TokenAt → List TokenAt → Type 0 where
  here : {p : ℕ} {ts : List TokenAt} → Balanced (quote p fixed.Close ∷ ts) ts
  pair : {p : ℕ} {ts mid rest : List TokenAt} → Balanced ts mid → Balanced mid rest
      → Balanced (quote p fixed.Open ∷ ts) rest
  further : {t : TokenAt} {ts rest : List TokenAt} → is_fixed fixed.Close t.what ≡ false
      → is_fixed fixed.Open t.what ≡ false → Balanced ts rest → Balanced (t ∷ ts) rest

-- '#' int  |  '#' int '.' int  |  '#' '(' tokens ')'
pub data Delay : List TokenAt → List TokenAt → Type 0 where
  whole : {p q n : ℕ} {ds : List ℕ} {ts : List TokenAt} → int_of ds ≡ Some n
      → Delay (quote p fixed.Hash ∷ digits q ds ∷ ts) ts
  fraction : {p q r s n m : ℕ} {ds es : List ℕ} {ts : List TokenAt} → int_of ds ≡ Some n → int_of es ≡ Some m
      → Delay (quote p fixed.Hash ∷ digits q ds ∷ quote r fixed.Dot ∷ digits s es ∷ ts) ts
  tokens : {p q : ℕ} {ts rest : List TokenAt} → Balanced ts rest
      → Delay (quote p fixed.Hash ∷ quote q fixed.Open ∷ ts) rest

-- [ delay ]
pub data MayDelay : List TokenAt → List TokenAt → Type 0 where
  none : {ts : List TokenAt} → MayDelay ts ts
  some : {ts rest : List TokenAt} → Delay ts rest → MayDelay ts rest

-- '[' int ':' int ']'
pub data Bounds : List TokenAt → List TokenAt → ℕ × ℕ → Type 0 where
  bounds : {p q r s t n m : ℕ} {ds es : List ℕ} {ts : List TokenAt} → int_of ds ≡ Some n → int_of es ≡ Some m
      → Bounds (quote p fixed.SquareOpen ∷ digits q ds ∷ quote r fixed.Colon ∷ digits s es ∷ quote t fixed.SquareClose
      ∷ ts) ts (n, m)

-- [ range ]
pub data MayRange : List TokenAt → List TokenAt → Range → Type 0 where
  none : {ts : List TokenAt} → MayRange ts ts None
  some : {ts rest : List TokenAt} {r : ℕ × ℕ} → Bounds ts rest r → MayRange ts rest (Some r)

-- [ 'wire' ] [ range ], where a range that isn't there is this one
pub data WireRange (had : Range) : List TokenAt → List TokenAt → Range → Type 0 where
  plain : {ts : List TokenAt} → WireRange had ts ts had
  range : {ts rest : List TokenAt} {r : ℕ × ℕ} → Bounds ts rest r → WireRange had ts rest (Some r)
  wire : {p : ℕ} {ts : List TokenAt} → WireRange had (quote p fixed.Wire ∷ ts) ts had
  wire_range : {p : ℕ} {ts rest : List TokenAt} {r : ℕ × ℕ} → Bounds ts rest r
      → WireRange had (quote p fixed.Wire ∷ ts) rest (Some r)
