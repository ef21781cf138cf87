-- What is left to tell of a text: its tokens in order, then the fault that ends them, or none.
use Rattle.std.specs.Prelude.{◌≡◌, ℕ, ◌≤◌, List, [], ◌∷◌, Option, Some, None, Result, Ok, Err, codes}
use Rattle.netlist_tokens.specs.declared.token.Token.{Token}
use Rattle.netlist_tokens.specs.declared.token.Kind.{Kind}
use Rattle.netlist_tokens.specs.declared.token.LexErr.{LexErr}
use Rattle.netlist_tokens.specs.declared.token.LexErr.TheVariants.{BadByte, OpenComment, OpenText, Directive}

pub record Left : Type 0 where
  pub tokens : List Token
  pub fault : Option LexErr

abbrev pub token : Kind → ℕ → ℕ → Token
token k s e = record { kind = k; start = s; «end» = e }

-- nothing more
abbrev pub ended : Left
ended = record { tokens = []; fault = None }

-- nothing more but the fault
abbrev pub refused : LexErr → Left
refused e = record { tokens = []; fault = Some e }

-- a token, and then the rest
abbrev pub first : Token → Left → Left
first t l = record { tokens = t ∷ l.tokens; fault = l.fault }

-- Tokens ascend: each begins at or after the end of the one before, and the first at or after this place.
abbrev pub Ascend : ℕ → List Token → Type 0
Ascend at [] = Unit {0}
Ascend at (t ∷ ts) = (at ≤ t.start) × Ascend t.«end» ts

-- A token is the first of what was left. The end and a fault are all that is left, and stay so.
abbrev pub Tells : Left → Result (Option Token) LexErr → Left → Type 0
Tells old (Ok (Some t)) new = old ≡ first t new
Tells old (Ok None) new = (old ≡ ended) × (new ≡ old)
Tells old (Err e) new = (old ≡ refused e) × (new ≡ old)

-- the byte that is refused
abbrev pub place_of : LexErr → ℕ
place_of (BadByte at) = at
place_of (OpenComment at) = at
place_of (OpenText at) = at
place_of (Directive at) = at

-- the words of a refusal, without the place
abbrev pub fault_words : LexErr → List ℕ
fault_words (BadByte at) = codes "bad byte"
fault_words (OpenComment at) = codes "open comment"
fault_words (OpenText at) = codes "open text"
fault_words (Directive at) = codes "directive"
