-- The tokens of a text with their bytes, and what is left of them.
use Rattle.std.specs.Prelude.{◌≡◌, ℕ, ◌<◌, ◌≤◌, List, [], ◌∷◌, map}
use Rattle.std.specs.Prelude.{All, Option, Some, None, Result, Ok, Err, slice_range}
use Rattle.netlist_tokens.specs.Left.{Left}
use Rattle.netlist_tokens.specs.Tokens.{Tokens}
use Rattle.netlist_tokens.specs.declared.token.Token.{Token}
use Rattle.netlist_tokens.specs.declared.token.LexErr.{LexErr}
use Rattle.netlist_trim.specs.declared.spelled.Spelled.{Spelled}

-- a token and its bytes
pub record Shown : Type 0 where
  pub token : Token
  pub bytes : List ℕ

abbrev pub shown : List ℕ → Token → Shown
shown text t = record { token = t; bytes = slice_range text t.start t.«end» }

abbrev pub seen : Spelled → Shown
seen t = record { token = t.token; bytes = t.bytes.now }

-- what is left of a text: tokens in order, then the fault that ends them, or none
pub record Stream : Type 0 where
  pub tokens : List Shown
  pub fault : Option LexErr

abbrev pub stream_of : List ℕ → Left → Stream
stream_of text left = record { tokens = map (shown text) left.tokens; fault = left.fault }

-- The text tells these tokens and this fault, or none.
pub record IsStream (text : List ℕ) (s : Stream) : Type 0 where
  pub left : Left
  pub told : Tokens 0 text left
  pub shown : s ≡ stream_of text left

-- Each token has bytes, and lies within a text of so many.
abbrev pub LieWithin : ℕ → List Token → Type 0
LieWithin n tokens = All (λ t. (t.start < t.«end») × (t.«end» ≤ n)) tokens

-- The next token is taken; or there is none, or a fault.
abbrev pub Takes : Stream → Result (Option Spelled) LexErr → Stream → Type 0
Takes old (Ok (Some t)) new = (old.tokens ≡ seen t ∷ new.tokens) × (new.fault ≡ old.fault)
Takes old (Ok None) new = (old.tokens ≡ []) × (old.fault ≡ None) × (new ≡ old)
Takes old (Err e) new = (old.tokens ≡ []) × (old.fault ≡ Some e)
