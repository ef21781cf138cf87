-- A token that was read ahead, and what is left after it.
use Rattle.std.specs.Prelude.{ℕ, ◌+◌, ◌<◌, ◌≤◌, ◌^◌, List, [], ◌∷◌, length, All, Bool, true, false, cond}
use Rattle.netlist_tokens.specs.Left.{Left}
use Rattle.netlist_tokens.specs.declared.token.Token.{Token}
use Rattle.netlist_grammar.specs.Lexemes.{Lexeme, ending, broken, TokenAt, TokenStream}

-- what ends a text
abbrev pub is_stop : Lexeme → Bool
is_stop ending = true
is_stop (broken e) = true
is_stop _ = false

abbrev pub ahead : TokenAt → TokenStream → TokenStream
ahead here w =
    cond (is_stop here.what) (record { tokens = []; stop = here }) (record { tokens = here ∷ w.tokens; stop = w.stop })

-- each token has bytes, and lies within a text of that size
abbrev pub LieWithin : ℕ → List Token → Type 0
LieWithin size tokens = All (λ (t : Token). (t.start < t.«end») × (t.«end» ≤ size)) tokens

-- the tokens lie within the text, and they are few
pub record CanRead (size : ℕ) (left : Left) : Type 0 where
  pub within : LieWithin size left.tokens
  pub few : length left.tokens + 1 < 2 ^ 64
