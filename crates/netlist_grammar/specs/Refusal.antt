-- Where a text leaves the grammar.
use Rattle.std.specs.Prelude.{◌≡◌, List, [], ◌∷◌, ◌++◌, true}
use Rattle.netlist_grammar.specs.Lexemes.{TokenAt, ending, is_left_out, head_of, fault_of}
use Rattle.netlist_grammar.specs.Rules.{quote}
use Rattle.netlist_grammar.specs.Text.{Text}
use Rattle.netlist_grammar.specs.declared.fixed.Fixed.TheVariants as fixed
use Rattle.netlist_grammar.specs.declared.refusal.ParseErr.{ParseErr}
use Rattle.netlist_grammar.specs.declared.refusal.ParseErr.TheVariants.{OutOfProfile}
use Rattle.netlist_grammar.specs.declared.tree.Source.{Source}

-- Tokens are viable where some text of the grammar begins with them.
pub record IsViable (front : List TokenAt) : Type 0 where
  pub more : List TokenAt
  pub tree : Source
  pub parsed : Text (front ++ more) tree

-- no text of the grammar goes on with what stands here
abbrev pub MayNotFollow : List TokenAt → List TokenAt → TokenAt → Type 0
MayNotFollow front [] stop = stop.what ≡ ending → (tree : Source) → Text front tree → ⊥
MayNotFollow front (t ∷ ts) stop = IsViable (front ++ t ∷ []) → ⊥

-- An item may begin here where its module may end here.
abbrev pub MayBeginItem : List TokenAt → Type 0
MayBeginItem front = IsViable (front ++ quote 0 fixed.Endmodule ∷ [])

-- At the start of an item, a keyword that begins one which the profile leaves out is refused as such.
pub record IsLeftOut (front : List TokenAt) (t : TokenAt) : Type 0 where
  pub begins : MayBeginItem front
  pub keyword : is_left_out t.what ≡ true

-- why a token is refused after these
pub record IsFault (front : List TokenAt) (t : TokenAt) (e : ParseErr) : Type 0 where
  pub left_out : IsLeftOut front t → e ≡ OutOfProfile t.at
  pub other : (IsLeftOut front t → ⊥) → e ≡ fault_of t

-- e is the refusal at the first token that no text of the grammar continues with
pub record RefusesFirst (tokens : List TokenAt) (stop : TokenAt) (e : ParseErr) : Type 0 where
  pub front : List TokenAt
  pub rest : List TokenAt
  pub split : tokens ≡ front ++ rest
  pub viable : IsViable front
  pub stuck : MayNotFollow front rest stop
  pub is : IsFault front (head_of rest stop) e
