-- A token that is taken, and what is left after it.
use Rattle.std.proofs.Common.{◌≡◌, ℕ, ◌<◌, ◌≤◌, List, ◌∷◌, map, refl, ap}
use Rattle.std.proofs.lemmas.List.Elements.{All-rest}
use Rattle.netlist_tokens.specs.Left.{Left, first}
use Rattle.netlist_tokens.specs.declared.token.Token.{Token}
use Rattle.netlist_trim.specs.Shown.{LieWithin, Shown, shown}

pub rest_within : (size : ℕ) (t : Token) (old new : Left) → old ≡ first t new → LieWithin size old.tokens
    → LieWithin size new.tokens
rest_within size t old new h k =
    All-rest (λ (t : Token). (t.start < t.«end») × (t.«end» ≤ size)) t new.tokens old.tokens (ap (λ (l : Left). l.tokens) h) k

pub front_is : (text : List ℕ) (t : Token) (s : Shown) (old new : Left) → old ≡ first t new → s ≡ shown text t
    → map (shown text) old.tokens ≡ s ∷ map (shown text) new.tokens
front_is text t s old new h k = rw (h, k) refl
