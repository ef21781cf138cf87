-- No token is what ends a text.
use Rattle.std.proofs.Common.{◌≡◌, ℕ, Bool, true, false, cond, List, [], ◌∷◌, refl, ap, rules, ◌<◌, ◌≤◌}
use Rattle.std.specs.Str.{bytes_eq}
use Rattle.std.specs.Prelude.{slice_range}
use Rattle.netlist_tokens.specs.Left.{Left, first}
use Rattle.netlist_tokens.specs.declared.token.Token.{Token}
use Rattle.netlist_tokens.specs.declared.token.Kind.{Kind}
use Rattle.netlist_tokens.specs.declared.token.Kind.TheVariants as kind
use Rattle.netlist_grammar.specs.Lexemes.{Lexeme, named, TokenAt, entry_or, keyword_table, name_lexeme, mark_of, first_mark, lexeme_of, token_of, tokens_of}
use Rattle.netlist_reader.specs.Ahead.{is_stop, ahead, LieWithin}
use Rattle.std.proofs.lemmas.List.Elements.{All-rest}

go_on : List (List ℕ × Lexeme) → Bool
go_on [] = true
go_on (e ∷ es) = cond (is_stop e.1) false (go_on es)

chosen : (b : Bool) (x y : Lexeme) → is_stop x ≡ false → is_stop y ≡ false → is_stop (cond b x y) ≡ false
chosen true x y h k = h
chosen false x y h k = k

entry_goes_on : (es : List (List ℕ × Lexeme)) (text : List ℕ) (o : Lexeme) → go_on es ≡ true → is_stop o ≡ false → is_stop (entry_or es text o) ≡ false
unfolding go_on
entry_goes_on [] text o h k = k
entry_goes_on (e ∷ es) text o h k =
    let cases : (s : Bool) → is_stop e.1 ≡ s → cond s false (go_on es) ≡ true → is_stop (cond (bytes_eq text e.0) e.1 (entry_or es text o)) ≡ false =
    λ s. elim s as (λ s. is_stop e.1 ≡ s → cond s false (go_on es) ≡ true → is_stop (cond (bytes_eq text e.0) e.1 (entry_or es text o)) ≡ false) [
      | true ↦ λ p q. cc
      | false ↦ λ p q. chosen (bytes_eq text e.0) e.1 (entry_or es text o) p (entry_goes_on es text o q k)
    ]
    in cases (is_stop e.1) refl h

name_goes_on : (text : List ℕ) → is_stop (name_lexeme text) ≡ false
unfolding name_lexeme go_on
name_goes_on text = entry_goes_on keyword_table text (named text false) refl refl

mark_goes_on : (b : ℕ) → is_stop (mark_of b) ≡ false
mark_goes_on b = search (rules, chosen) depth 20

first_mark_goes_on : (bs : List ℕ) → is_stop (first_mark bs) ≡ false
first_mark_goes_on [] = refl
first_mark_goes_on (b ∷ bs) = mark_goes_on b

lexeme_goes_on : (k : Kind) (bytes : List ℕ) → is_stop (lexeme_of k bytes) ≡ false
lexeme_goes_on kind.Name bytes = name_goes_on bytes
lexeme_goes_on kind.Escaped bytes = refl
lexeme_goes_on kind.Number bytes = refl
lexeme_goes_on kind.Text bytes = refl
lexeme_goes_on kind.Mark bytes = first_mark_goes_on bytes

pub tells_on : (text : List ℕ) (t : Token) (here : TokenAt) (old new : Left) → old ≡ first t new
    → here ≡ token_of text t → tokens_of text old ≡ ahead here (tokens_of text new)
tells_on text t here old new h k = rw (h, k, lexeme_goes_on t.kind (slice_range text t.start t.«end»)) refl

pub rest_within : (size : ℕ) (t : Token) (old new : Left) → old ≡ first t new → LieWithin size old.tokens → LieWithin size new.tokens
rest_within size t old new h k = All-rest (λ (t : Token). (t.start < t.«end») × (t.«end» ≤ size)) t new.tokens old.tokens (ap (λ (l : Left). l.tokens) h) k
