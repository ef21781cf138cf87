-- The lexemes that the code holds.
use Rattle.std.specs.Prelude.{◌≡◌, ℕ, List, [], ◌∷◌, Option, Some, None}
use Rattle.std.specs.Borrow.{Bor}
use Rattle.netlist_grammar.specs.Lexemes as spec
use Rattle.netlist_reader.specs.declared.lexeme.Lexeme.{Lexeme}
use Rattle.netlist_reader.specs.declared.lexeme.Lexeme.TheVariants.{Quoted, Gate, Named, Number, Mark, Quotation}
use Rattle.netlist_reader.specs.declared.lexeme.Lexeme.TheVariants.{Ending, Broken}
use Rattle.netlist_reader.specs.declared.lexeme.TokenAt.{TokenAt}
use Rattle.netlist_reader.specs.declared.lexeme.Name.{Name}
use Rattle.netlist_grammar.specs.declared.tree.Word.{Word}

abbrev pub shown : Lexeme → spec.Lexeme
shown (Quoted f) = spec.quoted f
shown (Gate k) = spec.gate k
shown (Named text escaped) = spec.named text.now escaped
shown (Number text) = spec.number text.now
shown (Mark b) = spec.mark b
shown Quotation = spec.quotation
shown Ending = spec.ending
shown (Broken e) = spec.broken e

abbrev pub shown_token : TokenAt → spec.TokenAt
shown_token t = spec.token_at t.at (shown t.what)

abbrev pub word_of_name : Name → Word
word_of_name n = spec.word_at n.at n.text.now n.escaped

-- the first of some symbols and those after it, or none
abbrev pub AreSymbols : List ℕ → Option (ℕ × Bor (List ℕ)) → Type 0
AreSymbols symbols None = symbols ≡ []
AreSymbols symbols (Some p) = symbols ≡ p.0 ∷ p.1.now

abbrev pub HasSymbols : spec.Lexeme → Option (ℕ × Bor (List ℕ)) → Type 0
HasSymbols what result = AreSymbols (spec.symbols_of what) result
