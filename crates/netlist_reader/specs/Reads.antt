-- What the reader's methods do to the tokens that are left, and what the functions above them do as runs of the
-- machine.
use Rattle.std.specs.Prelude.{Vec, ◌≡◌, ◌≢◌, ℕ, ◌<◌, length, List, [], ◌∷◌, Bool, true, false, Option, Some, None}
use Rattle.std.specs.Prelude.{option_to_list, Result, Ok, Err}
use Rattle.std.specs.Borrow.{Bor}
use Rattle.netlist_grammar.specs.Lexemes.{Lexeme, quoted, named, ending, TokenAt, token_at, TokenStream, is_fixed}
use Rattle.netlist_grammar.specs.Lexemes.{named_word, symbols_of, head, before, fault_of}
use Rattle.std.specs.declared.alloc.Global.{Global}
use Rattle.netlist_grammar.specs.Machine.State.{head_end, primitive_head_end, after_instance}
use Rattle.netlist_grammar.specs.Trees.{Under, under, with_item, instance_of, Within, within}
use Rattle.netlist_grammar.specs.declared.tree.Connections.{Connections}
use Rattle.netlist_grammar.specs.declared.tree.Item.{Item}
use Rattle.netlist_grammar.specs.declared.tree.PrimDeclare.{PrimDeclare}
use Rattle.netlist_grammar.specs.declared.tree.Source.{Source}
use Rattle.netlist_reader.specs.declared.head.Head.{Head}
use Rattle.netlist_reader.specs.declared.primitive.Pins.{Pins}
use Rattle.netlist_grammar.specs.Machine.{State, Next, on_one_byte, on_few_bytes, goes, RefusesNetlist}
use Rattle.netlist_grammar.specs.declared.fixed.Fixed.{Fixed}
use Rattle.netlist_grammar.specs.declared.fixed.Fixed.TheVariants as fixed
use Rattle.netlist_grammar.specs.declared.refusal.ParseErr.{ParseErr}
use Rattle.netlist_grammar.specs.declared.refusal.ParseErr.TheVariants.{Memory}
use Rattle.netlist_grammar.specs.declared.tree.Word.{Word}
use Rattle.netlist_reader.specs.declared.lexeme.Name.{Name}

-- ---- one token

-- the keyword or mark f is taken, or nothing
abbrev pub TakesFixed : Fixed → TokenStream → Bool → TokenStream → Type 0
TakesFixed f old true new = old ≡ before (token_at (head old).at (quoted f)) new
TakesFixed f old false new = (new ≡ old) × (is_fixed f (head old).what ≡ false)

abbrev pub ExpectsFixed : {X : Type 0} → Fixed → TokenStream → Result X ParseErr → TokenStream → Type 0
ExpectsFixed f old (Ok x) new = old ≡ before (token_at (head old).at (quoted f)) new
ExpectsFixed f old (Err e) new = (is_fixed f (head old).what ≡ false) × (e ≡ fault_of (head old))

abbrev pub TakesName : TokenStream → Option Name → TokenStream → Type 0
TakesName old (Some n) new = old ≡ before (token_at n.at (named n.text.now n.escaped)) new
TakesName old None new = (new ≡ old) × (named_word (head old) ≡ None)

abbrev pub ExpectsName : TokenStream → Result Name ParseErr → TokenStream → Type 0
ExpectsName old (Ok n) new = old ≡ before (token_at n.at (named n.text.now n.escaped)) new
ExpectsName old (Err e) new = (named_word (head old) ≡ None) × (e ≡ fault_of (head old))

-- a name is taken, unless memory runs out
abbrev pub ExpectsWord : TokenStream → Result Word ParseErr → TokenStream → Type 0
ExpectsWord old (Ok w) new = old ≡ before (token_at w.at (named w.text w.escaped)) new
ExpectsWord old (Err e) new = e ≢ Memory → (named_word (head old) ≡ None) × (e ≡ fault_of (head old))

-- a token that may be read as a value is taken, or nothing
abbrev pub TakesAs : {X : Type 0} → (TokenAt → Option X) → TokenStream → Option X → TokenStream → Type 0
TakesAs of old (Some x) new = (old ≡ before (head old) new) × (of (head old) ≡ Some x)
TakesAs of old None new = (new ≡ old) × (of (head old) ≡ None)

abbrev pub ExpectsAs : {X : Type 0} → (TokenAt → Option X) → TokenStream → Result X ParseErr → TokenStream → Type 0
ExpectsAs of old (Ok x) new = (old ≡ before (head old) new) × (of (head old) ≡ Some x)
ExpectsAs of old (Err e) new = (of (head old) ≡ None) × (e ≡ fault_of (head old))

-- a list goes on after a comma, or is closed
abbrev pub GoesOn : Fixed → TokenStream → Result Bool ParseErr → TokenStream → Type 0
GoesOn closing old (Ok true) new = old ≡ before (token_at (head old).at (quoted fixed.Comma)) new
GoesOn closing old (Ok false) new = old ≡ before (token_at (head old).at (quoted closing)) new
GoesOn closing old (Err e) new = (is_fixed fixed.Comma (head old).what ≡ false)
    × (is_fixed closing (head old).what ≡ false) × (e ≡ fault_of (head old))

-- the symbols of a token, the first one and those after it
abbrev pub TakesSymbols : TokenStream → Option (ℕ × Bor (List ℕ)) → TokenStream → Type 0
TakesSymbols old (Some p) new = (old ≡ before (head old) new) × (symbols_of (head old).what ≡ p.0 ∷ p.1.now)
TakesSymbols old None new = (new ≡ old) × (symbols_of (head old).what ≡ [])

-- the symbol of a token that has one
abbrev pub TakesSymbol : TokenStream → Option ℕ → TokenStream → Type 0
TakesSymbol old (Some b) new = (old ≡ before (head old) new) × (symbols_of (head old).what ≡ b ∷ [])
TakesSymbol old None new = (new ≡ old) × ((f : ℕ → State) (o : Next) → on_one_byte (symbols_of (head old).what) f o ≡ o)

-- the symbols of a token that has one or two
abbrev pub ExpectsFew : TokenStream → Result (ℕ × Option ℕ) ParseErr → TokenStream → Type 0
ExpectsFew old (Ok p) new = (old ≡ before (head old) new) × (symbols_of (head old).what ≡ p.0 ∷ option_to_list p.1)
ExpectsFew old (Err e) new = ((f : ℕ → State) (g : ℕ → ℕ → State) (o : Next)
    → on_few_bytes (symbols_of (head old).what) f g o ≡ o) × (e ≡ fault_of (head old))

-- any token is taken
abbrev pub Skips : {X : Type 0} → TokenStream → Result X ParseErr → TokenStream → Type 0
Skips old (Ok x) new = old ≡ before (head old) new
Skips old (Err e) new = (old.tokens ≡ []) × (e ≡ fault_of old.stop)

-- nothing is left
abbrev pub Ends : {X : Type 0} → TokenStream → Result X ParseErr → Type 0
Ends w (Ok x) = (w.tokens ≡ []) × (w.stop.what ≡ ending)
Ends w (Err e) = (w.tokens ≡ [] → w.stop.what ≢ ending) × (e ≡ fault_of (head w))

-- ---- runs

-- From a state, what was read leads to the next state.
abbrev pub ReadsTokens : {X : Type 0} → State → TokenStream → Result X ParseErr → (X → State) → TokenStream → Type 0
ReadsTokens s old (Ok x) next new = goes s old ≡ goes (next x) new
ReadsTokens s old (Err e) next new = RefusesNetlist (goes s old) e

-- From a state of a module under way, what was read adds items and leads to the next state, whatever stands before.
abbrev pub ReadsItems : {X : Type 0} → (Under → State) → Vec Item Global → TokenStream → Result X ParseErr
    → (X → Under → State) → Vec Item Global → TokenStream → Type 0
ReadsItems from items old result to more new =
    (b : Source) (n : Word) (ps : List Word) → ReadsTokens (from (under b n ps items.items)) old result
    (λ x. to x (under b n ps more.items)) new

-- The same of a primitive under way and its declarations.
abbrev pub ReadsPins : {X : Type 0} → (Within → State) → Vec PrimDeclare Global → TokenStream → Result X ParseErr
    → (Within → State) → Vec PrimDeclare Global → TokenStream → Type 0
ReadsPins from pins old result to more new =
    (b : Source) (n : Word) (ps : List Word) → ReadsTokens (from (within b n ps pins.items [])) old result
    (λ _. to (within b n ps more.items [])) new

-- From a state after the name of a module, what was read is its head.
abbrev pub ReadsHead : (Source → Word → State) → TokenStream → Result Head ParseErr → TokenStream → Type 0
ReadsHead from old result new = (b : Source) (n : Word)
    → ReadsTokens (from b n) old result (λ h. head_end (under b n h.ports.items h.items.items)) new

-- From a state after the name of a primitive, what was read are its ports and what the port list declares.
abbrev pub ReadsPortList : (Source → Word → State) → TokenStream → Result Pins ParseErr → TokenStream → Type 0
ReadsPortList from old result new =
    (b : Source) (n : Word) → ReadsTokens (from b n) old result
    (λ p. primitive_head_end (within b n p.ports.items p.declarations.items [])) new

-- From a state of an instance under way, what was read are its connections.
abbrev pub ReadsConnections : (Under → Word → Option Word → State) → TokenStream → Result Connections ParseErr
    → TokenStream → Type 0
ReadsConnections from old result new =
    (u : Under) (d : Word) (n : Option Word) → ReadsTokens (from u d n) old result
    (λ cs. after_instance (with_item u (instance_of d n cs)) d) new

abbrev pub Shortens : {X : Type 0} → TokenStream → Result X ParseErr → TokenStream → Type 0
Shortens old (Ok x) new = length new.tokens < length old.tokens
Shortens old (Err e) new = Unit {0}

-- no keyword or mark that begins an item
pub record BeginsNone (what : Lexeme) : Type 0 where
  pub endmodule : is_fixed fixed.Endmodule what ≡ false
  pub paren : is_fixed fixed.Open what ≡ false
  pub input : is_fixed fixed.Input what ≡ false
  pub output : is_fixed fixed.Output what ≡ false
  pub wire : is_fixed fixed.Wire what ≡ false
  pub tri : is_fixed fixed.Tri what ≡ false
  pub supply0 : is_fixed fixed.Supply0 what ≡ false
  pub supply1 : is_fixed fixed.Supply1 what ≡ false
  pub reg : is_fixed fixed.Reg what ≡ false
  pub assign : is_fixed fixed.Assign what ≡ false
  pub specify : is_fixed fixed.Specify what ≡ false

-- no ')', and no direction
abbrev pub BeginsNoPort : Lexeme → Type 0
BeginsNoPort what =
    (is_fixed fixed.Close what ≡ false) × (is_fixed fixed.Input what ≡ false) × (is_fixed fixed.Output what ≡ false)

abbrev pub BeginsNoDirection : Lexeme → Type 0
BeginsNoDirection what = (is_fixed fixed.Input what ≡ false) × (is_fixed fixed.Output what ≡ false)

pub record BeginsNoNet (what : Lexeme) : Type 0 where
  pub wire : is_fixed fixed.Wire what ≡ false
  pub tri : is_fixed fixed.Tri what ≡ false
  pub supply0 : is_fixed fixed.Supply0 what ≡ false
  pub supply1 : is_fixed fixed.Supply1 what ≡ false
