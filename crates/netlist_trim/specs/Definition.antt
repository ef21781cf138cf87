-- What a text defines: modules and primitives (IEEE 1364-2005, clauses 8.1 and 12.1), by its tokens alone.
use Rattle.std.specs.Prelude.{◌≡◌, ℕ, List, [], ◌∷◌, drop, Bool, true, false, ◌&&◌, ◌||◌, if◌then◌else◌, codes}
use Rattle.std.specs.Prelude.{bytes_eq}
use Rattle.netlist_tokens.specs.declared.token.Kind.{Kind}
use Rattle.netlist_tokens.specs.declared.token.Kind.TheVariants.{Name, Escaped, Number, Text, Mark}
use Rattle.netlist_trim.specs.Shown.{Shown}

-- ---- tokens

-- A token is spelled so.
abbrev pub is : List ℕ → Shown → Bool
is word t = bytes_eq t.bytes word

-- Plain and escaped names.
abbrev pub is_name_kind : Kind → Bool
is_name_kind Name = true
is_name_kind Escaped = true
is_name_kind Number = false
is_name_kind Text = false
is_name_kind Mark = false

-- The name that a token is: its bytes, an escaped one's without the backslash.
abbrev pub name_in : Kind → List ℕ → List ℕ
name_in Name bytes = bytes
name_in Escaped bytes = drop 1 bytes
name_in Number bytes = bytes
name_in Text bytes = bytes
name_in Mark bytes = bytes

abbrev pub is_name : Shown → Bool
is_name t = is_name_kind t.token.kind

abbrev pub spelled_name : Shown → List ℕ
spelled_name t = name_in t.token.kind t.bytes

-- ---- a definition

-- A definition: its name, the bytes from its first to its end, and the names that it mentions.
pub record Defined : Type 0 where
  pub name : List ℕ
  pub start : ℕ
  pub «end» : ℕ
  pub mentions : List (List ℕ)

-- A definition opens with one of these words.
abbrev pub opens : Shown → Bool
opens t = is (codes "module") t || is (codes "macromodule") t || is (codes "primitive") t

-- The word that closes what a token opens.
abbrev pub closing : Shown → List ℕ
closing t = if is (codes "primitive") t then codes "endprimitive" else codes "endmodule"

abbrev pub closes : Shown → Shown → Bool
closes opening t = is (closing opening) t

-- An item, or what stands before the first, ends with these two tokens: with a semicolon, with a specify block, or with
-- the star and the parenthesis of an attribute.
abbrev pub ends_item : Shown → Shown → Bool
ends_item a b = is (codes ";") b || is (codes "endspecify") b || (is (codes "*") a && is (codes ")") b)

-- After two tokens, each name that an item begins with is mentioned.
abbrev pub mentions : Shown → Shown → List Shown → List (List ℕ)
mentions a b [] = []
mentions a b (t ∷ ts) = if ends_item a b && is_name t then spelled_name t ∷ mentions b t ts else mentions b t ts

-- The definition of the word that opens it, its name, what stands within, and the word that closes it.
abbrev pub definition_of : Shown → Shown → List Shown → Shown → Defined
definition_of opening name within close = record {
  name = spelled_name name;
  start = opening.token.start;
  «end» = close.token.«end»;
  mentions = mentions opening name within;
}

-- ---- definitions

-- The tokens from the first on that passes.
abbrev pub from_first : (Shown → Bool) → List Shown → List Shown
from_first p [] = []
from_first p (t ∷ ts) = if p t then t ∷ ts else from_first p ts

-- Those before it.
abbrev pub up_to_first : (Shown → Bool) → List Shown → List Shown
up_to_first p [] = []
up_to_first p (t ∷ ts) = if p t then [] else t ∷ up_to_first p ts

-- Tokens define these, in order. A definition begins at the first word that opens one, its name is the next token, and
-- it goes on to the first word that closes it. What stands between definitions counts for nothing.
pub data Defines : List Shown → List Defined → Type 0 where
  none : {ts : List Shown} → from_first opens ts ≡ [] → Defines ts []
  next : {opening name close : Shown} {ts within rest : List Shown} {ds : List Defined}
      → from_first opens ts ≡ opening ∷ name ∷ within → from_first (closes opening) within ≡ close ∷ rest
      → Defines rest ds → Defines ts (definition_of opening name (up_to_first (closes opening) within) close ∷ ds)

-- Tokens define nothing, since a definition that begins at this byte isn't closed.
pub data Unclosed : List Shown → ℕ → Type 0 where
  unnamed : {opening : Shown} {ts : List Shown} → from_first opens ts ≡ opening ∷ [] → Unclosed ts opening.token.start
  unended : {opening name : Shown} {ts within : List Shown}
      → from_first opens ts ≡ opening ∷ name ∷ within → from_first (closes opening) within ≡ []
      → Unclosed ts opening.token.start
  later : {opening name close : Shown} {ts within rest : List Shown} {at : ℕ}
      → from_first opens ts ≡ opening ∷ name ∷ within → from_first (closes opening) within ≡ close ∷ rest
      → Unclosed rest at → Unclosed ts at
