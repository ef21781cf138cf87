-- The tokens of a text (IEEE 1364-2005, clause 3), a rule for each sentence.
use Rattle.std.specs.Prelude.{◌≡◌, ℕ, ◌+◌, List, [], ◌∷◌, Bool, true, false, not, ◌==◌, ◌&&◌, ◌||◌, codes}
use Rattle.std.specs.Str.{bytes_eq}
use Rattle.netlist_tokens.specs.declared.token.Token.{Token}
use Rattle.netlist_tokens.specs.declared.token.Kind.TheVariants.{Name, Escaped, Number, Text, Mark}
use Rattle.netlist_tokens.specs.declared.token.LexErr.{LexErr}
use Rattle.netlist_tokens.specs.declared.token.LexErr.TheVariants.{BadByte, OpenComment, OpenText, Directive}
use Rattle.netlist_tokens.specs.Byte.{quote, star, slash, backslash, backquote, is_white, is_letter, is_digit}
use Rattle.netlist_tokens.specs.Byte.{is_name_byte, is_number_byte, is_printable, is_in_line, begins}
use Rattle.netlist_tokens.specs.Ends.{Longest, Closes, Unquotes, IsName, Nowhere}
use Rattle.netlist_tokens.specs.Left.{Left, token, ended, refused, first}

-- a blank: white space or a comment
pub data Blank : ℕ → List ℕ → ℕ → List ℕ → Type 0 where
  -- a byte of white space
  white : {at b : ℕ} {bs : List ℕ} → is_white b ≡ true → Blank at (b ∷ bs) (at + 1) bs
  -- `//` to the end of the line
  line : {at to : ℕ} {bs rest : List ℕ} → Longest is_in_line (at + 2) bs to rest → Blank at (slash ∷ slash ∷ bs) to rest
  -- `/*` to the first `*/`
  block : {at to : ℕ} {bs rest : List ℕ} → Closes (at + 2) bs to rest → Blank at (slash ∷ star ∷ bs) to rest

-- blanks, then the Name `wire`
pub data Wire : ℕ → List ℕ → ℕ → List ℕ → Type 0 where
  here : {at to : ℕ} {bs rest : List ℕ} → IsName (codes "wire") at bs to rest → Wire at bs to rest
  later : {at mid to : ℕ} {bs more rest : List ℕ} → Blank at bs mid more → Wire mid more to rest → Wire at bs to rest

-- `timescale and `line take the rest of their line
abbrev pub takes_line : List ℕ → Bool
takes_line word = bytes_eq word (codes "timescale") || bytes_eq word (codes "line")

-- `celldefine, `endcelldefine and `resetall stand alone
abbrev pub stands_alone : List ℕ → Bool
stands_alone word =
    bytes_eq word (codes "celldefine") || bytes_eq word (codes "endcelldefine") || bytes_eq word (codes "resetall")

-- any name but these and default_nettype is unknown
abbrev pub is_unknown : List ℕ → Bool
is_unknown word = not (takes_line word || stands_alone word || bytes_eq word (codes "default_nettype"))

-- What stands between tokens. A directive is a backquote and, directly after it, a Name.
pub data Skips : ℕ → List ℕ → ℕ → List ℕ → Type 0 where
  -- a blank
  blank : {at to : ℕ} {bs rest : List ℕ} → Blank at bs to rest → Skips at bs to rest
  -- a directive that takes the rest of its line, whatever its bytes
  line : {at mid to : ℕ} {bs more rest word : List ℕ} → IsName word (at + 1) bs mid more → takes_line word ≡ true
      → Longest is_in_line mid more to rest → Skips at (backquote ∷ bs) to rest
  -- a directive that stands alone
  alone : {at to : ℕ} {bs rest word : List ℕ} → IsName word (at + 1) bs to rest → stands_alone word ≡ true
      → Skips at (backquote ∷ bs) to rest
  -- `default_nettype and its `wire`
  nettype : {at mid to : ℕ} {bs more rest : List ℕ} → IsName (codes "default_nettype") (at + 1) bs mid more
      → Wire mid more to rest → Skips at (backquote ∷ bs) to rest

-- A byte begins more than a Mark: a slash a comment before a slash or a star, a backslash an escaped name before a byte
-- 33 to 126, a backquote a directive before a letter or `_`.
abbrev pub begins_more : ℕ → List ℕ → Bool
begins_more b bs =
    (b == slash) && begins (λ c. (c == slash) || (c == star)) bs || (b == backslash) && begins is_printable bs
    || (b == backquote) && begins is_letter bs

-- a token, and the bytes after it
pub data ReadsToken : ℕ → List ℕ → Token → List ℕ → Type 0 where
  -- a letter or `_`, then letters, digits, `_`, `$`
  name : {at to b : ℕ} {bs rest : List ℕ} → is_letter b ≡ true → Longest is_name_byte (at + 1) bs to rest
      → ReadsToken at (b ∷ bs) (token Name at to) rest
  -- a digit, then digits, letters, `_`, `'`
  number : {at to b : ℕ} {bs rest : List ℕ} → is_digit b ≡ true → Longest is_number_byte (at + 1) bs to rest
      → ReadsToken at (b ∷ bs) (token Number at to) rest
  -- a backslash, then bytes 33 to 126, one at least
  escaped : {at to : ℕ} {bs rest : List ℕ} → begins is_printable bs ≡ true → Longest is_printable (at + 1) bs to rest
      → ReadsToken at (backslash ∷ bs) (token Escaped at to) rest
  -- a `"` to the next on its line that has no backslash directly before it
  text : {at to : ℕ} {bs rest : List ℕ} → Unquotes quote (at + 1) bs to rest
      → ReadsToken at (quote ∷ bs) (token Text at to) rest
  -- any other byte 33 to 126
  mark : {at b : ℕ} {bs : List ℕ} → is_printable b ≡ true → (is_letter b || is_digit b || (b == quote)) ≡ false
      → begins_more b bs ≡ false → ReadsToken at (b ∷ bs) (token Mark at (at + 1)) bs

-- a refusal
pub data RefusesToken : ℕ → List ℕ → LexErr → Type 0 where
  -- a byte that is neither white space nor one of 33 to 126
  bad_byte : {at b : ℕ} {bs : List ℕ} → is_white b ≡ false → is_printable b ≡ false
      → RefusesToken at (b ∷ bs) (BadByte at)
  -- a `/*` that nothing closes
  open_comment : {at : ℕ} {bs : List ℕ} → Nowhere (Closes (at + 2) bs)
      → RefusesToken at (slash ∷ star ∷ bs) (OpenComment at)
  -- a `"` that nothing closes on its line
  open_text : {at : ℕ} {bs : List ℕ} → Nowhere (Unquotes quote (at + 1) bs) → RefusesToken at (quote ∷ bs) (OpenText at)
  -- `default_nettype with no `wire`
  no_wire : {at mid : ℕ} {bs more : List ℕ} → IsName (codes "default_nettype") (at + 1) bs mid more
      → Nowhere (Wire mid more) → RefusesToken at (backquote ∷ bs) (Directive at)
  -- a directive that is unknown
  unknown : {at mid : ℕ} {bs more word : List ℕ} → IsName word (at + 1) bs mid more → is_unknown word ≡ true
      → RefusesToken at (backquote ∷ bs) (Directive at)

-- the bytes from a place on, and all that is told of them
pub data Tokens : ℕ → List ℕ → Left → Type 0 where
  ends : {at : ℕ} → Tokens at [] ended
  skips : {at to : ℕ} {bs rest : List ℕ} {l : Left} → Skips at bs to rest → Tokens to rest l → Tokens at bs l
  reads : {at : ℕ} {bs rest : List ℕ} {t : Token} {l : Left} → ReadsToken at bs t rest → Tokens t.«end» rest l
      → Tokens at bs (first t l)
  refuses : {at : ℕ} {bs : List ℕ} {e : LexErr} → RefusesToken at bs e → Tokens at bs (refused e)
