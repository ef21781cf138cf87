-- The tokens of a text by calculation: one blank, directive or token after another.
use Rattle.std.specs.Prelude.{◌≡◌, ℕ, zero, suc, ◌+◌, ◌-◌, List, [], ◌∷◌, length, take, Bool, false, not, if◌then◌else◌}
use Rattle.std.specs.Prelude.{◌==◌, ◌&&◌, codes, Option, Some, None}
use Rattle.std.specs.Borrow.{Bor}
use Rattle.std.specs.Str.{bytes_eq}
use Rattle.netlist_tokens.specs.declared.bytes.Class.{Class}
use Rattle.netlist_tokens.specs.declared.bytes.Class.TheVariants as class
use Rattle.netlist_tokens.specs.declared.token.Token.{Token}
use Rattle.netlist_tokens.specs.declared.token.Kind.{Kind}
use Rattle.netlist_tokens.specs.declared.token.Kind.TheVariants.{Name, Escaped, Number, Text, Mark}
use Rattle.netlist_tokens.specs.declared.token.LexErr.{LexErr}
use Rattle.netlist_tokens.specs.declared.token.LexErr.TheVariants.{BadByte, OpenComment, OpenText, Directive}
use Rattle.netlist_tokens.specs.Byte.{newline, quote, star, slash, backslash, backquote, is_white, is_letter, is_digit}
use Rattle.netlist_tokens.specs.Byte.{is_name_byte, is_number_byte, is_printable, is_in_line, begins}
use Rattle.netlist_tokens.specs.Left.{Left, token, ended, refused, first}
use Rattle.netlist_tokens.specs.Tokens.{takes_line, stands_alone}

abbrev pub passes : Class → ℕ → Bool
passes class.Name = is_name_byte
passes class.Number = is_number_byte
passes class.Printable = is_printable
passes class.Line = is_in_line

-- the bytes from a place on
pub record Rest : Type 0 where
  pub at : ℕ
  pub bytes : List ℕ

abbrev pub rest : ℕ → List ℕ → Rest
rest at bs = record { at = at; bytes = bs }

-- a call's answer is this: the bytes after it, and their place
abbrev pub IsBehind : Option Rest → Option (Bor (List ℕ) × ℕ) → Type 0
IsBehind wanted None = wanted ≡ None
IsBehind wanted (Some r) = wanted ≡ Some (rest r.1 r.0.now)

-- after as many bytes as pass
abbrev pub after : (ℕ → Bool) → ℕ → List ℕ → Rest
after p at [] = rest at []
after p at (b ∷ bs) = if p b then after p (at + 1) bs else rest at (b ∷ bs)

-- after the first `*/`, where a star may stand before
abbrev pub after_close : Bool → ℕ → List ℕ → Option Rest
after_close starred at [] = None
after_close starred at (b ∷ bs) =
    if starred && (b == slash) then Some (rest (at + 1) bs) else after_close (b == star) (at + 1) bs

-- after the `"` that closes a text, where a byte stands before
abbrev pub after_quote : ℕ → ℕ → List ℕ → Option Rest
after_quote before at [] = None
after_quote before at (b ∷ bs) =
    if b == newline then None
    else if (b == quote) && not (before == backslash) then Some (rest (at + 1) bs)
    else after_quote b (at + 1) bs

-- after a comment, whose first slash stands before
abbrev pub comment : ℕ → List ℕ → Option Rest
comment at [] = None
comment at (b ∷ bs) =
    if b == slash then Some (after is_in_line (at + 1) bs)
    else if b == star then after_close false (at + 1) bs
    else None

-- after white space or a comment
abbrev pub blank : ℕ → List ℕ → Option Rest
blank at [] = None
blank at (b ∷ bs) =
    if is_white b then Some (rest (at + 1) bs)
    else if b == slash then comment (at + 1) bs
    else None

-- after the Name `wire`
abbrev pub wire_here : ℕ → List ℕ → Option Rest
wire_here at bs =
    let r = after is_name_byte at bs in
    if bytes_eq (take (r.at - at) bs) (codes "wire") then Some r else None

abbrev pub wire_after : Option Rest → Option Rest → (Rest → Option Rest) → Option Rest
wire_after None found go = found
wire_after (Some r) found go = go r

abbrev pub wire_within : ℕ → Rest → Option Rest
wire_within zero r = None
wire_within (suc n) r = wire_after (blank r.at r.bytes) (wire_here r.at r.bytes) (wire_within n)

-- after white space, comments and the Name `wire`
unfoldable pub wire : ℕ → List ℕ → Option Rest
wire at bs = wire_within (suc (length bs)) (rest at bs)

-- after a directive of this name
abbrev pub directive_of : List ℕ → Rest → Option Rest
directive_of word r =
    if takes_line word then Some (after is_in_line r.at r.bytes)
    else if stands_alone word then Some r
    else if bytes_eq word (codes "default_nettype") then wire r.at r.bytes
    else None

-- after a directive, whose backquote stands before
abbrev pub directive : ℕ → List ℕ → Option Rest
directive at bs = let r = after is_name_byte at bs in directive_of (take (r.at - at) bs) r

-- what stands at a place: the end, what is skipped, a token with the bytes after it, or a fault
pub data Step : Type 0 where
  done : Step
  skip : Rest → Step
  tell : Token → List ℕ → Step
  refuse : LexErr → Step

abbrev pub tell_run : Kind → ℕ → Rest → Step
tell_run k at r = tell (token k at r.at) r.bytes

abbrev pub tell_class : Kind → Class → ℕ → List ℕ → Step
tell_class k class at bs = tell_run k at (after (passes class) (at + 1) bs)

abbrev pub skip_or : Option Rest → Step → Step
skip_or (Some r) s = skip r
skip_or None s = s

abbrev pub text_or : ℕ → Option Rest → Step
text_or at (Some r) = tell_run Text at r
text_or at None = refuse (OpenText at)

-- a token, or a fault, that begins with this byte
abbrev pub read : ℕ → ℕ → List ℕ → Step
read at b bs =
    if is_letter b then tell_run Name at (after is_name_byte (at + 1) bs)
    else if is_digit b then tell_run Number at (after is_number_byte (at + 1) bs)
    else if b == quote then text_or at (after_quote quote (at + 1) bs)
    else if (b == slash) && begins (λ c. c == star) bs then refuse (OpenComment at)
    else if (b == backslash) && begins is_printable bs then tell_run Escaped at (after is_printable (at + 1) bs)
    else if is_printable b then tell (token Mark at (at + 1)) bs
    else refuse (BadByte at)

-- a backquote before a letter or `_` stands here
abbrev pub begins_directive : List ℕ → Bool
begins_directive [] = false
begins_directive (b ∷ bs) = (b == backquote) && begins is_letter bs

abbrev pub begin : ℕ → ℕ → List ℕ → Step
begin at b bs =
    if begins_directive (b ∷ bs) then skip_or (directive (at + 1) bs) (refuse (Directive at))
    else read at b bs

abbrev pub step : ℕ → List ℕ → Step
step at [] = done
step at (b ∷ bs) = skip_or (blank at (b ∷ bs)) (begin at b bs)

abbrev pub told_by_step : Step → (Rest → Left) → Left
told_by_step done go = ended
told_by_step (skip r) go = go r
told_by_step (tell t bs) go = first t (go (rest t.«end» bs))
told_by_step (refuse e) go = refused e

abbrev pub scan : ℕ → Rest → Left
scan zero r = ended
scan (suc n) r = told_by_step (step r.at r.bytes) (scan n)

-- all that is told of the bytes from a place on
unfoldable pub left : ℕ → List ℕ → Left
left at bs = scan (length bs) (rest at bs)
