-- The bytes that a relation goes over stand between its places.
use Rattle.std.proofs.Common.{◌≡◌, ℕ, ◌+◌, List, [], ◌∷◌, ◌++◌, length, Bool, true, ◌&&◌, refl, sym, ap, ◌∙◌, arith, append_assoc, length-append}
use Rattle.std.specs.List.{list_all}
use Rattle.std.proofs.lemmas.Bool.{true≢false}
use Rattle.netlist_tokens.specs.Byte.{quote, star, slash, is_letter, is_name_byte, is_printable, begins}
use Rattle.netlist_tokens.specs.Ends.{Longest, Closes, Unquotes, IsName}
use Rattle.netlist_tokens.specs.Tokens.{Blank, Wire, Skips, ReadsToken}
use Rattle.netlist_tokens.specs.declared.token.Token.{Token}
use Rattle.netlist_tokens.specs.declared.token.Kind.{Kind}
use Rattle.netlist_tokens.specs.declared.token.Kind.TheVariants as kind

pub record Piece (at : ℕ) (bs : List ℕ) (to : ℕ) (rest : List ℕ) : Type 0 where
  pub bytes : List ℕ
  pub is : bs ≡ bytes ++ rest
  pub long : to ≡ at + length bytes

-- one byte more in front
abbrev further : {at to b : ℕ} {bs rest : List ℕ} → Piece (at + 1) bs to rest → Piece at (b ∷ bs) to rest
further {b = b} p = record { bytes = b ∷ p.bytes; is = ap (λ (l : List ℕ). b ∷ l) p.is; long = omega (arith, p.long) }

abbrev joined : {at mid to : ℕ} {bs more rest : List ℕ} → Piece at bs mid more → Piece mid more to rest → Piece at bs to rest
joined {rest = rest} p q = record {
  bytes = p.bytes ++ q.bytes;
  is = p.is ∙ ap (λ (l : List ℕ). p.bytes ++ l) q.is ∙ sym (append_assoc p.bytes q.bytes rest);
  long = omega (arith, p.long, q.long, length-append p.bytes q.bytes);
}

-- the bytes of a run, which all pass
pub record Run (p : ℕ → Bool) (at : ℕ) (bs : List ℕ) (to : ℕ) (rest : List ℕ) : Type 0 where
  pub piece : Piece at bs to rest
  pub all : list_all p piece.bytes ≡ true

pub longest_run : {p : ℕ → Bool} {at to : ℕ} {bs rest : List ℕ} → Longest p at bs to rest → Run p at bs to rest
longest_run Longest.ended = record { piece = record { bytes = []; is = refl; long = omega arith }; all = refl }
longest_run (Longest.stopped h) = record { piece = record { bytes = []; is = refl; long = omega arith }; all = refl }
longest_run (Longest.more h d) = let r = longest_run d in record { piece = further r.piece; all = rw h r.all }

closes_piece : {at to : ℕ} {bs rest : List ℕ} → Closes at bs to rest → Piece at bs to rest
closes_piece Closes.here = record { bytes = star ∷ slash ∷ []; is = refl; long = omega arith }
closes_piece (Closes.later h d) = further (closes_piece d)

unquotes_piece : {before at to : ℕ} {bs rest : List ℕ} → Unquotes before at bs to rest → Piece at bs to rest
unquotes_piece (Unquotes.here h) = record { bytes = quote ∷ []; is = refl; long = omega arith }
unquotes_piece (Unquotes.later h i d) = further (unquotes_piece d)

name_piece : {word : List ℕ} {at to : ℕ} {bs rest : List ℕ} → IsName word at bs to rest → Piece at bs to rest
name_piece n = (longest_run n.longest).piece

abbrev two_further : {at to b c : ℕ} {bs rest : List ℕ} → Piece (at + 2) bs to rest → Piece at (b ∷ c ∷ bs) to rest
two_further {b = b} {c = c} p = record { bytes = b ∷ c ∷ p.bytes; is = ap (λ (l : List ℕ). b ∷ c ∷ l) p.is; long = omega (arith, p.long) }

blank_piece : {at to : ℕ} {bs rest : List ℕ} → Blank at bs to rest → Piece at bs to rest
blank_piece (Blank.white {b = b} h) = record { bytes = b ∷ []; is = refl; long = omega arith }
blank_piece (Blank.line d) = two_further (longest_run d).piece
blank_piece (Blank.block d) = two_further (closes_piece d)

wire_piece : {at to : ℕ} {bs rest : List ℕ} → Wire at bs to rest → Piece at bs to rest
wire_piece (Wire.here n) = name_piece n
wire_piece (Wire.later b w) = joined (blank_piece b) (wire_piece w)

pub skips_piece : {at to : ℕ} {bs rest : List ℕ} → Skips at bs to rest → Piece at bs to rest
skips_piece (Skips.blank b) = blank_piece b
skips_piece (Skips.line n t d) = further (joined (name_piece n) (longest_run d).piece)
skips_piece (Skips.alone n t) = further (name_piece n)
skips_piece (Skips.nettype n w) = further (joined (name_piece n) (wire_piece w))

-- ---- the bytes of a token

-- a letter or `_` with letters, digits, `_` and `$` after it; a backslash and printable bytes
abbrev pub is_spelled : Kind → List ℕ → Bool
is_spelled kind.Name bytes = begins is_letter bytes && list_all is_name_byte bytes
is_spelled kind.Escaped [] = true
is_spelled kind.Escaped (b ∷ bs) = begins is_printable bs && list_all is_printable bs
is_spelled _ bytes = true

pub record Spelled (at : ℕ) (bs : List ℕ) (t : Token) (rest : List ℕ) : Type 0 where
  pub piece : Piece at bs t.«end» rest
  pub spelled : is_spelled t.kind piece.bytes ≡ true

-- A byte that passes is the first of the run.
begins_run : {p : ℕ → Bool} {at to : ℕ} {bs rest : List ℕ} (d : Longest p at bs to rest) → begins p bs ≡ true → (r : Run p at bs to rest) × (begins p r.piece.bytes ≡ true)
begins_run Longest.ended h = absurd cc
begins_run (Longest.stopped fails) h = absurd (true≢false (sym h ∙ fails))
begins_run (Longest.more passes d) h = let r = longest_run d in (record { piece = further r.piece; all = rw passes r.all }, passes)

pub reads_spelled : {at : ℕ} {bs rest : List ℕ} {t : Token} → ReadsToken at bs t rest → Spelled at bs t rest
reads_spelled (ReadsToken.name {b = b} h d) = let r = longest_run d in record { piece = further r.piece; spelled = rw (h, r.all) refl }
reads_spelled (ReadsToken.number h d) = record { piece = further (longest_run d).piece; spelled = refl }
reads_spelled (ReadsToken.escaped h d) = let r = begins_run d h in record { piece = further r.0.piece; spelled = rw (r.1, r.0.all) refl }
reads_spelled (ReadsToken.text d) = record { piece = further (unquotes_piece d); spelled = refl }
reads_spelled (ReadsToken.mark {b = b} h i j) = record { piece = record { bytes = b ∷ []; is = refl; long = omega arith }; spelled = refl }
