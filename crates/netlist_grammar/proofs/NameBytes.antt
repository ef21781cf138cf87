-- The names of a text are spelled as names, and its numbers are small.
use Rattle.std.proofs.Common.{◌≡◌, ℕ, ◌+◌, ◌-◌, ◌<◌, ◌≤◌, ◌^◌, List, [], ◌∷◌, ◌++◌, take, append_assoc, length-append}
use Rattle.std.proofs.Common.{length, map, Bool, true, false, cond, ◌&&◌, nat_lt, nat_le, if◌then◌else◌, ◌==◌}
use Rattle.std.proofs.Common.{take_while, Option, Some, None, refl, sym, ap, subst, ◌∙◌, arith, rules, drop}
use Rattle.std.specs.Prelude.{slice_range}
use Rattle.std.specs.Str.{bytes_eq}
use Rattle.std.proofs.lemmas.Bool.{and_parts, ltb-true, leb-true}
use Rattle.netlist_tokens.specs.Left.{Left}
use Rattle.netlist_tokens.specs.Tokens.{Tokens}
use Rattle.netlist_tokens.specs.declared.token.Kind.{Kind}
use Rattle.netlist_tokens.specs.declared.token.Kind.TheVariants as kind
use Rattle.netlist_tokens.proofs.Sizes.{reads_goes}
use Rattle.netlist_tokens.proofs.Pieces.{is_spelled, skips_piece, reads_spelled}
use Rattle.netlist_grammar.specs.Bytes.{is_digit, are_digits, number_from}
use Rattle.netlist_grammar.specs.Numbers.{int_of, literal_of, literal_behind, literal_in, base_of, are_spaced_digits, spaced_number}
use Rattle.netlist_grammar.specs.Whole.{is_name, IsIndex, IsLiteral}
use Rattle.std.proofs.Math.Seq.{drop-append_seam, take-append_seam}
use Rattle.netlist_grammar.specs.Lexemes.{Lexeme, named, TokenAt, entry_or, keyword_table, name_lexeme, mark_of, first_mark, lexeme_of, token_of, tokens_of}

-- ---- tokens

-- a name is spelled as one
abbrev pub has_bytes : Lexeme → Bool
has_bytes (named text escaped) = is_name text escaped
has_bytes _ = true

abbrev pub Has : List TokenAt → Type 0
Has [] = Unit {0}
Has (t ∷ ts) = (has_bytes t.what ≡ true) × Has ts

all_have : List (List ℕ × Lexeme) → Bool
all_have [] = true
all_have (e ∷ es) = has_bytes e.1 && all_have es

chosen : (b : Bool) (x y : Lexeme) → has_bytes x ≡ true → has_bytes y ≡ true → has_bytes (cond b x y) ≡ true
chosen true x y h k = h
chosen false x y h k = k

entry_has : (es : List (List ℕ × Lexeme)) (text : List ℕ) (o : Lexeme) → all_have es ≡ true → has_bytes o ≡ true → has_bytes (entry_or es text o) ≡ true
unfolding all_have
entry_has [] text o h k = k
entry_has (e ∷ es) text o h k =
    let both = and_parts (has_bytes e.1) (all_have es) h in
    chosen (bytes_eq text e.0) e.1 (entry_or es text o) both.0 (entry_has es text o both.1 k)

name_has : (text : List ℕ) → is_name text false ≡ true → has_bytes (name_lexeme text) ≡ true
unfolding name_lexeme all_have
name_has text h = entry_has keyword_table text (named text false) refl h

mark_has : (b : ℕ) → has_bytes (mark_of b) ≡ true
mark_has b = search (rules, chosen) depth 20

first_mark_has : (bs : List ℕ) → has_bytes (first_mark bs) ≡ true
first_mark_has [] = refl
first_mark_has (b ∷ bs) = mark_has b

escaped_has : (bytes : List ℕ) → 0 < length bytes → is_spelled kind.Escaped bytes ≡ true → is_name (drop 1 bytes) true ≡ true
escaped_has [] some h = absurd (omega arith)
escaped_has (b ∷ bs) some h = h

lexeme_has : (k : Kind) (bytes : List ℕ) → 0 < length bytes → is_spelled k bytes ≡ true → has_bytes (lexeme_of k bytes) ≡ true
lexeme_has kind.Name bytes some h = name_has bytes h
lexeme_has kind.Escaped bytes some h = escaped_has bytes some h
lexeme_has kind.Number bytes some h = refl
lexeme_has kind.Text bytes some h = refl
lexeme_has kind.Mark bytes some h = first_mark_has bytes

-- what stands in the middle of a text
middle : (before bytes rest : List ℕ) (to : ℕ) → to ≡ length before + length bytes → slice_range (before ++ (bytes ++ rest)) (length before) to ≡ bytes
middle before bytes rest to h =
    let size : to - length before ≡ length bytes = omega (arith, h) in
    ap (λ (l : List ℕ). take (to - length before) l) (drop-append_seam before (bytes ++ rest))
    ∙ ap (λ (n : ℕ). take n (bytes ++ rest)) size ∙ take-append_seam bytes rest

-- the tokens of a text, of which some bytes stand before
tokens_have : (text before : List ℕ) {at : ℕ} {bs : List ℕ} {l : Left} → text ≡ before ++ bs → at ≡ length before
    → Tokens at bs l → Has (map (token_of text) l.tokens)
tokens_have text before h e Tokens.ends = tt
tokens_have text before h e (Tokens.skips {rest = rest} s d) =
    let p = skips_piece s in
    tokens_have text (before ++ p.bytes) (h ∙ ap (λ (l : List ℕ). before ++ l) p.is ∙ sym (append_assoc before p.bytes rest)) (omega (arith, p.long, e, length-append before p.bytes)) d
tokens_have text before h e (Tokens.reads {rest = rest} {t = t} s d) =
    let r = reads_spelled s in
    let g = reads_goes s in
    let p = r.piece in
    let begins : t.start ≡ length before = g.0 ∙ e in
    let split : text ≡ before ++ (p.bytes ++ rest) = h ∙ ap (λ (l : List ℕ). before ++ l) p.is in
    let ends : t.«end» ≡ length before + length p.bytes = omega (arith, p.long, e) in
    let between : slice_range text t.start t.«end» ≡ p.bytes =
    ap (λ (l : List ℕ). slice_range l t.start t.«end») split
    ∙ ap (λ (n : ℕ). slice_range (before ++ (p.bytes ++ rest)) n t.«end») begins
    ∙ middle before p.bytes rest t.«end» ends in
    let some : 0 < length p.bytes = omega (arith, g.1.onward, g.0, p.long) in
    let has : has_bytes (lexeme_of t.kind (slice_range text t.start t.«end»)) ≡ true =
    ap (λ (l : List ℕ). has_bytes (lexeme_of t.kind l)) between ∙ lexeme_has t.kind p.bytes some r.spelled in
    (has, tokens_have text (before ++ p.bytes) (split ∙ sym (append_assoc before p.bytes rest)) (omega (arith, ends, length-append before p.bytes)) d)
tokens_have text before h e (Tokens.refuses s) = tt

pub stream_has : (text : List ℕ) (l : Left) → Tokens 0 text l → Has (tokens_of text l).tokens
stream_has text l d = tokens_have text [] refl refl d

-- ---- numbers

some_is : {X : Type 0} (b : Bool) (x y : X) → (if b then Some x else None) ≡ Some y → (b ≡ true) × (x ≡ y)
some_is true x y h = (refl, cc)
some_is false x y h = absurd cc

pub int_small : (ds : List ℕ) (n : ℕ) → int_of ds ≡ Some n → IsIndex n
unfolding int_of
int_small ds n h =
    let found = some_is (are_digits ds && nat_lt (number_from 10 0 ds) 2147483648) (number_from 10 0 ds) n h in
    let both = and_parts (are_digits ds) (nat_lt (number_from 10 0 ds) 2147483648) found.0 in
    let small = ltb-true (number_from 10 0 ds) 2147483648 both.1 in
    omega (arith, small, found.1)

literal_fits : (size : ℕ) (digits : List ℕ) (base : Option ℕ) (l : ℕ × ℕ) → 1 ≤ size → size ≤ 128 → literal_in size digits base ≡ Some l → IsLiteral l.0 l.1
literal_fits size digits None l h k e = absurd cc
literal_fits size digits (Some base) l h k e =
    let found = some_is (are_spaced_digits base digits && nat_lt (spaced_number base digits) (2 ^ size)) (size, spaced_number base digits) l e in
    let both = and_parts (are_spaced_digits base digits) (nat_lt (spaced_number base digits) (2 ^ size)) found.0 in
    let fits : spaced_number base digits < 2 ^ size = ltb-true (spaced_number base digits) (2 ^ size) both.1 in
    subst (λ (x : ℕ × ℕ). IsLiteral x.0 x.1) found.1 (record { some = h; few = k; fits = fits })

taken : {X : Type 0} (b : Bool) (o : Option X) (x : X) → (if b then o else None) ≡ Some x → (b ≡ true) × (o ≡ Some x)
taken true o x h = (refl, h)
taken false o x h = absurd cc

behind_fits : (size rest : List ℕ) (l : ℕ × ℕ) → literal_behind size rest ≡ Some l → IsLiteral l.0 l.1
behind_fits size [] l e = absurd cc
behind_fits size (q ∷ []) l e = absurd cc
behind_fits size (q ∷ b ∷ digits) l e =
    let n = number_from 10 0 size in
    let found = taken (are_digits size && (q == 39) && nat_le 1 n && nat_le n 128) (literal_in n digits (base_of b)) l e in
    let last = and_parts (are_digits size && (q == 39) && nat_le 1 n) (nat_le n 128) found.0 in
    let first = and_parts (are_digits size && (q == 39)) (nat_le 1 n) last.0 in
    literal_fits n digits (base_of b) l (leb-true 1 n first.1) (leb-true n 128 last.1) found.1

pub literal_small : (ds : List ℕ) (l : ℕ × ℕ) → literal_of ds ≡ Some l → IsLiteral l.0 l.1
unfolding literal_of
literal_small ds l h = behind_fits (take_while is_digit ds) (drop (length (take_while is_digit ds)) ds) l h
