-- What stands at a place, by the rules and by calculation.
use Rattle.std.proofs.Common.{◌≡◌, ℕ, ◌+◌, ◌-◌, List, [], ◌∷◌, take, Bool, true, false, ◌&&◌, ◌||◌, ◌==◌, if◌then◌else◌, inl, inr, Option, Some, None, refl, sym, ap, subst, ◌∙◌, arith, codes}
use Rattle.std.specs.Str.{bytes_eq}
use Rattle.std.proofs.lemmas.Bool.{cond_both, eqb-true, and_parts, or_cases, not-true, true≢false}
use Rattle.std.proofs.lemmas.Slice.Eq.{bytes_eq-Decides}
use Rattle.std.proofs.lemmas.Bool.Decides.{nat_tests}
use Rattle.netlist_tokens.specs.declared.token.Token.{Token}
use Rattle.netlist_tokens.specs.declared.token.Kind.TheVariants.{Escaped, Mark}
use Rattle.netlist_tokens.specs.declared.token.LexErr.{LexErr}
use Rattle.netlist_tokens.specs.declared.token.LexErr.TheVariants.{BadByte, OpenComment, Directive}
use Rattle.netlist_tokens.specs.Byte.{quote, star, slash, backslash, backquote, is_white, is_letter, is_digit, is_name_byte, is_number_byte, is_printable, is_in_line, begins}
use Rattle.netlist_tokens.specs.Ends.{IsName, Nowhere}
use Rattle.netlist_tokens.specs.Left.{token}
use Rattle.netlist_tokens.specs.Scan.{Rest, rest, after, after_close, after_quote, comment, blank, wire, directive, directive_of, Step, done, skip, tell, refuse, tell_run, skip_or, text_or, read, begin, step}
use Rattle.netlist_tokens.specs.Tokens.{Skips, ReadsToken, RefusesToken, takes_line, stands_alone}
use Rattle.netlist_tokens.proofs.Sizes.{name_bytes}
use Rattle.netlist_tokens.proofs.Follows.{two, longest_follows, closes_follows, unquotes_follows, blank_follows}
use Rattle.netlist_tokens.proofs.Sound.{By, longest_sound, closes_sound, unquotes_sound, blank_sound}
use Rattle.netlist_tokens.proofs.Wires.{word_sound, same_word, wire_follows, wire_sound}

or_parts : (x y : Bool) → (x || y) ≡ false → (x ≡ false) × (y ≡ false)
or_parts true y h = absurd (true≢false h)
or_parts false y h = (refl, h)

-- a directive that stands alone takes no line
alone_no_line : (word : List ℕ) → stands_alone word ≡ true → takes_line word ≡ false
alone_no_line word h =
    let at_word : (w : List ℕ) → takes_line w ≡ false → bytes_eq word w ≡ true → takes_line word ≡ false = λ w e found. ap takes_line ((bytes_eq-Decides word w).0 found) ∙ e in
    elim (or_cases (bytes_eq word (codes "celldefine") || bytes_eq word (codes "endcelldefine")) (bytes_eq word (codes "resetall")) h) as (λ _. takes_line word ≡ false) [
      | inl h ↦ elim (or_cases (bytes_eq word (codes "celldefine")) (bytes_eq word (codes "endcelldefine")) h) as (λ _. takes_line word ≡ false) [
        | inl h ↦ at_word (codes "celldefine") refl h
        | inr h ↦ at_word (codes "endcelldefine") refl h
      ]
      | inr h ↦ at_word (codes "resetall") refl h
    ]

-- nothing stands there where no rule leads on
nowhere_none : (rule : ℕ → List ℕ → Type 0) (o : Option Rest) → By rule o → Nowhere rule → o ≡ None
nowhere_none rule None by nothing = refl
nowhere_none rule (Some r) by nothing = absurd (nothing r.at r.bytes (by r refl))

pub blank_step : (at : ℕ) (bs : List ℕ) (r : Rest) → blank at bs ≡ Some r → step at bs ≡ skip r
blank_step at [] r e = absurd (let f : ◌≡◌ {A = Option Rest} None (Some r) = e in cc)
blank_step at (b ∷ bs) r e = ap (λ o. skip_or o (begin at b bs)) e

step_directive : (at : ℕ) (bs : List ℕ) → begins is_letter bs ≡ true → step at (backquote ∷ bs) ≡ skip_or (directive (at + 1) bs) (refuse (Directive at))
step_directive at bs h = rw h refl

directive_follows : {word : List ℕ} {at to : ℕ} {bs more : List ℕ} → IsName word at bs to more → directive at bs ≡ directive_of word (rest to more)
directive_follows n = rw (longest_follows n.longest, name_bytes n) refl

pub skips_follows : {at to : ℕ} {bs more : List ℕ} → Skips at bs to more → step at bs ≡ skip (rest to more)
skips_follows (Skips.blank {at = at} {to = to} {bs = bs} {rest = more} b) = blank_step at bs (rest to more) (blank_follows b)
skips_follows (Skips.line {at = at} {bs = bs} n t d) = step_directive at bs n.begin ∙ rw (directive_follows n, t, longest_follows d) refl
skips_follows (Skips.alone {at = at} {bs = bs} {word = word} n t) =
    let e = alone_no_line word t in
    step_directive at bs n.begin ∙ rw (directive_follows n, e, t) refl
skips_follows (Skips.nettype {at = at} {bs = bs} n w) = step_directive at bs n.begin ∙ rw (directive_follows n, wire_follows w) refl

-- what begins with no comment is no comment, and no open one
comment_none : (slashed : Bool) (at : ℕ) (bs : List ℕ) → (slashed && begins (λ c. (c == slash) || (c == star)) bs) ≡ false → (if slashed then comment at bs else None) ≡ None
comment_none false at bs h = refl
comment_none true at [] h = refl
comment_none true at (c ∷ cs) h = let p = or_parts (c == slash) (c == star) h in rw (p.0, p.1) refl

star_none : (slashed : Bool) (bs : List ℕ) → (slashed && begins (λ c. (c == slash) || (c == star)) bs) ≡ false → (slashed && begins (λ c. c == star) bs) ≡ false
star_none false bs h = refl
star_none true [] h = refl
star_none true (c ∷ cs) h = (or_parts (c == slash) (c == star) h).1

pub reads_follows : {at : ℕ} {bs more : List ℕ} {t : Token} → ReadsToken at bs t more → step at bs ≡ tell t more
reads_follows (ReadsToken.name {at = at} {to = to} {b = b} {bs = bs} h d) =
    let white : is_white b ≡ false = grind (arith, nat_tests) in
    let no_slash : (b == slash) ≡ false = grind (arith, nat_tests) in
    let no_quote : (b == backquote) ≡ false = grind (arith, nat_tests) in
    rw (white, no_slash, no_quote, h, longest_follows d) refl
reads_follows (ReadsToken.number {b = b} h d) =
    let white : is_white b ≡ false = grind (arith, nat_tests) in
    let no_slash : (b == slash) ≡ false = grind (arith, nat_tests) in
    let no_quote : (b == backquote) ≡ false = grind (arith, nat_tests) in
    let no_letter : is_letter b ≡ false = grind (arith, nat_tests) in
    rw (white, no_slash, no_quote, no_letter, h, longest_follows d) refl
reads_follows (ReadsToken.escaped h d) = rw (h, longest_follows d) refl
reads_follows (ReadsToken.text d) = rw (unquotes_follows d) refl
reads_follows (ReadsToken.mark {at = at} {b = b} {bs = bs} h i j) =
    let white : is_white b ≡ false = grind (arith, nat_tests) in
    let kinds = or_parts (is_letter b || is_digit b) (b == quote) i in
    let words = or_parts (is_letter b) (is_digit b) kinds.0 in
    let comment_or = (b == slash) && begins (λ c. (c == slash) || (c == star)) bs in
    let pairs = or_parts (comment_or || (b == backslash) && begins is_printable bs) ((b == backquote) && begins is_letter bs) j in
    let ends = or_parts comment_or ((b == backslash) && begins is_printable bs) pairs.0 in
    rw (white, comment_none (b == slash) (at + 1) bs ends.0, pairs.1, words.0, words.1, kinds.1, star_none (b == slash) bs ends.0, ends.1, h) refl

pub refuses_follows : {at : ℕ} {bs : List ℕ} {e : LexErr} → RefusesToken at bs e → step at bs ≡ refuse e
refuses_follows (RefusesToken.bad_byte {b = b} h i) =
    let no_slash : (b == slash) ≡ false = grind (arith, nat_tests) in
    let no_backquote : (b == backquote) ≡ false = grind (arith, nat_tests) in
    let no_letter : is_letter b ≡ false = grind (arith, nat_tests) in
    let no_digit : is_digit b ≡ false = grind (arith, nat_tests) in
    let no_quote : (b == quote) ≡ false = grind (arith, nat_tests) in
    let no_backslash : (b == backslash) ≡ false = grind (arith, nat_tests) in
    rw (h, no_slash, no_backquote, no_letter, no_digit, no_quote, no_backslash, i) refl
refuses_follows (RefusesToken.open_comment {at = at} {bs = bs} nothing) = rw (two, nowhere_none _ _ (closes_sound (at + 2) bs) nothing) refl
refuses_follows (RefusesToken.open_text {at = at} {bs = bs} nothing) = rw (nowhere_none _ _ (unquotes_sound quote (at + 1) bs) nothing) refl
refuses_follows (RefusesToken.no_wire {at = at} {mid = mid} {bs = bs} {more = more} n nothing) =
    step_directive at bs n.begin ∙ rw (directive_follows n, nowhere_none _ _ (wire_sound mid more) nothing) refl
refuses_follows (RefusesToken.unknown {at = at} {bs = bs} {word = word} n u) =
    let known = or_parts (takes_line word || stands_alone word) (bytes_eq word (codes "default_nettype")) (not-true _ u) in
    let first = or_parts (takes_line word) (stands_alone word) known.0 in
    step_directive at bs n.begin ∙ rw (directive_follows n, first.0, first.1, known.1) refl

-- what a step says, by the rules
abbrev pub Explains : ℕ → List ℕ → Step → Type 0
Explains at bs done = bs ≡ []
Explains at bs (skip r) = Skips at bs r.at r.bytes
Explains at bs (tell t more) = ReadsToken at bs t more
Explains at bs (refuse e) = RefusesToken at bs e

-- a skip that is found, or what else is told
skip_sound : (at : ℕ) (bs : List ℕ) (o : Option Rest) (s : Step) → By (Skips at bs) o → (o ≡ None → Explains at bs s) → Explains at bs (skip_or o s)
skip_sound at bs None s by otherwise = otherwise refl
skip_sound at bs (Some r) s by otherwise = by r refl

directive_sound : (at : ℕ) (bs : List ℕ) → begins is_letter bs ≡ true → Explains at (backquote ∷ bs) (skip_or (directive (at + 1) bs) (refuse (Directive at)))
directive_sound at bs h =
    let r = after is_name_byte (at + 1) bs in
    let word = take (r.at - (at + 1)) bs in
    let n : IsName word (at + 1) bs r.at r.bytes = word_sound (at + 1) bs h in
    let text = backquote ∷ bs in
    let told : Option Rest → Step = λ o. skip_or o (refuse (Directive at)) in
    cond_both (takes_line word) (Some (after is_in_line r.at r.bytes)) _ (λ o. Explains at text (told o))
    (λ t. Skips.line n t (longest_sound is_in_line r.at r.bytes))
    (λ no_line. cond_both (stands_alone word) (Some r) _ (λ o. Explains at text (told o))
    (λ t. Skips.alone n t)
    (λ no_alone. cond_both (bytes_eq word (codes "default_nettype")) (wire r.at r.bytes) None (λ o. Explains at text (told o))
    (λ e. let m = same_word (codes "default_nettype") word (at + 1) bs r.at r.bytes e n in
    skip_sound at text (wire r.at r.bytes) (refuse (Directive at))
    (λ s found. Skips.nettype m (wire_sound r.at r.bytes s found))
    (λ none. RefusesToken.no_wire m (λ to more w. let f : ◌≡◌ {A = Option Rest} None (Some (rest to more)) = sym none ∙ wire_follows w in cc)))
    (λ no_wire. RefusesToken.unknown n (rw (no_line, no_alone, no_wire) refl))))

text_sound : (at : ℕ) (bs : List ℕ) → Explains at (quote ∷ bs) (text_or at (after_quote quote (at + 1) bs))
text_sound at bs =
    let by : (o : Option Rest) → after_quote quote (at + 1) bs ≡ o → Explains at (quote ∷ bs) (text_or at o) = λ o.
    elim o as (λ o. after_quote quote (at + 1) bs ≡ o → Explains at (quote ∷ bs) (text_or at o)) [
      | None ↦ λ none. RefusesToken.open_text (λ to more w. let f : ◌≡◌ {A = Option Rest} None (Some (rest to more)) = sym none ∙ unquotes_follows w in cc)
      | Some r ↦ λ found. ReadsToken.text (unquotes_sound quote (at + 1) bs r found)
    ] in
    by (after_quote quote (at + 1) bs) refl

-- an open comment is one that nothing closes
open_sound : (at : ℕ) (bs : List ℕ) → begins (λ c. c == star) bs ≡ true → comment (at + 1) bs ≡ None → RefusesToken at (slash ∷ bs) (OpenComment at)
open_sound at [] h none = absurd (true≢false (sym h))
open_sound at (c ∷ cs) h none =
    let e : star ≡ c = sym (eqb-true c star h) in
    let computed : comment (at + 1) (star ∷ cs) ≡ None = ap (λ x. comment (at + 1) (x ∷ cs)) e ∙ none in
    subst (λ x. RefusesToken at (slash ∷ x ∷ cs) (OpenComment at)) e
    (RefusesToken.open_comment (λ to more w.
    let f : after_close false (at + 2) cs ≡ Some (rest to more) = closes_follows w in
    let g : after_close false (at + 1 + 1) cs ≡ Some (rest to more) = rw two f in
    let i : ◌≡◌ {A = Option Rest} None (Some (rest to more)) = sym computed ∙ g in cc))

some_none : {r : Rest} → ◌≡◌ {A = Option Rest} (Some r) None → ⊥
some_none e = cc

-- no comment, and none that is open: none begins
comment_absent : (slashed : Bool) (at : ℕ) (bs : List ℕ) → (if slashed then comment at bs else None) ≡ None → (slashed && begins (λ c. c == star) bs) ≡ false → (slashed && begins (λ c. (c == slash) || (c == star)) bs) ≡ false
comment_absent false at bs none h = refl
comment_absent true at [] none h = refl
comment_absent true at (c ∷ cs) none h =
    let by : (v : Bool) → (if v then Some (after is_in_line (at + 1) cs) else (if c == star then after_close false (at + 1) cs else None)) ≡ None → (v || (c == star)) ≡ false = λ v.
    elim v as (λ v. (if v then Some (after is_in_line (at + 1) cs) else (if c == star then after_close false (at + 1) cs else None)) ≡ None → (v || (c == star)) ≡ false) [
      | true ↦ λ e. absurd (some_none e)
      | false ↦ λ _. h
    ] in
    by (c == slash) none

white_absent : (at b : ℕ) (bs : List ℕ) → blank at (b ∷ bs) ≡ None → is_white b ≡ false
white_absent at b bs none =
    let by : (v : Bool) → (if v then Some (rest (at + 1) bs) else (if b == slash then comment (at + 1) bs else None)) ≡ None → v ≡ false = λ v.
    elim v as (λ v. (if v then Some (rest (at + 1) bs) else (if b == slash then comment (at + 1) bs else None)) ≡ None → v ≡ false) [
      | true ↦ λ e. absurd (some_none e)
      | false ↦ λ _. refl
    ] in
    by (is_white b) none

mark_sound : (at b : ℕ) (bs : List ℕ) → blank at (b ∷ bs) ≡ None → ((b == backquote) && begins is_letter bs) ≡ false → (is_letter b || is_digit b || (b == quote)) ≡ false → ((b == slash) && begins (λ c. c == star) bs) ≡ false → ((b == backslash) && begins is_printable bs) ≡ false → is_printable b ≡ true → ReadsToken at (b ∷ bs) (token Mark at (at + 1)) bs
mark_sound at b bs none no_directive kinds no_open no_escape h =
    let white = white_absent at b bs none in
    let stands : (if b == slash then comment (at + 1) bs else None) ≡ None = rw white at none in
    let no_comment = comment_absent (b == slash) (at + 1) bs stands no_open in
    ReadsToken.mark h kinds (rw (no_comment, no_escape, no_directive) refl)

rest_sound : (at b : ℕ) (bs : List ℕ) → blank at (b ∷ bs) ≡ None → ((b == backquote) && begins is_letter bs) ≡ false → (is_letter b || is_digit b || (b == quote)) ≡ false → Explains at (b ∷ bs) (if (b == slash) && begins (λ c. c == star) bs then refuse (OpenComment at) else if (b == backslash) && begins is_printable bs then tell_run Escaped at (after is_printable (at + 1) bs) else if is_printable b then tell (token Mark at (at + 1)) bs else refuse (BadByte at))
rest_sound at b bs none no_directive kinds =
    cond_both ((b == slash) && begins (λ c. c == star) bs) _ _ (Explains at (b ∷ bs))
    (λ h. let both = and_parts (b == slash) (begins (λ c. c == star) bs) h in
    let e : b ≡ slash = eqb-true b slash both.0 in
    let stands : blank at (slash ∷ bs) ≡ None = ap (λ x. blank at (x ∷ bs)) (sym e) ∙ none in
    subst (λ x. RefusesToken at (x ∷ bs) (OpenComment at)) (sym e) (open_sound at bs both.1 stands))
    (λ no_open. cond_both ((b == backslash) && begins is_printable bs) _ _ (Explains at (b ∷ bs))
    (λ h. let both = and_parts (b == backslash) (begins is_printable bs) h in
    let r = after is_printable (at + 1) bs in
    subst (λ x. ReadsToken at (x ∷ bs) (token Escaped at r.at) r.bytes) (sym (eqb-true b backslash both.0)) (ReadsToken.escaped both.1 (longest_sound is_printable (at + 1) bs)))
    (λ no_escape. cond_both (is_printable b) _ _ (Explains at (b ∷ bs))
    (λ h. mark_sound at b bs none no_directive kinds no_open no_escape h)
    (λ h. RefusesToken.bad_byte (white_absent at b bs none) h)))

read_sound : (at b : ℕ) (bs : List ℕ) → blank at (b ∷ bs) ≡ None → ((b == backquote) && begins is_letter bs) ≡ false → Explains at (b ∷ bs) (read at b bs)
read_sound at b bs none no_directive =
    cond_both (is_letter b) _ _ (Explains at (b ∷ bs))
    (λ h. ReadsToken.name h (longest_sound is_name_byte (at + 1) bs))
    (λ no_letter. cond_both (is_digit b) _ _ (Explains at (b ∷ bs))
    (λ h. ReadsToken.number h (longest_sound is_number_byte (at + 1) bs))
    (λ no_digit. cond_both (b == quote) _ _ (Explains at (b ∷ bs))
    (λ h. subst (λ x. Explains at (x ∷ bs) (text_or at (after_quote quote (at + 1) bs))) (sym (eqb-true b quote h)) (text_sound at bs))
    (λ no_quote. rest_sound at b bs none no_directive (rw (no_letter, no_digit, no_quote) refl))))

begin_sound : (at b : ℕ) (bs : List ℕ) → blank at (b ∷ bs) ≡ None → Explains at (b ∷ bs) (begin at b bs)
begin_sound at b bs none =
    cond_both ((b == backquote) && begins is_letter bs) _ _ (Explains at (b ∷ bs))
    (λ h. let both = and_parts (b == backquote) (begins is_letter bs) h in
    subst (λ x. Explains at (x ∷ bs) (skip_or (directive (at + 1) bs) (refuse (Directive at)))) (sym (eqb-true b backquote both.0)) (directive_sound at bs both.1))
    (λ h. read_sound at b bs none h)

pub step_sound : (at : ℕ) (bs : List ℕ) → Explains at bs (step at bs)
step_sound at [] = refl
step_sound at (b ∷ bs) = skip_sound at (b ∷ bs) (blank at (b ∷ bs)) (begin at b bs) (λ r e. Skips.blank (blank_sound at (b ∷ bs) r e)) (begin_sound at b bs)
