-- The Name `wire` after `default_nettype`.
use Rattle.std.proofs.Common.{◌≡◌, ℕ, zero, suc, ◌+◌, ◌-◌, ◌≤◌, List, [], ◌∷◌, ◌++◌, length, take, Bool, true, false, ◌==◌, Option, Some, None, refl, sym, ap, subst, ◌∙◌, arith, codes}
use Rattle.std.specs.Str.{bytes_eq}
use Rattle.std.proofs.lemmas.Bool.{cond_both}
use Rattle.std.proofs.lemmas.Bool.Decides.{nat_tests}
use Rattle.std.proofs.Math.Seq.{take-append_seam}
use Rattle.std.proofs.lemmas.Slice.Eq.{bytes_eq-Decides}
use Rattle.netlist_tokens.specs.Byte.{slash, is_white, is_letter, is_name_byte, begins}
use Rattle.netlist_tokens.specs.Ends.{Longest, IsName}
use Rattle.netlist_tokens.specs.Scan.{Rest, rest, after, blank, wire_here, wire_after, wire_within, wire}
use Rattle.netlist_tokens.specs.Tokens.{Wire}
use Rattle.netlist_tokens.proofs.Follows.{longest_follows, blank_follows}
use Rattle.netlist_tokens.proofs.Sizes.{blank_goes, name_bytes}
use Rattle.netlist_tokens.proofs.Sound.{By, by_none, by_some, longest_sound, blank_sound}

-- a blank is shorter than the bytes that it begins
pub blank_shortens : (at : ℕ) (bs : List ℕ) (r : Rest) → blank at bs ≡ Some r → length r.bytes + 1 ≤ length bs
blank_shortens at bs r e = let g = blank_goes (blank_sound at bs r e) in omega (arith, g.fits, g.onward)

-- enough turns give one answer
enough : (n m : ℕ) (r : Rest) → length r.bytes + 1 ≤ n → length r.bytes + 1 ≤ m → wire_within n r ≡ wire_within m r
enough zero m r h i = absurd (omega arith)
enough (suc n) zero r h i = absurd (omega arith)
enough (suc n) (suc m) r h i =
    let by : (o : Option Rest) → blank r.at r.bytes ≡ o → wire_after o (wire_here r.at r.bytes) (wire_within n) ≡ wire_after o (wire_here r.at r.bytes) (wire_within m) = λ o.
    elim o as (λ o. blank r.at r.bytes ≡ o → wire_after o (wire_here r.at r.bytes) (wire_within n) ≡ wire_after o (wire_here r.at r.bytes) (wire_within m)) [
      | None ↦ λ e. refl
      | Some s ↦ λ e. (let k = blank_shortens r.at r.bytes s e in enough n m s (omega arith) (omega arith))
    ] in
    by (blank r.at r.bytes) refl

-- after a blank the answer is the same
pub wire_blank : (at : ℕ) (bs : List ℕ) (r : Rest) → blank at bs ≡ Some r → wire at bs ≡ wire r.at r.bytes
unfolding wire
wire_blank at bs r e =
    let k = blank_shortens at bs r e in
    rw e (enough (length bs) (suc (length r.bytes)) r (omega arith) (omega arith))

-- where no blank stands, the answer is what stands here
pub wire_stands : (at : ℕ) (bs : List ℕ) → blank at bs ≡ None → wire at bs ≡ wire_here at bs
unfolding wire
wire_stands at bs e = rw e refl

longest_front : {p : ℕ → Bool} {at to : ℕ} {bs more : List ℕ} → Longest p at bs to more → (front : List ℕ) × (bs ≡ front ++ more) × (to ≡ at + length front)
longest_front Longest.ended = ([], refl, omega arith)
longest_front (Longest.stopped h) = ([], refl, omega arith)
longest_front (Longest.more {b = b} h d) = let r = longest_front d in (b ∷ r.0, ap (λ xs. b ∷ xs) r.1, omega (arith, r.2))

-- the bytes between the places, and those after, are all
pub word_of : (at : ℕ) (bs : List ℕ) → bs ≡ take ((after is_name_byte at bs).at - at) bs ++ (after is_name_byte at bs).bytes
word_of at bs =
    let r = after is_name_byte at bs in
    let f = longest_front (longest_sound is_name_byte at bs) in
    let count : r.at - at ≡ length f.0 = omega (arith, f.2) in
    let word : take (r.at - at) bs ≡ f.0 = ap (λ k. take k bs) count ∙ ap (λ xs. take (length f.0) xs) f.1 ∙ take-append_seam f.0 r.bytes in
    f.1 ∙ ap (λ xs. xs ++ r.bytes) (sym word)

pub word_sound : (at : ℕ) (bs : List ℕ) → begins is_letter bs ≡ true → IsName (take ((after is_name_byte at bs).at - at) bs) at bs (after is_name_byte at bs).at (after is_name_byte at bs).bytes
word_sound at bs h = record { begin = h; longest = longest_sound is_name_byte at bs; bytes = word_of at bs }

-- the Name that equals a word
pub same_word : (word : List ℕ) (found : List ℕ) (at : ℕ) (bs : List ℕ) (to : ℕ) (more : List ℕ) → bytes_eq found word ≡ true → IsName found at bs to more → IsName word at bs to more
same_word word found at bs to more h n = let e : found ≡ word = (bytes_eq-Decides found word).0 h in subst (λ w. IsName w at bs to more) e n

pub wire_here_sound : (at : ℕ) (bs : List ℕ) → By (Wire at bs) (wire_here at bs)
wire_here_sound at bs =
    let r = after is_name_byte at bs in
    let word = take (r.at - at) bs in
    cond_both (bytes_eq word (codes "wire")) (Some r) None (By (Wire at bs))
    (λ h. by_some _ r (
    let e : word ≡ codes "wire" = (bytes_eq-Decides word (codes "wire")).0 h in
    let whole : bs ≡ codes "wire" ++ r.bytes = word_of at bs ∙ ap (λ xs. xs ++ r.bytes) e in
    let first : begins is_letter bs ≡ true = ap (λ xs. begins is_letter xs) whole in
    Wire.here (record { begin = first; longest = longest_sound is_name_byte at bs; bytes = whole })))
    (λ h. by_none _)

pub name_follows : {word : List ℕ} {at to : ℕ} {bs more : List ℕ} → IsName word at bs to more → (after is_name_byte at bs ≡ rest to more) × (bytes_eq (take (to - at) bs) word ≡ true)
name_follows {word} {at} {to} {bs} n = (longest_follows n.longest, (bytes_eq-Decides (take (to - at) bs) word).1 (name_bytes n))

letter_stands : (at b : ℕ) (bs : List ℕ) → is_letter b ≡ true → blank at (b ∷ bs) ≡ None
letter_stands at b bs h =
    let white : is_white b ≡ false = grind (arith, nat_tests) in
    let other : (b == slash) ≡ false = grind (arith, nat_tests) in
    rw (white, other) refl

-- a Name is no blank
pub name_stands : (at : ℕ) (bs : List ℕ) → begins is_letter bs ≡ true → blank at bs ≡ None
name_stands at [] h = refl
name_stands at (b ∷ bs) h = letter_stands at b bs h

pub wire_follows : {at to : ℕ} {bs more : List ℕ} → Wire at bs to more → wire at bs ≡ Some (rest to more)
wire_follows (Wire.here {at = at} {to = to} {bs = bs} n) =
    let f = name_follows n in
    wire_stands at bs (name_stands at bs n.begin) ∙ (rw (f.0, f.1) refl)
wire_follows (Wire.later {at = at} {mid = mid} {bs = bs} {more = more} b w) = wire_blank at bs (rest mid more) (blank_follows b) ∙ wire_follows w

within_sound : (n : ℕ) (r : Rest) → By (Wire r.at r.bytes) (wire_within n r)
within_sound zero r = by_none _
within_sound (suc n) r =
    let by : (o : Option Rest) → blank r.at r.bytes ≡ o → By (Wire r.at r.bytes) (wire_after o (wire_here r.at r.bytes) (wire_within n)) = λ o.
    elim o as (λ o. blank r.at r.bytes ≡ o → By (Wire r.at r.bytes) (wire_after o (wire_here r.at r.bytes) (wire_within n))) [
      | None ↦ λ e. wire_here_sound r.at r.bytes
      | Some s ↦ λ e. (λ t found. Wire.later (blank_sound r.at r.bytes s e) (within_sound n s t found))
    ] in
    by (blank r.at r.bytes) refl

pub wire_sound : (at : ℕ) (bs : List ℕ) → By (Wire at bs) (wire at bs)
unfolding wire
wire_sound at bs = within_sound (suc (length bs)) (rest at bs)
