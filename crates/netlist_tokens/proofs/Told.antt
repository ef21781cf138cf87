-- What is told of a text: by the rules, by calculation, and how much.
use Rattle.std.proofs.Common.{◌≡◌, ℕ, zero, suc, ◌+◌, ◌-◌, ◌<◌, ◌≤◌, List, [], ◌∷◌, length, take, drop, get_or, take_all, true, false, ◌==◌, Some, None, refl, sym, ap, subst, ◌∙◌, arith, All}
use Rattle.std.proofs.lemmas.Bool.{and_parts, eqb-true, true≢false}
use Rattle.std.proofs.lemmas.List.Elements.{All-nil, All-cons}
use Rattle.netlist_tokens.specs.declared.token.Token.{Token}
use Rattle.netlist_tokens.specs.declared.token.LexErr.{LexErr}
use Rattle.netlist_tokens.specs.declared.token.LexErr.TheVariants.{Directive}
use Rattle.netlist_tokens.specs.Byte.{backquote, is_letter, begins}
use Rattle.netlist_tokens.specs.Left.{Left, ended, refused, first, Ascend}
use Rattle.netlist_tokens.specs.Scan.{Rest, rest, blank, directive, Step, done, skip, tell, refuse, skip_or, begins_directive, read, begin, step, told_by_step, scan, left}
use Rattle.netlist_tokens.specs.Tokens.{Tokens}
use Rattle.netlist_tokens.proofs.Sizes.{skips_goes, reads_goes}
use Rattle.netlist_tokens.proofs.Steps.{Explains, step_sound, blank_step, skips_follows, reads_follows, refuses_follows}

-- what a step leaves is shorter, so that two that agree on what is shorter tell the same
told_same : (at : ℕ) (bs : List ℕ) (s : Step) → Explains at bs s → (go also : Rest → Left) → ((r : Rest) → length r.bytes + 1 ≤ length bs → go r ≡ also r) → told_by_step s go ≡ told_by_step s also
told_same at bs done e go also same = refl
told_same at bs (skip r) e go also same = let g = skips_goes e in same r (omega (arith, g.fits, g.onward))
told_same at bs (tell t more) e go also same = let g = (reads_goes e).1 in ap (first t) (same (rest t.«end» more) (omega (arith, g.fits, g.onward)))
told_same at bs (refuse f) e go also same = refl

nothing : (n at : ℕ) → scan n (rest at []) ≡ ended
nothing zero at = refl
nothing (suc n) at = refl

-- enough turns tell one thing
enough : (n m at : ℕ) (bs : List ℕ) → length bs ≤ n → length bs ≤ m → scan n (rest at bs) ≡ scan m (rest at bs)
enough n m at [] h i = nothing n at ∙ sym (nothing m at)
enough zero m at (b ∷ bs) h i = absurd (omega arith)
enough (suc n) zero at (b ∷ bs) h i = absurd (omega arith)
enough (suc n) (suc m) at (b ∷ bs) h i =
    told_same at (b ∷ bs) (step at (b ∷ bs)) (step_sound at (b ∷ bs)) (scan n) (scan m) (λ r k. enough n m r.at r.bytes (omega arith) (omega arith))

-- what is told is told by the step, and then from where it leads
left_step : (at : ℕ) (bs : List ℕ) → left at bs ≡ told_by_step (step at bs) (λ r. left r.at r.bytes)
unfolding left
left_step at [] = refl
left_step at (b ∷ bs) =
    told_same at (b ∷ bs) (step at (b ∷ bs)) (step_sound at (b ∷ bs)) (scan (length bs)) (λ r. scan (length r.bytes) r) (λ r k. enough (length bs) (length r.bytes) r.at r.bytes (omega arith) (omega arith))

left_by : (at : ℕ) (bs : List ℕ) (s : Step) → step at bs ≡ s → left at bs ≡ told_by_step s (λ r. left r.at r.bytes)
left_by at bs s e = left_step at bs ∙ ap (λ x. told_by_step x (λ r. left r.at r.bytes)) e

pub left_ends : (at : ℕ) → left at [] ≡ ended
left_ends at = left_step at []

pub left_skip : (at : ℕ) (bs : List ℕ) (r : Rest) → step at bs ≡ skip r → left at bs ≡ left r.at r.bytes
left_skip at bs r e = left_by at bs (skip r) e

pub left_tell : (at : ℕ) (bs : List ℕ) (t : Token) (more : List ℕ) → step at bs ≡ tell t more → left at bs ≡ first t (left t.«end» more)
left_tell at bs t more e = left_by at bs (tell t more) e

pub left_refuse : (at : ℕ) (bs : List ℕ) (f : LexErr) → step at bs ≡ refuse f → left at bs ≡ refused f
left_refuse at bs f e = left_by at bs (refuse f) e

pub left_blank : (at : ℕ) (bs : List ℕ) (r : Rest) → blank at bs ≡ Some r → left at bs ≡ left r.at r.bytes
left_blank at bs r e = left_skip at bs r (blank_step at bs r e)

-- the slice after the first byte
behind_first : (b : ℕ) (bs : List ℕ) → take (length (b ∷ bs) - 1) (drop 1 (b ∷ bs)) ≡ bs
behind_first b bs = let e : length (b ∷ bs) - 1 ≡ length bs = omega arith in rw e (take_all (length bs) bs (omega arith))

-- where a directive begins, it is skipped or refused
step_directive : (at : ℕ) (bs : List ℕ) → begins_directive bs ≡ true → step at bs ≡ skip_or (directive (at + 1) (take (length bs - 1) (drop 1 bs))) (refuse (Directive at))
step_directive at [] h = absurd (true≢false (sym h))
step_directive at (b ∷ bs) h =
    let both = and_parts (b == backquote) (begins is_letter bs) h in
    let e : backquote ≡ b = sym (eqb-true b backquote both.0) in
    let letter = both.1 in
    let there : step at (backquote ∷ bs) ≡ skip_or (directive (at + 1) bs) (refuse (Directive at)) = rw letter refl in
    let here : step at (b ∷ bs) ≡ skip_or (directive (at + 1) bs) (refuse (Directive at)) = subst (λ x. step at (x ∷ bs) ≡ skip_or (directive (at + 1) bs) (refuse (Directive at))) e there in
    here ∙ ap (λ xs. skip_or (directive (at + 1) xs) (refuse (Directive at))) (sym (behind_first b bs))

pub left_directive : (at : ℕ) (bs : List ℕ) (r : Rest) → begins_directive bs ≡ true → directive (at + 1) (take (length bs - 1) (drop 1 bs)) ≡ Some r → left at bs ≡ left r.at r.bytes
left_directive at bs r h e = left_skip at bs r (step_directive at bs h ∙ ap (λ o. skip_or o (refuse (Directive at))) e)

pub left_no_directive : (at : ℕ) (bs : List ℕ) → begins_directive bs ≡ true → directive (at + 1) (take (length bs - 1) (drop 1 bs)) ≡ None → left at bs ≡ refused (Directive at)
left_no_directive at bs h e = left_refuse at bs (Directive at) (step_directive at bs h ∙ ap (λ o. skip_or o (refuse (Directive at))) e)

-- where neither a blank nor a directive begins, a token or a fault is told
step_reads : (at b : ℕ) (bs : List ℕ) → blank at (b ∷ bs) ≡ None → begins_directive (b ∷ bs) ≡ false → step at (b ∷ bs) ≡ read at b bs
step_reads at b bs none h = ap (λ o. skip_or o (begin at b bs)) none ∙ rw h refl

pub left_reads : (at : ℕ) (bs : List ℕ) (t : Token) (more : List ℕ) → 1 ≤ length bs → blank at bs ≡ None → begins_directive bs ≡ false → read at (get_or bs 0 0) (take (length bs - 1) (drop 1 bs)) ≡ tell t more → left at bs ≡ first t (left t.«end» more)
left_reads at [] t more some none h e = absurd (omega arith)
left_reads at (b ∷ bs) t more some none h e = left_tell at (b ∷ bs) t more (step_reads at b bs none h ∙ ap (λ xs. read at b xs) (sym (behind_first b bs)) ∙ e)

pub left_refuses : (at : ℕ) (bs : List ℕ) (f : LexErr) → 1 ≤ length bs → blank at bs ≡ None → begins_directive bs ≡ false → read at (get_or bs 0 0) (take (length bs - 1) (drop 1 bs)) ≡ refuse f → left at bs ≡ refused f
left_refuses at [] f some none h e = absurd (omega arith)
left_refuses at (b ∷ bs) f some none h e = left_refuse at (b ∷ bs) f (step_reads at b bs none h ∙ ap (λ xs. read at b xs) (sym (behind_first b bs)) ∙ e)

pub left_empty : (at : ℕ) (bs : List ℕ) → length bs ≡ 0 → left at bs ≡ ended
left_empty at [] h = left_ends at
left_empty at (b ∷ bs) h = absurd (omega arith)

-- the rules allow nothing but what is calculated
pub left_follows : {at : ℕ} {bs : List ℕ} {l : Left} → Tokens at bs l → left at bs ≡ l
left_follows (Tokens.ends {at = at}) = left_ends at
left_follows (Tokens.skips {at = at} {to = to} {bs = bs} {rest = more} s d) = left_skip at bs (rest to more) (skips_follows s) ∙ left_follows d
left_follows (Tokens.reads {at = at} {bs = bs} {rest = more} {t = t} s d) = left_tell at bs t more (reads_follows s) ∙ ap (first t) (left_follows d)
left_follows (Tokens.refuses {at = at} {bs = bs} {e = e} s) = left_refuse at bs e (refuses_follows s)

told_sound : (at : ℕ) (bs : List ℕ) (s : Step) → Explains at bs s → ((r : Rest) → length r.bytes + 1 ≤ length bs → Tokens r.at r.bytes (left r.at r.bytes)) → Tokens at bs (told_by_step s (λ r. left r.at r.bytes))
told_sound at bs done e below = subst (λ xs. Tokens at xs ended) (sym e) Tokens.ends
told_sound at bs (skip r) e below = let g = skips_goes e in Tokens.skips e (below r (omega (arith, g.fits, g.onward)))
told_sound at bs (tell t more) e below = let g = (reads_goes e).1 in Tokens.reads e (below (rest t.«end» more) (omega (arith, g.fits, g.onward)))
told_sound at bs (refuse f) e below = Tokens.refuses e

left_within : (n at : ℕ) (bs : List ℕ) → length bs ≤ n → Tokens at bs (left at bs)
left_within zero at bs h = rw left_step (told_sound at bs (step at bs) (step_sound at bs) (λ r k. absurd (omega arith)))
left_within (suc n) at bs h = rw left_step (told_sound at bs (step at bs) (step_sound at bs) (λ r k. left_within n r.at r.bytes (omega arith)))

-- what is calculated is by the rules
pub left_sound : (at : ℕ) (bs : List ℕ) → Tokens at bs (left at bs)
left_sound at bs = left_within (length bs) at bs (omega arith)

-- each token has bytes, and lies before the end
pub spans : (total : ℕ) {at : ℕ} {bs : List ℕ} {l : Left} → at + length bs ≡ total → Tokens at bs l → All (λ t. (t.start < t.«end») × (t.«end» ≤ total)) l.tokens
spans total h Tokens.ends = All-nil _
spans total h (Tokens.skips s d) = let g = skips_goes s in spans total (omega (arith, g.fits)) d
spans total h (Tokens.reads {t = t} s d) =
    let g = reads_goes s in
    let here : (t.start < t.«end») × (t.«end» ≤ total) = (omega (arith, g.0, g.1.fits, g.1.onward), omega (arith, g.1.fits)) in
    All-cons (λ t. (t.start < t.«end») × (t.«end» ≤ total)) t _ here (spans total (omega (arith, g.1.fits)) d)
spans total h (Tokens.refuses s) = All-nil _

-- no more tokens than bytes
pub count : {at : ℕ} {bs : List ℕ} {l : Left} → Tokens at bs l → length l.tokens ≤ length bs
count Tokens.ends = omega arith
count (Tokens.skips s d) = let g = skips_goes s in omega (arith, g.fits, g.onward, count d)
count (Tokens.reads s d) = let g = (reads_goes s).1 in omega (arith, g.fits, g.onward, count d)
count (Tokens.refuses s) = omega arith

-- Tokens that begin at or after a place begin at or after a lower one.
ascend_before : (at to : ℕ) (ts : List Token) → at ≤ to → Ascend to ts → Ascend at ts
ascend_before at to [] h a = tt
ascend_before at to (t ∷ ts) h a = let low : to ≤ t.start = a.0 in (omega arith, a.1)

pub ascends : {at : ℕ} {bs : List ℕ} {l : Left} → Tokens at bs l → Ascend at l.tokens
ascends Tokens.ends = tt
ascends (Tokens.skips {at = at} {to = to} {l = l} s d) = let g = skips_goes s in ascend_before at to l.tokens (omega (arith, g.onward)) (ascends d)
ascends (Tokens.reads s d) = let g = reads_goes s in (omega (arith, g.0), ascends d)
ascends (Tokens.refuses s) = tt
