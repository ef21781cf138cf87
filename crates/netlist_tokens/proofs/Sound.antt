-- What the calculation gives is by the rules.
use Rattle.std.proofs.Common.{◌≡◌, ℕ, ◌+◌, List, [], ◌∷◌, Bool, true, false, ◌&&◌, ◌==◌, not, Option, Some, None, refl, sym, subst, arith}
use Rattle.std.proofs.lemmas.Bool.{cond_both, eqb-true, and_parts, not-true}
use Rattle.netlist_tokens.specs.Byte.{newline, quote, star, slash, backslash, is_white, is_in_line}
use Rattle.netlist_tokens.specs.Ends.{Longest, Closes, Unquotes, is_close}
use Rattle.netlist_tokens.specs.Scan.{Rest, rest, after, after_close, after_quote, comment, blank}
use Rattle.netlist_tokens.specs.Tokens.{Blank}
use Rattle.netlist_tokens.proofs.Follows.{two}

-- an answer is by a rule
abbrev pub By : (ℕ → List ℕ → Type 0) → Option Rest → Type 0
By rule o = (r : Rest) → o ≡ Some r → rule r.at r.bytes

pub by_none : (rule : ℕ → List ℕ → Type 0) → By rule None
by_none rule r e = cc

pub by_some : (rule : ℕ → List ℕ → Type 0) (s : Rest) → rule s.at s.bytes → By rule (Some s)
by_some rule s h r e = let same : s ≡ r = cc in let P : Rest → Type 0 = λ t. rule t.at t.bytes in subst P same h

pub longest_sound : (p : ℕ → Bool) (at : ℕ) (bs : List ℕ) → Longest p at bs (after p at bs).at (after p at bs).bytes
longest_sound p at [] = Longest.ended
longest_sound p at (b ∷ bs) =
    cond_both (p b) (after p (at + 1) bs) (rest at (b ∷ bs)) (λ r. Longest p at (b ∷ bs) r.at r.bytes)
    (λ h. Longest.more h (longest_sound p (at + 1) bs))
    (λ h. Longest.stopped h)

later : (at b : ℕ) (bs : List ℕ) (o : Option Rest) → is_close (b ∷ bs) ≡ false → By (Closes (at + 1) bs) o → By (Closes at (b ∷ bs)) o
later at b bs o h below r e = Closes.later h (below r e)

closed : (at b c : ℕ) (cs : List ℕ) → (b == star) ≡ true → (c == slash) ≡ true → Closes at (b ∷ c ∷ cs) (at + 1 + 1) cs
closed at b c cs h i =
    let e : star ≡ b = sym (eqb-true b star h) in
    let f : slash ≡ c = sym (eqb-true c slash i) in
    subst (λ x. Closes at (x ∷ c ∷ cs) (at + 1 + 1) cs) e
    (subst (λ x. Closes at (star ∷ x ∷ cs) (at + 1 + 1) cs) f
    (subst (λ n. Closes at (star ∷ slash ∷ cs) n cs) (sym (two at)) Closes.here))

starless : (b : ℕ) (bs : List ℕ) → (b == star) ≡ false → is_close (b ∷ bs) ≡ false
starless b bs h = rw h refl

slashless : (b c : ℕ) (cs : List ℕ) → (c == slash) ≡ false → is_close (b ∷ c ∷ cs) ≡ false
slashless b c cs h = grind (arith)

starred_sound : (at b c : ℕ) (cs : List ℕ) (starred : Bool) → (b == star) ≡ starred → By (Closes (at + 1) (c ∷ cs)) (after_close false (at + 1) (c ∷ cs)) → By (Closes at (b ∷ c ∷ cs)) (after_close starred (at + 1) (c ∷ cs))
starred_sound at b c cs false h below = later at b (c ∷ cs) _ (starless b (c ∷ cs) h) below
starred_sound at b c cs true h below =
    cond_both (c == slash) (Some (rest (at + 1 + 1) cs)) (after_close false (at + 1) (c ∷ cs)) (By (Closes at (b ∷ c ∷ cs)))
    (λ i. by_some _ (rest (at + 1 + 1) cs) (closed at b c cs h i))
    (λ i. later at b (c ∷ cs) _ (slashless b c cs i) below)

pub closes_sound : (at : ℕ) (bs : List ℕ) → By (Closes at bs) (after_close false at bs)
closes_sound at [] = by_none _
closes_sound at (b ∷ []) = by_none _
closes_sound at (b ∷ c ∷ cs) = starred_sound at b c cs (b == star) refl (closes_sound (at + 1) (c ∷ cs))

unquoted : (before at b : ℕ) (bs : List ℕ) → ((b == quote) && not (before == backslash)) ≡ true → Unquotes before at (b ∷ bs) (at + 1) bs
unquoted before at b bs h =
    let both = and_parts (b == quote) (not (before == backslash)) h in
    let e : quote ≡ b = sym (eqb-true b quote both.0) in
    subst (λ x. Unquotes before at (x ∷ bs) (at + 1) bs) e (Unquotes.here (not-true (before == backslash) both.1))

pub unquotes_sound : (before at : ℕ) (bs : List ℕ) → By (Unquotes before at bs) (after_quote before at bs)
unquotes_sound before at [] = by_none _
unquotes_sound before at (b ∷ bs) =
    cond_both (b == newline) None _ (By (Unquotes before at (b ∷ bs)))
    (λ h. by_none _)
    (λ h. cond_both ((b == quote) && not (before == backslash)) (Some (rest (at + 1) bs)) (after_quote b (at + 1) bs) (By (Unquotes before at (b ∷ bs)))
    (λ i. by_some _ (rest (at + 1) bs) (unquoted before at b bs i))
    (λ i. λ r e. Unquotes.later h i (unquotes_sound b (at + 1) bs r e)))

comment_line : (at c : ℕ) (cs : List ℕ) → (c == slash) ≡ true → Blank at (slash ∷ c ∷ cs) (after is_in_line (at + 1 + 1) cs).at (after is_in_line (at + 1 + 1) cs).bytes
comment_line at c cs h =
    let e : slash ≡ c = sym (eqb-true c slash h) in
    let r = after is_in_line (at + 1 + 1) cs in
    subst (λ x. Blank at (slash ∷ x ∷ cs) r.at r.bytes) e
    (Blank.line (subst (λ n. Longest is_in_line n cs r.at r.bytes) (two at) (longest_sound is_in_line (at + 1 + 1) cs)))

comment_block : (at c : ℕ) (cs : List ℕ) → (c == star) ≡ true → By (Blank at (slash ∷ c ∷ cs)) (after_close false (at + 1 + 1) cs)
comment_block at c cs h r found =
    let e : star ≡ c = sym (eqb-true c star h) in
    subst (λ x. Blank at (slash ∷ x ∷ cs) r.at r.bytes) e
    (Blank.block (subst (λ n. Closes n cs r.at r.bytes) (two at) (closes_sound (at + 1 + 1) cs r found)))

comment_sound : (at : ℕ) (bs : List ℕ) → By (Blank at (slash ∷ bs)) (comment (at + 1) bs)
comment_sound at [] = by_none _
comment_sound at (c ∷ cs) =
    cond_both (c == slash) (Some (after is_in_line (at + 1 + 1) cs)) _ (By (Blank at (slash ∷ c ∷ cs)))
    (λ h. by_some _ _ (comment_line at c cs h))
    (λ _. cond_both (c == star) (after_close false (at + 1 + 1) cs) None (By (Blank at (slash ∷ c ∷ cs)))
    (λ h. comment_block at c cs h)
    (λ _. by_none _))

pub blank_sound : (at : ℕ) (bs : List ℕ) → By (Blank at bs) (blank at bs)
blank_sound at [] = by_none _
blank_sound at (b ∷ bs) =
    cond_both (is_white b) (Some (rest (at + 1) bs)) _ (By (Blank at (b ∷ bs)))
    (λ h. by_some _ (rest (at + 1) bs) (Blank.white h))
    (λ _. cond_both (b == slash) (comment (at + 1) bs) None (By (Blank at (b ∷ bs)))
    (λ h. let e : slash ≡ b = sym (eqb-true b slash h) in subst (λ x. By (Blank at (x ∷ bs)) (comment (at + 1) bs)) e (comment_sound at bs))
    (λ _. by_none _))
