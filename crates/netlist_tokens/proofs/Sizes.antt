-- How far each rule goes: the place and the bytes after it add up, and the place is further on.
use Rattle.std.proofs.Common.{◌≡◌, ℕ, ◌+◌, ◌-◌, ◌<◌, ◌≤◌, Bool, List, length, take, refl, ap, ◌∙◌, arith, length-append}
use Rattle.std.proofs.Math.Seq.{take-append_seam}
use Rattle.netlist_tokens.specs.declared.token.Token.{Token}
use Rattle.netlist_tokens.specs.Ends.{Longest, Closes, Unquotes, IsName}
use Rattle.netlist_tokens.specs.Tokens.{Blank, Wire, Skips, ReadsToken}

-- the second place is after the first, and by as many bytes as are gone
pub record Goes (at : ℕ) (bs : List ℕ) (to : ℕ) (rest : List ℕ) : Type 0 where
  pub fits : to + length rest ≡ at + length bs
  pub onward : at ≤ to

pub longest_goes : {p : ℕ → Bool} {at to : ℕ} {bs rest : List ℕ} → Longest p at bs to rest → Goes at bs to rest
longest_goes Longest.ended = record { fits = refl; onward = omega arith }
longest_goes (Longest.stopped h) = record { fits = refl; onward = omega arith }
longest_goes (Longest.more h d) = let g = longest_goes d in record { fits = omega (arith, g.fits); onward = omega (arith, g.onward) }

pub closes_goes : {at to : ℕ} {bs rest : List ℕ} → Closes at bs to rest → Goes at bs to rest
closes_goes Closes.here = record { fits = omega arith; onward = omega arith }
closes_goes (Closes.later h d) = let g = closes_goes d in record { fits = omega (arith, g.fits); onward = omega (arith, g.onward) }

pub unquotes_goes : {before at to : ℕ} {bs rest : List ℕ} → Unquotes before at bs to rest → Goes at bs to rest
unquotes_goes (Unquotes.here h) = record { fits = omega arith; onward = omega arith }
unquotes_goes (Unquotes.later h i d) = let g = unquotes_goes d in record { fits = omega (arith, g.fits); onward = omega (arith, g.onward) }

pub name_goes : {word : List ℕ} {at to : ℕ} {bs rest : List ℕ} → IsName word at bs to rest → Goes at bs to rest
name_goes n = longest_goes n.longest

-- and a byte at least is gone
pub record GoesOn (at : ℕ) (bs : List ℕ) (to : ℕ) (rest : List ℕ) : Type 0 where
  pub fits : to + length rest ≡ at + length bs
  pub onward : at < to

pub blank_goes : {at to : ℕ} {bs rest : List ℕ} → Blank at bs to rest → GoesOn at bs to rest
blank_goes (Blank.white h) = record { fits = omega arith; onward = omega arith }
blank_goes (Blank.line d) = let g = longest_goes d in record { fits = omega (arith, g.fits); onward = omega (arith, g.onward) }
blank_goes (Blank.block d) = let g = closes_goes d in record { fits = omega (arith, g.fits); onward = omega (arith, g.onward) }

pub wire_goes : {at to : ℕ} {bs rest : List ℕ} → Wire at bs to rest → Goes at bs to rest
wire_goes (Wire.here n) = name_goes n
wire_goes (Wire.later b w) =
    let g = blank_goes b in
    let h = wire_goes w in
    record { fits = omega (arith, g.fits, h.fits); onward = omega (arith, g.onward, h.onward) }

pub skips_goes : {at to : ℕ} {bs rest : List ℕ} → Skips at bs to rest → GoesOn at bs to rest
skips_goes (Skips.blank b) = blank_goes b
skips_goes (Skips.line n t d) =
    let g = name_goes n in
    let h = longest_goes d in
    record { fits = omega (arith, g.fits, h.fits); onward = omega (arith, g.onward, h.onward) }
skips_goes (Skips.alone n t) = let g = name_goes n in record { fits = omega (arith, g.fits); onward = omega (arith, g.onward) }
skips_goes (Skips.nettype n w) =
    let g = name_goes n in
    let h = wire_goes w in
    record { fits = omega (arith, g.fits, h.fits); onward = omega (arith, g.onward, h.onward) }

pub reads_goes : {at : ℕ} {bs rest : List ℕ} {t : Token} → ReadsToken at bs t rest → (t.start ≡ at) × GoesOn at bs t.«end» rest
reads_goes (ReadsToken.name h d) = let g = longest_goes d in (refl, record { fits = omega (arith, g.fits); onward = omega (arith, g.onward) })
reads_goes (ReadsToken.number h d) = let g = longest_goes d in (refl, record { fits = omega (arith, g.fits); onward = omega (arith, g.onward) })
reads_goes (ReadsToken.escaped h d) = let g = longest_goes d in (refl, record { fits = omega (arith, g.fits); onward = omega (arith, g.onward) })
reads_goes (ReadsToken.text d) = let g = unquotes_goes d in (refl, record { fits = omega (arith, g.fits); onward = omega (arith, g.onward) })
reads_goes (ReadsToken.mark h i j) = (refl, record { fits = omega arith; onward = omega arith })

-- the bytes of a name are those between its places
pub name_bytes : {word : List ℕ} {at to : ℕ} {bs rest : List ℕ} → IsName word at bs to rest → take (to - at) bs ≡ word
name_bytes {word} {at} {to} {bs} {rest} n =
    let g = name_goes n in
    let whole : length bs ≡ length word + length rest = ap length n.bytes ∙ length-append word rest in
    let count : to - at ≡ length word = omega (arith, g.fits, g.onward) in
    ap (λ k. take k bs) count ∙ ap (λ xs. take (length word) xs) n.bytes ∙ take-append_seam word rest
