-- Runs of bits, taken apart and put together.
use Rattle.std.proofs.Common.{◌≡◌, ◌≢◌, ℕ, zero, suc, ◌+◌, ◌-◌, ◌<◌, List, [], ◌∷◌, ◌++◌, Some, None, refl, sym, ◌∙◌, ap, append_assoc, length, length-append, take, get_or, arith}
use Rattle.std.proofs.lemmas.List.{append-nil, take_more}
use Rattle.elab_bits.specs.declared.run.Lane.{Lane}
use Rattle.elab_bits.specs.declared.run.Bits.{Bits}
use Rattle.elab_bits.specs.declared.run.Bits.TheVariants.{Nets, Literal, Dead}
use Rattle.elab_bits.specs.declared.run.Run.{Run}
use Rattle.elab_bits.specs.Lanes.{lane, single}
use Rattle.elab_bits.specs.Runs.{bits_lanes, run_lanes, runs_lanes, AreFew, AreRuns, leftmost, behind}

-- the leftmost bit, and those behind it
pub leftmost_is : (at count : ℕ) (bits : Bits) → 0 < count → bits_lanes at count bits ≡ lane at (leftmost count bits) ∷ bits_lanes at (count - 1) (behind bits)
leftmost_is at zero bits some = absurd (omega arith)
leftmost_is at (suc n) (Nets first) some = let e : suc n - 1 ≡ n = omega arith in rw e refl
leftmost_is at (suc n) (Literal value) some = let e : suc n - 1 ≡ n = omega arith in rw e refl
leftmost_is at (suc n) Dead some = let e : suc n - 1 ≡ n = omega arith in rw e refl

-- one run more
pub lanes_more : (rs : List Run) (r : Run) → runs_lanes (rs ++ r ∷ []) ≡ runs_lanes rs ++ run_lanes r
lanes_more [] r = append-nil (run_lanes r)
lanes_more (q ∷ rs) r = ap (λ (l : List Lane). run_lanes q ++ l) (lanes_more rs r) ∙ sym (append_assoc (run_lanes q) (runs_lanes rs) (run_lanes r))

pub runs_more : (rs : List Run) (r : Run) → AreRuns rs → 0 < r.count → AreFew r.count r.bits → AreRuns (rs ++ r ∷ [])
runs_more [] r are some few = ((some, few), tt)
runs_more (q ∷ rs) r are some few = (are.0, runs_more rs r are.1 some few)

length-bits : (at count : ℕ) (bits : Bits) → length (bits_lanes at count bits) ≡ count
length-bits at zero (Nets first) = refl
length-bits at (suc n) (Nets first) = ap suc (length-bits at n (Nets (first + 1)))
length-bits at zero (Literal value) = refl
length-bits at (suc n) (Literal value) = ap suc (length-bits at n (Literal value))
length-bits at zero Dead = refl
length-bits at (suc n) Dead = ap suc (length-bits at n Dead)

-- the width of one run more
pub width_more : (rs : List Run) (k : ℕ) (d : Run) → k < length rs → length (runs_lanes (take (k + 1) rs)) ≡ length (runs_lanes (take k rs)) + (get_or rs k d).count
width_more rs k d below =
    let r : Run = get_or rs k d in
    ap (λ (qs : List Run). length (runs_lanes qs)) (take_more rs k d below)
    ∙ ap (λ (l : List Lane). length l) (lanes_more (take k rs) r)
    ∙ length-append (runs_lanes (take k rs)) (run_lanes r)
    ∙ ap (λ (n : ℕ). length (runs_lanes (take k rs)) + n) (length-bits r.at r.count r.bits)

-- one bit alone
pub single_one : (ls more : List Lane) (l : Lane) → ls ≡ l ∷ more → length ls ≡ 1 → single ls ≡ Some l
single_one ls [] l is one = rw is refl
single_one ls (m ∷ ms) l is one = absurd (omega (arith, ap (λ (k : List Lane). length k) is))

pub single_other : (ls : List Lane) → length ls ≢ 1 → single ls ≡ None
single_other [] other = refl
single_other (l ∷ []) other = absurd (other refl)
single_other (l ∷ m ∷ ls) other = refl
