-- The walk over bound bits, step by step, and where its bits are.
use Rattle.std.proofs.Common.{◌≡◌, ℕ, zero, suc, ◌+◌, ◌-◌, ◌<◌, ◌≤◌, List, [], ◌∷◌, ◌++◌, length, drop, get_or, All, refl, sym, ap, arith, append_assoc, add-one, drop-cons}
use Rattle.std.specs.List.{AllByRecursion}
use Rattle.design_circuit.specs.declared.design.Design.{Design}
use Rattle.recording_binding.specs.Binding.{FitsBound}
use Rattle.recording_binding.specs.BoundBits.{IsBitOf, bits_from, bound_bits, moment_bits, moments_bits, variable_bits}
use Rattle.recording_binding.specs.declared.binding.Bound.{Bound}
use Rattle.recording_binding.specs.declared.bound_bits.BoundBit.{BoundBit}

-- ---- the walk

-- Before the first variable all is left.
pub begins : (bound : List Bound) (moments : ℕ) → 0 < moments → moment_bits 0 bound ++ moments_bits bound 1 (moments - 1) ≡ bound_bits moments bound
begins bound zero some = absurd (omega arith)
begins bound (suc more) some = let e : suc more - 1 ≡ more = omega arith in rw e refl

-- The next variable of a moment is taken in hand.
pub variable_begun : (moment begun : ℕ) (bound : List Bound) (b : Bound) (rest : List BoundBit) → begun < length bound → b ≡ get_or bound begun b
    → moment_bits moment (drop begun bound) ++ rest ≡ variable_bits moment b ++ (moment_bits moment (drop (begun + 1) bound) ++ rest)
variable_begun moment begun bound b rest within is =
    let there : drop begun bound ≡ b ∷ drop (begun + 1) bound = rw (add-one, drop-cons bound begun b within) (ap (λ (x : Bound). x ∷ drop (suc begun) bound) (sym is)) in
    rw there (append_assoc (variable_bits moment b) (moment_bits moment (drop (begun + 1) bound)) rest)

-- The next moment begins.
pub moment_begun : (moment more : ℕ) (bound : List Bound) → 0 < more
    → moments_bits bound (moment + 1) more ≡ moment_bits (moment + 1) bound ++ moments_bits bound (moment + 1 + 1) (more - 1)
moment_begun moment zero bound some = absurd (omega arith)
moment_begun moment (suc more) bound some = let e : suc more - 1 ≡ more = omega arith in rw e refl

-- Without variables there are no bits.
pub none_bound : (moment more : ℕ) → moments_bits [] moment more ≡ []
none_bound moment zero = refl
none_bound moment (suc more) = none_bound (moment + 1) more

drop_all : (bound : List Bound) (begun : ℕ) → begun ≡ length bound → drop begun bound ≡ []
drop_all [] zero all = refl
drop_all [] (suc begun) all = absurd (omega (arith, all))
drop_all (b ∷ bound) zero all = absurd (omega (arith, all))
drop_all (b ∷ bound) (suc begun) all = drop_all bound begun (omega (arith, all))

-- What is left as a moment begins is what was left as the one before ended.
pub moment_turn : (moment more variable bit begun : ℕ) (nets : List ℕ) (bound : List Bound) → length nets ≡ 0 → begun ≡ length bound → 0 < more
    → bits_from (moment + 1) variable bit nets ++ (moment_bits (moment + 1) (drop 0 bound) ++ moments_bits bound (moment + 1 + 1) (more - 1))
    ≡ bits_from moment variable bit nets ++ (moment_bits moment (drop begun bound) ++ moments_bits bound (moment + 1) more)
moment_turn moment more variable bit begun (net ∷ nets) bound none all some = absurd (omega (arith, none))
moment_turn moment more variable bit begun [] bound none all some = rw (drop_all bound begun all) (sym (moment_begun moment more bound some))

pub moment_none : (moment more variable bit : ℕ) (nets : List ℕ) (bound : List Bound) → length nets ≡ 0 → 0 ≡ length bound
    → bits_from (moment + 1) variable bit nets ++ (moment_bits (moment + 1) (drop 0 bound) ++ moments_bits bound (moment + 1 + 1) more) ≡ []
moment_none moment more variable bit (net ∷ nets) bound none empty = absurd (omega (arith, none))
moment_none moment more variable bit [] (b ∷ bound) none empty = absurd (omega (arith, empty))
moment_none moment more variable bit [] [] none empty = none_bound (moment + 1 + 1) more

-- What is left as a variable begins is what was left before.
pub variable_turn : (moment variable bit begun : ℕ) (nets : List ℕ) (bound : List Bound) (b : Bound) (rest : List BoundBit) → length nets ≡ 0 → begun < length bound → b ≡ get_or bound begun b
    → bits_from moment b.variable 0 b.bits ++ (moment_bits moment (drop (begun + 1) bound) ++ rest)
    ≡ bits_from moment variable bit nets ++ (moment_bits moment (drop begun bound) ++ rest)
variable_turn moment variable bit begun (net ∷ nets) bound b rest none within is = absurd (omega (arith, none))
variable_turn moment variable bit begun [] bound b rest none within is = sym (variable_begun moment begun bound b rest within is)

-- ---- where the bits are

by_recursion : {X : Type 0} (P : X → Type 0) (xs : List X) → All P xs → AllByRecursion P xs
by_recursion P [] all = tt
by_recursion P (x ∷ xs) all = (all 0 x (omega arith), by_recursion P xs (λ k y less. all (suc k) y (omega (arith, less))))

both : {X : Type 0} (P : X → Type 0) (xs ys : List X) → AllByRecursion P xs → AllByRecursion P ys → AllByRecursion P (xs ++ ys)
both P [] ys front back = back
both P (x ∷ xs) ys front back = (front.0, both P xs ys front.1 back)

module _ (design : Design) (moments : ℕ) where
  from_within : (moment variable bit : ℕ) (nets : List ℕ) → moment < moments → AllByRecursion (λ net. net < length design.nets) nets
      → AllByRecursion (IsBitOf design moments) (bits_from moment variable bit nets)
  from_within moment variable bit [] low within = tt
  from_within moment variable bit (net ∷ nets) low within =
      (record { moment = low; net = within.0 }, from_within moment variable (bit + 1) nets low within.1)

  moment_within : (moment : ℕ) (bound : List Bound) → moment < moments → AllByRecursion (FitsBound design) bound
      → AllByRecursion (IsBitOf design moments) (moment_bits moment bound)
  moment_within moment [] low fits = tt
  moment_within moment (b ∷ bound) low fits =
      both (IsBitOf design moments) (variable_bits moment b) (moment_bits moment bound)
      (from_within moment b.variable 0 b.bits low (by_recursion (λ net. net < length design.nets) b.bits fits.0.nets))
      (moment_within moment bound low fits.1)

  moments_within : (moment more : ℕ) (bound : List Bound) → moment + more ≤ moments → AllByRecursion (FitsBound design) bound
      → AllByRecursion (IsBitOf design moments) (moments_bits bound moment more)
  moments_within moment zero bound low fits = tt
  moments_within moment (suc more) bound low fits =
      both (IsBitOf design moments) (moment_bits moment bound) (moments_bits bound (moment + 1) more)
      (moment_within moment bound (omega (arith, low)) fits)
      (moments_within (moment + 1) more bound (omega (arith, low)) fits)

  -- Each bit is of one of the moments, and of a net of the design.
  pub bits_within : (bound : List Bound) → All (FitsBound design) bound → AllByRecursion (IsBitOf design moments) (bound_bits moments bound)
  bits_within bound fits = moments_within 0 moments bound (omega arith) (by_recursion (FitsBound design) bound fits)
