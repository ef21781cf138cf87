-- Pins as numbers.
use Rattle.std.proofs.Common.{◌≡◌, ℕ, zero, suc, ◌+◌, ◌-◌, ◌*◌, ◌^◌, ◌<◌, ◌≤◌, ◌==◌, ◌&&◌, nat_lt, List, [], ◌∷◌, ◌++◌, length, refl, sym, ap, subst, ◌∙◌, if◌then◌else◌, arith, Bool, true, false, inl, inr, add-zero, take, get_or, cond, Option, Some}
use Rattle.std.specs.Int.{bit_at}
use Rattle.std.specs.Map.{lookup}
use Rattle.std.proofs.Math.Nat.{pow-suc}
use Rattle.std.proofs.Math.Pow.{pow_mono}
use Rattle.std.proofs.lemmas.List.{length-take-le, take_more, get_or_default}
use Rattle.std.proofs.lemmas.Bool.{cases_lt, lt-ltb, le-ltb, and_parts, eqb-true}
use Rattle.std.proofs.lemmas.Nat.Bits.{bit_at_above, bit_at_cat_low, bit_at_cat_high}
use Rattle.design_cell.specs.Table.{Table}
use Rattle.design_cell.specs.Clock.{is_clock}
use Rattle.design_circuit.specs.declared.design.Pin.{Pin}
use Rattle.design_circuit.specs.declared.design.Pin.TheVariants.{Net, Bit, Dead}
use Rattle.design_circuit.specs.Job.{primitive_of, no_primitive}
use Rattle.design_circuit.specs.Fits.{is_dead, dead_pins}
use Rattle.elab_prims.specs.Pins.{clock_bits, clocks_of, AreClocks, AreMasks, same_key}

twice : (b : Bool) (n k : ℕ) → 2 * (n + (if b then 2 ^ k else 0)) ≡ 2 * n + (if b then 2 ^ suc k else 0)
twice true n k = rw (pow-suc 2 k) (omega arith)
twice false n k = omega arith

twice_and_one : (b : Bool) (n k : ℕ) → 1 + 2 * (n + (if b then 2 ^ k else 0)) ≡ 1 + 2 * n + (if b then 2 ^ suc k else 0)
twice_and_one true n k = rw (pow-suc 2 k) (omega arith)
twice_and_one false n k = omega arith

-- one pin more
pub dead_more : (pins : List Pin) (pin : Pin) → dead_pins (pins ++ pin ∷ []) ≡ dead_pins pins + (if is_dead pin then 2 ^ length pins else 0)
dead_more [] (Net net) = refl
dead_more [] (Bit bit) = refl
dead_more [] Dead = refl
dead_more (Net net ∷ pins) pin = ap (λ (n : ℕ). 2 * n) (dead_more pins pin) ∙ twice (is_dead pin) (dead_pins pins) (length pins)
dead_more (Bit bit ∷ pins) pin = ap (λ (n : ℕ). 2 * n) (dead_more pins pin) ∙ twice (is_dead pin) (dead_pins pins) (length pins)
dead_more (Dead ∷ pins) pin = ap (λ (n : ℕ). 1 + 2 * n) (dead_more pins pin) ∙ twice_and_one (is_dead pin) (dead_pins pins) (length pins)

-- As many bits as pins.
pub dead_small : (pins : List Pin) → dead_pins pins < 2 ^ length pins
dead_small [] = omega arith
dead_small (Net net ∷ pins) = let less : dead_pins pins < 2 ^ length pins = dead_small pins in rw (pow-suc 2 (length pins)) (omega arith)
dead_small (Bit bit ∷ pins) = let less : dead_pins pins < 2 ^ length pins = dead_small pins in rw (pow-suc 2 (length pins)) (omega arith)
dead_small (Dead ∷ pins) = let less : dead_pins pins < 2 ^ length pins = dead_small pins in rw (pow-suc 2 (length pins)) (omega arith)

-- ---- a bit more

more_small : (b : Bool) (m n : ℕ) → m < 2 ^ n → m + (if b then 2 ^ n else 0) < 2 ^ suc n
more_small true m n less = rw (pow-suc 2 n) (omega arith)
more_small false m n less = rw (pow-suc 2 n) (omega arith)

bit_below : (b : Bool) (m n i : ℕ) → i < n → bit_at (m + (if b then 2 ^ n else 0)) i ≡ bit_at m i
bit_below true m n i below = let e : m + 2 ^ n ≡ 1 * 2 ^ n + m = omega arith in ap (λ (k : ℕ). bit_at k i) e ∙ bit_at_cat_low 1 n m i below
bit_below false m n i below = ap (λ (k : ℕ). bit_at k i) (add-zero m)

bit_here : (b : Bool) (m n : ℕ) → m < 2 ^ n → (bit_at (m + (if b then 2 ^ n else 0)) n == 1) ≡ b
bit_here true m n less =
    let e : m + 2 ^ n ≡ 1 * 2 ^ n + m = omega arith in
    let none : n - n ≡ 0 = omega arith in
    let one : bit_at (m + 2 ^ n) n ≡ 1 = ap (λ (k : ℕ). bit_at k n) e ∙ bit_at_cat_high 1 n m n less (omega arith) ∙ ap (λ (k : ℕ). bit_at 1 k) none in
    ap (λ (k : ℕ). k == 1) one
bit_here false m n less = ap (λ (k : ℕ). k == 1) (ap (λ (k : ℕ). bit_at k n) (add-zero m) ∙ bit_at_above m n n less (omega arith))

module _ (table : Table) (dead : ℕ) where
  pub bits_small : (n : ℕ) → clock_bits table dead n < 2 ^ n
  bits_small zero = omega arith
  bits_small (suc n) = more_small (is_clock table dead n) (clock_bits table dead n) n (bits_small n)

  beyond : (n i : ℕ) → n ≤ i → (bit_at (clock_bits table dead n) i == 1) ≡ (nat_lt i n && is_clock table dead i)
  beyond n i above =
      ap (λ (k : ℕ). k == 1) (bit_at_above (clock_bits table dead n) n i (bits_small n) above)
      ∙ sym (ap (λ (b : Bool). b && is_clock table dead i) (le-ltb i n above))

  -- each bit says of its pin whether it is a clock pin
  pub bit_is_clock : (n i : ℕ) → (bit_at (clock_bits table dead n) i == 1) ≡ (nat_lt i n && is_clock table dead i)
  bit_is_clock zero i = beyond zero i (omega arith)
  bit_is_clock (suc n) i = elim (cases_lt i n) as (λ _. (bit_at (clock_bits table dead (suc n)) i == 1) ≡ (nat_lt i (suc n) && is_clock table dead i)) [
    | inl below ↦ (ap (λ (k : ℕ). k == 1) (bit_below (is_clock table dead n) (clock_bits table dead n) n i below) ∙ bit_is_clock n i
        ∙ ap (λ (b : Bool). b && is_clock table dead i) (lt-ltb i n below ∙ sym (lt-ltb i (suc n) (omega arith))))
    | inr above ↦ elim (cases_lt n i) as (λ _. (bit_at (clock_bits table dead (suc n)) i == 1) ≡ (nat_lt i (suc n) && is_clock table dead i)) [
      | inl past ↦ beyond (suc n) i (omega arith)
      | inr not_past ↦ (let here : n ≡ i = omega arith in
          subst (λ (k : ℕ). (bit_at (clock_bits table dead (suc n)) k == 1) ≡ (nat_lt k (suc n) && is_clock table dead k)) here
          (bit_here (is_clock table dead n) (clock_bits table dead n) n (bits_small n) ∙ sym (ap (λ (b : Bool). b && is_clock table dead n) (lt-ltb n (suc n) (omega arith)))))
    ]
  ]

-- The clock pins of an instance are as a register's must be.
pub clocks_fit : (table : Table) (pins : List Pin) → AreClocks table pins (clocks_of table pins)
clocks_fit table pins = record { each = λ pin small. bit_is_clock table (dead_pins pins) (length pins) pin }

-- ---- up to one of the pins

pub dead_more_at : (pins : List Pin) (k : ℕ) (d : Pin) → k < length pins → dead_pins (take (k + 1) pins) ≡ dead_pins (take k pins) + (if is_dead (get_or pins k d) then 2 ^ k else 0)
dead_more_at pins k d within =
    let long : length (take k pins) ≡ k = length-take-le k pins (omega arith) in
    ap dead_pins (take_more pins k d within) ∙ dead_more (take k pins) (get_or pins k d)
    ∙ ap (λ (n : ℕ). dead_pins (take k pins) + (if is_dead (get_or pins k d) then 2 ^ n else 0)) long

pub dead_small_at : (pins : List Pin) (k : ℕ) → k ≤ length pins → dead_pins (take k pins) < 2 ^ k
dead_small_at pins k within = let long : length (take k pins) ≡ k = length-take-le k pins within in subst (λ (n : ℕ). dead_pins (take k pins) < 2 ^ n) long (dead_small (take k pins))

-- One bit more has room.
pub bit_fits : (b : Bool) (m n : ℕ) → m < 2 ^ n → n < 9 → m + (if b then 2 ^ n else 0) < 512
bit_fits true m n less few = let most : 2 ^ n ≤ 256 = pow_mono {i = n} {j = 8} (omega arith) in omega arith
bit_fits false m n less few = let most : 2 ^ n ≤ 256 = pow_mono {i = n} {j = 8} (omega arith) in omega arith

-- ---- what is kept

pub kept : (udps self : List Table) (masks : List ((ℕ × ℕ) × ℕ)) (number dead mask : ℕ) (pins : List Pin) → AreMasks udps masks → udps ≡ self → lookup (same_key (number, dead)) masks ≡ Some mask
    → dead ≡ dead_pins pins → (primitive_of self number).inputs ≡ length pins → mask ≡ clocks_of (primitive_of self number) pins
kept udps self masks number dead mask pins are same found is inputs =
    are.each (number, dead) mask found ∙ ap (λ (us : List Table). clock_bits (primitive_of us number) dead (primitive_of us number).inputs) same
    ∙ ap (λ (d : ℕ). clock_bits (primitive_of self number) d (primitive_of self number).inputs) is ∙ ap (clock_bits (primitive_of self number) (dead_pins pins)) inputs

same_place : (a b : ℕ × ℕ) → same_key a b ≡ true → (a.0 ≡ b.0) × (a.1 ≡ b.1)
same_place a b h = let both = and_parts (a.0 == b.0) (a.1 == b.1) h in (eqb-true a.0 b.0 both.0, eqb-true a.1 b.1 both.1)

mask_by : (b : Bool) (udps : List Table) (k key : ℕ × ℕ) (v mask : ℕ) (old : Option ℕ) → same_key k key ≡ b → (old ≡ Some mask → mask ≡ clock_bits (primitive_of udps key.0) key.1 (primitive_of udps key.0).inputs)
    → v ≡ clock_bits (primitive_of udps k.0) k.1 (primitive_of udps k.0).inputs → cond b (Some v) old ≡ Some mask → mask ≡ clock_bits (primitive_of udps key.0) key.1 (primitive_of udps key.0).inputs
mask_by true udps k key v mask old is had new found =
    let same = same_place k key is in
    let value : mask ≡ v = cc in
    value ∙ new ∙ ap (λ (n : ℕ). clock_bits (primitive_of udps n) k.1 (primitive_of udps n).inputs) same.0 ∙ ap (λ (n : ℕ). clock_bits (primitive_of udps key.0) n (primitive_of udps key.0).inputs) same.1
mask_by false udps k key v mask old is had new found = had found

-- one more is kept
pub masks_more : (udps : List Table) (masks more : List ((ℕ × ℕ) × ℕ)) (k : ℕ × ℕ) (v : ℕ) → AreMasks udps masks
    → ((q : ℕ × ℕ) → lookup (same_key q) more ≡ cond (same_key k q) (Some v) (lookup (same_key q) masks)) → v ≡ clock_bits (primitive_of udps k.0) k.1 (primitive_of udps k.0).inputs → AreMasks udps more
masks_more udps masks more k v are updates new = record { each = λ key mask found. mask_by (same_key k key) udps k key v mask (lookup (same_key key) masks) refl (are.each key mask) new (sym (updates key) ∙ found) }

-- a primitive that is there
primitive_at : (udps : List Table) (number : ℕ) (t : Table) → number < length udps → get_or udps number t ≡ primitive_of udps number
primitive_at udps number t within = get_or_default udps number t no_primitive within

-- the clock pins of a primitive of the list
pub bits_of_inputs : (udps self : List Table) (number dead mask : ℕ) (t : Table) (count : ℕ) → udps ≡ self → number < length udps → mask ≡ clock_bits (get_or udps number t) dead count → (primitive_of self number).inputs ≡ count
    → mask ≡ clock_bits (primitive_of udps number) dead (primitive_of udps number).inputs
bits_of_inputs udps self number dead mask t count same within found inputs =
    let all : (primitive_of udps number).inputs ≡ count = ap (λ (us : List Table). (primitive_of us number).inputs) same ∙ inputs in
    found ∙ ap (λ (u : Table). clock_bits u dead count) (primitive_at udps number t within) ∙ ap (clock_bits (primitive_of udps number) dead) (sym all)

pub fit_anew : (udps self : List Table) (number dead mask : ℕ) (t : Table) (pins : List Pin) → udps ≡ self → number < length udps → mask ≡ clock_bits (get_or udps number t) dead (length pins) → dead ≡ dead_pins pins
    → AreClocks (primitive_of self number) pins mask
fit_anew udps self number dead mask t pins same within found dead_is =
    let all : mask ≡ clocks_of (primitive_of self number) pins =
    found ∙ ap (λ (u : Table). clock_bits u dead (length pins)) (primitive_at udps number t within) ∙ ap (λ (us : List Table). clock_bits (primitive_of us number) dead (length pins)) same
    ∙ ap (λ (d : ℕ). clock_bits (primitive_of self number) d (length pins)) dead_is in
    subst (λ (n : ℕ). AreClocks (primitive_of self number) pins n) (sym all) (clocks_fit (primitive_of self number) pins)
