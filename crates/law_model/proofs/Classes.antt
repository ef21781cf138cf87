-- Laws of the classes.
use Rattle.std.proofs.Common.{◌≡◌, ℕ, zero, suc, ◌<◌, Bool, true, false, List, [], ◌∷◌, ◌++◌, length, refl, arith, add-one, length-append, if◌then◌else◌, subst, inl, inr, ◌⊎◌, Contains}
use Rattle.std.specs.List.{AllByRecursion}
use Rattle.std.proofs.Math.ListN.{get_or-append}
use Rattle.std.proofs.Math.Seq.{get_or-append_seam}
use Rattle.design_cell.specs.declared.value.Value.{Value}
use Rattle.design_cell.specs.declared.value.Value.TheVariants.{Zero, One, X, Z}
use Rattle.design_cell.specs.Value.{bit_value}
use Rattle.design_circuit.specs.Job.{Job, at}
use Rattle.design_circuit.specs.Rule.{arguments}
use Rattle.design_circuit.proofs.Prefix.{prefix}
use Rattle.law_model.specs.Class.{is_bit, is_local, is_free, is_carrier, passes_on, carried_or_line, before, class_by, class_in, classes, class_of}
use Rattle.law_model.specs.declared.class.ClassByNumber.{ClassByNumber}
use Rattle.law_model.specs.declared.class.ClassByNumber.TheVariants.{Local, Free, Carried, Line}

-- A value that is a bit.
pub bit_is : (v : Value) (bit : Bool) → is_bit v bit ≡ true → v ≡ bit_value bit
bit_is Zero false is = refl
bit_is Zero true is = cc
bit_is One false is = cc
bit_is One true is = refl
bit_is X bit is = cc
bit_is Z bit is = cc

-- What a class says of its place, over the classes of the places before it.
abbrev pub ClassSays : Job → (ℕ → Value) → (ℕ → ClassByNumber) → ℕ → ClassByNumber → Type 0
ClassSays j c class place (Local bit) = is_local j c place bit ≡ true
ClassSays j c class place Free = is_free j c place ≡ true
ClassSays j c class place (Carried from inverted) =
    ((passes_on j c class place ≡ true) × (from ≡ before j place) × (inverted ≡ false)) ⊎ Contains (arguments j c place)
    from × (is_carrier j c place from inverted ≡ true)
ClassSays j c class place Line = Unit {0}

-- What holds of each element holds of one.
pub all_at : (P : ℕ → Type 0) (xs : List ℕ) (x : ℕ) → AllByRecursion P xs → Contains xs x → P x
all_at P [] x all at = absurd (omega arith)
all_at P (y ∷ ys) x all (zero, less, is) = subst P is all.0
all_at P (y ∷ ys) x all (suc k, less, is) = all_at P ys x all.1 (k, omega arith, is)

pub in_front : (x : ℕ) (xs : List ℕ) → Contains (x ∷ xs) x
in_front x xs = (0, omega arith, refl)

pub behind : (y x : ℕ) (xs : List ℕ) → Contains xs x → Contains (y ∷ xs) x
behind y x xs at = (suc at.0, (let less = at.1 in omega (arith, less)), at.2)

pick : (Says : ClassByNumber → Type 0) (a b d e : Bool) (from : ℕ) (other : ClassByNumber)
    → (a ≡ true → Says (Local false)) → (b ≡ true → Says (Local true)) → (d ≡ true → Says Free)
    → (e ≡ true → Says (Carried from false)) → Says other
    → Says (if a then Local false else if b then Local true else if d then Free else if e then Carried from
    false else other)
pick Says true b d e from other zeros ones free on rest = zeros refl
pick Says false true d e from other zeros ones free on rest = ones refl
pick Says false false true e from other zeros ones free on rest = free refl
pick Says false false false true from other zeros ones free on rest = on refl
pick Says false false false false from other zeros ones free on rest = rest

pick_one : (Says : ClassByNumber → Type 0) (a b : Bool) (from : ℕ) (other : ClassByNumber)
    → (a ≡ true → Says (Carried from false)) → (b ≡ true → Says (Carried from true)) → Says other
    → Says (if a then Carried from false else if b then Carried from true else other)
pick_one Says true b from other as_is inverted rest = as_is refl
pick_one Says false true from other as_is inverted rest = inverted refl
pick_one Says false false from other as_is inverted rest = rest

carried_says : (j : Job) (c : ℕ → Value) (class : ℕ → ClassByNumber) (place : ℕ) (places : List ℕ)
    → ((k : ℕ) → Contains places k → Contains (arguments j c place) k)
    → ClassSays j c class place (carried_or_line j c place places)
carried_says j c class place [] are = tt
carried_says j c class place (from ∷ others) are =
    pick_one (ClassSays j c class place) (is_carrier j c place from false) (is_carrier j c place from true)
    from (carried_or_line j c place others) (λ h. inr (are from (in_front from others), h))
    (λ h. inr (are from (in_front from others), h))
    (carried_says j c class place others (λ k at. are k (behind from k others at)))

-- The class of a place says what it is to say.
pub class_says : (j : Job) (c : ℕ → Value) (class : ℕ → ClassByNumber) (place : ℕ)
    → ClassSays j c class place (class_by j c class place)
class_says j c class place =
    pick (ClassSays j c class place) (is_local j c place false) (is_local j c place true) (is_free j c place)
    (passes_on j c class place) (before j place) (carried_or_line j c place (arguments j c place)) (λ h. h) (λ h. h)
    (λ h. h) (λ h. inl (h, refl, refl)) (carried_says j c class place (arguments j c place) (λ k at. at))

-- The classes of the first n places are n.
pub classes_length : (j : Job) (c : ℕ → Value) (n : ℕ) → length (classes j c n) ≡ n
unfolding classes
classes_length j c zero = refl
classes_length j c (suc n) = let ih = classes_length j c n in simp length-append (omega arith)

kept : (j : Job) (c : ℕ → Value) (n i : ℕ) → i < n → class_in (classes j c (suc n)) i ≡ class_in (classes j c n) i
unfolding classes
kept j c n i within = let len = classes_length j c n in get_or-append (classes j c n) _ Line i (omega (arith, len))

-- The classes up to n have at i the class of the place i.
pub classes_prefix : (j : Job) (c : ℕ → Value) (n i : ℕ) → i < n → class_in (classes j c n) i ≡ class_of j c i
classes_prefix j c n i within = prefix (classes j c) Line (kept j c) n i within

-- The class of a place is that which the classes before it give.
pub class_rule : (j : Job) (c : ℕ → Value) (place : ℕ)
    → class_of j c place ≡ class_by j c (class_in (classes j c place)) place
unfolding classes
class_rule j c place =
    let earlier = classes j c place in
    let here = class_by j c (class_in earlier) place in
    let long : length earlier ≡ place = classes_length j c place in
    let seam : class_in (earlier ++ here ∷ []) place ≡ here = subst (λ n. class_in (earlier ++ here ∷ []) n ≡ here) long
    (get_or-append_seam earlier here [] Line) in
    rw add-one seam
