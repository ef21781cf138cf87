-- What passes for every assignment.
use Rattle.std.proofs.Common.{◌≡◌, ℕ, Bool, true, false, List, [], ◌∷◌, ◌++◌, map, refl, sym, ap, ◌∙◌, arith, ⊎_elim}
use Rattle.std.specs.List.{AllByRecursion, list_all}
use Rattle.std.proofs.lemmas.Bool.{and_parts, cases_eq}
use Rattle.design_cell.specs.declared.value.Value.{Value}
use Rattle.design_circuit.specs.Job.{Job}
use Rattle.design_circuit.specs.Rule.{arguments}
use Rattle.design_circuit.specs.World.{decided}
use Rattle.design_circuit.proofs.Rules.{AgreeOn}
use Rattle.law_model.specs.Assignment.{with_bit, choices, assigned, for_every}

all_append : {A : Type 0} (test : A → Bool) (xs ys : List A) → list_all test (xs ++ ys) ≡ true
    → (list_all test xs ≡ true) × (list_all test ys ≡ true)
all_append test [] ys all = (refl, all)
all_append test (x ∷ xs) ys all =
    let parts = and_parts (test x) (list_all test (xs ++ ys)) all in
    let both = all_append test xs ys parts.1 in
    (rw (parts.0, both.0) refl, both.1)

all_map : {A B : Type 0} (test : B → Bool) (f : A → B) (xs : List A) → list_all test (map f xs) ≡ true
    → list_all (λ x. test (f x)) xs ≡ true
all_map test f [] all = refl
all_map test f (x ∷ xs) all =
    let parts = and_parts (test (f x)) (list_all test (map f xs)) all in
    rw (parts.0, all_map test f xs parts.1) refl

pub each_passes : {A : Type 0} (test : A → Bool) (xs : List A) → ((x : A) → test x ≡ true) → list_all test xs ≡ true
each_passes test [] passes = refl
each_passes test (x ∷ xs) passes = rw (passes x, each_passes test xs passes) refl

-- The choice that agrees with some bits on the places.
abbrev pub chosen : List ℕ → (ℕ → Bool) → ℕ → Bool
chosen [] bits = λ place. false
chosen (first ∷ places) bits = with_bit first (bits first) (chosen places bits)

either_passes : (test : (ℕ → Bool) → Bool) (first : ℕ) (other : ℕ → Bool) (bit : Bool)
    → test (with_bit first false other) ≡ true → test (with_bit first true other) ≡ true
    → test (with_bit first bit other) ≡ true
either_passes test first other false zeros ones = zeros
either_passes test first other true zeros ones = ones

pub chosen_passes : (test : (ℕ → Bool) → Bool) (places : List ℕ) (bits : ℕ → Bool) → list_all test (choices places) ≡ true
    → test (chosen places bits) ≡ true
chosen_passes test [] bits all = (and_parts (test (λ place. false)) true all).0
chosen_passes test (first ∷ places) bits all =
    let both = all_append test (map (with_bit first false) (choices places))
    (map (with_bit first true) (choices places)) all in
    let zeros = chosen_passes (λ b. test (with_bit first false b)) places bits
    (all_map test (with_bit first false) (choices places) both.0) in
    let ones = chosen_passes (λ b. test (with_bit first true b)) places bits
    (all_map test (with_bit first true) (choices places) both.1) in
    either_passes test first (chosen places bits) (bits first) zeros ones

with_same : (first place : ℕ) (bits other : ℕ → Bool) → other place ≡ bits place
    → with_bit first (bits first) other place ≡ bits place
with_same first place bits other same =
    ⊎_elim (λ (h : place ≡ first). (rw h (here first))) (λ (h : place ≡ first → ⊥). other_place h)
    (cases_eq place first)
  where
    here : (k : ℕ) → with_bit k (bits k) other k ≡ bits k
    here k = grind arith

    other_place : (place ≡ first → ⊥) → with_bit first (bits first) other place ≡ bits place
    other_place h = grind arith

all_along : (P Q : ℕ → Type 0) (xs : List ℕ) → ((k : ℕ) → P k → Q k) → AllByRecursion P xs → AllByRecursion Q xs
all_along P Q [] more all = tt
all_along P Q (x ∷ xs) more all = (more x all.0, all_along P Q xs more all.1)

itself : (first : ℕ) (bits other : ℕ → Bool) → with_bit first (bits first) other first ≡ bits first
itself first bits other = grind arith

pub chosen_agrees : (places : List ℕ) (bits : ℕ → Bool) → AgreeOn (chosen places bits) bits places
chosen_agrees [] bits = tt
chosen_agrees (first ∷ places) bits = (
  itself first bits (chosen places bits),
  all_along _ _ places
      (λ k same. with_same first k bits (chosen places bits) same) (chosen_agrees places bits),
)

pub assigned_agrees : (c : ℕ → Value) (f g : ℕ → Bool) (places : List ℕ) → AgreeOn f g places
    → AgreeOn (assigned c f) (assigned c g) places
assigned_agrees c f g places agree = all_along _ _ places (λ k same. ap (decided (c k)) same) agree

-- A test that reads the argument places alone passes for every assignment exactly where it passes for all bits.
pub every_passes : (j : Job) (c : ℕ → Value) (place : ℕ) (test : (ℕ → Bool) → Bool)
    → ((f g : ℕ → Bool) → AgreeOn f g (arguments j c place) → test f ≡ test g) → for_every j c place test ≡ true
    → (bits : ℕ → Bool) → test (assigned c bits) ≡ true
unfolding for_every
every_passes j c place test reads all bits =
    let places = arguments j c place in
    let passes = chosen_passes (λ b. test (assigned c b)) places bits all in
    reads (assigned c bits) (assigned c (chosen places bits))
    (assigned_agrees c bits (chosen places bits) places
    (agree_sym (chosen places bits) bits places (chosen_agrees places bits))) ∙ passes
  where
    agree_sym : (f g : ℕ → Bool) (places : List ℕ) → AgreeOn f g places → AgreeOn g f places
    agree_sym f g places agree = all_along _ _ places (λ k same. sym same) agree

pub passes_every : (j : Job) (c : ℕ → Value) (place : ℕ) (test : (ℕ → Bool) → Bool)
    → ((bits : ℕ → Bool) → test (assigned c bits) ≡ true) → for_every j c place test ≡ true
unfolding for_every
passes_every j c place test passes = each_passes (λ b. test (assigned c b)) (choices (arguments j c place)) passes

all_same : {A : Type 0} (f g : A → Bool) (xs : List A) → ((x : A) → f x ≡ g x) → list_all f xs ≡ list_all g xs
all_same f g [] same = refl
all_same f g (x ∷ xs) same = rw (same x, all_same f g xs same) refl

-- Two tests that are the same on every choice, over the same argument places.
pub every_same : (j : Job) (c d : ℕ → Value) (place : ℕ) (test other : (ℕ → Bool) → Bool)
    → arguments j c place ≡ arguments j d place → ((bits : ℕ → Bool) → test (assigned c bits) ≡ other (assigned d bits))
    → for_every j c place test ≡ for_every j d place other
unfolding for_every
every_same j c d place test other places same =
    all_same (λ b. test (assigned c b)) (λ b. other (assigned d b)) (choices (arguments j c place)) same
    ∙ ap (λ ps. list_all (λ b. other (assigned d b)) (choices ps)) places
