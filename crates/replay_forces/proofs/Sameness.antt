-- Values and forces that are told apart.
use Rattle.std.proofs.Common.{◌≡◌, ◌≢◌, Bool, true, false, Option, None, Some, refl, sym, ap}
use Rattle.design_cell.specs.declared.value.Value.{Value}
use Rattle.design_cell.specs.declared.value.Value.TheVariants.{Zero, One, X, Z}
use Rattle.replay_forces.specs.Changes.{is_same, is_same_force}

pub same_value : (a b : Value) → is_same a b ≡ true → a ≡ b
same_value Zero Zero is = refl
same_value Zero One is = cc
same_value Zero X is = cc
same_value Zero Z is = cc
same_value One Zero is = cc
same_value One One is = refl
same_value One X is = cc
same_value One Z is = cc
same_value X Zero is = cc
same_value X One is = cc
same_value X X is = refl
same_value X Z is = cc
same_value Z Zero is = cc
same_value Z One is = cc
same_value Z X is = cc
same_value Z Z is = refl

pub value_same : (a : Value) → is_same a a ≡ true
value_same Zero = refl
value_same One = refl
value_same X = refl
value_same Z = refl

pub same_force : (a b : Option Value) → is_same_force a b ≡ true → a ≡ b
same_force None None is = refl
same_force None (Some b) is = cc
same_force (Some a) None is = cc
same_force (Some a) (Some b) is = ap Some (same_value a b is)

pub force_same : (a : Option Value) → is_same_force a a ≡ true
force_same None = refl
force_same (Some a) = value_same a

-- What tells two values apart says whether they are the same.
pub same_found : (a b : Value) (found : Bool) → (found ≡ true → a ≡ b) → (found ≡ false → a ≢ b) → found ≡ is_same a b
same_found a b true same differ = rw (same refl) (sym (value_same b))
same_found a b false same differ = either (is_same a b) (same_value a b) (differ refl)
  where
    either : (test : Bool) → (test ≡ true → a ≡ b) → a ≢ b → false ≡ test
    either true is apart = absurd (apart (is refl))
    either false is apart = refl
