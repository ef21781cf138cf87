-- The members of pools, by their numbers.
use Rattle.std.proofs.Common.{◌≡◌, ℕ, zero, suc, ◌+◌, ◌-◌, ◌<◌, false, [], ◌∷◌, ◌++◌, inl, inr, length, get_or, refl, sym, ap, ◌∙◌, arith, length-append}
use Rattle.std.proofs.lemmas.Bool.{cases_lt}
use Rattle.std.proofs.lemmas.Grind.{common_steps}
use Rattle.std.proofs.lemmas.List.{get_or_append_left, get_or-append_right}
use Rattle.std.specs.Prelude.{nat_lt}
use Rattle.cmd_make.specs.Draw.{draw}
use Rattle.cmd_make.specs.Pool.{drawn_member, first_pool, gate_name, member_name, pool_of}

pub pool_length : (gates : ℕ) → length (pool_of gates) ≡ 12 + gates
unfolding pool_of first_pool
pool_length zero = refl
pool_length (suc gate) =
    let e = length-append (pool_of gate) (gate_name gate ∷ []) in
    let f = pool_length gate in
    omega (arith, e, f)

-- the first twelve
first_is : (number : ℕ) → number < 12 → get_or first_pool number [] ≡ member_name number
unfolding first_pool member_name
first_is zero within = refl
first_is (suc zero) within = refl
first_is (suc (suc zero)) within = refl
first_is (suc (suc (suc zero))) within = refl
first_is (suc (suc (suc (suc zero)))) within = refl
first_is (suc (suc (suc (suc (suc zero))))) within = refl
first_is (suc (suc (suc (suc (suc (suc zero)))))) within = refl
first_is (suc (suc (suc (suc (suc (suc (suc zero))))))) within = refl
first_is (suc (suc (suc (suc (suc (suc (suc (suc zero)))))))) within = refl
first_is (suc (suc (suc (suc (suc (suc (suc (suc (suc zero))))))))) within = refl
first_is (suc (suc (suc (suc (suc (suc (suc (suc (suc (suc zero)))))))))) within = refl
first_is (suc (suc (suc (suc (suc (suc (suc (suc (suc (suc (suc zero))))))))))) within = refl
first_is (suc (suc (suc (suc (suc (suc (suc (suc (suc (suc (suc (suc number)))))))))))) within = absurd (omega (arith, within))

-- a gate behind them
gate_is : (gate : ℕ) → member_name (12 + gate) ≡ gate_name gate
unfolding member_name
gate_is gate =
    let large : nat_lt (12 + gate) 8 ≡ false = grind (arith, common_steps) in
    let larger : nat_lt (12 + gate) 12 ≡ false = grind (arith, common_steps) in
    let there : 12 + gate - 12 ≡ gate = omega arith in
    rw (large, larger) (ap gate_name there)

pub member_is : (gates number : ℕ) → number < 12 + gates → get_or (pool_of gates) number [] ≡ member_name number
unfolding pool_of
member_is zero number within = first_is number (omega (arith, within))
member_is (suc gate) number within = elim (cases_lt number (12 + gate)) as (λ _. get_or (pool_of gate ++ gate_name gate ∷ []) number [] ≡ member_name number) [
  | inl less ↦ (let all = pool_length gate in
      get_or_append_left (pool_of gate) (gate_name gate ∷ []) [] number (omega (arith, all, less)) ∙ member_is gate number less)
  | inr more ↦ (let is : number ≡ 12 + gate = omega (arith, within, more) in
      let none : number - (12 + gate) ≡ 0 = omega (arith, is) in
      get_or-append_right (pool_of gate) (gate_name gate ∷ []) (12 + gate) number [] (pool_length gate) more
      ∙ ap (λ n. get_or (gate_name gate ∷ []) n []) none
      ∙ sym (gate_is gate) ∙ ap member_name (sym is))
]

pub drawn_is : (gates state number : ℕ) → number ≡ draw (length (pool_of gates)) state → number < 12 + gates
    → member_name number ≡ drawn_member (pool_of gates) state
unfolding drawn_member
drawn_is gates state number is within = sym (member_is gates number within) ∙ ap (λ n. get_or (pool_of gates) n []) is
