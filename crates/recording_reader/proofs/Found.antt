-- A code that is found has the number of a track.
use Rattle.std.proofs.Common.{◌≡◌, ℕ, suc, ◌+◌, ◌<◌, Bool, true, false, cond, List, [], ◌∷◌, length, Option, Some, IfSome, subst, arith}
use Rattle.recording_codes.specs.Code.{Code, find, find_from, found}
use Rattle.recording_codes.specs.declared.codes.Found.{Found}

within_if : (b : Bool) (x : Found) (r : Option Found) (m : ℕ) → x.number < m → IfSome r (λ (c : Found). c.number < m) → IfSome (cond b (Some x) r) (λ (c : Found). c.number < m)
within_if true x r m h k = h
within_if false x r m h k = k

within : (cs : List Code) (n : ℕ) (t : List ℕ) → IfSome (find_from n cs t) (λ (c : Found). c.number < n + length cs)
within [] n t = tt
within (c ∷ cs) n t =
    let e : n + 1 + length cs ≡ n + suc (length cs) = omega arith in
    within_if _ (found n c) (find_from (n + 1) cs t) (n + suc (length cs)) (omega arith) (rw (← e) (within cs (n + 1) t))

pub found_within : (cs : List Code) (t : List ℕ) (tracks : ℕ) → tracks ≡ length cs → IfSome (find cs t) (λ (c : Found). c.number < tracks)
found_within cs t tracks same =
    let P : ℕ → Type 0 = λ n. IfSome (find cs t) (λ (c : Found). c.number < n) in
    let e : 0 + length cs ≡ tracks = omega (arith, same) in
    subst P e (within cs 0 t)

pub within_same : (r : Option Found) (m n : ℕ) → m ≡ n → IfSome r (λ (c : Found). c.number < m) → IfSome r (λ (c : Found). c.number < n)
within_same r m n same h = subst (λ (k : ℕ). IfSome r (λ (c : Found). c.number < k)) same h
