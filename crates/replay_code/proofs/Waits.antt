-- Waits for rounds, one by one.
use Rattle.std.proofs.Common.{◌≡◌, ℕ, suc, ◌+◌, ◌-◌, ◌<◌, ◌≤◌, [], ◌++◌, ap, arith}
use Rattle.replay_code.specs.Written.{round_lines, wait_line}

pub next_round : (n k : ℕ) → k < n → round_lines (n - k) ≡ wait_line 0 ++ round_lines (n - (k + 1))
next_round n k less = let more : n - k ≡ suc (n - (k + 1)) = omega (arith, less) in ap round_lines more

pub last_round : (n k : ℕ) → n ≤ k → round_lines (n - k) ≡ []
last_round n k most = let none : n - k ≡ 0 = omega (arith, most) in ap round_lines none
