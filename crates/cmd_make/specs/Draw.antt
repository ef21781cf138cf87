-- Draws: a linear congruential generator of 64 bits (Knuth, The Art of Computer Programming, 3.3.4: MMIX).
use Rattle.std.specs.Prelude.{ℕ, zero, suc, ◌+◌, ◌*◌, ◌/◌, ◌%◌, ◌^◌}

-- The state after a draw.
unfoldable pub after_draw : ℕ → ℕ
after_draw state = (state * 6364136223846793005 + 1442695040888963407) % 2 ^ 64

-- What a draw below a limit gives: the state after it without its lowest 33 bits, modulo the limit.
unfoldable pub draw : ℕ → ℕ → ℕ
draw limit state = after_draw state / 2 ^ 33 % limit

-- The state after so many draws.
unfoldable pub after_draws : ℕ → ℕ → ℕ
after_draws zero state = state
after_draws (suc draws) state = after_draw (after_draws draws state)
