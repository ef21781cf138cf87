-- What taking the least net leaves of the set of nets that can come next. No contract of a public call names it.
use Rattle.std.specs.Prelude.{◌≡◌, ◌≢◌, ℕ, ◌<◌, Bool, true, false}

pub record Popped (ready now : ℕ → Bool) (net : ℕ) : Type 0 where
  pub here : ready net ≡ true
  pub gone : now net ≡ false
  pub others : (other : ℕ) → other ≢ net → now other ≡ ready other
  pub least : (other : ℕ) → other < net → ready other ≡ false
