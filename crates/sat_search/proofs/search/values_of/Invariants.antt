-- The values so far are those of the marks.
use Rattle.std.proofs.Common.{◌≡◌, ℕ, ◌<◌, ◌+◌, ◌*◌, false, length, slice_index_or}
use Rattle.sat_search.proofs.search.values_of.Given as goal

abbrev pub invariant-loop-n : goal.invariant-loop-n
invariant-loop-n l = record {
  len : length l.values.items ≡ l.n;
  so_far : (m : ℕ) → m < l.n → slice_index_or l.values.items m false ≡ slice_index_or l.marks (2 * m + 3) false;
}
