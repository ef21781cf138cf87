-- The texts stay what was given, of the names so far.
use Rattle.std.proofs.Common.{◌≡◌}
use Rattle.std.specs.Prelude.{map, string_bytes}
use Rattle.base_files.specs.Fetched.{AddsAmong, IsFetched}
use Rattle.base_files.proofs.fetched.Fetched.fetch_all.Given as goal

abbrev pub invariant-names : goal.invariant-names
invariant-names g l =
    IsFetched l.self × (l.self.limit ≡ l.fn.self.limit) × AddsAmong (map string_bytes l.names) l.fn.self l.self
