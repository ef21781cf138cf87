-- The places below the bound are listed.
use Rattle.std.proofs.Common.{◌≡◌, ◌≤◌, ◌-◌, ◌^◌}
use Rattle.law_model.specs.Places.{among, places_where}
use Rattle.wave_class.proofs.arguments.ascending.Given as goal

abbrev pub invariant-rest : goal.invariant-rest
invariant-rest l = record {
  listed : l.rising ≡ places_where (among l.places) l.bound;
  low : l.bound ≤ 2 ^ 40;
}

abbrev pub decreases-rest : goal.decreases-rest
decreases-rest l = 2 ^ 40 - l.bound
