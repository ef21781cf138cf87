use Rattle.std.specs.Prelude.{◌≡◌, take}
use Rattle.sat_watches.specs.Seen.{put_back}
use Rattle.sat_watches.proofs.seen.Seen.forget.Given as goal

abbrev pub invariant-met : goal.invariant-met
invariant-met l = record {
  met : l.self-inside.met.items ≡ l.initial.self-inside.met.items;
  flags : l.self-inside.flags.items ≡ put_back l.initial.self-inside.flags.items (take l.k l.self-inside.met.items);
}
