-- The second comes in, and then those of the list.
use Rattle.std.proofs.Common.{map, string_bytes}
use Rattle.std.specs.Prelude.{option_map}
use Rattle.xrepair.proofs.Adding.{adds_then}
use Rattle.xrepair.proofs.inputs.fetch_later.Goals as goal

pub returns-clause-among : goal.returns-clause-among
returns-clause-among g c =
    let inputs = c.args.inputs.now in
    adds_then (option_map (λ s. s.now) inputs.second) (map string_bytes inputs.rest.now) c.args.fetched.now c.fetch_named.new.fetched c.fetch_all.new.self
    c.fetch_named.ensures.among c.fetch_all.ensures.among
