-- The first comes in, and then the others.
use Rattle.std.proofs.Common.{map, string_bytes}
use Rattle.std.specs.Prelude.{option_map}
use Rattle.cmd_set.specs.Command.{put_name}
use Rattle.xrepair.proofs.Adding.{adds_then}
use Rattle.xrepair.proofs.inputs.fetch_inputs.Goals as goal

pub returns-clause-among : goal.returns-clause-among
returns-clause-among g c =
    let inputs = c.args.inputs.now in
    adds_then (option_map (λ s. s.now) inputs.first) (put_name (option_map (λ s. s.now) inputs.second) (map string_bytes inputs.rest.now)) c.args.fetched.now c.fetch_named.new.fetched c.fetch_later.new.fetched
    c.fetch_named.ensures.among c.fetch_later.ensures.among
