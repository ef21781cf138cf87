-- The names of the nets so far.
use Rattle.std.proofs.Common.{◌≡◌, map, take}
use Rattle.cmd_job.specs.Names.{net_name}
use Rattle.cmd_job.proofs.names.written_names.Given as goal

abbrev pub invariant-nets : goal.invariant-nets
invariant-nets l = l.names.items ≡ map (net_name l.design) (take l.net-index l.nets)
