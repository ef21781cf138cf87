-- The recording's name is free, and each FILE's.
use Rattle.std.proofs.Common.{rules, IsTrue}
use Rattle.std.specs.Prelude.{string_bytes}
use Rattle.cmd_program.specs.Free.{IsFree}
use Rattle.base_line.proofs.Settling.{map_from, map_to}
use Rattle.cmd_program.proofs.commands.export.are_free.Goals as goal

pub returns-then-is_free : goal.returns-then-is_free
returns-then-is_free c =
    let free : IsTrue c.is_free.result = search rules in
    let P = IsFree c.args.prefix.now in
    let files = c.args.job.now.netlists.now in (
      λ yes. (c.is_free.ensures.0 free, map_to P string_bytes files (c.are_files_free.ensures.0 yes)),
      λ all. c.are_files_free.ensures.1 (map_from P string_bytes files all.1),
    )
