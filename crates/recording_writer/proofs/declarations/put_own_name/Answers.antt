-- The last part of a name is the own one.
use Rattle.std.proofs.Common.{◌≡◌, ◌∙◌, sym, ap, arith}
use Rattle.recording_writer.specs.Declarations.{own_name, recorded_part}
use Rattle.recording_writer.proofs.Grown.{own_name-last}
use Rattle.recording_writer.proofs.declarations.put_own_name.Goals as goal

pub returns-in-len1-up : goal.returns-in-len1-up
returns-in-len1-up c =
    let last : own_name c.args.parts.now ≡ recorded_part c.part-item.result = own_name-last c.args.parts.now c.part-item.result (omega arith) ∙ ap recorded_part (sym c.part-item.is) in
    rw last c.put_part.ensures
