-- The texts have a first fault.
use Rattle.std.proofs.Common.{refl}
use Rattle.cmd_program.proofs.proved.count_of.Goals as goal

pub returns-in-Err-Refused : goal.returns-in-Err-Refused
returns-in-Err-Refused c =
    let fault = rw c.in-Err-Refused.field-0-is at c.in-Err-Refused.ensures.fault in
    record { found = tt; refused = (c.in-Err-Refused.fault, fault, refl) }
