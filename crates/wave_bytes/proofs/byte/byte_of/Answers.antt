-- The value and the mark are read back.
use Rattle.std.proofs.Common.{◌+◌, ◌*◌, arith}
use Rattle.wave_bytes.proofs.ByteDigits.{written_back}
use Rattle.wave_bytes.proofs.byte.byte_of.Goals as goal

pub returns-clause-written : goal.returns-clause-written
returns-clause-written c =
    written_back c.args.written c.bits_of_value-value.result c.bits_of_mark-mark.result
    (c.bit_of.result + 2 * c.bit_of-2.result + 8 * c.bit_of-3.result + 4 * c.bit_of-4.result)
    (c.bits_of_value-value.result + 4 * c.bits_of_mark-mark.result
    + (16 * c.bit_of.result + 32 * c.bit_of-2.result + 128 * c.bit_of-3.result) + 64 * c.bit_of-4.result)
    c.bits_of_value-value.ensures.bits c.bits_of_mark-mark.ensures.bits c.bits_of_value-value.ensures.few
    c.bits_of_mark-mark.ensures.few (omega arith)
