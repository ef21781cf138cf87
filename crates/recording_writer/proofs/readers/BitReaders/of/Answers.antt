-- The nets of a binding's bits are those of the design.
use Rattle.std.proofs.Common.{◌≤◌, length, rules}
use Rattle.replay_history.proofs.Bindings.{bits_within}
use Rattle.recording_writer.proofs.readers.BitReaders.of.Goals as goal

pub bit_readers-requires-clause-within : goal.bit_readers-requires-clause-within
bit_readers-requires-clause-within c =
    let wide : length c.args.design.now.nets ≤ c.max-room.result = search rules in
    bits_within c.args.design.now c.args.bound.now c.max-room.result wide c.requires.bound
