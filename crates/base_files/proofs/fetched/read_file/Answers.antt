-- What the reads note, turn by turn.
use Rattle.std.proofs.Common.{refl, take, ◌++◌, arith}
use Rattle.base_files.proofs.Fetching.{anew_as, more_as, reading_starts, reading_grows, reading_ends, reading_fails, reading_others, reading_others_ended, end_others, given_whole, given_long}
use Rattle.base_files.proofs.fetched.read_file.Goals as goal

pub turns-init : goal.turns-init
turns-init g c = reading_starts _ _ _ _ _ c.new-text.ensures.items (anew_as _ _ _ _ _ c.as_bytes.ensures.value c.set.ensures)

pub returns-in_default-read_noted-clause-others : goal.returns-in_default-read_noted-clause-others
returns-in_default-read_noted-clause-others g c = reading_fails _ _ _ _ _ _ _ c.turns.invariant c.in_default-read_noted.ensures.err

pub returns-in_default-read_noted-clause-others_ended : goal.returns-in_default-read_noted-clause-others_ended
returns-in_default-read_noted-clause-others_ended g c = reading_others_ended _ _ _ _ _ _ c.turns.invariant

pub returns-then-count-eq0-clause-others : goal.returns-then-count-eq0-clause-others
returns-then-count-eq0-clause-others g c =
    reading_others _ _ _ _ _ _ (reading_ends _ _ c.read_noted.new.buffer c.in-Ok-read_noted.count _ _ _ _ _ c.turns.invariant c.if-count-eq0.true (more_as c.as_bytes-in-turns.result.now c.args.name.now (take c.in-Ok-read_noted.count c.read_noted.new.buffer) c.turns.gave.entries c.read_noted.new.gave.entries c.as_bytes-in-turns.ensures.value c.in-Ok-read_noted.ensures.noted))

pub returns-then-count-eq0-clause-others_ended : goal.returns-then-count-eq0-clause-others_ended
returns-then-count-eq0-clause-others_ended g c = end_others _ _ c.as_slice.result.now _ _ _ _ _ c.turns.invariant (anew_as _ _ _ _ _ c.as_bytes-then-count-eq0.ensures.value c.set-then-count-eq0.ensures)

pub returns-then-count-eq0-clause-given : goal.returns-then-count-eq0-clause-given
returns-then-count-eq0-clause-given g c =
    given_whole _ _ _ c.as_slice.result.now _ _ _ _ _
    (reading_ends _ _ c.read_noted.new.buffer c.in-Ok-read_noted.count _ _ _ _ _ c.turns.invariant c.if-count-eq0.true (more_as c.as_bytes-in-turns.result.now c.args.name.now (take c.in-Ok-read_noted.count c.read_noted.new.buffer) c.turns.gave.entries c.read_noted.new.gave.entries c.as_bytes-in-turns.ensures.value c.in-Ok-read_noted.ensures.noted))
    (anew_as _ _ _ _ _ c.as_bytes-then-count-eq0.ensures.value c.set-then-count-eq0.ensures) c.as_slice.ensures.value

pub turns-preserved : goal.turns-preserved
turns-preserved g c = reading_grows _ _ _ _ _ _ _ _ _ c.turns.invariant (more_as c.as_bytes-in-turns.result.now c.args.name.now (take c.in-Ok-read_noted.count c.read_noted.new.buffer) c.turns.gave.entries c.read_noted.new.gave.entries c.as_bytes-in-turns.ensures.value c.in-Ok-read_noted.ensures.noted) c.in_ok-extend_from_slice.ensures.items

pub returns-in_err-extend_from_slice-clause-others : goal.returns-in_err-extend_from_slice-clause-others
returns-in_err-extend_from_slice-clause-others g c =
    reading_others _ _ _ _ _ _ (reading_grows _ _ (c.turns.text.items ++ take c.in-Ok-read_noted.count c.read_noted.new.buffer) _ _ _ _ _ _ c.turns.invariant (more_as c.as_bytes-in-turns.result.now c.args.name.now (take c.in-Ok-read_noted.count c.read_noted.new.buffer) c.turns.gave.entries c.read_noted.new.gave.entries c.as_bytes-in-turns.ensures.value c.in-Ok-read_noted.ensures.noted) refl)

pub returns-in_err-extend_from_slice-clause-others_ended : goal.returns-in_err-extend_from_slice-clause-others_ended
returns-in_err-extend_from_slice-clause-others_ended g c = reading_others_ended _ _ _ _ _ _ c.turns.invariant

pub returns-clause-others : goal.returns-clause-others
returns-clause-others g c = reading_others _ _ _ _ _ _ c.turns.invariant

pub returns-clause-others_ended : goal.returns-clause-others_ended
returns-clause-others_ended g c = reading_others_ended _ _ _ _ _ _ c.turns.invariant

pub returns-clause-given : goal.returns-clause-given
returns-clause-given g c = given_long _ _ _ _ _ _ _ c.turns.invariant (omega arith)
