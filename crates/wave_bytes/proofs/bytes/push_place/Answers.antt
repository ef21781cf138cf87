-- The new byte says the facts of its place, and its value agrees with its class.
use Rattle.std.proofs.Common.{ap}
use Rattle.design_circuit.specs.Circuit.{job_in}
use Rattle.wave_bytes.specs.Rows.{RowsView, copied_next, root_place}
use Rattle.std.proofs.Common.{refl, slice_index_or, length}
use Rattle.wave_bytes.proofs.CopiedBytes.{copied_behind}
use Rattle.wave_bytes.proofs.KeptBytes.{written_behind}
use Rattle.wave_bytes.proofs.RowLaws.{room_for_one, rows_one}
use Rattle.wave_bytes.proofs.bytes.push_place.Goals as goal

pub is_copy-requires : goal.is_copy-requires
is_copy-requires c =
    room_for_one (job_in c.args.circuit.now) c.args.rows.now c.requires.rows c.requires.within

pub push_copy-requires-clause-room : goal.push_copy-requires-clause-room
push_copy-requires-clause-room c =
    room_for_one (job_in c.args.circuit.now) c.args.rows.now c.requires.rows c.requires.within

pub push-requires-clause-room : goal.push-requires-clause-room
push-requires-clause-room c =
    room_for_one (job_in c.args.circuit.now) c.args.rows.now c.requires.rows c.requires.within

pub returns-in_ok-push-clause-ok : goal.returns-in_ok-push-clause-ok
returns-in_ok-push-clause-ok c =
    written_behind (job_in c.args.circuit.now) c.args.circuit.now.fits.fits_job c.args.rows.now.bytes c.push.new.self.bytes
    c.next_byte-byte.result c.args.written c.requires.within c.requires.kept.told c.requires.agrees
    c.next_byte-byte.ensures.written c.next_byte-byte.ensures.facts
    (ap (λ (v : RowsView). v.bytes) c.in_ok-push.ensures.ok)

pub returns-in_ok-push-clause-rows : goal.returns-in_ok-push-clause-rows
returns-in_ok-push-clause-rows c =
    rows_one (job_in c.args.circuit.now) c.args.rows.now c.push.new.self c.next_byte-byte.result c.requires.rows
    c.in_ok-push.ensures.ok

pub returns-in_ok-push_copy-clause-ok : goal.returns-in_ok-push_copy-clause-ok
returns-in_ok-push_copy-clause-ok c =
    let rows = c.args.rows.now in
    copied_behind (job_in c.args.circuit.now) c.args.circuit.now.fits.fits_job rows c.requires.rows c.args.written
    rows.bytes c.push_copy.new.self.bytes
    (slice_index_or rows.bytes (root_place rows.width rows.roots (length rows.bytes)) 0)
    c.requires.within c.requires.kept.told c.requires.agrees c.requires.copies
    (c.is_copy.ensures.copy c.if-is_copy.true) refl
    (ap (λ (v : RowsView). v.bytes) c.in_ok-push_copy.ensures.ok)

pub returns-in_ok-push_copy-clause-rows : goal.returns-in_ok-push_copy-clause-rows
returns-in_ok-push_copy-clause-rows c =
    rows_one (job_in c.args.circuit.now) c.args.rows.now c.push_copy.new.self (copied_next c.args.rows.now)
    c.requires.rows c.in_ok-push_copy.ensures.ok
