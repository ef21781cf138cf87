-- A step more.
use Rattle.std.proofs.Common.{◌≡◌, ◌∙◌, ◌-◌, length, replicate, slice_index, arith, ap, drop}
use Rattle.std.specs.List.{slice_range}
use Rattle.std.proofs.lemmas.List.{length-replicate, take_at}
use Rattle.base_ledger.specs.Ledger.{row_with}
use Rattle.base_ledger.proofs.Kept.{fits_one, fits_two, kept_turned, ledger_turned}
use Rattle.base_ledger.proofs.ledger.Ledger.turn.Goals as goal

pub write-requires : goal.write-requires
write-requires c =
    let start : c.start_back-start.result ≡ slice_index c.self.inside.starts.items (length c.self.inside.starts.items - 1) = rw c.as_slice.ensures.value at c.start_back-start.ensures in
    let before : c.start_back-before.result ≡ slice_index c.self.inside.starts.items (length c.self.inside.starts.items - 2) = rw c.as_slice-2.ensures.value at c.start_back-before.ensures in
    fits_two c.self.inside.width (replicate c.self.inside.width c.self.inside.first) c.self.inside.changes.items c.self.inside.starts.items c.self.inside.row.items c.self.inside.one.items c.self.inside.two.items c.as_mut_slice.result.now c.deref.result.now c.start_back-before.result c.start_back-start.result (length-replicate c.self.inside.width c.self.inside.first) c.self.invariant start before c.as_mut_slice.ensures.value c.deref.ensures.value

pub write-requires-2 : goal.write-requires-2
write-requires-2 c =
    let start : c.start_back-start.result ≡ slice_index c.self.inside.starts.items (length c.self.inside.starts.items - 1) = rw c.as_slice.ensures.value at c.start_back-start.ensures in
    fits_one c.self.inside.width (replicate c.self.inside.width c.self.inside.first) c.self.inside.changes.items c.self.inside.starts.items c.self.inside.row.items c.self.inside.one.items c.self.inside.two.items c.as_mut_slice-2.result.now c.deref-2.result.now c.start_back-start.result (length c.as_slice-end.result.now) (length-replicate c.self.inside.width c.self.inside.first) c.self.invariant start (ap length c.as_slice-end.ensures.value) c.as_mut_slice-2.ensures.value c.deref-2.ensures.value

pub invariant_of-self-2 : goal.invariant_of-self-2
invariant_of-self-2 c =
    let start : c.start_back-start.result ≡ slice_index c.self.inside.starts.items (length c.self.inside.starts.items - 1) = rw c.as_slice.ensures.value at c.start_back-start.ensures in
    let before : c.start_back-before.result ≡ slice_index c.self.inside.starts.items (length c.self.inside.starts.items - 2) = rw c.as_slice-2.ensures.value at c.start_back-before.ensures in
    let two : c.write.new.row ≡ row_with c.self.inside.two.items (slice_range c.self.inside.changes.items c.start_back-before.result c.start_back-start.result) = rw (c.as_mut_slice.ensures.value, c.deref.ensures.value) at c.write.ensures in
    let one : c.write-2.new.row ≡ row_with c.self.inside.one.items (slice_range c.self.inside.changes.items c.start_back-start.result (length c.as_slice-end.result.now)) = rw (c.as_mut_slice-2.ensures.value, c.deref-2.ensures.value) at c.write-2.ensures in
    kept_turned c.self.inside.width (replicate c.self.inside.width c.self.inside.first) c.self.inside.changes.items c.self.inside.starts.items c.self.inside.row.items c.self.inside.one.items c.self.inside.two.items _ _ _ c.start_back-before.result c.start_back-start.result (length c.as_slice-end.result.now) c.self.invariant start before (ap length c.as_slice-end.ensures.value) c.in_ok-push.ensures.items
    (take_at c.write-2.new.row (drop (length c.write-2.new.row) c.self.inside.one.items) c.self.inside.one.len (let a = c.write-2.auto.row in let b = c.as_mut_slice-2.ensures.len in omega (arith, a, b)) ∙ one)
    (take_at c.write.new.row (drop (length c.write.new.row) c.self.inside.two.items) c.self.inside.two.len (let a = c.write.auto.row in let b = c.as_mut_slice.ensures.len in omega (arith, a, b)) ∙ two)

pub returns-clause-ok : goal.returns-clause-ok
returns-clause-ok c = ledger_turned c.self.inside.width (replicate c.self.inside.width c.self.inside.first) c.self.inside.changes.items c.self.inside.starts.items c.push.new.self.items c.args.self.now (length c.as_slice-end.result.now) c.self.invariant.some (ap length c.as_slice-end.ensures.value) c.in_ok-push.ensures.items c.self.view_is
