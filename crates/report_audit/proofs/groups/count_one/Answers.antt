-- A map in which a giver has one more.
use Rattle.std.proofs.Common.{ℕ, ◌+◌, Option, Some, List, ◌∙◌, ap, arith}
use Rattle.std.proofs.lemmas.Iterator.Adapters.{option_map_id}
use Rattle.std.proofs.lemmas.Map.Entries.{sum_by-insert_entry}
use Rattle.std.specs.Map.{update, values_of}
use Rattle.std.specs.Option.{unwrap_or}
use Rattle.std.specs.Ordering.{eq_by_cmp}
use Rattle.std.specs.Prelude.{sum}
use Rattle.report_audit.specs.Counted.{compared, count_of}
use Rattle.report_audit.specs.Groups.{Giver}
use Rattle.report_audit.proofs.Counting.{compared_total}
use Rattle.report_audit.proofs.groups.count_one.Goals as goal

pub overflow_add-before : goal.overflow_add-before
overflow_add-before c =
    let small = c.requires c.args.giver in
    let before = c.count_of-before.ensures in
    omega (arith, small, before)

pub returns : goal.returns
returns c =
    let old = c.args.counts.now in
    let giver = c.args.giver in
    let before = c.count_of-before.ensures in
    record {
      counts = λ other. c.in_ok-insert.ensures.updates.0 other
          ∙ ap (λ (n : ℕ). update (eq_by_cmp compared) (count_of old) giver (Some (n + 1)) other) before;
      total = (
          let step = sum_by-insert_entry (λ (x : ℕ). x) compared_total old.entries giver (c.count_of-before.result + 1)
          c.in_ok-insert.ensures.was_ordered in
          let same = ap (λ (o : Option ℕ). unwrap_or o 0) (option_map_id (count_of old giver)) in
          let new = ap (λ (es : List (Giver × ℕ)). sum (values_of es)) c.in_ok-insert.ensures.entries in
          omega (arith, step, same, new, before));
    }
