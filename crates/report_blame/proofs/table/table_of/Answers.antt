-- The counts of the sorted sources, sorted, are the table.
use Rattle.std.proofs.Common.{◌<◌, ◌∙◌, All, List, ℕ, ap, map, sym, subst}
use Rattle.std.specs.List.Sorted.{IsNonDecreasing}
use Rattle.std.proofs.lemmas.List.Sorted.{IsNonDecreasingBy-from_sort}
use Rattle.std.proofs.lemmas.Result.{IfOk-weaker}
use Rattle.design_circuit.specs.Circuit.{job_in}
use Rattle.design_circuit.specs.Job.{places_of}
use Rattle.report_blame.specs.Table.{IsBlameTable}
use Rattle.report_blame.specs.Tally.{Counted, IsTally, row_at}
use Rattle.report_blame.proofs.Tables.{rows_within, table_is}
use Rattle.report_blame.proofs.table.table_of.Goals as goal

pub runs_of-requires : goal.runs_of-requires
runs_of-requires c = subst IsNonDecreasing (sym c.as_slice.ensures.value)
    (IsNonDecreasingBy-from_sort (λ (n : ℕ). n) c.sort.new.self.items c.in_ok-sort.ensures.sorted)

pub rows_at-requires : goal.rows_at-requires
rows_at-requires c = record {
  within =
      let j = job_in c.args.circuit.now in
      let tally : IsTally c.sort.new.self.items c.in_ok-rows.rows.items =
      subst (λ (l : List ℕ). IsTally l c.in_ok-rows.rows.items) c.as_slice.ensures.value c.in_ok-rows.ensures in
      subst (λ (l : List Counted). All (λ (row : Counted). row.1 < places_of j) l) (sym c.as_slice-2.ensures.value)
      (rows_within j c.args.circuit.now.fits.fits_job c.args.bits.now c.in_ok-numbers.numbers.items c.sort.new.self.items
      c.in_ok-rows.rows.items c.sort-2.new.self.items c.requires.sources c.in_ok-numbers.ensures
      c.in_ok-sort.ensures.permutation tally c.in_ok-sort-2.ensures.permutation);
}

pub returns : goal.returns
returns c =
    let j = job_in c.args.circuit.now in
    let tally : IsTally c.sort.new.self.items c.in_ok-rows.rows.items =
    subst (λ (l : List ℕ). IsTally l c.in_ok-rows.rows.items) c.as_slice.ensures.value c.in_ok-rows.ensures in
    let is = table_is j c.args.circuit.now.fits.fits_job c.args.bits.now c.in_ok-numbers.numbers.items c.sort.new.self.items
    c.in_ok-rows.rows.items c.sort-2.new.self.items c.requires.sources c.in_ok-numbers.ensures
    c.in_ok-sort.ensures.permutation tally c.in_ok-sort-2.ensures.permutation c.in_ok-sort-2.ensures.sorted in
    IfOk-weaker c.rows_at.result _ _ (λ table same. subst (IsBlameTable j c.args.bits.now)
    (sym (same ∙ ap (map (row_at j)) c.as_slice-2.ensures.value)) is) c.rows_at.ensures
