-- A run more is counted.
use Rattle.std.proofs.Common.{refl}
use Rattle.report_blame.proofs.Tallies.{apart_behind, tally_more}
use Rattle.report_blame.proofs.table.runs_of.Goals as goal

pub runs-preserved : goal.runs-preserved
runs-preserved c =
    let xs = c.args.numbers.now in
    record {
      tally = tally_more xs c.runs.rows.items c.push.new.self.items _ c.runs.first c.run_end-end.result
          c.runs.invariant.tally (λ k less. c.runs.invariant.apart k less c.runs-test.true) c.run_end-end.ensures refl
          refl c.in_ok-push.ensures.items;
      within = c.run_end-end.ensures.within;
      apart = apart_behind xs c.runs.first c.run_end-end.result c.requires c.run_end-end.ensures;
    }
