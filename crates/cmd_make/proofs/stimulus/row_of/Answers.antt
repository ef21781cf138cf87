-- A net more.
use Rattle.std.proofs.Common.{◌≡◌, [], ◌∷◌, ◌++◌, get_or}
use Rattle.design_cell.specs.declared.value.Value.TheVariants.{X}
use Rattle.recording_binding.proofs.StimLemmas.{each_more}
use Rattle.cmd_make.proofs.Growing.{longer}
use Rattle.cmd_make.proofs.stimulus.row_of.Goals as goal

pub nets-preserved : goal.nets-preserved
nets-preserved c =
    let row = c.nets.row.items in
    let v = c.value_at.result in
    let pushed : c.push.new.self.items ≡ row ++ v ∷ [] = c.in_ok-push.ensures.items in
    record {
      long = longer row c.push.new.self.items v c.nets.net c.nets.invariant.long pushed;
      values = each_more (λ k x. x ≡ get_or c.args.values.now k X) X row c.push.new.self.items v c.nets.net
          c.nets.invariant.long c.nets.invariant.values c.value_at.ensures pushed;
    }
