-- A net more.
use Rattle.std.proofs.Common.{◌≡◌, [], ◌∷◌, ◌++◌}
use Rattle.design_cell.specs.declared.value.Value.TheVariants.{X}
use Rattle.recording_binding.proofs.StimLemmas.{each_more}
use Rattle.cmd_make.specs.Stimulus.{made_start}
use Rattle.cmd_make.proofs.Growing.{longer}
use Rattle.cmd_make.proofs.stimulus.starts_of.Goals as goal

pub nets-preserved : goal.nets-preserved
nets-preserved c =
    let starts = c.nets.starts.items in
    let v = c.start_of.result in
    let pushed : c.push.new.self.items ≡ starts ++ v ∷ [] = c.in_ok-push.ensures.items in
    record {
      long = longer starts c.push.new.self.items v c.nets.net c.nets.invariant.long pushed;
      values = each_more (λ k x. x ≡ made_start c.args.design.now k) X starts c.push.new.self.items v c.nets.net
          c.nets.invariant.long c.nets.invariant.values c.start_of.ensures pushed;
    }
