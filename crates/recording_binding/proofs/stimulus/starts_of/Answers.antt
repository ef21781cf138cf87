-- One net more.
use Rattle.std.proofs.Common.{◌≡◌, List, [], ◌∷◌, ◌++◌, length, ap, arith, length-append}
use Rattle.design_cell.specs.declared.value.Value.{Value}
use Rattle.design_cell.specs.declared.value.Value.TheVariants.{X}
use Rattle.recording_binding.specs.StimOf as spec
use Rattle.recording_binding.proofs.StimLemmas.{each_more}
use Rattle.recording_binding.proofs.stimulus.starts_of.Goals as goal

pub nets-preserved : goal.nets-preserved
nets-preserved c =
    let starts = c.nets.starts.items in
    let v = c.start_of.result in
    let n = c.nets.net in
    let pushed : c.push.new.self.items ≡ starts ++ v ∷ [] = c.in_ok-push.ensures.items in
    record {
      long = (let e = ap (λ (l : List Value). length l) pushed in let f = length-append starts (v ∷ []) in let g = c.nets.invariant.long in omega (arith, e, f, g));
      values = each_more (λ k x. x ≡ spec.start_in c.args.design.now c.args.recording.now c.args.holders.now c.args.rule k) X starts c.push.new.self.items v n c.nets.invariant.long c.nets.invariant.values c.start_of.ensures pushed;
    }
