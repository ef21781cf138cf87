-- One net more.
use Rattle.std.proofs.Common.{◌≡◌, ◌≢◌, ◌∙◌, ℕ, ◌<◌, Option, None, length, set, get_or, ap, arith, below_more, get_or-set_other, get_or-set_same, length-set}
use Rattle.design_circuit.specs.Job.{driver_in}
use Rattle.recording_binding.specs.JobDesign.{holder_at}
use Rattle.recording_binding.specs.declared.inputs.Holder.{Holder}
use Rattle.recording_binding.proofs.holders.choose_copied.Goals as goal

pub nets-preserved : goal.nets-preserved
nets-preserved c =
    let d = c.args.design.now in
    let old = c.nets.holders in
    let first = c.args.holders.now in
    let copied = c.args.copied.now in
    let n = c.nets.net in
    let v = c.chosen_of-chosen.result in
    let many = c.nets.invariant.long in
    let own = c.requires.own in
    let both = c.requires.copied in
    let test = c.nets-test.true in
    let inside : n < length old = omega (arith, many, own, both, test) in
    let was : get_or old n None ≡ get_or first n None = c.nets.invariant.others n (omega arith) in
    let here : v ≡ holder_at (driver_in d n) (get_or first n None) (get_or copied n None) =
    c.chosen_of-chosen.ensures ∙ ap (λ (o : Option Holder). holder_at (driver_in d n) o (get_or copied n None)) was in
    record {
      long = length-set old n v ∙ many;
      chosen = below_more (λ (k : ℕ). get_or (set old n v) k None ≡ holder_at (driver_in d k) (get_or first k None) (get_or copied k None)) n
          (λ k less. (let other : k ≢ n = omega (arith, less) in get_or-set_other old n k v None other ∙ c.nets.invariant.chosen k less))
          (get_or-set_same old n v None inside ∙ here);
      others = λ k more. (let other : k ≢ n = omega (arith, more) in get_or-set_other old n k v None other ∙ c.nets.invariant.others k (omega (arith, more)));
    }
