-- What is chosen for each net.
use Rattle.std.proofs.Common.{◌≡◌, ◌∙◌, List, ◌++◌, Option, length, take, drop, sym, ap, subst}
use Rattle.design_circuit.specs.Job.{driver_in}
use Rattle.recording_binding.specs.Holding.{HoldsBy, held_in, holder_of}
use Rattle.recording_binding.specs.JobDesign.{holder_at, holder_by}
use Rattle.recording_binding.specs.declared.inputs.Holder.{Holder}
use Rattle.recording_binding.specs.declared.rule.UndrivenRule.TheVariants.{Recorded}
use Rattle.recording_binding.proofs.Written.{written}
use Rattle.recording_binding.proofs.holders.recorded_holders.Goals as goal

pub returns : goal.returns
returns c =
    let d = c.args.design.now in
    let bound = c.args.bound.now in
    let old = c.in_ok-holders.holders.items in
    let copied = c.in_ok-copied.copied.items in
    let new = c.choose_copied.new.holders in
    let own = c.in_ok-holders.ensures in
    let through = c.in_ok-copied.ensures in
    let seen : c.as_mut_slice.result.now ≡ old = c.as_mut_slice.ensures.value in
    let many : length new ≡ length old = c.choose_copied.ensures.long ∙ ap (λ (l : List (Option Holder)). length l) seen in
    let whole : take c.in_ok-holders.holders.len (new ++ drop (length new) old) ≡ new = written old new c.in_ok-holders.holders.len c.in_ok-holders.holders.ok.0 many in
    subst (λ (l : List (Option Holder)). HoldsBy (holder_by Recorded d bound) d l) (sym whole)
    (record {
      as_many = many ∙ own.as_many;
      each = λ net within. c.choose_copied.ensures.each net within
          ∙ ap (λ (l : List (Option Holder)). holder_at (driver_in d net) (held_in l net) (held_in c.as_slice.result.now net)) seen
          ∙ ap (λ (l : List (Option Holder)). holder_at (driver_in d net) (held_in old net) (held_in l net)) c.as_slice.ensures.value
          ∙ ap (λ (o : Option Holder). holder_at (driver_in d net) o (held_in copied net)) (own.each net within)
          ∙ ap (λ (o : Option Holder). holder_at (driver_in d net) (holder_of bound net) o) (through.each net within);
    })
