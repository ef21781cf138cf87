-- A list of starts comes to one thing.
use Rattle.std.proofs.Common.{◌≡◌, ◌∙◌, ◌<◌, ◌≤◌, List, length, None, Some, Ok, Err, sym, ap, arith, ⊎_elim}
use Rattle.std.proofs.lemmas.Bool.{cases_lt}
use Rattle.design_cell.specs.declared.value.Value.{Value}
use Rattle.design_circuit.specs.declared.design.Design.{Design}
use Rattle.design_circuit.specs.declared.stim.Stim.{Stim}
use Rattle.recording_binding.proofs.Stimuli.{one_stim_by}
use Rattle.report_fix.specs.Started.{AreFine, IsFirstFault, IsStarted, Piece, fault_at}
use Rattle.report_fix.specs.declared.refusal.StartFault.{StartFault}
use Rattle.cmd_job.specs.declared.netlist.Netlist.{Netlist as ANetlist}
use Rattle.base_run.specs.Phases.{IsOne}
use Rattle.cmd_phases.specs.Sets.{StartsCome}

some_fault : (a b : StartFault) → Some a ≡ Some b → a ≡ b
some_fault a b same = cc

no_fault : (a : StartFault) → None ≡ Some a → ⊥
no_fault a same = cc

module _ (design : Design) (starts : List Value) (pieces : List Piece) where
  first_low : (a b : StartFault) (first : IsFirstFault design starts pieces a) (second : IsFirstFault design starts pieces b) → first.at < second.at → ⊥
  first_low a b first second less = no_fault a (sym (second.before first.at less) ∙ first.is)

  one_fault : (a b : StartFault) → IsFirstFault design starts pieces a → IsFirstFault design starts pieces b → a ≡ b
  one_fault a b first second =
      let same : first.at ≡ second.at = ⊎_elim
      (λ (less : first.at < second.at). absurd (first_low a b first second less))
      (λ (low : second.at ≤ first.at). ⊎_elim
      (λ (less : second.at < first.at). absurd (first_low b a second first less))
      (λ (high : first.at ≤ second.at). omega (arith, low, high)) (cases_lt second.at first.at)) (cases_lt first.at second.at) in
      some_fault a b (sym first.is ∙ ap (fault_at design starts pieces) same ∙ second.is)

  none_first : (a : StartFault) → AreFine design starts pieces (length pieces) → IsFirstFault design starts pieces a → ⊥
  none_first a fine first = no_fault a (sym (fine first.at first.within) ∙ first.is)

one_stim : (design : Design) (old : Stim) (pieces : List Piece) (a b : Stim) → IsStarted design old pieces a → IsStarted design old pieces b → a ≡ b
one_stim design old pieces a b first second =
    let times = first.others.times ∙ sym second.others.times in
    let rounds = first.others.rounds ∙ sym second.others.rounds in
    let inputs = first.others.inputs ∙ sym second.others.inputs in
    let rules = first.others.rules ∙ sym second.others.rules in
    let starts = first.starts ∙ sym second.starts in
    one_stim_by a b times rounds inputs rules starts

pub one_started : (n : ANetlist) (stim : Stim) (pieces : List Piece) → IsOne (StartsCome n stim pieces)
one_started n stim pieces (Ok a) (Ok b) first second = ap Ok (one_stim n.design stim pieces a b first second)
one_started n stim pieces (Ok a) (Err f) first second = absurd (none_first n.design stim.starts pieces f first.fine second)
one_started n stim pieces (Err e) (Ok b) first second = absurd (none_first n.design stim.starts pieces e second.fine first)
one_started n stim pieces (Err e) (Err f) first second = ap Err (one_fault n.design stim.starts pieces e f first second)
