-- The certificate that a repair writes is in order for a check of its job.
use Rattle.std.proofs.Common.{ℕ, ◌≤◌, List, length, sym, subst}
use Rattle.cmd_phases.specs.OfCert.{IsAccepted}
use Rattle.cmd_phases.specs.Certificate.{form_of}
use Rattle.cmd_phases.specs.Code.{text_limit}
use Rattle.cmd_phases.specs.Repair.{beginning}
use Rattle.cmd_phases.specs.Texts.{IsJob}
use Rattle.cmd_program.specs.Check.{CheckValues, IsCheckable}
use Rattle.cmd_words.specs.Words.{JobValues}
use Rattle.cmd_program.specs.Repair.{RepairValues}
use Rattle.cmd_program.specs.Conditions.{cert_by}
use Rattle.cmd_program.specs.Headline.{Headline, wave_of}
use Rattle.cmd_program.specs.Laws.{IsCheckOf}
use Rattle.law_model.specs.declared.limits.Limits.{Limits}

pub own_checkable : (w : RepairValues) (check : CheckValues) (netlist recording vcd code cert report : List ℕ)
    → Headline w netlist recording vcd code cert report → IsCheckOf w check → length cert ≤ text_limit
    → IsCheckable check netlist recording cert
own_checkable w check netlist recording vcd code cert report headline is fits =
    let there = headline.job in
    let wave = wave_of there.n there.r there.replay w.limits there.waveform there.lines in
    record {
      n = there.n;
      r = there.r;
      job = subst (λ (j : JobValues). IsJob j netlist recording there.n there.r) (sym is.job) there.is;
      replay = there.replay;
      agrees = there.agrees;
      fits = fits;
      certificate = cert_by (form_of w.form) wave headline.conditions;
      stands = headline.certifies.stands;
      waveform = there.waveform;
      accepted = subst (λ (limits : Limits). IsAccepted (beginning limits there.n there.r there.replay)
          (cert_by (form_of w.form) wave headline.conditions) there.waveform) (sym is.limits) headline.certifies.accepted;
    }
