-- The wave over the blank history is found, and its audit beside the replay.
use Rattle.std.proofs.Common.{rules, ◌≡◌, Err}
use Rattle.cmd_program.specs.Audit.{audit_values, walk_audited}
use Rattle.cmd_program.proofs.Auditing.{audit_found, is_audit}
use Rattle.base_run.specs.declared.refusal.Refusal.TheVariants.{Memory}
use Rattle.base_run.proofs.Then.{memory_out}
use Rattle.base_run.specs.Prepared.{answer_of}
use Rattle.cmd_program.proofs.audited.audited.Goals as goal

pub blank_wave-requires-clause-blank : goal.blank_wave-requires-clause-blank
blank_wave-requires-clause-blank g c = c.in_ok-blank.ensures.blank c.args.agreed.now.parts.netlist.order

pub listed-requires : goal.listed-requires
listed-requires g c =
    is_audit c.args.words.now.limits c.args.agreed.now.parts.netlist c.args.agreed.now.parts.recorded c.in_ok-blank.blank
    (c.in_ok-blank.ensures.blank c.args.agreed.now.parts.netlist.order) c.in_ok-wave.wave c.args.agreed.now.history
    c.in_ok-wave.ensures.repaired c.args.agreed.now.replay

pub returns-clause-prepared : goal.returns-clause-prepared
returns-clause-prepared g c =
    audit_found (audit_values c.args.words.now) c.args.agreed.now.parts.netlist c.args.agreed.now.parts.recorded c.in_ok-listed.field-0
    record {
      fits = c.args.agreed.now.fits;
      replay = c.args.agreed.now.history;
      is_replay = c.args.agreed.now.replay;
      blank = c.in_ok-blank.blank;
      is_blank = c.in_ok-blank.ensures.blank c.args.agreed.now.parts.netlist.order;
      wave = c.in_ok-wave.wave;
      repaired = c.in_ok-wave.ensures.repaired;
      prints = c.in_ok-listed.ensures;
    }

pub returns-in_err-listed-clause-prepared : goal.returns-in_err-listed-clause-prepared
returns-in_err-listed-clause-prepared g c =
    let is : c.from_residual-in_err-listed.result ≡ Err Memory = search rules in
    rw is (memory_out (walk_audited (audit_values c.args.words.now) c.args.agreed.now.parts) answer_of)
