-- The netlist is made and read, and then its recording made.
use Rattle.std.proofs.Common.{rules, ◌≡◌, ◌∙◌, ℕ, List, Ok, Err, subst}
use Rattle.cmd_job.specs.declared.netlist.Netlist.{Netlist as ANetlist}
use Rattle.base_run.specs.Prepared.{PreparedAlone, answer_of}
use Rattle.cmd_program.specs.Make.{make_values, made_netlist, netlist_made, with_recording}
use Rattle.cmd_phases.specs.Phases.{itself}
use Rattle.cmd_program.proofs.Making.{alone_out, alone_then}
use Rattle.cmd_program.proofs.made.made.Goals as goal

pub returns-in_err-netlist-clause-prepared : goal.returns-in_err-netlist-clause-prepared
returns-in_err-netlist-clause-prepared g c =
    let w = make_values c.args.words.now in
    let e = c.in_err-netlist.field-0.0 in
    let is : c.from_residual-in_err-netlist.result ≡ Err e = search rules in
    let read = subst (λ (l : List ℕ). PreparedAlone {X = ANetlist} (netlist_made l) itself (Err e)) (c.as_slice.ensures.value ∙ c.in_ok-text.ensures)
    c.in_err-netlist.ensures.prepared in
    rw is (alone_out (netlist_made (made_netlist w)) (with_recording w) itself answer_of e read)

pub returns-clause-prepared : goal.returns-clause-prepared
returns-clause-prepared g c =
    let w = make_values c.args.words.now in
    let read = subst (λ (l : List ℕ). PreparedAlone (netlist_made l) itself (Ok c.in_ok-netlist.netlist)) (c.as_slice.ensures.value ∙ c.in_ok-text.ensures)
    c.in_ok-netlist.ensures.prepared in
    alone_then (netlist_made (made_netlist w)) (with_recording w) itself answer_of
    c.in_ok-netlist.netlist c.with_netlist.result read c.with_netlist.ensures.prepared
