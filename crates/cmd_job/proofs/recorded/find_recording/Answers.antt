-- What was recorded fits the job's netlist.
use Rattle.std.proofs.Common.{◌≡◌, ◌∙◌, ℕ, ◌*◌, ◌≤◌, ◌^◌, List, Option, length, sym, ap, subst, arith, rules}
use Rattle.std.proofs.Math.Nat.{le_trans}
use Rattle.design_circuit.specs.declared.design.Design.{Design}
use Rattle.recording_binding.specs.Binding.{FitsBinding}
use Rattle.recording_binding.specs.Holding.{held_in}
use Rattle.recording_binding.specs.StimOf.{AreHolders, IsStimOf}
use Rattle.recording_binding.specs.declared.inputs.Holder.{Holder}
use Rattle.recording_binding.proofs.JobDesigns.{made_fits}
use Rattle.cmd_job.specs.Recorded.{netlist_by}
use Rattle.cmd_job.proofs.JobNetlists.{as_many_nets, design_is, is_job, new_fits, stim_is}
use Rattle.cmd_job.proofs.recorded.find_recording.Goals as goal

pub give_inputs-requires : goal.give_inputs-requires
give_inputs-requires c =
    let holds = c.in_ok-holders.ensures.holds in
    ap (λ (l : List (Option Holder)). length l) c.as_slice.ensures.value ∙ holds.as_many

pub stim_of-requires-clause-design : goal.stim_of-requires-clause-design
stim_of-requires-clause-design c =
    let n = c.args.netlist.now in
    let new = c.give_inputs.new.netlist in
    let rule = c.args.settings.rules.undriven in
    let bound = c.in_ok-binding.binding.bound in
    let holders = c.in_ok-holders.holders.items in
    let put : new ≡ netlist_by rule holders n = c.give_inputs.ensures ∙ ap (λ (h : List (Option Holder)). netlist_by rule h n) c.as_slice.ensures.value in
    let fits = new_fits rule n new bound holders c.in_ok-holders.ensures.holds put c.requires.fits in
    fits.design

pub stim_of-requires-clause-long : goal.stim_of-requires-clause-long
stim_of-requires-clause-long c =
    let n = c.args.netlist.now in
    let new = c.give_inputs.new.netlist in
    let rule = c.args.settings.rules.undriven in
    let bound = c.in_ok-binding.binding.bound in
    let holders = c.in_ok-holders.holders.items in
    let put : new ≡ netlist_by rule holders n = c.give_inputs.ensures ∙ ap (λ (h : List (Option Holder)). netlist_by rule h n) c.as_slice.ensures.value in
    let holds = c.in_ok-holders.ensures.holds in
    ap (λ (l : List (Option Holder)). length l) c.as_slice-2.ensures.value ∙ holds.as_many ∙ sym (as_many_nets rule n new bound holders holds put)

pub stim_of-requires-clause-held : goal.stim_of-requires-clause-held
stim_of-requires-clause-held c =
    let r = c.in_ok-recording.recording in
    let bound = c.in_ok-binding.ensures.bound in
    subst (λ (l : List (Option Holder)). AreHolders r l) (sym c.as_slice-2.ensures.value) (c.in_ok-holders.ensures.known r bound.variables)

pub stim_of-requires-clause-places : goal.stim_of-requires-clause-places
stim_of-requires-clause-places c =
    let n = c.args.netlist.now in
    let new = c.give_inputs.new.netlist in
    let rule = c.args.settings.rules.undriven in
    let bound = c.in_ok-binding.binding.bound in
    let holders = c.in_ok-holders.holders.items in
    let put : new ≡ netlist_by rule holders n = c.give_inputs.ensures ∙ ap (λ (h : List (Option Holder)). netlist_by rule h n) c.as_slice.ensures.value in
    let is = c.in_ok-binding.ensures.bound.is in
    subst (λ (k : ℕ). k * (length c.in_ok-recording.recording.times * c.args.settings.rounds) ≤ 2 ^ 40)
    (sym (as_many_nets rule n new bound holders c.in_ok-holders.ensures.holds put)) (le_trans is.places c.args.settings.few_places)

pub returns-clause-recorded : goal.returns-clause-recorded
returns-clause-recorded c =
    let n = c.args.netlist.now in
    let new = c.give_inputs.new.netlist in
    let rule = c.args.settings.rules.undriven in
    let registers = c.args.settings.rules.registers in
    let r = c.in_ok-recording.recording in
    let bound = c.in_ok-binding.binding.bound in
    let holders = c.in_ok-holders.holders.items in
    let stim = c.in_ok-stim.stim in
    let put : new ≡ netlist_by rule holders n = c.give_inputs.ensures ∙ ap (λ (h : List (Option Holder)). netlist_by rule h n) c.as_slice.ensures.value in
    let is : IsStimOf new.design r (held_in holders) c.args.settings.rounds registers stim =
    subst (λ (h : List (Option Holder)). IsStimOf new.design r (held_in h) c.args.settings.rounds registers stim) c.as_slice-2.ensures.value c.in_ok-stim.ensures.stim in
    record {
      says = search rules;
      bound = c.in_ok-binding.ensures.bound.is;
      stim = stim_is rule n new bound holders c.in_ok-holders.ensures.holds put r c.args.settings.rounds registers stim is;
    }

pub returns-clause-netlist : goal.returns-clause-netlist
returns-clause-netlist c =
    let n = c.args.netlist.now in
    let rule = c.args.settings.rules.undriven in
    is_job rule n c.give_inputs.new.netlist c.in_ok-binding.binding.bound c.in_ok-holders.holders.items c.in_ok-holders.ensures.holds
    (c.give_inputs.ensures ∙ ap (λ (h : List (Option Holder)). netlist_by rule h n) c.as_slice.ensures.value)

pub returns-clause-fits_netlist : goal.returns-clause-fits_netlist
returns-clause-fits_netlist c =
    let n = c.args.netlist.now in
    let rule = c.args.settings.rules.undriven in
    new_fits rule n c.give_inputs.new.netlist c.in_ok-binding.binding.bound c.in_ok-holders.holders.items c.in_ok-holders.ensures.holds
    (c.give_inputs.ensures ∙ ap (λ (h : List (Option Holder)). netlist_by rule h n) c.as_slice.ensures.value) c.requires.fits

pub returns-clause-fits : goal.returns-clause-fits
returns-clause-fits c =
    let n = c.args.netlist.now in
    let new = c.give_inputs.new.netlist in
    let rule = c.args.settings.rules.undriven in
    let binding = c.in_ok-binding.binding in
    let holders = c.in_ok-holders.holders.items in
    let put : new ≡ netlist_by rule holders n = c.give_inputs.ensures ∙ ap (λ (h : List (Option Holder)). netlist_by rule h n) c.as_slice.ensures.value in
    let holds = c.in_ok-holders.ensures.holds in
    let is = c.in_ok-stim.ensures.stim in
    let bound = c.in_ok-binding.ensures.bound in
    let made = made_fits rule n.design binding.bound in
    record {
      stim = c.in_ok-stim.ensures.fits;
      some_round = (let same = is.as_many in let some = c.args.settings.some_round in omega (arith, same, some));
      few_rounds = (let same = is.as_many in let few = c.args.settings.few_rounds in omega (arith, same, few));
      times = sym is.times;
      binding = subst (λ (d : Design). FitsBinding d binding) (sym (design_is rule n new binding.bound holders holds put)) (made.bound binding bound.fits);
      variables = bound.variables;
    }
