-- What is replayed and written fits, and the text is that of the replay without forces.
use Rattle.std.proofs.Common.{List, sym, subst, ap, ◌∙◌, arith}
use Rattle.design_circuit.specs.Force.{forced_by}
use Rattle.design_circuit.specs.Handed.{IsReplayUnder}
use Rattle.design_circuit.specs.Job.{job_of}
use Rattle.design_circuit.specs.declared.force.Event.{Event}
use Rattle.design_circuit.proofs.OrdersFit.{job_fits}
use Rattle.recording_binding.specs.Binding.{FitsBinding}
use Rattle.recording_binding.specs.declared.binding.Binding.{Binding}
use Rattle.recording_writer.specs.Text.{vcd_text}
use Rattle.cmd_make.proofs.Fitting.{binding_fits}
use Rattle.cmd_make.proofs.recording.made_recording.Goals as goal

pub invariant_of-circuit : goal.invariant_of-circuit
invariant_of-circuit c =
    let rounds = c.in_ok-stim.ensures.made.rounds in
    record {
      fits = record {
        fits_job = job_fits c.args.design.now c.args.order.now c.in_ok-stim.stim c.requires.design c.requires.order
            c.in_ok-stim.ensures.fits (omega (arith, rounds)) (omega (arith, rounds));
        fits_stim = c.in_ok-stim.ensures.fits;
      };
    }

pub vcd_text-requires-clause-binding : goal.vcd_text-requires-clause-binding
vcd_text-requires-clause-binding c =
    subst (λ (b : Binding). FitsBinding c.args.design.now b) (sym c.in_ok-binding.ensures) (binding_fits c.args.design.now c.requires.design)

pub returns : goal.returns
returns c = let j = job_of c.args.design.now c.args.order.now c.in_ok-stim.stim in record {
  stim = c.in_ok-stim.stim;
  made = c.in_ok-stim.ensures.made;
  history = c.in_ok-history.history;
  replay = subst (λ (f : List Event). IsReplayUnder j (forced_by j f) c.in_ok-history.history)
      c.empty-forces.ensures c.in_ok-history.ensures;
  text_is = c.in_ok-text.ensures ∙ ap (λ (b : Binding). vcd_text c.args.design.now b c.in_ok-stim.stim c.in_ok-history.history) c.in_ok-binding.ensures;
}
