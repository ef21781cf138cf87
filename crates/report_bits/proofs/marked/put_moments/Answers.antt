-- Each moment is put, and what is unknown in it is due in the next one.
use Rattle.std.proofs.Common.{◌≡◌, ℕ, ◌+◌, ◌-◌, ◌<◌, ◌++◌, ◌∙◌, List, ap, arith, length, rules, subst, sym}
use Rattle.design_circuit.specs.Settled.{last_step}
use Rattle.report_bits.specs.Marked.{KnownUnlessDue, QuietUnlessDue, moment_lines}
use Rattle.report_bits.specs.declared.lines.ReportLines.TheVariants as named
use Rattle.report_bits.proofs.BitLines.{moment_put}
use Rattle.wave_proved.specs.Contents.{job}
use Rattle.report_bits.proofs.marked.put_moments.Goals as goal

pub put_due-requires-clause-due : goal.put_due-requires-clause-due
put_due-requires-clause-due c =
    let wave = c.args.from.now.wave.now in
    subst (λ (nets : List ℕ). QuietUnlessDue wave c.args.from.now.lines c.moments.moment nets c.mark_moment.new.due)
    (sym c.as_slice-nets.ensures.value) c.in_ok-mark_moment.ensures.quiet

pub moments-preserved : goal.moments-preserved
moments-preserved c =
    let wave = c.args.from.now.wave.now in
    let moment = c.moments.moment in
    let nets = c.args.bits.now.nets.items in
    let text = c.moments.writer.text.items in
    let less : moment < length wave.stim.times = search rules in
    let put = c.in_ok-put_due.ensures.text
    ∙ ap (λ (l : List ℕ). text ++ moment_lines wave c.args.from.now.lines moment l) c.as_slice-nets.ensures.value in
    let back : moment ≡ moment + 1 - 1 = omega arith in
    let x = c.swap.ensures.x_after in
    let y = c.swap.ensures.y_after in
    let long = ap length x in
    let put_long = c.in_ok-put_due.ensures.long in
    let clear_long = c.clear.ensures.long in
    let room = c.moments.invariant.unknown in
    let wide = ap length y in
    let due_room = c.in_ok-mark_moment.ensures.room in
    let step = last_step (job wave) moment in
    let known : c.args.from.now.lines ≡ named.All → KnownUnlessDue wave nets step c.put_due.new.unknown = λ all.
    subst (λ (l : List ℕ). KnownUnlessDue wave l step c.mark_moment.new.due
    → KnownUnlessDue wave l step c.put_due.new.unknown)
    c.as_slice-nets.ensures.value c.in_ok-put_due.ensures.unknown (c.in_ok-mark_moment.ensures.known all) in
    record {
      lines = moment_put wave c.args.from.now.lines nets moment (length wave.stim.times) text _ c.put_due.new.writer.text.items less
          c.moments.invariant.lines put;
      writer = c.in_ok-put_due.ensures.writer;
      due = omega (arith, long, put_long, clear_long, room);
      unknown = omega (arith, wide, due_room);
      before = λ all later. subst (λ (m : ℕ). KnownUnlessDue wave nets (last_step (job wave) m) c.swap.new.x) back
          (subst (λ (set : List ℕ). KnownUnlessDue wave nets step set) (sym x) (known all));
    }
