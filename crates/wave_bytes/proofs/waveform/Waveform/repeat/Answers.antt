-- Bytes that are written again say what those a step before do.
use Rattle.std.proofs.Common.{◌≡◌, ◌+◌, ◌∙◌, length, map, ap, sym, subst, arith}
use Rattle.std.proofs.lemmas.List.{length-map}
use Rattle.design_circuit.specs.Circuit.{job_in}
use Rattle.law_quiet.specs.Copies.{CopiesAgree}
use Rattle.wave_bytes.specs.Byte.{written_of_byte}
use Rattle.wave_bytes.specs.Front.{StandsAt}
use Rattle.wave_bytes.specs.Repeat.{AreSteadyFrom, IsStretch}
use Rattle.std.specs.Bool.{OnTrue}
use Rattle.wave_bytes.specs.Kept.{StepKeeps, ValuesAgree}
use Rattle.law_quiet.specs.Runs.{repeated}
use Rattle.wave_bytes.specs.View.{WaveformView, and_repeated, job, waveform_of}
use Rattle.wave_bytes.proofs.CopiedBytes.{are_again}
use Rattle.wave_bytes.proofs.RepeatedBytes.{keep_after, repeated_kept, repeated_long, repeated_view}
use Rattle.wave_bytes.proofs.RowLaws.{again_repeated, row_stretch, rows_again}
use Rattle.wave_bytes.proofs.waveform.Waveform.repeat.Goals as goal

pub repeat-requires-clause-copied : goal.repeat-requires-clause-copied
repeat-requires-clause-copied c =
    let j = job_in c.self.inside.circuit in
    let rows = c.self.inside.rows in
    are_again j c.self.inside.circuit.fits.fits_job rows c.self.invariant.rows c.args.many
    (subst (λ n. IsStretch j n c.args.many) (length-map rows.bytes written_of_byte)
    (subst (λ (v : WaveformView). IsStretch (job v) (length v.written) c.args.many) (sym c.self.view_is)
    c.requires.stretch))
    c.self.invariant.kept.told
    (subst (λ (v : WaveformView). ValuesAgree (job v) (repeated (job v) v.written c.args.many)) (sym c.self.view_is)
    c.requires.agrees)
    (subst (λ (v : WaveformView). AreSteadyFrom (job v) (repeated (job v) v.written c.args.many) (length v.written))
    (sym c.self.view_is) c.requires.steady)
    (subst (λ (v : WaveformView). CopiesAgree (job v) (repeated (job v) v.written c.args.many)) (sym c.self.view_is)
    c.requires.copies)

pub repeat-requires-clause-stretch : goal.repeat-requires-clause-stretch
repeat-requires-clause-stretch c =
    row_stretch (job_in c.self.inside.circuit) c.self.inside.rows c.args.many c.self.invariant.rows
    (subst (λ n. IsStretch (job_in c.self.inside.circuit) n c.args.many)
    (length-map c.self.inside.rows.bytes written_of_byte)
    (subst (λ (v : WaveformView). IsStretch (job v) (length v.written) c.args.many) (sym c.self.view_is)
    c.requires.stretch))

pub front_after-front-requires-clause-stretch : goal.front_after-front-requires-clause-stretch
front_after-front-requires-clause-stretch c =
    subst (λ n. IsStretch (job_in c.self.inside.circuit) n c.args.many)
    (length-map c.self.inside.rows.bytes written_of_byte ∙ sym c.count.ensures)
    (subst (λ (v : WaveformView). IsStretch (job v) (length v.written) c.args.many) (sym c.self.view_is)
    c.requires.stretch)

pub invariant_of-self : goal.invariant_of-self
invariant_of-self c =
    let again = again_repeated (job_in c.self.inside.circuit) c.self.inside.rows c.repeat.new.self c.args.many
    c.self.invariant.rows c.repeat.ensures in
    let circuit = c.self.inside.circuit in
    let j = job_in circuit in
    let old = c.self.inside.rows.bytes in
    let new = c.repeat.new.self.bytes in
    let many = c.args.many in
    let written = length-map old written_of_byte in
    let stretch : IsStretch j (length old) many = subst (λ n. IsStretch j n many) written
    (subst (λ (v : WaveformView). IsStretch (job v) (length v.written) many) (sym c.self.view_is) c.requires.stretch) in
    let long = repeated_long j c.self.inside.circuit.fits.fits_job old new many stretch again in
    let within = stretch.within in
    let count = c.count.ensures in
    record {
      wired = c.self.invariant.wired;
      within = omega (arith, long, within);
      rows = rows_again j c.self.inside.rows c.repeat.new.self many c.self.invariant.rows c.repeat.ensures;
      kept = repeated_kept circuit old new many stretch c.self.invariant.kept
          again
          (subst (λ (v : WaveformView). ValuesAgree (job v) (repeated (job v) v.written many)) (sym c.self.view_is)
          c.requires.agrees)
          (subst (λ (v : WaveformView). AreSteadyFrom (job v) (repeated (job v) v.written many) (length v.written))
          (sym c.self.view_is) c.requires.steady);
      next = tt;
      front = subst (λ n. StandsAt j n c.front_after-front.result) (ap (λ n. n + many) count ∙ sym long)
          c.front_after-front.ensures.stands;
      keep = subst (λ b. OnTrue b (StepKeeps new c.front_after-front.result.position (length new)))
          (sym c.keep_repeated-all_keep.ensures)
          (keep_after j c.self.inside.circuit.fits.fits_job old new many c.self.inside.front.position
          c.front_after-front.result.position c.self.inside.all_keep stretch again
          c.front_after-front.ensures.next c.self.invariant.keep);
    }

pub returns : goal.returns
returns c =
    let again = again_repeated (job_in c.self.inside.circuit) c.self.inside.rows c.repeat.new.self c.args.many
    c.self.invariant.rows c.repeat.ensures in
    let circuit = c.self.inside.circuit in
    let old = c.self.inside.rows.bytes in
    let new = c.repeat.new.self.bytes in
    let many = c.args.many in
    let stretch : IsStretch (job_in circuit) (length old) many =
    subst (λ n. IsStretch (job_in circuit) n many) (length-map old written_of_byte)
    (subst (λ (v : WaveformView). IsStretch (job v) (length v.written) many) (sym c.self.view_is) c.requires.stretch) in
    subst (λ (v : WaveformView). waveform_of circuit (map written_of_byte new) ≡ and_repeated v many) c.self.view_is
    (ap (waveform_of circuit) (repeated_view (job_in circuit) c.self.inside.circuit.fits.fits_job old new many stretch
    again))
