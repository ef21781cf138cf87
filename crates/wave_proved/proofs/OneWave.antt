-- There is one wave.
use Rattle.std.proofs.Common.{List, sym, subst}
use Rattle.design_circuit.specs.Handed.{shown_of}
use Rattle.design_circuit.specs.History.{HistoryView}
use Rattle.design_circuit.specs.Job.{Job}
use Rattle.design_circuit.proofs.Exact.{one_exact}
use Rattle.law_model.specs.Sound.{Sound}
use Rattle.law_model.specs.Yields.{Yields}
use Rattle.law_model.specs.declared.line.Line.{Line as ALine}
use Rattle.law_model.proofs.Uniqueness.{sound_exact, unique_certain, yields_one}
use Rattle.law_model.specs.declared.limits.Limits.{Limits}
use Rattle.wave_proved.specs.Contents.{Contents, job, shown_in}
use Rattle.wave_proved.specs.Laws.{AreOfOneJob, OneByLines, OneMarked, OneWave}

-- The second wave is sound over the job of the first.
sound_over : (c d : Contents) → AreOfOneJob c d
    → Sound (job c) d.limits (shown_of (job c) d.history) d.written d.lines
sound_over c d alike =
    subst (λ (j : Job). Sound j d.limits (shown_of j d.history) d.written d.lines) (sym alike.jobs)
    alike.second.holds.sound

pub one_wave : OneWave
one_wave c d alike decided same =
    let first = alike.first.holds.sound in
    let second : Sound (job c) d.limits (shown_in c) d.written d.lines =
    subst (λ (h : HistoryView). Sound (job c) d.limits (shown_of (job c) h) d.written d.lines) (sym same)
    (sound_over c d alike) in
    one_exact (job c) (shown_in c) c.written d.written alike.first.fits.fits_job alike.long first.within
    (sound_exact (job c) c.limits (shown_in c) c.written c.lines decided.first first)
    (sound_exact (job c) d.limits (shown_in c) d.written d.lines decided.second second) first.shows second.shows

pub one_for_histories : OneMarked
one_for_histories c d alike decided place less =
    let same = unique_certain (job c) c.limits d.limits alike.first.fits.fits_job (shown_in c)
    (shown_of (job c) d.history) c.written d.written c.lines d.lines alike.long alike.first.holds.sound.within
    decided.first decided.second alike.first.holds.sound (sound_over c d alike) place less in
    record { mark = same.mark; certain_value = same.certain_value }

pub one_by_lines : OneByLines
one_by_lines c d alike history limits lines =
    let over : Yields (job c) d.limits (shown_of (job c) d.history) d.written d.lines =
    subst (λ (j : Job). Yields j d.limits (shown_of j d.history) d.written d.lines) (sym alike.jobs)
    alike.second.holds.yields in
    let shown : Yields (job c) d.limits (shown_in c) d.written d.lines =
    subst (λ (h : HistoryView). Yields (job c) d.limits (shown_of (job c) h) d.written d.lines) (sym history) over in
    let limited : Yields (job c) c.limits (shown_in c) d.written d.lines =
    subst (λ (l : Limits). Yields (job c) l (shown_in c) d.written d.lines) (sym limits) shown in
    let lined : Yields (job c) c.limits (shown_in c) d.written c.lines =
    subst (λ (ls : List ALine). Yields (job c) c.limits (shown_in c) d.written ls) (sym lines) limited in
    yields_one (job c) c.limits alike.first.fits.fits_job (shown_in c) c.written d.written c.lines alike.long
    alike.first.holds.sound.within alike.first.holds.yields lined
