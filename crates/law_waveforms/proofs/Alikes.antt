-- Sound waveforms of one job are alike.
use Rattle.design_circuit.proofs.Exact.{one_exact}
use Rattle.law_model.proofs.Uniqueness.{sound_exact}
use Rattle.law_waveforms.specs.Alike.{AlikeLaw, OneLaw}
use Rattle.law_waveforms.proofs.ExactFronts.{alike_at}

pub alike_law : AlikeLaw
alike_law j limits shown waveform lines fits sound decided bounds other_shown other more other_sound other_decided place
    less
    below =
    let same = alike_at j fits waveform other sound.within other_sound.within
    (sound_exact j limits shown waveform lines decided sound)
    (sound_exact j bounds other_shown other more other_decided other_sound) place less below in
    record { mark = same.mark; certain_value = same.certain_value }

pub one_law : OneLaw
one_law j limits shown waveform lines fits sound decided bounds other more long other_sound other_decided =
    one_exact j shown other waveform fits long other_sound.within
    (sound_exact j bounds shown other more other_decided other_sound)
    (sound_exact j limits shown waveform lines decided sound) other_sound.shows sound.shows
