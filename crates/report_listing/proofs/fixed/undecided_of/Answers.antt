-- Neither wave has more places than 2^40.
use Rattle.std.proofs.Common.{arith}
use Rattle.report_listing.proofs.fixed.undecided_of.Goals as goal

pub overflow_add-result : goal.overflow_add-result
overflow_add-result c =
    let one = c.in_ok-first.ensures.all in
    let other = c.in_ok-second.ensures.all in
    let one_within = c.recall.ensures.holds.sound.within in
    let other_within = c.recall-2.ensures.holds.sound.within in
    let one_few = c.recall.ensures.fits.fits_job.few_places in
    let other_few = c.recall-2.ensures.fits.fits_job.few_places in
    omega (arith, one, other, one_within, other_within, one_few, other_few)
