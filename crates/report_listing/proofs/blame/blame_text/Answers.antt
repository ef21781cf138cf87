-- The bits that are told are at places of the job.
use Rattle.report_listing.proofs.ToldPlaces.{unknown_told}
use Rattle.report_listing.proofs.blame.blame_text.Goals as goal

pub text_of-requires-clause-bits : goal.text_of-requires-clause-bits
text_of-requires-clause-bits c =
    unknown_told c.args.wave.now c.args.bound.now c.in_ok-blame.blame.bits.items c.requires.binding c.in_ok-blame.ensures.bits
