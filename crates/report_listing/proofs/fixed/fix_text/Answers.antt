-- The items are at places of the jobs.
use Rattle.report_listing.proofs.ItemPlaces.{gained_there, lost_there}
use Rattle.report_listing.proofs.fixed.fix_text.Goals as goal

pub text_of-requires-clause-gained : goal.text_of-requires-clause-gained
text_of-requires-clause-gained c =
    gained_there c.args.before.now c.args.after.now c.args.bound.now c.in_ok-fixed.fixed.gained.items c.requires.waves c.requires.binding c.in_ok-fixed.ensures.gained

pub text_of-requires-clause-lost : goal.text_of-requires-clause-lost
text_of-requires-clause-lost c =
    lost_there c.args.before.now c.args.after.now c.args.bound.now c.in_ok-fixed.fixed.lost.items c.requires.binding c.in_ok-fixed.ensures.lost
