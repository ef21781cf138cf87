-- Where the net keeps nothing is due for it; else its readers are.
use Rattle.std.proofs.Common.{Bool, sym, subst}
use Rattle.replay_due.specs.Readers.{readers_of}
use Rattle.wave_due.specs.Walk.{AreReadersIn}
use Rattle.wave_due.proofs.Marks.{gained_readers, kept_readers}
use Rattle.wave_due.proofs.walk.mark_moved.Goals as goal

pub returns-then-keeps-clause-due : goal.returns-then-keeps-clause-due
returns-then-keeps-clause-due c =
    subst (λ (b : Bool). AreReadersIn b (readers_of c.args.fans.now.cells c.args.net) c.args.waiting.now.due
    c.args.waiting.now.due) (sym c.if-keeps.true)
    (kept_readers (readers_of c.args.fans.now.cells c.args.net) c.args.waiting.now.due)

pub returns-then-keeps-clause-ahead : goal.returns-then-keeps-clause-ahead
returns-then-keeps-clause-ahead c =
    subst (λ (b : Bool). AreReadersIn b (readers_of c.args.fans.now.registers c.args.net) c.args.waiting.now.ahead
    c.args.waiting.now.ahead) (sym c.if-keeps.true)
    (kept_readers (readers_of c.args.fans.now.registers c.args.net) c.args.waiting.now.ahead)

pub returns-clause-due : goal.returns-clause-due
returns-clause-due c =
    subst (λ (b : Bool). AreReadersIn b (readers_of c.args.fans.now.cells c.args.net) c.args.waiting.now.due
    c.mark_readers.new.waiting.due) (sym c.if-keeps.false)
    (gained_readers (readers_of c.args.fans.now.cells c.args.net) c.args.waiting.now.due c.mark_readers.new.waiting.due
    c.mark_readers.ensures.due_long c.mark_readers.ensures.due)

pub returns-clause-ahead : goal.returns-clause-ahead
returns-clause-ahead c =
    subst (λ (b : Bool). AreReadersIn b (readers_of c.args.fans.now.registers c.args.net) c.args.waiting.now.ahead
    c.mark_readers.new.waiting.ahead) (sym c.if-keeps.false)
    (gained_readers (readers_of c.args.fans.now.registers c.args.net) c.args.waiting.now.ahead
    c.mark_readers.new.waiting.ahead c.mark_readers.ensures.ahead_long c.mark_readers.ensures.ahead)
