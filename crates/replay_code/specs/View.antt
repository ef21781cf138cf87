-- What contracts see of a code text in hand.
use Rattle.replay_code.specs.Code.{Code as Seen}
use Rattle.replay_code.specs.declared.code.Code.{Code}

abbrev pub code_of : Code → Seen
code_of c =
    record { text = c.text.now; design = c.design.now; order = c.order.now; stim = c.stim.now; scope = c.scope.now }
