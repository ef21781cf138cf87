-- By what is kept of the scope above.
use Rattle.std.proofs.Common.{List, ℕ, map, sym, subst}
use Rattle.recording_binding.specs.Keys.{IsKey}
use Rattle.recording_binding.specs.Telling.{bare}
use Rattle.recording_binding.proofs.ScopeLemmas.{within_more}
use Rattle.recording_binding.proofs.scopes.key_below.Goals as goal

pub returns-in-Within : goal.returns-in-Within
returns-in-Within c = λ standing keeps.
    within_more c.args.names.now c.args.scope.now standing c.args.above.now c.in-Within.key c.args.name.now c.key_within.result c.in-Within.is keeps
    (λ below k. c.key_within.ensures c.args.scope.now below (subst (λ (l : List ℕ). IsKey (map bare below) l) (sym c.as_slice.ensures) k))
