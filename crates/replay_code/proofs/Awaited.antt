-- What the machine waits for, and when its progress fits.
use Rattle.std.proofs.Common.{◌≡◌, ℕ, ◌<◌, List, ◌∷◌}
use Rattle.design_circuit.specs.Design.{FitsDesign}
use Rattle.netlist_tokens.specs.declared.token.Token.{Token}
use Rattle.replay_code.specs.Clock.{clock_of, moment_by}
use Rattle.replay_code.specs.Code.{Code}
use Rattle.replay_code.specs.Grammar.{IsMark, IsWord, Stage, stage}
use Rattle.replay_code.specs.Machine.{Progress}

-- the stage that was come to
abbrev pub stage_of : Progress → Stage
stage_of p = stage (clock_of p.time p.round) p.events

-- the word, and then what K says; the same for a mark
pub data ThenWord (c : Code) (word : List ℕ) (K : List Token → Type 0) : List Token → Type 0 where
  then : {t : Token} {ts : List Token} → IsWord c word t → K ts → ThenWord c word K (t ∷ ts)

pub data ThenMark (c : Code) (mark : List ℕ) (K : List Token → Type 0) : List Token → Type 0 where
  then : {t : Token} {ts : List Token} → IsMark c mark t → K ts → ThenMark c mark K (t ∷ ts)

-- The moment is that of the time, the round one of its rounds, and the design fits.
pub record Fit (p : Progress) : Type 0 where
  pub moment : p.moment ≡ moment_by p.code.stim p.time
  pub round : p.round < p.code.stim.rounds
  pub design : FitsDesign p.code.design
