-- Options name one pair of limits.
use Rattle.std.proofs.Common.{◌≡◌, ◌∙◌, ℕ, Option, ap, codes, refl, subst}
use Rattle.base_line.specs.Line.{Text}
use Rattle.law_model.specs.declared.limits.Limits.{Limits}
use Rattle.cmd_words.proofs.OneJob.{one_count, one_source_count}
use Rattle.cmd_program.specs.Limits.{AreLimitsOf}

same_limits : (a b : Limits) → a.conflicts ≡ b.conflicts → a.enumerated ≡ b.enumerated → a ≡ b
same_limits a b conflicts enumerated = λ i. record { conflicts = conflicts i; enumerated = enumerated i }

pub one_limits : (option : Text → Option Text) (a b : Limits) → AreLimitsOf option a → AreLimitsOf option b → a ≡ b
one_limits option a b first second =
    same_limits a b (one_count (option (codes "conflicts")) 1000 100000 a.conflicts b.conflicts first.conflicts
    second.conflicts)
    (one_source_count (option (codes "enumerate")) a.enumerated b.enumerated first.enumerated second.enumerated)
