-- They are numbers of 64 bits, as those copied.
use Rattle.std.proofs.Common.{◌≡◌, ◌<◌, ◌^◌, All, rules, subst, sym}
use Rattle.std.proofs.lemmas.List.{get_or_default}
use Rattle.recording_binding.proofs.stimulus.copied.Goals as goal

pub returns-clause-small : goal.returns-clause-small
returns-clause-small c =
    let same : c.in_ok-to_vec.field-0.items ≡ c.args.times.now = search rules in
    subst (All (λ time. time < 2 ^ 64)) (sym same) (λ k d within. rw (get_or_default c.args.times.now k d 0 within) (search rules))
