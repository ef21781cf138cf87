-- What was found is to blame, and one more was found.
use Rattle.std.proofs.Common.{◌≡◌, ◌==◌, ◌∙◌, ℕ, None, ap, sym, subst}
use Rattle.std.specs.Map.{lookup}
use Rattle.std.proofs.lemmas.Result.{IfOk-weaker}
use Rattle.indexmap.proofs.CallerLemmas.{insert_entry-new}
use Rattle.design_circuit.specs.Job.{Job, number_of}
use Rattle.wave_proved.specs.Contents.{job}
use Rattle.report_blame.specs.Causes.{AreFound}
use Rattle.report_blame.specs.ToBlame.{IsToBlame}
use Rattle.report_blame.specs.declared.halves.Cause.{Cause}
use Rattle.report_blame.proofs.RootCauses.{found_blames, found_more, none_found}
use Rattle.report_blame.proofs.causes.Causes.find_line.Goals as goal

pub returns-in-Some-clause-cause : goal.returns-in-Some-clause-cause
returns-in-Some-clause-cause c =
    let wave = c.args.wave.now in
    let root = c.args.root.place in
    let cause = c.in-Some.cause.now in
    let number : c.number_of-number.result ≡ number_of (job wave) root =
    c.number_of-number.ensures.number ∙ ap (λ (j : Job). number_of j root) c.circuit.ensures.job in
    let blames = found_blames wave c.args.self.now.found.entries c.number_of-number.result cause c.requires.right.found
    (sym c.in-Some.ensures.value) in
    let here : IsToBlame wave (number_of (job wave) root) cause.source cause.others =
    subst (λ (n : ℕ). IsToBlame wave n cause.source cause.others) number blames in
    IfOk-weaker c.copied.result _ _ (λ copy same. subst
    (λ (x : Cause). IsToBlame wave (number_of (job wave) root) x.source x.others) (sym same) here) c.copied.ensures

pub returns-clause-right : goal.returns-clause-right
returns-clause-right c =
    let wave = c.args.wave.now in
    let root = c.args.root.place in
    let entries = c.args.self.now.found.entries in
    let number : c.number_of-number.result ≡ number_of (job wave) root =
    c.number_of-number.ensures.number ∙ ap (λ (j : Job). number_of j root) c.circuit.ensures.job in
    let absent : lookup (λ (k : ℕ). c.number_of-number.result == k) entries ≡ None =
    none_found c.get.result _ c.in_default.not-Some c.get.ensures.value in
    let blames = subst (λ (x : Cause). IsToBlame wave c.number_of-number.result x.source x.others)
    (sym c.in_ok-kept.ensures) (subst (λ (n : ℕ). IsToBlame wave n c.in_ok-cause.cause.source c.in_ok-cause.cause.others)
    (sym number) c.in_ok-cause.ensures.cause) in
    record {
      found = subst (AreFound wave)
          (sym (c.in_ok-insert.ensures.entries
          ∙ insert_entry-new _ c.args.self.now.found c.number_of-number.result c.in_ok-kept.kept absent))
          (found_more wave entries c.number_of-number.result c.in_ok-kept.kept c.requires.right.found blames);
      right = c.in_ok-cause.ensures.right;
    }
