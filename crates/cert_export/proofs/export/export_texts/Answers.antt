-- Each file has a name of its own.
use Rattle.std.proofs.Common.{◌∙◌, ◌++◌, List, sym, ap, subst}
use Rattle.cert_check.specs.Step.{cert_of}
use Rattle.cert_writer.specs.Text.{cert_text}
use Rattle.base_run.specs.Outputs.{AreApart, File}
use Rattle.cert_export.proofs.LinePlaces.{few_lines}
use Rattle.cert_export.proofs.OwnNames.{files_apart}
use Rattle.cert_export.proofs.export.export_texts.Goals as goal

pub invariant_of-result : goal.invariant_of-result
invariant_of-result c =
    let wave = c.args.wave.now in
    let added = c.in_ok-put_lines.ensures in
    let is = added.is ∙ ap (λ (l : List File). l ++ added.own) c.in_ok-put_certificate.ensures in
    record {
      apart = subst AreApart (sym is) (files_apart wave c.args.prefix.now (cert_text (cert_of wave)) added.own (few_lines wave c.recall.ensures) added.are);
    }
