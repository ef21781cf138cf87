-- The query's file comes in, and then the log's.
use Rattle.std.proofs.Common.{◌≡◌, ◌++◌, map}
use Rattle.std.specs.Prelude.{option_map, string_bytes}
use Rattle.base_run.specs.Outputs.{file_of}
use Rattle.cert_export.specs.Adding.{Adds}
use Rattle.cert_export.specs.Export.{AreFilesOf, log_files}
use Rattle.cert_export.proofs.Added.{line_added, on_ok}
use Rattle.cert_export.proofs.lines.put_line.Goals as goal

pub returns-clause-files : goal.returns-clause-files
returns-clause-files c =
    let wave = c.args.wave.now in
    let prefix = c.args.prefix.now in
    let number = c.args.number in
    let line = c.args.line.now in
    let old = map file_of c.args.outputs.now.items in
    let mid = map file_of c.put_file.new.outputs.items in
    let new = map file_of c.put_log.new.outputs.items in
    let log = option_map (λ l. l.now) c.log_of.result in
    on_ok c.put_log.result (new ≡ mid ++ log_files prefix number log) (Adds (AreFilesOf wave prefix number line) old new)
    (line_added wave prefix number line c.in_ok-query.query old mid new (string_bytes c.in_ok-name.name) c.in_ok-text.text.items log
    c.in_ok-query.ensures.query c.in_ok-name.ensures c.in_ok-text.ensures c.log_of.ensures c.in_ok-put_file.ensures)
    c.put_log.ensures
