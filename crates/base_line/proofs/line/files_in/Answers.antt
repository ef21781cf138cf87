-- The last words are the FILEs.
use Rattle.std.proofs.Common.{rules, ◌≡◌, ◌-◌, drop, length}
use Rattle.std.specs.Prelude.{string_bytes}
use Rattle.base_line.specs.Read.{files_of}
use Rattle.base_line.proofs.Files.{last_files}
use Rattle.base_line.proofs.line.files_in.Goals as goal

pub returns : goal.returns
returns c =
    let words = c.args.words.now in
    let back : c.split_at.result.1.now ≡ drop (length words - c.count_files.result) words = search rules in
    rw back (last_files string_bytes words c.requires.0 (files_of c.args.line.now) c.requires.1 c.count_files.result c.count_files.ensures)
