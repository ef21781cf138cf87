-- Where a file is open, its next bytes are given.
use Rattle.std.proofs.Common.{◌≡◌, refl}
use Rattle.base_files.specs.declared.stage.Stage.TheVariants.{Reading}
use Rattle.base_files.proofs.ReadStep.{read_step}
use Rattle.base_files.proofs.file_shelf.FileShelfShelf.read.Goals as goal

pub returns-in-Reading : goal.returns-in-Reading
returns-in-Reading g c =
    let was : c.args.self.now.stage ≡ Reading c.in-Reading.opened = cc in
    read_step _ _ c.in-Reading.opened c.give-count.new.self _ _ _ _ c.as_str.result.now c.bytes-text.result.now _ was refl c.give-count.ensures.name
    c.as_str.ensures.value c.bytes-text.ensures c.give-count.ensures.bound c.give-count.ensures.bytes c.give-count.ensures.end
