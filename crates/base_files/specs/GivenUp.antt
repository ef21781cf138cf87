-- What giving up the file in hand does.
use Rattle.std.specs.Prelude.{◌≡◌}
use Rattle.base_shelf.specs.Shelf.{Nothing}
use Rattle.base_files.specs.Stage.{hand_of, put_in, taken_in}
use Rattle.base_files.specs.declared.stage.Stage.{Stage}

-- No file is in hand, and what was written and what was put is what it was.
pub record GivesUp (before after : Stage) : Type 0 where
  pub hand : hand_of after ≡ Nothing
  pub taken : taken_in after ≡ taken_in before
  pub put : put_in after ≡ put_in before
