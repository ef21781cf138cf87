-- What is seen of a shelf of real files.
use Rattle.std.specs.Prelude.{ℕ, List}
use Rattle.base_shelf.specs.Shelf.{View}
use Rattle.base_shelf.specs.NamedFiles.{File, files_of}
use Rattle.base_files.specs.Stage.{hand_of, files_in, unread_in, written_in}
use Rattle.base_files.specs.declared.stage.Stage.{Stage}

-- By its stage and the texts that were fetched, which it is made over; its counts are those of every name.
abbrev pub shelf_seen : Stage → List File → ℕ → ℕ → View
shelf_seen stage texts reads writes = record {
  reads = λ _. reads;
  writes = λ _. writes;
  hand = hand_of stage;
  files = files_in stage (files_of texts);
  written = written_in stage;
  unread = unread_in stage (files_of texts);
  begun = files_of texts;
}
