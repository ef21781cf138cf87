-- What a command delivers: files in their order, and what is printed after them.
use Rattle.std.specs.Prelude.{◌≡◌, ◌≢◌, ◌⊎◌, ℕ, ◌+◌, ◌<◌, ◌≤◌, List, ◌++◌, length, map, take, get_or, Contains, IsTrue}
use Rattle.std.specs.Prelude.{Bool}
use Rattle.std.specs.Prelude.{Some, Result, Ok, Err, slice_get}
use Rattle.std.specs.List.{All}
use Rattle.base_shelf.specs.Shelf.{View, Files, Nothing, Later, SameCounts, Rose, OthersKept, gathered}
use Rattle.base_shelf.specs.Sink.{SinkView}
use Rattle.base_shelf.specs.Calls.{Gained}
use Rattle.base_run.specs.Lines.{report_name, write_line}
use Rattle.base_run.specs.Names.{text_of_name}
use Rattle.base_run.specs.declared.output.Output.{Output}
use Rattle.base_run.specs.declared.undelivered.Undelivered.{Undelivered}
use Rattle.base_run.specs.declared.undelivered.Undelivered.TheVariants.{Fault, Memory}

-- A file to be written.
pub record File : Type 0 where
  pub name : List ℕ
  pub bytes : List ℕ

abbrev pub name_in : File → List ℕ
name_in file = file.name

abbrev pub file_of : Output → File
file_of output = record { name = text_of_name output.name; bytes = output.bytes.items }

-- Each file has another name than those before it.
abbrev pub AreApart : List File → Type 0
AreApart files =
    (i : ℕ) (d : File) → i < length files → All (λ before. before.name ≢ (get_or files i d).name) (take i files)

-- A file is whole.
abbrev pub IsWhole : Bool → Files → File → Type 0
IsWhole told new file = IsTrue told → new file.name ≡ Some file.bytes

-- The first k files are whole, and of every other name there is what there was.
pub record WrittenTo (told : Bool) (k : ℕ) (files : List File) (old new : Files) : Type 0 where
  pub whole : All (IsWhole told new) (take k files)
  pub rest : (name : List ℕ) → (Contains (map name_in (take k files)) name → ⊥) → new name ≡ old name

-- All files were written, and no other was; the first k of them stand whole under their names, and every other name
-- holds what it held.
pub record DeliveredTo (told : Bool) (k : ℕ) (files : List File) (old new : View) : Type 0 where
  pub written : WrittenTo told (length files) files old.written new.written
  pub put : WrittenTo told k files old.files new.files

-- What is left where the file of number i couldn't be delivered: every name holds what it held; or all files were
-- written, those before it stand whole under their names, it does so or doesn't, and every other name holds what it
-- held.
abbrev pub LeavesUpTo : Bool → List File → ℕ → View → View → Type 0
LeavesUpTo told files i old new =
    (new.files ≡ old.files) ⊎ ((k : ℕ) × ((k ≡ i) ⊎ (k ≡ i + 1)) × DeliveredTo told k files old new)

-- No file is in hand, or still the one that was.
abbrev pub IsClosed : View → View → Type 0
IsClosed old new = (new.hand ≡ Nothing) ⊎ (new.hand ≡ old.hand)

-- ---- a file

abbrev pub FileUnwritten : File → View → View → Undelivered → Type 0
FileUnwritten file old new (Fault line) =
    (line.now ≡ write_line file.name) × Rose (old.writes file.name) (new.writes file.name)
FileUnwritten file old new Memory = SameCounts old new

abbrev pub FileEnds : Bool → File → View → View → Result Unit Undelivered → Type 0
FileEnds told file old new (Ok _) = IsWhole told new.written file × SameCounts old new × (new.hand ≡ Nothing)
FileEnds told file old new (Err e) = FileUnwritten file old new e

-- A file written. Every name holds what it held.
pub record FileWritten (told : Bool) (file : File) (old new : View) (result : Result Unit Undelivered) : Type 0 where
  pub later : Later old new
  pub same : new.files ≡ old.files
  pub others : OthersKept file.name old.written new.written
  pub ends : FileEnds told file old new result

-- What was written of the file stands under its name.
abbrev pub StandsWritten : Bool → File → View → View → Type 0
StandsWritten told file old new = IsTrue told → new.files file.name ≡ Some (gathered old file.name)

-- It does, or what stood there stays.
abbrev pub StandsOrStays : Bool → File → View → View → Type 0
StandsOrStays told file old new = IsTrue told
    → (new.files file.name ≡ old.files file.name) ⊎ (new.files file.name ≡ Some (gathered old file.name))

abbrev pub FilePutEnds : Bool → File → View → View → Result Unit Undelivered → Type 0
FilePutEnds told file old new (Ok _) = StandsWritten told file old new × SameCounts old new × (new.hand ≡ Nothing)
FilePutEnds told file old new (Err e) = StandsOrStays told file old new × FileUnwritten file old new e

-- A file put under its name.
pub record FilePut (told : Bool) (file : File) (old new : View) (result : Result Unit Undelivered) : Type 0 where
  pub later : Later old new
  pub written : new.written ≡ old.written
  pub others : OthersKept file.name old.files new.files
  pub ends : FilePutEnds told file old new result

-- ---- files

-- The file of number i is the one that couldn't be written or put.
pub record FailsAt (files : List File) (i : ℕ) (old new : View) (e : Undelivered) : Type 0 where
  pub file : File
  pub is : slice_get files i ≡ Some file
  pub cause : FileUnwritten file old new e

abbrev pub FilesEnd : Bool → List File → View → View → Result Unit Undelivered → Type 0
FilesEnd told files old new (Ok _) =
    WrittenTo told (length files) files old.written new.written × SameCounts old new × IsClosed old new
FilesEnd told files old new (Err e) = (i : ℕ) × FailsAt files i old new e

-- Files written in their order. Every name holds what it held.
pub record FilesWritten (told : Bool) (files : List File) (old new : View) (result : Result Unit Undelivered)
    : Type 0 where
  pub later : Later old new
  pub same : new.files ≡ old.files
  pub ends : FilesEnd told files old new result

abbrev pub FilesPutEnd : Bool → List File → View → View → Result Unit Undelivered → Type 0
FilesPutEnd told files old new (Ok _) =
    WrittenTo told (length files) files old.files new.files × SameCounts old new × IsClosed old new
FilesPutEnd told files old new (Err e) = (i : ℕ) × FailsAt files i old new e
    × ((k : ℕ) × ((k ≡ i) ⊎ (k ≡ i + 1)) × WrittenTo told k files old.files new.files)

-- Files that were written, put under their names in their order.
pub record FilesPut (told : Bool) (files : List File) (old new : View) (result : Result Unit Undelivered) : Type 0 where
  pub later : Later old new
  pub written : new.written ≡ old.written
  pub ends : FilesPutEnd told files old new result

-- The file of number i couldn't be delivered.
pub record StopsAt (told : Bool) (files : List File) (i : ℕ) (old new : View) (e : Undelivered) : Type 0 where
  pub at : FailsAt files i old new e
  pub left : LeavesUpTo told files i old new

abbrev pub FilesDeliveredEnd : Bool → List File → View → View → Result Unit Undelivered → Type 0
FilesDeliveredEnd told files old new (Ok _) =
    DeliveredTo told (length files) files old new × SameCounts old new × IsClosed old new
FilesDeliveredEnd told files old new (Err e) = (i : ℕ) × StopsAt told files i old new e

-- All files written in their order, and then each put under its name.
pub record FilesDelivered (told : Bool) (files : List File) (old new : View) (result : Result Unit Undelivered)
    : Type 0 where
  pub later : Later old new
  pub ends : FilesDeliveredEnd told files old new result

-- ---- what is printed

abbrev pub Unprinted : SinkView → SinkView → Undelivered → Type 0
Unprinted old new (Fault line) = (line.now ≡ write_line report_name) × Rose old.faults new.faults
Unprinted old new Memory = new.faults ≡ old.faults

abbrev pub PrintEnds : Bool → List ℕ → SinkView → SinkView → Result Unit Undelivered → Type 0
PrintEnds told text old new (Ok _) = (IsTrue told → new.bytes ≡ old.bytes ++ text) × (new.faults ≡ old.faults)
PrintEnds told text old new (Err e) = (IsTrue told → Gained text old new) × Unprinted old new e

pub record Printed (told : Bool) (text : List ℕ) (old new : SinkView) (result : Result Unit Undelivered) : Type 0 where
  pub later : old.faults ≤ new.faults
  pub ends : PrintEnds told text old new result

-- ---- all

-- All files are whole, and the sink gained the text. No count rose.
pub record Delivered (told sink_told : Bool) (files : List File) (text : List ℕ) (old new : View)
    (before after : SinkView) : Type 0 where
  pub delivered : DeliveredTo told (length files) files old new
  pub printed : IsTrue sink_told → after.bytes ≡ before.bytes ++ text
  pub counts : SameCounts old new
  pub closed : IsClosed old new
  pub faults : after.faults ≡ before.faults

-- The files were whole, and the text couldn't be printed.
pub record StopsPrinting (told sink_told : Bool) (files : List File) (text : List ℕ) (old new : View)
    (before after : SinkView)
    (e : Undelivered) : Type 0 where
  pub delivered : DeliveredTo told (length files) files old new
  pub counts : SameCounts old new
  pub closed : IsClosed old new
  pub gained : IsTrue sink_told → Gained text before after
  pub cause : Unprinted before after e

abbrev pub DeliveryEnds : Bool → Bool → List File → List ℕ → View → View → SinkView → SinkView → Result Unit Undelivered
    → Type 0
DeliveryEnds told sink_told files text old new before after (Ok _) =
    Delivered told sink_told files text old new before after
DeliveryEnds told sink_told files text old new before after (Err e) =
    (((i : ℕ) × StopsAt told files i old new e) × (new.hand ≡ Nothing) × (after ≡ before))
    ⊎ StopsPrinting told sink_told files text old new before after e

pub record Delivery (told sink_told : Bool) (files : List File) (text : List ℕ) (old new : View)
    (before after : SinkView)
    (result : Result Unit Undelivered) : Type 0 where
  pub later : Later old new
  pub sink_later : before.faults ≤ after.faults
  pub ends : DeliveryEnds told sink_told files text old new before after result
