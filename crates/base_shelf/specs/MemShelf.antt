-- What is seen of a shelf in memory, and what each of its calls does to that.
use Rattle.std.specs.Prelude.{◌≡◌, ◌⊎◌, ◌↔◌, ℕ, List, [], ◌++◌, length, take, drop, min, None, Result, IsErrOf, IfOk}
use Rattle.std.specs.Prelude.{OnErr, Bool, true, false, if◌then◌else◌, IsTrue}
use Rattle.base_shelf.specs.Shelf.{View, Hand, Nothing, Opened, Created}
use Rattle.base_shelf.specs.NamedFiles.{File, files_of, SetsFile}
use Rattle.base_shelf.specs.Plan.{PlanView, no_calls, FailsNext, called, counted, has_failed}
use Rattle.base_shelf.specs.InHand.{hand_of, unread_of}
use Rattle.base_shelf.specs.declared.in_hand.InHand.{InHand}
use Rattle.base_shelf.specs.declared.fault.IoErr.{IoErr}
use Rattle.base_shelf.specs.declared.fault.IoErr.TheVariants.{Failed, Memory}

-- A shelf in memory: the most bytes it moves in a call, its files, what was written of each, the file in hand with what
-- isn't read of it, its calls, and its counts of faults, which are those of every name.
pub record MemShelfView : Type 0 where
  pub piece : ℕ
  pub files : List File
  pub written : List File
  pub hand : Hand
  pub unread : List ℕ
  pub plan : PlanView
  pub read_faults : ℕ
  pub write_faults : ℕ

-- What is seen of its parts.
abbrev pub seen_of : ℕ → List File → List File → InHand → PlanView → ℕ → ℕ → MemShelfView
seen_of piece files written hand plan read_faults write_faults = record {
  piece = piece;
  files = files;
  written = written;
  hand = hand_of hand;
  unread = unread_of hand;
  plan = plan;
  read_faults = read_faults;
  write_faults = write_faults;
}

-- No file, none in hand, no call, no fault.
abbrev pub empty_shelf : ℕ → MemShelfView
empty_shelf piece = record {
  piece = piece;
  files = [];
  written = [];
  hand = Nothing;
  unread = [];
  plan = no_calls;
  read_faults = 0;
  write_faults = 0;
}

-- The same shelf with another plan.
abbrev pub with_plan : MemShelfView → PlanView → MemShelfView
with_plan shelf plan = record shelf { plan = plan }

-- The same shelf with other files.
abbrev pub with_files : MemShelfView → List File → MemShelfView
with_files shelf files = record shelf { files = files }

-- What is seen of it as a shelf, which is made over no text.
abbrev pub shelf_of : MemShelfView → View
shelf_of shelf = record {
  reads = λ _. shelf.read_faults;
  writes = λ _. shelf.write_faults;
  hand = shelf.hand;
  files = files_of shelf.files;
  written = files_of shelf.written;
  unread = shelf.unread;
  begun = λ _. None;
}

abbrev pub is_opened : Hand → Bool
is_opened Nothing = false
is_opened (Opened name) = true
is_opened (Created name) = false

abbrev pub is_created : Hand → Bool
is_created Nothing = false
is_created (Opened name) = false
is_created (Created name) = true

-- A file is in hand.
abbrev pub HasFile : Hand → Type 0
HasFile hand = IsTrue (is_opened hand) ⊎ IsTrue (is_created hand)

-- A file was set, and all else stayed.
pub record PutsFile (name bytes : List ℕ) (old new : MemShelfView) : Type 0 where
  pub set : SetsFile name bytes (files_of old.files) (files_of new.files)
  pub rest : new ≡ with_files old new.files

-- What a call of the shelf counts: itself, and a fault of reading or of writing, if it was one.
pub record Counts (old new : MemShelfView) (reading writing : Bool) : Type 0 where
  pub piece : new.piece ≡ old.piece
  pub plan : new.plan ≡ called old.plan
  pub reads : new.read_faults ≡ counted old.read_faults reading
  pub writes : new.write_faults ≡ counted old.write_faults writing

-- `open_file` fails exactly where it is set to, and where there is no such file.
pub record MemOpen (name : List ℕ) (old new : MemShelfView) (result : Result Unit IoErr) : Type 0 where
  pub fails : IsErrOf result Failed ↔ (FailsNext old.plan ⊎ (files_of old.files name ≡ None))
  pub files : new.files ≡ old.files
  pub counts : Counts old new (has_failed result) false

-- `read` gives a piece, fails exactly where a file is opened and it is set to fail, and takes no memory.
pub record MemRead (old new : MemShelfView) (before after : List ℕ) (result : Result ℕ IoErr) : Type 0 where
  pub fails : IsErrOf result Failed ↔ (IsTrue (is_opened old.hand) × FailsNext old.plan)
  pub memory : IsErrOf result Memory → ⊥
  pub gives : IfOk result (λ n. n ≡ min old.piece (min (length before) (length old.unread)))
  pub filled : IfOk result (λ n. after ≡ take n old.unread ++ drop n before)
  pub rest : IfOk result (λ n. new.unread ≡ drop n old.unread)
  pub err : OnErr result ((after ≡ before) × (new.unread ≡ old.unread))
  pub files : new.files ≡ old.files
  pub counts : Counts old new (has_failed result) false

-- `create_file` fails exactly where it is set to; an error leaves what was written.
pub record MemCreate (old new : MemShelfView) (result : Result Unit IoErr) : Type 0 where
  pub fails : IsErrOf result Failed ↔ FailsNext old.plan
  pub files : new.files ≡ old.files
  pub err : OnErr result (new.written ≡ old.written)
  pub counts : Counts old new false (has_failed result)

-- `write` takes a piece, and fails exactly where it is set to.
pub record MemWrite (old new : MemShelfView) (bytes : List ℕ) (result : Result ℕ IoErr) : Type 0 where
  pub fails : IsErrOf result Failed ↔ FailsNext old.plan
  pub takes : IfOk result (λ n. n ≡ min old.piece (length bytes))
  pub files : new.files ≡ old.files
  pub counts : Counts old new false (has_failed result)

-- `close_file` fails exactly where a file is in hand and it is set to fail, which counts as a fault of reading
-- for an opened file and of writing for a created one; it takes no memory.
pub record MemClose (old new : MemShelfView) (result : Result Unit IoErr) : Type 0 where
  pub fails : IsErrOf result Failed ↔ (HasFile old.hand × FailsNext old.plan)
  pub memory : IsErrOf result Memory → ⊥
  pub files : new.files ≡ old.files
  pub counts : Counts old new (if is_opened old.hand then has_failed result else false)
      (if is_created old.hand then has_failed result else false)

-- `put_file` fails exactly where it is set to; an error leaves all files.
pub record MemPut (old new : MemShelfView) (result : Result Unit IoErr) : Type 0 where
  pub fails : IsErrOf result Failed ↔ FailsNext old.plan
  pub err : OnErr result (new.files ≡ old.files)
  pub counts : Counts old new false (has_failed result)
