-- What is seen of a shelf in memory without faults, and what each of its calls does to that.
use Rattle.std.specs.Prelude.{◌≡◌, ℕ, List, [], ◌++◌, length, take, drop, min, Some, None, Result, IsErrOf, IfOk, OnErr}
use Rattle.base_shelf.specs.Shelf.{View, Files, Hand, Nothing, bytes_of}
use Rattle.base_shelf.specs.NamedFiles.{File, files_of, SetsFile}
use Rattle.base_shelf.specs.InHand.{hand_of, unread_of}
use Rattle.base_shelf.specs.declared.in_hand.InHand.{InHand}
use Rattle.base_shelf.specs.declared.fault.IoErr.{IoErr}
use Rattle.base_shelf.specs.declared.fault.IoErr.TheVariants.{Failed}

-- A shelf in memory without faults: its files, what was written of each, and the file in hand with what isn't read of
-- it.
pub record PlainShelfView : Type 0 where
  pub files : List File
  pub written : List File
  pub hand : Hand
  pub unread : List ℕ

-- What is seen of its parts.
abbrev pub plainly_seen : List File → List File → InHand → PlainShelfView
plainly_seen files written hand = record {
  files = files;
  written = written;
  hand = hand_of hand;
  unread = unread_of hand;
}

-- No file, and none in hand.
abbrev pub empty_plain_shelf : PlainShelfView
empty_plain_shelf = record { files = []; written = []; hand = Nothing; unread = [] }

-- What each name holds: nothing, where there is no such file.
abbrev pub files_plainly : List File → Files
files_plainly files name = Some (bytes_of (files_of files name))

-- What is seen of it as a shelf, which is made over no text: no fault is ever counted.
abbrev pub plain_shelf_of : PlainShelfView → View
plain_shelf_of shelf = record {
  reads = λ _. 0;
  writes = λ _. 0;
  hand = shelf.hand;
  files = files_plainly shelf.files;
  written = files_of shelf.written;
  unread = shelf.unread;
  begun = λ _. None;
}

-- `put`: the file is set, and all else is as it was.
pub record PutsPlainFile (name bytes : List ℕ) (old new : PlainShelfView) : Type 0 where
  pub files : SetsFile name bytes (files_of old.files) (files_of new.files)
  pub written : new.written ≡ old.written
  pub hand : new.hand ≡ old.hand
  pub unread : new.unread ≡ old.unread

-- A call never answers Failed.
abbrev pub NeverFails : {T : Type 0} → Result T IoErr → Type 0
NeverFails result = IsErrOf result Failed → ⊥

-- `read` gives all that is left, or as much as the buffer holds, and takes no memory.
pub record PlainRead (old new : PlainShelfView) (before after : List ℕ) (result : Result ℕ IoErr) : Type 0 where
  pub gives : IfOk result (λ n. n ≡ min (length before) (length old.unread))
  pub filled : IfOk result (λ n. after ≡ take n old.unread ++ drop n before)
  pub rest : IfOk result (λ n. new.unread ≡ drop n old.unread)
  pub never : OnErr result ⊥
