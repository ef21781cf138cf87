-- What the loops over a shelf and a sink keep.
use Rattle.std.proofs.Common.{◌≡◌, ℕ, ◌≤◌, List, ◌++◌, length, take, Some, IsTrue, Bool}
use Rattle.std.specs.Prelude.{IsSome}
use Rattle.base_shelf.specs.Shelf.{View, Later, SameCounts, Opened, Created, held, OthersKept}
use Rattle.base_shelf.specs.Sink.{SinkView}

pub record ReadTurn (told : Bool) (name so_far : List ℕ) (limit : ℕ) (old new : View) : Type 0 where
  pub later : Later old new
  pub kept : SameCounts old new
  pub files : new.files ≡ old.files
  pub written : new.written ≡ old.written
  pub hand : new.hand ≡ Opened name
  pub there : IsTrue told → IsSome (old.files name)
  pub text : IsTrue told → held old name ≡ so_far ++ new.unread
  pub fits : length so_far ≤ limit

pub record WriteTurn (told : Bool) (name bytes : List ℕ) (done : ℕ) (old new : View) : Type 0 where
  pub later : Later old new
  pub kept : SameCounts old new
  pub hand : new.hand ≡ Created name
  pub files : new.files ≡ old.files
  pub others : OthersKept name old.written new.written
  pub wrote : IsTrue told → new.written name ≡ Some (take done bytes)
  pub within : done ≤ length bytes

pub record PrintTurn (told : Bool) (text : List ℕ) (done : ℕ) (old new : SinkView) : Type 0 where
  pub later : old.faults ≤ new.faults
  pub kept : new.faults ≡ old.faults
  pub wrote : IsTrue told → new.bytes ≡ old.bytes ++ take done text
  pub within : done ≤ length text
