-- What is seen of a sink, and what a write does to that.
use Rattle.std.specs.Prelude.{◌≡◌, ℕ, ◌<◌, ◌≤◌, List, ◌++◌, length, take, Result, Ok, Err, IsErrOf, OnErr, IfOk, IsTrue}
use Rattle.std.specs.Prelude.{Bool}
use Rattle.base_shelf.specs.Shelf.{Rose, KeptUnless}
use Rattle.base_shelf.specs.declared.fault.IoErr.{IoErr}
use Rattle.base_shelf.specs.declared.fault.IoErr.TheVariants.{Failed}

-- What is seen of a sink: its count of faults, and its bytes so far.
pub record SinkView : Type 0 where
  pub faults : ℕ
  pub bytes : List ℕ

-- Only a call that answers Failed raises the count.
abbrev pub KeepsFaults : {T : Type 0} → SinkView → SinkView → Result T IoErr → Type 0
KeepsFaults old new (Ok _) = new.faults ≡ old.faults
KeepsFaults old new (Err e) = KeptUnless e (new.faults ≡ old.faults)

-- `write`: the sink gains the first of the bytes, at least one where there are any.
pub record SinkStep (told : Bool) (old new : SinkView) (bytes : List ℕ) (result : Result ℕ IoErr) : Type 0 where
  pub later : old.faults ≤ new.faults
  pub counts : KeepsFaults old new result
  pub bound : IfOk result (λ n. n ≤ length bytes)
  pub some : IfOk result (λ n. 0 < length bytes → 0 < n)
  pub wrote : IfOk result (λ n. IsTrue told → new.bytes ≡ old.bytes ++ take n bytes)
  pub err : OnErr result (IsTrue told → new.bytes ≡ old.bytes)
  pub fault : IsErrOf result Failed → Rose old.faults new.faults
