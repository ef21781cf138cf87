-- Counts over two steps.
use Rattle.std.proofs.Common.{◌≡◌, ℕ, zero, suc, ◌≤◌, List, [], ◌∷◌, Bool, refl, sym, subst, ◌∙◌, arith}
use Rattle.std.specs.Prelude.{Contains, string_bytes}
use Rattle.base_shelf.specs.Shelf.{View, Later, SameCounts, Rose}
use Rattle.base_run.specs.Inputs.{FileRefused, TextUnread}
use Rattle.base_run.specs.Outputs.{File, FileUnwritten}
use Rattle.base_run.specs.declared.refusal.Refusal.{Refusal}
use Rattle.base_run.specs.declared.refusal.Refusal.TheVariants.{Read, Long, Text, Memory as NoMemory}
use Rattle.base_run.specs.declared.undelivered.Undelivered.{Undelivered}
use Rattle.base_run.specs.declared.undelivered.Undelivered.TheVariants.{Fault, Memory as OutOfMemory}

-- no count fell in two steps
pub later_twice : (a b c : View) → Later a b → Later b c → Later a c
later_twice a b c first second = record {
  reads = λ name. (let x = first.reads name in let y = second.reads name in omega (arith, x, y));
  writes = λ name. (let x = first.writes name in let y = second.writes name in omega (arith, x, y));
  begun = second.begun ∙ first.begun;
}

-- no count rose in two steps
pub same_twice : (a b c : View) → SameCounts a b → SameCounts b c → SameCounts a c
same_twice a b c first second = record { reads = λ name. second.reads name ∙ first.reads name; writes = λ name. second.writes name ∙ first.writes name }

pub same_here : (a : View) → SameCounts a a
same_here a = record { reads = λ name. refl; writes = λ name. refl }

pub later_here : (a : View) → Later a a
later_here a = record { reads = λ name. omega arith; writes = λ name. omega arith; begun = refl }

-- a count that rose after one that didn't fall rose
pub rose_after : (old mid new : ℕ) → old ≤ mid → Rose mid new → Rose old new
rose_after old mid new later rose = record { up = (let up = rose.up in omega (arith, later, up)); end = (let end = rose.end in omega (arith, later, end)) }

-- a file that can't be written, after a step that raised no count
pub unwritten_after : (file : File) (a b c : View) (e : Undelivered) → Later a b → SameCounts a b → FileUnwritten file b c e → FileUnwritten file a c e
unwritten_after file a b c (Fault line) later same cause =
    (cause.0, rose_after (a.writes file.name) (b.writes file.name) (c.writes file.name) (later.writes file.name) cause.1)
unwritten_after file a b c OutOfMemory later same cause = same_twice a b c same cause

-- and before one that raised no count
pub unwritten_before : (file : File) (a b c : View) (e : Undelivered) → FileUnwritten file a b e → Later b c → SameCounts b c → FileUnwritten file a c e
unwritten_before file a b c (Fault line) cause later same =
    let count = same.writes file.name in
    let rose = cause.1 in
    (cause.0, record { up = (let up = rose.up in omega (arith, up, count)); end = rose.end })
unwritten_before file a b c OutOfMemory cause later same = same_twice a b c cause same

in_one : (name other : List ℕ) → Contains (name ∷ []) other → other ≡ name
in_one name other (zero, within, is) = sym is
in_one name other (suc k, within, is) = absurd (omega (arith, within))

-- a file of some that can't be read, after a step that raised no count
pub unread_after : {C : Type 0} (told : Bool) (names : List (List ℕ)) (name : List ℕ) (limit : ℕ) (long : C) (a b c : View) (e : Refusal C) → Later a b → SameCounts a b
    → Contains names name → FileRefused told name b c e → TextUnread told names limit long a c e
unread_after told names name limit long a b c (Read file) later same named cause =
    let is = in_one name (string_bytes file) cause.named in
    record {
      named = subst (λ (n : List ℕ). Contains names n) (sym is) named;
      rose = rose_after (a.reads (string_bytes file)) (b.reads (string_bytes file)) (c.reads (string_bytes file)) (later.reads (string_bytes file)) cause.rose;
      closed = cause.closed;
    }
unread_after told names name limit long a b c (Long cause') later same named cause = absurd cause
unread_after told names name limit long a b c (Text cause') later same named cause = absurd cause
unread_after told names name limit long a b c NoMemory later same named cause = same_twice a b c same cause
