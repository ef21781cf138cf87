-- Which fault a failed call becomes, and where its count stands.
use Rattle.std.proofs.Common.{◌≡◌, ◌≤◌, List, Err, IsErrOf, ℕ, sym, ◌∙◌, subst, refl, arith}
use Rattle.base_shelf.specs.declared.fault.IoErr.{IoErr}
use Rattle.base_shelf.specs.declared.fault.IoErr.TheVariants.{Failed, Memory}
use Rattle.base_shelf.specs.declared.fault.ReadErr.TheVariants.{TooLong, Fault as ReadFault}
use Rattle.base_shelf.specs.declared.fault.WriteErr.TheVariants.{Fault as WriteFault}
use Rattle.base_shelf.specs.Errors.{read_err, write_err}
use Rattle.base_shelf.specs.Shelf.{View, Later, Rose, SameCounts, KeptUnless, Opened, Created}

pub write_failed : (e : IoErr) → write_err e ≡ WriteFault → e ≡ Failed
write_failed Failed h = refl
write_failed Memory h = cc

pub read_failed : (e : IoErr) → read_err e ≡ ReadFault → e ≡ Failed
read_failed Failed h = refl
read_failed Memory h = cc

pub kept_read : {T : Type 0} (e : IoErr) (P : Type 0) → KeptUnless e P → (IsErrOf {T = T} (Err (read_err e)) ReadFault → ⊥) → P
kept_read Failed P kept not = absurd (not refl)
kept_read Memory P kept not = kept

pub kept_write : {T : Type 0} (e : IoErr) (P : Type 0) → KeptUnless e P → (IsErrOf {T = T} (Err (write_err e)) WriteFault → ⊥) → P
kept_write Failed P kept not = absurd (not refl)
kept_write Memory P kept not = kept

pub not_long : (e : IoErr) → read_err e ≡ TooLong → ⊥
not_long Failed h = cc
not_long Memory h = cc

pub opened_one : (a b : List ℕ) → Opened a ≡ Opened b → a ≡ b
opened_one a b h = cc

pub opened_not : (a b : List ℕ) → Opened a ≡ Created b → ⊥
opened_not a b h = cc

pub same_trans : (a b c : View) → SameCounts a b → SameCounts b c → SameCounts a c
same_trans a b c ab bc = record { reads = λ n. bc.reads n ∙ ab.reads n; writes = λ n. bc.writes n ∙ ab.writes n }

-- A count that rose after one that didn't fall rose.
pub rose_behind : (old mid new : ℕ) → old ≤ mid → Rose mid new → Rose old new
rose_behind old mid new later rose = record { up = omega (arith, later, rose.up); end = omega (arith, later, rose.end) }

pub later_trans : (a b c : View) → Later a b → Later b c → Later a c
later_trans a b c ab bc = record { reads = λ n. omega (arith, ab.reads n, bc.reads n); writes = λ n. omega (arith, ab.writes n, bc.writes n); begun = bc.begun ∙ ab.begun }

-- The count at the opened name rose.
pub rose_here : (name : List ℕ) (mid new : View) → mid.hand ≡ Opened name → (n : List ℕ) × (mid.hand ≡ Opened n) × Rose (mid.reads n) (new.reads n) → Rose (mid.reads name) (new.reads name)
rose_here name mid new hand (n, is, rose) = let P : List ℕ → Type 0 = λ m. Rose (mid.reads m) (new.reads m) in subst P (opened_one n name (sym is ∙ hand)) rose
