-- The turns of the loop that reads, and its ways out.
use Rattle.std.proofs.Common.{◌≡◌, ◌⊎◌, ℕ, ◌-◌, ◌<◌, ◌≤◌, List, [], ◌++◌, length, take, refl, sym, ◌∙◌, ap, arith, length-append, length-take, inl, inr, Ok, Err, Bool}
use Rattle.std.specs.Prelude.{Vec}
use Rattle.std.specs.declared.alloc.Global.{Global}
use Rattle.std.proofs.lemmas.List.{append-nil}
use Rattle.base_shelf.specs.declared.fault.IoErr.{IoErr}
use Rattle.base_shelf.specs.declared.fault.ReadErr.TheVariants.{TooLong, Fault as ReadFault, Memory as ReadMemory}
use Rattle.base_shelf.specs.Errors.{read_err}
use Rattle.base_shelf.specs.Shelf.{View, Later, Rose, SameCounts, Opened, Created, held, OpenStep, ReadStep, CloseStep}
use Rattle.base_shelf.specs.Calls.{ReadAll}
use Rattle.base_shelf.proofs.Turns.{ReadTurn}
use Rattle.base_shelf.proofs.Fronts.{read_more}
use Rattle.base_shelf.proofs.Failed.{read_failed, not_long, opened_not, later_trans, same_trans, rose_behind, rose_here, kept_read}

pub read_starts : (told : Bool) (name : List ℕ) (limit : ℕ) (old new : View) → OpenStep told name old new (Ok tt) → ReadTurn told name [] limit old new
read_starts told name limit old new step = record {
  later = step.later;
  kept = step.counts;
  files = step.files;
  written = step.written;
  hand = step.ok;
  there = step.there;
  text = λ t. sym (step.unread t);
  fits = omega arith;
}

pub read_grows : (told : Bool) (name so_far buffer : List ℕ) (limit count : ℕ) (old mid new : View) → ReadTurn told name so_far limit old mid → ReadStep told mid new buffer (Ok count) → count ≤ limit - length so_far → ReadTurn told name (so_far ++ take count buffer) limit old new
read_grows told name so_far buffer limit count old mid new turn step fits = record {
  later = later_trans old mid new turn.later step.later;
  kept = same_trans old mid new turn.kept step.counts;
  files = step.files ∙ turn.files;
  written = step.written ∙ turn.written;
  hand = step.hand ∙ turn.hand;
  there = turn.there;
  text = λ t. read_more (held old name) so_far mid.unread (take count buffer) new.unread (turn.text t) (step.bytes name turn.hand t);
  fits = omega (arith, turn.fits, fits, step.bound, length-append so_far (take count buffer), length-take count buffer);
}

pub read_fails : (told : Bool) (name so_far buffer : List ℕ) (limit : ℕ) (old mid new : View) (e : IoErr) → ReadTurn told name so_far limit old mid → ReadStep told mid new buffer (Err e) → ReadAll told name limit old new (Err (read_err e))
read_fails told name so_far buffer limit old mid new e turn step = record {
  later = later_trans old mid new turn.later step.later;
  files = step.files ∙ turn.files;
  written = step.written ∙ turn.written;
  text = tt;
  fits = tt;
  there = tt;
  closed = tt;
  long = λ h. absurd (let is : read_err e ≡ TooLong = cc in not_long e is);
  fault = λ h. let is : read_err e ≡ ReadFault = cc in
      let r = rose_here name mid new turn.hand (step.fault (ap (λ (x : IoErr). Err x) (read_failed e is))) in
      rose_behind _ _ _ (turn.later.reads name) r;
  kept = λ not. same_trans old mid new turn.kept (kept_read e _ step.counts not);
}

pub read_long : (told : Bool) (name so_far buffer : List ℕ) (limit count : ℕ) (old mid new : View) → ReadTurn told name so_far limit old mid → ReadStep told mid new buffer (Ok count) → limit - length so_far < count → ReadAll told name limit old new (Err TooLong)
read_long told name so_far buffer limit count old mid new turn step over = record {
  later = later_trans old mid new turn.later step.later;
  files = step.files ∙ turn.files;
  written = step.written ∙ turn.written;
  text = tt;
  fits = tt;
  there = tt;
  closed = tt;
  long = λ _ t.
      let all = read_more (held old name) so_far mid.unread (take count buffer) new.unread (turn.text t) (step.bytes name turn.hand t) in
      omega (arith, ap length all, length-append (so_far ++ take count buffer) new.unread, length-append so_far (take count buffer), length-take count buffer, step.bound, over);
  fault = λ h. absurd (cc);
  kept = λ _. same_trans old mid new turn.kept step.counts;
}

pub read_memory : (told : Bool) (name so_far : List ℕ) (limit : ℕ) (old new : View) → Later old new → SameCounts old new → new.files ≡ old.files → new.written ≡ old.written → ReadAll told name limit old new (Err ReadMemory)
read_memory told name so_far limit old new later same files written = record {
  later = later;
  files = files;
  written = written;
  text = tt;
  fits = tt;
  there = tt;
  closed = tt;
  long = λ h. absurd (cc);
  fault = λ h. absurd (cc);
  kept = λ _. same;
}

pub close_fails : (told : Bool) (name so_far : List ℕ) (limit : ℕ) (old mid new : View) (e : IoErr) → Later old mid → SameCounts old mid → mid.files ≡ old.files → mid.written ≡ old.written → mid.hand ≡ Opened name → CloseStep mid new (Err e) → ReadAll told name limit old new (Err (read_err e))
close_fails told name so_far limit old mid new e later same files written hand step = record {
  later = later_trans old mid new later step.later;
  files = step.files ∙ files;
  written = step.written ∙ written;
  text = tt;
  fits = tt;
  there = tt;
  closed = tt;
  long = λ h. absurd (let is : read_err e ≡ TooLong = cc in not_long e is);
  fault = λ h. let is : read_err e ≡ ReadFault = cc in
      let r = here (step.fault (ap (λ (x : IoErr). Err x) (read_failed e is))) in
      rose_behind _ _ _ (later.reads name) r;
  kept = λ not. same_trans old mid new same (kept_read e _ step.counts not);
}
  where
    here : ((n : List ℕ) × (mid.hand ≡ Opened n) × Rose (mid.reads n) (new.reads n)) ⊎ ((n : List ℕ) × (mid.hand ≡ Created n) × Rose (mid.writes n) (new.writes n)) → Rose (mid.reads name) (new.reads name)
    here (inl opened) = rose_here name mid new hand opened
    here (inr (n, is, rose)) = absurd (opened_not name n (sym hand ∙ is))

pub read_done : (told : Bool) (name buffer : List ℕ) (limit : ℕ) (old mid last new : View) (v : Vec ℕ Global) → ReadTurn told name v.items limit old mid → ReadStep told mid last buffer (Ok 0) → 0 < length buffer → CloseStep last new (Ok tt) → ReadAll told name limit old new (Ok v)
read_done told name buffer limit old mid last new v turn step room close = record {
  later = later_trans old mid new turn.later (later_trans mid last new step.later close.later);
  files = close.files ∙ step.files ∙ turn.files;
  written = close.written ∙ step.written ∙ turn.written;
  text = λ t. sym (turn.text t ∙ ap (λ (l : List ℕ). v.items ++ l) (step.end name turn.hand refl room t) ∙ append-nil v.items);
  fits = turn.fits;
  there = turn.there;
  closed = close.hand;
  long = λ h. absurd (cc);
  fault = λ h. absurd (cc);
  kept = λ _. same_trans old mid new turn.kept (same_trans mid last new step.counts close.counts);
}
