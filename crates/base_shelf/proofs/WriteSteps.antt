-- The turns of the loops that write and print.
use Rattle.std.proofs.Common.{◌≡◌, ℕ, ◌+◌, ◌<◌, List, length, length-take-le, ◌++◌, take, drop, sym, ◌∙◌, ap, arith, length-drop, Option, Some, inr, Ok, Err, Bool, subst}
use Rattle.std.proofs.Math.Seq.{take-add}
use Rattle.base_shelf.specs.declared.fault.IoErr.{IoErr}
use Rattle.base_shelf.specs.declared.fault.WriteErr.TheVariants.{Fault as WriteFault}
use Rattle.base_shelf.specs.Errors.{write_err}
use Rattle.base_shelf.specs.Shelf.{View, bytes_of, WriteStep}
use Rattle.base_shelf.specs.Sink.{SinkView, SinkStep}
use Rattle.base_shelf.specs.Calls.{WriteAll, PrintAll}
use Rattle.base_shelf.proofs.Turns.{WriteTurn, PrintTurn}
use Rattle.base_shelf.proofs.Fronts.{front, grown, tail_of, tail_is}
use Rattle.base_shelf.proofs.Failed.{write_failed, kept_write, later_trans, same_trans, rose_behind}

pub print_grows : (told : Bool) (text : List ℕ) (done count : ℕ) (old mid new : SinkView) → PrintTurn told text done old mid → SinkStep told mid new (tail_of done text) (Ok count) → PrintTurn told text (done + count) old new
print_grows told text done count old mid new turn given =
    let P : List ℕ → Type 0 = λ l. SinkStep told mid new l (Ok count) in
    let step = subst P (tail_is done text) given in
    record {
      later = omega (arith, turn.later, step.later);
      kept = step.counts ∙ turn.kept;
      wrote = λ t. grown old.bytes mid.bytes new.bytes done count text (turn.wrote t) (step.wrote t);
      within = omega (arith, turn.within, step.bound, length-drop done text);
    }

pub print_fails : (told : Bool) (text : List ℕ) (done : ℕ) (old mid new : SinkView) (e : IoErr) (rest : List ℕ) → PrintTurn told text done old mid → done < length text → SinkStep told mid new rest (Err e) → PrintAll told text old new (Err (write_err e))
print_fails told text done old mid new e rest turn left step = record {
  later = omega (arith, turn.later, step.later);
  whole = tt;
  part = λ t. (take done text, step.err t ∙ turn.wrote t, front done text);
  less = λ t. (take done text, step.err t ∙ turn.wrote t, front done text, omega (arith, left, length-take-le done text turn.within));
  fault = λ h. let is : write_err e ≡ WriteFault = cc in rose_behind _ _ _ turn.later (step.fault (ap (λ (x : IoErr). Err x) (write_failed e is)));
  kept = λ not. kept_write e _ step.counts not ∙ turn.kept;
}

pub write_grows : (told : Bool) (name bytes : List ℕ) (done count : ℕ) (old mid new : View) → WriteTurn told name bytes done old mid → WriteStep told name mid new (tail_of done bytes) (Ok count) → WriteTurn told name bytes (done + count) old new
write_grows told name bytes done count old mid new turn given =
    let P : List ℕ → Type 0 = λ l. WriteStep told name mid new l (Ok count) in
    let step = subst P (tail_is done bytes) given in
    record {
      later = later_trans old mid new turn.later step.later;
      kept = same_trans old mid new turn.kept step.counts;
      hand = step.hand ∙ turn.hand;
      files = step.files ∙ turn.files;
      others = λ other not. step.others other not ∙ turn.others other not;
      wrote = λ t. step.wrote t ∙ ap (λ (o : Option (List ℕ)). Some (bytes_of o ++ take count (drop done bytes))) (turn.wrote t) ∙ ap (λ (l : List ℕ). Some l) (sym (take-add done count bytes));
      within = omega (arith, turn.within, step.bound, length-drop done bytes);
    }

pub write_fails : (told : Bool) (name bytes : List ℕ) (done : ℕ) (old mid new : View) (e : IoErr) (rest : List ℕ) → WriteTurn told name bytes done old mid → WriteStep told name mid new rest (Err e) → WriteAll told name bytes old new (Err (write_err e))
write_fails told name bytes done old mid new e rest turn step = record {
  later = later_trans old mid new turn.later step.later;
  files = step.files ∙ turn.files;
  others = λ other not. step.others other not ∙ turn.others other not;
  whole = tt;
  part = λ t. inr (take done bytes, step.err t ∙ turn.wrote t, front done bytes);
  closed = tt;
  fault = λ h. let is : write_err e ≡ WriteFault = cc in rose_behind _ _ _ (turn.later.writes name) (step.fault (ap (λ (x : IoErr). Err x) (write_failed e is)));
  kept = λ not. same_trans old mid new turn.kept (kept_write e _ step.counts not);
}
