-- A text that is refused has a first fault, and one that says a recording isn't refused.
use Rattle.std.proofs.Common.{◌≡◌, ◌≢◌, ℕ, List, [], ◌∷◌, ◌++◌, length, Result, Ok, Err, IfErr, MatchResult, refl, sym, ap, ◌∙◌, ◌+◌, arith}
use Rattle.recording_reader.specs.declared.refusal.VcdErr.{VcdErr}
use Rattle.recording_reader.specs.declared.refusal.VcdErr.TheVariants.{Syntax, UnknownCode, TimeBack, Width, DumpOff, Truncated, Memory}
use Rattle.recording_reader.specs.Words.{Word, words_of}
use Rattle.recording_reader.specs.Machine.{State, Next, step, run, then_run}
use Rattle.recording_reader.specs.Faults.{Says, FirstFault, beginning, reach, reach_on, stops}
use Rattle.recording_reader.specs.Reading.{Answers, RefusesRecording}
use Rattle.recording_reader.specs.Recording.{Recording}

same_error : (a b : VcdErr) → then_run (Err a) (λ next. run next [] 0) ≡ Err b → a ≡ b
same_error a b h = cc

record Fault (s : State) (words : List Word) (stop : ℕ) (e : VcdErr) : Type 0 where
  front : List Word
  rest : List Word
  split : words ≡ front ++ rest
  state : State
  reached : reach s front ≡ Ok state
  stopped : stops state rest stop e

fault : (s : State) (ts : List Word) (stop : ℕ) (e : VcdErr) → run s ts stop ≡ Err e → Fault s ts stop e
fault s [] stop e h = record { front = []; rest = []; split = refl; state = s; reached = refl; stopped = h }
fault s (t ∷ ts) stop e h =
    let by : (n : Next) → step s t ≡ n → then_run n (λ next. run next ts stop) ≡ Err e → Fault s (t ∷ ts) stop e =
    λ n. elim n as (λ n. step s t ≡ n → then_run n (λ next. run next ts stop) ≡ Err e → Fault s (t ∷ ts) stop e) [
      | Ok next ↦ λ is h. let f = fault next ts stop e h in record {
        front = t ∷ f.front;
        rest = f.rest;
        split = ap (λ (l : List Word). t ∷ l) f.split;
        state = f.state;
        reached = ap (λ (n : Next). reach_on n (λ n. reach n f.front)) is ∙ f.reached;
        stopped = f.stopped;
      }
      | Err e' ↦ λ is h. record { front = []; rest = t ∷ ts; split = refl; state = s; reached = refl; stopped = is ∙ ap (λ (e : VcdErr). Err e) (same_error e' e h) }
    ] in
    by (step s t) refl h

pub first_fault : (text : List ℕ) (stop : ℕ) (e : VcdErr) → stop ≡ length text → run beginning (words_of text) stop ≡ Err e → FirstFault text e
first_fault text stop e is h =
    let f = fault beginning (words_of text) (length text) e (rw (← is) h) in
    record { front = f.front; rest = f.rest; split = f.split; state = f.state; reached = f.reached; stopped = f.stopped }

-- It has no fault.
ok_or_memory : (e : VcdErr) (r : Recording) (said : Result Recording VcdErr) → said ≡ Ok r → RefusesRecording said e → e ≡ Memory
ok_or_memory (Syntax at) r said is h = let e : said ≡ Err (Syntax at) = h (λ x. cc) in cc
ok_or_memory (UnknownCode at) r said is h = let e : said ≡ Err (UnknownCode at) = h (λ x. cc) in cc
ok_or_memory (TimeBack at) r said is h = let e : said ≡ Err (TimeBack at) = h (λ x. cc) in cc
ok_or_memory (Width at) r said is h = let e : said ≡ Err (Width at) = h (λ x. cc) in cc
ok_or_memory (DumpOff at) r said is h = let e : said ≡ Err (DumpOff at) = h (λ x. cc) in cc
ok_or_memory (Truncated at) r said is h = let e : said ≡ Err (Truncated at) = h (λ x. cc) in cc
ok_or_memory Memory r said is h = refl

same_ok : (a b : Recording) (said : Result Recording VcdErr) → said ≡ Ok a → said ≡ Ok b → a ≡ b
same_ok a b said h k = cc

only_said : (result : Result Recording VcdErr) (r : Recording) (said : Result Recording VcdErr) → said ≡ Ok r → Answers result said → MatchResult result (λ found. found ≡ r) (λ e. e ≡ Memory)
only_said (Ok found) r said is h = same_ok found r said h is
only_said (Err e) r said is h = ok_or_memory e r said is h

pub first : (text : List ℕ) (result : Result Recording VcdErr) (stop : ℕ) → Answers result (run beginning (words_of text) (0 + length text)) → IfErr result (λ e. e ≢ Memory → FirstFault text e)
first text (Ok found) stop h = tt
first text (Err e) stop h = λ other. let zero : 0 + length text ≡ length text = omega arith in first_fault text (0 + length text) e zero (h other)

pub only : (text : List ℕ) (result : Result Recording VcdErr) (r : Recording) → Says text r → Answers result (run beginning (words_of text) (0 + length text)) → MatchResult result (λ found. found ≡ r) (λ e. e ≡ Memory)
only text result r h k = let zero : length text ≡ 0 + length text = omega arith in only_said result r (run beginning (words_of text) (0 + length text)) (ap (λ n. run beginning (words_of text) n) (sym zero) ∙ h) k
