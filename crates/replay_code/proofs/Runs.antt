-- Runs, token by token, and their first fault.
use Rattle.std.proofs.Common.{◌≡◌, ℕ, Result, Ok, Err, IfErr, IfSome, List, Vec, [], ◌∷◌, ◌++◌, refl, sym, ap, ◌∙◌}
use Rattle.std.specs.declared.alloc.Global.{Global}
use Rattle.design_circuit.specs.declared.force.Event.{Event}
use Rattle.netlist_tokens.specs.Left.{Left}
use Rattle.netlist_tokens.specs.Tokens.{Tokens}
use Rattle.netlist_tokens.specs.declared.token.Token.{Token}
use Rattle.replay_code.specs.Code.{Code}
use Rattle.replay_code.specs.Fault.{fault_in}
use Rattle.replay_code.specs.Going.{ReadsEvents, RefusesCode}
use Rattle.replay_code.specs.Machine.{Next, Progress, run, step, then_run}
use Rattle.replay_code.specs.Says.{FirstFault, beginning, reach, reach_on, statements_of, stop_of, stops}
use Rattle.replay_code.specs.declared.fault.CodeFault.{CodeFault}
use Rattle.replay_code.specs.declared.refusal.CodeErr.{CodeErr}
use Rattle.replay_code.specs.declared.refusal.CodeErr.TheVariants.{Memory, Refused}
use Rattle.replay_code.specs.declared.state.State.{State}

-- A token is read.
pub run_more : (state : State) (p : Progress) (t : Token) (ts : List Token) (stop : ℕ) (n : Next) (whole : Result (List Event) CodeFault) → step state p t ≡ Ok n → run state p (t ∷ ts) stop ≡ whole → run n.state n.progress ts stop ≡ whole
run_more state p t ts stop n whole stepped is = sym (ap (λ r. then_run r (λ (m : Next). run m.state m.progress ts stop)) stepped) ∙ is

-- A token is refused.
pub run_refused : (state : State) (p : Progress) (t : Token) (ts : List Token) (stop : ℕ) (fault : CodeFault) (whole : Result (List Event) CodeFault) → step state p t ≡ Err fault → run state p (t ∷ ts) stop ≡ whole → whole ≡ Err fault
run_refused state p t ts stop fault whole stepped is = sym is ∙ ap (λ r. then_run r (λ (m : Next). run m.state m.progress ts stop)) stepped

-- Tokens lead to a state that refuses what stands there.
record Stopped (n : Next) (ts : List Token) (stop : ℕ) (fault : CodeFault) : Type 0 where
  front : List Token
  rest : List Token
  split : ts ≡ front ++ rest
  next : Next
  reached : reach n front ≡ Ok next
  stopped : stops next rest stop fault

stopped : (n : Next) (ts : List Token) (stop : ℕ) (fault : CodeFault) → run n.state n.progress ts stop ≡ Err fault → Stopped n ts stop fault
stopped n [] stop fault is = record { front = []; rest = []; split = refl; next = n; reached = refl; stopped = is }
stopped n (t ∷ ts) stop fault is = by (λ (m : Next). stopped m ts stop fault) (step n.state n.progress t) refl is
  where
    more : (m : Next) → step n.state n.progress t ≡ Ok m → Stopped m ts stop fault → Stopped n (t ∷ ts) stop fault
    more m stepped s = record {
      front = t ∷ s.front;
      rest = s.rest;
      split = ap (λ (l : List Token). t ∷ l) s.split;
      next = s.next;
      reached = ap (λ r. reach_on r (λ (k : Next). reach k s.front)) stepped ∙ s.reached;
      stopped = s.stopped;
    }

    by : ((m : Next) → run m.state m.progress ts stop ≡ Err fault → Stopped m ts stop fault) → (r : Result Next CodeFault) → step n.state n.progress t ≡ r → then_run r (λ (m : Next). run m.state m.progress ts stop) ≡ Err fault → Stopped n (t ∷ ts) stop fault
    by later (Ok m) stepped is = more m stepped (later m is)
    by later (Err other) stepped is = (let same : other ≡ fault = cc in record { front = []; rest = t ∷ ts; split = refl; next = n; reached = refl; stopped = stepped ∙ ap Err same })

-- A text that comes to a fault has it as its first.
first_fault : (code : Code) (left : Left) (fault : CodeFault) → Tokens 0 code.text left → statements_of code left ≡ Err fault → FirstFault code fault
first_fault code left fault tokens is =
    let s = stopped (beginning code) left.tokens (stop_of code.text left.fault) fault is in
    record { left = left; tokens = tokens; front = s.front; rest = s.rest; split = s.split; next = s.next; reached = s.reached; stopped = s.stopped }

-- A refusal of the statements is the text's first fault.
refused_first : (c : Code) (left : Left) (e : CodeErr) → Tokens 0 c.text left → RefusesCode (statements_of c left) e → IfSome (fault_in e) (FirstFault c)
refused_first c left (Refused fault) tokens is = first_fault c left fault tokens is
refused_first c left Memory tokens is = tt

pub reads_first : (c : Code) (left : Left) (result : Result (Vec Event Global) CodeErr) → Tokens 0 c.text left → ReadsEvents (statements_of c left) result → IfErr result (λ e. IfSome (fault_in e) (FirstFault c))
reads_first c left (Ok events) tokens reads = tt
reads_first c left (Err e) tokens reads = refused_first c left e tokens reads
