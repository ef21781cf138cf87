-- A code text says one list of forces or has one first fault, and not both.
use Rattle.std.proofs.Common.{◌≡◌, ℕ, Result, Ok, Err, List, [], ◌∷◌, ◌++◌, sym, ap, ◌∙◌}
use Rattle.design_circuit.specs.declared.force.Event.{Event}
use Rattle.replay_forces.specs.Changes.{changes_by}
use Rattle.netlist_tokens.specs.Left.{Left}
use Rattle.netlist_tokens.specs.Tokens.{Tokens}
use Rattle.netlist_tokens.specs.declared.token.Token.{Token}
use Rattle.netlist_tokens.proofs.Told.{left_follows}
use Rattle.replay_code.specs.Code.{Code, job}
use Rattle.replay_code.specs.Machine.{Next, run, step, then_run}
use Rattle.replay_code.specs.Says.{CodeSays, FirstFault, beginning, reach, reach_on, statements_of, stop_of, stops}
use Rattle.replay_code.specs.declared.fault.CodeFault.{CodeFault}
use Rattle.replay_code.proofs.GrammarRead.{machine_says}

-- The tokens of a text are one list.
tokens_one : {at : ℕ} {bs : List ℕ} {left other : Left} → Tokens at bs left → Tokens at bs other → left ≡ other
tokens_one first second = sym (left_follows first) ∙ left_follows second

-- Tokens that lead to a state leave the run to it.
run_reached : (n next : Next) (front rest : List Token) (stop : ℕ) → reach n front ≡ Ok next → run n.state n.progress (front ++ rest) stop ≡ run next.state next.progress rest stop
run_reached n next [] rest stop is = (let same : n ≡ next = cc in ap (λ (m : Next). run m.state m.progress rest stop) same)
run_reached n next (t ∷ ts) rest stop is = by (λ (m : Next). run_reached m next ts rest stop) (step n.state n.progress t) is
  where
    by : ((m : Next) → reach m ts ≡ Ok next → run m.state m.progress (ts ++ rest) stop ≡ run next.state next.progress rest stop) → (r : Result Next CodeFault) → reach_on r (λ (m : Next). reach m ts) ≡ Ok next → then_run r (λ (m : Next). run m.state m.progress (ts ++ rest) stop) ≡ run next.state next.progress rest stop
    by later (Ok m) is = later m is
    by later (Err fault) is = absurd cc

-- What is refused there ends the run.
run_stopped : (n : Next) (rest : List Token) (stop : ℕ) (fault : CodeFault) → stops n rest stop fault → run n.state n.progress rest stop ≡ Err fault
run_stopped n [] stop fault is = is
run_stopped n (t ∷ ts) stop fault is = ap (λ r. then_run r (λ (m : Next). run m.state m.progress ts stop)) is

-- A text with a first fault comes to it.
fault_run : (c : Code) (fault : CodeFault) (is : FirstFault c fault) → statements_of c is.left ≡ Err fault
fault_run c fault is =
    let n = beginning c in
    let stop = stop_of c.text is.left.fault in
    ap (λ (ts : List Token). run n.state n.progress ts stop) is.split
    ∙ (run_reached n is.next is.front is.rest stop is.reached ∙ run_stopped is.next is.rest stop fault is.stopped)

-- A result is one.
same_ok : (r : Result (List Event) CodeFault) (a b : List Event) → r ≡ Ok a → r ≡ Ok b → a ≡ b
same_ok r a b is other = cc

same_fault : (r : Result (List Event) CodeFault) (f g : CodeFault) → r ≡ Err f → r ≡ Err g → f ≡ g
same_fault r f g is other = cc

not_both : (r : Result (List Event) CodeFault) (a : List Event) (f : CodeFault) → r ≡ Ok a → r ≡ Err f → ⊥
not_both r a f is other = cc

-- A text says one list of forces.
pub says_one : (c : Code) (F G : List Event) → CodeSays c F → CodeSays c G → F ≡ G
says_one c F G says other =
    let first = machine_says c F says in
    let second = machine_says c G other in
    let left : first.left ≡ second.left = tokens_one first.tokens second.tokens in
    let same = same_ok (statements_of c second.left) first.statements second.statements (sym (ap (statements_of c) left) ∙ first.read) second.read in
    first.are ∙ (ap (changes_by (job c)) same ∙ sym second.are)

-- A text has one first fault.
pub faults_one : (c : Code) (f g : CodeFault) → FirstFault c f → FirstFault c g → f ≡ g
faults_one c f g first second =
    let left : first.left ≡ second.left = tokens_one first.tokens second.tokens in
    same_fault (statements_of c second.left) f g (sym (ap (statements_of c) left) ∙ fault_run c f first) (fault_run c g second)

-- A text that says forces has no fault.
pub says_no_fault : (c : Code) (F : List Event) (f : CodeFault) → CodeSays c F → FirstFault c f → ⊥
says_no_fault c F f said fault =
    let says = machine_says c F said in
    let left : says.left ≡ fault.left = tokens_one says.tokens fault.tokens in
    not_both (statements_of c fault.left) says.statements f (sym (ap (statements_of c) left) ∙ says.read) (fault_run c f fault)
