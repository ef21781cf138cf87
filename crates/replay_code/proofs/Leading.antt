-- Bytes that lead from a state to events: they have tokens, which the machine reads to the end.
use Rattle.std.proofs.Common.{◌≡◌, ℕ, ◌+◌, ◌-◌, ◌<◌, ◌==◌, ◌&&◌, Bool, true, Ok, Err, List, [], ◌∷◌, ◌++◌, length, drop, take, refl, sym, ap, ◌∙◌, arith, nat_le, length-append, length-drop, drop-drop, slice_range, if◌then◌else◌}
use Rattle.std.proofs.lemmas.Bool.{le-leb}
use Rattle.std.proofs.lemmas.Bool.Decides.{nat_tests}
use Rattle.std.proofs.Math.Seq.{drop-append_seam, take-append_seam}
use Rattle.design_circuit.specs.declared.force.Event.{Event}
use Rattle.netlist_tokens.specs.Byte.{is_white}
use Rattle.netlist_tokens.specs.Left.{Left, ended, first, token}
use Rattle.netlist_tokens.specs.Tokens.{Blank, ReadsToken, Skips, Tokens}
use Rattle.netlist_tokens.specs.declared.token.Kind.{Kind}
use Rattle.netlist_tokens.specs.declared.token.Token.{Token}
use Rattle.replay_code.specs.Machine.{Progress, run, step}
use Rattle.replay_code.specs.Says.{stop_of}
use Rattle.replay_code.specs.Words.{spelled}
use Rattle.replay_code.specs.declared.fault.CodeFault.TheVariants.{Syntax}
use Rattle.replay_code.specs.declared.state.State.{State}
use Rattle.replay_code.specs.declared.state.State.TheVariants.{Done}
use Rattle.replay_code.proofs.Runs.{run_more}

-- From a place on a text has tokens, by which the machine comes to the events.
pub record From (text : List ℕ) (state : State) (p : Progress) (at : ℕ) (bs : List ℕ) (events : List Event) : Type 0 where
  pub left : Left
  pub tokens : Tokens at bs left
  pub run : run state p left.tokens (stop_of text left.fault) ≡ Ok events

-- So it is wherever these bytes are the rest of the text.
abbrev pub Leads : List ℕ → State → Progress → List ℕ → List Event → Type 0
Leads text state p bs events = (at : ℕ) → drop at text ≡ bs → From text state p at bs events

-- Behind a word stand the bytes behind it.
behind : (text word rest : List ℕ) (at : ℕ) → drop at text ≡ word ++ rest → drop (at + length word) text ≡ rest
behind text word rest at here = sym (drop-drop (length word) at text) ∙ (ap (drop (length word)) here ∙ drop-append_seam word rest)

-- A word that stands there is what a token over it spells.
spelled_is : (text word rest : List ℕ) (kind : Kind) (at : ℕ) → 0 < length word → drop at text ≡ word ++ rest → spelled text (token kind at (at + length word)) ≡ word
spelled_is text word rest kind at some here =
    let long : length text - at ≡ length word + length rest = sym (length-drop at text) ∙ (ap (λ (l : List ℕ). length l) here ∙ length-append word rest) in
    let first : nat_le at (at + length word) ≡ true = le-leb at (at + length word) (omega arith) in
    let last : nat_le (at + length word) (length text) ≡ true = le-leb (at + length word) (length text) (omega (arith, long, some)) in
    let size : at + length word - at ≡ length word = omega arith in
    ap (λ b. if b && nat_le (at + length word) (length text) then slice_range text at (at + length word) else []) first
    ∙ ap (λ b. if b then slice_range text at (at + length word) else []) last
    ∙ ap (λ n. take n (drop at text)) size
    ∙ ap (λ (l : List ℕ). take (length word) l) here
    ∙ take-append_seam word rest

same_is : (n : ℕ) → (n == n) ≡ true
same_is n = grind (arith, nat_tests)

-- The text ends, and the machine is done.
pub ends : (p : Progress) → Leads p.code.text Done p [] p.events
ends p at here = record {
  left = ended;
  tokens = Tokens.ends;
  run = ap (λ (b : Bool). if b then Ok p.events else Err (Syntax (length p.code.text))) (same_is (length p.code.text));
}

-- White space is passed over.
pub white : (text : List ℕ) (state : State) (p : Progress) (b : ℕ) (bs : List ℕ) (events : List Event) → is_white b ≡ true → Leads text state p bs events → Leads text state p (b ∷ bs) events
white text state p b bs events is leads at here =
    let from = leads (at + 1) (sym (drop-drop 1 at text) ∙ ap (drop 1) here) in
    record { left = from.left; tokens = Tokens.skips (Skips.blank (Blank.white is)) from.tokens; run = from.run }

-- A token of this kind and spelling is read there, whatever bytes stand before it.
abbrev pub IsToken : Kind → List ℕ → List ℕ → Type 0
IsToken kind word rest = (at : ℕ) → ReadsToken at (word ++ rest) (token kind at (at + length word)) rest

-- what comes of a token, and where the rest leads from there
pub record Goes (text : List ℕ) (state : State) (p : Progress) (t : Token) (rest : List ℕ) (events : List Event) : Type 0 where
  pub to : State
  pub progress : Progress
  pub stepped : step state p t ≡ Ok record { state = to; progress = progress }
  pub leads : Leads text to progress rest events

-- A token is read, and the rest leads on.
pub token_leads : (text : List ℕ) (state : State) (p : Progress) (kind : Kind) (word rest : List ℕ) (events : List Event) → 0 < length word → IsToken kind word rest → ((start «end» : ℕ) → spelled text (token kind start «end») ≡ word → Goes text state p (token kind start «end») rest events) → Leads text state p (word ++ rest) events
token_leads text state p kind word rest events some is goes at here =
    let t = token kind at (at + length word) in
    let g = goes at (at + length word) (spelled_is text word rest kind at some here) in
    let from = g.leads (at + length word) (behind text word rest at here) in
    record {
      left = first t from.left;
      tokens = Tokens.reads (is at) from.tokens;
      run = sym (run_more state p t from.left.tokens (stop_of text from.left.fault) record { state = g.to; progress = g.progress } _ g.stepped refl) ∙ from.run;
    }
