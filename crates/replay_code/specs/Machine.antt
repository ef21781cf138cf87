-- Reading code token by token: a state says what may stand next, a step what comes of it. What the machine reads to the
-- end is what the grammar of specs/Grammar.antt says (law `GrammarIsRead`); of a text that it doesn't say, the machine
-- has the first fault.
use Rattle.std.specs.Prelude.{ℕ, ◌+◌, ◌*◌, ◌^◌, ◌==◌, Bool, true, false, Option, None, Some, Result, Ok, Err, List, []}
use Rattle.std.specs.Prelude.{◌∷◌, ◌++◌, codes, length, nat_lt, if◌then◌else◌}
use Rattle.design_cell.specs.declared.value.Value.{Value}
use Rattle.design_circuit.specs.declared.force.Event.{Event}
use Rattle.recording_binding.specs.Naming.{Texts}
use Rattle.netlist_tokens.specs.declared.token.Token.{Token}
use Rattle.replay_code.specs.Clock.{moment_at, moment_by}
use Rattle.replay_code.specs.Code.{Code}
use Rattle.replay_code.specs.Lookup.{below, net_below}
use Rattle.replay_code.specs.Statements.{forced_now}
use Rattle.replay_code.specs.Words.{is_mark, is_word, token_name, number_of, value_of}
use Rattle.replay_code.specs.declared.fault.CodeFault.{CodeFault}
use Rattle.replay_code.specs.declared.fault.CodeFault.TheVariants.{Syntax, NoNet, NoMoment, RoundPast, ReleaseUnforced}
use Rattle.replay_code.specs.declared.state.State.{State}
use Rattle.replay_code.specs.declared.state.State.TheVariants.{Module, Title, Semicolon, Initial, Begin, Body, Wait}
use Rattle.replay_code.specs.declared.state.State.TheVariants.{WaitEnd, NameNext, AfterName, Index, IndexEnd, PathEnd}
use Rattle.replay_code.specs.declared.state.State.TheVariants.{Bit, StatementEnd, Tail, Done}

-- What was read so far: the time; the moment at that time, if there is one, and the round; of the statement in hand
-- whether it forces or releases, the place of its first name, the names, and the index behind them; and the events of
-- the statements, in the order in which these stand.
pub record Progress : Type 0 where
  pub code : Code
  pub time : ℕ
  pub moment : Option ℕ
  pub round : ℕ
  pub forces : Bool
  pub at : ℕ
  pub texts : Texts
  pub index : Option ℕ
  pub events : List Event

pub record Next : Type 0 where
  pub state : State
  pub progress : Progress

abbrev pub next : State → Progress → Result Next CodeFault
next state progress = Ok record { state = state; progress = progress }

abbrev pub refused : Token → Result Next CodeFault
refused t = Err (Syntax t.start)

abbrev pub on : Bool → Result Next CodeFault → Result Next CodeFault → Result Next CodeFault
on true there otherwise = there
on false there otherwise = otherwise

-- `#0;` moves to the next round of the moment.
abbrev pub round_on : Progress → ℕ → Option ℕ → Result Next CodeFault
round_on p at None = Err (NoMoment at)
round_on p at (Some moment) =
    if p.round + 1 == p.code.stim.rounds then Err (RoundPast at) else next WaitEnd (record p { round = p.round + 1 })

-- `#d;` moves d time units on, to round 0.
abbrev pub time_on : Progress → ℕ → ℕ → Option ℕ → Result Next CodeFault
time_on p at time None = Err (NoMoment at)
time_on p at time (Some moment) = next WaitEnd (record p { time = time; moment = Some moment; round = 0 })

abbrev pub waited : Progress → ℕ → ℕ → Result Next CodeFault
waited p at d =
    if d == 0 then round_on p at p.moment else time_on p at (p.time + d) (moment_by p.code.stim (p.time + d))

abbrev pub wait_by : Progress → ℕ → Token → Option ℕ → Result Next CodeFault
wait_by p at t None = refused t
wait_by p at t (Some d) = waited p at d

-- A force or a release needs a moment. Its names come next.
abbrev pub statement_by : Progress → Bool → ℕ → Option ℕ → Result Next CodeFault
statement_by p forces at None = Err (NoMoment at)
statement_by p forces at (Some moment) = next NameNext (record p { forces = forces; at = at; texts = []; index = None })

abbrev pub body : Progress → Token → Result Next CodeFault
body p t =
    on (is_mark p.code.text t (codes "#")) (next (Wait t.start) p)
    (on (is_word p.code.text t (codes "force")) (statement_by p true t.start p.moment)
    (on (is_word p.code.text t (codes "release")) (statement_by p false t.start p.moment)
    (on (is_word p.code.text t (codes "end")) (next Tail p) (refused t))))

-- a name goes behind those before; the place of the first one is kept
abbrev pub with_name : Progress → Token → List ℕ → Progress
with_name p t text = record p { at = (if length p.texts == 0 then t.start else p.at); texts = p.texts ++ text ∷ [] }

abbrev pub name_by : Progress → Token → Option (List ℕ) → Result Next CodeFault
name_by p t None = refused t
name_by p t (Some text) = next AfterName (with_name p t text)

-- An index is below 2^31: one that isn't stands as 2^31, which no net has.
abbrev pub capped : ℕ → ℕ
capped index = if nat_lt index (2 ^ 31) then index else 2 ^ 31

abbrev pub capped_of : Option ℕ → ℕ
capped_of None = 2 ^ 31
capped_of (Some index) = capped index

abbrev pub index_by : Progress → Token → Option ℕ → Result Next CodeFault
index_by p t None = refused t
index_by p t (Some index) = next IndexEnd (record p { index = Some (capped index) })

-- the net that the names in hand, and the index behind them, name
abbrev pub net_named : Progress → Option ℕ
net_named p = net_below p.code.design (below p.code.scope p.texts) p.index

-- An event stands at the present step.
abbrev pub with_event : Progress → ℕ → ℕ → Option Value → Progress
with_event p moment net value = record p {
  events = p.events
      ++ record { step = moment * p.code.stim.rounds + p.round; net = net; value = value } ∷ [];
}

abbrev pub release_by : Progress → Token → ℕ → ℕ → Option Value → Result Next CodeFault
release_by p t moment net None = Err (ReleaseUnforced p.at)
release_by p t moment net (Some value) =
    on (is_mark p.code.text t (codes ";")) (next Body (with_event p moment net None)) (refused t)

-- Behind the names: `=` and a value where the statement forces, else its end.
abbrev pub target_by : Progress → Token → Option ℕ → Option ℕ → Result Next CodeFault
target_by p t None net = Err (NoMoment p.at)
target_by p t (Some moment) None = Err (NoNet p.at)
target_by p t (Some moment) (Some net) =
    on p.forces (on (is_mark p.code.text t (codes "=")) (next (Bit net) p) (refused t))
    (release_by p t moment net (forced_now p.events net))

abbrev pub target : Progress → Token → Result Next CodeFault
target p t = target_by p t p.moment (net_named p)

abbrev pub after_name : Progress → Token → Result Next CodeFault
after_name p t =
    on (is_mark p.code.text t (codes ".")) (next NameNext p)
    (on (is_mark p.code.text t (codes "[")) (next Index p) (target p t))

abbrev pub bit_by : Progress → Token → ℕ → Option ℕ → Option Value → Result Next CodeFault
bit_by p t net moment None = refused t
bit_by p t net None (Some value) = refused t
bit_by p t net (Some moment) (Some value) = next StatementEnd (with_event p moment net (Some value))

-- what comes of a token in a state
abbrev pub step : State → Progress → Token → Result Next CodeFault
step Module p t = on (is_word p.code.text t (codes "module")) (next Title p) (refused t)
step Title p t = on (is_word p.code.text t (codes "xrepair_code")) (next Semicolon p) (refused t)
step Semicolon p t = on (is_mark p.code.text t (codes ";")) (next Initial p) (refused t)
step Initial p t = on (is_word p.code.text t (codes "initial")) (next Begin p) (refused t)
step Begin p t = on (is_word p.code.text t (codes "begin")) (next Body p) (refused t)
step Body p t = body p t
step (Wait at) p t = wait_by p at t (number_of p.code.text t)
step WaitEnd p t = on (is_mark p.code.text t (codes ";")) (next Body p) (refused t)
step NameNext p t = name_by p t (token_name p.code.text t)
step AfterName p t = after_name p t
step Index p t = index_by p t (number_of p.code.text t)
step IndexEnd p t = on (is_mark p.code.text t (codes "]")) (next PathEnd p) (refused t)
step PathEnd p t = target p t
step (Bit net) p t = bit_by p t net p.moment (value_of p.code.text t)
step StatementEnd p t = on (is_mark p.code.text t (codes ";")) (next Body p) (refused t)
step Tail p t = on (is_word p.code.text t (codes "endmodule")) (next Done p) (refused t)
step Done p t = refused t

-- Where the text ends, or its tokens do: a path that is whole is looked up before that.
abbrev pub ended_release : Progress → ℕ → Option Value → Result (List Event) CodeFault
ended_release p stop None = Err (ReleaseUnforced p.at)
ended_release p stop (Some value) = Err (Syntax stop)

abbrev pub ended_net : Progress → ℕ → ℕ → Result (List Event) CodeFault
ended_net p stop net = if p.forces then Err (Syntax stop) else ended_release p stop (forced_now p.events net)

abbrev pub ended_by : Progress → ℕ → Option ℕ → Option ℕ → Result (List Event) CodeFault
ended_by p stop None net = Err (NoMoment p.at)
ended_by p stop (Some moment) None = Err (NoNet p.at)
ended_by p stop (Some moment) (Some net) = ended_net p stop net

abbrev pub ended_target : Progress → ℕ → Result (List Event) CodeFault
ended_target p stop = ended_by p stop p.moment (net_named p)

-- Behind the last token a text is whole only where it ends there, and not where a byte that begins no token stands.
abbrev pub ended_whole : Progress → ℕ → Result (List Event) CodeFault
ended_whole p stop = if stop == length p.code.text then Ok p.events else Err (Syntax stop)

abbrev pub finish : State → Progress → ℕ → Result (List Event) CodeFault
finish Done p stop = ended_whole p stop
finish AfterName p stop = ended_target p stop
finish PathEnd p stop = ended_target p stop
finish state p stop = Err (Syntax stop)

abbrev pub then_run : Result Next CodeFault → (Next → Result (List Event) CodeFault) → Result (List Event) CodeFault
then_run (Ok n) go = go n
then_run (Err e) go = Err e

abbrev pub run : State → Progress → List Token → ℕ → Result (List Event) CodeFault
run state p [] stop = finish state p stop
run state p (t ∷ ts) stop = then_run (step state p t) (λ n. run n.state n.progress ts stop)

-- Before the first token the time is 0.
abbrev pub begun : Code → Progress
begun code = record {
  code = code;
  time = 0;
  moment = moment_at code.stim 0;
  round = 0;
  forces = false;
  at = 0;
  texts = [];
  index = None;
  events = [];
}
