-- What the machine reads to the end is in the grammar.
use Rattle.std.proofs.Common.{◌≡◌, ℕ, ◌+◌, ◌<◌, ◌^◌, ◌==◌, Bool, true, false, Option, None, Some, Result, Ok, Err, List, [], ◌∷◌, ◌++◌, codes, length, nat_lt, refl, sym, ap, ◌∙◌, subst, arith, append_assoc, inl, inr, ◌⊎◌, if◌then◌else◌}
use Rattle.std.proofs.lemmas.Bool.{eqb-false, eqb-true}
use Rattle.std.proofs.lemmas.Grind.{common_steps}
use Rattle.std.proofs.lemmas.Bool.Decides.{nat_tests}
use Rattle.design_cell.specs.declared.value.Value.{Value}
use Rattle.design_circuit.specs.Design.{FitsDesign}
use Rattle.design_circuit.specs.declared.force.Event.{Event}
use Rattle.recording_binding.specs.Naming.{Texts}
use Rattle.netlist_tokens.specs.declared.token.Token.{Token}
use Rattle.replay_code.specs.Clock.{clock_of, moment_by}
use Rattle.replay_code.specs.Code.{Code}
use Rattle.replay_code.specs.Grammar.{IsCode, IsMark, IsWord, MayIndex, Names, Path, Stage, Statement, Statements, at_first, stage, with_event}
use Rattle.replay_code.specs.Lookup.{below, net_below, net_of}
use Rattle.replay_code.specs.Machine.{Next, Progress, after_name, begun, bit_by, body, capped, ended_by, ended_release, finish, index_by, name_by, net_named, next, on, refused, release_by, round_on, run, statement_by, step, target, target_by, then_run, time_on, wait_by, waited}
use Rattle.replay_code.specs.Statements.{forced_now}
use Rattle.replay_code.specs.Words.{is_mark, is_word, token_name, number_of, value_of}
use Rattle.replay_code.specs.declared.fault.CodeFault.{CodeFault}
use Rattle.replay_code.specs.declared.fault.CodeFault.TheVariants.{RoundPast, Syntax}
use Rattle.replay_code.specs.declared.state.State.{State}
use Rattle.replay_code.specs.declared.state.State.TheVariants.{Module, Title, Semicolon, Initial, Begin, Body, Wait, WaitEnd, NameNext, AfterName, Index, IndexEnd, PathEnd, Bit, StatementEnd, Tail, Done}
use Rattle.replay_code.proofs.Awaited.{Fit, ThenMark, ThenWord, stage_of}
use Rattle.replay_code.proofs.Indexes.{index_small}
use Rattle.replay_code.proofs.Scoped.{own_below}

-- ---- what may still come, from each state

module _ (stop : ℕ) (all : List Event) where
  -- Nothing more: the text ends, and the events are all.
  record FDone (c : Code) (s : Stage) (ts : List Token) : Type 0 where
    none : ts ≡ []
    whole : stop ≡ length c.text
    are : s.events ≡ all

  abbrev FTail : Code → Stage → List Token → Type 0
  FTail c s ts = ThenWord c (codes "endmodule") (FDone c s) ts

  -- statements, and the end
  record FBody (c : Code) (s : Stage) (ts : List Token) : Type 0 where
    to : Stage
    rest : List Token
    parsed : Statements c ts rest s to
    ended : ThenWord c (codes "end") (FTail c to) rest

  abbrev FEnded : Code → Stage → List Token → Type 0
  FEnded c s ts = ThenMark c (codes ";") (FBody c s) ts

  -- the number of a wait, and what comes after it
  data FWait (c : Code) (s : Stage) : List Token → Type 0 where
    later : {t : Token} {ts : List Token} {d moment : ℕ} → number_of c.text t ≡ Some d → 0 < d → moment_by c.stim (s.clock.time + d) ≡ Some moment → FEnded c (stage (clock_of (s.clock.time + d) 0) s.events) ts → FWait c s (t ∷ ts)
    round : {t : Token} {ts : List Token} {moment : ℕ} → number_of c.text t ≡ Some 0 → moment_by c.stim s.clock.time ≡ Some moment → s.clock.round + 1 < c.stim.rounds → FEnded c (stage (clock_of s.clock.time (s.clock.round + 1)) s.events) ts → FWait c s (t ∷ ts)

  -- the value of a force
  data FValue (c : Code) (s : Stage) (moment net : ℕ) : List Token → Type 0 where
    valued : {t : Token} {ts : List Token} {v : Value} → value_of c.text t ≡ Some v → FEnded c (with_event c moment net (Some v) s) ts → FValue c s moment net (t ∷ ts)

  -- the net is forced now, and the release ends
  record FRelease (c : Code) (s : Stage) (moment net : ℕ) (ts : List Token) : Type 0 where
    was : Value
    forced : forced_now s.events net ≡ Some was
    ended : FEnded c (with_event c moment net None s) ts

  -- what comes after the net of a statement that forces, and of one that releases
  abbrev FEffect : Bool → Code → Stage → ℕ → ℕ → List Token → Type 0
  FEffect true c s moment net ts = ThenMark c (codes "=") (FValue c s moment net) ts
  FEffect false c s moment net ts = FRelease c s moment net ts

  -- after a path with these names and this index
  record FTarget (forces : Bool) (c : Code) (s : Stage) (texts : Texts) (index : Option ℕ) (ts : List Token) : Type 0 where
    own : Texts
    net : ℕ
    moment : ℕ
    are : texts ≡ c.scope ++ own
    named : net_of c.design own index ≡ Some net
    at_moment : moment_by c.stim s.clock.time ≡ Some moment
    effect : FEffect forces c s moment net ts

  -- after names, an index or none
  record FIndexed (forces : Bool) (c : Code) (s : Stage) (texts : Texts) (ts : List Token) : Type 0 where
    index : Option ℕ
    rest : List Token
    may : MayIndex c ts rest index
    target : FTarget forces c s texts index rest

  -- names after others
  record FNames (forces : Bool) (c : Code) (s : Stage) (texts : Texts) (ts : List Token) : Type 0 where
    names : Texts
    rest : List Token
    parsed : Names c ts rest names
    indexed : FIndexed forces c s (texts ++ names) rest

  -- after a name, one more or none
  abbrev FAfter : Bool → Code → Stage → Texts → List Token → Type 0
  FAfter forces c s texts ts = ThenMark c (codes ".") (FNames forces c s texts) ts ⊎ FIndexed forces c s texts ts

  data FNumber (forces : Bool) (c : Code) (s : Stage) (texts : Texts) : List Token → Type 0 where
    digits : {t : Token} {ts : List Token} {index : ℕ} → number_of c.text t ≡ Some index → index < 2 ^ 31 → ThenMark c (codes "]") (FTarget forces c s texts (Some index)) ts → FNumber forces c s texts (t ∷ ts)

  abbrev FBegin : Code → Stage → List Token → Type 0
  FBegin c s ts = ThenWord c (codes "begin") (FBody c s) ts

  abbrev FInitial : Code → Stage → List Token → Type 0
  FInitial c s ts = ThenWord c (codes "initial") (FBegin c s) ts

  abbrev FSemicolon : Code → Stage → List Token → Type 0
  FSemicolon c s ts = ThenMark c (codes ";") (FInitial c s) ts

  abbrev FTitle : Code → Stage → List Token → Type 0
  FTitle c s ts = ThenWord c (codes "xrepair_code") (FSemicolon c s) ts

  abbrev Goal : State → Progress → List Token → Type 0
  Goal Module p ts = ThenWord p.code (codes "module") (FTitle p.code (stage_of p)) ts
  Goal Title p ts = FTitle p.code (stage_of p) ts
  Goal Semicolon p ts = FSemicolon p.code (stage_of p) ts
  Goal Initial p ts = FInitial p.code (stage_of p) ts
  Goal Begin p ts = FBegin p.code (stage_of p) ts
  Goal Body p ts = FBody p.code (stage_of p) ts
  Goal (Wait at) p ts = FWait p.code (stage_of p) ts
  Goal WaitEnd p ts = FEnded p.code (stage_of p) ts
  Goal NameNext p ts = p.index ≡ None → FNames p.forces p.code (stage_of p) p.texts ts
  Goal AfterName p ts = p.index ≡ None → FAfter p.forces p.code (stage_of p) p.texts ts
  Goal Index p ts = FNumber p.forces p.code (stage_of p) p.texts ts
  Goal IndexEnd p ts = ThenMark p.code (codes "]") (FTarget p.forces p.code (stage_of p) p.texts p.index) ts
  Goal PathEnd p ts = FTarget p.forces p.code (stage_of p) p.texts p.index ts
  Goal (Bit net) p ts = (moment : ℕ) → p.moment ≡ Some moment → FValue p.code (stage_of p) moment net ts
  Goal StatementEnd p ts = FEnded p.code (stage_of p) ts
  Goal Tail p ts = FTail p.code (stage_of p) ts
  Goal Done p ts = FDone p.code (stage_of p) ts

  abbrev From : State → Progress → List Token → Type 0
  From state p ts = Fit p → Goal state p ts

  abbrev FromNext : Result Next CodeFault → List Token → Type 0
  FromNext (Ok n) ts = From n.state n.progress ts
  FromNext (Err fault) ts = ⊥

  -- ---- tests

  -- a test, and what it leads to
  case_from : (G : Type 0) (b : Bool) (this other : Result Next CodeFault) (ts : List Token) → (b ≡ true → FromNext this ts → G) → (FromNext other ts → G) → FromNext (on b this other) ts → G
  case_from G true this other ts one rest h = one refl h
  case_from G false this other ts one rest h = rest h

  word_from : (c : Code) (word : List ℕ) (K : List Token → Type 0) (t : Token) (ts : List Token) (to : State) (p : Progress) → (From to p ts → K ts) → FromNext (on (is_word c.text t word) (next to p) (refused t)) ts → ThenWord c word K (t ∷ ts)
  word_from c word K t ts to p leads h = case_from (ThenWord c word K (t ∷ ts)) (is_word c.text t word) (next to p) (refused t) ts (λ is from. ThenWord.then is (leads from)) absurd h

  mark_from : (c : Code) (mark : List ℕ) (K : List Token → Type 0) (t : Token) (ts : List Token) (to : State) (p : Progress) → (From to p ts → K ts) → FromNext (on (is_mark c.text t mark) (next to p) (refused t)) ts → ThenMark c mark K (t ∷ ts)
  mark_from c mark K t ts to p leads h = case_from (ThenMark c mark K (t ∷ ts)) (is_mark c.text t mark) (next to p) (refused t) ts (λ is from. ThenMark.then is (leads from)) absurd h

  -- ---- statements

  -- A statement, and those after it.
  statement_back : {ts mid : List Token} {c : Code} {s to : Stage} → Statement c ts mid s to → FBody c to mid → FBody c s ts
  statement_back one others = record { to = others.to; rest = others.rest; parsed = Statements.more one others.parsed; ended = others.ended }

  wait_back : (c : Code) (s : Stage) (t : Token) (ts : List Token) → IsMark c (codes "#") t → FWait c s ts → FBody c s (t ∷ ts)
  wait_back c s t _ hash (FWait.later number some at_moment (ThenMark.then closes others)) = statement_back (Statement.wait hash number closes some at_moment) others
  wait_back c s t _ hash (FWait.round number at_moment under (ThenMark.then closes others)) = statement_back (Statement.round hash number closes at_moment under) others

  -- The names of a path with its index.
  path_back : {ts mid rest : List Token} {c : Code} {index : Option ℕ} {net : ℕ} (names own : Texts) → names ≡ c.scope ++ own → Names c ts mid names → MayIndex c mid rest index → net_of c.design own index ≡ Some net → Path c ts rest net
  path_back {ts = ts} {mid = mid} {c = c} names own are parsed may named = Path.path own (subst (λ (l : Texts). Names c ts mid l) are parsed) may named

  force_effect : {ts mid rest : List Token} {c : Code} {s : Stage} {index : Option ℕ} {net moment : ℕ} (word : Token) (names own : Texts) → IsWord c (codes "force") word → names ≡ c.scope ++ own → Names c ts mid names → MayIndex c mid rest index → net_of c.design own index ≡ Some net → moment_by c.stim s.clock.time ≡ Some moment → ThenMark c (codes "=") (FValue c s moment net) rest → FBody c s (word ∷ ts)
  force_effect word names own is are parsed may named at_moment (ThenMark.then equals (FValue.valued bit (ThenMark.then closes others))) =
      statement_back (Statement.force is (path_back names own are parsed may named) equals bit closes at_moment) others

  force_back : (c : Code) (s : Stage) (word : Token) (ts : List Token) → IsWord c (codes "force") word → FNames true c s [] ts → FBody c s (word ∷ ts)
  force_back c s word ts is n =
      let i = n.indexed in
      let g = i.target in
      force_effect word n.names g.own is g.are n.parsed i.may g.named g.at_moment g.effect

  release_effect : {ts mid rest : List Token} {c : Code} {s : Stage} {index : Option ℕ} {net moment : ℕ} {was : Value} (word : Token) (names own : Texts) → IsWord c (codes "release") word → names ≡ c.scope ++ own → Names c ts mid names → MayIndex c mid rest index → net_of c.design own index ≡ Some net → moment_by c.stim s.clock.time ≡ Some moment → forced_now s.events net ≡ Some was → FEnded c (with_event c moment net None s) rest → FBody c s (word ∷ ts)
  release_effect word names own is are parsed may named at_moment forced (ThenMark.then closes others) =
      statement_back (Statement.release is (path_back names own are parsed may named) closes at_moment forced) others

  release_back : (c : Code) (s : Stage) (word : Token) (ts : List Token) → IsWord c (codes "release") word → FNames false c s [] ts → FBody c s (word ∷ ts)
  release_back c s word ts is n =
      let i = n.indexed in
      let g = i.target in
      release_effect word n.names g.own is g.are n.parsed i.may g.named g.at_moment g.effect.forced g.effect.ended

  -- ---- steps

  statement_from : (p : Progress) (forces : Bool) (first : ℕ) (moment : Option ℕ) (ts : List Token) → Fit p → FromNext (statement_by p forces first moment) ts → FNames forces p.code (stage_of p) [] ts
  statement_from p forces first None ts fit h = absurd h
  statement_from p forces first (Some moment) ts fit h = h record { moment = fit.moment; round = fit.round; design = fit.design } refl

  body_back : (p : Progress) (t : Token) (ts : List Token) → FromNext (body p t) ts → From Body p (t ∷ ts)
  body_back p t ts h fit =
      let c = p.code in
      let s = stage_of p in
      let G = FBody c s (t ∷ ts) in
      let end = on (is_word c.text t (codes "end")) (next Tail p) (refused t) in
      let freed = on (is_word c.text t (codes "release")) (statement_by p false t.start p.moment) end in
      let held = on (is_word c.text t (codes "force")) (statement_by p true t.start p.moment) freed in
      case_from G (is_mark c.text t (codes "#")) (next (Wait t.start) p) held ts (λ is from. wait_back c s t ts is (from fit))
      (case_from G (is_word c.text t (codes "force")) (statement_by p true t.start p.moment) freed ts (λ is from. force_back c s t ts is (statement_from p true t.start p.moment ts fit from))
      (case_from G (is_word c.text t (codes "release")) (statement_by p false t.start p.moment) end ts (λ is from. release_back c s t ts is (statement_from p false t.start p.moment ts fit from))
      (case_from G (is_word c.text t (codes "end")) (next Tail p) (refused t) ts (λ is from. record { to = s; rest = t ∷ ts; parsed = Statements.none; ended = ThenWord.then is (from fit) }) absurd))) h

  time_from : (p : Progress) (at d : ℕ) (moment : Option ℕ) (t : Token) (ts : List Token) → Fit p → number_of p.code.text t ≡ Some d → 0 < d → moment_by p.code.stim (p.time + d) ≡ moment → FromNext (time_on p at (p.time + d) moment) ts → FWait p.code (stage_of p) (t ∷ ts)
  time_from p at d None t ts fit number some is h = absurd h
  time_from p at d (Some moment) t ts fit number some is h =
      FWait.later number some is (h record { moment = sym is; round = (let low = fit.round in omega (arith, low)); design = fit.design })

  round_from : (p : Progress) (at : ℕ) (moment : Option ℕ) (t : Token) (ts : List Token) → Fit p → number_of p.code.text t ≡ Some 0 → moment_by p.code.stim p.time ≡ moment → FromNext (round_on p at moment) ts → FWait p.code (stage_of p) (t ∷ ts)
  round_from p at None t ts fit number is h = absurd h
  round_from p at (Some moment) t ts fit number is h = by (p.round + 1 == p.code.stim.rounds) (eqb-false _ _) h
    where
      under : (r rounds : ℕ) → r < rounds → (r + 1 ≡ rounds → ⊥) → r + 1 < rounds
      under r rounds low other = grind (arith, common_steps)

      by : (last : Bool) → (last ≡ false → p.round + 1 ≡ p.code.stim.rounds → ⊥) → FromNext (if last then Err (RoundPast at) else next WaitEnd (record p { round = p.round + 1 })) ts → FWait p.code (stage_of p) (t ∷ ts)
      by true other h = absurd h
      by false other h =
          let low = under p.round p.code.stim.rounds fit.round (other refl) in
          FWait.round number is low (h record { moment = fit.moment; round = low; design = fit.design })

  waited_from : (p : Progress) (at d : ℕ) (t : Token) (ts : List Token) → Fit p → number_of p.code.text t ≡ Some d → FromNext (waited p at d) ts → FWait p.code (stage_of p) (t ∷ ts)
  waited_from p at d t ts fit number h = by (d == 0) (eqb-true _ _) (eqb-false _ _) h
    where
      some : (d : ℕ) → (d ≡ 0 → ⊥) → 0 < d
      some d other = grind (arith, common_steps)

      by : (none : Bool) → (none ≡ true → d ≡ 0) → (none ≡ false → d ≡ 0 → ⊥) → FromNext (if none then round_on p at p.moment else time_on p at (p.time + d) (moment_by p.code.stim (p.time + d))) ts → FWait p.code (stage_of p) (t ∷ ts)
      by true is other h = round_from p at p.moment t ts fit (number ∙ ap Some (is refl)) (sym fit.moment) h
      by false is other h = time_from p at d (moment_by p.code.stim (p.time + d)) t ts fit number (some d (other refl)) refl h

  wait_from : (p : Progress) (at : ℕ) (number : Option ℕ) (t : Token) (ts : List Token) → Fit p → number_of p.code.text t ≡ number → FromNext (wait_by p at t number) ts → FWait p.code (stage_of p) (t ∷ ts)
  wait_from p at None t ts fit is h = absurd h
  wait_from p at (Some d) t ts fit is h = waited_from p at d t ts fit is h

  name_back : (forces : Bool) (c : Code) (s : Stage) (texts : Texts) (name : List ℕ) (t : Token) (ts : List Token) → token_name c.text t ≡ Some name → FAfter forces c s (texts ++ name ∷ []) ts → FNames forces c s texts (t ∷ ts)
  name_back forces c s texts name t _ is (inl (ThenMark.then dot n)) = record {
    names = name ∷ n.names;
    rest = n.rest;
    parsed = Names.more is dot n.parsed;
    indexed = subst (λ (l : Texts). FIndexed forces c s l n.rest) (append_assoc texts (name ∷ []) n.names) n.indexed;
  }
  name_back forces c s texts name t ts is (inr i) = record { names = name ∷ []; rest = ts; parsed = Names.one is; indexed = i }

  name_from : (p : Progress) (name : Option (List ℕ)) (t : Token) (ts : List Token) → Fit p → p.index ≡ None → token_name p.code.text t ≡ name → FromNext (name_by p t name) ts → FNames p.forces p.code (stage_of p) p.texts (t ∷ ts)
  name_from p None t ts fit none is h = absurd h
  name_from p (Some name) t ts fit none is h =
      name_back p.forces p.code (stage_of p) p.texts name t ts is (h record { moment = fit.moment; round = fit.round; design = fit.design } none)

  event_fits : (p : Progress) (events : List Event) → Fit p → Fit (record p { events = events })
  event_fits p events fit = record { moment = fit.moment; round = fit.round; design = fit.design }

  -- Behind a path whose net is named.
  release_from : (p : Progress) (moment net : ℕ) (force : Option Value) (t : Token) (ts : List Token) → Fit p → forced_now p.events net ≡ force → FromNext (release_by p t moment net force) ts → FRelease p.code (stage_of p) moment net (t ∷ ts)
  release_from p moment net None t ts fit is h = absurd h
  release_from p moment net (Some was) t ts fit is h = record {
    was = was;
    forced = is;
    ended = mark_from p.code (codes ";") (FBody p.code (with_event p.code moment net None (stage_of p))) t ts Body _ (λ from. from (event_fits p _ fit)) h;
  }

  effect_from : (p : Progress) (forces : Bool) (moment net : ℕ) (t : Token) (ts : List Token) → Fit p → p.moment ≡ Some moment → FromNext (on forces (on (is_mark p.code.text t (codes "=")) (next (Bit net) p) (refused t)) (release_by p t moment net (forced_now p.events net))) ts → FEffect forces p.code (stage_of p) moment net (t ∷ ts)
  effect_from p true moment net t ts fit at_moment h = mark_from p.code (codes "=") (FValue p.code (stage_of p) moment net) t ts (Bit net) p (λ from. from fit moment at_moment) h
  effect_from p false moment net t ts fit at_moment h = release_from p moment net (forced_now p.events net) t ts fit refl h

  target_from : (p : Progress) (moment net : Option ℕ) (texts : Option Texts) (t : Token) (ts : List Token) → Fit p → p.moment ≡ moment → below p.code.scope p.texts ≡ texts → net_below p.code.design texts p.index ≡ net → FromNext (target_by p t moment net) ts → FTarget p.forces p.code (stage_of p) p.texts p.index (t ∷ ts)
  target_from p None net texts t ts fit at_moment behind named h = absurd h
  target_from p (Some moment) None texts t ts fit at_moment behind named h = absurd h
  target_from p (Some moment) (Some net) None t ts fit at_moment behind named h = absurd cc
  target_from p (Some moment) (Some net) (Some own) t ts fit at_moment behind named h = record {
    own = own;
    net = net;
    moment = moment;
    are = own_below p.code.scope p.texts own behind;
    named = named;
    at_moment = sym fit.moment ∙ at_moment;
    effect = effect_from p p.forces moment net t ts fit at_moment h;
  }

  target_back : (p : Progress) (t : Token) (ts : List Token) → Fit p → FromNext (target p t) ts → FTarget p.forces p.code (stage_of p) p.texts p.index (t ∷ ts)
  target_back p t ts fit h = target_from p p.moment (net_named p) (below p.code.scope p.texts) t ts fit refl refl refl h

  index_back : (forces : Bool) (c : Code) (s : Stage) (texts : Texts) (t : Token) (ts : List Token) → IsMark c (codes "[") t → FNumber forces c s texts ts → FIndexed forces c s texts (t ∷ ts)
  index_back forces c s texts t _ is (FNumber.digits number small (ThenMark.then closes g)) = record { index = Some _; rest = _; may = MayIndex.some is number small closes; target = g }

  after_back : (p : Progress) (t : Token) (ts : List Token) → FromNext (after_name p t) ts → From AfterName p (t ∷ ts)
  after_back p t ts h fit none =
      let c = p.code in
      let s = stage_of p in
      let G = FAfter p.forces c s p.texts (t ∷ ts) in
      let bracket = on (is_mark c.text t (codes "[")) (next Index p) (target p t) in
      case_from G (is_mark c.text t (codes ".")) (next NameNext p) bracket ts (λ is from. inl (ThenMark.then is (from fit none)))
      (case_from G (is_mark c.text t (codes "[")) (next Index p) (target p t) ts (λ is from. inr (index_back p.forces c s p.texts t ts is (from fit)))
      (λ from. inr record { index = None; rest = t ∷ ts; may = MayIndex.none; target = subst (λ (i : Option ℕ). FTarget p.forces c s p.texts i (t ∷ ts)) none (target_back p t ts fit from) })) h

  -- The net has the index that stands in the text, below 2^31.
  number_back : (forces : Bool) (c : Code) (s : Stage) (texts : Texts) (index : ℕ) (t : Token) (ts : List Token) → FitsDesign c.design → number_of c.text t ≡ Some index → ThenMark c (codes "]") (FTarget forces c s texts (Some (capped index))) ts → FNumber forces c s texts (t ∷ ts)
  number_back forces c s texts index t _ fits number (ThenMark.then {ts = ts} closes g) =
      let below_limit : capped index < 2 ^ 31 = index_small c.design g.own (capped index) g.net fits g.named in
      let k = kept index below_limit in
      FNumber.digits number k.0 (ThenMark.then closes (subst (λ (i : ℕ). FTarget forces c s texts (Some i) ts) k.1 g))
    where
      kept : (index : ℕ) → capped index < 2 ^ 31 → (index < 2 ^ 31) × (capped index ≡ index)
      kept index low = by (nat_lt index (2 ^ 31)) refl low
        where
          is_less : (n m : ℕ) → nat_lt n m ≡ true → n < m
          is_less n m is = grind (arith, nat_tests)

          by : (b : Bool) → nat_lt index (2 ^ 31) ≡ b → (if b then index else 2 ^ 31) < 2 ^ 31 → (index < 2 ^ 31) × ((if b then index else 2 ^ 31) ≡ index)
          by true is low = (is_less index (2 ^ 31) is, refl)
          by false is low = absurd (omega (arith, low))

  index_from : (p : Progress) (index : Option ℕ) (t : Token) (ts : List Token) → Fit p → number_of p.code.text t ≡ index → FromNext (index_by p t index) ts → FNumber p.forces p.code (stage_of p) p.texts (t ∷ ts)
  index_from p None t ts fit is h = absurd h
  index_from p (Some index) t ts fit is h =
      number_back p.forces p.code (stage_of p) p.texts index t ts fit.design is (h record { moment = fit.moment; round = fit.round; design = fit.design })

  bit_from : (p : Progress) (net : ℕ) (was : Option ℕ) (value : Option Value) (t : Token) (ts : List Token) → Fit p → p.moment ≡ was → value_of p.code.text t ≡ value → FromNext (bit_by p t net was value) ts → (moment : ℕ) → p.moment ≡ Some moment → FValue p.code (stage_of p) moment net (t ∷ ts)
  bit_from p net was None t ts fit is bit h moment at_moment = absurd h
  bit_from p net None (Some value) t ts fit is bit h moment at_moment = absurd h
  bit_from p net (Some was) (Some value) t ts fit is bit h moment at_moment =
      let same : was ≡ moment = (let e = sym is ∙ at_moment in cc) in
      FValue.valued bit (subst (λ (m : ℕ). FEnded p.code (with_event p.code m net (Some value) (stage_of p)) ts) same (h (event_fits p _ fit)))

  back : (state : State) (p : Progress) (t : Token) (ts : List Token) → FromNext (step state p t) ts → From state p (t ∷ ts)
  back Module p t ts h fit = word_from p.code (codes "module") (FTitle p.code (stage_of p)) t ts Title p (λ from. from fit) h
  back Title p t ts h fit = word_from p.code (codes "xrepair_code") (FSemicolon p.code (stage_of p)) t ts Semicolon p (λ from. from fit) h
  back Semicolon p t ts h fit = mark_from p.code (codes ";") (FInitial p.code (stage_of p)) t ts Initial p (λ from. from fit) h
  back Initial p t ts h fit = word_from p.code (codes "initial") (FBegin p.code (stage_of p)) t ts Begin p (λ from. from fit) h
  back Begin p t ts h fit = word_from p.code (codes "begin") (FBody p.code (stage_of p)) t ts Body p (λ from. from fit) h
  back Body p t ts h fit = body_back p t ts h fit
  back (Wait at) p t ts h fit = wait_from p at (number_of p.code.text t) t ts fit refl h
  back WaitEnd p t ts h fit = mark_from p.code (codes ";") (FBody p.code (stage_of p)) t ts Body p (λ from. from fit) h
  back NameNext p t ts h fit = λ none. name_from p (token_name p.code.text t) t ts fit none refl h
  back AfterName p t ts h fit = after_back p t ts h fit
  back Index p t ts h fit = index_from p (number_of p.code.text t) t ts fit refl h
  back IndexEnd p t ts h fit = mark_from p.code (codes "]") (FTarget p.forces p.code (stage_of p) p.texts p.index) t ts PathEnd p (λ from. from fit) h
  back PathEnd p t ts h fit = target_back p t ts fit h
  back (Bit net) p t ts h fit = bit_from p net p.moment (value_of p.code.text t) t ts fit refl refl h
  back StatementEnd p t ts h fit = mark_from p.code (codes ";") (FBody p.code (stage_of p)) t ts Body p (λ from. from fit) h
  back Tail p t ts h fit = word_from p.code (codes "endmodule") (FDone p.code (stage_of p)) t ts Done p (λ from. from fit) h
  back Done p t ts h fit = absurd h

  -- ---- the end

  release_unended : (p : Progress) (force : Option Value) → ended_release p stop force ≡ Ok all → ⊥
  release_unended p None h = absurd cc
  release_unended p (Some value) h = absurd cc

  net_unended : (p : Progress) (net : ℕ) (forces : Bool) → (if forces then Err (Syntax stop) else ended_release p stop (forced_now p.events net)) ≡ Ok all → ⊥
  net_unended p net true h = absurd cc
  net_unended p net false h = release_unended p (forced_now p.events net) h

  unended : (p : Progress) (moment net : Option ℕ) → ended_by p stop moment net ≡ Ok all → ⊥
  unended p None net h = absurd cc
  unended p (Some moment) None h = absurd cc
  unended p (Some moment) (Some net) h = net_unended p net p.forces h

  whole_from : (p : Progress) (b : Bool) → (stop == length p.code.text) ≡ b → (if b then Ok p.events else Err (Syntax stop)) ≡ Ok all → FDone p.code (stage_of p) []
  whole_from p true is h = record { none = refl; whole = eqb-true stop (length p.code.text) is; are = cc }
  whole_from p false is h = absurd cc

  ended : (state : State) (p : Progress) → finish state p stop ≡ Ok all → From state p []
  ended Done p h fit = whole_from p (stop == length p.code.text) refl h
  ended AfterName p h fit = absurd (unended p p.moment (net_named p) h)
  ended PathEnd p h fit = absurd (unended p p.moment (net_named p) h)
  ended _ p h fit = absurd cc

  accepted : (state : State) (p : Progress) (ts : List Token) → run state p ts stop ≡ Ok all → From state p ts
  accepted state p [] h = ended state p h
  accepted state p (t ∷ ts) h = back state p t ts (by (λ (n : Next). accepted n.state n.progress ts) (step state p t) h)
    where
      by : ((n : Next) → run n.state n.progress ts stop ≡ Ok all → From n.state n.progress ts) → (r : Result Next CodeFault) → then_run r (λ (n : Next). run n.state n.progress ts stop) ≡ Ok all → FromNext r ts
      by others (Ok n) h = others n h
      by others (Err fault) h = absurd cc

-- What is read to the end is code, and the text ends there.
pub record IsWholeCode (c : Code) (ts : List Token) (stop : ℕ) (all : List Event) : Type 0 where
  pub parsed : IsCode c ts all
  pub whole : stop ≡ length c.text

finished : (c : Code) (stop : ℕ) (all : List Event) {opens title last block begins : Token} {ts rest : List Token} {to : Stage} → IsWord c (codes "module") opens → IsWord c (codes "xrepair_code") title → IsMark c (codes ";") last → IsWord c (codes "initial") block → IsWord c (codes "begin") begins → Statements c ts rest at_first to → ThenWord c (codes "end") (FTail stop all c to) rest → IsWholeCode c (opens ∷ title ∷ last ∷ block ∷ begins ∷ ts) stop all
finished c stop all {opens} {title} {last} {block} {begins} {ts} {rest} {to} a b d e f parsed (ThenWord.then {t = ends} g (ThenWord.then {t = closes} h done)) = record {
  parsed = subst (λ (l : List Event). IsCode c (opens ∷ title ∷ last ∷ block ∷ begins ∷ ts) l) done.are
      (IsCode.code a b d e f (subst (λ (l : List Token). Statements c ts (ends ∷ closes ∷ l) at_first to) done.none parsed) g h);
  whole = done.whole;
}

whole_code : (c : Code) (stop : ℕ) (all : List Event) {ts : List Token} → ThenWord c (codes "module") (FTitle stop all c at_first) ts → IsWholeCode c ts stop all
whole_code c stop all (ThenWord.then a (ThenWord.then b (ThenMark.then d (ThenWord.then e (ThenWord.then f x))))) = finished c stop all a b d e f x.parsed x.ended

pub is_code : (c : Code) (ts : List Token) (stop : ℕ) (all : List Event) → FitsDesign c.design → run Module (begun c) ts stop ≡ Ok all → IsWholeCode c ts stop all
is_code c ts stop all fits h = whole_code c stop all (accepted stop all Module (begun c) ts h record { moment = refl; round = c.stim.some_round; design = fits })
