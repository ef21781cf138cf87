-- What is in the grammar is read by the machine.
use Rattle.std.proofs.Common.{◌≡◌, ℕ, ◌+◌, ◌*◌, ◌<◌, ◌^◌, ◌==◌, Bool, true, false, Option, None, Some, Result, Ok, Err, List, [], ◌∷◌, ◌++◌, codes, length, nat_lt, refl, sym, ap, ◌∙◌, subst, arith, append_assoc, bytes_eq, if◌then◌else◌}
use Rattle.std.proofs.lemmas.Bool.{cond-true, eq-eqb, lt-ltb, ne_eqb}
use Rattle.design_circuit.specs.declared.force.Event.{Event}
use Rattle.recording_binding.specs.Naming.{Texts}
use Rattle.netlist_tokens.specs.declared.token.Token.{Token}
use Rattle.replay_code.specs.Clock.{moment_by}
use Rattle.replay_code.specs.Code.{Code}
use Rattle.replay_code.specs.Grammar.{IsCode, MayIndex, Names, Path, Stage, Statement, Statements}
use Rattle.replay_code.specs.Lookup.{below, net_below, net_of}
use Rattle.replay_code.specs.Machine.{Next, Progress, after_name, begun, bit_by, body, capped, index_by, name_by, net_named, next, on, refused, release_by, round_on, run, statement_by, step, target, target_by, then_run, time_on, wait_by, waited}
use Rattle.replay_code.specs.Words.{is_mark, is_word}
use Rattle.replay_code.specs.declared.fault.CodeFault.{CodeFault}
use Rattle.replay_code.specs.declared.fault.CodeFault.TheVariants.{RoundPast, Syntax}
use Rattle.replay_code.specs.declared.state.State.{State}
use Rattle.replay_code.specs.declared.state.State.TheVariants.{Module, Title, Semicolon, Initial, Begin, Body, Wait, WaitEnd, NameNext, AfterName, Index, IndexEnd, PathEnd, Bit, StatementEnd, Tail, Done}
use Rattle.replay_code.proofs.Scoped.{below_own}
use Rattle.replay_code.proofs.Tests.{other_mark, other_word, word_unmarked}

-- ---- what a body makes of a token

abbrev on_end : Progress → Token → Result Next CodeFault
on_end p t = on (is_word p.code.text t (codes "end")) (next Tail p) (refused t)

abbrev on_release : Progress → Token → Result Next CodeFault
on_release p t = on (is_word p.code.text t (codes "release")) (statement_by p false t.start p.moment) (on_end p t)

abbrev on_force : Progress → Token → Result Next CodeFault
on_force p t = on (is_word p.code.text t (codes "force")) (statement_by p true t.start p.moment) (on_release p t)

body_word : (p : Progress) (t : Token) (word : List ℕ) → is_word p.code.text t word ≡ true → body p t ≡ on_force p t
body_word p t word is = ap (λ b. on b (next (Wait t.start) p) (on_force p t)) (word_unmarked p.code.text word (codes "#") t is)

body_force : (p : Progress) (t : Token) → is_word p.code.text t (codes "force") ≡ true → body p t ≡ statement_by p true t.start p.moment
body_force p t is = body_word p t (codes "force") is ∙ ap (λ b. on b (statement_by p true t.start p.moment) (on_release p t)) is

body_release : (p : Progress) (t : Token) → is_word p.code.text t (codes "release") ≡ true → body p t ≡ statement_by p false t.start p.moment
body_release p t is =
    body_word p t (codes "release") is
    ∙ (ap (λ b. on b (statement_by p true t.start p.moment) (on_release p t)) (other_word p.code.text (codes "release") (codes "force") t is refl)
    ∙ ap (λ b. on b (statement_by p false t.start p.moment) (on_end p t)) is)

body_end : (p : Progress) (t : Token) → is_word p.code.text t (codes "end") ≡ true → body p t ≡ next Tail p
body_end p t is =
    body_word p t (codes "end") is
    ∙ (ap (λ b. on b (statement_by p true t.start p.moment) (on_release p t)) (other_word p.code.text (codes "end") (codes "force") t is refl)
    ∙ (ap (λ b. on b (statement_by p false t.start p.moment) (on_end p t)) (other_word p.code.text (codes "end") (codes "release") t is refl)
    ∙ ap (λ b. on b (next Tail p) (refused t)) is))

-- ---- what stands after a name

after_dot : (p : Progress) (t : Token) → is_mark p.code.text t (codes ".") ≡ true → after_name p t ≡ next NameNext p
after_dot p t is = ap (λ b. on b (next NameNext p) (on (is_mark p.code.text t (codes "[")) (next Index p) (target p t))) is

after_bracket : (p : Progress) (t : Token) → is_mark p.code.text t (codes "[") ≡ true → after_name p t ≡ next Index p
after_bracket p t is =
    ap (λ b. on b (next NameNext p) (on (is_mark p.code.text t (codes "[")) (next Index p) (target p t))) (other_mark p.code.text (codes "[") (codes ".") t is refl)
    ∙ ap (λ b. on b (next Index p) (target p t)) is

-- A token that is neither a dot nor a bracket ends the path.
record EndsPath (text : List ℕ) (t : Token) : Type 0 where
  dot : is_mark text t (codes ".") ≡ false
  bracket : is_mark text t (codes "[") ≡ false

ends_path : (text mark : List ℕ) (t : Token) → is_mark text t mark ≡ true → bytes_eq mark (codes ".") ≡ false → bytes_eq mark (codes "[") ≡ false → EndsPath text t
ends_path text mark t is dot bracket = record { dot = other_mark text mark (codes ".") t is dot; bracket = other_mark text mark (codes "[") t is bracket }

after_whole : (p : Progress) (t : Token) → EndsPath p.code.text t → after_name p t ≡ target p t
after_whole p t is =
    ap (λ b. on b (next NameNext p) (on (is_mark p.code.text t (codes "[")) (next Index p) (target p t))) is.dot
    ∙ ap (λ b. on b (next Index p) (target p t)) is.bracket

-- ---- the progress at a stage

-- whatever statement was read last
abbrev at_stage : Code → Stage → Bool → ℕ → Texts → Option ℕ → Progress
at_stage c s forces at texts index = record {
  code = c;
  time = s.clock.time;
  moment = moment_by c.stim s.clock.time;
  round = s.clock.round;
  forces = forces;
  at = at;
  texts = texts;
  index = index;
  events = s.events;
}

-- The net of a path is the one that the progress names.
named_there : (c : Code) (s : Stage) (forces : Bool) (at : ℕ) (texts : Texts) (index : Option ℕ) (net : ℕ) → net_of c.design texts index ≡ Some net → net_named (at_stage c s forces at (c.scope ++ texts) index) ≡ Some net
named_there c s forces at texts index net is = ap (λ o. net_below c.design o index) (below_own c.scope texts) ∙ is

target_there : (c : Code) (s : Stage) (forces : Bool) (at : ℕ) (texts : Texts) (index : Option ℕ) (net moment : ℕ) (t : Token) → net_of c.design texts index ≡ Some net → moment_by c.stim s.clock.time ≡ Some moment → target (at_stage c s forces at (c.scope ++ texts) index) t ≡ target_by (at_stage c s forces at (c.scope ++ texts) index) t (Some moment) (Some net)
target_there c s forces at texts index net moment t named at_moment =
    let p = at_stage c s forces at (c.scope ++ texts) index in
    ap (λ m. target_by p t m (net_named p)) at_moment ∙ ap (λ n. target_by p t (Some moment) n) (named_there c s forces at texts index net named)

-- ---- runs

module _ (c : Code) (stop : ℕ) (all : List Event) where
  -- The tokens are read to the end.
  abbrev reads : State → Progress → List Token → Type 0
  reads state p ts = run state p ts stop ≡ Ok all

  abbrev reads_from : Stage → List Token → Type 0
  reads_from s ts = (forces : Bool) (at : ℕ) (texts : Texts) (index : Option ℕ) → reads Body (at_stage c s forces at texts index) ts

  -- A token is read, and then the others.
  stepped : (state : State) (p : Progress) (t : Token) (ts : List Token) (to : State) (q : Progress) → step state p t ≡ next to q → reads to q ts → reads state p (t ∷ ts)
  stepped state p t ts to q is h = ap (λ r. then_run r (λ (n : Next). run n.state n.progress ts stop)) is ∙ h

  -- A mark that the state asks for.
  marked : (state to : State) (p : Progress) (mark : List ℕ) (t : Token) (ts : List Token) → step state p t ≡ on (is_mark p.code.text t mark) (next to p) (refused t) → is_mark p.code.text t mark ≡ true → reads to p ts → reads state p (t ∷ ts)
  marked state to p mark t ts asks is h = stepped state p t ts to p (asks ∙ ap (λ b. on b (next to p) (refused t)) is) h

  worded : (state to : State) (p : Progress) (word : List ℕ) (t : Token) (ts : List Token) → step state p t ≡ on (is_word p.code.text t word) (next to p) (refused t) → is_word p.code.text t word ≡ true → reads to p ts → reads state p (t ∷ ts)
  worded state to p word t ts asks is h = stepped state p t ts to p (asks ∙ ap (λ b. on b (next to p) (refused t)) is) h

  -- ---- paths

  names_read : (s : Stage) (forces : Bool) (at : ℕ) (texts : Texts) {ts rest : List Token} {names : Texts} → Names c ts rest names → ((at : ℕ) → reads AfterName (at_stage c s forces at (texts ++ names) None) rest) → reads NameNext (at_stage c s forces at texts None) ts
  names_read s forces at texts (Names.one {t = t} {ts = ts} {name = name} is) h =
      let p = at_stage c s forces at texts None in
      let first = if length texts == 0 then t.start else at in
      stepped NameNext p t ts AfterName (at_stage c s forces first (texts ++ name ∷ []) None) (ap (name_by p t) is) (h first)
  names_read s forces at texts (Names.more {t = t} {dot = dot} {ts = ts} {rest = rest} {name = name} {names = names} is dotted others) h =
      let p = at_stage c s forces at texts None in
      let first = if length texts == 0 then t.start else at in
      let q = at_stage c s forces first (texts ++ name ∷ []) None in
      stepped NameNext p t (dot ∷ ts) AfterName q (ap (name_by p t) is)
      (stepped AfterName q dot ts NameNext q (after_dot q dot dotted)
      (names_read s forces first (texts ++ name ∷ []) others (λ last. subst (λ (l : Texts). reads AfterName (at_stage c s forces last l None) rest) (sym (append_assoc texts (name ∷ []) names)) (h last))))

  -- an index below 2^31 is itself
  kept_index : (index : ℕ) → index < 2 ^ 31 → capped index ≡ index
  kept_index index small = cond-true (nat_lt index (2 ^ 31)) index (2 ^ 31) (lt-ltb index (2 ^ 31) small)

  -- Behind the names an index or none, and the token that ends the path.
  index_read : (s : Stage) (forces : Bool) (at : ℕ) (texts : Texts) (t : Token) {mid rest : List Token} {index : Option ℕ} (to : State) (q : Progress) → MayIndex c mid (t ∷ rest) index → EndsPath c.text t → target (at_stage c s forces at texts index) t ≡ next to q → reads to q rest → reads AfterName (at_stage c s forces at texts None) mid
  index_read s forces at texts t {rest = rest} to q MayIndex.none ends is h =
      let p = at_stage c s forces at texts None in
      stepped AfterName p t rest to q (after_whole p t ends ∙ is) h
  index_read s forces at texts t {rest = rest} to q (MayIndex.some {first = first} {t = digits} {last = last} {index = index} opens number small closes) ends is h =
      let p = at_stage c s forces at texts None in
      let r = at_stage c s forces at texts (Some index) in
      stepped AfterName p first (digits ∷ last ∷ t ∷ rest) Index p (after_bracket p first opens)
      (stepped Index p digits (last ∷ t ∷ rest) IndexEnd r (ap (index_by p digits) number ∙ ap (λ i. next IndexEnd (at_stage c s forces at texts (Some i))) (kept_index index small))
      (marked IndexEnd PathEnd r (codes "]") last (t ∷ rest) refl closes
      (stepped PathEnd r t rest to q is h)))

  -- ---- statements

  -- A statement begins.
  begun_by : (s : Stage) (forces was : Bool) (at first : ℕ) (texts : Texts) (index : Option ℕ) (moment : ℕ) → moment_by c.stim s.clock.time ≡ Some moment → statement_by (at_stage c s was at texts index) forces first (moment_by c.stim s.clock.time) ≡ next NameNext (at_stage c s forces first [] None)
  begun_by s forces was at first texts index moment is = ap (statement_by (at_stage c s was at texts index) forces first) is

  statement_read : {ts rest : List Token} {s to : Stage} → Statement c ts rest s to → reads_from to rest → reads_from s ts
  statement_read (Statement.wait {hash = hash} {t = t} {last = last} {ts = ts} {s = s} {d = d} {moment = moment} opens number closes some at_moment) h forces at texts index =
      let p = at_stage c s forces at texts index in
      let time = s.clock.time + d in
      let q : Progress = record p { time = time; moment = Some moment; round = 0 } in
      let later : waited p hash.start d ≡ next WaitEnd q = ap (λ b. if b then round_on p hash.start p.moment else time_on p hash.start time (moment_by c.stim time)) (ne_eqb d 0 (λ none. omega (arith, none, some))) ∙ ap (time_on p hash.start time) at_moment in
      stepped Body p hash (t ∷ last ∷ ts) (Wait hash.start) p (ap (λ b. on b (next (Wait hash.start) p) (on_force p hash)) opens)
      (stepped (Wait hash.start) p t (last ∷ ts) WaitEnd q (ap (wait_by p hash.start t) number ∙ later)
      (marked WaitEnd Body q (codes ";") last ts refl closes
      (subst (λ m. reads Body (record q { moment = m }) ts) at_moment (h forces at texts index))))
  statement_read (Statement.round {hash = hash} {t = t} {last = last} {ts = ts} {s = s} {moment = moment} opens number closes at_moment below) h forces at texts index =
      let p = at_stage c s forces at texts index in
      let q : Progress = record p { round = s.clock.round + 1 } in
      let on_round : waited p hash.start 0 ≡ next WaitEnd q =
      ap (round_on p hash.start) at_moment
      ∙ ap (λ b. if b then Err (RoundPast hash.start) else next WaitEnd q) (ne_eqb (s.clock.round + 1) c.stim.rounds (λ same. omega (arith, same, below))) in
      stepped Body p hash (t ∷ last ∷ ts) (Wait hash.start) p (ap (λ b. on b (next (Wait hash.start) p) (on_force p hash)) opens)
      (stepped (Wait hash.start) p t (last ∷ ts) WaitEnd q (ap (wait_by p hash.start t) number ∙ on_round)
      (marked WaitEnd Body q (codes ";") last ts refl closes (h forces at texts index)))
  statement_read (Statement.force {word = word} {equals = equals} {t = t} {last = last} {ts = ts} {rest = rest} {s = s} {net = net} {moment = moment} {value = value} is (Path.path {mid = mid} own {index = number} names may named) sets bit closes at_moment) h forces at texts index =
      let p = at_stage c s forces at texts index in
      stepped Body p word ts NameNext (at_stage c s true word.start [] None) (body_force p word is ∙ begun_by s true forces at word.start texts index moment at_moment)
      (names_read s true word.start [] names (λ first.
      (let q = at_stage c s true first (c.scope ++ own) number in
      let targeted : target q equals ≡ next (Bit net) q = target_there c s true first own number net moment equals named at_moment ∙ ap (λ b. on b (next (Bit net) q) (refused equals)) sets in
      let r : Progress = record q { events = q.events ++ record { step = moment * c.stim.rounds + s.clock.round; net = net; value = Some value } ∷ [] } in
      index_read s true first (c.scope ++ own) equals (Bit net) q may (ends_path c.text (codes "=") equals sets refl refl) targeted
      (stepped (Bit net) q t (last ∷ rest) StatementEnd r (ap (bit_by q t net q.moment) bit ∙ ap (λ m. bit_by q t net m (Some value)) at_moment)
      (marked StatementEnd Body r (codes ";") last rest refl closes (h true first (c.scope ++ own) number))))))
  statement_read (Statement.release {word = word} {last = last} {ts = ts} {rest = rest} {s = s} {net = net} {moment = moment} {value = value} is (Path.path {mid = mid} own {index = number} names may named) closes at_moment forced) h forces at texts index =
      let p = at_stage c s forces at texts index in
      stepped Body p word ts NameNext (at_stage c s false word.start [] None) (body_release p word is ∙ begun_by s false forces at word.start texts index moment at_moment)
      (names_read s false word.start [] names (λ first.
      (let q = at_stage c s false first (c.scope ++ own) number in
      let r : Progress = record q { events = q.events ++ record { step = moment * c.stim.rounds + s.clock.round; net = net; value = None } ∷ [] } in
      let targeted : target q last ≡ next Body r =
      target_there c s false first own number net moment last named at_moment
      ∙ (ap (release_by q last moment net) forced ∙ ap (λ b. on b (next Body r) (refused last)) closes) in
      index_read s false first (c.scope ++ own) last Body r may (ends_path c.text (codes ";") last closes refl refl) targeted (h false first (c.scope ++ own) number))))

  statements_read : {ts rest : List Token} {s to : Stage} → Statements c ts rest s to → reads_from to rest → reads_from s ts
  statements_read Statements.none h = h
  statements_read (Statements.more first others) h = statement_read first (statements_read others h)

-- What is code is read to the end.
pub code_read : (c : Code) (ts : List Token) (events : List Event) → IsCode c ts events → run Module (begun c) ts (length c.text) ≡ Ok events
code_read c _ _ (IsCode.code {opens = opens} {title = title} {last = last} {block = block} {begins = begins} {ends = ends} {closes = closes} {ts = ts} {s = s} is named ended blocks begun_ statements finishes closed) =
    let stop = length c.text in
    let all = s.events in
    let p = begun c in
    worded c stop all Module Title p (codes "module") opens (title ∷ last ∷ block ∷ begins ∷ ts) refl is
    (worded c stop all Title Semicolon p (codes "xrepair_code") title (last ∷ block ∷ begins ∷ ts) refl named
    (marked c stop all Semicolon Initial p (codes ";") last (block ∷ begins ∷ ts) refl ended
    (worded c stop all Initial Begin p (codes "initial") block (begins ∷ ts) refl blocks
    (worded c stop all Begin Body p (codes "begin") begins ts refl begun_
    (statements_read c stop all statements tail false 0 [] None)))))
  where
    whole : (length c.text == length c.text) ≡ true
    whole = eq-eqb (length c.text) (length c.text) refl

    tail : reads_from c (length c.text) s.events s (ends ∷ closes ∷ [])
    tail forces at texts index =
        let q = at_stage c s forces at texts index in
        stepped c (length c.text) s.events Body q ends (closes ∷ []) Tail q (body_end q ends finishes)
        (worded c (length c.text) s.events Tail Done q (codes "endmodule") closes [] refl closed
        (ap (λ b. if b then Ok s.events else Err (Syntax (length c.text))) whole))
