-- The grammar of code (IEEE 1364-2005, clause 9.3.2). A rule relates the tokens before it, the tokens after it and
-- what it stands for.
--
-- code      = "module" "xrepair_code" ";" "initial" "begin" { statement } "end" "endmodule"
-- statement = "#" digits ";" | "force" path "=" value ";" | "release" path ";"
-- path      = name { "." name } [ "[" digits "]" ]
-- value     = "1'b0" | "1'b1" | "1'bx" | "1'bz"
use Rattle.std.specs.Prelude.{◌≡◌, ℕ, ◌+◌, ◌*◌, ◌<◌, ◌^◌, true, Option, None, Some, List, [], ◌∷◌, ◌++◌, codes}
use Rattle.design_cell.specs.declared.value.Value.{Value}
use Rattle.design_circuit.specs.declared.force.Event.{Event}
use Rattle.recording_binding.specs.Naming.{Texts}
use Rattle.netlist_tokens.specs.declared.token.Token.{Token}
use Rattle.replay_code.specs.Clock.{clock_of, moment_by, start}
use Rattle.replay_code.specs.Code.{Code}
use Rattle.replay_code.specs.Lookup.{net_of}
use Rattle.replay_code.specs.Statements.{forced_now}
use Rattle.replay_code.specs.Words.{is_mark, is_word, token_name, number_of, value_of}
use Rattle.replay_code.specs.declared.clock.Clock.{Clock}

-- The token is this word, or this mark.
abbrev pub IsWord : Code → List ℕ → Token → Type 0
IsWord c word t = is_word c.text t word ≡ true

abbrev pub IsMark : Code → List ℕ → Token → Type 0
IsMark c mark t = is_mark c.text t mark ≡ true

-- name { "." name }
pub data Names (c : Code) : List Token → List Token → Texts → Type 0 where
  one : {t : Token} {ts : List Token} {name : List ℕ} → token_name c.text t ≡ Some name
      → Names c (t ∷ ts) ts (name ∷ [])
  more : {t dot : Token} {ts rest : List Token} {name : List ℕ} {names : Texts} → token_name c.text t ≡ Some name
      → IsMark c (codes ".") dot → Names c ts rest names → Names c (t ∷ dot ∷ ts) rest (name ∷ names)

-- [ "[" digits "]" ], where an index is below 2^31
pub data MayIndex (c : Code) : List Token → List Token → Option ℕ → Type 0 where
  none : {ts : List Token} → MayIndex c ts ts None
  some : {first t last : Token} {ts : List Token} {index : ℕ} → IsMark c (codes "[") first
      → number_of c.text t ≡ Some index → index < 2 ^ 31 → IsMark c (codes "]") last
      → MayIndex c (first ∷ t ∷ last ∷ ts) ts (Some index)

-- The net of a path: after the scope's names stand its own, and its index.
pub data Path (c : Code) : List Token → List Token → ℕ → Type 0 where
  path : {ts mid rest : List Token} (texts : Texts) {index : Option ℕ} {net : ℕ} → Names c ts mid (c.scope ++ texts)
      → MayIndex c mid rest index → net_of c.design texts index ≡ Some net → Path c ts rest net

-- What statements have led to: a time with a round, and the events so far.
pub record Stage : Type 0 where
  pub clock : Clock
  pub events : List Event

abbrev pub stage : Clock → List Event → Stage
stage clock events = record { clock = clock; events = events }

-- with an event more, in this moment and the round of the clock
abbrev pub with_event : Code → ℕ → ℕ → Option Value → Stage → Stage
with_event c moment net value s =
    stage s.clock (s.events ++ record { step = moment * c.stim.rounds + s.clock.round; net = net; value = value } ∷ [])

-- A statement leads from a stage to the next.
pub data Statement (c : Code) : List Token → List Token → Stage → Stage → Type 0 where
  -- "#" digits ";": to round 0 of the moment so many time units on
  wait : {hash t last : Token} {ts : List Token} {s : Stage} {d moment : ℕ} → IsMark c (codes "#") hash
      → number_of c.text t ≡ Some d → IsMark c (codes ";") last → 0 < d
      → moment_by c.stim (s.clock.time + d) ≡ Some moment
      → Statement c (hash ∷ t ∷ last ∷ ts) ts s (stage (clock_of (s.clock.time + d) 0) s.events)
  -- "#" 0 ";": to the next round of the moment, where it has one
  round : {hash t last : Token} {ts : List Token} {s : Stage} {moment : ℕ} → IsMark c (codes "#") hash
      → number_of c.text t ≡ Some 0 → IsMark c (codes ";") last
      → moment_by c.stim s.clock.time ≡ Some moment → s.clock.round + 1 < c.stim.rounds
      → Statement c (hash ∷ t ∷ last ∷ ts) ts s (stage (clock_of s.clock.time (s.clock.round + 1)) s.events)
  -- "force" path "=" value ";", in a moment
  force : {word equals t last : Token} {ts rest : List Token} {s : Stage} {net moment : ℕ} {value : Value}
      → IsWord c (codes "force") word → Path c ts (equals ∷ t ∷ last ∷ rest) net → IsMark c (codes "=") equals
      → value_of c.text t ≡ Some value → IsMark c (codes ";") last → moment_by c.stim s.clock.time ≡ Some moment
      → Statement c (word ∷ ts) rest s (with_event c moment net (Some value) s)
  -- "release" path ";", in a moment, of a net that is forced now
  release : {word last : Token} {ts rest : List Token} {s : Stage} {net moment : ℕ} {value : Value}
      → IsWord c (codes "release") word → Path c ts (last ∷ rest) net → IsMark c (codes ";") last
      → moment_by c.stim s.clock.time ≡ Some moment → forced_now s.events net ≡ Some value
      → Statement c (word ∷ ts) rest s (with_event c moment net None s)

-- { statement }
pub data Statements (c : Code) : List Token → List Token → Stage → Stage → Type 0 where
  none : {ts : List Token} {s : Stage} → Statements c ts ts s s
  more : {ts mid rest : List Token} {s next to : Stage} → Statement c ts mid s next → Statements c mid rest next to
      → Statements c ts rest s to

-- At first the time is 0, the round 0, and there is no event.
abbrev pub at_first : Stage
at_first = stage start []

-- "module" "xrepair_code" ";" "initial" "begin" { statement } "end" "endmodule", and the events of the statements
pub data IsCode (c : Code) : List Token → List Event → Type 0 where
  code : {opens title last block begins ends closes : Token} {ts : List Token} {s : Stage}
      → IsWord c (codes "module") opens → IsWord c (codes "xrepair_code") title → IsMark c (codes ";") last
      → IsWord c (codes "initial") block → IsWord c (codes "begin") begins
      → Statements c ts (ends ∷ closes ∷ []) at_first s
      → IsWord c (codes "end") ends → IsWord c (codes "endmodule") closes
      → IsCode c (opens ∷ title ∷ last ∷ block ∷ begins ∷ ts) s.events
