-- What the replay knows holds in every world, where no net is a register or a cell of a primitive.
use Rattle.std.proofs.Common.{◌≡◌, ℕ, zero, suc, ◌+◌, ◌*◌, ◌/◌, ◌%◌, ◌<◌, Bool, true, false, List, [], ◌∷◌, slice_index_or, if◌then◌else◌, refl, sym, ap, ◌∙◌, arith, ⊎_elim, subst}
use Rattle.std.proofs.Math.Bool.{or-true}
use Rattle.std.proofs.Math.Nat.{mod-lt}
use Rattle.std.proofs.lemmas.Bool.{and_parts, or_cases}
use Rattle.std.specs.List.{AllByRecursion, list_any, list_all}
use Rattle.design_cell.specs.declared.value.Value.{Value}
use Rattle.design_cell.specs.declared.value.Value.TheVariants.{Zero, One, X, Z}
use Rattle.design_cell.specs.declared.gate.Gate.{Gate}
use Rattle.design_cell.specs.declared.gate.Gate.TheVariants.{And, Nand, Or, Nor, Xor, Xnor, Buf, Not}
use Rattle.design_cell.specs.Value.{IsKnown, bit_value, is_zero, is_one, is_unknown, read, complement_of}
use Rattle.design_cell.specs.Gate.{and_of, or_of, xor_of, buf_of, gate_of}
use Rattle.design_circuit.specs.declared.design.Pin.{Pin}
use Rattle.design_circuit.specs.declared.design.Pin.TheVariants.{Net, Bit, Dead}
use Rattle.design_circuit.specs.declared.design.Table.TheVariants.{Gate as GateTable, Udp as UdpTable}
use Rattle.design_circuit.specs.declared.design.Driver.{Driver}
use Rattle.design_circuit.specs.declared.design.Driver.TheVariants.{Input, Undriven, Constant, Copy, Cell, Register}
use Rattle.design_circuit.specs.Job.{Job, at, step_of, net_of, places_of}
use Rattle.design_circuit.specs.Order.{arguments_of_driver, net_pins}
use Rattle.design_circuit.specs.Fits.{Fits, StandsBefore, IsPlain}
use Rattle.design_circuit.specs.Register.{pins_at}
use Rattle.design_circuit.specs.Replay.{Held, blank, driven, replay, shown_at}
use Rattle.design_circuit.specs.Rule.{known_or, born, rule_of, rule, as_values}
use Rattle.design_circuit.specs.World.{decided, bit_at, world, world_bit}
use Rattle.design_circuit.proofs.Replays.{replay_prefix, replay_rule}
use Rattle.design_circuit.proofs.Rules.{some_width}
use Rattle.design_circuit.proofs.Worlds.{world_prefix, world_rule}

-- A value follows another if it is the same where that is known.
abbrev pub FollowsAt : Value → Value → Type 0
FollowsAt p w = IsKnown p → w ≡ p

-- Values that follow others, one by one.
abbrev pub Follow : List Value → List Value → Type 0
Follow [] [] = Unit {0}
Follow [] (w ∷ ws) = ⊥
Follow (p ∷ ps) [] = ⊥
Follow (p ∷ ps) (w ∷ ws) = FollowsAt p w × Follow ps ws

any_follows : (test : Value → Bool) (ps ws : List Value) → ((v : Value) → test v ≡ true → IsKnown v) → Follow ps ws → list_any test ps ≡ true → list_any test ws ≡ true
any_follows test [] ws known follow passes = cc
any_follows test (p ∷ ps) [] known follow passes = absurd follow
any_follows test (p ∷ ps) (w ∷ ws) known follow passes =
    let first : test p ≡ true → list_any test (w ∷ ws) ≡ true = λ (h : test p ≡ true). (let same : w ≡ p = follow.0 (known p h) in rw (same, h) refl) in
    let later : list_any test ps ≡ true → list_any test (w ∷ ws) ≡ true = λ (h : list_any test ps ≡ true). (let ih = any_follows test ps ws known follow.1 h in rw (ih, or-true (test w)) refl) in
    ⊎_elim first later (or_cases (test p) (list_any test ps) passes)

all_follows : (test : Value → Bool) (ps ws : List Value) → ((v : Value) → test v ≡ true → IsKnown v) → Follow ps ws → list_all test ps ≡ true → list_all test ws ≡ true
all_follows test [] [] known follow passes = refl
all_follows test [] (w ∷ ws) known follow passes = absurd follow
all_follows test (p ∷ ps) [] known follow passes = absurd follow
all_follows test (p ∷ ps) (w ∷ ws) known follow passes =
    let parts = and_parts (test p) (list_all test ps) passes in
    let same : w ≡ p = follow.0 (known p parts.0) in
    rw (same, parts.0) (all_follows test ps ws known follow.1 parts.1)

none_passes : (test other : Value → Bool) (ws : List Value) → ((v : Value) → test v ≡ true → other v ≡ false) → list_all test ws ≡ true → list_any other ws ≡ false
none_passes test other [] excludes passes = refl
none_passes test other (w ∷ ws) excludes passes =
    let parts = and_parts (test w) (list_all test ws) passes in
    rw (excludes w parts.0) (none_passes test other ws excludes parts.1)

-- an `any` of one value, else an `all` of the other
two_tests : (a b : Value) (any_p all_p any_w all_w : Bool) → (any_p ≡ true → any_w ≡ true) → (all_p ≡ true → all_w ≡ true) → (all_w ≡ true → any_w ≡ false) → FollowsAt (if any_p then a else if all_p then b else X) (if any_w then a else if all_w then b else X)
two_tests a b true all_p any_w all_w any all neither = λ known. rw (any refl) refl
two_tests a b false true any_w all_w any all neither = λ known. rw (neither (all refl), all refl) refl
two_tests a b false false any_w all_w any all neither = λ known. absurd known

zero_known : (v : Value) → is_zero v ≡ true → IsKnown v
zero_known Zero h = tt
zero_known One h = tt
zero_known X h = cc
zero_known Z h = cc

one_known : (v : Value) → is_one v ≡ true → IsKnown v
one_known Zero h = tt
one_known One h = tt
one_known X h = cc
one_known Z h = cc

one_not_zero : (v : Value) → is_one v ≡ true → is_zero v ≡ false
one_not_zero Zero h = cc
one_not_zero One h = refl
one_not_zero X h = refl
one_not_zero Z h = refl

zero_not_one : (v : Value) → is_zero v ≡ true → is_one v ≡ false
zero_not_one Zero h = refl
zero_not_one One h = cc
zero_not_one X h = refl
zero_not_one Z h = refl

and_follows : (ps ws : List Value) → Follow ps ws → FollowsAt (and_of ps) (and_of ws)
and_follows ps ws follow =
    two_tests Zero One (list_any is_zero ps) (list_all is_one ps) (list_any is_zero ws) (list_all is_one ws) (any_follows is_zero ps ws zero_known follow) (all_follows is_one ps ws one_known follow) (none_passes is_one is_zero ws one_not_zero)

or_follows : (ps ws : List Value) → Follow ps ws → FollowsAt (or_of ps) (or_of ws)
or_follows ps ws follow =
    two_tests One Zero (list_any is_one ps) (list_all is_zero ps) (list_any is_one ws) (list_all is_zero ws) (any_follows is_one ps ws one_known follow) (all_follows is_zero ps ws zero_known follow) (none_passes is_zero is_one ws zero_not_one)

all_known_same : (ps ws : List Value) → Follow ps ws → list_any is_unknown ps ≡ false → ws ≡ ps
all_known_same [] [] follow known = refl
all_known_same [] (w ∷ ws) follow known = absurd follow
all_known_same (p ∷ ps) [] follow known = absurd follow
all_known_same (Zero ∷ ps) (w ∷ ws) follow known = rw (follow.0 tt, all_known_same ps ws follow.1 known) refl
all_known_same (One ∷ ps) (w ∷ ws) follow known = rw (follow.0 tt, all_known_same ps ws follow.1 known) refl
all_known_same (X ∷ ps) (w ∷ ws) follow known = cc
all_known_same (Z ∷ ps) (w ∷ ws) follow known = cc

xor_follows : (ps ws : List Value) → Follow ps ws → FollowsAt (xor_of ps) (xor_of ws)
xor_follows ps ws follow = λ known. ap xor_of (all_known_same ps ws follow (none (list_any is_unknown ps) _ known))
  where
    none : (b : Bool) (other : Value) → IsKnown (if b then X else other) → b ≡ false
    none true other known = absurd known
    none false other known = refl

buf_follows : (ps ws : List Value) → Follow ps ws → FollowsAt (buf_of ps) (buf_of ws)
buf_follows [] ws follow = λ known. absurd known
buf_follows (p ∷ ps) [] follow = absurd follow
buf_follows (Zero ∷ ps) (w ∷ ws) follow = λ known. ap read (follow.0 tt)
buf_follows (One ∷ ps) (w ∷ ws) follow = λ known. ap read (follow.0 tt)
buf_follows (X ∷ ps) (w ∷ ws) follow = λ known. absurd known
buf_follows (Z ∷ ps) (w ∷ ws) follow = λ known. absurd known

complement_follows : (p w : Value) → FollowsAt p w → FollowsAt (complement_of p) (complement_of w)
complement_follows Zero w follows = λ known. ap complement_of (follows tt)
complement_follows One w follows = λ known. ap complement_of (follows tt)
complement_follows X w follows = λ known. absurd known
complement_follows Z w follows = λ known. absurd known

-- What a gate gives on some unknown pins, it gives whatever these pins become.
pub gate_follows : (gate : Gate) (ps ws : List Value) → Follow ps ws → IsKnown (gate_of gate ps) → gate_of gate ws ≡ gate_of gate ps
gate_follows And ps ws follow = and_follows ps ws follow
gate_follows Nand ps ws follow = complement_follows (and_of ps) (and_of ws) (and_follows ps ws follow)
gate_follows Or ps ws follow = or_follows ps ws follow
gate_follows Nor ps ws follow = complement_follows (or_of ps) (or_of ws) (or_follows ps ws follow)
gate_follows Xor ps ws follow = xor_follows ps ws follow
gate_follows Xnor ps ws follow = complement_follows (xor_of ps) (xor_of ws) (xor_follows ps ws follow)
gate_follows Buf ps ws follow = buf_follows ps ws follow
gate_follows Not ps ws follow = complement_follows (buf_of ps) (buf_of ws) (buf_follows ps ws follow)

pins_follow : (j : Job) (earlier : ℕ → Held) (b : ℕ → Bool) (n step p : ℕ) (pins : List Pin) → AllByRecursion (StandsBefore j p) (net_pins pins) → step * j.width + p ≡ n → ((k : ℕ) → k < n → FollowsAt (earlier k).shown (bit_value (b k))) → Follow (pins_at j (λ place. (earlier place).shown) step pins) (pins_at j (as_values b) step pins)
pins_follow j earlier b n step p [] before is follows = tt
pins_follow j earlier b n step p (Net net ∷ pins) before is follows =
    let earlier_place : at j step net < n = omega (arith, before.0.before) in
    (follows (at j step net) earlier_place, pins_follow j earlier b n step p pins before.1 is follows)
pins_follow j earlier b n step p (Bit bit ∷ pins) before is follows = (λ known. refl, pins_follow j earlier b n step p pins before is follows)
pins_follow j earlier b n step p (Dead ∷ pins) before is follows = (λ known. absurd known, pins_follow j earlier b n step p pins before is follows)

known_or_follows : (v other : Value) → FollowsAt v (known_or v other)
known_or_follows Zero other = λ known. refl
known_or_follows One other = λ known. refl
known_or_follows X other = λ known. absurd known
known_or_follows Z other = λ known. absurd known

-- What a driver gives in the replay, its rule gives on bits that follow the replay.
pub driver_follows : (j : Job) (c : ℕ → Value) (earlier : ℕ → Held) (b : ℕ → Bool) (n step p net : ℕ) (driver : Driver) → IsPlain driver → AllByRecursion (StandsBefore j p) (arguments_of_driver driver) → step * j.width + p ≡ n → ((k : ℕ) → k < n → FollowsAt (earlier k).shown (bit_value (b k))) → FollowsAt (driven j earlier step net driver) (rule_of j c b step net driver)
driver_follows j c earlier b n step p net Input plain before is follows = known_or_follows (j.recorded (step / j.rounds) net) (born j b step net)
driver_follows j c earlier b n step p net Undriven plain before is follows = λ known. absurd known
driver_follows j c earlier b n step p net (Constant bit) plain before is follows = λ known. refl
driver_follows j c earlier b n step p net (Copy argument) plain before is follows =
    let earlier_place : at j step argument < n = omega (arith, before.0.before) in
    follows (at j step argument) earlier_place
driver_follows j c earlier b n step p net (Cell (GateTable gate) pins) plain before is follows =
    gate_follows gate (pins_at j (λ place. (earlier place).shown) step pins) (pins_at j (as_values b) step pins) (pins_follow j earlier b n step p pins before is follows)
driver_follows j c earlier b n step p net (Cell (UdpTable number) pins) plain before is follows = absurd plain
driver_follows j c earlier b n step p net (Register latching) plain before is follows = absurd plain

decided_follows : (v w : Value) (bit : Bool) → w ≡ v → FollowsAt v (bit_value (decided w bit))
decided_follows Zero w bit same = λ known. rw same refl
decided_follows One w bit same = λ known. rw same refl
decided_follows X w bit same = λ known. absurd known
decided_follows Z w bit same = λ known. absurd known

place_follows : (j : Job) (c : ℕ → Value) (f : ℕ → Bool) (place : ℕ) → Fits j → ((net : ℕ) → IsPlain (j.driver net)) → place < places_of j → ((k : ℕ) → k < place → FollowsAt (shown_at j k) (bit_value (world_bit j c f k))) → FollowsAt (shown_at j place) (bit_value (world_bit j c f place))
unfolding rule
place_follows j c f place fits plain within earlier_follow = λ known.
    let some : 0 < j.width = some_width j.width (j.moments * j.rounds) place within in
    let earlier : ℕ → Held = λ k. slice_index_or (replay j place) k blank in
    let bits : ℕ → Bool = bit_at (world j c f place) in
    let follows : (k : ℕ) → k < place → FollowsAt (earlier k).shown (bit_value (bits k)) = λ k less. rw (replay_prefix j place k less, world_prefix j c f place k less) (earlier_follow k less) in
    let driver = j.driver (net_of j place) in
    let known_driven : IsKnown (driven j earlier (step_of j place) (net_of j place) driver) = subst IsKnown (replay_rule j place) known in
    let same : rule j c bits place ≡ driven j earlier (step_of j place) (net_of j place) driver = driver_follows j c earlier bits place (step_of j place) (place % j.width) (net_of j place) driver (plain (net_of j place)) (fits.arguments (place % j.width) (mod-lt place some)) (omega arith) follows known_driven in
    ap bit_value (world_rule j c f place) ∙ decided_follows (driven j earlier (step_of j place) (net_of j place) driver) (rule j c bits place) (f place) same known_driven ∙ sym (replay_rule j place)

below_follows : (j : Job) (c : ℕ → Value) (f : ℕ → Bool) (n place : ℕ) → Fits j → ((net : ℕ) → IsPlain (j.driver net)) → place < n → place < places_of j → FollowsAt (shown_at j place) (bit_value (world_bit j c f place))
below_follows j c f zero place fits plain less within = absurd (omega arith)
below_follows j c f (suc n) place fits plain less within = place_follows j c f place fits plain within (λ k earlier. below_follows j c f n k fits plain (omega arith) (omega arith))

-- What the replay knows holds in the world of every filling.
pub world_follows : (j : Job) (c : ℕ → Value) (f : ℕ → Bool) (place : ℕ) → Fits j → ((net : ℕ) → IsPlain (j.driver net)) → place < places_of j → IsKnown (shown_at j place) → bit_value (world_bit j c f place) ≡ shown_at j place
world_follows j c f place fits plain within = below_follows j c f (place + 1) place fits plain (omega arith) within
