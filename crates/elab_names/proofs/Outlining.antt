-- Wherever a module is opened, its declarations come to its outline.
use Rattle.std.proofs.Common.{◌≡◌, ◌≢◌, IsErrAnd, ℕ, ◌+◌, ◌≤◌, ◌^◌, Bool, true, false, not, ◌&&◌, ◌||◌, nat_le, Option, Some, None, List, [], ◌∷◌, ◌++◌, length, length-append, add-one, zero, suc, bytes_eq, Bor, refl, sym, ◌∙◌, ap, subst, arith, Ok, Err, if◌then◌else◌}
use Rattle.std.specs.Map.{lookup}
use Rattle.std.proofs.lemmas.Bool.{le-leb, leb-true}
use Rattle.std.proofs.lemmas.List.{append-nil}
use Rattle.design_circuit.specs.declared.name.NamePart.{NamePart}
use Rattle.netlist_grammar.specs.Trees.{Range}
use Rattle.netlist_grammar.specs.declared.tree.Word.{Word}
use Rattle.netlist_grammar.specs.declared.tree.NetKind.{NetKind}
use Rattle.netlist_grammar.specs.declared.tree.NetKind.TheVariants.{Input, Output, Wire, Supply0, Supply1, Reg}
use Rattle.netlist_grammar.specs.declared.tree.Declare.{Declare}
use Rattle.netlist_grammar.specs.declared.tree.Item.{Item}
use Rattle.netlist_grammar.specs.declared.tree.Module.{Module}
use Rattle.netlist_grammar.specs.declared.tree.Item.TheVariants as item
use Rattle.elab_nets.specs.declared.fault.ElabErr.{ElabErr}
use Rattle.elab_nets.specs.declared.fault.ElabErr.TheVariants.{PortMismatch, Memory}
use Rattle.elab_nets.specs.Outcome.{Outcome, after, Gives}
use Rattle.elab_nets.specs.Ranges.{upto}
use Rattle.elab_nets.specs.State.{State, made, net_count, with_nets}
use Rattle.elab_names.specs.declared.scope.Entry.{Entry}
use Rattle.elab_names.specs.NameMap.{entry_from, entry_after, names_from, HaveNets}
use Rattle.elab_names.specs.Sets.{has, is_among}
use Rattle.elab_names.specs.Scope.{scope_of}
use Rattle.elab_names.specs.Here.{Here, here_of, entry}
use Rattle.elab_names.specs.Names.{is_directed, repeats, declared_again, declared, all_declared, has_direction, ports_checked, opened}
use Rattle.elab_names.specs.Outline.{Outline, no_outline, declares_in, is_reg, with_declared, noted_again, noted, and_then, all_noted, Counts, all_made, outlined, made_from, AreOutlined, is_left, left_of, items_in}
use Rattle.elab_names.proofs.Naming.{each_more, found_from}

-- ---- references

pub declares_push : (ds : List (Bor Declare)) (d : Bor Declare) → declares_in (ds ++ d ∷ []) ≡ declares_in ds ++ d.now ∷ []
declares_push [] d = refl
declares_push (x ∷ ds) d = ap (λ (l : List Declare). x.now ∷ l) (declares_push ds d)

pub items_push : (is : List (Bor Item)) (i : Bor Item) → items_in (is ++ i ∷ []) ≡ items_in is ++ i.now ∷ []
items_push [] i = refl
items_push (x ∷ is) i = ap (λ (l : List Item). x.now ∷ l) (items_push is i)

left_by : (b : Bool) (i : Item) (is js : List Item) → (if b then i ∷ (is ++ js) else is ++ js) ≡ (if b then i ∷ is else is) ++ js
left_by true i is js = refl
left_by false i is js = refl

pub left_append : (is js : List Item) → left_of (is ++ js) ≡ left_of is ++ left_of js
left_append [] js = refl
left_append (i ∷ is) js = ap (λ (l : List Item). if is_left i then i ∷ l else l) (left_append is js) ∙ left_by (is_left i) i (left_of is) (left_of js)

-- ---- names with their nets behind so many

from_more : (base : ℕ) (ns : List (List ℕ × Entry)) (name : List ℕ) (e : Entry) → names_from base (ns ++ (name, e) ∷ []) ≡ names_from base ns ++ (name, entry_from base e) ∷ []
from_more base [] name e = refl
from_more base (n ∷ ns) name e = ap (λ (l : List (List ℕ × Entry)). (n.0, entry_from base n.1) ∷ l) (from_more base ns name e)

direction_by : (base : ℕ) (k : Option Entry) → has_direction (entry_after base k) ≡ has_direction k
direction_by base (Some e) = refl
direction_by base None = refl

direction_from : (base : ℕ) (name : List ℕ) (ns : List (List ℕ × Entry)) → has_direction (lookup (bytes_eq name) (names_from base ns)) ≡ has_direction (lookup (bytes_eq name) ns)
direction_from base name ns = ap has_direction (found_from base name ns) ∙ direction_by base (lookup (bytes_eq name) ns)

few_by : (base count : ℕ) (k : Option Entry) (e : Entry) → ((f : Entry) → k ≡ Some f → f.base + net_count f.what f.range ≤ count) → base + count ≤ 2 ^ 20 → entry_after base k ≡ Some e → e.base + net_count e.what e.range ≤ 2 ^ 20
few_by base count (Some f) e within few is =
    let same : entry_from base f ≡ e = cc in
    subst (λ (x : Entry). x.base + net_count x.what x.range ≤ 2 ^ 20) same (let less = within f refl in omega (arith, less, few))
few_by base count None e within few is = absurd cc

-- The nets of each name are below 2^20, behind so many.
pub few_from : (base : ℕ) (names : List (List ℕ × Entry)) (count : ℕ) → Counts names count → base + count ≤ 2 ^ 20 → HaveNets (names_from base names)
few_from base names count counts few = λ name e found. few_by base count (lookup (bytes_eq name) names) e (λ f is. counts.within name f is) few (sym (found_from base name names) ∙ found)

-- ---- what an outline says

if_some : (b : Bool) (r : Option Outline) (u : Outline) → ◌≡◌ {A = Option Outline} (if b then None else r) (Some u) → (b ≡ false) × (r ≡ Some u)
if_some true r u is = absurd cc
if_some false r u is = (refl, is)

some_if : (b : Bool) (o u : Outline) → ◌≡◌ {A = Option Outline} (if b then Some o else None) (Some u) → (b ≡ true) × (o ≡ u)
some_if true o u is = (refl, cc)
some_if false o u is = absurd cc

then_some : (r : Option Outline) (k : Outline → Option Outline) (v : Outline) → and_then r k ≡ Some v → (u : Outline) × (r ≡ Some u) × (k u ≡ Some v)
then_some (Some u) k v is = (u, refl, is)
then_some None k v is = absurd cc

-- Nets are counted, and there are no fewer.
pub record CountsMore (o u : Outline) : Type 0 where
  pub counts : Counts u.names u.count
  pub more : o.count ≤ u.count

again_counts : (k : Option Entry) (d : Declare) (o u : Outline) → noted_again k d o ≡ Some u → Counts o.names o.count → CountsMore o u
again_counts (Some e) d o u is counts =
    let kept = some_if (repeats e d) o u is in subst (CountsMore o) kept.1 (record { counts = counts; more = omega arith })
again_counts None d o u is counts =
    let kept = some_if (nat_le (o.count + net_count d.what d.range) (2 ^ 20)) (with_declared d o) u is in
    subst (CountsMore o) kept.1 (record { counts = record { few = leb-true _ _ kept.0; within = within }; more = omega arith })
  where
    within : (q : List ℕ) (e : Entry) → lookup (bytes_eq q) (o.names ++ (d.name.text, entry d.what d.range o.count) ∷ []) ≡ Some e → e.base + net_count e.what e.range ≤ o.count + net_count d.what d.range
    within q e found =
        each_more (λ (f : Entry). f.base + net_count f.what f.range ≤ o.count + net_count d.what d.range) o.names d.name.text (entry d.what d.range o.count) q e
        (λ f known. let less = counts.within q f known in omega (arith, less)) (omega arith) found

noted_counts : (ports : List Word) (d : Declare) (o u : Outline) → noted ports d o ≡ Some u → Counts o.names o.count → CountsMore o u
noted_counts ports d o u is counts = again_counts (lookup (bytes_eq d.name.text) o.names) d o u (if_some _ _ u is).1 counts

all_counts : (ports : List Word) (is : List Item) (o v : Outline) → all_noted ports is o ≡ Some v → Counts o.names o.count → CountsMore o v
all_counts ports [] o v is counts = let same : o ≡ v = cc in subst (CountsMore o) same (record { counts = counts; more = omega arith })
all_counts ports (item.Declare d ∷ is) o v all counts =
    let t = then_some (noted ports d o) (all_noted ports is) v all in
    let one = noted_counts ports d o t.0 t.1 counts in
    let rest = all_counts ports is t.0 v t.2 one.counts in
    record { counts = rest.counts; more = omega (arith, one.more, rest.more) }
all_counts ports (item.Gate _ ∷ is) o v all counts = all_counts ports is o v all counts
all_counts ports (item.Instance _ ∷ is) o v all counts = all_counts ports is o v all counts
all_counts ports (item.Assign _ _ ∷ is) o v all counts = all_counts ports is o v all counts

none_counts : Counts [] 0
none_counts = record { few = omega arith; within = λ q e found. absurd cc }

pub counted : (ports : List Word) (is : List Item) (v : Outline) → all_noted ports is no_outline ≡ Some v → Counts v.names v.count
counted ports is v all = (all_counts ports is no_outline v all none_counts).counts

-- ---- nets

length_upto : {A : Type 0} (f : ℕ → A) (n : ℕ) → length (upto f n) ≡ n
length_upto f zero = refl
length_upto f (suc n) = length-append (upto f n) (f n ∷ []) ∙ ap (λ (m : ℕ). m + 1) (length_upto f n) ∙ add-one n

long_with : (prefix : List NamePart) (what : NetKind) (range : Range) (w : Word) (s : State) → length (with_nets prefix what range w s).names ≡ length s.names + net_count what range
long_with prefix what range w s = length-append s.names _ ∙ ap (λ (m : ℕ). length s.names + m) (length_upto _ (net_count what range))

made_is : (prefix : List NamePart) (what : NetKind) (range : Range) (w : Word) (s : State) → length s.names + net_count what range ≤ 2 ^ 20
    → made prefix what range w s ≡ Ok (length s.names, with_nets prefix what range w s)
unfolding made
made_is prefix what range w s few = rw (le-leb (length s.names + net_count what range) (2 ^ 20) few) refl

made_more : (prefix : List NamePart) (ms : List Declare) (d : Declare) (s0 s : State) → all_made prefix ms s0 ≡ Ok s → all_made prefix (ms ++ d ∷ []) s0 ≡ after (made prefix d.what d.range d.name s) (λ m. Ok m.1)
made_more prefix [] d s0 s is =
    let same : s0 ≡ s = cc in subst (λ (t : State). all_made prefix (d ∷ []) s0 ≡ after (made prefix d.what d.range d.name t) (λ m. Ok m.1)) same refl
made_more prefix (m ∷ ms) d s0 s is = by (made prefix m.what m.range m.name s0) (λ t h. made_more prefix ms d t s h) is
  where
    by : (r : Outcome (ℕ × State)) → ((t : State) → all_made prefix ms t ≡ Ok s → all_made prefix (ms ++ d ∷ []) t ≡ after (made prefix d.what d.range d.name s) (λ m. Ok m.1))
        → after r (λ t. all_made prefix ms t.1) ≡ Ok s → after r (λ t. all_made prefix (ms ++ d ∷ []) t.1) ≡ after (made prefix d.what d.range d.name s) (λ m. Ok m.1)
    by (Ok t) rest is = rest t.1 is
    by (Err e) rest is = absurd cc

-- A `reg` makes no net.
reg_same : (what : NetKind) → is_reg what ≡ true → (prefix : List NamePart) (range : Range) (w : Word) (s : State) → s ≡ with_nets prefix what range w s
reg_same Reg is prefix range w s = rw (append-nil s.names, append-nil s.drivers) refl
reg_same Input is prefix range w s = absurd cc
reg_same Output is prefix range w s = absurd cc
reg_same Wire is prefix range w s = absurd cc
reg_same Supply0 is prefix range w s = absurd cc
reg_same Supply1 is prefix range w s = absurd cc

maker_made : (b : Bool) (prefix : List NamePart) (ms : List Declare) (d : Declare) (s0 s : State) → is_reg d.what ≡ b → all_made prefix ms s0 ≡ Ok s → length s.names + net_count d.what d.range ≤ 2 ^ 20
    → all_made prefix (if b then ms else ms ++ d ∷ []) s0 ≡ Ok (with_nets prefix d.what d.range d.name s)
maker_made true prefix ms d s0 s is nets few = nets ∙ ap (λ (t : State). Ok t) (reg_same d.what is prefix d.range d.name s)
maker_made false prefix ms d s0 s is nets few = made_more prefix ms d s0 s nets ∙ ap (λ (r : Outcome (ℕ × State)). after r (λ m. Ok m.1)) (made_is prefix d.what d.range d.name s few)

-- ---- a module that is opened

-- The outline's nets are made behind the first state, and this is where elaboration stands.
pub record Declares (prefix : List NamePart) (base : ℕ) (s0 : State) (u : Outline) (r : Outcome Here) : Type 0 where
  pub state : State
  pub nets : all_made prefix u.makers s0 ≡ Ok state
  pub long : length state.names ≡ base + u.count
  pub is : r ≡ Ok (outlined prefix base u state)

module _ (prefix : List NamePart) (base : ℕ) (s0 : State) where
  new_declares : (d : Declare) (o : Outline) (s : State) → base + (o.count + net_count d.what d.range) ≤ 2 ^ 20 → all_made prefix o.makers s0 ≡ Ok s → length s.names ≡ base + o.count
      → Declares prefix base s0 (with_declared d o) (declared_again None d (outlined prefix base o s))
  new_declares d o s few nets long =
      let room : length s.names + net_count d.what d.range ≤ 2 ^ 20 = omega (arith, few, long) in
      record {
        state = with_nets prefix d.what d.range d.name s;
        nets = maker_made (is_reg d.what) prefix o.makers d s0 s refl nets room;
        long = (let more = long_with prefix d.what d.range d.name s in omega (arith, more, long));
        is = rw (made_is prefix d.what d.range d.name s room, from_more base o.names d.name.text (entry d.what d.range o.count), long) refl;
      }

  again_declares : (k : Option Entry) (d : Declare) (o u : Outline) (s : State) → noted_again k d o ≡ Some u → base + u.count ≤ 2 ^ 20 → all_made prefix o.makers s0 ≡ Ok s → length s.names ≡ base + o.count
      → Declares prefix base s0 u (declared_again (entry_after base k) d (outlined prefix base o s))
  again_declares (Some e) d o u s is few nets long =
      let kept = some_if (repeats e d) o u is in
      subst (λ (x : Outline). Declares prefix base s0 x (declared_again (Some (entry_from base e)) d (outlined prefix base o s))) kept.1
      (record { state = s; nets = nets; long = long; is = rw kept.0 refl })
  again_declares None d o u s is few nets long =
      let kept = some_if (nat_le (o.count + net_count d.what d.range) (2 ^ 20)) (with_declared d o) u is in
      subst (λ (x : Outline). Declares prefix base s0 x (declared_again None d (outlined prefix base o s))) kept.1
      (new_declares d o s (subst (λ (x : Outline). base + x.count ≤ 2 ^ 20) (sym kept.1) few) nets long)

  one_declares : (ports : List Word) (d : Declare) (o u : Outline) (s : State) → noted ports d o ≡ Some u → base + u.count ≤ 2 ^ 20 → all_made prefix o.makers s0 ≡ Ok s → length s.names ≡ base + o.count
      → Declares prefix base s0 u (declared ports d (outlined prefix base o s))
  one_declares ports d o u s is few nets long =
      let parts = if_some (is_directed d.what && not (is_among ports d.name.text)) _ u is in
      let here : Here = outlined prefix base o s in
      let same : declared ports d here ≡ declared_again (entry_after base (lookup (bytes_eq d.name.text) o.names)) d here =
      rw parts.0 (ap (λ (k : Option Entry). declared_again k d here) (found_from base d.name.text o.names))
      in
      subst (Declares prefix base s0 u) (sym same) (again_declares (lookup (bytes_eq d.name.text) o.names) d o u s parts.1 few nets long)

  all_declares : (ports : List Word) (is : List Item) (o v : Outline) (s : State) → all_noted ports is o ≡ Some v → Counts o.names o.count → base + v.count ≤ 2 ^ 20 → all_made prefix o.makers s0 ≡ Ok s → length s.names ≡ base + o.count
      → Declares prefix base s0 v (all_declared ports is (outlined prefix base o s))
  all_declares ports [] o v s is counts few nets long =
      let same : o ≡ v = cc in
      subst (λ (x : Outline). Declares prefix base s0 x (Ok (outlined prefix base o s))) same (record { state = s; nets = nets; long = long; is = refl })
  all_declares ports (item.Declare d ∷ is) o v s all counts few nets long =
      let t = then_some (noted ports d o) (all_noted ports is) v all in
      let c = noted_counts ports d o t.0 t.1 counts in
      let more = all_counts ports is t.0 v t.2 c.counts in
      let one = one_declares ports d o t.0 s t.1 (omega (arith, few, more.more)) nets long in
      let rest = all_declares ports is t.0 v one.state t.2 c.counts few one.nets one.long in
      record { state = rest.state; nets = rest.nets; long = rest.long; is = rw one.is rest.is }
  all_declares ports (item.Gate _ ∷ is) o v s all counts few nets long = all_declares ports is o v s all counts few nets long
  all_declares ports (item.Instance _ ∷ is) o v s all counts few nets long = all_declares ports is o v s all counts few nets long
  all_declares ports (item.Assign _ _ ∷ is) o v s all counts few nets long = all_declares ports is o v s all counts few nets long

ports_from : (prefix : List NamePart) (base : ℕ) (ns : List (List ℕ × Entry)) (seen : List (List ℕ)) (ports : List Word) → ports_checked (scope_of [] ns []) seen ports ≡ Ok (scope_of [] ns [])
    → ports_checked (scope_of prefix (names_from base ns) []) seen ports ≡ Ok (scope_of prefix (names_from base ns) [])
ports_from prefix base ns seen [] is = refl
ports_from prefix base ns seen (p ∷ ps) is =
    rw (direction_from base p.text ns) (by (has seen p.text || not (has_direction (lookup (bytes_eq p.text) ns))) (ports_from prefix base ns (seen ++ p.text ∷ []) ps) is)
  where
    by : (b : Bool) → (ports_checked (scope_of [] ns []) (seen ++ p.text ∷ []) ps ≡ Ok (scope_of [] ns []) → ports_checked (scope_of prefix (names_from base ns) []) (seen ++ p.text ∷ []) ps ≡ Ok (scope_of prefix (names_from base ns) []))
        → after (if b then Err (PortMismatch p.at) else Ok (seen ++ p.text ∷ [])) (λ more. ports_checked (scope_of [] ns []) more ps) ≡ Ok (scope_of [] ns [])
        → after (if b then Err (PortMismatch p.at) else Ok (seen ++ p.text ∷ [])) (λ more. ports_checked (scope_of prefix (names_from base ns) []) more ps) ≡ Ok (scope_of prefix (names_from base ns) [])
    by true rest is = absurd cc
    by false rest is = rest is

-- A module whose declarations and ports are in order opens as its outline says, where there is room for its nets.
pub opens : (ports : List Word) (items : List Item) (o : Outline) (prefix : List NamePart) (s : State) → all_noted ports items no_outline ≡ Some o
    → ports_checked (scope_of [] o.names []) [] ports ≡ Ok (scope_of [] o.names []) → length s.names + o.count ≤ 2 ^ 20
    → opened ports items (here_of (scope_of prefix [] []) s) ≡ made_from prefix o s
opens ports items o prefix s all right few =
    let d = all_declares prefix (length s.names) s ports items no_outline o s all none_counts few refl (omega arith) in
    rw (d.is, ports_from prefix (length s.names) o.names [] ports right, d.nets) refl

-- So it is with a module that is held with its outline.
pub opens_unit : (ports : List Word) (unit m : Module) (k : Option Outline) (o : Outline) (prefix : List NamePart) (s : State) → ports ≡ unit.ports → AreOutlined ports unit.items k → k ≡ Some o → unit ≡ m
    → length s.names + o.count ≤ 2 ^ 20 → opened m.ports m.items (here_of (scope_of prefix [] []) s) ≡ made_from prefix o s
opens_unit ports unit m k o prefix s same right is held few =
    let both = subst (AreOutlined ports unit.items) is right in
    subst (λ (u : Module). opened u.ports u.items (here_of (scope_of prefix [] []) s) ≡ made_from prefix o s) held
    (subst (λ (ps : List Word). opened ps unit.items (here_of (scope_of prefix [] []) s) ≡ made_from prefix o s) same
    (opens ports unit.items o prefix s both.0 both.1 few))

-- A refusal that is handed on.
pub refused_by : {A B : Type 0} (wanted : Outcome B) (result : Outcome A) (seen : A → B) (e : ElabErr) → IsErrAnd result (λ f. f ≡ e) → (e ≢ Memory → wanted ≡ Err e) → Gives wanted result seen
refused_by wanted (Ok x) seen e is told = absurd is
refused_by wanted (Err f) seen e is told = subst (λ (g : ElabErr). g ≢ Memory → wanted ≡ Err g) (sym is) told
