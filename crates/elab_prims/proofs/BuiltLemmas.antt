-- The primitives are built, or one is refused.
use Rattle.std.proofs.Common.{◌≡◌, ◌≢◌, ℕ, ◌+◌, ◌<◌, true, false, List, [], ◌∷◌, ◌++◌, length, take, drop, get_or, zero, suc, slice_get, Some, Result, Ok, Err, IfOk, IfErr, refl, sym, ap, subst, ◌∙◌, add-one, inl, inr}
use Rattle.std.proofs.lemmas.List.{take_more, take-append-drop}
use Rattle.std.proofs.Math.Seq.{drop-cons}
use Rattle.std.specs.Result.{IsErrAnd}
use Rattle.design_cell.specs.declared.refusal.UdpErr.{UdpErr}
use Rattle.design_cell.specs.declared.value.Value.{Value}
use Rattle.design_cell.specs.declared.value.Value.TheVariants.{Zero, One, X, Z}
use Rattle.design_cell.specs.Table.{Table}
use Rattle.netlist_grammar.specs.declared.tree.PrimKind.{PrimKind}
use Rattle.netlist_grammar.specs.declared.tree.PrimKind.TheVariants.{Output, Input, Reg, Initial}
use Rattle.netlist_grammar.specs.declared.tree.PrimDeclare.{PrimDeclare}
use Rattle.netlist_grammar.specs.declared.tree.Primitive.{Primitive}
use Rattle.netlist_grammar.specs.Trees.{is_sequential}
use Rattle.elab_nets.specs.declared.fault.ElabErr.{ElabErr}
use Rattle.elab_nets.specs.declared.fault.ElabErr.TheVariants.{NoModule, TwoModules, SelfInstance, TooDeep, PortMismatch, Width, BadName, TwoDrivers, TooManyNets, TooManyLive, Udp, Memory}
use Rattle.elab_nets.specs.Outcome.{Outcome}
use Rattle.elab_prims.specs.Ports.{matches_ports}
use Rattle.elab_prims.specs.Built.{inputs_of, table_in, IsRefused, IsBuilt, AreBuilt, IsAnswer, AreTables, start_or, start_in}
use Rattle.elab_prims.proofs.FaultLemmas.{legal_or_refused, fault_once}

-- ---- one outcome

built_or_refused : (p : Primitive) (table : Table) (e : ElabErr) → IsBuilt p (Ok table) → IsRefused p e → ⊥
built_or_refused p table (PortMismatch at) b r = absurd (let e : matches_ports p ≡ true = b.1 in let f : matches_ports p ≡ false = r.1 in cc)
built_or_refused p table (Udp at fault) b r = legal_or_refused (is_sequential p.declarations) (inputs_of p) p.rows fault r.2 b.2 r.3
built_or_refused p table (NoModule name) b r = r
built_or_refused p table (TwoModules name) b r = r
built_or_refused p table (SelfInstance name) b r = r
built_or_refused p table (TooDeep name) b r = r
built_or_refused p table (Width at) b r = r
built_or_refused p table (BadName at) b r = r
built_or_refused p table (TwoDrivers net at) b r = r
built_or_refused p table (TooManyNets at) b r = r
built_or_refused p table (TooManyLive at) b r = r
built_or_refused p table Memory b r = r

udp_once : (p : Primitive) (at : ℕ) (fault : UdpErr) (e : ElabErr) → IsRefused p (Udp at fault) → IsRefused p e → Udp at fault ≡ e
udp_once p at fault (PortMismatch other) r s = absurd (let e : matches_ports p ≡ true = r.1 in let f : matches_ports p ≡ false = s.1 in cc)
udp_once p at fault (Udp other found) r s =
    let same = fault_once (is_sequential p.declarations) (inputs_of p) p.rows fault found r.2 s.2 r.3 s.3 in
    λ i. Udp ((r.0 ∙ sym s.0) i) (same i)
udp_once p at fault (NoModule name) r s = absurd s
udp_once p at fault (TwoModules name) r s = absurd s
udp_once p at fault (SelfInstance name) r s = absurd s
udp_once p at fault (TooDeep name) r s = absurd s
udp_once p at fault (Width other) r s = absurd s
udp_once p at fault (BadName other) r s = absurd s
udp_once p at fault (TwoDrivers net other) r s = absurd s
udp_once p at fault (TooManyNets other) r s = absurd s
udp_once p at fault (TooManyLive other) r s = absurd s
udp_once p at fault Memory r s = absurd s

mismatch_once : (p : Primitive) (at : ℕ) (e : ElabErr) → IsRefused p (PortMismatch at) → IsRefused p e → PortMismatch at ≡ e
mismatch_once p at (PortMismatch other) r s = ap PortMismatch (r.0 ∙ sym s.0)
mismatch_once p at (Udp other found) r s = absurd (let e : matches_ports p ≡ false = r.1 in let f : matches_ports p ≡ true = s.1 in cc)
mismatch_once p at (NoModule name) r s = absurd s
mismatch_once p at (TwoModules name) r s = absurd s
mismatch_once p at (SelfInstance name) r s = absurd s
mismatch_once p at (TooDeep name) r s = absurd s
mismatch_once p at (Width other) r s = absurd s
mismatch_once p at (BadName other) r s = absurd s
mismatch_once p at (TwoDrivers net other) r s = absurd s
mismatch_once p at (TooManyNets other) r s = absurd s
mismatch_once p at (TooManyLive other) r s = absurd s
mismatch_once p at Memory r s = absurd s

refused_once : (p : Primitive) (e f : ElabErr) → IsRefused p e → IsRefused p f → e ≡ f
refused_once p (PortMismatch at) f r s = mismatch_once p at f r s
refused_once p (Udp at fault) f r s = udp_once p at fault f r s
refused_once p (NoModule name) f r s = absurd r
refused_once p (TwoModules name) f r s = absurd r
refused_once p (SelfInstance name) f r s = absurd r
refused_once p (TooDeep name) f r s = absurd r
refused_once p (Width at) f r s = absurd r
refused_once p (BadName at) f r s = absurd r
refused_once p (TwoDrivers net at) f r s = absurd r
refused_once p (TooManyNets at) f r s = absurd r
refused_once p (TooManyLive at) f r s = absurd r
refused_once p Memory f r s = absurd r

one_table : (table other : Table) (tables others : List Table) → table ≡ other → ◌≡◌ {A = Outcome (List Table)} (Ok tables) (Ok others) → ◌≡◌ {A = Outcome (List Table)} (Ok (table ∷ tables)) (Ok (other ∷ others))
one_table table other tables others same rest = cc

ok_or_err : {A : Type 0} (x : A) (e : ElabErr) → ◌≡◌ {A = Outcome A} (Ok x) (Err e) → ⊥
ok_or_err x e h = absurd cc

-- Primitives have one outcome.
pub one_outcome : (ps : List Primitive) (a b : Outcome (List Table)) → AreBuilt ps a → AreBuilt ps b → a ≡ b
one_outcome [] (Ok []) (Ok []) x y = refl
one_outcome [] (Ok (t ∷ ts)) b x y = absurd x
one_outcome [] (Err e) b x y = absurd x
one_outcome [] (Ok []) (Ok (t ∷ ts)) x y = absurd y
one_outcome [] (Ok []) (Err e) x y = absurd y
one_outcome (p ∷ ps) (Ok []) b x y = absurd x
one_outcome (p ∷ ps) (Ok (t ∷ ts)) (Ok []) x y = absurd y
one_outcome (p ∷ ps) (Ok (t ∷ ts)) (Ok (u ∷ us)) x y = one_table t u ts us (x.0.0 ∙ sym y.0.0) (one_outcome ps (Ok ts) (Ok us) x.1 y.1)
one_outcome (p ∷ ps) (Ok (t ∷ ts)) (Err e) (x, rest) (inl r) = absurd (built_or_refused p t e x r)
one_outcome (p ∷ ps) (Ok (t ∷ ts)) (Err e) (x, rest) (inr (b, later)) = absurd (ok_or_err ts e (one_outcome ps (Ok ts) (Err e) rest later))
one_outcome (p ∷ ps) (Err e) (Ok []) x y = absurd y
one_outcome (p ∷ ps) (Err e) (Ok (u ∷ us)) (inl r) (y, rest) = absurd (built_or_refused p u e y r)
one_outcome (p ∷ ps) (Err e) (Ok (u ∷ us)) (inr (b, later)) (y, rest) = absurd (ok_or_err us e (one_outcome ps (Ok us) (Err e) rest later))
one_outcome (p ∷ ps) (Err e) (Err f) (inl r) (inl s) = ap Err (refused_once p e f r s)
one_outcome (p ∷ ps) (Err e) (Err f) (inl r) (inr (b, later)) = absurd (built_or_refused p (table_in p) e b r)
one_outcome (p ∷ ps) (Err e) (Err f) (inr (b, later)) (inl s) = absurd (built_or_refused p (table_in p) f b s)
one_outcome (p ∷ ps) (Err e) (Err f) (inr (b, later)) (inr (d, last)) = one_outcome ps (Err e) (Err f) later last

-- What is an outcome is the answer.
pub answered : {B : Type 0} (ps : List Primitive) (result : Result B ElabErr) (seen : B → List Table) → IfOk result (λ (x : B). AreBuilt ps (Ok (seen x))) → IfErr result (λ (e : ElabErr). e ≢ Memory → AreBuilt ps (Err e))
    → IsAnswer ps result seen
answered ps (Ok x) seen built refused = record { told = λ outcome is. one_outcome ps outcome (Ok (seen x)) is built }
answered ps (Err e) seen built refused = record { told = λ outcome is not_memory. one_outcome ps outcome (Err e) is (refused not_memory) }

-- ---- one primitive more

more_by : (ps : List Primitive) (p : Primitive) (tables : List Table) (table : Table) → AreBuilt ps (Ok tables) → IsBuilt p (Ok table) → AreBuilt (ps ++ p ∷ []) (Ok (tables ++ table ∷ []))
more_by [] p [] table done here = (here, tt)
more_by [] p (t ∷ ts) table done here = absurd done
more_by (q ∷ ps) p [] table done here = absurd done
more_by (q ∷ ps) p (t ∷ ts) table done here = (done.0, more_by ps p ts table done.1 here)

stops_by : (ps : List Primitive) (p : Primitive) (behind : List Primitive) (tables : List Table) (e : ElabErr) → AreBuilt ps (Ok tables) → IsRefused p e → AreBuilt (ps ++ p ∷ behind) (Err e)
stops_by [] p behind [] e done here = inl here
stops_by [] p behind (t ∷ ts) e done here = absurd done
stops_by (q ∷ ps) p behind [] e done here = absurd done
stops_by (q ∷ ps) p behind (t ∷ ts) e done here = inr ((refl, done.0.1, done.0.2), stops_by ps p behind ts e done.1 here)

split_at : {A : Type 0} (xs : List A) (k : ℕ) (x : A) → k < length xs → x ≡ get_or xs k x → xs ≡ take k xs ++ x ∷ drop (k + 1) xs
split_at {A} xs k x within is =
    let behind : drop k xs ≡ x ∷ drop (k + 1) xs = drop-cons xs k x within ∙ (λ i. (sym is i) ∷ drop (sym (add-one k) i) xs) in
    sym (take-append-drop k xs) ∙ ap (λ (l : List A). take k xs ++ l) behind

pub built_more : (ps : List Primitive) (k : ℕ) (p : Primitive) (tables : List Table) (table : Table) → k < length ps → p ≡ get_or ps k p → AreBuilt (take k ps) (Ok tables) → IsBuilt p (Ok table)
    → AreBuilt (take (k + 1) ps) (Ok (tables ++ table ∷ []))
built_more ps k p tables table within is done here =
    let all : take (k + 1) ps ≡ take k ps ++ p ∷ [] = take_more ps k p within ∙ ap (λ (x : Primitive). take k ps ++ x ∷ []) (sym is) in
    subst (λ (l : List Primitive). AreBuilt l (Ok (tables ++ table ∷ []))) (sym all) (more_by (take k ps) p tables table done here)

pub stops_at : (ps : List Primitive) (k : ℕ) (p : Primitive) (tables : List Table) (e : ElabErr) → k < length ps → p ≡ get_or ps k p → AreBuilt (take k ps) (Ok tables) → IsRefused p e → AreBuilt ps (Err e)
stops_at ps k p tables e within is done here =
    let all : ps ≡ take k ps ++ p ∷ drop (k + 1) ps = split_at ps k p within is in
    subst (λ (l : List Primitive). AreBuilt l (Err e)) (sym all) (stops_by (take k ps) p (drop (k + 1) ps) tables e done here)

-- ---- a refusal that is handed on

pub stopped : {B : Type 0} (ps : List Primitive) (result : Result B ElabErr) (e : ElabErr) → IsErrAnd result (λ f. f ≡ e) → (e ≢ Memory → AreBuilt ps (Err e)) → IfErr result (λ f. f ≢ Memory → AreBuilt ps (Err f))
stopped ps (Ok x) e is refused = absurd is
stopped ps (Err f) e is refused = subst (λ (g : ElabErr). g ≢ Memory → AreBuilt ps (Err g)) (sym is) refused

no_tables : {B : Type 0} (ps : List Primitive) (result : Result B ElabErr) (e : ElabErr) (seen : B → List Table) → IsErrAnd result (λ f. f ≡ e) → IfOk result (λ (x : B). AreBuilt ps (Ok (seen x)))
no_tables ps (Ok x) e seen is = absurd is
no_tables ps (Err f) e seen is = tt

pub stopped_answer : {B : Type 0} (ps : List Primitive) (result : Result B ElabErr) (e : ElabErr) (seen : B → List Table) → IsErrAnd result (λ f. f ≡ e) → (e ≢ Memory → AreBuilt ps (Err e)) → IsAnswer ps result seen
stopped_answer ps result e seen is refused = answered ps result seen (no_tables ps result e seen is) (stopped ps result e is refused)

-- ---- the tables by position

never_z : (rest : Value) (what : PrimKind) → (rest ≡ Z → ⊥) → start_or what rest ≡ Z → ⊥
never_z rest Output h is = h is
never_z rest Input h is = h is
never_z rest Reg h is = h is
never_z rest (Initial Zero) h is = absurd cc
never_z rest (Initial One) h is = absurd cc
never_z rest (Initial X) h is = absurd cc
never_z rest (Initial Z) h is = absurd cc

start_never_z : (ds : List PrimDeclare) → start_in ds ≡ Z → ⊥
start_never_z [] is = absurd cc
start_never_z (d ∷ ds) is = never_z (start_in ds) d.what (start_never_z ds) is

pub as_long : (ps : List Primitive) (tables : List Table) → AreBuilt ps (Ok tables) → length tables ≡ length ps
as_long [] [] built = refl
as_long [] (t ∷ ts) built = absurd built
as_long (p ∷ ps) [] built = absurd built
as_long (p ∷ ps) (t ∷ ts) built = ap suc (as_long ps ts built.1)

pub built_at : (ps : List Primitive) (tables : List Table) (k : ℕ) (p : Primitive) (table : Table) → AreBuilt ps (Ok tables) → slice_get ps k ≡ Some p → slice_get tables k ≡ Some table → IsBuilt p (Ok table)
built_at [] [] k p table built at here = absurd cc
built_at [] (t ∷ ts) k p table built at here = absurd built
built_at (q ∷ ps) [] k p table built at here = absurd built
built_at (q ∷ ps) (t ∷ ts) zero p table built at here =
    let one : q ≡ p = cc in
    let two : t ≡ table = cc in
    subst (λ (x : Primitive). IsBuilt x (Ok table)) one (subst (λ (u : Table). IsBuilt q (Ok u)) two built.0)
built_at (q ∷ ps) (t ∷ ts) (suc k) p table built at here = built_at ps ts k p table built.1 at here

start_at : (ps : List Primitive) (tables : List Table) (k : ℕ) (table : Table) → AreBuilt ps (Ok tables) → slice_get tables k ≡ Some table → table.start ≡ Z → ⊥
start_at [] [] k table built here is = absurd cc
start_at [] (t ∷ ts) k table built here is = absurd built
start_at (q ∷ ps) [] k table built here is = absurd built
start_at (q ∷ ps) (t ∷ ts) zero table built here is =
    let same : t ≡ table = cc in
    start_never_z q.declarations (ap (λ (u : Table). u.start) (sym built.0.0 ∙ same) ∙ is)
start_at (q ∷ ps) (t ∷ ts) (suc k) table built here is = start_at ps ts k table built.1 here is

-- The tables are those of the primitives.
pub are_tables : (ps : List Primitive) (tables : List Table) → AreBuilt ps (Ok tables) → AreTables ps tables
are_tables ps tables built = record { long = as_long ps tables built; each = λ k p table at here. built_at ps tables k p table built at here; start = λ k table here is. start_at ps tables k table built here is }
