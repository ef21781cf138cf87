-- The first register of a name, among one net more.
use Rattle.std.proofs.Common.{◌≡◌, ℕ, suc, ◌+◌, ◌<◌, ◌≤◌, Bool, true, false, not, cond, Option, None, Some, List, [], ◌∷◌, ◌++◌, Bor, length, take, get_or, bytes_eq, refl, sym, ap, ◌∙◌, arith}
use Rattle.std.specs.Prelude.{IfSome, Vec, is_some, option_copied}
use Rattle.std.specs.List.{position_from}
use Rattle.std.specs.declared.alloc.Global.{Global}
use Rattle.std.proofs.lemmas.List.{get_or-map, length-take, take_more}
use Rattle.std.proofs.lemmas.Slice.Eq.{bytes_eq-Decides}
use Rattle.design_circuit.specs.Design.{name_in, no_name}
use Rattle.design_circuit.specs.Job.{driver_in}
use Rattle.design_circuit.specs.declared.design.Design.{Design}
use Rattle.design_circuit.specs.declared.design.Driver.TheVariants.{Undriven}
use Rattle.design_circuit.specs.declared.design.Net.{Net}
use Rattle.report_fix.specs.Registers.{AddsName, AddsNet, Entries, ListsRegisters, first_or, has_name, is_named, net_at, register_named}

-- ---- positions

position_push : {A : Type 0} (test : A → Bool) (i : ℕ) (xs : List A) (x : A)
    → position_from test i (xs ++ x ∷ []) ≡ first_or (position_from test i xs) (test x) (i + length xs)
position_push test i [] x = by (test x)
  where
    by : (b : Bool) → cond b (Some i) None ≡ first_or None b (i + 0)
    by true = let e : i ≡ i + 0 = omega arith in ap (λ (k : ℕ). Some k) e
    by false = refl
position_push test i (y ∷ ys) x = by (test y) (position_push test (i + 1) ys x)
  where
    by : (b : Bool) → position_from test (i + 1) (ys ++ x ∷ []) ≡ first_or (position_from test (i + 1) ys) (test x) (i + 1 + length ys)
        → cond b (Some i) (position_from test (i + 1) (ys ++ x ∷ []))
        ≡ first_or (cond b (Some i) (position_from test (i + 1) ys)) (test x) (i + suc (length ys))
    by true rest = refl
    by false rest =
        let e : i + 1 + length ys ≡ i + suc (length ys) = omega arith in
        rest ∙ ap (λ (k : ℕ). first_or (position_from test (i + 1) ys) (test x) k) e

position_below : {A : Type 0} (test : A → Bool) (i n : ℕ) (xs : List A) → position_from test i xs ≡ Some n → n < i + length xs
position_below test i n [] is = absurd cc
position_below test i n (x ∷ xs) is = by (test x) is (position_below test (i + 1) n xs)
  where
    by : (b : Bool) → cond b (Some i) (position_from test (i + 1) xs) ≡ Some n
        → (position_from test (i + 1) xs ≡ Some n → n < i + 1 + length xs) → n < i + suc (length xs)
    by true here rest = let e : i ≡ n = cc in omega (arith, e)
    by false later rest = let h = rest later in omega (arith, h)

named_within : (nets : List Net) (name : List ℕ) (n : ℕ) → register_named nets name ≡ Some n → n < length nets
named_within nets name n is = let h = position_below (is_named name) 0 n nets is in omega (arith, h)

-- A register that is found is a net of the design.
pub found_within : (nets : List Net) (name : List ℕ) (found : Option ℕ) → found ≡ register_named nets name
    → IfSome found (λ n. n < length nets)
found_within nets name None is = tt
found_within nets name (Some n) is = named_within nets name n (sym is)

-- ---- nets

no_net : Net
no_net = record { path = no_name; driver = Undriven }

named_at : (design : Design) (name : List ℕ) (net : ℕ) → net < length design.nets
    → has_name name (name_in design net) (driver_in design net) ≡ is_named name (get_or design.nets net no_net)
named_at design name net within =
    let path = get_or-map (λ (n : Net). n.path) design.nets net no_net no_name within in
    let driver = get_or-map (λ (n : Net). n.driver) design.nets net no_net Undriven within in
    rw (path, driver) refl

-- One net more is noted.
pub registers_more : (design : Design) (old new : Entries) (n : ℕ) → n < length design.nets
    → ListsRegisters old (take n design.nets) → AddsNet old new design n → ListsRegisters new (take (n + 1) design.nets)
registers_more design old new n within lists adds name =
    let nets = design.nets in
    let few : n ≤ length nets = omega (arith, within) in
    let count : n ≡ 0 + length (take n nets) = omega (arith, few, length-take n nets) in
    let named = named_at design name n within in
    adds name
    ∙ ap (λ (first : Option ℕ). first_or first (has_name name (name_in design n) (driver_in design n)) n) (lists name)
    ∙ ap (λ (b : Bool). first_or (register_named (take n nets) name) b n) named
    ∙ ap (λ (k : ℕ). first_or (register_named (take n nets) name) (is_named name (get_or nets n no_net)) k) count
    ∙ sym (position_push (is_named name) 0 (take n nets) (get_or nets n no_net))
    ∙ ap (λ (l : List Net). register_named l name) (sym (take_more nets n no_net within))

-- ---- the map

lookup_push : (es : Entries) (name : List ℕ) (key : Vec ℕ Global) (net : ℕ)
    → net_at (es ++ (key, net) ∷ []) name ≡ first_or (net_at es name) (bytes_eq name key.items) net
lookup_push [] name key net = by (bytes_eq name key.items)
  where
    by : (b : Bool) → cond b (Some net) None ≡ first_or None b net
    by true = refl
    by false = refl
lookup_push (e ∷ es) name key net = by (bytes_eq name e.0.items) (lookup_push es name key net)
  where
    by : (b : Bool) → net_at (es ++ (key, net) ∷ []) name ≡ first_or (net_at es name) (bytes_eq name key.items) net
        → cond b (Some e.1) (net_at (es ++ (key, net) ∷ []) name)
        ≡ first_or (cond b (Some e.1) (net_at es name)) (bytes_eq name key.items) net
    by true rest = refl
    by false rest = rest

-- A name goes last.
pub name_pushed : (old new : Entries) (key : Vec ℕ Global) (net : ℕ) → new ≡ old ++ (key, net) ∷ []
    → AddsName old new key.items net
name_pushed old new key net is name = ap (λ (es : Entries). net_at es name) is ∙ lookup_push old name key net

-- A name that is noted stays.
pub name_stays : (old : Entries) (own : List ℕ) (net first : ℕ) → net_at old own ≡ Some first → AddsName old old own net
name_stays old own net first there name = by (bytes_eq name own) refl
  where
    by : (b : Bool) → bytes_eq name own ≡ b → net_at old name ≡ first_or (net_at old name) b net
    by true is =
        let same : name ≡ own = (bytes_eq-Decides name own).0 is in
        let found : net_at old name ≡ Some first = ap (net_at old) same ∙ there in
        found ∙ ap (λ (o : Option ℕ). first_or o true net) (sym found)
    by false is = none (net_at old name)
      where
        none : (o : Option ℕ) → o ≡ first_or o false net
        none None = refl
        none (Some k) = refl

-- Where nothing is found, nothing is there.
pub absent_of : (found : Option (Bor ℕ)) (there : Option ℕ) (test : Bool) → is_some found ≡ not test → test ≡ true
    → option_copied found ≡ there → there ≡ None
absent_of None there test none sure is = sym is
absent_of (Some net) there test none sure is = absurd (let e = none ∙ ap not sure in cc)
