-- What a map of nets by their keys has.
use Rattle.std.proofs.Common.{◌≡◌, ℕ, zero, suc, ◌<◌, ◌≤◌, Bool, true, false, cond, List, [], ◌∷◌, ◌++◌, Option, None, Some, length, get_or, refl, sym, ap, subst, ◌∙◌, arith, bytes_eq, if◌then◌else◌, All, ⊎_elim}
use Rattle.std.specs.Prelude.{Vec}
use Rattle.std.specs.declared.alloc.Global.{Global}
use Rattle.std.specs.List.{AllPairs}
use Rattle.std.specs.Map.{lookup, set_value}
use Rattle.std.proofs.lemmas.Bool.{cases_lt}
use Rattle.std.proofs.lemmas.Bool.Decides.{Decides-eqb}
use Rattle.std.proofs.lemmas.List.{append-nil, get_or-map}
use Rattle.std.proofs.lemmas.List.Elements.{All-push}
use Rattle.std.proofs.lemmas.List.Quantifiers.{all_pairs_push}
use Rattle.std.proofs.lemmas.Slice.Eq.{bytes_eq-Decides}
use Rattle.design_circuit.specs.Design.{FitsDesign, Spelling, spelling_of, name_in, no_name}
use Rattle.design_circuit.specs.declared.design.Design.{Design}
use Rattle.design_circuit.specs.declared.design.Net.{Net}
use Rattle.design_circuit.specs.declared.name.Name.{Name}
use Rattle.recording_binding.specs.Naming.{texts_of, index_of}
use Rattle.recording_binding.specs.Bits.{AreApart, is_index, has_index}
use Rattle.recording_binding.specs.Keys.{key_of, keyed_below, Entries, listed, nets_at, Lists}
use Rattle.recording_binding.proofs.NameLemmas.{same_key, net_solid}

abbrev pub is_key : List ℕ → Vec ℕ Global → Bool
is_key key k = bytes_eq key k.items

-- keys of one text are found alike
alike : (a b q : List ℕ) → bytes_eq a b ≡ true → bytes_eq q a ≡ bytes_eq q b
alike a b q h = ap (bytes_eq q) ((bytes_eq-Decides a b).0 h)

-- two keys of other texts aren't one
others : (a b q : List ℕ) (r : Bool) → bytes_eq a b ≡ false → bytes_eq q b ≡ true → bytes_eq q a ≡ r → r ≡ false
others a b q false p is e = refl
others a b q true p is e =
    let x : q ≡ a = (bytes_eq-Decides q a).0 e in
    let y : q ≡ b = (bytes_eq-Decides q b).0 is in
    let z : bytes_eq a b ≡ true = (bytes_eq-Decides a b).1 (sym x ∙ y) in
    absurd cc

-- an entry behind those of other keys
push_by : (a b : Bool) (v w : Vec ℕ Global) (rest more : List ℕ) → (a ≡ true → b ≡ false) → more ≡ rest ++ (if b then v.items else []) → (if a then w.items else more) ≡ (if a then w.items else rest) ++ (if b then v.items else [])
push_by true b v w rest more apart is = (let e : b ≡ false = apart refl in rw e (sym (append-nil w.items)))
push_by false b v w rest more apart is = is

listed_by : (a : Bool) (w : Vec ℕ Global) (r : Option (Vec ℕ Global)) → listed (cond a (Some w) r) ≡ (if a then w.items else listed r)
listed_by true w r = refl
listed_by false w r = refl

absent_by : (a : Bool) (w : Vec ℕ Global) (r : Option (Vec ℕ Global)) → cond a (Some w) r ≡ None → (a ≡ false) × (r ≡ None)
absent_by true w r h = absurd cc
absent_by false w r h = (refl, h)

at_end : (b : Bool) (v : Vec ℕ Global) → listed (cond b (Some v) None) ≡ (if b then v.items else [])
at_end true v = refl
at_end false v = refl

pub pushed : (es : Entries) (key v : Vec ℕ Global) (q : List ℕ) → lookup (is_key key.items) es ≡ None → nets_at (es ++ (key, v) ∷ []) q ≡ nets_at es q ++ (if bytes_eq q key.items then v.items else [])
pushed [] key v q absent = at_end (bytes_eq q key.items) v
pushed (e ∷ es) key v q absent =
    let parts = absent_by (bytes_eq key.items e.0.items) e.1 (lookup (is_key key.items) es) absent in
    let rest = pushed es key v q parts.1 in
    let apart : bytes_eq q e.0.items ≡ true → bytes_eq q key.items ≡ false = λ is. others key.items e.0.items q (bytes_eq q key.items) parts.0 is refl in
    listed_by (bytes_eq q e.0.items) e.1 _ ∙ push_by (bytes_eq q e.0.items) (bytes_eq q key.items) v e.1 (nets_at es q) (nets_at (es ++ (key, v) ∷ []) q) apart rest
    ∙ ap (λ (l : List ℕ). l ++ (if bytes_eq q key.items then v.items else [])) (sym (listed_by (bytes_eq q e.0.items) e.1 _))

-- a value in the place of that of a key that is there
set_by : (c a b : Bool) (w v : Vec ℕ Global) (key : Vec ℕ Global) (es : Entries) (more : Entries) (q : List ℕ) (same : Bool)
    → (c ≡ true → a ≡ b) → (c ≡ false → a ≡ true → b ≡ false)
    → (c ≡ false → nets_at more q ≡ (if b then w.items else nets_at es q))
    → (if c then (if a then w.items else nets_at es q) else (if a then v.items else nets_at more q)) ≡ (if b then w.items else (if a then v.items else nets_at es q))
set_by true a b w v key es more q same alike apart rest = by a b (alike refl)
  where
    by : (a b : Bool) → a ≡ b → (if a then w.items else nets_at es q) ≡ (if b then w.items else (if a then v.items else nets_at es q))
    by true b e = ap (λ (x : Bool). if x then w.items else v.items) e
    by false b e = ap (λ (x : Bool). if x then w.items else nets_at es q) e
set_by false true b w v key es more q same alike apart rest = ap (λ (x : Bool). if x then w.items else v.items) (sym (apart refl refl))
set_by false false b w v key es more q same alike apart rest = rest refl

found_by : (c : Bool) (v old : Vec ℕ Global) (r : Option (Vec ℕ Global)) → cond c (Some v) r ≡ Some old → c ≡ false → r ≡ Some old
found_by true v old r h e = absurd cc
found_by false v old r h e = h

entries_by : (c : Bool) (k w v : Vec ℕ Global) (es more : Entries) (q : List ℕ)
    → nets_at (cond c ((k, w) ∷ es) ((k, v) ∷ more)) q ≡ (if c then (if bytes_eq q k.items then w.items else nets_at es q) else (if bytes_eq q k.items then v.items else nets_at more q))
entries_by true k w v es more q = listed_by (bytes_eq q k.items) w _
entries_by false k w v es more q = listed_by (bytes_eq q k.items) v _

pub replaced : (es : Entries) (key : List ℕ) (w old : Vec ℕ Global) (q : List ℕ) → lookup (is_key key) es ≡ Some old → nets_at (set_value (is_key key) es w) q ≡ (if bytes_eq q key then w.items else nets_at es q)
replaced [] key w old q there = absurd cc
replaced (e ∷ es) key w old q there =
    let c = bytes_eq key e.0.items in
    let a = bytes_eq q e.0.items in
    let b = bytes_eq q key in
    let rest : c ≡ false → nets_at (set_value (is_key key) es w) q ≡ (if b then w.items else nets_at es q) = λ f. replaced es key w old q (found_by c e.1 old (lookup (is_key key) es) there f) in
    entries_by c e.0 w e.1 es (set_value (is_key key) es w) q
    ∙ set_by c a b w e.1 e.0 es (set_value (is_key key) es w) q c (λ t. sym (alike key e.0.items q t)) (λ f t. others key e.0.items q b f t refl) rest
    ∙ ap (λ (l : List ℕ). if b then w.items else l) (sym (listed_by a e.1 (lookup (is_key q) es)))

-- the list of the key that is found
pub found_is : (es : Entries) (key : List ℕ) (r : Option (Vec ℕ Global)) → r ≡ lookup (is_key key) es → nets_at es key ≡ listed r
found_is es key r h = sym (ap listed h)

-- the nets with a key, in number order
record IsListing (design : Design) (key : List ℕ) (count : ℕ) (nets : List ℕ) : Type 0 where
  below : All (λ net. net < count) nets
  keyed : All (λ net. bytes_eq key (key_of (texts_of design net)) ≡ true) nets
  rising : AllPairs (λ a b. a < b) nets

listing_more : (design : Design) (key : List ℕ) (net : ℕ) (nets : List ℕ) (b : Bool) → bytes_eq key (key_of (texts_of design net)) ≡ b → IsListing design key net nets → IsListing design key (suc net) (nets ++ (if b then net ∷ [] else []))
listing_more design key net nets true has l = record {
  below = All-push (λ n. n < suc net) nets net (λ k d within. (let h = l.below k d within in omega (arith, h))) (omega arith);
  keyed = All-push (λ n. bytes_eq key (key_of (texts_of design n)) ≡ true) nets net l.keyed has;
  rising = all_pairs_push (λ a b. a < b) nets net l.rising l.below;
}
listing_more design key net nets false has l =
    subst (λ (ns : List ℕ). IsListing design key (suc net) ns) (sym (append-nil nets)) (record { below = λ k d within. (let h = l.below k d within in omega (arith, h)); keyed = l.keyed; rising = l.rising })

listing : (design : Design) (key : List ℕ) (count : ℕ) → IsListing design key count (keyed_below design key count)
listing design key zero = record { below = λ k d within. absurd (omega arith); keyed = λ k d within. absurd (omega arith); rising = λ i j d before within. absurd (omega arith) }
listing design key (suc net) = listing_more design key net (keyed_below design key net) (bytes_eq key (key_of (texts_of design net))) refl (listing design key net)

pub keyed_within : (design : Design) (key : List ℕ) (count : ℕ) → All (λ net. net < count) (keyed_below design key count)
keyed_within design key count = (listing design key count).below

spelling_same : (a b : Spelling) → a.texts ≡ b.texts → a.index ≡ b.index → a ≡ b
spelling_same a b p q = λ i. record { texts = p i; index = q i }

index_is : (index : ℕ) (own : Option ℕ) → is_index index own ≡ true → own ≡ Some index
index_is index None h = absurd cc
index_is index (Some own) h = ap (λ (k : ℕ). Some k) ((Decides-eqb own index).0 h)

same_net : (design : Design) (key : List ℕ) (index net other : ℕ) → FitsDesign design → net < length design.nets → other < length design.nets
    → bytes_eq key (key_of (texts_of design net)) ≡ true → bytes_eq key (key_of (texts_of design other)) ≡ true → has_index design index net ≡ true → has_index design index other ≡ true → net ≡ other
same_net design key index net other fits p q k l m n =
    let x : key ≡ key_of (texts_of design net) = (bytes_eq-Decides key (key_of (texts_of design net))).0 k in
    let y : key ≡ key_of (texts_of design other) = (bytes_eq-Decides key (key_of (texts_of design other))).0 l in
    let texts : texts_of design net ≡ texts_of design other = same_key (texts_of design net) (texts_of design other) (net_solid design net fits p) (net_solid design other fits q) (sym x ∙ y) in
    let indexes : index_of design net ≡ index_of design other = index_is index (index_of design net) m ∙ sym (index_is index (index_of design other) n) in
    fits.distinct net other p q (spelling_same (spelling_of (name_in design net)) (spelling_of (name_in design other)) texts indexes)

pub keyed_apart : (design : Design) (key : List ℕ) → FitsDesign design → AreApart design (keyed_below design key (length design.nets))
keyed_apart design key fits =
    let nets = keyed_below design key (length design.nets) in
    let l = listing design key (length design.nets) in
    record {
      apart = λ i j index p q a b.
          (let same : get_or nets i 0 ≡ get_or nets j 0 = same_net design key index (get_or nets i 0) (get_or nets j 0) fits (l.below i 0 p) (l.below j 0 q) (l.keyed i 0 p) (l.keyed j 0 q) a b in
          ⊎_elim (λ (h : i < j). (let r = l.rising i j 0 h q in absurd (omega (arith, r, same))))
          (λ (h : j ≤ i). ⊎_elim (λ (g : j < i). (let r = l.rising j i 0 g p in absurd (omega (arith, r, same)))) (λ (g : i ≤ j). omega (arith, h, g)) (cases_lt j i)) (cases_lt i j));
    }

-- the texts of a net by its number
pub texts_at : (design : Design) (number : ℕ) (net : Net) → number < length design.nets → net ≡ get_or design.nets number net → texts_of design number ≡ (spelling_of net.path).texts
texts_at design number net within is =
    let at : name_in design number ≡ net.path = get_or-map (λ (n : Net). n.path) design.nets number net no_name within ∙ ap (λ (n : Net). n.path) (sym is) in
    ap (λ (n : Name). (spelling_of n).texts) at

-- one net more in the map
pub lists_more : (design : Design) (entries more : Entries) (longest longer number : ℕ) (key : List ℕ) → Lists entries longest design number → key ≡ key_of (texts_of design number)
    → ((q : List ℕ) → nets_at more q ≡ nets_at entries q ++ (if bytes_eq q key then number ∷ [] else [])) → longest ≤ longer → length key ≤ longer → Lists more longer design (suc number)
lists_more design entries more longest longer number key lists is added old new = record {
  nets = λ q. added q ∙ ap (λ (l : List ℕ). l ++ (if bytes_eq q key then number ∷ [] else [])) (lists.nets q) ∙ ap (λ (k : List ℕ). keyed_below design q number ++ (if bytes_eq q k then number ∷ [] else [])) is;
  long = λ net within. ⊎_elim (λ (h : net < number). (let l = lists.long net h in omega (arith, l)))
      (λ (h : number ≤ net). (let e : net ≡ number = omega (arith, h, within) in let l : length (key_of (texts_of design number)) ≤ longer = subst (λ (k : List ℕ). length k ≤ longer) is new in subst (λ (n : ℕ). length (key_of (texts_of design n)) ≤ longer) (sym e) l)) (cases_lt net number);
}

pub lists_none : (design : Design) (longest : ℕ) → Lists [] longest design 0
lists_none design longest = record { nets = λ q. refl; long = λ net within. absurd (omega arith) }

-- the list of a key with one net more
pub grown : (es : Entries) (key : List ℕ) (w old : Vec ℕ Global) (net : ℕ) (q : List ℕ) → lookup (is_key key) es ≡ Some old → w.items ≡ old.items ++ net ∷ [] → (if bytes_eq q key then w.items else nets_at es q) ≡ nets_at es q ++ (if bytes_eq q key then net ∷ [] else [])
grown es key w old net q there is = by (bytes_eq q key) refl
  where
    by : (b : Bool) → bytes_eq q key ≡ b → (if b then w.items else nets_at es q) ≡ nets_at es q ++ (if b then net ∷ [] else [])
    by true same = (let e : q ≡ key = (bytes_eq-Decides q key).0 same in
        let had : nets_at es q ≡ old.items = ap (nets_at es) e ∙ ap listed there in
        is ∙ ap (λ (l : List ℕ). l ++ net ∷ []) (sym had))
    by false other = sym (append-nil (nets_at es q))
