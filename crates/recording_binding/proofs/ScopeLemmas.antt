-- Where scopes stand, and what is kept of them.
use Rattle.std.proofs.Common.{◌≡◌, ℕ, zero, suc, ◌+◌, ◌<◌, ◌≤◌, ◌==◌, Bool, true, false, ◌||◌, ◌&&◌, List, [], ◌∷◌, ◌++◌, length, get_or, drop, map, refl, sym, ap, subst, ◌∙◌, arith, bytes_eq, if◌then◌else◌, ⊎_elim, add-one, length-append, length-drop, drop-cons, Result, IfOk}
use Rattle.base_lists.specs.declared.memory.Memory.{Memory}
use Rattle.std.specs.List.{list_any}
use Rattle.std.proofs.Math.Seq.{get_or-append_seam}
use Rattle.std.proofs.lemmas.Bool.{cases_lt}
use Rattle.std.proofs.lemmas.Bool.Decides.{nat_tests}
use Rattle.std.proofs.lemmas.List.{get_or_append_left}
use Rattle.design_circuit.specs.declared.design.Design.{Design}
use Rattle.recording_reader.specs.Recording.{path_at}
use Rattle.recording_binding.specs.Keys.{IsKey, key_of}
use Rattle.recording_binding.specs.Naming.{Texts, names_eq}
use Rattle.recording_binding.specs.Scopes.{Keeps, KeepsAll, IsAbove, IsBelow, is_top, standing_below}
use Rattle.recording_binding.specs.Telling.{Standing, Apart, Above, Within, standing_of, has_scope, bare}
use Rattle.recording_binding.specs.declared.scopes.ScopeKey.{ScopeKey}
use Rattle.recording_binding.specs.declared.scopes.ScopeKey.TheVariants as kept

below_by : (b : Bool) (s : Standing) (name : List ℕ) (r : Standing) → r ≡ standing_below s name → (if b then r else Apart) ≡ standing_below (if b then s else Apart) name
below_by true s name r h = h
below_by false s name r h = refl

-- a path with one name more
pub standing_more : (scope path : Texts) (name : List ℕ) → standing_of scope (path ++ name ∷ []) ≡ standing_below (standing_of scope path) name
standing_more [] path name = refl
standing_more (s ∷ scope) [] name = refl
standing_more (s ∷ scope) (p ∷ path) name = below_by (bytes_eq s p) (standing_of scope path) name (standing_of scope (path ++ name ∷ [])) (standing_more scope path name)

above_all : (left : Texts) → 0 < length left → standing_of left [] ≡ Above left
above_all [] h = absurd (omega arith)
above_all (s ∷ left) h = refl

-- the next name of the scope path, which isn't its last
pub towards : (design : Design) (scope left : Texts) (depth : ℕ) (name : List ℕ) → IsAbove scope left depth → bytes_eq (get_or scope depth []) name ≡ true → depth + 1 < length scope
    → Keeps design scope (standing_of left (name ∷ [])) (kept.Above (depth + 1))
towards design scope left depth name a same more =
    let rest = drop (suc depth) scope in
    let cut : left ≡ get_or scope depth [] ∷ rest = a.left ∙ drop-cons scope depth [] a.within in
    let long : 0 < length rest = omega (arith, length-drop (suc depth) scope, more) in
    let is : standing_of left (name ∷ []) ≡ Above rest =
    ap (λ (l : Texts). standing_of l (name ∷ [])) cut ∙ ap (λ (b : Bool). if b then standing_of rest [] else Apart) same ∙ above_all rest long in
    let next : IsAbove scope rest (depth + 1) = record { within = more; left = ap (λ (n : ℕ). drop n scope) (sym (add-one depth)) } in
    subst (λ (s : Standing). Keeps design scope s (kept.Above (depth + 1))) (sym is) next

-- the first scope: the place outside every scope
pub outside : (design : Design) (scope : Texts) → 0 < length scope → Keeps design scope (standing_of scope []) (kept.Above 0)
outside design [] some = absurd (omega arith)
outside design (s ∷ scope) some = record { within = some; left = refl }

is_whole : Standing → Bool
is_whole Apart = false
is_whole (Above names) = false
is_whole (Within []) = true
is_whole (Within (n ∷ ns)) = false

whole_by : (b : Bool) (s : Standing) (r : Bool) → is_whole s ≡ r → is_whole (if b then s else Apart) ≡ (b && r)
unfolding is_whole
whole_by true s r h = h
whole_by false s r h = refl

whole_is : (scope path : Texts) → is_whole (standing_of scope path) ≡ names_eq scope path
unfolding is_whole
whole_is [] [] = refl
whole_is [] (p ∷ path) = refl
whole_is (s ∷ scope) [] = refl
whole_is (s ∷ scope) (p ∷ path) = whole_by (bytes_eq s p) (standing_of scope path) (names_eq scope path) (whole_is scope path)

empty_key : (names : Texts) (key : List ℕ) → key ≡ key_of (map bare names) → (length key == 0) ≡ is_whole (Within names)
unfolding is_whole
empty_key [] key h = ap (λ (k : List ℕ). length k == 0) h
empty_key (n ∷ ns) key h =
    let long : length key ≡ length (bare n) + length (32 ∷ key_of (map bare ns)) = ap (λ (k : List ℕ). length k) h ∙ length-append (bare n) (32 ∷ key_of (map bare ns)) in
    let some : 0 < length key = omega (arith, long) in
    grind (arith, nat_tests)

top_is : (design : Design) (scope : Texts) (s : Standing) (key : ScopeKey) → Keeps design scope s key → is_top key ≡ is_whole s
unfolding is_whole
top_is design scope Apart kept.Apart h = refl
top_is design scope Apart (kept.Above depth) h = absurd h
top_is design scope Apart (kept.Within key) h = absurd h
top_is design scope (Above names) kept.Apart h = absurd h
top_is design scope (Above names) (kept.Above depth) h = refl
top_is design scope (Above names) (kept.Within key) h = absurd h
top_is design scope (Within []) kept.Apart h = absurd h.below
top_is design scope (Within (n ∷ ns)) kept.Apart h = refl
top_is design scope (Within names) (kept.Above depth) h = absurd h
top_is design scope (Within names) (kept.Within key) h = empty_key names key h.is

any_same : (p : ScopeKey → Bool) (q : Texts → Bool) (keys : List ScopeKey) (paths : List Texts) → length keys ≡ length paths
    → ((k : ℕ) (d : ScopeKey) (e : Texts) → k < length keys → p (get_or keys k d) ≡ q (get_or paths k e)) → list_any p keys ≡ list_any q paths
any_same p q [] [] long same = refl
any_same p q [] (x ∷ paths) long same = absurd (omega arith)
any_same p q (k ∷ keys) [] long same = absurd (omega arith)
any_same p q (k ∷ keys) (x ∷ paths) long same =
    let here : p k ≡ q x = same 0 k x (omega arith) in
    let rest = any_same p q keys paths (omega arith) (λ i d e within. same (suc i) d e (omega arith)) in
    ap (λ (b : Bool). b || list_any p keys) here ∙ ap (λ (b : Bool). q x || b) rest

default_free : (paths : List Texts) (k : ℕ) (e : Texts) → k < length paths → get_or paths k e ≡ path_at paths k
default_free [] k e within = absurd (omega arith)
default_free (p ∷ paths) zero e within = refl
default_free (p ∷ paths) (suc k) e within = default_free paths k e (omega arith)

-- whether the scope path is there
pub tops : (design : Design) (scope : Texts) (paths : List Texts) (keys : List ScopeKey) → KeepsAll design scope paths keys (length paths) → list_any is_top keys ≡ has_scope scope paths
tops design scope paths keys all = any_same is_top (names_eq scope) keys paths all.as_many (λ k d e within.
    (let below : k < length paths = omega (arith, within, all.as_many) in
    top_is design scope (standing_of scope (path_at paths k)) (get_or keys k d) (all.each k d below) ∙ whole_is scope (path_at paths k) ∙ ap (names_eq scope) (sym (default_free paths k e below))))

-- one scope more
pub kept_more : (design : Design) (scope : Texts) (paths : List Texts) (keys : List ScopeKey) (number parent : ℕ) (name : List ℕ) (above key : ScopeKey)
    → KeepsAll design scope paths keys number → parent < number → above ≡ get_or keys parent above → path_at paths number ≡ path_at paths parent ++ name ∷ []
    → ((s : Standing) → Keeps design scope s above → Keeps design scope (standing_below s name) key) → KeepsAll design scope paths (keys ++ key ∷ []) (suc number)
kept_more design scope paths keys number parent name above key all before at path step =
    let old : Keeps design scope (standing_of scope (path_at paths parent)) above = subst (λ (k : ScopeKey). Keeps design scope (standing_of scope (path_at paths parent)) k) (sym at) (all.each parent above before) in
    let is : standing_of scope (path_at paths number) ≡ standing_below (standing_of scope (path_at paths parent)) name = ap (standing_of scope) path ∙ standing_more scope (path_at paths parent) name in
    let new : Keeps design scope (standing_of scope (path_at paths number)) key = subst (λ (s : Standing). Keeps design scope s key) (sym is) (step (standing_of scope (path_at paths parent)) old) in
    record {
      as_many = length-append keys (key ∷ []) ∙ (let m = all.as_many in omega (arith, m));
      each = λ k d within. ⊎_elim
          (λ (h : k < number). (let m = all.as_many in let below : k < length keys = omega (arith, h, m) in
          subst (λ (x : ScopeKey). Keeps design scope (standing_of scope (path_at paths k)) x) (sym (get_or_append_left keys (key ∷ []) d k below)) (all.each k d h)))
          (λ (h : number ≤ k). (let m = all.as_many in let e : k ≡ length keys = omega (arith, h, within, m) in let f : k ≡ number = omega (arith, h, within) in
          let here : get_or (keys ++ key ∷ []) k d ≡ key = ap (λ (n : ℕ). get_or (keys ++ key ∷ []) n d) e ∙ get_or-append_seam keys key [] d in
          subst (λ (x : ScopeKey). Keeps design scope (standing_of scope (path_at paths k)) x) (sym here) (subst (λ (n : ℕ). Keeps design scope (standing_of scope (path_at paths n)) key) (sym f) new)))
          (cases_lt k number);
    }

pub some_below : (below : Texts) (name : List ℕ) → IsBelow (below ++ name ∷ [])
some_below [] name = tt
some_below (b ∷ bs) name = tt

pub first_kept : (design : Design) (scope : Texts) (paths : List Texts) (keys : List ScopeKey) → 0 < length scope → path_at paths 0 ≡ [] → keys ≡ kept.Above 0 ∷ [] → KeepsAll design scope paths keys 1
first_kept design scope paths keys some top is =
    let first = kept.Above 0 ∷ [] in
    let here : Keeps design scope (standing_of scope (path_at paths 0)) (kept.Above 0) = subst (λ (p : Texts). Keeps design scope (standing_of scope p) (kept.Above 0)) (sym top) (outside design scope some) in
    subst (λ (l : List ScopeKey). KeepsAll design scope paths l 1) (sym is) (record {
      as_many = refl;
      each = λ k d within. (let e : k ≡ 0 = omega (arith, within) in subst (λ (n : ℕ). Keeps design scope (standing_of scope (path_at paths n)) (get_or first n d)) (sym e) here);
    })

pub text_at : (scope : Texts) (k : ℕ) (d : List ℕ) → k < length scope → get_or scope k d ≡ get_or scope k []
text_at [] k d within = absurd (omega arith)
text_at (s ∷ scope) zero d within = refl
text_at (s ∷ scope) (suc k) d within = text_at scope k d (omega arith)

by_standing : (design : Design) (scope : Texts) (s : Standing) (key name : List ℕ) (r : Result ScopeKey Memory) → Keeps design scope s (kept.Within key)
    → ((below : Texts) → IsKey (map bare below) key → IfOk r (λ k. Keeps design scope (Within (below ++ name ∷ [])) k)) → IfOk r (λ k. Keeps design scope (standing_below s name) k)
by_standing design scope Apart key name r h f = absurd h
by_standing design scope (Above names) key name r h f = absurd h
by_standing design scope (Within names) key name r h f = f names h

-- one name more at or below the scope path
pub within_more : (design : Design) (scope : Texts) (s : Standing) (above : ScopeKey) (key name : List ℕ) (r : Result ScopeKey Memory) → above ≡ kept.Within key → Keeps design scope s above
    → ((below : Texts) → IsKey (map bare below) key → IfOk r (λ k. Keeps design scope (Within (below ++ name ∷ [])) k)) → IfOk r (λ k. Keeps design scope (standing_below s name) k)
within_more design scope s above key name r is h f = by_standing design scope s key name r (subst (λ (k : ScopeKey). Keeps design scope s k) is h) f
