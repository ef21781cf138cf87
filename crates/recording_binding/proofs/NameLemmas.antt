-- Names are told apart by their keys.
use Rattle.std.proofs.Common.{◌≡◌, ℕ, zero, suc, ◌<◌, ◌≤◌, Bool, true, false, ◌&&◌, not, List, [], ◌∷◌, ◌++◌, length, map, Decides, refl, sym, ap, ◌∙◌, arith, bytes_eq, if◌then◌else◌, ◌==◌}
use Rattle.std.specs.List.{list_all}
use Rattle.std.proofs.lemmas.Bool.Decides.{nat_tests, same_from_decides}
use Rattle.std.proofs.lemmas.List.{append-nil}
use Rattle.std.proofs.lemmas.Slice.Eq.{bytes_eq-Decides}
use Rattle.netlist_tokens.specs.Byte.{is_printable, is_name_byte}
use Rattle.design_circuit.specs.Design.{FitsDesign, is_part, name_in}
use Rattle.design_circuit.specs.declared.design.Design.{Design}
use Rattle.design_circuit.specs.declared.name.NamePart.{NamePart}
use Rattle.recording_binding.specs.Naming.{Texts, texts_of, names_eq, named_below, nets_of}
use Rattle.recording_binding.specs.Keys.{key_of, is_solid, are_solid, IsKey, keyed_below}

both_decide : (a b : List ℕ) (as' bs : Texts) (x y : Bool) → Decides x (a ≡ b) → Decides y (as' ≡ bs) → Decides (x && y) (a ∷ as' ≡ b ∷ bs)
both_decide a b as' bs true true p q = (λ h. (let e : a ≡ b = p.0 refl in let f : as' ≡ bs = q.0 refl in cc), λ h. refl)
both_decide a b as' bs true false p q = (λ h. absurd cc, λ h. q.1 cc)
both_decide a b as' bs false y p q = (λ h. absurd cc, λ h. p.1 cc)

pub names-Decides : (a b : Texts) → Decides (names_eq a b) (a ≡ b)
names-Decides [] [] = (λ h. refl, λ h. refl)
names-Decides [] (b ∷ bs) = (λ h. absurd cc, λ h. absurd cc)
names-Decides (a ∷ as') [] = (λ h. absurd cc, λ h. absurd cc)
names-Decides (a ∷ as') (b ∷ bs) = both_decide a b as' bs (bytes_eq a b) (names_eq as' bs) (bytes_eq-Decides a b) (names-Decides as' bs)

record Front (b : ℕ) (bs : List ℕ) : Type 0 where
  other : b ≡ 32 → ⊥
  rest : is_solid bs ≡ true

front : (b : ℕ) (bs : List ℕ) → is_solid (b ∷ bs) ≡ true → Front b bs
front b bs h = record { other = λ e. absurd (grind (arith, nat_tests)); rest = grind (arith, nat_tests) }

record Both (s t xs ys : List ℕ) : Type 0 where
  text : s ≡ t
  rest : xs ≡ ys

split : (s t xs ys : List ℕ) → is_solid s ≡ true → is_solid t ≡ true → s ++ 32 ∷ xs ≡ t ++ 32 ∷ ys → Both s t xs ys
split [] [] xs ys p q h = record { text = refl; rest = cc }
split [] (c ∷ t) xs ys p q h = (let e : 32 ≡ c = cc in absurd ((front c t q).other (sym e)))
split (b ∷ s) [] xs ys p q h = (let e : b ≡ 32 = cc in absurd ((front b s p).other e))
split (b ∷ s) (c ∷ t) xs ys p q h =
    let e : b ≡ c = cc in
    let f : s ++ 32 ∷ xs ≡ t ++ 32 ∷ ys = cc in
    let r = split s t xs ys (front b s p).rest (front c t q).rest f in
    record { text = (let g : s ≡ t = r.text in cc); rest = r.rest }

no_end : (t xs : List ℕ) → [] ≡ t ++ 32 ∷ xs → ⊥
no_end [] xs h = absurd cc
no_end (c ∷ t) xs h = absurd cc

record Firsts (text : List ℕ) (texts : Texts) : Type 0 where
  first : is_solid text ≡ true
  others : are_solid texts ≡ true

firsts_by : (a b : Bool) → (a && b) ≡ true → (a ≡ true) × (b ≡ true)
firsts_by true b h = (refl, h)
firsts_by false b h = absurd cc

firsts : (text : List ℕ) (texts : Texts) → are_solid (text ∷ texts) ≡ true → Firsts text texts
firsts text texts h = (let r = firsts_by (is_solid text) (are_solid texts) h in record { first = r.0; others = r.1 })

pub same_key : (a b : Texts) → are_solid a ≡ true → are_solid b ≡ true → key_of a ≡ key_of b → a ≡ b
same_key [] [] p q h = refl
same_key [] (t ∷ ts) p q h = absurd (no_end t (key_of ts) h)
same_key (s ∷ ss) [] p q h = absurd (no_end s (key_of ss) (sym h))
same_key (s ∷ ss) (t ∷ ts) p q h =
    let x = firsts s ss p in
    let y = firsts t ts q in
    let r = split s t (key_of ss) (key_of ts) x.first y.first h in
    let e : s ≡ t = r.text in
    let f : ss ≡ ts = same_key ss ts x.others y.others r.rest in
    cc

-- the names of a design have no spaces
joined : (x y : Bool) → x ≡ true → y ≡ true → (x && y) ≡ true
joined x y p q = rw (p, q) refl

name_byte : (b : ℕ) → is_name_byte b ≡ true → not (b == 32) ≡ true
name_byte b h = grind (arith, nat_tests)

printable_byte : (b : ℕ) → is_printable b ≡ true → not (b == 32) ≡ true
printable_byte b h = grind (arith, nat_tests)

printable : (text : List ℕ) → list_all is_printable text ≡ true → is_solid text ≡ true
printable [] h = refl
printable (b ∷ bs) h = (let r = firsts_by (is_printable b) (list_all is_printable bs) h in joined (not (b == 32)) (is_solid bs) (printable_byte b r.0) (printable bs r.1))

plain : (text : List ℕ) → list_all is_name_byte text ≡ true → is_solid text ≡ true
plain [] h = refl
plain (b ∷ bs) h = (let r = firsts_by (is_name_byte b) (list_all is_name_byte bs) h in joined (not (b == 32)) (is_solid bs) (name_byte b r.0) (plain bs r.1))

by_kind : (escaped : Bool) (text : List ℕ) → is_part (record { text = text; escaped = escaped }) ≡ true → is_solid text ≡ true
by_kind true text h = printable text (firsts_by _ _ h).1
by_kind false text h = plain text (firsts_by _ _ h).1

parts_solid : (parts : List NamePart) → list_all is_part parts ≡ true → are_solid (map (λ (p : NamePart). p.text) parts) ≡ true
parts_solid [] h = refl
parts_solid (p ∷ ps) h = (let r = firsts_by (is_part p) (list_all is_part ps) h in joined (is_solid p.text) _ (by_kind p.escaped p.text r.0) (parts_solid ps r.1))

pub net_solid : (design : Design) (net : ℕ) → FitsDesign design → net < length design.nets → are_solid (texts_of design net) ≡ true
net_solid design net fits within = parts_solid (name_in design net).parts (fits.names net within).parts

-- where no name is this one, it has no nets
pub none_named : (design : Design) (name : Texts) (count : ℕ) → ((net : ℕ) → net < count → texts_of design net ≡ name → ⊥) → named_below design name count ≡ []
none_named design name zero none = refl
none_named design name (suc net) none =
    let rest = none_named design name net (λ k h e. none k (omega arith) e) in
    by (names_eq (texts_of design net) name) rest (names-Decides (texts_of design net) name).0 (none net (omega arith))
  where
    by : (b : Bool) → named_below design name net ≡ [] → (b ≡ true → texts_of design net ≡ name) → (texts_of design net ≡ name → ⊥) → named_below design name net ++ (if b then net ∷ [] else []) ≡ []
    by true rest said not_so = absurd (not_so (said refl))
    by false rest said not_so = append-nil (named_below design name net) ∙ rest

-- the nets with a name's key are those of the name
same_test : (design : Design) (name : Texts) (net : ℕ) → are_solid name ≡ true → are_solid (texts_of design net) ≡ true → bytes_eq (key_of name) (key_of (texts_of design net)) ≡ names_eq (texts_of design net) name
same_test design name net p q =
    let own = texts_of design net in
    let keys = bytes_eq-Decides (key_of name) (key_of own) in
    let by_key : Decides (bytes_eq (key_of name) (key_of own)) (own ≡ name) = (λ h. sym (same_key name own p q (keys.0 h)), λ h. keys.1 (ap key_of (sym h))) in
    same_from_decides _ _ by_key (names-Decides own name)

keyed_is : (design : Design) (name : Texts) (count : ℕ) → FitsDesign design → are_solid name ≡ true → count ≤ length design.nets → keyed_below design (key_of name) count ≡ named_below design name count
keyed_is design name zero fits solid within = refl
keyed_is design name (suc net) fits solid within =
    let rest = keyed_is design name net fits solid (omega arith) in
    let test = same_test design name net solid (net_solid design net fits (omega arith)) in
    rw (rest, test) refl

pub keyed_named : (design : Design) (name : Texts) (key : List ℕ) → FitsDesign design → IsKey name key → keyed_below design key (length design.nets) ≡ nets_of design name
keyed_named design name key fits is = ap (λ (k : List ℕ). keyed_below design k (length design.nets)) is.is ∙ (keyed_is design name (length design.nets) fits is.solid (omega arith))

-- a name that is longer than those of all nets has no nets
pub too_long : (design : Design) (name : Texts) (limit : ℕ) → ((net : ℕ) → net < length design.nets → length (key_of (texts_of design net)) ≤ limit) → limit < length (key_of name) → nets_of design name ≡ []
too_long design name limit long above =
    none_named design name (length design.nets) (λ net within same. (let e = ap (λ (t : Texts). length (key_of t)) same in let h = long net within in absurd (omega (arith, e, h))))
