-- Names with spaces, or longer than those of all nets, have no nets.
use Rattle.std.proofs.Common.{◌≡◌, ℕ, ◌+◌, ◌<◌, Bool, true, false, ◌&&◌, List, [], ◌∷◌, ◌++◌, length, map, refl, sym, ap, ◌∙◌, arith, append_assoc, length-append}
use Rattle.std.proofs.lemmas.List.{append-nil}
use Rattle.design_circuit.specs.Design.{FitsDesign}
use Rattle.design_circuit.specs.declared.design.Design.{Design}
use Rattle.recording_binding.specs.Naming.{Texts, texts_of, nets_of}
use Rattle.recording_binding.specs.Keys.{IsKey, key_of, is_solid, are_solid}
use Rattle.recording_binding.specs.Scopes.{BindsNothing}
use Rattle.recording_binding.specs.Telling.{bare}
use Rattle.recording_binding.proofs.NameLemmas.{none_named, net_solid}

pub key_append : (a b : Texts) → key_of (a ++ b) ≡ key_of a ++ key_of b
key_append [] b = refl
key_append (t ∷ ts) b = ap (λ (l : List ℕ). t ++ 32 ∷ l) (key_append ts b) ∙ sym (append_assoc t (32 ∷ key_of ts) (key_of b))

and_assoc : (a b c : Bool) → (a && (b && c)) ≡ ((a && b) && c)
and_assoc true b c = refl
and_assoc false b c = refl

pub solid_append : (a b : Texts) → are_solid (a ++ b) ≡ (are_solid a && are_solid b)
solid_append [] b = refl
solid_append (t ∷ ts) b = ap (λ (x : Bool). is_solid t && x) (solid_append ts b) ∙ and_assoc (is_solid t) (are_solid ts) (are_solid b)

and_false : (a b c : Bool) → b ≡ false → (a && (b && c)) ≡ false
and_false true b c h = ap (λ (x : Bool). x && c) h
and_false false b c h = refl

and_true : (a b : Bool) → a ≡ true → b ≡ true → (a && (b && true)) ≡ true
and_true a b p q = rw (p, q) refl

-- one text more
pub key_more : (below : Texts) (key text : List ℕ) → IsKey below key → is_solid text ≡ true → IsKey (below ++ text ∷ []) ((key ++ text) ++ 32 ∷ [])
key_more below key text k solid = record {
  is = ap (λ (l : List ℕ). (l ++ text) ++ 32 ∷ []) k.is ∙ append_assoc (key_of below) text (32 ∷ []) ∙ sym (key_append below (text ∷ []));
  solid = solid_append below (text ∷ []) ∙ and_true (are_solid below) (is_solid text) k.solid solid;
}

unsolid_none : (design : Design) (name : Texts) → FitsDesign design → are_solid name ≡ false → nets_of design name ≡ []
unsolid_none design name fits not_so =
    none_named design name (length design.nets) (λ net within same. (let solid = net_solid design net fits within in let e : are_solid (texts_of design net) ≡ are_solid name = ap are_solid same in absurd cc))

behind : (below : Texts) (text : List ℕ) (more : Texts) → (below ++ text ∷ []) ++ more ≡ below ++ text ∷ more
behind below text more = append_assoc below (text ∷ []) more

-- a text with a space
pub spaced : (design : Design) (below : Texts) (text : List ℕ) → FitsDesign design → is_solid text ≡ false → BindsNothing design (below ++ text ∷ [])
spaced design below text fits not_so = record {
  none = λ more.
      (let e = behind below text more in
      let bad : are_solid (below ++ text ∷ more) ≡ false = solid_append below (text ∷ more) ∙ and_false (are_solid below) (is_solid text) (are_solid more) not_so in
      ap (nets_of design) e ∙ unsolid_none design (below ++ text ∷ more) fits bad);
}

-- a key that is longer than that of any net
pub lengthy : (design : Design) (below : Texts) (key text : List ℕ) (limit : ℕ) → IsKey below key → limit < length key + length text + 1
    → ((name : Texts) → limit < length (key_of name) → nets_of design name ≡ []) → BindsNothing design (below ++ text ∷ [])
lengthy design below key text limit k above none = record {
  none = λ more.
      (let e = behind below text more in
      let whole : length (key_of (below ++ text ∷ more)) ≡ length (key_of below ++ (text ++ 32 ∷ key_of more)) = ap (λ (l : List ℕ). length l) (key_append below (text ∷ more)) in
      let front : length (key_of below ++ (text ++ 32 ∷ key_of more)) ≡ length (key_of below) + length (text ++ 32 ∷ key_of more) = length-append (key_of below) (text ++ 32 ∷ key_of more) in
      let back : length (text ++ 32 ∷ key_of more) ≡ length text + length (32 ∷ key_of more) = length-append text (32 ∷ key_of more) in
      let own : length key ≡ length (key_of below) = ap (λ (l : List ℕ). length l) k.is in
      let long : limit < length (key_of (below ++ text ∷ more)) = omega (arith, whole, front, back, own, above) in
      ap (nets_of design) e ∙ none (below ++ text ∷ more) long);
}

-- what holds of the names below holds of those below one more
pub nothing_more : (design : Design) (names : Texts) (text : List ℕ) → BindsNothing design names → BindsNothing design (names ++ text ∷ [])
nothing_more design names text n = record { none = λ more. ap (nets_of design) (behind names text more) ∙ n.none (text ∷ more) }

pub bare_more : (below : Texts) (name : List ℕ) → map bare (below ++ name ∷ []) ≡ map bare below ++ bare name ∷ []
bare_more [] name = refl
bare_more (b ∷ bs) name = ap (λ (l : Texts). bare b ∷ l) (bare_more bs name)

pub spaced_none : (design : Design) (below : Texts) (text : List ℕ) → FitsDesign design → is_solid text ≡ false → nets_of design (below ++ text ∷ []) ≡ []
spaced_none design below text fits not_so = ap (nets_of design) (sym (append-nil (below ++ text ∷ []))) ∙ (spaced design below text fits not_so).none []
