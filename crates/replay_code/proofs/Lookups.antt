-- The net of a name, found among those of its texts.
use Rattle.std.proofs.Common.{◌≡◌, ℕ, zero, suc, ◌<◌, ◌≤◌, Bool, true, false, ◌&&◌, Option, None, Some, List, [], ◌∷◌, ◌++◌, length, get_or, refl, sym, ap, ◌∙◌, subst, ⊎_elim, arith, if◌then◌else◌, Contains}
use Rattle.std.proofs.lemmas.Bool.{cases_lt, eq-eqb}
use Rattle.std.proofs.lemmas.Bool.Decides.{nat_tests}
use Rattle.std.proofs.lemmas.Grind.{get_or_default_zero}
use Rattle.std.proofs.lemmas.List.{append-nil, get_or-map}
use Rattle.std.proofs.lemmas.List.Elements.{Contains-append_left, Contains-push, Contains-push_cases}
use Rattle.design_circuit.specs.Design.{FitsDesign, Spelling, name_in, no_name, spelling_of}
use Rattle.design_circuit.specs.declared.design.Design.{Design}
use Rattle.design_circuit.specs.declared.design.Driver.TheVariants.{Undriven}
use Rattle.design_circuit.specs.declared.design.Net.{Net}
use Rattle.recording_binding.specs.Keys.{are_solid}
use Rattle.recording_binding.specs.Naming.{Texts, index_of, named_below, names_eq, nets_of, texts_of}
use Rattle.recording_binding.proofs.NameLemmas.{names-Decides, net_solid}
use Rattle.replay_code.specs.Found.{IsFoundNet}
use Rattle.replay_code.specs.Lookup.{is_name, net_of, same_index}
use Rattle.replay_code.proofs.Places.{position_is, position_none, position_within}

-- The nets of a name among the first so many are those that have it.
record IsNamed (design : Design) (texts : Texts) (count net : ℕ) : Type 0 where
  within : net < count
  named : names_eq (texts_of design net) texts ≡ true

named_so : (design : Design) (texts : Texts) (count net : ℕ) → Contains (named_below design texts count) net → IsNamed design texts count net
named_so design texts zero net has = absurd (omega (arith, has.1))
named_so design texts (suc count) net has = by (named_so design texts count net) (names_eq (texts_of design count) texts) refl has
  where
    old : IsNamed design texts count net → IsNamed design texts (suc count) net
    old is = record { within = (let low = is.within in omega (arith, low)); named = is.named }

    last : names_eq (texts_of design count) texts ≡ true → count ≡ net → IsNamed design texts (suc count) net
    last named same = record { within = omega (arith, same); named = subst (λ (n : ℕ). names_eq (texts_of design n) texts ≡ true) same named }

    by : (Contains (named_below design texts count) net → IsNamed design texts count net) → (b : Bool) → names_eq (texts_of design count) texts ≡ b → Contains (named_below design texts count ++ (if b then count ∷ [] else [])) net → IsNamed design texts (suc count) net
    by earlier true named has = ⊎_elim (λ h. old (earlier h)) (last named) (Contains-push_cases (named_below design texts count) count net has)
    by earlier false named has = old (earlier (subst (λ (l : List ℕ). Contains l net) (append-nil (named_below design texts count)) has))

so_named : (design : Design) (texts : Texts) (count net : ℕ) → net < count → names_eq (texts_of design net) texts ≡ true → Contains (named_below design texts count) net
so_named design texts zero net within named = absurd (omega arith)
so_named design texts (suc count) net within named = ⊎_elim (λ (less : net < count). old (so_named design texts count net less named)) last (cases_lt net count)
  where
    rest : List ℕ
    rest = if names_eq (texts_of design count) texts then count ∷ [] else []

    old : Contains (named_below design texts count) net → Contains (named_below design texts count ++ rest) net
    old has = Contains-append_left (named_below design texts count) rest net has

    last : count ≤ net → Contains (named_below design texts count ++ rest) net
    last more =
        let same : net ≡ count = omega (arith, more, within) in
        let test : names_eq (texts_of design count) texts ≡ true = subst (λ (n : ℕ). names_eq (texts_of design n) texts ≡ true) same named in
        rw (test, same) (Contains-push (named_below design texts count) count)

-- the test of a net by its number
no_net : Net
no_net = record { path = no_name; driver = Undriven }

abbrev tested : Design → Texts → Option ℕ → ℕ → Bool
tested design texts index net = names_eq (texts_of design net) texts && same_index (index_of design net) index

tested_at : (design : Design) (texts : Texts) (index : Option ℕ) (net : ℕ) → net < length design.nets → is_name texts index (get_or design.nets net no_net).path ≡ tested design texts index net
tested_at design texts index net within =
    let at : name_in design net ≡ (get_or design.nets net no_net).path = get_or-map (λ (n : Net). n.path) design.nets net no_net no_name within in
    ap (is_name texts index) (sym at)

both : (a b : Bool) → (a && b) ≡ true → (a ≡ true) × (b ≡ true)
both true b h = (refl, h)
both false b h = absurd cc

not_first : (a b : Bool) → a ≡ false → (a && b) ≡ false
not_first a b h = ap (λ (x : Bool). x && b) h

pub same_index_is : (own index : Option ℕ) → same_index own index ≡ true → own ≡ index
same_index_is None None h = refl
same_index_is None (Some index) h = absurd cc
same_index_is (Some own) None h = absurd cc
same_index_is (Some own) (Some index) h = (let same : own ≡ index = grind (arith, nat_tests) in ap Some same)

-- No two nets have a name.
one_net : (design : Design) (texts : Texts) (index : Option ℕ) (net other : ℕ) → FitsDesign design → net < length design.nets → other < length design.nets → tested design texts index net ≡ true → tested design texts index other ≡ true → net ≡ other
one_net design texts index net other fits within below_too first second =
    let p = both (names_eq (texts_of design net) texts) (same_index (index_of design net) index) first in
    let q = both (names_eq (texts_of design other) texts) (same_index (index_of design other) index) second in
    let same_texts : texts_of design net ≡ texts_of design other = (names-Decides (texts_of design net) texts).0 p.0 ∙ sym ((names-Decides (texts_of design other) texts).0 q.0) in
    let same_bits : index_of design net ≡ index_of design other = same_index_is (index_of design net) index p.1 ∙ sym (same_index_is (index_of design other) index q.1) in
    fits.distinct net other within below_too (spelled_same (spelling_of (name_in design net)) (spelling_of (name_in design other)) same_texts same_bits)
  where
    spelled_same : (a b : Spelling) → a.texts ≡ b.texts → a.index ≡ b.index → a ≡ b
    spelled_same a b t i = λ k. record { texts = t k; index = i k }

named_net : (design : Design) (texts : Texts) (index : Option ℕ) (net : ℕ) → FitsDesign design → net < length design.nets → tested design texts index net ≡ true → Some net ≡ net_of design texts index
named_net design texts index net fits within test =
    sym (position_is (λ (n : Net). is_name texts index n.path) design.nets net no_net within before (tested_at design texts index net within ∙ test))
  where
    by : (other : ℕ) → other < net → (b : Bool) → tested design texts index other ≡ b → b ≡ false
    by other less true is = (let same : other ≡ net = one_net design texts index other net fits (omega arith) within is test in absurd (omega arith))
    by other less false is = refl

    before : (other : ℕ) → other < net → is_name texts index (get_or design.nets other no_net).path ≡ false
    before other less = tested_at design texts index other (omega arith) ∙ by other less (tested design texts index other) refl

same_index_self : (index : Option ℕ) → same_index index index ≡ true
same_index_self None = refl
same_index_self (Some index) = eq-eqb index index refl

-- A net is found by its own name.
pub own_net : (design : Design) (net : ℕ) → FitsDesign design → net < length design.nets → net_of design (texts_of design net) (index_of design net) ≡ Some net
own_net design net fits within =
    let texts : names_eq (texts_of design net) (texts_of design net) ≡ true = (names-Decides (texts_of design net) (texts_of design net)).1 refl in
    sym (named_net design (texts_of design net) (index_of design net) net fits within (ap (λ b. b && same_index (index_of design net) (index_of design net)) texts ∙ same_index_self (index_of design net)))

unnamed : (design : Design) (texts : Texts) (index : Option ℕ) → ((net : ℕ) → net < length design.nets → tested design texts index net ≡ false) → None ≡ net_of design texts index
unnamed design texts index none =
    sym (position_none (λ (n : Net). is_name texts index n.path) design.nets no_net (λ net within. tested_at design texts index net within ∙ none net within))

-- What is found among the nets of a name's texts is the net of the name.
pub found_is : (design : Design) (texts : Texts) (index : Option ℕ) (nets : List ℕ) (net : Option ℕ) → FitsDesign design → nets ≡ nets_of design texts → IsFoundNet design nets index net → net ≡ net_of design texts index
found_is design texts index nets (Some net) fits is found =
    let named = named_so design texts (length design.nets) net (subst (λ (l : List ℕ). Contains l net) is found.0) in
    named_net design texts index net fits named.within (rw (named.named, found.1) refl)
found_is design texts index nets None fits is found = unnamed design texts index none
  where
    at : (net : ℕ) → Contains nets net → same_index (index_of design net) index ≡ false
    at net has =
        let here : get_or nets has.0 0 ≡ net = sym (get_or_default_zero nets has.0 net has.1) ∙ has.2 in
        subst (λ (n : ℕ). same_index (index_of design n) index ≡ false) here (found has.0 has.1)

    by : (net : ℕ) → net < length design.nets → (b : Bool) → names_eq (texts_of design net) texts ≡ b → (b && same_index (index_of design net) index) ≡ false
    by net within true named = at net (subst (λ (l : List ℕ). Contains l net) (sym is) (so_named design texts (length design.nets) net within named))
    by net within false named = refl

    none : (net : ℕ) → net < length design.nets → tested design texts index net ≡ false
    none net within = by net within (names_eq (texts_of design net) texts) refl

-- A name with a space has no net.
pub unsolid_is : (design : Design) (texts : Texts) (index : Option ℕ) → FitsDesign design → are_solid texts ≡ false → None ≡ net_of design texts index
unsolid_is design texts index fits spaced = unnamed design texts index none
  where
    by : (net : ℕ) → net < length design.nets → (b : Bool) → names_eq (texts_of design net) texts ≡ b → (b && same_index (index_of design net) index) ≡ false
    by net within true named =
        let same : texts_of design net ≡ texts = (names-Decides (texts_of design net) texts).0 named in
        let solid : are_solid texts ≡ true = subst (λ (t : Texts). are_solid t ≡ true) same (net_solid design net fits within) in
        absurd cc
    by net within false named = refl

    none : (net : ℕ) → net < length design.nets → tested design texts index net ≡ false
    none net within = by net within (names_eq (texts_of design net) texts) refl

pub net_within : (design : Design) (texts : Texts) (index : Option ℕ) (net : ℕ) → net_of design texts index ≡ Some net → net < length design.nets
net_within design texts index net is = position_within (λ (n : Net). is_name texts index n.path) design.nets net is
