-- The bits of a variable are a part of the nets of its name.
use Rattle.std.proofs.Common.{◌≡◌, ℕ, ◌==◌, Bool, true, false, List, [], ◌∷◌, ◌++◌, Option, None, Some, length, take, drop, map, refl, sym, ap, subst, ◌∙◌, bytes_eq, if◌then◌else◌, append_assoc, inl, inr}
use Rattle.std.proofs.lemmas.List.{append-nil, take-append-drop}
use Rattle.std.proofs.lemmas.Slice.Eq.{bytes_eq-Decides}
use Rattle.design_circuit.specs.declared.design.Design.{Design}
use Rattle.recording_reader.specs.Bytes.{without_range}
use Rattle.recording_reader.specs.Recording.{Recording, path_at}
use Rattle.recording_reader.specs.declared.variable.Variable.{Variable}
use Rattle.recording_binding.specs.Bits.{has_index, from_index, ends_at, bits_if, bits_of, matched_by}
use Rattle.recording_binding.specs.Laws.{IsPart, Tells}
use Rattle.recording_binding.specs.Naming.{Texts, nets_of}
use Rattle.recording_binding.specs.Telling.{Standing, Apart, Above, Within, standing_of, bare, tried, as_recorded, or_else, matched_in, matched}
use Rattle.recording_binding.specs.declared.bits.Matched.{Matched}
use Rattle.recording_binding.specs.declared.bits.Matched.TheVariants.{Nothing, Differs, Bits}

record Part (nets bits : List ℕ) : Type 0 where
  before : List ℕ
  after : List ℕ
  is : nets ≡ before ++ bits ++ after

whole : (nets : List ℕ) → Part nets nets
whole nets = record { before = []; after = []; is = sym (append-nil nets) }

record Rest (nets rest : List ℕ) : Type 0 where
  before : List ℕ
  is : nets ≡ before ++ rest

rest_by : (b : Bool) (net : ℕ) (nets rest : List ℕ) → Rest nets rest → Rest (net ∷ nets) (if b then net ∷ nets else rest)
rest_by true net nets rest r = record { before = []; is = refl }
rest_by false net nets rest r = record { before = net ∷ r.before; is = ap (λ (l : List ℕ). net ∷ l) r.is }

rest_of : (design : Design) (index : ℕ) (nets : List ℕ) → Rest nets (from_index design index nets)
rest_of design index [] = record { before = []; is = refl }
rest_of design index (net ∷ nets) = rest_by (has_index design index net) net nets (from_index design index nets) (rest_of design index nets)

front : (nets rest : List ℕ) (width : ℕ) → Rest nets rest → Part nets (take width rest)
front nets rest width r =
    record { before = r.before; after = drop width rest; is = r.is ∙ ap (λ (l : List ℕ). r.before ++ l) (sym (take-append-drop width rest)) ∙ sym (append_assoc r.before (take width rest) (drop width rest)) }

if_part : (nets own bits : List ℕ) (b : Bool) → Part nets own → bits_if b own ≡ Bits bits → Part nets bits
if_part nets own bits true p h = (let e : own ≡ bits = cc in subst (λ (l : List ℕ). Part nets l) e p)
if_part nets own bits false p h = absurd cc

part_of_bits : (design : Design) (nets : List ℕ) (range : Option (ℕ × ℕ)) (width : ℕ) (bits : List ℕ) → bits_of design nets range width ≡ Bits bits → Part nets bits
part_of_bits design nets None width bits h = if_part nets nets bits (length nets == width) (whole nets) h
part_of_bits design nets (Some r) width bits h =
    if_part nets (take width (from_index design r.0 nets)) bits (ends_at design r.1 width (take width (from_index design r.0 nets))) (front nets (from_index design r.0 nets) width (rest_of design r.0 nets)) h

by_name : (design : Design) (nets : List ℕ) (range : Option (ℕ × ℕ)) (width : ℕ) (bits : List ℕ) → matched_by design nets range width ≡ Bits bits → Part nets bits
by_name design [] range width bits h = absurd cc
by_name design (net ∷ nets) range width bits h = part_of_bits design (net ∷ nets) range width bits h

-- a path that stands at or below
under_by : (b : Bool) (s p : List ℕ) (scope path names : Texts) → bytes_eq s p ≡ b → (standing_of scope path ≡ Within names → path ≡ scope ++ names) → (if b then standing_of scope path else Apart) ≡ Within names → p ∷ path ≡ s ∷ (scope ++ names)
under_by true s p scope path names is rest h = (let e : s ≡ p = (bytes_eq-Decides s p).0 is in let f = rest h in cc)
under_by false s p scope path names is rest h = absurd cc

under : (scope path names : Texts) → standing_of scope path ≡ Within names → path ≡ scope ++ names
under [] path names h = cc
under (s ∷ scope) [] names h = absurd cc
under (s ∷ scope) (p ∷ path) names h = under_by (bytes_eq s p) s p scope path names refl (under scope path names) h

record Told (design : Design) (names : Texts) (v : Variable) (bits : List ℕ) : Type 0 where
  text : List ℕ
  tells : Tells v text
  part : Part (nets_of design (names ++ bare text ∷ [])) bits

recorded_by : (design : Design) (names : Texts) (v : Variable) (bits : List ℕ) (b : Bool) → v.direct ≡ b → (if b then tried design names v.reference None v.width else Nothing) ≡ Bits bits → Told design names v bits
recorded_by design names v bits true is h = record { text = v.reference; tells = inl (is, refl); part = by_name design (nets_of design (names ++ bare v.reference ∷ [])) None v.width bits h }
recorded_by design names v bits false is h = absurd cc

else_by : (design : Design) (names : Texts) (v : Variable) (bits : List ℕ) (m : Matched) → (m ≡ Bits bits → Told design names v bits) → or_else m (tried design names (without_range v.direct v.reference) v.range v.width) ≡ Bits bits → Told design names v bits
else_by design names v bits Nothing first h =
    record { text = without_range v.direct v.reference; tells = inr refl; part = by_name design (nets_of design (names ++ bare (without_range v.direct v.reference) ∷ [])) v.range v.width bits h }
else_by design names v bits Differs first h = absurd cc
else_by design names v bits (Bits own) first h = first h

part_by : (design : Design) (scope : Texts) (recording : Recording) (v : Variable) (bits : List ℕ) (s : Standing) → standing_of scope (path_at recording.scopes v.scope) ≡ s → matched_in design s v ≡ Bits bits → IsPart design scope recording v bits
part_by design scope recording v bits Apart is h = absurd cc
part_by design scope recording v bits (Above names) is h = absurd cc
part_by design scope recording v bits (Within names) is h =
    let t = else_by design (map bare names) v bits (as_recorded design (map bare names) v) (recorded_by design (map bare names) v bits v.direct refl) h in
    record { names = names; text = t.text; before = t.part.before; after = t.part.after; under = under scope (path_at recording.scopes v.scope) names is; tells = t.tells; nets = t.part.is }

pub part_is : (design : Design) (scope : Texts) (recording : Recording) (v : Variable) (bits : List ℕ) → matched design scope recording v ≡ Bits bits → IsPart design scope recording v bits
part_is design scope recording v bits h = part_by design scope recording v bits (standing_of scope (path_at recording.scopes v.scope)) refl h
