-- What a variable comes to: bits are nets of the design, as many as it is wide.
use Rattle.std.proofs.Common.{◌≡◌, ℕ, zero, suc, ◌-◌, ◌<◌, ◌≤◌, ◌^◌, ◌==◌, Bool, true, false, ◌&&◌, List, [], ◌∷◌, ◌++◌, Option, None, Some, length, get_or, take, map, refl, sym, ap, subst, ◌∙◌, arith, if◌then◌else◌, All, slice_get, length-append}
use Rattle.std.proofs.lemmas.Bool.Decides.{Decides-eqb}
use Rattle.std.proofs.lemmas.List.Elements.{All-nil, All-push, All-take, All-append}
use Rattle.std.proofs.lemmas.List.{append-nil}
use Rattle.std.proofs.lemmas.Option.{slice_get_within, get_or_from_slice_get}
use Rattle.design_circuit.specs.declared.design.Design.{Design}
use Rattle.recording_reader.specs.Bytes.{without_range}
use Rattle.recording_reader.specs.Recording.{Recording, IsRecording, IsVariable, path_at, width_of}
use Rattle.recording_reader.specs.declared.variable.Variable.{Variable}
use Rattle.recording_binding.specs.Binding.{FitsBound}
use Rattle.recording_binding.specs.Bits.{from_index, ends_at, bits_if, bits_of, matched_by, has_index}
use Rattle.recording_binding.specs.Bounds.{IsOf, bound_of, bound_by, bound_in, bound_below, bounds_of}
use Rattle.recording_binding.specs.Holding.{FitsHeld}
use Rattle.recording_binding.specs.Naming.{Texts, texts_of, names_eq, named_below, nets_of}
use Rattle.recording_binding.specs.Telling.{Standing, Apart, Above, Within, standing_of, bare, tried, as_recorded, or_else, matched_in, matched}
use Rattle.recording_binding.specs.declared.binding.Bound.{Bound}
use Rattle.recording_binding.specs.declared.bits.Matched.{Matched}
use Rattle.recording_binding.specs.declared.bits.Matched.TheVariants.{Nothing, Differs, Bits}
use Rattle.recording_binding.proofs.BitLemmas.{from_within}

abbrev pub IsNet : Design → ℕ → Type 0
IsNet design net = net < length design.nets

pub record AreBits (design : Design) (width : ℕ) (bits : List ℕ) : Type 0 where
  pub nets : All (IsNet design) bits
  pub wide : length bits ≡ width

abbrev pub FitsMatched : Design → ℕ → Matched → Type 0
FitsMatched design width Nothing = Unit {0}
FitsMatched design width Differs = Unit {0}
FitsMatched design width (Bits bits) = AreBits design width bits

named_by : (b : Bool) (P : ℕ → Type 0) (nets : List ℕ) (net : ℕ) → All P nets → P net → All P (nets ++ (if b then net ∷ [] else []))
named_by true P nets net all here = All-push P nets net all here
named_by false P nets net all here = subst (λ (l : List ℕ). All P l) (sym (append-nil nets)) all

named_within : (P : ℕ → Type 0) (design : Design) (name : Texts) (count : ℕ) → ((net : ℕ) → net < count → P net) → All P (named_below design name count)
named_within P design name zero each = All-nil P
named_within P design name (suc net) each = named_by (names_eq (texts_of design net) name) P (named_below design name net) net (named_within P design name net (λ k h. each k (omega arith))) (each net (omega arith))

pub nets_within : (design : Design) (name : Texts) → All (IsNet design) (nets_of design name)
nets_within design name = named_within (IsNet design) design name (length design.nets) (λ net h. h)

bits_fit : (design : Design) (width : ℕ) (b : Bool) (bits : List ℕ) → All (IsNet design) bits → (b ≡ true → length bits ≡ width) → FitsMatched design width (bits_if b bits)
bits_fit design width true bits all wide = record { nets = all; wide = wide refl }
bits_fit design width false bits all wide = tt

first_true : (a b : Bool) → (a && b) ≡ true → a ≡ true
first_true true b h = refl
first_true false b h = absurd cc

bits_of_fit : (design : Design) (nets : List ℕ) (range : Option (ℕ × ℕ)) (width : ℕ) → All (IsNet design) nets → FitsMatched design width (bits_of design nets range width)
bits_of_fit design nets None width all = bits_fit design width (length nets == width) nets all (λ h. (Decides-eqb (length nets) width).0 h)
bits_of_fit design nets (Some r) width all =
    let bits = take width (from_index design r.0 nets) in
    bits_fit design width (ends_at design r.1 width bits) bits (All-take (IsNet design) width (from_index design r.0 nets) (from_within (IsNet design) design r.0 nets all))
    (λ h. (Decides-eqb (length bits) width).0 (first_true (length bits == width) (has_index design r.1 (get_or bits (width - 1) 0)) h))

matched_fit : (design : Design) (nets : List ℕ) (range : Option (ℕ × ℕ)) (width : ℕ) → All (IsNet design) nets → FitsMatched design width (matched_by design nets range width)
matched_fit design [] range width all = tt
matched_fit design (net ∷ nets) range width all = bits_of_fit design (net ∷ nets) range width all

tried_fit : (design : Design) (names : Texts) (reference : List ℕ) (range : Option (ℕ × ℕ)) (width : ℕ) → FitsMatched design width (tried design names reference range width)
tried_fit design names reference range width = matched_fit design (nets_of design (names ++ bare reference ∷ [])) range width (nets_within design (names ++ bare reference ∷ []))

or_fit : (design : Design) (width : ℕ) (m next : Matched) → FitsMatched design width m → FitsMatched design width next → FitsMatched design width (or_else m next)
or_fit design width Nothing next a b = b
or_fit design width Differs next a b = tt
or_fit design width (Bits bits) next a b = a

if_fit : (design : Design) (width : ℕ) (b : Bool) (m : Matched) → FitsMatched design width m → FitsMatched design width (if b then m else Nothing)
if_fit design width true m h = h
if_fit design width false m h = tt

told_fit : (design : Design) (s : Standing) (v : Variable) → FitsMatched design v.width (matched_in design s v)
told_fit design Apart v = tt
told_fit design (Above names) v = tt
told_fit design (Within names) v =
    or_fit design v.width (as_recorded design (map bare names) v) (tried design (map bare names) (without_range v.direct v.reference) v.range v.width)
    (if_fit design v.width v.direct (tried design (map bare names) v.reference None v.width) (tried_fit design (map bare names) v.reference None v.width))
    (tried_fit design (map bare names) (without_range v.direct v.reference) v.range v.width)

pub bits_are : (design : Design) (scope : Texts) (recording : Recording) (v : Variable) (bits : List ℕ) → Bits bits ≡ matched design scope recording v → AreBits design v.width bits
bits_are design scope recording v bits is = subst (λ (m : Matched). FitsMatched design v.width m) (sym is) (told_fit design (standing_of scope (path_at recording.scopes v.scope)) v)

-- what each bound variable is
pub record IsGood (design : Design) (recording : Recording) (b : Bound) : Type 0 where
  pub of : IsOf recording b
  pub fits : FitsBound design b
  pub held : FitsHeld design b

good_by : (design : Design) (recording : Recording) (number : ℕ) (v : Variable) (m : Matched) → slice_get recording.variables number ≡ Some v → 1 ≤ v.width → v.width ≤ 2 ^ 20 → FitsMatched design v.width m → All (IsGood design recording) (bound_by design recording number v m)
good_by design recording number v Nothing at some wide fits = All-nil (IsGood design recording)
good_by design recording number v Differs at some wide fits = All-nil (IsGood design recording)
good_by design recording number v (Bits bits) at some wide fits =
    let w = fits.wide in
    let good : IsGood design recording (bound_of design recording number v bits) = record {
      of = record { known = slice_get_within recording.variables number v at; wide = w ∙ sym (ap width_of at) };
      fits = record { some = omega (arith, w, some); few = (let e : length bits ≤ v.width = omega (arith, w) in omega (arith, e, wide)); nets = fits.nets };
      held = record { nets = fits.nets; few = (let e : length bits ≤ v.width = omega (arith, w) in omega (arith, e, wide)) };
    } in
    All-push (IsGood design recording) [] (bound_of design recording number v bits) (All-nil (IsGood design recording)) good

good_in : (design : Design) (scope : Texts) (recording : Recording) (number : ℕ) (o : Option Variable) → slice_get recording.variables number ≡ o → IsRecording recording → All (IsGood design recording) (bound_in design scope recording number o)
good_in design scope recording number None at is = All-nil (IsGood design recording)
good_in design scope recording number (Some v) at is =
    let within = slice_get_within recording.variables number v at in
    let own : IsVariable (length recording.scopes) v = subst (λ (u : Variable). IsVariable (length recording.scopes) u) (get_or_from_slice_get recording.variables number v v at) (is.variables number v within) in
    good_by design recording number v (matched design scope recording v) at own.some own.wide (told_fit design (standing_of scope (path_at recording.scopes v.scope)) v)

good_below : (design : Design) (scope : Texts) (recording : Recording) (count : ℕ) → IsRecording recording → All (IsGood design recording) (bound_below design scope recording count)
good_below design scope recording zero is = All-nil (IsGood design recording)
good_below design scope recording (suc number) is =
    All-append (IsGood design recording) (bound_below design scope recording number) (bound_in design scope recording number (slice_get recording.variables number))
    (good_below design scope recording number is) (good_in design scope recording number (slice_get recording.variables number) refl is)

pub all_good : (design : Design) (scope : Texts) (recording : Recording) (bound : List Bound) → IsRecording recording → bound ≡ bounds_of design scope recording → All (IsGood design recording) bound
all_good design scope recording bound is same = subst (λ (bs : List Bound). All (IsGood design recording) bs) (sym same) (good_below design scope recording (length recording.variables) is)

in_long : (design : Design) (scope : Texts) (recording : Recording) (number : ℕ) (o : Option Variable) → length (bound_in design scope recording number o) ≤ 1
in_long design scope recording number None = omega arith
in_long design scope recording number (Some v) = by_long design recording number v (matched design scope recording v)
  where
    by_long : (design : Design) (recording : Recording) (number : ℕ) (v : Variable) (m : Matched) → length (bound_by design recording number v m) ≤ 1
    by_long design recording number v Nothing = omega arith
    by_long design recording number v Differs = omega arith
    by_long design recording number v (Bits bits) = omega arith

pub few_below : (design : Design) (scope : Texts) (recording : Recording) (count : ℕ) → length (bound_below design scope recording count) ≤ count
few_below design scope recording zero = omega arith
few_below design scope recording (suc number) =
    let more = bound_in design scope recording number (slice_get recording.variables number) in
    let one : length more ≤ 1 = in_long design scope recording number (slice_get recording.variables number) in
    let rest = few_below design scope recording number in
    omega (arith, length-append (bound_below design scope recording number) more, one, rest)
