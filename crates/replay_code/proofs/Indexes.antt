-- The index of a net that a path names.
use Rattle.std.proofs.Common.{◌≡◌, ℕ, ◌<◌, ◌^◌, Bool, true, false, cond, Option, None, Some, length, get_or, nat_lt, refl, ap, ◌∙◌, subst}
use Rattle.std.specs.List.{position_or_len}
use Rattle.std.proofs.lemmas.Bool.{ltb-true}
use Rattle.std.proofs.lemmas.List.{get_or-map}
use Rattle.std.proofs.lemmas.List.Sums.{passes_at_first}
use Rattle.design_circuit.specs.Design.{FitsDesign, FitsIndex, name_in, no_name, spelling_of}
use Rattle.design_circuit.specs.declared.design.Design.{Design}
use Rattle.design_circuit.specs.declared.design.Driver.TheVariants.{Undriven}
use Rattle.design_circuit.specs.declared.design.Net.{Net}
use Rattle.recording_binding.specs.Naming.{Texts, names_eq}
use Rattle.replay_code.specs.Lookup.{is_name, net_of, same_index}
use Rattle.replay_code.proofs.Lookups.{same_index_is}
use Rattle.base_scan.proofs.Fronts.{both}

nowhere : Net
nowhere = record { path = no_name; driver = Undriven }

-- The net that is found has the index.
has_index : (design : Design) (texts : Texts) (index : Option ℕ) (net : ℕ) → net_of design texts index ≡ Some net → (net < length design.nets) × ((name_in design net).bit ≡ index)
has_index design texts index net is = by (nat_lt first (length design.nets)) refl is
  where
    test : Net → Bool
    test n = is_name texts index n.path

    first : ℕ
    first = position_or_len test design.nets

    here : first < length design.nets → (name_in design first).bit ≡ index
    here within =
        let passes : is_name texts index (get_or design.nets first nowhere).path ≡ true = passes_at_first test design.nets nowhere within in
        let own = (get_or design.nets first nowhere).path in
        let at : name_in design first ≡ own = get_or-map (λ (n : Net). n.path) design.nets first nowhere no_name within in
        ap (λ (n : _). n.bit) at ∙ same_index_is own.bit index (both (names_eq (spelling_of own).texts texts) (same_index own.bit index) passes).1

    by : (b : Bool) → nat_lt first (length design.nets) ≡ b → cond b (Some first) None ≡ Some net → (net < length design.nets) × ((name_in design net).bit ≡ index)
    by true less same =
        let within = ltb-true first (length design.nets) less in
        let at : first ≡ net = cc in
        (subst (λ (n : ℕ). n < length design.nets) at within, subst (λ (n : ℕ). (name_in design n).bit ≡ index) at (here within))
    by false less same = absurd cc

-- So it is below 2^31.
pub index_small : (design : Design) (texts : Texts) (index net : ℕ) → FitsDesign design → net_of design texts (Some index) ≡ Some net → index < 2 ^ 31
index_small design texts index net fits is =
    let has = has_index design texts (Some index) net is in
    subst (λ (i : Option ℕ). FitsIndex i) has.1 (fits.names net has.0).index
