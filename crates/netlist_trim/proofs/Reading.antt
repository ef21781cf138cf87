-- Definitions one after the other.
use Rattle.std.proofs.Common.{◌≡◌, ℕ, ◌<◌, ◌≤◌, Bool, true, false, cond, List, [], ◌∷◌, ◌++◌, length, sym, ap, subst, ◌∙◌, arith, Result, Ok, Err, Vec, Global}
use Rattle.std.specs.Result.{IsErrAnd}
use Rattle.std.proofs.lemmas.List.{append_assoc}
use Rattle.netlist_trim.specs.Shown.{Shown, Stream}
use Rattle.netlist_trim.specs.Definition.{Defined, Defines, Unclosed, closes, from_first, opens}
use Rattle.netlist_trim.specs.Reads.{IsDefinition, IsUnended, ReadsAll, Stays}
use Rattle.netlist_trim.specs.declared.fault.TrimErr.{TrimErr}
use Rattle.netlist_trim.specs.declared.fault.TrimErr.TheVariants.{Refused, Memory}
use Rattle.netlist_trim.specs.declared.fault.TrimFault.TheVariants.{Token, Open, NoTop}

-- ---- lengths

shorter_by : (b : Bool) (t : Shown) (ts rest : List Shown) → length rest ≤ length ts
    → length (cond b (t ∷ ts) rest) ≤ length (t ∷ ts)
shorter_by true t ts rest h = omega arith
shorter_by false t ts rest h = omega arith

pub first_shortens : (p : Shown → Bool) (ts : List Shown) → length (from_first p ts) ≤ length ts
first_shortens p [] = omega arith
first_shortens p (t ∷ ts) = shorter_by (p t) t ts (from_first p ts) (first_shortens p ts)

pub after_shortens : (p : Shown → Bool) (ts rest : List Shown) (t : Shown) → from_first p ts ≡ t ∷ rest
    → length rest < length ts
after_shortens p ts rest t is = let h = first_shortens p ts in let k = ap length is in omega arith

pub definition_shortens : (ts : List Shown) (opening : Shown) (old new : Stream) (d : Defined)
    → from_first opens ts ≡ opening ∷ old.tokens → IsDefinition opening old d new → length new.tokens < length ts
definition_shortens ts opening old new d is read =
    let h = after_shortens opens ts old.tokens opening is in
    let k = ap length read.named in
    let l = after_shortens (closes opening) read.within new.tokens read.close read.at in
    omega arith

-- ---- a definition more

pub next_defined : (ts : List Shown) (opening : Shown) (old new : Stream) (d : Defined) (ds : List Defined)
    → from_first opens ts ≡ opening ∷ old.tokens → IsDefinition opening old d new → Defines new.tokens ds
    → Defines ts (d ∷ ds)
next_defined ts opening old new d ds is read rest =
    subst (λ (x : Defined). Defines ts (x ∷ ds)) (sym read.is)
    (Defines.next (is ∙ ap (λ (l : List Shown). opening ∷ l) read.named) read.at rest)

pub next_unclosed : (ts : List Shown) (opening : Shown) (old new : Stream) (d : Defined) (at : ℕ)
    → from_first opens ts ≡ opening ∷ old.tokens → IsDefinition opening old d new → Unclosed new.tokens at
    → Unclosed ts at
next_unclosed ts opening old new d at is read rest =
    Unclosed.later (is ∙ ap (λ (l : List Shown). opening ∷ l) read.named) read.at rest

pub added : (all ts : List Shown) (before found : List Defined) (opening : Shown) (old new : Stream) (d : Defined)
    (ds : List Defined) → from_first opens ts ≡ opening ∷ old.tokens → IsDefinition opening old d new
    → found ≡ before ++ d ∷ [] → ((more : List Defined) → Defines ts more → Defines all (before ++ more))
    → Defines new.tokens ds → Defines all (found ++ ds)
added all ts before found opening old new d ds is read pushed so_far rest =
    subst (Defines all) (sym (append_assoc before (d ∷ []) ds) ∙ ap (λ (l : List Defined). l ++ ds) (sym pushed))
    (so_far (d ∷ ds) (next_defined ts opening old new d ds is read rest))

-- ---- a definition that isn't closed

unclosed_by : (ts mid : List Shown) (opening : Shown) → from_first opens ts ≡ opening ∷ mid → IsUnended opening mid
    → Unclosed ts opening.token.start
unclosed_by ts [] opening is stays = Unclosed.unnamed is
unclosed_by ts (name ∷ within) opening is stays = Unclosed.unended is stays

pub unclosed_here : (ts mid : List Shown) (opening : Shown) (at : ℕ) → from_first opens ts ≡ opening ∷ mid
    → at ≡ opening.token.start → IsUnended opening mid → Unclosed ts at
unclosed_here ts mid opening at is place stays = subst (Unclosed ts) (sym place) (unclosed_by ts mid opening is stays)

-- Why a definition after some isn't read is why all aren't.
pub refused_within : (all old mid : Stream) (opening : Shown) (e : TrimErr) → from_first opens old.tokens ≡ opening ∷ mid.tokens
    → mid.fault ≡ all.fault → ((at : ℕ) → Unclosed old.tokens at → Unclosed all.tokens at)
    → Stays opening mid (IsUnended opening mid.tokens) e → ReadsAll all (Err e)
refused_within all old mid opening (Refused (Token f)) is same unclosed stays = sym same ∙ stays
refused_within all old mid opening (Refused (Open at)) is same unclosed stays =
    (sym same ∙ stays.0, unclosed at (unclosed_here old.tokens mid.tokens opening at is stays.1 stays.2))
refused_within all old mid opening (Refused (NoTop name)) is same unclosed stays = absurd stays
refused_within all old mid opening Memory is same unclosed stays = tt

pub refused_with : (all old mid : Stream) (opening : Shown) (r : Result (Vec Defined Global) TrimErr) (e : TrimErr)
    → from_first opens old.tokens ≡ opening ∷ mid.tokens → mid.fault ≡ all.fault
    → ((at : ℕ) → Unclosed old.tokens at → Unclosed all.tokens at) → IsErrAnd r (λ x. x ≡ e)
    → Stays opening mid (IsUnended opening mid.tokens) e → ReadsAll all r
refused_with all old mid opening (Ok ds) e is same unclosed gives stays = absurd gives
refused_with all old mid opening (Err x) e is same unclosed gives stays =
    refused_within all old mid opening x is same unclosed
    (subst (Stays opening mid (IsUnended opening mid.tokens)) (sym gives) stays)
