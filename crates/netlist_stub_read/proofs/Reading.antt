-- Definitions one after the other.
use Rattle.std.proofs.Common.{◌≡◌, ℕ, ◌<◌, List, [], ◌∷◌, ◌++◌, length, sym, ap, subst, ◌∙◌, arith, Result, Ok, Err, Vec, Global}
use Rattle.std.specs.Result.{IsErrAnd}
use Rattle.std.proofs.lemmas.List.{append_assoc}
use Rattle.netlist_trim.specs.Shown.{Shown, Stream}
use Rattle.netlist_trim.specs.Definition.{Unclosed, closes, from_first, opens}
use Rattle.netlist_trim.specs.Reads.{IsUnended, Stays}
use Rattle.netlist_trim.proofs.Reading.{after_shortens, unclosed_here}
use Rattle.netlist_trim.specs.declared.fault.TrimErr.{TrimErr}
use Rattle.netlist_trim.specs.declared.fault.TrimErr.TheVariants.{Refused, Memory}
use Rattle.netlist_trim.specs.declared.fault.TrimFault.TheVariants.{Token, Open, NoTop}
use Rattle.netlist_stub_read.specs.Modules.{Holds, IsModule, Module, ReadsModules}

pub module_shortens : (ts : List Shown) (opening : Shown) (old new : Stream) (d : Module)
    → from_first opens ts ≡ opening ∷ old.tokens → IsModule opening old d new → length new.tokens < length ts
module_shortens ts opening old new d is read =
    let h = after_shortens opens ts old.tokens opening is in
    let k = ap length read.named in
    let l = after_shortens (closes opening) read.within new.tokens read.close read.at in
    omega arith

-- ---- a definition more

pub next_held : (ts : List Shown) (opening : Shown) (old new : Stream) (d : Module) (ms : List Module)
    → from_first opens ts ≡ opening ∷ old.tokens → IsModule opening old d new → Holds new.tokens ms
    → Holds ts (d ∷ ms)
next_held ts opening old new d ms is read rest =
    subst (λ (x : Module). Holds ts (x ∷ ms)) (sym read.is)
    (Holds.next (is ∙ ap (λ (l : List Shown). opening ∷ l) read.named) read.at rest)

pub next_unclosed : (ts : List Shown) (opening : Shown) (old new : Stream) (d : Module) (at : ℕ)
    → from_first opens ts ≡ opening ∷ old.tokens → IsModule opening old d new → Unclosed new.tokens at
    → Unclosed ts at
next_unclosed ts opening old new d at is read rest =
    Unclosed.later (is ∙ ap (λ (l : List Shown). opening ∷ l) read.named) read.at rest

pub added : (all ts : List Shown) (before found : List Module) (opening : Shown) (old new : Stream) (d : Module)
    (ms : List Module) → from_first opens ts ≡ opening ∷ old.tokens → IsModule opening old d new
    → found ≡ before ++ d ∷ [] → ((more : List Module) → Holds ts more → Holds all (before ++ more))
    → Holds new.tokens ms → Holds all (found ++ ms)
added all ts before found opening old new d ms is read pushed so_far rest =
    subst (Holds all) (sym (append_assoc before (d ∷ []) ms) ∙ ap (λ (l : List Module). l ++ ms) (sym pushed))
    (so_far (d ∷ ms) (next_held ts opening old new d ms is read rest))

-- Why a definition after some isn't read is why all aren't.
pub refused_within : (all old mid : Stream) (opening : Shown) (e : TrimErr) → from_first opens old.tokens ≡ opening ∷ mid.tokens
    → mid.fault ≡ all.fault → ((at : ℕ) → Unclosed old.tokens at → Unclosed all.tokens at)
    → Stays opening mid (IsUnended opening mid.tokens) e → ReadsModules all (Err e)
refused_within all old mid opening (Refused (Token f)) is same unclosed stays = sym same ∙ stays
refused_within all old mid opening (Refused (Open at)) is same unclosed stays =
    (sym same ∙ stays.0, unclosed at (unclosed_here old.tokens mid.tokens opening at is stays.1 stays.2))
refused_within all old mid opening (Refused (NoTop name)) is same unclosed stays = absurd stays
refused_within all old mid opening Memory is same unclosed stays = tt

pub refused_with : (all old mid : Stream) (opening : Shown) (r : Result (Vec Module Global) TrimErr) (e : TrimErr)
    → from_first opens old.tokens ≡ opening ∷ mid.tokens → mid.fault ≡ all.fault
    → ((at : ℕ) → Unclosed old.tokens at → Unclosed all.tokens at) → IsErrAnd r (λ x. x ≡ e)
    → Stays opening mid (IsUnended opening mid.tokens) e → ReadsModules all r
refused_with all old mid opening (Ok ds) e is same unclosed gives stays = absurd gives
refused_with all old mid opening (Err x) e is same unclosed gives stays =
    refused_within all old mid opening x is same unclosed
    (subst (Stays opening mid (IsUnended opening mid.tokens)) (sym gives) stays)
