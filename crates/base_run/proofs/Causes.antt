-- What holds of each cause that phases may refuse texts for.
use Rattle.std.proofs.Common.{ℕ, List, Bool, Ok, Err, inl, inr, sym, subst}
use Rattle.base_shelf.specs.Shelf.{Files}
use Rattle.base_run.specs.Phases.{Phases, ComesTo}
use Rattle.base_run.proofs.Exact.{err_same, ok_err}

abbrev pub EachCause : {A C : Type 0} → (C → Type 0) → Phases A C → Type 0
EachCause P (Phases.Finds found) = Unit {0}
EachCause P (Phases.Reads names limit long next) = P long × ((text : List ℕ) → EachCause P (next text))
EachCause P (Phases.Judges {B} {E} comes cause next) = ((e : E) → comes (Err e) → P (cause e)) × ((found : B) → comes (Ok found) → EachCause P (next found))
EachCause P (Phases.Searches {B} {E} comes cause next) = ((e : E) → comes (Err e) → P (cause e)) × ((found : B) → comes (Ok found) → EachCause P (next found))

module _ {A C : Type 0} (told : Bool) (files : Files) (P : C → Type 0) where
  -- It holds of what texts are refused for.
  pub each_cause : (p : Phases A C) → EachCause P p → (c : C) → ComesTo told files p (Err c) → P c
  each_cause (Phases.Finds found) each c is = absurd (ok_err found c (sym is))
  each_cause (Phases.Reads names limit long next) each c (inl first) = subst P (sym (err_same c long first.1)) each.0
  each_cause (Phases.Reads names limit long next) each c (inr (text, read, comes)) = each_cause (next text) (each.1 text) c comes
  each_cause (Phases.Judges judge cause next) each c (inl (e, first, is)) = subst P (sym (err_same c (cause e) is)) (each.0 e first)
  each_cause (Phases.Judges judge cause next) each c (inr (found, first, comes)) = each_cause (next found) (each.1 found first) c comes
  each_cause (Phases.Searches judge cause next) each c (inl (e, first, is)) = subst P (sym (err_same c (cause e) is)) (each.0 e first)
  each_cause (Phases.Searches judge cause next) each c (inr (found, first, comes)) = each_cause (next found) (each.1 found first) c comes
