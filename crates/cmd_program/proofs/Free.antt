-- Names that begin with a prefix.
use Rattle.std.proofs.Common.{◌≡◌, ◌≢◌, ◌∙◌, ◌++◌, sym, subst}
use Rattle.std.proofs.lemmas.List.{append_cancel_left}
use Rattle.cmd_program.specs.Free.{BeginsWith, IsEnding}
use Rattle.base_line.specs.Line.{Text}

module _ (prefix name : Text) where
  pub begins_to : (ending : Text) → name ≡ prefix ++ ending → IsEnding ending → BeginsWith prefix name
  begins_to ending is ends = record { ending = ending; is = is; ends = ends }

  pub begins_from : (ending : Text) → name ≡ prefix ++ ending → BeginsWith prefix name → IsEnding ending
  begins_from ending is begins = subst IsEnding (append_cancel_left prefix begins.ending ending (sym begins.is ∙ is)) begins.ends

  pub begins_none : ((rest : Text) → name ≢ prefix ++ rest) → BeginsWith prefix name → ⊥
  begins_none none begins = none begins.ending begins.is
