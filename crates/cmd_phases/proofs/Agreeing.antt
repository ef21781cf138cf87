-- A job that is read and agrees, and what comes after it.
use Rattle.std.proofs.Common.{◌≡◌, Bool, Result, Ok, Err}
use Rattle.base_shelf.specs.Shelf.{View}
use Rattle.base_run.specs.Phases.{Answer, Phases}
use Rattle.base_run.specs.Prepared.{Prepared, answer_of}
use Rattle.base_run.specs.declared.ready.Ready.{Ready}
use Rattle.base_run.specs.declared.refusal.Refusal.{Refusal}
use Rattle.base_run.proofs.Then.{prepared_refused, prepared_then}
use Rattle.cmd_words.specs.Words.{JobValues}
use Rattle.cmd_phases.specs.Phases.{agreed_job, agreed_phases, agreed_then}
use Rattle.cmd_phases.specs.declared.cause.Refused.{Refused}
use Rattle.cmd_phases.specs.declared.parts.Agreed.{Agreed}
use Rattle.cmd_phases.specs.declared.parts.Parts.{Parts}

module _ (w : JobValues) (after : Parts → Phases Answer Refused) {told : Bool} {old mid : View} where
  -- It agrees, and then comes the rest.
  pub agreed_prepared : {new : View} {agreed : Agreed} {result : Result Ready (Refusal Refused)} → Prepared told (agreed_phases w) agreed_job old mid (Ok agreed)
      → Prepared told (after agreed.parts) answer_of mid new result → Prepared told (agreed_then w after) answer_of old new result
  agreed_prepared {new} {agreed} {result} read more = prepared_then told (agreed_phases w) after agreed_job answer_of old mid new agreed result read more

  -- It is refused, and so is all.
  pub agreed_refused : {e : Refusal Refused} {result : Result Ready (Refusal Refused)} → result ≡ Err e
      → Prepared told (agreed_phases w) agreed_job old mid (Err e) → Prepared told (agreed_then w after) answer_of old mid result
  agreed_refused {e} {result} is read =
      rw is (prepared_refused told (agreed_phases w) after agreed_job answer_of old mid mid e read)
