-- The one command.
use Rattle.base_run.specs.Ends.{Commands, reporting_of}
use Rattle.cmd_trim.specs.Cause.{status_of, text_of}
use Rattle.cmd_trim.specs.Phases.{trim_phases}
use Rattle.cmd_trim.specs.Words.{Means, TrimValues}
use Rattle.cmd_trim.specs.declared.cause.Refused.{Refused}

abbrev pub commands : Commands
commands = record {
  Words = TrimValues;
  Cause = Refused;
  Means = Means;
  phases_of = trim_phases;
  reporting = reporting_of status_of text_of;
}
