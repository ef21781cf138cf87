-- The set of commands: each is a record in the file of its name, that of `repair` in Headline.antt.
use Rattle.base_line.specs.Line.{Text}
use Rattle.base_run.specs.Ends.{Reporting, reporting_of}
use Rattle.cmd_set.specs.Command.{Command}
use Rattle.cmd_phases.specs.Cause.{status_of, text_of}
use Rattle.cmd_phases.specs.declared.cause.Refused.{Refused}
use Rattle.cmd_program.specs.Audit.{audit}
use Rattle.cmd_program.specs.Blame.{blame}
use Rattle.cmd_program.specs.Check.{check}
use Rattle.cmd_program.specs.Export.{export}
use Rattle.cmd_program.specs.Fix.{fix}
use Rattle.cmd_program.specs.Headline.{repair}
use Rattle.cmd_program.specs.Make.{make}
use Rattle.cmd_program.specs.Prove.{prove}
use Rattle.cmd_program.specs.Replay.{replay}
use Rattle.cmd_program.specs.Upgrade.{upgrade}
use Rattle.cmd_program.specs.declared.commands.Name.{Name}
use Rattle.cmd_program.specs.declared.commands.Name.TheVariants.{Audit, Blame, Check, Export, Fix, Make, Prove}
use Rattle.cmd_program.specs.declared.commands.Name.TheVariants.{Repair, Replay, Upgrade}

abbrev pub command_of : Name → Command Refused
command_of Repair = repair
command_of Replay = replay
command_of Check = check
command_of Make = make
command_of Export = export
command_of Prove = prove
command_of Audit = audit
command_of Blame = blame
command_of Fix = fix
command_of Upgrade = upgrade

abbrev pub word_of : Name → Text
word_of name = (command_of name).word

-- How their refusals are reported.
abbrev pub reporting : Reporting Refused
reporting = reporting_of status_of text_of
