-- One option more.
use Rattle.std.proofs.Common.{rules, ◌∙◌, ◌<◌, ap₂, length}
use Rattle.clap.specs.Words.{with_rule}
use Rattle.base_line.proofs.Rules.{one_more}
use Rattle.base_line.proofs.told.command_of.Goals as goal

pub options-preserved : goal.options-preserved
options-preserved c =
    let within : c.options.option-index < length c.args.options.now = search rules in
    c.in_ok-command.ensures.shape c.arg_of.ensures.local
    ∙ ap₂ with_rule c.options.invariant c.arg_of.ensures.rule
    ∙ one_more c.args.name.now c.args.options.now c.options.option-index _ within
