-- The commands are lawful, and no two have one word.
use Rattle.std.proofs.Common.{◌≡◌, ◌∙◌, List, [], ◌∷◌, Option, Some, None, cond, refl, sym, ap}
use Rattle.std.specs.Str.{bytes_eq}
use Rattle.base_line.specs.Line.{Text}
use Rattle.cmd_set.proofs.Lawful.{IsLawful}
use Rattle.cmd_phases.proofs.Statuses.{IsOfTexts}
use Rattle.cmd_program.specs.Commands.{command_of, word_of}
use Rattle.cmd_program.specs.declared.commands.Name.{Name}
use Rattle.cmd_program.specs.declared.commands.Name.TheVariants.{Audit, Blame, Check, Export, Fix, Make, Prove, Repair, Replay, Upgrade}
use Rattle.cmd_program.specs.declared.commands.TheConstants.{NAMES}
use Rattle.cmd_program.proofs.Audit.{lawful_audit}
use Rattle.cmd_program.proofs.Blame.{lawful_blame}
use Rattle.cmd_program.proofs.Check.{lawful_check}
use Rattle.cmd_program.proofs.Export.{lawful_export}
use Rattle.cmd_program.proofs.Fix.{lawful_fix}
use Rattle.cmd_program.proofs.Make.{lawful_make}
use Rattle.cmd_program.proofs.Prove.{lawful_prove}
use Rattle.cmd_program.proofs.Repair.{lawful_repair}
use Rattle.cmd_program.proofs.Replay.{lawful_replay}
use Rattle.cmd_program.proofs.Upgrade.{lawful_upgrade}

pub lawful_of : (name : Name) → IsLawful IsOfTexts (command_of name)
lawful_of Repair = lawful_repair
lawful_of Replay = lawful_replay
lawful_of Check = lawful_check
lawful_of Make = lawful_make
lawful_of Export = lawful_export
lawful_of Prove = lawful_prove
lawful_of Audit = lawful_audit
lawful_of Blame = lawful_blame
lawful_of Fix = lawful_fix
lawful_of Upgrade = lawful_upgrade

abbrev name_among : List Name → Text → Option Name
name_among [] word = None
name_among (name ∷ rest) word = cond (bytes_eq (word_of name) word) (Some name) (name_among rest word)

found : (name : Name) → name_among NAMES (word_of name) ≡ Some name
found Repair = refl
found _ = refl

pub apart : (a b : Name) → (command_of a).word ≡ (command_of b).word → a ≡ b
apart a b same = let both : Some a ≡ Some b = sym (found a) ∙ ap (name_among NAMES) same ∙ found b in cc
