-- The files that each command reads are listed, and it writes none of them.
use Rattle.std.proofs.Common.{◌≡◌, List, [], ◌∷◌, sym, subst}
use Rattle.std.specs.List.{All}
use Rattle.cmd_program.specs.Audit.{walk_audited}
use Rattle.cmd_program.specs.Blame.{walk_blamed}
use Rattle.cmd_program.specs.Check.{certified_phases}
use Rattle.cmd_program.specs.Commands.{command_of, reporting}
use Rattle.cmd_program.specs.Export.{walk_exported}
use Rattle.cmd_program.specs.Fix.{set_phases}
use Rattle.cmd_program.specs.Make.{make_answer}
use Rattle.cmd_program.specs.Repair.{repair_answer, walk_phases}
use Rattle.cmd_program.specs.Replay.{coded_phases}
use Rattle.cmd_program.specs.Upgrade.{certified_upgrade}
use Rattle.cmd_program.specs.declared.commands.Name.{Name}
use Rattle.cmd_program.specs.declared.commands.Name.TheVariants.{Audit, Blame, Check, Export, Fix, Make, Prove, Repair, Replay, Upgrade}
use Rattle.cmd_program.proofs.Lawful.{lawful_of}
use Rattle.base_files.proofs.Others.{IsOther, none_written, not_among, one_more}
use Rattle.base_files.specs.Shipped.{AreKept, WritesOthers}
use Rattle.base_line.specs.Line.{Text}
use Rattle.cmd_phases.specs.Phases.{compared_then, job_parts, job_phases}
use Rattle.cmd_phases.specs.declared.cause.Refused.{Refused}
use Rattle.cmd_phases.specs.declared.parts.Parts.{Parts}
use Rattle.base_run.specs.Outputs.{File}
use Rattle.base_run.specs.Phases.{Answer, Phases, ◌>>=◌}
use Rattle.base_run.specs.Reading.{FindsOnly}
use Rattle.cmd_set.specs.Command.{IsLineOf}
use Rattle.cmd_set.specs.Set.{Values, commands}
use Rattle.cmd_words.specs.Words.{JobValues, job_reads}
use Rattle.xrepair.proofs.Exported.{all_others, exports_others}
use Rattle.xrepair.specs.Reads.{ReadsAsListed, read_by}

pub as_listed : (w : Values command_of) → ReadsAsListed w
as_listed w = record { only = (lawful_of w.0).only w.1; each = (lawful_of w.0).sure w.1 }

-- ---- no file that is read is written

job_finds : (Is : Answer → Type 0) (w : JobValues) (f : Parts → Phases Answer Refused) → ((job : Parts) → FindsOnly Is (f job)) → FindsOnly Is (job_phases w >>= f)
job_finds Is w f rest = λ text n _ recording r _. rest (job_parts w n r)

no_files : (inputs : List Text) (answer : Answer) → answer.files ≡ [] → WritesOthers inputs answer
no_files inputs answer none = subst (λ (files : List File). All (IsOther inputs) files) (sym none) (none_written inputs)

kept_of : (name : Name) (w : (command_of name).Values) (rest : List Text) → IsLineOf (command_of name) rest w
    → FindsOnly (WritesOthers ((command_of name).inputs w)) ((command_of name).phases w)
kept_of Repair w rest line = job_finds (WritesOthers (job_reads w.job)) w.job (compared_then (walk_phases w)) (λ job agreed _ found _ conditions _.
    let inputs = job_reads w.job in
    let apart = line.gives.apart in
    all_others inputs (repair_answer w job.netlist job.recorded found conditions).files
    (not_among inputs w.vcd apart.1, (not_among inputs w.code apart.2.1, (not_among inputs w.cert apart.2.2.1, tt))))
kept_of Replay w rest line = job_finds (WritesOthers (w.code ∷ job_reads w.job)) w.job (coded_phases w) (λ job text forces _ history _.
    let apart = line.gives.apart.1 in
    one_more (w.code ∷ job_reads w.job) _ [] (apart.1.0, (apart.0, apart.1.1)) (none_written (w.code ∷ job_reads w.job)))
kept_of Check w rest line = job_finds (WritesOthers (w.cert ∷ job_reads w.job)) w.job (compared_then (certified_phases w)) (λ job agreed _ text cert _ shows _. none_written (w.cert ∷ job_reads w.job))
kept_of Upgrade w rest line = job_finds (WritesOthers (w.cert ∷ job_reads w.job)) w.job (compared_then (certified_upgrade w)) (λ job agreed _ text cert _ plain _ shows _ conditions _.
    let apart = line.gives.apart.1 in
    one_more (w.cert ∷ job_reads w.job) _ [] (apart.1.0, (apart.0, apart.1.1)) (none_written (w.cert ∷ job_reads w.job)))
kept_of Make w rest line = λ short _ n _ text _ short_too _ r _ agreed _ found _.
    all_others [] (make_answer w text found.wave).files (not_among [] w.netlist tt, (not_among [] w.recording tt, tt))
kept_of Export w rest line = job_finds (WritesOthers (job_reads w.job)) w.job (compared_then (walk_exported w)) (λ job agreed _ found _ answer exports. exports_others w.prefix (job_reads w.job) line.gives.free found.wave answer exports)
kept_of Prove w rest line = λ cnf log count _. none_written (w.cnf ∷ w.log ∷ [])
kept_of Audit w rest line = job_finds (WritesOthers (job_reads w.job)) w.job (compared_then (walk_audited w)) (λ job agreed _ answer lists. no_files (job_reads w.job) answer lists.prints.files_are)
kept_of Blame w rest line = job_finds (WritesOthers (job_reads w.job)) w.job (compared_then (walk_blamed w)) (λ job agreed _ found _ answer lists. no_files (job_reads w.job) answer lists.files_are)
kept_of Fix w rest line = job_finds (WritesOthers (job_reads w.job)) w.job (compared_then (set_phases w)) (λ job agreed _ stim _ before _ after _. none_written (job_reads w.job))

pub kept : AreKept (commands command_of reporting) read_by
kept line w means = kept_of w.0 w.1 means.rest means.line
