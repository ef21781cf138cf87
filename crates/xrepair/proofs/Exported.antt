-- Files that have other names than those that are read; and that those of an export have such.
use Rattle.std.proofs.Common.{ℕ, zero, suc, ◌+◌, List, [], ◌∷◌, ◌++◌, Option, Some, None, refl, sym, subst, inl, inr, ℤ, codes, decimal, arith}
use Rattle.std.specs.Prelude.{Contains}
use Rattle.std.specs.List.{All, AllByRecursion}
use Rattle.cert_export.specs.Export.{AreFiles, AreFilesOf, Exports, cert_name, file, line_name, log_files, log_of}
use Rattle.cert_writer.specs.Text.{cert_text}
use Rattle.cert_check.specs.Step.{cert_of}
use Rattle.base_files.proofs.Others.{IsOther, all_cons, none_written}
use Rattle.base_files.specs.Shipped.{WritesOthers}
use Rattle.base_line.specs.Line.{Text}
use Rattle.law_model.specs.declared.line.Line.{Line as ALine}
use Rattle.base_run.specs.Outputs.{File}
use Rattle.base_run.specs.Phases.{Answer}
use Rattle.wave_proved.specs.Contents.{Contents}
use Rattle.cmd_program.specs.Free.{AreFree, BeginsWith}

pub all_others : (inputs : List Text) (files : List File) → AllByRecursion (IsOther inputs) files → All (IsOther inputs) files
all_others inputs [] others = none_written inputs
all_others inputs (one ∷ files) others = all_cons (IsOther inputs) one files others.0 (all_others inputs files others.1)

-- A name that begins with the prefix isn't among names that are free of it.
not_free : (prefix : Text) (inputs : List Text) (name : Text) → AreFree prefix inputs → BeginsWith prefix name → Contains inputs name → ⊥
not_free prefix [] name free begins (k, less, is) = omega (arith, less)
not_free prefix (input ∷ inputs) name free begins (zero, less, is) = free.0 (subst (BeginsWith prefix) (sym is) begins)
not_free prefix (input ∷ inputs) name free begins (suc k, less, is) = not_free prefix inputs name free.1 begins (k, omega (arith, less), is)

cert_begins : (prefix : Text) → BeginsWith prefix (cert_name prefix)
cert_begins prefix = record { ending = codes ".xc"; is = refl; ends = inl refl }

line_begins : (prefix : Text) (number : ℕ) (ending : Text) → BeginsWith prefix (line_name prefix number ending)
line_begins prefix number ending = record { ending = codes "-" ++ (decimal number ++ ending); is = refl; ends = inr (decimal number ++ ending, refl) }

module _ (prefix : Text) (inputs : List Text) (free : AreFree prefix inputs) where
  abbrev Others : List File → Type 0
  Others files = AllByRecursion (IsOther inputs) files

  appended : (own rest : List File) → Others own → Others rest → Others (own ++ rest)
  appended [] rest here after = after
  appended (one ∷ own) rest here after = (here.0, appended own rest here.1 after)

  logs : (number : ℕ) (log : Option (List (List ℤ))) → Others (log_files prefix number log)
  logs number None = tt
  logs number (Some log) = (not_free prefix inputs (line_name prefix number (codes ".log")) free (line_begins prefix number (codes ".log")), tt)

  own_files : (c : Contents) (number : ℕ) (l : ALine) (files : List File) → AreFilesOf c prefix number l files → Others files
  own_files c number l files are =
      subst Others (sym are.are) (not_free prefix inputs (line_name prefix number (codes ".cnf")) free (line_begins prefix number (codes ".cnf")), logs number (log_of l.body))

  line_files : (c : Contents) (number : ℕ) (lines : List ALine) (files : List File) → AreFiles c prefix number lines files → Others files
  line_files c number [] files none = subst Others (sym none) tt
  line_files c number (l ∷ lines) files (own, rest, first, more, is) =
      subst Others (sym is) (appended own rest (own_files c number l own first) (line_files c (number + 1) lines rest more))

  pub exports_others : (c : Contents) (answer : Answer) → Exports prefix c answer → WritesOthers inputs answer
  exports_others c answer exports =
      subst (λ (files : List File). All (IsOther inputs) files) (sym exports.files_is)
      (all_others inputs (file (cert_name prefix) (cert_text (cert_of c)) ∷ exports.files)
      (not_free prefix inputs (cert_name prefix) free (cert_begins prefix), line_files c 1 c.lines exports.files exports.are))
