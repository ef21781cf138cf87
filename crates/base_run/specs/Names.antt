-- The name of a file that is written.
use Rattle.std.specs.Prelude.{ℕ, List, string_bytes}
use Rattle.base_run.specs.declared.file_name.FileName.{FileName}
use Rattle.base_run.specs.declared.file_name.FileName.TheVariants.{Word, Made}

abbrev pub text_of_name : FileName → List ℕ
text_of_name (Word name) = name.now
text_of_name (Made name) = string_bytes name
