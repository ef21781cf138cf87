-- What a refusal of a text says.
use Rattle.std.specs.Prelude.{ℕ, List}
use Rattle.cert_writer.specs.Wrong.{IsFirstWrong}
use Rattle.cert_reader.specs.declared.refusal.TextErr.{TextErr}
use Rattle.cert_reader.specs.declared.refusal.TextErr.TheVariants.{Refused, Memory}

-- A text is refused for its first wrong line.
abbrev pub IsTextRefusal : List ℕ → TextErr → Type 0
IsTextRefusal text (Refused wrong) = IsFirstWrong text wrong.line
IsTextRefusal text Memory = Unit {0}
