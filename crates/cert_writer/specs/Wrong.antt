-- Which texts are certificates, and the first wrong line of one that isn't.
use Rattle.std.specs.Prelude.{◌≡◌, ℕ, ◌+◌, List, [], ◌∷◌, ◌++◌, length}
use Rattle.cert_writer.specs.declared.cert.Cert.{Cert}
use Rattle.cert_writer.specs.Fits.{FitsCert}
use Rattle.cert_writer.specs.Pieces.{lines_in}
use Rattle.cert_writer.specs.Text.{cert_lines, cert_text}

-- A text stands for a certificate: it is what that is written as.
pub record IsTextOf (text : List ℕ) (cert : Cert) : Type 0 where
  pub fits : FitsCert cert
  pub written : text ≡ cert_text cert

-- Some certificate begins with these lines.
pub record AreViable (front : List (List ℕ)) : Type 0 where
  pub cert : Cert
  pub more : List (List ℕ)
  pub fits : FitsCert cert
  pub begins : cert_lines cert ≡ front ++ more

-- A piece of a text is wrong after lines: there is a newline after it, and no certificate begins with those lines and
-- it; or there is none, and the text stands for nothing.
abbrev pub IsWrongAfter : List ℕ → List (List ℕ) → List ℕ → List (List ℕ) → Type 0
IsWrongAfter text front piece [] = (cert : Cert) → IsTextOf text cert → ⊥
IsWrongAfter text front piece (next ∷ rest) = AreViable (front ++ piece ∷ []) → ⊥

-- The first wrong line of a text, by its number from 1: some certificate begins with the lines before it.
pub record IsFirstWrong (text : List ℕ) (line : ℕ) : Type 0 where
  pub front : List (List ℕ)
  pub piece : List ℕ
  pub rest : List (List ℕ)
  pub split : lines_in text ≡ front ++ piece ∷ rest
  pub number : line ≡ length front + 1
  pub viable : AreViable front
  pub wrong : IsWrongAfter text front piece rest
