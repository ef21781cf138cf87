-- A text stands for one certificate: what the reader makes of it.
use Rattle.std.proofs.Common.{◌≡◌, ◌∙◌, ℕ, List, Result, Ok, sym}
use Rattle.cert_reader.proofs.RunLaws.{run_only}
use Rattle.cert_writer.specs.declared.cert.Cert.{Cert as ACert}
use Rattle.cert_writer.specs.Wrong.{IsTextOf}

pub one_text : (text : List ℕ) (one other : ACert) → IsTextOf text one → IsTextOf text other → one ≡ other
one_text text one other first second =
    let both : ◌≡◌ {A = Result ACert ℕ} (Ok one) (Ok other) = sym (run_only text one first) ∙ run_only text other second in cc
