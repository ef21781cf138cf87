-- From what the machine says to what the reader ensures.
use Rattle.std.proofs.Common.{◌≡◌, ℕ, ◌+◌, ◌^◌, ◌<◌, List, length, Result, Ok, Err, refl, sym, ◌∙◌}
use Rattle.std.specs.Prelude.{IfErr, IfOk, MatchResult}
use Rattle.cert_writer.specs.declared.cert.Cert.{Cert}
use Rattle.cert_reader.specs.declared.refusal.TextErr.{TextErr}
use Rattle.cert_reader.specs.declared.refusal.TextErr.TheVariants.{Refused, Memory}
use Rattle.cert_reader.specs.Machine.{run, start}
use Rattle.cert_writer.specs.Pieces.{lines_in}
use Rattle.cert_reader.specs.Reading.{Comes}
use Rattle.cert_reader.specs.Refusal.{IsTextRefusal}
use Rattle.cert_writer.specs.Wrong.{IsTextOf}
use Rattle.cert_reader.proofs.RunLaws.{run_found, run_only}
use Rattle.cert_reader.proofs.WrongLaws.{run_first}

pub found_by : (text : List ℕ) (result : Result Cert TextErr) → Comes (run start 1 (lines_in text)) result
    → IfOk result (λ cert. length cert.entries < 2 ^ 64) → IfOk result (IsTextOf text)
found_by text (Ok cert) comes count = run_found text cert count comes
found_by text (Err e) comes count = tt

abbrev done : Cert → Result Cert ℕ
done cert = Ok cert

abbrev refused : ℕ → Result Cert ℕ
refused line = Err line

same_cert : (c d : Cert) → done c ≡ done d → c ≡ d
same_cert c d is = cc

not_both : (r : Result Cert ℕ) (cert : Cert) (line : ℕ) → r ≡ done cert → r ≡ refused line → ⊥
not_both r cert line good bad = absurd cc

pub only_by : (text : List ℕ) (result : Result Cert TextErr) → Comes (run start 1 (lines_in text)) result → (cert : Cert)
    → IsTextOf text cert → MatchResult result (λ c. c ≡ cert) (λ e. e ≡ Memory)
only_by text (Ok found) comes cert stands = same_cert found cert (sym comes ∙ run_only text cert stands)
only_by text (Err Memory) comes cert stands = refl
only_by text (Err (Refused found)) comes cert stands =
    absurd (not_both (run start 1 (lines_in text)) cert found.line (run_only text cert stands) comes)

pub refused_by : (text : List ℕ) (result : Result Cert TextErr) → length text + 1 < 2 ^ 64
    → Comes (run start 1 (lines_in text)) result → IfErr result (IsTextRefusal text)
refused_by text (Ok cert) small comes = tt
refused_by text (Err Memory) small comes = tt
refused_by text (Err (Refused found)) small comes = run_first text found.line small comes
