-- What was fetched for words that mean one thing.
use Rattle.std.proofs.Common.{◌≡◌, ◌∙◌, ap, sym, subst, ℕ, List, []}
use Rattle.cmd_program.specs.Commands.{command_of, reporting}
use Rattle.base_files.proofs.Others.{none_among}
use Rattle.base_files.specs.Fetched.{AddsAmong, HasAmong, IsFetched}
use Rattle.base_files.specs.Shipped.{IsFetchedFor}
use Rattle.base_files.specs.declared.fetched.Fetched.{Fetched}
use Rattle.base_line.specs.Line.{Text}
use Rattle.base_run.specs.Reading.{ReadsSurely}
use Rattle.cmd_set.specs.Command.{names_of}
use Rattle.cmd_set.specs.Set.{AreOutside, ReadsInputs, Values, commands, phases_of}
use Rattle.cmd_set.specs.declared.inputs.Inputs.{Inputs}
use Rattle.xrepair.proofs.Listing.{as_listed}
use Rattle.xrepair.specs.Reads.{read_by}

abbrev most_of : Values command_of → ℕ
most_of w = (command_of w.0).most

pub fetched_for : (line : List Text) (inputs : Inputs) (empty fetched : Fetched) → ReadsInputs command_of line inputs → empty.texts ≡ [] → IsFetched fetched
    → fetched.limit ≡ inputs.most → AddsAmong (names_of inputs) empty fetched → IsFetchedFor (commands command_of reporting) read_by line fetched
fetched_for line inputs empty fetched reads none is limit adds =
    let v = reads.values in
    let added = subst (λ (names : List Text). AddsAmong names empty fetched) reads.names adds in record {
      is = is;
      among = λ w means. subst (λ (x : Values command_of). HasAmong (read_by x) fetched) (sym (reads.only w means)) (added (read_by v) (λ name named. named) (none_among (read_by v) empty none));
      sure = λ w means name named.
          let most : most_of w ≡ fetched.limit = ap (λ (x : Values command_of). most_of x) (reads.only w means) ∙ sym reads.most ∙ sym limit in
          subst (λ (n : ℕ). ReadsSurely name n (phases_of command_of w)) most ((as_listed w).each name named);
    }

-- The words mean nothing.
pub fetched_none : (line : List Text) (fetched : Fetched) → AreOutside command_of line → IsFetched fetched → IsFetchedFor (commands command_of reporting) read_by line fetched
fetched_none line fetched outside is = record {
  is = is;
  among = λ w means. absurd (outside w means);
  sure = λ w means. absurd (outside w means);
}
