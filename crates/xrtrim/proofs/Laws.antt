-- The files that are read, and the one that is written.
use Rattle.std.proofs.Common.{◌≡◌, ℕ, List, [], inl, subst, sym, arith}
use Rattle.std.specs.Prelude.{Contains}
use Rattle.base_line.specs.Line.{Text}
use Rattle.base_run.specs.Reading.{ReadsSurely}
use Rattle.base_files.specs.Fetched.{AddsAmong, HasAmong, IsFetched}
use Rattle.base_files.specs.Shipped.{AreKept, IsFetchedFor}
use Rattle.base_files.specs.declared.fetched.Fetched.{Fetched}
use Rattle.base_files.proofs.Others.{none_among, none_written, one_more}
use Rattle.cmd_trim.specs.Commands.{commands}
use Rattle.cmd_trim.specs.Phases.{trim_phases}
use Rattle.cmd_trim.specs.Words.{AreOutside, MeansOnly, TrimValues}
use Rattle.xrtrim.specs.Reads.{read_by}

-- The file that is written is none that is read.
pub kept : AreKept commands read_by
kept line w means = λ text stubbed stubs out comes. one_more w.files _ [] means.gives.apart.1 (none_written w.files)

-- Every file is read.
surely : (w : TrimValues) (name : Text) (limit : ℕ) → limit ≡ 1073741824 → Contains (read_by w) name → ReadsSurely name limit (trim_phases w)
surely w name limit is named = inl (named, omega (arith, is))

-- The files of the words were fetched.
pub fetched_for : (line : List Text) (v : TrimValues) (empty fetched : Fetched) → MeansOnly line v → empty.texts ≡ [] → IsFetched fetched
    → fetched.limit ≡ 1073741824 → AddsAmong v.files empty fetched → IsFetchedFor commands read_by line fetched
fetched_for line v empty fetched only none is limit adds = record {
  is = is;
  among = λ w means. subst (λ (x : TrimValues). HasAmong (read_by x) fetched) (sym (only w means)) (adds v.files (λ name named. named) (none_among v.files empty none));
  sure = λ w means name named. surely w name fetched.limit limit named;
}

-- The words mean nothing.
pub fetched_none : (line : List Text) (fetched : Fetched) → AreOutside line → IsFetched fetched → IsFetchedFor commands read_by line fetched
fetched_none line fetched outside is = record {
  is = is;
  among = λ w means. absurd (outside w means);
  sure = λ w means. absurd (outside w means);
}
