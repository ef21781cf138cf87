-- Origins counted in a map by what gave them. No contract of a public call names it.
use Rattle.std.specs.BTreeMap as tree
use Rattle.std.specs.BTreeMap.{BTreeMap}
use Rattle.std.specs.Map.{count_at, update, values_of}
use Rattle.std.specs.declared.cmp.Ordering.{Ordering}
use Rattle.std.specs.Option.{option_cmp}
use Rattle.std.specs.Ordering.{eq_by_cmp, nat_cmp, ordering_then}
use Rattle.std.specs.Prelude.{◌≡◌, ℕ, zero, suc, ◌+◌, ◌<◌, ◌^◌, Option, None, Some, List, count_by, sum}
use Rattle.design_circuit.specs.Job.{Job}
use Rattle.report_audit.specs.Groups.{Giver, origins_from}
use Rattle.report_audit.specs.declared.found.Found.{Found}
use Rattle.report_audit.specs.declared.groups.Group.{Group}

abbrev pub Counts : Type 0
Counts = BTreeMap Giver ℕ

-- By the number of the primitive, then by the row, none first.
abbrev pub compared : Giver → Giver → Ordering
compared giver other = ordering_then (nat_cmp giver.0 other.0) (option_cmp nat_cmp giver.1 other.1)

abbrev pub count_of : Counts → Giver → Option ℕ
count_of counts giver = tree.get compared counts giver

abbrev pub some_if : ℕ → Option ℕ
some_if zero = None
some_if (suc n) = Some (suc n)

abbrev pub IsSmall : Counts → Type 0
IsSmall counts = (giver : Giver) → count_at (count_of counts) giver < 2 ^ 63

-- One more is counted for a giver.
pub record CountsOne (giver : Giver) (old new : Counts) : Type 0 where
  pub counts : (other : Giver) → count_of new other
      ≡ update (eq_by_cmp compared) (count_of old) giver (Some (count_at (count_of old) giver + 1)) other
  pub total : sum (values_of new.entries) ≡ sum (values_of old.entries) + 1

-- One more is counted where there is a giver.
abbrev pub CountsIf : Option Giver → Counts → Counts → Type 0
CountsIf None old new = new ≡ old
CountsIf (Some giver) old new = CountsOne giver old new

-- Each giver has the number of its origins, where there are some, and these are all origins.
pub record AreCounted (j : Job) (listed : List Found) (counts : Counts) : Type 0 where
  pub counts_ : (giver : Giver) → count_of counts giver ≡ some_if (origins_from j listed giver)
  pub total : sum (values_of counts.entries) ≡ count_by (λ (found : Found). found.origin) listed

abbrev pub group_of : Giver × ℕ → Group
group_of entry = record { primitive = entry.0.0; row = entry.0.1; places = entry.1 }
