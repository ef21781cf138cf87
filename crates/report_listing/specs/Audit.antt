-- What is printed of an audit: the listed places, and what gave the origins among them.
use Rattle.std.specs.Prelude.{◌≡◌, ℕ, Option, None, Some, List, [], ◌∷◌, ◌++◌, codes, decimal, length}
use Rattle.std.specs.List.{AllByRecursion, flat_map}
use Rattle.report_audit.specs.First.{MeetFirst}
use Rattle.report_audit.specs.Found.{AreFound, IsDriven, listed_below, open_below}
use Rattle.report_audit.specs.Groups.{AreGroups}
use Rattle.report_audit.specs.declared.found.Found.{Found}
use Rattle.report_audit.specs.declared.groups.Group.{Group}
use Rattle.design_cell.specs.declared.value.Value.{Value}
use Rattle.design_cell.specs.Value.{letter_of}
use Rattle.design_circuit.specs.History.{HistoryView}
use Rattle.design_circuit.specs.Job.{places_of}
use Rattle.design_circuit.specs.declared.place.Place.{Place}
use Rattle.report_bits.specs.Counts.{counts_of}
use Rattle.base_lists.specs.Text.{line}
use Rattle.wave_proved.specs.Contents.{Contents, job}
use Rattle.report_listing.specs.Places.{listed_text, timed_text}

-- Words and a number after them.
unfoldable pub counted_text : List ℕ → ℕ → List ℕ
counted_text words number = words ++ decimal number

-- `audit places P listed L open O undecided D`, D counting the undecided places of the wave
abbrev pub audit_head : Contents → ℕ → ℕ → List ℕ
audit_head c listed unsure =
    line (counted_text (codes "audit places ") (length c.written) ++ counted_text (codes " listed ") listed
    ++ counted_text (codes " open ") unsure ++ counted_text (codes " undecided ") (counts_of c).undecided)

-- ` by F0 ; F1` of two fillings, the first for 0 and the second for 1
unfoldable pub pair_text : Option (List Place × List Place) → List ℕ
pair_text None = []
pair_text (Some pair) =
    codes " by" ++ flat_map listed_text pair.0 ++ codes " ;" ++ flat_map listed_text pair.1

-- ` replayed V found V`
unfoldable pub values_text : Value → Value → List ℕ
values_text replayed found =
    codes " replayed " ++ letter_of replayed ∷ [] ++ codes " found " ++ letter_of found ∷ []

-- `#T round J NAME replayed V found V`, and the fillings of an unknown place
abbrev pub found_line : Contents → Found → List ℕ
found_line c found =
    line (timed_text c found.place ++ values_text found.replayed found.found ++ pair_text found.pair)

abbrev pub row_text : Option ℕ → List ℕ
row_text None = codes "none"
row_text (Some row) = decimal row

-- `primitive U row R places K`
abbrev pub group_line : Group → List ℕ
group_line g =
    line (codes "primitive " ++ decimal g.primitive ++ codes " row " ++ row_text g.row ++ codes " places "
    ++ decimal g.places)

unfoldable pub audit_text : Contents → List Found → List Group → ℕ → List ℕ
audit_text c listed groups unsure =
    audit_head c (length listed) unsure ++ flat_map (found_line c) listed ++ flat_map group_line groups

-- The text is of the listed places of a wave of the blank history beside the replay, of the groups of their origins and
-- of the number of open places. Each origin is driven by a primitive. Where nothing is undecided, each list of lines
-- without an undecided body that meets an optimistic place for the replay meets its first one at the first listed
-- place, and there is such a list exactly where one is listed.
pub record TellsAudit (c : Contents) (replay : HistoryView) (text : List ℕ) : Type 0 where
  pub listed : List Found
  pub groups : List Group
  pub found : AreFound c replay (listed_below c replay (places_of (job c))) listed
  pub origins : AreGroups (job c) listed groups
  pub driven : AllByRecursion (IsDriven (job c)) listed
  pub first : MeetFirst c replay listed
  pub text_is : text ≡ audit_text c listed groups (open_below c replay (places_of (job c)))
