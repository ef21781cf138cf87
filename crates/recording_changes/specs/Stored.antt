-- How changes are stored: entries with the number of their text.
use Rattle.std.specs.Prelude.{◌≡◌, ℕ, ◌<◌, ◌≤◌, Bool, List, [], map, length, slice_index_or, true, false, nat_le, All}
use Rattle.std.specs.List.Sorted.{IsNonDecreasingBy, IsPartitionPoint}
use Rattle.recording_changes.specs.Held.{Change, History, change}
use Rattle.recording_changes.specs.declared.track.Entry.{Entry}

-- the change that an entry stands for
abbrev pub change_of : List (List ℕ) → Entry → Change
change_of texts entry = change entry.moment (slice_index_or texts entry.text [])

abbrev pub changes_of : List (List ℕ) → List Entry → List Change
changes_of texts entries = map (change_of texts) entries

pub record IsTrackEntry (texts moment : ℕ) (entry : Entry) : Type 0 where
  pub text : entry.text < texts
  pub before : entry.moment ≤ moment

-- The moments don't fall, none comes after the last one, and each text is there.
pub record IsTrack (texts moment : ℕ) (entries : List Entry) : Type 0 where
  pub ordered : IsNonDecreasingBy (λ (entry : Entry). entry.moment) entries
  pub kept : All (IsTrackEntry texts moment) entries

abbrev pub shown : ℕ → List (List ℕ) → List (List Entry) → History
shown moment texts tracks = record { moment = moment; tracks = map (changes_of texts) tracks }

-- The first entries, a given number of them, come in the moment or before it.
pub record IsBefore (moment : ℕ) (entries : List Entry) (count : ℕ) : Type 0 where
  pub within : count ≤ length entries
  pub each : (k : ℕ) (d : Entry) → k < count → nat_le (slice_index_or entries k d).moment moment ≡ true

abbrev pub comes_up_to : ℕ → Entry → Bool
comes_up_to moment entry = nat_le entry.moment moment

-- The first entries, a given number of them, come in the moment or before it, and no other does.
abbrev pub ComeUpTo : ℕ → List Entry → ℕ → Type 0
ComeUpTo moment entries count =
    IsPartitionPoint (λ (e : Entry). comes_up_to moment e ≡ true)
    (λ (e : Entry). comes_up_to moment e ≡ false) entries count
