-- The watches of literals, in linked lists.
use Rattle.std.specs.Prelude.{ℕ, ◌+◌, ◌*◌, ◌-◌, ◌^◌, ◌++◌, min, List, [], ◌∷◌, Option, None, Some}
use Rattle.std.specs.Prelude.{replicate, slice_index_or, slice_set}
use Rattle.sat_watches.specs.Literal.{no_literal}
use Rattle.sat_watches.specs.declared.literal.Literal.{Literal}
use Rattle.sat_watches.specs.declared.watches.Watch.{Watch}
use Rattle.sat_watches.specs.declared.watches.Entry.{Entry}

-- The first watch of each literal's list, by number, and of each watch the next one of its list and its blocker.
pub record WatchesView : Type 0 where
  pub first : List (Option ℕ)
  pub entries : List Entry

-- The watch of a number.
abbrev pub watch_of : ℕ → Watch
watch_of number = record { number = number }

-- The watch of a clause for its first literal, at 0, or the second, at 1. Past the highest number it is that one.
abbrev pub watch_at : ℕ → ℕ → Watch
watch_at clause side = watch_of (min (clause * 2 + side) (2 ^ 32 - 1))

-- What is kept of a watch that stands in no list.
abbrev pub unused : Entry
unused = record { next = None; blocker = no_literal }

-- So many variables, whose literals nothing watches, and no clauses.
abbrev pub none_watched : ℕ → WatchesView
none_watched vars = record { first = replicate (min (vars * 2) (2 ^ 64 - 1)) None; entries = [] }

-- One more variable, whose literals nothing watches.
abbrev pub with_variable : WatchesView → WatchesView
with_variable old = record old { first = old.first ++ None ∷ None ∷ [] }

-- One more clause, whose watches stand in no list.
abbrev pub with_clause : WatchesView → WatchesView
with_clause old = record old { entries = old.entries ++ unused ∷ unused ∷ [] }

-- The first watch of a literal's list.
abbrev pub first_of : WatchesView → Literal → Option ℕ
first_of watches literal = slice_index_or watches.first literal.code None

-- The list of a literal is empty.
abbrev pub taken : WatchesView → Literal → WatchesView
taken old literal = record old { first = slice_set old.first literal.code None }

abbrev pub entry_of : WatchesView → Watch → Entry
entry_of watches watch = slice_index_or watches.entries watch.number unused

-- The watch comes first in the list of a literal.
abbrev pub noted : WatchesView → Literal → Watch → Literal → WatchesView
noted old literal watch blocker = record {
  first = slice_set old.first literal.code (Some watch.number);
  entries = slice_set old.entries watch.number (record { next = first_of old literal; blocker = blocker });
}

-- The watches of a clause come first in the lists of its first two literals.
abbrev pub noted_clause : WatchesView → ℕ → Literal → Literal → WatchesView
noted_clause old clause first second =
    noted (noted old first (watch_at clause 0) second) second (watch_at clause 1) first
