-- Tables as they are kept, with more blocks at their end, and with one table more.
use Rattle.std.proofs.Common.{◌≡◌, ℕ, zero, suc, ◌<◌, List, [], ◌∷◌, ◌++◌, length, refl, ◌∙◌, arith, length-append, get_or}
use Rattle.std.proofs.lemmas.List.{get_or-map, length-map, map-append}
use Rattle.decide_graph.proofs.Parts.{part_new, part_stays}
use Rattle.decide_graph.specs.Kept.{part_of}
use Rattle.decide_tables.specs.Kept.{AreTablesWithin, IsTableWithin, seen_table, seen_tables}
use Rattle.decide_tables.specs.Tables.{HasTable, no_table}
use Rattle.decide_tables.specs.declared.kept.Entry.{Entry}

-- What is seen stays.
pub tables_same : (blocks more : List (List ℕ)) (entries : List Entry) → AreTablesWithin blocks entries
    → seen_tables (blocks ++ more) entries ≡ seen_tables blocks entries
tables_same blocks more [] within = refl
tables_same blocks more (e ∷ es) within =
    rw (part_stays blocks more e.start e.count within.0, tables_same blocks more es within.1) refl

-- The tables stay within.
pub within_more : (blocks more : List (List ℕ)) (entries : List Entry) → AreTablesWithin blocks entries
    → AreTablesWithin (blocks ++ more) entries
within_more blocks more [] within = tt
within_more blocks more (e ∷ es) within =
    let long = length-append blocks more in
    let first = within.0 in (omega (arith, first, long), within_more blocks more es within.1)

within_last : (blocks : List (List ℕ)) (entries : List Entry) (last : Entry) → AreTablesWithin blocks entries
    → IsTableWithin blocks last → AreTablesWithin blocks (entries ++ last ∷ [])
within_last blocks [] last within is = (is, tt)
within_last blocks (e ∷ es) last within is = (within.0, within_last blocks es last within.1 is)

-- One of them lies within.
pub entry_within : (blocks : List (List ℕ)) (entries : List Entry) (i : ℕ) (d : Entry) → i < length entries
    → AreTablesWithin blocks entries → IsTableWithin blocks (get_or entries i d)
entry_within blocks [] i d less within = absurd (omega arith)
entry_within blocks (e ∷ es) zero d less within = within.0
entry_within blocks (e ∷ es) (suc i) d less within = entry_within blocks es i d (omega arith) within.1

-- One table more, whose blocks come after those of the others.
module _ (blocks more : List (List ℕ)) (entries : List Entry) (start node count : ℕ) (within : AreTablesWithin blocks entries)
    (start_is : start ≡ length blocks) (count_is : count ≡ length more) where
  abbrev entry : Entry
  entry = record { start = start; node = node; count = count }

  pub within_next : AreTablesWithin (blocks ++ more) (entries ++ record { start = start; node = node; count = count } ∷ [])
  within_next =
      let long = length-append blocks more in
      within_last (blocks ++ more) entries entry (within_more blocks more entries within)
      (omega (arith, start_is, count_is, long))

  pub seen_next : seen_tables (blocks ++ more) (entries ++ record { start = start; node = node; count = count } ∷ [])
      ≡ seen_tables blocks entries ++ record { node = node; blocks = more } ∷ []
  seen_next =
      map-append (seen_table (blocks ++ more)) entries (entry ∷ [])
      ∙ rw (tables_same blocks more entries within, part_new blocks more start count start_is count_is) refl

-- The table of an entry is one of those that are seen.
pub has_entry : (blocks : List (List ℕ)) (entries : List Entry) (i : ℕ) (d : Entry) → i < length entries
    → HasTable (seen_tables blocks entries) (get_or entries i d).node
    (part_of (get_or entries i d).start (get_or entries i d).count blocks)
has_entry blocks entries i d less = record {
  at = i;
  within = (let long = length-map entries (seen_table blocks) in omega (arith, long, less));
  is = get_or-map (seen_table blocks) entries i d no_table less;
}
