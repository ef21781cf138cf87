-- Nodes as they are kept, with more at the end of the lists, and with one node more.
use Rattle.std.proofs.Common.{◌≡◌, ℕ, List, [], ◌∷◌, ◌++◌, length, refl, sym, ap, ◌∙◌, append-nil, arith, length-append}
use Rattle.std.proofs.lemmas.List.{map-append}
use Rattle.design_cell.specs.declared.value.Value.{Value}
use Rattle.design_circuit.specs.declared.place.Place.{Place}
use Rattle.decide_graph.specs.Kept.{AreEntriesWithin, IsEntryWithin, ruled_node, seen_node, seen_nodes}
use Rattle.decide_graph.specs.declared.kept.Entry.{Entry}
use Rattle.decide_graph.proofs.Parts.{part_new, part_stays}

entry_stays : (arguments more : List ℕ) (values others : List Value) (entry : Entry) → IsEntryWithin arguments values entry
    → seen_node (arguments ++ more) (values ++ others) entry ≡ seen_node arguments values entry
entry_stays arguments more values others entry within =
    rw (
      part_stays arguments more entry.arguments_start entry.arguments_count within.arguments_end,
      part_stays values others entry.values_start entry.values_count within.values_end,
    ) refl

-- What is seen stays.
pub seen_stay : (arguments more : List ℕ) (values others : List Value) (entries : List Entry)
    → AreEntriesWithin arguments values entries
    → seen_nodes (arguments ++ more) (values ++ others) entries ≡ seen_nodes arguments values entries
seen_stay arguments more values others [] within = refl
seen_stay arguments more values others (e ∷ es) within =
    rw (entry_stays arguments more values others e within.0, seen_stay arguments more values others es within.1) refl

-- With more to read alone.
pub seen_apart : (arguments more : List ℕ) (values : List Value) (entries : List Entry) → AreEntriesWithin arguments values entries
    → seen_nodes (arguments ++ more) values entries ≡ seen_nodes arguments values entries
seen_apart arguments more values entries within =
    ap (λ (vs : List Value). seen_nodes (arguments ++ more) vs entries) (sym (append-nil values))
    ∙ seen_stay arguments more values [] entries within

-- The parts stay within.
pub within_more : (arguments more : List ℕ) (values others : List Value) (entries : List Entry)
    → AreEntriesWithin arguments values entries → AreEntriesWithin (arguments ++ more) (values ++ others) entries
within_more arguments more values others [] within = tt
within_more arguments more values others (e ∷ es) within =
    let long = length-append arguments more in
    let wide = length-append values others in
    let first = within.0.arguments_end in
    let second = within.0.values_end in (
      record { arguments_end = omega (arith, first, long); values_end = omega (arith, second, wide) },
      within_more arguments more values others es within.1,
    )

within_last : (arguments : List ℕ) (values : List Value) (entries : List Entry) (last : Entry)
    → AreEntriesWithin arguments values entries → IsEntryWithin arguments values last → AreEntriesWithin arguments values (entries ++ last ∷ [])
within_last arguments values [] last within is = (is, tt)
within_last arguments values (e ∷ es) last within is = (within.0, within_last arguments values es last within.1 is)

-- An entry whose parts come after the lists.
abbrev pub next_entry : Place → ℕ → ℕ → List ℕ → List Value → Entry
next_entry place arguments_start values_start more others = record {
  place = place;
  values_start = values_start;
  arguments_start = arguments_start;
  values_count = length others;
  arguments_count = length more;
}

module _ (place : Place) (arguments more : List ℕ) (values others : List Value) (entries : List Entry)
    (arguments_start values_start : ℕ) (within : AreEntriesWithin arguments values entries)
    (arguments_is : arguments_start ≡ length arguments) (values_is : values_start ≡ length values) where
  pub within_next : AreEntriesWithin (arguments ++ more) (values ++ others)
      (entries ++ next_entry place arguments_start values_start more others ∷ [])
  within_next =
      let long = length-append arguments more in
      let wide = length-append values others in
      within_last (arguments ++ more) (values ++ others) entries (next_entry place arguments_start values_start more others)
      (within_more arguments more values others entries within)
      (record { arguments_end = omega (arith, arguments_is, long); values_end = omega (arith, values_is, wide) })

  -- It is seen after those that were.
  pub seen_next : seen_nodes (arguments ++ more) (values ++ others)
      (entries ++ next_entry place arguments_start values_start more others ∷ [])
      ≡ seen_nodes arguments values entries ++ ruled_node place more others ∷ []
  seen_next =
      map-append (seen_node (arguments ++ more) (values ++ others)) entries
      (next_entry place arguments_start values_start more others ∷ [])
      ∙ rw (
        seen_stay arguments more values others entries within,
        part_new arguments more arguments_start (length more) arguments_is refl,
        part_new values others values_start (length others) values_is refl,
      ) refl
