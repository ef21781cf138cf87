-- Lists as they are kept, with more places at their end, and with one list more.
use Rattle.std.proofs.Common.{◌≡◌, ℕ, List, [], ◌∷◌, ◌++◌, length, refl, ◌∙◌, arith, length-append}
use Rattle.std.proofs.lemmas.List.{map-append}
use Rattle.decide_graph.proofs.Parts.{part_new, part_stays}
use Rattle.decide_lane_nodes.specs.Lists.{AreSpansWithin, IsSpanWithin, seen_list, seen_lists}
use Rattle.decide_lane_nodes.specs.declared.lists.Span.{Span}

-- What is seen stays.
pub lists_stay : (places more : List ℕ) (spans : List Span) → AreSpansWithin places spans
    → seen_lists (places ++ more) spans ≡ seen_lists places spans
lists_stay places more [] within = refl
lists_stay places more (s ∷ ss) within =
    rw (part_stays places more s.start s.count within.0, lists_stay places more ss within.1) refl

-- The lists stay within.
pub within_more : (places more : List ℕ) (spans : List Span) → AreSpansWithin places spans → AreSpansWithin (places ++ more) spans
within_more places more [] within = tt
within_more places more (s ∷ ss) within =
    let long = length-append places more in
    let first = within.0 in (omega (arith, first, long), within_more places more ss within.1)

within_last : (places : List ℕ) (spans : List Span) (last : Span) → AreSpansWithin places spans → IsSpanWithin places last
    → AreSpansWithin places (spans ++ last ∷ [])
within_last places [] last within is = (is, tt)
within_last places (s ∷ ss) last within is = (within.0, within_last places ss last within.1 is)

-- One list more, whose places come after those of the others.
module _ (places more : List ℕ) (spans : List Span) (start count : ℕ) (within : AreSpansWithin places spans)
    (start_is : start ≡ length places) (count_is : count ≡ length more) where
  pub within_next : AreSpansWithin (places ++ more) (spans ++ record { start = start; count = count } ∷ [])
  within_next =
      let long = length-append places more in
      within_last (places ++ more) spans (record { start = start; count = count }) (within_more places more spans within)
      (omega (arith, start_is, count_is, long))

  pub seen_next : seen_lists (places ++ more) (spans ++ record { start = start; count = count } ∷ [])
      ≡ seen_lists places spans ++ more ∷ []
  seen_next =
      map-append (seen_list (places ++ more)) spans (record { start = start; count = count } ∷ [])
      ∙ rw (lists_stay places more spans within, part_new places more start count start_is count_is) refl
