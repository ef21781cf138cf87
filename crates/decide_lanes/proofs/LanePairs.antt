-- Two lanes that differ give a pair of fillings of the sources.
use Rattle.std.proofs.Common.{◌≡◌, ℕ, ◌+◌, ◌<◌, ◌==◌, ◌&&◌, min, not, Bool, true, false, List, [], ◌∷◌, filter, length, map, Some, refl, sym, ap, ◌∙◌, subst, arith}
use Rattle.std.specs.Bool.{Decides}
use Rattle.std.specs.List.{AllByRecursion}
use Rattle.std.proofs.lemmas.Bool.Decides.{Decides-and, Decides-eqb}
use Rattle.std.specs.Prelude.{bit_and}
use Rattle.std.specs.Int.{bit_at}
use Rattle.std.proofs.lemmas.Nat.Bits.{bit_at_and, bit_at_lowest}
use Rattle.design_cell.specs.declared.value.Value.{Value}
use Rattle.design_circuit.specs.declared.place.Place.{Place}
use Rattle.design_circuit.specs.Filling.{IsFilling, bit_of}
use Rattle.design_circuit.specs.Fits.{Fits, place_at}
use Rattle.design_circuit.specs.Job.{Job, places_of}
use Rattle.design_circuit.specs.Waveform.{certain}
use Rattle.design_circuit.specs.World.{world_bit}
use Rattle.design_circuit.proofs.Exact.{empty_filling}
use Rattle.design_circuit.proofs.Worlds.{world_bit_local}
use Rattle.law_model.specs.Cone.{is_source, source_filling, sources}
use Rattle.design_circuit.specs.Waveform.{GivesBoth}
use Rattle.law_model.proofs.PlacesWhere.{among_all, in_picked}
use Rattle.law_model.proofs.SourceFillings.{source_filling_is}
use Rattle.wave_proved.specs.Contents.{Contents, IsWave, job}
use Rattle.wave_proved.specs.Token.{HasNext}
use Rattle.law_waveforms.proofs.GivenWorlds.{given_cut}
use Rattle.decide_nodes.specs.Lanes.{HasLanes, in_lane}
use Rattle.decide_nodes.proofs.PickedLists.{places_both}
use Rattle.decide_lane_nodes.specs.Given.{empty_lane, given_by, lane_given}
use Rattle.decide_lane_nodes.specs.InWave.{bit_in_lane}
use Rattle.decide_lane_nodes.specs.Literal.{AreSources}
use Rattle.decide_lane_nodes.specs.Made.{AreSourcesIn}
use Rattle.decide_lane_nodes.specs.Nodes.{NodeView, node_at}
use Rattle.decide_lanes.specs.Lanes.{IsNextNode}
use Rattle.decide_lanes.specs.Pairs.{IsOther, ListsJust, bit_under, lane_filling}

-- The lane of the empty filling has 0 everywhere.
min_none : (v : ℕ) → min v 0 ≡ 0
min_none v = omega arith

no_first : (v : ℕ) → (min v (bit_at 18446744073709551614 0) == 1) ≡ false
no_first v = ap (λ b. min v b == 1) (bit_at_lowest 18446744073709551614) ∙ ap (λ m. m == 1) (min_none v)

empty_given : (first second third fourth : ℕ) → in_lane (given_by first second third fourth) empty_lane ≡ false
unfolding given_by
empty_given first second third fourth =
    ap (λ bit. bit == 1) (bit_at_and (bit_and second third) 18446744073709551614 0)
    ∙ no_first (bit_at (bit_and second third) 0)

pub none_given : (j : Job) (k : ℕ) → lane_given j empty_lane k ≡ false
none_given j k = empty_given _ _ _ _

pub sources_low : (c : Contents) (place : ℕ) (list : List ℕ) → place < places_of (job c) → AreSourcesIn c place list
    → AllByRecursion (λ k. k < places_of (job c)) list
sources_low c place list within are =
    subst (AllByRecursion (λ k. k < places_of (job c))) (sym are)
    (among_all (λ k. k < places_of (job c)) (sources (job c) (certain c.written) place) (λ k at.
    (let low = (in_picked (is_source (job c) (certain c.written) place) (place + 1) k at).0 in omega (arith, low, within))))

-- The list that is kept of the next node has the sources of its place.
pub listed_are : (c : Contents) (nodes : List NodeView) (node : ℕ) (list : List ℕ)
    → IsNextNode c nodes (length c.written) node → (node_at nodes node).sources ≡ Some list
    → AreSourcesIn c (length c.written) list
listed_are c nodes node list next is = subst (AreSources (job c) (certain c.written) (length c.written)) is next.holds.sources

-- What a lane lists of a list of sources.
pub filling_is : (c : Contents) (list : List ℕ) (lane : ℕ) → AreSourcesIn c (length c.written) list
    → map (place_at (job c)) (filter (lane_given (job c) lane) list) ≡ lane_filling c lane
filling_is c list lane are =
    ap (λ xs. map (place_at (job c)) (filter (lane_given (job c) lane) xs)) are
    ∙ ap (map (place_at (job c))) (sym (places_both (is_source (job c) (certain c.written) (length c.written))
    (lane_given (job c) lane) (length c.written + 1)))

-- Two places are the same where their steps and their nets are.
pub same_places : (a b : Place) → Decides ((a.step == b.step) && (a.net == b.net)) (a ≡ b)
same_places a b =
    let both = Decides-and (a.step == b.step) (a.net == b.net) (Decides-eqb a.step b.step) (Decides-eqb a.net b.net) in (
      λ e. (let parts = both.0 e in λ i. record { step = parts.0 i; net = parts.1 i }),
      λ same. both.1 (ap (λ (p : Place). p.step) same, ap (λ (p : Place). p.net) same),
    )

-- The empty filling lists just what the lane of the empty filling does.
none_listed : (given : ℕ → Bool) → ((k : ℕ) → given k ≡ false) → (list : List ℕ) → filter given list ≡ []
none_listed given none [] = refl
none_listed given none (k ∷ list) = rw (none k) (none_listed given none list)

pub empty_lists : (j : Job) (list : List ℕ) (filling : List Place) → length filling < 1 → ListsJust j list filling empty_lane
empty_lists j list [] none = record {
  within = omega arith;
  same = ap (map (place_at j)) (sym (none_listed (lane_given j empty_lane) (none_given j) list));
}
empty_lists j list (place ∷ filling) none = absurd (omega (arith, none))

-- The bit in a lane is that in the world of what its filling lists of the sources.
pub bit_in_world : (c : Contents) → IsWave c → HasNext c → (list lane_bits : List ℕ) (filling : List Place) (lane : ℕ)
    → AreSourcesIn c (length c.written) list → HasLanes lane_bits (bit_in_lane c (length c.written))
    → ListsJust (job c) list filling lane → in_lane lane_bits lane ≡ bit_under c filling
bit_in_world c wave within list lane_bits filling lane are has lists =
    has lane lists.within
    ∙ given_cut (job c) c.limits wave.fits.fits_job _ c.written c.lines wave.holds.sound (length c.written) (omega arith) within
    (lane_given (job c) lane)
    ∙ ap (λ f. world_bit (job c) (certain c.written) (bit_of (job c) f) (length c.written))
    (sym (lists.same ∙ filling_is c list lane are))

module _ (c : Contents) (wave : IsWave c) (within : HasNext c) (list lane_bits : List ℕ) (lane : ℕ)
    (are : AreSourcesIn c (length c.written) list) (has : HasLanes lane_bits (bit_in_lane c (length c.written)))
    (other : IsOther lane_bits lane)
  where
    abbrev j : Job
    j = job c

    abbrev known : ℕ → Value
    known = certain c.written

    abbrev place : ℕ
    place = length c.written

    abbrev fits : Fits j
    fits = wave.fits.fits_job

    abbrev own : List Place
    own = map (place_at j) (filter (lane_given j lane) list)

    own_is : own ≡ source_filling j known place (lane_given j lane)
    own_is = filling_is c list lane are

    filled : IsFilling j own
    filled = subst (IsFilling j) (sym own_is) (source_filling_is j fits known place (lane_given j lane) within)

    own_bit : world_bit j known (bit_of j own) place ≡ not (in_lane lane_bits empty_lane)
    own_bit = ap (λ f. world_bit j known (bit_of j f) place) own_is
        ∙ sym (given_cut j c.limits fits _ c.written c.lines wave.holds.sound place (omega arith) within (lane_given j lane))
        ∙ sym (has lane other.within) ∙ other.differs

    empty_bit : world_bit j known (bit_of j []) place ≡ in_lane lane_bits empty_lane
    empty_bit = world_bit_local j fits known known (bit_of j []) (lane_given j empty_lane) place within (λ k less. refl)
        (λ k less. sym (none_given j k)) ∙ sym (has empty_lane (omega arith))

    pub pair_up : in_lane lane_bits empty_lane ≡ false
        → GivesBoth (job c) c.written (length c.written)
        (record { zero = []; one = map (place_at (job c)) (filter (lane_given (job c) lane) list) })
    pair_up is = record {
      zero_filling = empty_filling j;
      one_filling = filled;
      gives_zero = empty_bit ∙ is;
      gives_one = own_bit ∙ ap not is;
    }

    pub pair_down : in_lane lane_bits empty_lane ≡ true
        → GivesBoth (job c) c.written (length c.written)
        (record { zero = map (place_at (job c)) (filter (lane_given (job c) lane) list); one = [] })
    pair_down is = record {
      zero_filling = filled;
      one_filling = empty_filling j;
      gives_zero = own_bit ∙ ap not is;
      gives_one = empty_bit ∙ is;
    }
