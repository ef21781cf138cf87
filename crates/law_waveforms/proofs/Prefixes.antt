-- The first places of a waveform, with the lines of the places among them.
use Rattle.std.proofs.Common.{◌≡◌, ℕ, zero, suc, ◌<◌, ◌≤◌, Bool, true, false, List, [], ◌∷◌, ◌++◌, map, length, take, refl, sym, ap, ◌∙◌, arith, subst, ⊎_elim, get_or-take, length-take-le, if◌then◌else◌}
use Rattle.std.specs.Prelude.{nat_lt}
use Rattle.std.specs.List.{AllByRecursion, filter}
use Rattle.std.proofs.lemmas.Bool.{cases_Bool, cases_eq, ltb-false, lt-ltb, le-ltb, ne_eqb}
use Rattle.std.proofs.lemmas.List.{append-nil}
use Rattle.std.proofs.lemmas.List.Elements.{filter-append}
use Rattle.design_cell.specs.declared.value.Value.{Value}
use Rattle.design_circuit.specs.declared.waveform.Written.{Written}
use Rattle.design_circuit.specs.Job.{Job, number_of, places_of}
use Rattle.design_circuit.specs.Fits.{Fits, place_at}
use Rattle.design_circuit.specs.Waveform.{unwritten, written_at, certain, certain_by}
use Rattle.design_circuit.proofs.Numbers.{number_of_place_at}
use Rattle.design_circuit.proofs.Rules.{AgreeBelow}
use Rattle.law_model.specs.Places.{places_where}
use Rattle.law_model.specs.Class.{class_of}
use Rattle.law_model.specs.Stated.{body_at}
use Rattle.law_model.specs.Sound.{FollowsClass, SoundBy, Sound}
use Rattle.law_model.specs.Yields.{is_line, line_places, places_of_lines, written_by, Yields}
use Rattle.law_model.specs.declared.class.ClassByNumber.TheVariants.{Carried}
use Rattle.law_model.specs.declared.line.Line.{Line as ALine}
use Rattle.law_model.proofs.ClassesBefore.{class_local}
use Rattle.law_model.proofs.FactsBefore.{body_moved, sound_moved}
use Rattle.law_model.proofs.PlacesWhere.{picked_below, picked_same, in_picked, among_all}
use Rattle.law_model.proofs.Roots.{carried_below}
use Rattle.law_model.proofs.WrittenPlaces.{follows_moved, written_moved}
use Rattle.law_model.specs.declared.limits.Limits.{Limits}
use Rattle.law_waveforms.specs.Prefix.{lines_before, YieldsPrefixLaw, SoundPrefixLaw, PrefixLaw}

-- ---- lines before a place

not_equal : (a b n : ℕ) → n ≤ a → b < n → a ≡ b → ⊥
not_equal a b n up less same = omega (arith, up, less, same)

-- They are the same bodies there.
pub body_before : (j : Job) (lines : List ALine) (n k : ℕ) → k < n
    → body_at j (lines_before j n lines) k ≡ body_at j lines k
body_before j [] n k less = refl
body_before j (line ∷ lines) n k less =
    let m = number_of j line.place in
    ⊎_elim (λ (e : nat_lt m n ≡ true). rw (e, body_before j lines n k less) refl)
    (λ (e : nat_lt m n ≡ false). rw (e, ne_eqb m k (not_equal m k n (ltb-false m n e) less))
    (body_before j lines n k less)) (cases_Bool (nat_lt m n))

-- Their places are the places among these.
before_places : (j : Job) → Fits j → (n : ℕ) (lines : List ALine) (places : List ℕ)
    → places_of_lines lines ≡ map (place_at j) places → AllByRecursion (λ k. k < places_of j) places
    → places_of_lines (lines_before j n lines) ≡ map (place_at j) (filter (λ k. nat_lt k n) places)
before_places j fits n [] [] are below = refl
before_places j fits n [] (k ∷ places) are below = cc
before_places j fits n (line ∷ lines) [] are below = cc
before_places j fits n (line ∷ lines) (k ∷ places) are below =
    let head : line.place ≡ place_at j k = cc in
    let tail : places_of_lines lines ≡ map (place_at j) places = cc in
    let number : number_of j line.place ≡ k =
    ap (number_of j) head ∙ number_of_place_at j k fits.ordering fits.all below.0 in
    let ih = before_places j fits n lines places tail below.1 in
    ⊎_elim (λ (e : nat_lt k n ≡ true). rw (number, e, head, ih) refl)
    (λ (e : nat_lt k n ≡ false). rw (number, e) ih) (cases_Bool (nat_lt k n))

all_kept : (n : ℕ) (places : List ℕ) → AllByRecursion (λ k. k < n) places → filter (λ k. nat_lt k n) places ≡ places
all_kept n [] below = refl
all_kept n (k ∷ places) below = rw (lt-ltb k n below.0, all_kept n places below.1) refl

either_cut : (b : Bool) (n k : ℕ) (xs ys : List ℕ) → n ≤ k → filter (λ i. nat_lt i n) xs ≡ ys
    → filter (λ i. nat_lt i n) (if b then xs ++ k ∷ [] else xs) ≡ ys
either_cut false n k xs ys up same = same
either_cut true n k xs ys up same =
    filter-append (λ i. nat_lt i n) xs (k ∷ []) ∙ (rw (le-ltb k n up) (append-nil (filter (λ i. nat_lt i n) xs))) ∙ same

-- The places at which a test holds among more of them, cut at n.
where_all : (test : ℕ → Bool) (n many : ℕ) → many ≡ n
    → filter (λ k. nat_lt k n) (places_where test many) ≡ places_where test n
where_all test n many same =
    ap (λ m. filter (λ k. nat_lt k n) (places_where test m)) same ∙ all_kept n (places_where test n) (picked_below
    test n)

where_cut : (test : ℕ → Bool) (n many : ℕ) → n ≤ many
    → filter (λ k. nat_lt k n) (places_where test many) ≡ places_where test n
where_cut test n zero up = where_all test n zero (omega (arith, up))
where_cut test n (suc many) up =
    ⊎_elim (λ (same : suc many ≡ n). where_all test n (suc many) same)
    (λ (other : suc many ≡ n → ⊥). either_cut (test many) n many (places_where test many) (places_where test n)
    (omega (arith, up, other)) (where_cut test n many (omega (arith, up, other)))) (cases_eq (suc many) n)

-- ---- the first places

pub front_at : (waveform : List Written) (n k : ℕ) → k < n → written_at (take n waveform) k ≡ written_at waveform k
front_at waveform n k less = get_or-take n waveform k unwritten less

pub front_certain : (waveform : List Written) (n : ℕ) → AgreeBelow (certain waveform) (certain (take n waveform)) n
unfolding certain
front_certain waveform n k less = ap (λ (w : Written). certain_by w.mark w.value) (sym (front_at waveform n k less))

module _ (j : Job) (limits : Limits) (fits : Fits j) (shown : ℕ → Value) (waveform : List Written) (lines : List ALine)
    (n : ℕ) (up : n ≤ length waveform) (all : length waveform ≤ places_of j) where
  abbrev front : List Written
  front = take n waveform

  abbrev kept : List ALine
  kept = lines_before j n lines

  long : length front ≡ n
  long = length-take-le n waveform up

  low : (k : ℕ) → k < length front → k < n
  low k less = omega (arith, less, long)

  agree : (k : ℕ) → k < n → AgreeBelow (certain waveform) (certain front) k
  agree k less i before = front_certain waveform n i (omega (arith, less, before))

  inside : (k : ℕ) → k < n → k < places_of j
  inside k less = omega (arith, less, up, all)

  class_same : (k : ℕ) → k < n → class_of j (certain waveform) k ≡ class_of j (certain front) k
  class_same k less = class_local j fits (certain waveform) (certain front) k (inside k less) (agree k less)

  from_same : (k : ℕ) → k < n → (from : ℕ) (inverted : Bool) → class_of j (certain waveform) k ≡ Carried from inverted
      → written_at waveform from ≡ written_at front from
  from_same k less from inverted is =
      let before = carried_below j fits (certain waveform) k from inverted (inside k less) is in
      sym (front_at waveform n from (omega (arith, less, before)))

  yields_front : Yields j limits shown waveform lines → Yields j limits shown front kept
  yields_front yields = record {
    within = omega (arith, long, up, all);
    places = before_places j fits n lines (line_places j (certain waveform) (length waveform)) yields.places below
        ∙ ap (map (place_at j)) (where_cut (λ k. is_line (class_of j (certain waveform) k)) n (length waveform) up
        ∙ picked_same (λ k. is_line (class_of j (certain waveform) k)) (λ k. is_line (class_of j (certain front) k)) n
        (λ k less. ap is_line (class_same k less)) ∙ ap (line_places j (certain front)) (sym long));
    bodies = λ k body less at. body_moved j limits fits waveform front k body (inside k (low k less)) (agree k (low k
        less))
        (yields.bodies k body (omega (arith, less, long, up)) (sym (body_before j lines n k (low k less)) ∙ at));
    written = λ k less. front_at waveform n k (low k less) ∙ yields.written k (omega (arith, less, long, up))
        ∙ written_moved (written_at waveform) (written_at front) (class_of j (certain waveform) k) (body_at j lines k)
        (shown k) (from_same k (low k less))
        ∙ ap (λ class. written_by (written_at front) class (body_at j lines k) (shown k)) (class_same k (low k less))
        ∙ ap (λ body. written_by (written_at front) (class_of j (certain front) k) body (shown k))
        (sym (body_before j lines n k (low k less)));
  }
    where
      below : AllByRecursion (λ k. k < places_of j) (line_places j (certain waveform) (length waveform))
      below = among_all (λ k. k < places_of j) (line_places j (certain waveform) (length waveform)) (λ k h.
          (let less = (in_picked (λ k. is_line (class_of j (certain waveform) k)) (length waveform) k h).0 in
          omega (arith, less, all)))

  sound_front : Sound j limits shown waveform lines → Sound j limits shown front kept
  sound_front sound = record {
    within = omega (arith, long, up, all);
    classes = λ k less. subst (λ class. FollowsClass (written_at front) class (written_at front k)) (class_same k (low
        k less))
        (subst (FollowsClass (written_at front) (class_of j (certain waveform) k)) (sym (front_at waveform n k (low k
        less)))
        (follows_moved (written_at waveform) (written_at front) (class_of j (certain waveform) k) (written_at waveform
        k)
        (from_same k (low k less)) (sound.classes k (omega (arith, less, long, up)))));
    exact = λ k less. subst (λ (w : Written). SoundBy j limits front kept k w.mark w.value)
        (sym (front_at waveform n k (low k less)))
        (sound_moved j limits fits waveform front lines kept k (written_at waveform k).mark (written_at waveform k).value
        (inside k (low k less)) (agree k (low k less))
        (λ i before. sym (body_before j lines n i (omega (arith, low k less, before))))
        (sound.exact k (omega (arith, less, long, up))));
    shows = record {
      known = λ k less known. ap (λ (w : Written). w.value) (front_at waveform n k (low k less))
          ∙ sound.shows.known k (omega (arith, less, long, up)) known;
      uncertain = λ k less open_. ap (λ (w : Written). w.value) (front_at waveform n k (low k less))
          ∙ sound.shows.uncertain k (omega (arith, less, long, up))
          (λ e. open_ (ap (λ (w : Written). w.mark) (front_at waveform n k (low k less)) ∙ e));
      open_ = λ k less mark known. sound.shows.open_ k (omega (arith, less, long, up))
          (sym (ap (λ (w : Written). w.mark) (front_at waveform n k (low k less))) ∙ mark) known;
    };
  }

pub yields_prefix : YieldsPrefixLaw
yields_prefix j limits shown waveform lines n fits up yields = yields_front j limits fits shown waveform lines n up
    yields.within yields

pub sound_prefix : SoundPrefixLaw
sound_prefix j limits shown waveform lines n fits up sound = sound_front j limits fits shown waveform lines n up
    sound.within sound

pub holds_prefix : PrefixLaw
holds_prefix j limits shown waveform lines n fits up holds = record {
  sound = sound_prefix j limits shown waveform lines n fits up holds.sound;
  yields = yields_prefix j limits shown waveform lines n fits up holds.yields;
}
