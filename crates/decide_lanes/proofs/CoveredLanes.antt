-- Lanes as a place is covered.
use Rattle.std.proofs.Common.{◌≡◌, ℕ, zero, suc, drop, length-append, length-drop, slice_index_or, take, ◌+◌, ◌-◌, ◌*◌, ◌<◌, ◌≤◌}
use Rattle.std.proofs.Common.{Bool, true, List, [], ◌∷◌, ◌++◌, None, IfSome, length, refl, sym, ap, ◌∙◌, subst, arith, ⊎_elim}
use Rattle.std.proofs.Math.ListN.{get_or-append}
use Rattle.std.proofs.lemmas.Bool.{cases_lt}
use Rattle.std.proofs.lemmas.List.{append-nil, append_assoc, get_or-drop, length-take-le}
use Rattle.std.specs.List.{AllByRecursion}
use Rattle.design_cell.specs.Value.{is_unknown}
use Rattle.design_circuit.specs.Job.{places_of}
use Rattle.design_circuit.specs.Waveform.{certain}
use Rattle.law_model.specs.Class.{class_of}
use Rattle.law_model.specs.declared.class.ClassByNumber.TheVariants.{Carried}
use Rattle.law_model.proofs.Roots.{carried_below}
use Rattle.wave_proved.specs.Contents.{Contents, IsWave, job}
use Rattle.decide_lane_nodes.specs.InWave.{CoversBeforeIn, IsLiteralIn}
use Rattle.decide_lane_nodes.specs.Nodes.{numbers_of}
use Rattle.decide_lane_nodes.specs.Covered.{IsCovered, covered_literal}
use Rattle.decide_lane_nodes.specs.Literal.{LiteralView, literal_in, no_literal, turned}
use Rattle.decide_lane_nodes.specs.Rows.{IsOnward, RowsView, last_row}
use Rattle.decide_lane_nodes.specs.declared.literal.Covered.{Covered}
use Rattle.wave_proved.specs.Kept.{AllKeepFrom, keeps_there}
use Rattle.decide_lane_nodes.proofs.KeptLiterals.{IsKeptFrom, kept_literal}
use Rattle.decide_lane_nodes.proofs.NearPlaces.{near_carried}
use Rattle.decide_lane_nodes.proofs.LiteralBits.{carried_literal, covered_near}
use Rattle.decide_lanes.specs.Lanes.{IsNextNode, IsRightOf, Keeps, LanesView, count_of, looked, looked_count}
use Rattle.decide_lanes.proofs.GraphNodes.{below_more}
use Rattle.decide_lanes.proofs.GrownLanes.{covered_more}

-- Lanes with other literals, before the next place is looked at.
abbrev pub with_literals : LanesView → List LiteralView → LanesView
with_literals lanes literals = record {
  nodes = lanes.nodes;
  first = lanes.first;
  literals = literals;
  next = None;
  graph = lanes.graph;
  shared = lanes.shared;
  width = lanes.width;
}

-- The places that are covered are those of lanes.
pub record IsOf (covered : Covered) (lanes : LanesView) : Type 0 where
  pub nodes : covered.nodes.now ≡ lanes.nodes
  pub first : covered.first ≡ lanes.first
  pub literals : covered.literals.now.literals ≡ lanes.literals

-- So all before the next place is covered.
pub covered_before : (c : Contents) (lanes : LanesView) (covered : Covered) (place : ℕ) → IsRightOf c lanes
    → place ≡ count_of lanes → IsOf covered lanes → CoversBeforeIn c covered place
covered_before c lanes covered place right is of = record {
  each = rw (of.nodes, of.first, of.literals) right.each;
  up = rw (of.first, of.literals) (omega (arith, is));
  far = rw (of.first, is) right.far;
}

-- Where that wasn't looked at, the nodes are of places before it.
pub nodes_before : (c : Contents) (lanes : LanesView) (place : ℕ) → IsRightOf c lanes → place ≡ count_of lanes
    → lanes.next ≡ None → AllByRecursion (λ k. k < place) (numbers_of lanes.nodes)
nodes_before c lanes place right is none =
    below_more (looked_count lanes) place (numbers_of lanes.nodes) (let zero = ap looked none in omega (arith, zero, is)) right.below

-- The place that a place is carried from is covered, and so is the place then.
pub carried_covered : (c : Contents) (lanes : LanesView) (covered : Covered) (place from : ℕ) (inverted : Bool) → IsWave c
    → IsRightOf c lanes → place ≡ count_of lanes → place < length c.written
    → class_of (job c) (certain c.written) place ≡ Carried from inverted → IsOf covered lanes → IsCovered covered from
carried_covered c lanes covered place from inverted wave right is less class of =
    let all = wave.holds.sound.within in
    let within : place < places_of (job c) = omega (arith, all, less) in
    let fits = wave.fits.fits_job in
    covered_near (job c) (certain c.written) covered place from (covered_before c lanes covered place right is of)
    (carried_below (job c) fits (certain c.written) place from inverted within class)
    (near_carried (job c) fits (certain c.written) place from inverted within class)

pub carried_next : (c : Contents) (lanes : LanesView) (covered : Covered) (place from : ℕ) (inverted : Bool)
    (literal result : LiteralView) → IsWave c
    → IsRightOf c lanes → place ≡ count_of lanes → place < length c.written → is_unknown (certain c.written place) ≡ true
    → class_of (job c) (certain c.written) place ≡ Carried from inverted → IsOf covered lanes
    → literal ≡ covered_literal covered from → result ≡ turned inverted literal → IsLiteralIn c lanes.nodes result place
carried_next c lanes covered place from inverted literal result wave right is less uncertain class of literal_is result_is =
    let t = carried_covered c lanes covered place from inverted wave right is less class of in
    let before = covered_before c lanes covered place right is of in
    let there : IsLiteralIn c covered.nodes.now (covered_literal covered from) from = before.each from t.first t.below in
    rw (result_is, literal_is) (carried_literal c lanes.nodes (covered_literal covered from) place from inverted wave less
    class (subst (λ ns. IsLiteralIn c ns (covered_literal covered from) from) of.nodes there))

-- The literal of the next place comes in.
keeps_count : (old new : LanesView) → Keeps old new → count_of new ≡ count_of old
keeps_count old new keeps = rw (keeps.first, keeps.literals) refl

pub covered_next : (c : Contents) (old new lanes : LanesView) (literal : LiteralView) (place : ℕ) → lanes ≡ new → Keeps old new
    → IsRightOf c new → old.width ≡ (job c).width → place ≡ count_of old → count_of old < length c.written → IsLiteralIn c new.nodes literal place
    → IsRightOf c (record {
      nodes = lanes.nodes;
      first = lanes.first;
      literals = lanes.literals ++ literal ∷ [];
      next = None;
      graph = lanes.graph;
      shared = lanes.shared;
      width = lanes.width;
    })
covered_next c old new lanes literal place same keeps right sized is less holds =
    let count = keeps_count old new keeps in
    rw same (covered_more c new literal right (keeps.width ∙ sized) (rw count less)
    (subst (λ k. IsLiteralIn c new.nodes literal k) (is ∙ sym count) holds))

-- Of the literals the first ones go.
drop_at : (xs : List LiteralView) (n i : ℕ) → slice_index_or (drop n xs) i no_literal ≡ slice_index_or xs (i + n) no_literal
drop_at xs zero i = (let same : i ≡ i + 0 = omega arith in ap (λ k. slice_index_or xs k no_literal) same)
drop_at [] (suc n) i = refl
drop_at (x ∷ xs) (suc n) i =
    (let next : suc (i + n) ≡ i + suc n = omega arith in
    drop_at xs n i ∙ ap (λ k. slice_index_or (x ∷ xs) k no_literal) next)

pub forgets_right : (c : Contents) (lanes : LanesView) (n : ℕ) → n + 3 * (job c).width ≡ length lanes.literals
    → IsRightOf c lanes
    → IsRightOf c (record {
      nodes = lanes.nodes;
      first = lanes.first + n;
      literals = drop n lanes.literals;
      next = lanes.next;
      graph = lanes.graph;
      shared = lanes.shared;
      width = lanes.width;
    })
forgets_right c lanes n kept right = record {
  some = right.some;
  zero = right.zero;
  written = (let up = right.written in omega (arith, up, long, kept));
  each = λ place first below.
      (let index : place - (lanes.first + n) + n ≡ place - lanes.first = omega (arith, first) in
      subst (λ l. IsLiteralIn c lanes.nodes l place) (sym (drop_at lanes.literals n (place - (lanes.first + n))
      ∙ ap (λ i. slice_index_or lanes.literals i no_literal) index))
      (right.each place (omega (arith, first)) (omega (arith, below, long, kept))));
  far = λ k near. omega (arith, near, long, kept);
  next = subst (λ m. IfSome lanes.next (IsNextNode c lanes.nodes m)) count right.next;
  graph = right.graph;
  shared = right.shared;
  below = subst (λ m. AllByRecursion (λ k. k < m + looked lanes.next) (numbers_of lanes.nodes)) count right.below;
  sized = λ some. right.sized (omega (arith, some, count));
}
  where
    long : length (drop n lanes.literals) ≡ length lanes.literals - n
    long = length-drop n lanes.literals

    count : count_of lanes ≡ lanes.first + n + length (drop n lanes.literals)
    count = omega (arith, long, kept)

-- A place that keeps has the literal of its net's place a step before, which is covered.
kept_at : (c : Contents) (lanes : LanesView) (place : ℕ) → IsWave c → place < length c.written
    → keeps_there (job c) c.written place ≡ true → IsKeptFrom c lanes.nodes place
kept_at c lanes place wave less keeps = kept_literal c lanes.nodes place wave less keeps

-- So the next place, which keeps, comes in with that literal.
kept_near : (c : Contents) (lanes : LanesView) → IsWave c → IsRightOf c lanes → count_of lanes < length c.written
    → keeps_there (job c) c.written (count_of lanes) ≡ true
    → ((job c).width ≤ count_of lanes) × (lanes.first ≤ count_of lanes - (job c).width) × (0 < (job c).width)
kept_near c lanes wave right less keeps =
    let kept = kept_at c lanes (count_of lanes) wave less keeps in
    let back = kept.back in
    let some = kept.some in
    (omega (arith, back), right.far (count_of lanes - (job c).width) (omega (arith, back, some)), omega (arith, some))

kept_more : (c : Contents) (lanes : LanesView) → IsWave c → IsRightOf c lanes → lanes.width ≡ (job c).width
    → count_of lanes < length c.written → keeps_there (job c) c.written (count_of lanes) ≡ true
    → IsRightOf c (with_literals lanes (lanes.literals
    ++ literal_in lanes.first lanes.literals (count_of lanes - (job c).width) ∷ []))
kept_more c lanes wave right sized less keeps =
    let near = kept_near c lanes wave right less keeps in
    let place = count_of lanes - (job c).width in
    let some = near.2 in
    let up = near.0 in
    let there = right.each place near.1 (omega (arith, some, up)) in
    covered_more c lanes (literal_in lanes.first lanes.literals place) right sized less
    ((kept_at c lanes (count_of lanes) wave less keeps).literal (literal_in lanes.first lanes.literals place) there)

-- And all places of a run do that keep: each with the literal of its position in the last row.
take_more : (ls : List LiteralView) (n : ℕ) → n < length ls → take (n + 1) ls ≡ take n ls ++ slice_index_or ls n no_literal ∷ []
take_more [] n less = absurd (omega (arith, less))
take_more (l ∷ ls) zero less = refl
take_more (l ∷ ls) (suc n) less = ap (λ k. take k (l ∷ ls)) (let next : suc n + 1 ≡ suc (n + 1) = omega arith in next)
    ∙ ap (λ (ms : List LiteralView). l ∷ ms) (take_more ls n (omega (arith, less)))

run_from : (c : Contents) (lanes : LanesView) (n : ℕ) → IsWave c → IsRightOf c lanes → lanes.width ≡ (job c).width
    → n < (job c).width → count_of lanes + n < length c.written
    → AllKeepFrom (job c) c.written (count_of lanes) (count_of lanes + (n + 1))
    → IsRightOf c (with_literals lanes (lanes.literals
    ++ take (n + 1) (drop (length lanes.literals - (job c).width) lanes.literals)))
run_from c lanes n wave right sized inside within keep = more n (omega arith)
  where
    w : ℕ
    w = (job c).width

    rows : List LiteralView
    rows = drop (length lanes.literals - w) lanes.literals

    near : (w ≤ count_of lanes) × (lanes.first ≤ count_of lanes - w) × (0 < w)
    near = kept_near c lanes wave right (omega (arith, within)) (keep (count_of lanes) (omega arith) (omega arith))

    wide : w ≤ length lanes.literals
    wide = (let up = near.0 in let first = near.1 in omega (arith, up, first))

    long : length rows ≡ w
    long = (let dropped = length-drop (length lanes.literals - w) lanes.literals in omega (arith, dropped, wide))

    there : (k : ℕ) → k < w → slice_index_or rows k no_literal
        ≡ slice_index_or lanes.literals (length lanes.literals - w + k) no_literal
    there k less = get_or-drop (length lanes.literals - w) lanes.literals k no_literal

    with : ℕ → LanesView
    with k = with_literals lanes (lanes.literals ++ take (k + 1) rows)

    with_long : (k : ℕ) → k < w → count_of (with k) ≡ count_of lanes + (k + 1)
    with_long k less =
        let all = length-append lanes.literals (take (k + 1) rows) in
        let taken = length-take-le (k + 1) rows (omega (arith, less, long)) in
        omega (arith, all, taken)

    here : (k : ℕ) → k < w
        → slice_index_or (lanes.literals ++ take k rows) (count_of lanes + k - w - lanes.first) no_literal
        ≡ slice_index_or rows k no_literal
    here k less =
        let at : count_of lanes + k - w - lanes.first ≡ length lanes.literals - w + k = omega (arith, wide) in
        ap (λ i. slice_index_or (lanes.literals ++ take k rows) i no_literal) at
        ∙ get_or-append lanes.literals (take k rows) no_literal (length lanes.literals - w + k) (omega (arith, wide, less))
        ∙ sym (there k less)

    more : (k : ℕ) → k ≤ n → IsRightOf c (with k)
    more zero low = subst (λ (ls : List LiteralView). IsRightOf c (with_literals lanes (lanes.literals ++ ls)))
        (sym (take_more rows 0 (omega (arith, long, near.2)))
        ) (subst (λ (l : LiteralView). IsRightOf c (with_literals lanes (lanes.literals ++ l ∷ [])))
        (ap (λ (ls : List LiteralView). slice_index_or ls (count_of lanes - w - lanes.first) no_literal)
        (sym (append-nil lanes.literals))
        ∙ ap (λ i. slice_index_or (lanes.literals ++ []) (i - w - lanes.first) no_literal)
        (let same : count_of lanes ≡ count_of lanes + 0 = omega arith in same)
        ∙ here 0 near.2)
        (kept_more c lanes wave right sized (omega (arith, within)) (keep (count_of lanes) (omega arith) (omega arith))))
    more (suc k) low =
        let inside_k : suc k < w = omega (arith, low, inside) in
        let count = with_long k (omega (arith, inside_k)) in
        let step = kept_more c (with k) wave (more k (omega (arith, low))) sized (omega (arith, count, within, low))
        (keep (count_of (with k)) (omega (arith, count, low)) (omega (arith, count))) in
        let next : k + 1 ≡ suc k = omega arith in
        let at : count_of (with k) ≡ count_of lanes + suc k = omega (arith, count) in
        subst (λ (ls : List LiteralView). IsRightOf c (with_literals lanes ls))
        (append_assoc lanes.literals (take (k + 1) rows) (slice_index_or rows (suc k) no_literal ∷ [])
        ∙ ap (λ m. lanes.literals ++ (take m rows ++ slice_index_or rows (suc k) no_literal ∷ [])) next
        ∙ ap (λ (ls : List LiteralView). lanes.literals ++ ls)
        (sym (take_more rows (suc k) (omega (arith, inside_k, long)))))
        (subst (λ (l : LiteralView). IsRightOf c (with_literals lanes ((lanes.literals ++ take (k + 1) rows) ++ l ∷ [])))
        (ap (λ m. slice_index_or (lanes.literals ++ take m rows) (count_of (with k) - w - lanes.first) no_literal) next
        ∙ ap (λ m. slice_index_or (lanes.literals ++ take (suc k) rows) (m - w - lanes.first) no_literal) at
        ∙ here (suc k) inside_k)
        step)

pub kept_run : (c : Contents) (lanes : LanesView) (many : ℕ) → IsWave c → IsRightOf c lanes
    → lanes.width ≡ (job c).width → 0 < many → many ≤ (job c).width → count_of lanes + many ≤ length c.written
    → AllKeepFrom (job c) c.written (count_of lanes) (count_of lanes + many)
    → IsRightOf c (with_literals lanes (lanes.literals
    ++ take many (drop (length lanes.literals - lanes.width) lanes.literals)))
kept_run c lanes zero wave right sized some fits within keep = absurd (omega (arith, some))
kept_run c lanes (suc n) wave right sized some fits within keep =
    let next : n + 1 ≡ suc n = omega arith in
    subst (λ w. IsRightOf c (with_literals lanes (lanes.literals
    ++ take (suc n) (drop (length lanes.literals - w) lanes.literals)))) (sym sized)
    (subst (λ m. IsRightOf c (with_literals lanes (lanes.literals
    ++ take m (drop (length lanes.literals - (job c).width) lanes.literals)))) next
    (run_from c lanes n wave right sized (omega (arith, fits)) (omega (arith, within))
    (subst (λ m. AllKeepFrom (job c) c.written (count_of lanes) (count_of lanes + m)) (sym next) keep)))

-- Rows go on: literals came in, and the first ones go.
pub onward_right : (c : Contents) (lanes : LanesView) (old new : RowsView) (more : List LiteralView) (gone : ℕ)
    → IsOnward old new more gone → old.literals ≡ lanes.literals → old.width ≡ lanes.width
    → lanes.width ≡ (job c).width → IsRightOf c (with_literals lanes (lanes.literals ++ more))
    → IsRightOf c (record {
      nodes = lanes.nodes;
      first = lanes.first + gone;
      literals = new.literals;
      next = None;
      graph = lanes.graph;
      shared = lanes.shared;
      width = new.width;
    })
onward_right c lanes old new more gone on literals_is width_is sized right =
    subst (λ w. IsRightOf c (lanes_by (lanes.first + gone) new.literals w)) (sym width_is ∙ sym on.width)
    (subst (λ (ls : List LiteralView). IsRightOf c (lanes_by (lanes.first + gone) ls lanes.width))
    (ap (λ (ls : List LiteralView). drop gone (ls ++ more)) (sym literals_is) ∙ sym on.literals)
    (⊎_elim
    (λ (some : 0 < gone). forgets_right c (with_literals lanes (lanes.literals ++ more)) gone
    (let enough = on.enough some in
    ap (λ w. gone + 3 * w) (sym sized ∙ sym width_is) ∙ enough
    ∙ ap (λ (ls : List LiteralView). length (ls ++ more)) literals_is) right)
    (λ (none : gone ≤ 0). (let zero : gone ≡ 0 = omega (arith, none) in
    subst (λ m. IsRightOf c (lanes_by (lanes.first + m) (drop m (lanes.literals ++ more)) lanes.width)) (sym zero)
    (subst (λ m. IsRightOf c (lanes_by m (lanes.literals ++ more) lanes.width))
    (let same : lanes.first ≡ lanes.first + 0 = omega arith in same) right)))
    (cases_lt 0 gone)))
  where
    lanes_by : ℕ → List LiteralView → ℕ → LanesView
    lanes_by first literals width = record {
      nodes = lanes.nodes;
      first = first;
      literals = literals;
      next = None;
      graph = lanes.graph;
      shared = lanes.shared;
      width = width;
    }

pub onward_count : (old new : RowsView) (more : List LiteralView) (gone : ℕ) → IsOnward old new more gone
    → gone + length new.literals ≡ length old.literals + length more
onward_count old new more gone on =
    let all = length-append old.literals more in
    let same = ap length on.literals in
    let dropped = length-drop gone (old.literals ++ more) in
    ⊎_elim (λ (some : 0 < gone). (let enough = on.enough some in omega (arith, all, same, dropped, enough)))
    (λ (none : gone ≤ 0). omega (arith, all, same, dropped, none)) (cases_lt 0 gone)

pub kept_wide : (c : Contents) (lanes : LanesView) → IsWave c → IsRightOf c lanes → lanes.width ≡ (job c).width
    → count_of lanes < length c.written → keeps_there (job c) c.written (count_of lanes) ≡ true
    → lanes.width ≤ length lanes.literals
kept_wide c lanes wave right sized less keeps =
    let near = kept_near c lanes wave right less keeps in
    let up = near.0 in
    let first = near.1 in
    let some = near.2 in
    omega (arith, up, first, some, sized)

pub last_long : (v : RowsView) (many : ℕ) → v.width ≤ length v.literals → many ≤ v.width
    → length (last_row v many) ≡ many
last_long v many wide few =
    let dropped = length-drop (length v.literals - v.width) v.literals in
    length-take-le many (drop (length v.literals - v.width) v.literals) (omega (arith, dropped, wide, few))

-- Before the first place the rows are made.
none_of : (ls : List LiteralView) → length ls ≡ 0 → ls ≡ []
none_of [] is = refl
none_of (l ∷ ls) is = absurd (omega (arith, is))

pub begun_right : (c : Contents) (lanes : LanesView) (rows : RowsView) → IsRightOf c lanes → count_of lanes ≡ 0
    → rows.literals ≡ [] → IsRightOf c (record {
      nodes = lanes.nodes;
      first = lanes.first;
      literals = rows.literals;
      next = lanes.next;
      graph = lanes.graph;
      shared = lanes.shared;
      width = rows.width;
    })
begun_right c lanes rows right none empty =
    subst (λ (ls : List LiteralView). IsRightOf c (record {
      nodes = lanes.nodes;
      first = lanes.first;
      literals = ls;
      next = lanes.next;
      graph = lanes.graph;
      shared = lanes.shared;
      width = rows.width;
    })) (none_of lanes.literals (omega (arith, none)) ∙ sym empty)
    (record {
      some = right.some;
      zero = right.zero;
      written = right.written;
      each = right.each;
      far = right.far;
      next = right.next;
      graph = right.graph;
      shared = right.shared;
      below = right.below;
      sized = λ some. absurd (omega (arith, none, some));
    })
