-- Positions as bits of words.
use Rattle.std.proofs.Common.{◌≡◌, ◌≢◌, ℕ, ◌+◌, ◌-◌, ◌*◌, ◌/◌, ◌%◌, ◌^◌, ◌<◌, ◌≤◌, ◌==◌, true, false, List, length, set, slice_index, bit_and, bit_or, min, refl, sym, ap, subst, ◌∙◌, arith, w64, length-set, replicate, get_or-set_other, get_or-set_same, inl, inr, ◌⊎◌, ⊎_elim}
use Rattle.std.proofs.Math.Nat.{min-zero}
use Rattle.std.proofs.lemmas.Bool.{cases_eq, cases_lt, false≢true}
use Rattle.std.proofs.lemmas.List.{get_or-replicate, get_or_past, length-replicate}
use Rattle.std.proofs.lemmas.Nat.Bits.{bit_at_and, bit_at-lt, bit_at-zero, bit_at_ones, bit_at_set_same, bit_at_set_other, bit_at_mask_below, bit_at_mask_inside, ones_shl, bit_at-trailing_zeros}
use Rattle.std.specs.Int.{bit_at, trailing_zeros}
use Rattle.replay_due.specs.Due.{AreCleared, AreLevels, Covers, NoneBetween, is_due}

-- With its bit set a position is due, and the others are as they were.
pub set_here : (words : List ℕ) (position word : ℕ) → position / 64 < length words → is_due (set words (position / 64) (bit_or word (1 * 2 ^ (position % 64) % 2 ^ 64))) position ≡ true
set_here words position word room =
    let small : position % 64 < 64 = omega arith in
    let one : bit_at (bit_or word (1 * 2 ^ (position % 64) % 2 ^ 64)) (position % 64) ≡ 1 = bit_at_set_same w64 word (position % 64) small in
    rw get_or-set_same (rw one refl)

pub set_elsewhere : (words : List ℕ) (position word other : ℕ) → position / 64 < length words → word ≡ slice_index words (position / 64) → other ≢ position → is_due (set words (position / 64) (bit_or word (1 * 2 ^ (position % 64) % 2 ^ 64))) other ≡ is_due words other
set_elsewhere words position word other room word_is differ =
    ⊎_elim (λ same. same_word same) (λ apart. other_word apart) (cases_eq (other / 64) (position / 64))
  where
    new : ℕ
    new = bit_or word (1 * 2 ^ (position % 64) % 2 ^ 64)

    same_word : other / 64 ≡ position / 64 → is_due (set words (position / 64) new) other ≡ is_due words other
    same_word same =
        let small : position % 64 < 64 = omega arith in
        let apart : other % 64 ≢ position % 64 = λ equal. differ (omega (arith, same, equal)) in
        let bit : bit_at new (other % 64) ≡ bit_at word (other % 64) = bit_at_set_other w64 word (position % 64) small (other % 64) apart in
        rw (same, get_or-set_same, ← word_is) (ap (λ (b : ℕ). b == 1) bit)

    other_word : other / 64 ≢ position / 64 → is_due (set words (position / 64) new) other ≡ is_due words other
    other_word apart = rw get_or-set_other refl

-- The bits of a word from one on.
pub rest_below : (word start bit : ℕ) → start < 64 → bit < start → bit_at (bit_and word ((2 ^ 64 - 1) * 2 ^ start % 2 ^ 64)) bit ≡ 0
rest_below word start bit within less =
    let mask : (2 ^ 64 - 1) * 2 ^ start % 2 ^ 64 ≡ 2 ^ 64 - 2 ^ start = ones_shl 64 start (omega arith) in
    let zero_bit : bit_at (2 ^ 64 - 2 ^ start) bit ≡ 0 = bit_at_mask_below start 64 bit less in
    ap (λ m. bit_at (bit_and word m) bit) mask ∙ bit_at_and word (2 ^ 64 - 2 ^ start) bit ∙ ap (min (bit_at word bit)) zero_bit ∙ min-zero (bit_at word bit)

pub rest_from : (word start bit : ℕ) → start < 64 → start ≤ bit → bit < 64 → bit_at (bit_and word ((2 ^ 64 - 1) * 2 ^ start % 2 ^ 64)) bit ≡ bit_at word bit
rest_from word start bit within from less =
    let mask : (2 ^ 64 - 1) * 2 ^ start % 2 ^ 64 ≡ 2 ^ 64 - 2 ^ start = ones_shl 64 start (omega arith) in
    let one_bit : bit_at (2 ^ 64 - 2 ^ start) bit ≡ 1 = bit_at_mask_inside start 64 bit from less in
    let small = bit_at-lt word bit in
    let least : min (bit_at word bit) 1 ≡ bit_at word bit = omega (arith, small) in
    ap (λ m. bit_at (bit_and word m) bit) mask ∙ bit_at_and word (2 ^ 64 - 2 ^ start) bit ∙ ap (min (bit_at word bit)) one_bit ∙ least

-- A number that has the bits of a word from one on.
pub record IsRest (word start rest : ℕ) : Type 0 where
  pub below : (bit : ℕ) → bit < start → bit_at rest bit ≡ 0
  pub from : (bit : ℕ) → start ≤ bit → bit < 64 → bit_at rest bit ≡ bit_at word bit
  pub small : rest < 2 ^ 64

-- Where it is none, none of the word's positions from one on is due.
pub none_more : (words : List ℕ) (from position word rest : ℕ) → word ≡ slice_index words (position / 64) → IsRest word (position % 64) rest → rest ≡ 0 → from ≤ position → NoneBetween words from position → NoneBetween words from ((position / 64 + 1) * 64)
none_more words from position word rest word_is is none forward before q low high =
    ⊎_elim (λ less. before q low less) (λ more. here more) (cases_lt q position)
  where
    here : position ≤ q → is_due words q ≡ false
    here more =
        let same : q / 64 ≡ position / 64 = omega (arith, more, high) in
        let behind : position % 64 ≤ q % 64 = omega (arith, more, same) in
        let bit : bit_at word (q % 64) ≡ 0 = sym (is.from (q % 64) behind (omega arith)) ∙ ap (λ r. bit_at r (q % 64)) none ∙ bit_at-zero (q % 64) in
        rw (same, ← word_is, bit) refl

-- Else its lowest bit is the first position that is due.
pub record IsFirstIn (words : List ℕ) (from position found : ℕ) : Type 0 where
  pub forward : position ≤ found
  pub none : NoneBetween words from found
  pub due : is_due words found ≡ true

pub first_found : (words : List ℕ) (from position word rest : ℕ) → word ≡ slice_index words (position / 64) → IsRest word (position % 64) rest → rest ≢ 0 → from ≤ position → NoneBetween words from position → IsFirstIn words from position (position / 64 * 64 + trailing_zeros w64 rest)
first_found words from position word rest word_is is some forward before = record {
  forward = omega (arith, behind);
  none = λ q low high. ⊎_elim (λ less. before q low less) (λ more. clear q more high) (cases_lt q position);
  due = due;
}
  where
    positive : 0 < rest
    positive = omega (arith, some)

    t : ℕ
    t = trailing_zeros w64 rest

    lowest : (t < 64) × (bit_at rest t ≡ 1) × ((i : ℕ) → i < t → bit_at rest i ≡ 0)
    lowest = bit_at-trailing_zeros w64 rest positive is.small

    behind : position % 64 ≤ t
    behind = ⊎_elim (λ less. absurd (let one = lowest.1 in let zero_bit = is.below t less in omega (arith, one, zero_bit))) (λ more. more) (cases_lt t (position % 64))

    clear : (q : ℕ) → position ≤ q → q < position / 64 * 64 + t → is_due words q ≡ false
    clear q more high =
        let small = lowest.0 in
        let same : q / 64 ≡ position / 64 = omega (arith, more, high, small) in
        let from_there : position % 64 ≤ q % 64 = omega (arith, more, same) in
        let low : q % 64 < t = omega (arith, high, same) in
        let bit : bit_at word (q % 64) ≡ 0 = sym (is.from (q % 64) from_there (omega arith)) ∙ lowest.2 (q % 64) low in
        rw (same, ← word_is, bit) refl

    due : is_due words (position / 64 * 64 + t) ≡ true
    due =
        let small = lowest.0 in
        let whole : (position / 64 * 64 + t) / 64 ≡ position / 64 = omega (arith, small) in
        let part : (position / 64 * 64 + t) % 64 ≡ t = omega (arith, small) in
        let bit : bit_at word t ≡ 1 = sym (is.from t behind small) ∙ lowest.1 in
        rw (whole, part, ← word_is, bit) refl

pub none_in_zeros : (words : List ℕ) (position : ℕ) → slice_index words (position / 64) ≡ 0 → is_due words position ≡ false
none_in_zeros words position is = rw (is, bit_at-zero (position % 64)) refl

pub due_in_ones : (words : List ℕ) (position : ℕ) → slice_index words (position / 64) ≡ 2 ^ 64 - 1 → is_due words position ≡ true
due_in_ones words position is =
    let one : bit_at (2 ^ 64 - 1) (position % 64) ≡ 1 = bit_at_ones 64 (position % 64) (omega arith) in
    rw (is, one) refl

-- Beyond the words nothing is due.
pub none_past : (words : List ℕ) (place : ℕ) → length words ≤ place → slice_index words place ≡ 0
none_past words place past = get_or_past words place 0 past

-- With no word that has a bit.
pub covers_zeros : (groups words : List ℕ) → ((place : ℕ) → slice_index words place ≡ 0) → Covers groups words
covers_zeros groups words zeros place clear = zeros place

pub zeros_in : (n place : ℕ) → slice_index (replicate n 0) place ≡ 0
zeros_in n place = ⊎_elim (λ less. get_or-replicate n place 0 0 less) (λ more. get_or_past (replicate n 0) place 0 (let long : length (replicate n 0) ≡ n = length-replicate {A = ℕ} n 0 in omega (arith, long, more))) (cases_lt place n)

pub covers_ones : (n : ℕ) (words : List ℕ) → length words ≤ 64 * n → Covers (replicate n (2 ^ 64 - 1)) words
covers_ones n words room place clear = ⊎_elim (λ less. absurd (let on = due_in_ones (replicate n (2 ^ 64 - 1)) place (get_or-replicate n (place / 64) (2 ^ 64 - 1) 0 (omega (arith, less))) in false≢true (sym clear ∙ on))) (λ more. get_or_past words place 0 (omega (arith, more, room))) (cases_lt place (64 * n))

pub covers_set : (groups words : List ℕ) (place group word : ℕ) → place / 64 < length groups → group ≡ slice_index groups (place / 64) → Covers groups words → Covers (set groups (place / 64) (bit_or group (1 * 2 ^ (place % 64) % 2 ^ 64))) (set words place word)
covers_set groups words place group word room group_is covers other clear =
    ⊎_elim (λ same. absurd (let here = set_here groups place group room in false≢true (sym clear ∙ ap (is_due (set groups (place / 64) (bit_or group (1 * 2 ^ (place % 64) % 2 ^ 64)))) same ∙ here))) (λ differ. rw (get_or-set_other words place other word 0 differ) (covers other (sym (set_elsewhere groups place group other room group_is differ) ∙ clear))) (cases_eq other place)

-- One word more is none.
pub cleared_one : (old words : List ℕ) (start place : ℕ) → start ≤ place → place < length words → AreCleared old words start place → AreCleared old (set words place 0) start (place + 1)
cleared_one old words start place low room cleared = record {
  inside = λ k from below. ⊎_elim (λ same. ap (slice_index (set words place 0)) same ∙ get_or-set_same words place 0 0 room) (λ differ. (let less : k < place = omega (arith, below, differ) in rw (get_or-set_other words place k 0 0 differ) (cleared.inside k from less))) (cases_eq k place);
  outside = λ k away. (let differ : k ≢ place = ⊎_elim (λ less. (λ same. omega (arith, same, less, low))) (λ more. (λ same. omega (arith, same, more))) away in rw (get_or-set_other words place k 0 0 differ) (cleared.outside k (⊎_elim (λ less. inl less) (λ more. inr (omega (arith, more))) away)));
}

pub cleared_none : (words : List ℕ) (start : ℕ) → AreCleared words words start start
cleared_none words start = record { inside = λ k from below. absurd (omega (arith, from, below)); outside = λ k away. refl }

pub cleared_end : (old words : List ℕ) (start place end : ℕ) → place ≤ start + 64 → (start + 64 ≤ end) ⊎ (length words ≤ end) → end ≤ place → AreCleared old words start place → AreCleared old words start (start + 64)
cleared_end old words start place end low ends done cleared = record {
  inside = λ k from below. ⊎_elim (λ less. cleared.inside k from less) (λ more. ⊎_elim (λ all. absurd (omega (arith, all, done, more, below))) (λ past. get_or_past words k 0 (omega (arith, past, done, more))) ends) (cases_lt k place);
  outside = λ k away. cleared.outside k (⊎_elim (λ less. inl less) (λ more. inr (omega (arith, more, low))) away);
}

-- The words of a group more are none.
pub cleared_more : (groups old new : List ℕ) (group : ℕ) → AreCleared old new (group * 64) (group * 64 + 64) → ((k : ℕ) → k < group * 64 → slice_index old k ≡ 0) → (k : ℕ) → k < (group + 1) * 64 → slice_index new k ≡ 0
cleared_more groups old new group cleared before k low =
    ⊎_elim (λ less. cleared.outside k (inl less) ∙ before k less) (λ more. cleared.inside k more (omega (arith, low))) (cases_lt k (group * 64))

pub kept_more : (groups words : List ℕ) (group : ℕ) → slice_index groups group ≡ 0 → Covers groups words → ((k : ℕ) → k < group * 64 → slice_index words k ≡ 0) → (k : ℕ) → k < (group + 1) * 64 → slice_index words k ≡ 0
kept_more groups words group none covers before k low =
    ⊎_elim (λ less. before k less) (λ more. (let same : k / 64 ≡ group = omega (arith, more, low) in covers k (none_in_zeros groups k (ap (slice_index groups) same ∙ none)))) (cases_lt k (group * 64))

pub covers_more : (groups old new : List ℕ) (start end : ℕ) → AreCleared old new start end → Covers groups old → Covers groups new
covers_more groups old new start end cleared covers k clear =
    ⊎_elim (λ less. cleared.outside k (inl less) ∙ covers k clear) (λ more. ⊎_elim (λ inner. cleared.inside k more inner) (λ outer. cleared.outside k (inr outer) ∙ covers k clear) (cases_lt k end)) (cases_lt k start)

-- No position is due up to the first word that may have one.
pub none_to : (groups words : List ℕ) (from place next : ℕ) → Covers groups words → NoneBetween words from ((place + 1) * 64) → NoneBetween groups (place + 1) next → NoneBetween words from (next * 64)
none_to groups words from place next covers before none q low high =
    ⊎_elim (λ less. before q low less) (λ more. none_in_zeros words q (covers (q / 64) (none (q / 64) (omega (arith, more)) (omega (arith, high))))) (cases_lt q ((place + 1) * 64))

-- The first position lies within the words.
pub first_small : (words : List ℕ) (position rest word : ℕ) → IsRest word (position % 64) rest → rest ≢ 0 → position / 64 < length words → position / 64 * 64 + trailing_zeros w64 rest ≤ 64 * length words
first_small words position rest word is some inside =
    let positive : 0 < rest = omega (arith, some) in
    let lowest = bit_at-trailing_zeros w64 rest positive is.small in
    let small = lowest.0 in
    omega (arith, small, inside)

-- The levels of all, and with one more.
pub levels_all : (count : ℕ) (words groups : List ℕ) → count ≤ 2 ^ 20 → words ≡ replicate (count / 64 + 1) (2 ^ 64 - 1) → groups ≡ replicate (count / 4096 + 1) (2 ^ 64 - 1) → AreLevels words groups
levels_all count words groups few words_are groups_are =
    let long : length words ≡ count / 64 + 1 = ap length words_are ∙ length-replicate {A = ℕ} (count / 64 + 1) (2 ^ 64 - 1) in
    let above : length groups ≡ count / 4096 + 1 = ap length groups_are ∙ length-replicate {A = ℕ} (count / 4096 + 1) (2 ^ 64 - 1) in
    let covers : Covers (replicate (count / 4096 + 1) (2 ^ 64 - 1)) words = covers_ones (count / 4096 + 1) words (omega (arith, long)) in
    record { few = omega (arith, long, few); small = omega (arith, above, few); room = omega (arith, long, above); covers = subst (λ (gs : List ℕ). Covers gs words) (sym groups_are) covers }

pub levels_insert : (words groups : List ℕ) (place group word : ℕ) → place < length words → group ≡ slice_index groups (place / 64) → AreLevels words groups → AreLevels (set words place word) (set groups (place / 64) (bit_or group (1 * 2 ^ (place % 64) % 2 ^ 64)))
levels_insert words groups place group word less group_is levels =
    let few = levels.few in
    let small = levels.small in
    let room = levels.room in
    let long = length-set words place word in
    let above = length-set groups (place / 64) (bit_or group (1 * 2 ^ (place % 64) % 2 ^ 64)) in
    record { few = omega (arith, long, few); small = omega (arith, above, small); room = omega (arith, long, above, room); covers = covers_set groups words place group word (omega (arith, less, room)) group_is levels.covers }

pub levels_clear : (words groups : List ℕ) (old_words old_groups : List ℕ) → AreLevels old_words old_groups → length words ≡ length old_words → length groups ≡ length old_groups → ((place : ℕ) → slice_index words place ≡ 0) → AreLevels words groups
levels_clear words groups old_words old_groups levels long above zeros =
    let few = levels.few in
    let small = levels.small in
    let room = levels.room in
    record { few = omega (arith, long, few); small = omega (arith, above, small); room = omega (arith, long, above, room); covers = covers_zeros groups words zeros }

-- A word more of which none is due.
pub none_word : (words : List ℕ) (from place : ℕ) → slice_index words place ≡ 0 → NoneBetween words from (place * 64) → NoneBetween words from ((place + 1) * 64)
none_word words from place none before q low high =
    ⊎_elim (λ less. before q low less) (λ more. (let same : q / 64 ≡ place = omega (arith, more, high) in none_in_zeros words q (ap (slice_index words) same ∙ none))) (cases_lt q (place * 64))

-- Up to the lowest bit of a word none is due.
pub none_to_bit : (words : List ℕ) (from place : ℕ) → slice_index words place ≢ 0 → slice_index words place < 2 ^ 64 → NoneBetween words from (place * 64) → NoneBetween words from (place * 64 + trailing_zeros w64 (slice_index words place))
none_to_bit words from place some small before q low high =
    let positive : 0 < slice_index words place = omega (arith, some) in
    let lowest = bit_at-trailing_zeros w64 (slice_index words place) positive small in
    let within = lowest.0 in
    ⊎_elim (λ less. before q low less) (λ more. (let same : q / 64 ≡ place = omega (arith, more, high, within) in let bit : bit_at (slice_index words place) (q % 64) ≡ 0 = lowest.2 (q % 64) (omega (arith, more, high, within, same)) in rw (same, bit) refl)) (cases_lt q (place * 64))

pub bit_small : (word : ℕ) → word ≢ 0 → word < 2 ^ 64 → trailing_zeros w64 word < 64
bit_small word some small = (bit_at-trailing_zeros w64 word (omega (arith, some)) small).0
