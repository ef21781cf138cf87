-- A word is the bytes up to the next white space.
use Rattle.std.proofs.Common.{◌≡◌, ℕ, suc, ◌+◌, ◌≤◌, ◌<◌, slice_index, Bool, true, false, List, [], ◌∷◌, ◌++◌, length, take, drop, refl, ap, ◌∙◌, arith, append_assoc, add-one}
use Rattle.std.proofs.lemmas.List.{append-nil, length-drop, length-take-le}
use Rattle.recording_reader.specs.Words.{word, scan, between, in_word, left_of}
use Rattle.base_scan.specs.Bytes.{is_white}
use Rattle.base_scan.specs.Gaps.{first_length}
use Rattle.base_scan.specs.declared.gap.Gap.TheVariants.{White}
use Rattle.recording_reader.specs.Reading.{before}

in_word_is : (s at : ℕ) (f bs : List ℕ) → scan (in_word s f) at bs ≡ word s (f ++ take (first_length White bs) bs) ∷ scan between (at + first_length White bs) (drop (first_length White bs) bs)
in_word_is s at f [] = rw (append-nil f) refl
in_word_is s at f (b ∷ bs) =
    let P : Bool → Type 0 = λ v. is_white b ≡ v → scan (in_word s f) at (b ∷ bs) ≡ word s (f ++ take (first_length White (b ∷ bs)) (b ∷ bs)) ∷ scan between (at + first_length White (b ∷ bs)) (drop (first_length White (b ∷ bs)) (b ∷ bs)) in
    let here : at + 1 + first_length White bs ≡ at + suc (first_length White bs) = omega arith in
    let none : at + 0 ≡ at = omega arith in
    let by : (v : Bool) → P v = λ v. elim v as P [
      | true ↦ λ e. rw (e, none, append-nil f, e) refl
      | false ↦ λ e. rw (e, add-one (first_length White bs)) (in_word_is s (at + 1) (f ++ b ∷ []) bs ∙ rw (append_assoc f (b ∷ []) (take (first_length White bs) bs), here) refl)
    ] in
    by (is_white b) refl

word_is : (at : ℕ) (bs : List ℕ) → 0 < length bs → is_white (slice_index bs 0) ≡ false → scan between at bs ≡ word at (take (first_length White bs) bs) ∷ scan between (at + first_length White bs) (drop (first_length White bs) bs)
word_is at [] lt e = absurd (omega (arith, lt))
word_is at (b ∷ bs) lt e =
    let here : at + 1 + first_length White bs ≡ at + suc (first_length White bs) = omega arith in
    rw (e, add-one (first_length White bs)) (in_word_is at (at + 1) (b ∷ []) bs ∙ rw here refl)

pub left_word : (start at : ℕ) (bytes bs front back : List ℕ) → left_of start bytes ≡ left_of at bs → 0 < length bs → is_white (slice_index bs 0) ≡ false → first_length White bs ≤ length bs → front ≡ take (first_length White bs) bs → back ≡ drop (first_length White bs) bs → left_of start bytes ≡ before at front (left_of (at + length front) back)
left_word start at bytes bs front back was lt e le f b =
    let n : length front ≡ first_length White bs = ap (λ (l : List ℕ). length l) f ∙ length-take-le (first_length White bs) bs le in
    let m : at + length bs ≡ at + first_length White bs + length (drop (first_length White bs) bs) = omega (arith, length-drop (first_length White bs) bs, le) in
    was ∙ rw (n, f, b, word_is at bs lt e, m) refl
