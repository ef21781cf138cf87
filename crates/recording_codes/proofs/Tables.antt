-- What the table and the map know after a new code.
use Rattle.std.proofs.Common.{◌≡◌, ◌≢◌, ℕ, suc, ◌+◌, ◌<◌, Bool, true, false, cond, List, [], ◌∷◌, ◌++◌, length, Option, Some, None, refl, sym, ap, ◌∙◌, arith, add-one, bytes_eq, get_or, set, slice_index}
use Rattle.std.specs.Map.{lookup}
use Rattle.std.proofs.lemmas.List.{get_or-set_other, get_or-set_same}
use Rattle.std.proofs.lemmas.Slice.Eq.{bytes_eq-Decides}
use Rattle.recording_codes.specs.Code.{Code, code, find}
use Rattle.recording_codes.specs.Slots.{Knows, is_short, slot_of, slot_number, stored_number, number_of}
use Rattle.recording_codes.proofs.Numbers.{first_of, first_cond, number-push, number_none}
use Rattle.recording_codes.proofs.Places.{same_place}
use denote.Ref.{Bor}

abbrev pub Others : Type 0
Others = List (Bor (List ℕ) × ℕ)

abbrev pub look : Others → List ℕ → Option ℕ
look others t = lookup (λ (k : Bor (List ℕ)). bytes_eq t k.now) others

first_none : (p : Option ℕ) → first_of p None ≡ p
first_none (Some n) = refl
first_none None = refl

not_same : (t text : List ℕ) → is_short t ≡ true → is_short text ≡ false → bytes_eq t text ≡ false
not_same t text s long =
    let P : Bool → Type 0 = λ v. bytes_eq t text ≡ v → bytes_eq t text ≡ false in
    let by : (v : Bool) → P v = λ v. elim v as P [
      | true ↦ λ e. let is : is_short t ≡ is_short text = ap is_short ((bytes_eq-Decides t text).0 e) in let no : true ≡ false = sym s ∙ is ∙ long in cc
      | false ↦ λ e. e
    ] in
    by (bytes_eq t text) refl

-- a text that isn't the new code
other_number : (cs : List Code) (c : Code) (t : List ℕ) → bytes_eq t c.text ≡ false → number_of (cs ++ c ∷ []) t ≡ number_of cs t
other_number cs c t h = number-push 0 cs c t ∙ rw h (first_none (number_of cs t))

new_number : (cs : List Code) (c : Code) (t : List ℕ) → bytes_eq t c.text ≡ true → number_of cs t ≡ None → number_of (cs ++ c ∷ []) t ≡ Some (length cs)
new_number cs c t h none = number-push 0 cs c t ∙ (let e : 0 + length cs ≡ length cs = omega arith in rw (h, none, e) refl)

chosen_true : (b : Bool) (a o : Option ℕ) → b ≡ true → cond b a o ≡ a
chosen_true b a o h = rw h refl

chosen_false : (b : Bool) (a o : Option ℕ) → b ≡ false → cond b a o ≡ o
chosen_false b a o h = rw h refl

-- tables that say the same
pub knows_same : (slots slots' : List ℕ) (others : Others) (cs : List Code) → ((k : ℕ) → slice_index slots' k ≡ slice_index slots k) → Knows slots others cs → Knows slots' others cs
knows_same slots slots' others cs same h = λ t. ap (λ (n : ℕ). cond (is_short t) (slot_number n) (look others t)) (same (slot_of t)) ∙ h t

-- a text with another place, and one that isn't short
slot_kept : (slots : List ℕ) (others : Others) (text t : List ℕ) (slot number : ℕ) → is_short text ≡ true → slot ≡ slot_of text → bytes_eq t text ≡ false → stored_number (set slots slot number) others t ≡ stored_number slots others t
slot_kept slots others text t slot number short at e =
    let P : Bool → Type 0 = λ v. is_short t ≡ v → stored_number (set slots slot number) others t ≡ stored_number slots others t in
    let by : (v : Bool) → P v = λ v. elim v as P [
      | true ↦ λ s.
          let apart : slot_of t ≢ slot = λ place.
          let is : t ≡ text = same_place t text s short (place ∙ at) in
          let yes : bytes_eq t text ≡ true = (bytes_eq-Decides t text).1 is in
          cc in
          ap (λ (n : ℕ). cond (is_short t) (slot_number n) (look others t)) (get_or-set_other slots slot (slot_of t) number 0 apart)
      | false ↦ λ s. chosen_false (is_short t) _ (look others t) s ∙ sym (chosen_false (is_short t) _ (look others t) s)
    ] in
    by (is_short t) refl

slot_new : (slots : List ℕ) (others : Others) (text t : List ℕ) (slot number : ℕ) → is_short text ≡ true → slot ≡ slot_of text → slot < length slots → bytes_eq t text ≡ true → stored_number (set slots slot (number + 1)) others t ≡ Some number
slot_new slots others text t slot number short at lt e =
    let is : t ≡ text = (bytes_eq-Decides t text).0 e in
    let place : slot_of t ≡ slot = ap slot_of is ∙ sym at in
    let some : is_short t ≡ true = ap is_short is ∙ short in
    let here : get_or (set slots slot (number + 1)) (slot_of t) 0 ≡ suc number = ap (λ (k : ℕ). get_or (set slots slot (number + 1)) k 0) place ∙ get_or-set_same slots slot (number + 1) 0 lt ∙ add-one number in
    chosen_true (is_short t) _ (look others t) some ∙ ap slot_number here

-- a short code takes its place in the table
pub knows_short : (slots : List ℕ) (others : Others) (cs : List Code) (text : List ℕ) (width : ℕ) (skipped : Bool) (slot number : ℕ) → Knows slots others cs → is_short text ≡ true → slot ≡ slot_of text → slot < length slots → number ≡ length cs → number_of cs text ≡ None → Knows (set slots slot (number + 1)) others (cs ++ code text width skipped ∷ [])
knows_short slots others cs text width skipped slot number h short at lt count none = λ t.
    let c : Code = code text width skipped in
    let P : Bool → Type 0 = λ v. bytes_eq t text ≡ v → stored_number (set slots slot (number + 1)) others t ≡ number_of (cs ++ c ∷ []) t in
    let by : (v : Bool) → P v = λ v. elim v as P [
      | true ↦ λ e.
          let was : number_of cs t ≡ None = ap (λ (t : List ℕ). number_of cs t) ((bytes_eq-Decides t text).0 e) ∙ none in
          slot_new slots others text t slot number short at lt e ∙ ap (λ (n : ℕ). Some n) count ∙ sym (new_number cs c t e was)
      | false ↦ λ e. slot_kept slots others text t slot (number + 1) short at e ∙ h t ∙ sym (other_number cs c t e)
    ] in
    by (bytes_eq t text) refl

look-push : (others : Others) (key : Bor (List ℕ)) (n : ℕ) (t : List ℕ) → look (others ++ (key, n) ∷ []) t ≡ first_of (look others t) (cond (bytes_eq t key.now) (Some n) None)
look-push [] key n t = refl
look-push (o ∷ others) key n t = rw (look-push others key n t) (first_cond (bytes_eq t o.0.now) o.1 (look others t) _)

-- any other code goes into the map
pub knows_other : (slots : List ℕ) (others : Others) (cs : List Code) (key : Bor (List ℕ)) (width : ℕ) (skipped : Bool) (number : ℕ) → Knows slots others cs → is_short key.now ≡ false → number ≡ length cs → Knows slots (others ++ (key, number) ∷ []) (cs ++ code key.now width skipped ∷ [])
knows_other slots others cs key width skipped number h long count = λ t.
    let c : Code = code key.now width skipped in
    let P : Bool → Type 0 = λ v. is_short t ≡ v → stored_number slots (others ++ (key, number) ∷ []) t ≡ number_of (cs ++ c ∷ []) t in
    let by : (v : Bool) → P v = λ v. elim v as P [
      | true ↦ λ s.
          let apart : bytes_eq t key.now ≡ false = not_same t key.now s long in
          chosen_true (is_short t) _ (look (others ++ (key, number) ∷ []) t) s ∙ sym (chosen_true (is_short t) _ (look others t) s) ∙ h t ∙ sym (other_number cs c t apart)
      | false ↦ λ s.
          let was : look others t ≡ number_of cs t = sym (chosen_false (is_short t) (slot_number (slice_index slots (slot_of t))) (look others t) s) ∙ h t in
          let same : number ≡ 0 + length cs = omega (arith, count) in
          chosen_false (is_short t) _ (look (others ++ (key, number) ∷ []) t) s ∙ look-push others key number t ∙ rw (was, same) (sym (number-push 0 cs c t))
    ] in
    by (is_short t) refl

-- what was looked up is what the list says
pub told : (slots read : List ℕ) (others : Others) (columns now : List Code) (text : List ℕ) (r : Option ℕ) → read ≡ slots → columns ≡ now → Knows slots others columns → r ≡ stored_number read others text → r ≡ number_of now text
told slots read others columns now text r same view h is = is ∙ ap (λ (s : List ℕ). stored_number s others text) same ∙ h text ∙ ap (λ (cs : List Code). number_of cs text) view

-- a new code isn't there yet
pub absent : (columns now : List Code) (text : List ℕ) → columns ≡ now → find now text ≡ None → number_of columns text ≡ None
absent columns now text view h = number_none 0 columns text (ap (λ (cs : List Code). find cs text) view ∙ h)

pub absent_other : (slots : List ℕ) (others : Others) (cs : List Code) (text : List ℕ) → Knows slots others cs → is_short text ≡ false → number_of cs text ≡ None → look others text ≡ None
absent_other slots others cs text h long none = sym (chosen_false (is_short text) (slot_number (slice_index slots (slot_of text))) (look others text) long) ∙ h text ∙ none
