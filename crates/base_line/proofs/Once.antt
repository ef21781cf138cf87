-- Names that come at most once, and what is given for each.
use Rattle.std.proofs.Common.{◌≡◌, ◌∙◌, sym, ap, refl, List, [], ◌∷◌, ◌++◌, append_assoc, Option, Some, None, Bool, true, false, cond, true≢false, codes}
use Rattle.std.specs.Prelude.{is_some, unwrap_or}
use Rattle.std.specs.List.{AllByRecursion}
use Rattle.std.specs.Str.{bytes_eq}
use Rattle.clap.specs.Walk.{Text}
use Rattle.base_line.specs.Line.{Item, AreOnce, given, name_in, value_in}
use Rattle.base_line.proofs.Rows.{Shown, same_text, shown_with, text_itself}
use Rattle.base_line.proofs.Through.{AreFresh, shown_files, shown_items}

-- none of the items has the name
abbrev pub LacksName : Text → List Item → Type 0
LacksName name = AllByRecursion (λ i. bytes_eq (name_in i) name ≡ false)

pub lacks_given : (name : Text) (items : List Item) → LacksName name items → given items name ≡ None
lacks_given name [] none = refl
lacks_given name (item ∷ items) none = ap (λ b. cond b (Some (value_in item)) (given items name)) none.0 ∙ lacks_given name items none.1

cond_none : (b : Bool) (value : Text) (rest : Option Text) → cond b (Some value) rest ≡ None → (b ≡ false) × (rest ≡ None)
cond_none true value rest e = absurd (true≢false (ap is_some e))
cond_none false value rest e = (refl, e)

pub given_lacks : (name : Text) (items : List Item) → given items name ≡ None → LacksName name items
given_lacks name [] e = tt
given_lacks name (item ∷ items) e = let parts = cond_none _ _ _ e in (parts.0, given_lacks name items parts.1)

-- the names aren't shown
abbrev pub AreNew : Shown → List Item → Type 0
AreNew g = AllByRecursion (λ i. g (name_in i) ≡ None)

shown_none : (b : Bool) (values : List Text) (rest : Option (List Text)) → cond b (Some values) rest ≡ None → (b ≡ false) × (rest ≡ None)
shown_none true values rest e = absurd (true≢false (ap is_some e))
shown_none false values rest e = (refl, e)

pub turned : (a b : Text) → bytes_eq a b ≡ false → bytes_eq b a ≡ false
turned a b e = go (bytes_eq b a) refl
  where
    go : (x : Bool) → bytes_eq b a ≡ x → bytes_eq b a ≡ false
    go false is = is
    go true is = absurd (true≢false (sym (ap (λ t. bytes_eq t b) (sym (same_text b a is)) ∙ text_itself b) ∙ e))

new_apart : (name : Text) (values : List Text) (g : Shown) (items : List Item) → AreNew (shown_with name values g) items → AreNew g items × LacksName name items
new_apart name values g [] new = (tt, tt)
new_apart name values g (item ∷ items) new =
    let parts = shown_none _ _ _ new.0 in
    let later = new_apart name values g items new.1 in
    ((parts.1, later.0), (turned name (name_in item) parts.0, later.1))

apart_new : (name : Text) (values : List Text) (g : Shown) (items : List Item) → AreNew g items → LacksName name items → AreNew (shown_with name values g) items
apart_new name values g [] new lacks = tt
apart_new name values g (item ∷ items) new lacks =
    (ap (λ b. cond b (Some (unwrap_or (g name) [] ++ values)) (g (name_in item))) (turned (name_in item) name lacks.0) ∙ new.0, apart_new name values g items new.1 lacks.1)

pub fresh_once : (g : Shown) (items : List Item) → AreFresh g items → AreOnce items × AreNew g items
fresh_once g [] fresh = (tt, tt)
fresh_once g (item ∷ items) fresh =
    let later = fresh_once (shown_with (name_in item) (value_in item ∷ []) g) items fresh.1 in
    let parts = new_apart (name_in item) (value_in item ∷ []) g items later.1 in
    ((lacks_given (name_in item) items parts.1, later.0), (fresh.0, parts.0))

once_new : (g : Shown) (items : List Item) → AreOnce items → AreNew g items → AreFresh g items
once_new g [] once new = tt
once_new g (item ∷ items) once new =
    (new.0, once_new (shown_with (name_in item) (value_in item ∷ []) g) items once.1 (apart_new (name_in item) (value_in item ∷ []) g items new.1 (given_lacks (name_in item) items once.0)))

abbrev pub nothing : Shown
nothing = λ _. None

all_new : (items : List Item) → AreNew nothing items
all_new [] = tt
all_new (item ∷ items) = (refl, all_new items)

pub once_fresh : (items : List Item) → AreOnce items → AreFresh nothing items
once_fresh items once = once_new nothing items once (all_new items)

-- ---- what is shown in the end

abbrev pub or_shown : Option Text → Option (List Text) → Option (List Text)
or_shown None x = x
or_shown (Some v) x = Some (v ∷ [])

pub items_show : (g : Shown) (items : List Item) → AreFresh g items → (n : Text) → shown_items g items n ≡ or_shown (given items n) (g n)
items_show g [] fresh n = refl
items_show g (item ∷ items) fresh n =
    let name = name_in item in
    let value = value_in item in
    let more = shown_with name (value ∷ []) g in
    items_show more items fresh.1 n ∙ go (bytes_eq name n) refl
  where
    gone : given items (name_in item) ≡ None
    gone = (fresh_once g (item ∷ items) fresh).0.0

    go : (b : Bool) → bytes_eq (name_in item) n ≡ b
        → or_shown (given items n) (cond b (Some (unwrap_or (g (name_in item)) [] ++ value_in item ∷ [])) (g n)) ≡ or_shown (cond b (Some (value_in item)) (given items n)) (g n)
    go false e = refl
    go true e =
        let here : given items n ≡ None = ap (given items) (sym (same_text (name_in item) n e)) ∙ gone in
        ap (λ o. or_shown o (Some (unwrap_or (g (name_in item)) [] ++ value_in item ∷ []))) here ∙ ap (λ o. Some (unwrap_or o [] ++ value_in item ∷ [])) fresh.0

abbrev pub many : Option (List Text) → List Text → Option (List Text)
many o [] = o
many o (file ∷ files) = Some (unwrap_or o [] ++ file ∷ files)

pub files_show : (g : Shown) (files : List Text) → shown_files g files (codes "FILE") ≡ many (g (codes "FILE")) files
files_show g [] = refl
files_show g (file ∷ []) = refl
files_show g (file ∷ next ∷ files) =
    files_show (shown_with (codes "FILE") (file ∷ []) g) (next ∷ files) ∙ ap Some (append_assoc (unwrap_or (g (codes "FILE")) []) (file ∷ []) (next ∷ files))

pub others_show : (g : Shown) (files : List Text) (n : Text) → bytes_eq (codes "FILE") n ≡ false → shown_files g files n ≡ g n
others_show g [] n other = refl
others_show g (file ∷ files) n other =
    others_show (shown_with (codes "FILE") (file ∷ []) g) files n other ∙ ap (λ b. cond b (Some (unwrap_or (g (codes "FILE")) [] ++ file ∷ [])) (g n)) other
