-- A set of names means the list of them.
use Rattle.std.proofs.Common.{◌≡◌, ℕ, ◌+◌, ◌<◌, Bool, true, false, List, [], ◌∷◌, ◌++◌, length, take, get_or, refl, sym, ◌∙◌, ap, subst, bytes_eq, if◌then◌else◌, ◌||◌, ◌&&◌, not, Bor}
use Rattle.std.proofs.lemmas.Bool.{not-false}
use Rattle.elab_names.specs.Sets.{has}
use Rattle.std.proofs.lemmas.List.{take_more, map-append}
pub use Rattle.elab_names.proofs.SetLemmas.{bytes_same}
use Rattle.elab_names.proofs.SetLemmas.{or_assoc, or_false}
use Rattle.elab_prims.specs.Names.{HasAll, texts, are_among}

has_push : (names : List (List ℕ)) (name q : List ℕ) → has (names ++ name ∷ []) q ≡ (has names q || bytes_eq q name)
has_push [] name q = or_false (bytes_eq q name)
has_push (n ∷ names) name q = ap (λ (b : Bool). bytes_eq q n || b) (has_push names name q) ∙ sym (or_assoc (bytes_eq q n) (has names q) (bytes_eq q name))

-- a name that is there already adds nothing
again : (b : Bool) (names : List (List ℕ)) (q name : List ℕ) → bytes_eq q name ≡ b → has names name ≡ true → has names q ≡ (has names q || b)
again true names q name is h = (
    let there : has names q ≡ true = ap (λ (l : List ℕ). has names l) (bytes_same q name is) ∙ h in
    rw there refl)
again false names q name is h = sym (or_false (has names q))

more_by : (fresh : Bool) (set others : List (List ℕ)) (name q : List ℕ) → fresh ≡ not (has set name) → HasAll set others → has (if fresh then set ++ name ∷ [] else set) q ≡ has (others ++ name ∷ []) q
more_by true set others name q is had = has_push set name q ∙ ap (λ (b : Bool). b || bytes_eq q name) (had.same q) ∙ sym (has_push others name q)
more_by false set others name q is had =
    again (bytes_eq q name) set q name refl (not-false (has set name) (sym is)) ∙ ap (λ (b : Bool). b || bytes_eq q name) (had.same q) ∙ sym (has_push others name q)

-- one name more
pub has_more : (fresh : Bool) (set others more : List (List ℕ)) (name : List ℕ) → fresh ≡ not (has set name) → more ≡ (if fresh then set ++ name ∷ [] else set) → HasAll set others → HasAll more (others ++ name ∷ [])
has_more fresh set others more name is grown had = record { same = λ q. ap (λ (l : List (List ℕ)). has l q) grown ∙ more_by fresh set others name q is had }

-- the names up to one
pub has_more_at : (names : List (Bor (List ℕ))) (k : ℕ) (d : Bor (List ℕ)) (fresh : Bool) (set more : List (List ℕ)) → k < length names → fresh ≡ not (has set (get_or names k d).now)
    → more ≡ (if fresh then set ++ (get_or names k d).now ∷ [] else set) → HasAll set (texts (take k names)) → HasAll more (texts (take (k + 1) names))
has_more_at names k d fresh set more within is grown had =
    let all : texts (take (k + 1) names) ≡ texts (take k names) ++ (get_or names k d).now ∷ [] =
    ap texts (take_more names k d within) ∙ map-append (λ (n : Bor (List ℕ)). n.now) (take k names) (get_or names k d ∷ []) in
    subst (λ (l : List (List ℕ)). HasAll more l) (sym all) (has_more fresh set (texts (take k names)) more (get_or names k d).now is grown had)

-- A set with the same members has the same names.
pub all_same : (set others : List (List ℕ)) (names : List (List ℕ)) → HasAll set others → are_among set names ≡ are_among others names
all_same set others [] same = refl
all_same set others (n ∷ names) same = ap (λ (b : Bool). b && are_among set names) (same.same n) ∙ ap (λ (b : Bool). has others n && b) (all_same set others names same)
