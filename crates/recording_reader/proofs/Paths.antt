-- The paths of scopes.
use Rattle.std.proofs.Common.{◌≡◌, ℕ, zero, suc, ◌+◌, ◌-◌, ◌<◌, ◌≤◌, Bool, true, false, List, [], ◌∷◌, ◌++◌, length, take, refl, sym, ap, ◌∙◌, arith, slice_index, slice_index_or, length-append}
use Rattle.std.proofs.Math.ListN.{get_or-append}
use Rattle.std.proofs.Math.Seq.{get_or-append_seam, take-append_seam}
use Rattle.std.proofs.lemmas.Option.{slice_get_within, get_or_from_slice_get}
use Rattle.recording_reader.specs.Declarations.{Declarations, RecordedName, StandsInnermost, Returns, open_path, scope_of, with_scope, left_scope, with_variable, variable}
use Rattle.recording_reader.specs.Recording.{Path, path_at, paths_from, paths_of, last_name}
use Rattle.recording_reader.specs.Trees.{IsTree}
use Rattle.recording_reader.specs.declared.variable.Scope.{Scope}
use Rattle.recording_reader.specs.declared.variable.Variable.{Variable}

abbrev path_of : List Path → Scope → Path
path_of ps s = path_at ps s.parent ++ s.name ∷ []

-- a scope more
pub paths_from-push : (ps : List Path) (ss : List Scope) (s : Scope) → paths_from ps (ss ++ s ∷ []) ≡ paths_from ps ss ++ path_of (paths_from ps ss) s ∷ []
paths_from-push ps [] s = refl
paths_from-push ps (x ∷ ss) s = paths_from-push (ps ++ path_of ps x ∷ []) ss s

pub length-paths_from : (ps : List Path) (ss : List Scope) → length (paths_from ps ss) ≡ length ps + length ss
length-paths_from ps [] = omega arith
length-paths_from ps (s ∷ ss) = omega (arith, length-paths_from (ps ++ path_of ps s ∷ []) ss, length-append ps (path_of ps s ∷ []))

stays : (ps : List Path) (ss : List Scope) (k : ℕ) → k < length ps → path_at (paths_from ps ss) k ≡ path_at ps k
stays ps [] k lt = refl
stays ps (s ∷ ss) k lt =
    let more : k < length (ps ++ path_of ps s ∷ []) = omega (arith, lt, length-append ps (path_of ps s ∷ [])) in
    stays (ps ++ path_of ps s ∷ []) ss k more ∙ get_or-append ps (path_of ps s ∷ []) [] k lt

-- the path of scope k is its parent's with its name
pub path_is : (ps : List Path) (ss : List Scope) (k : ℕ) (d : Scope) → k < length ss → (slice_index_or ss k d).parent < length ps + k → path_at (paths_from ps ss) (length ps + k) ≡ path_of (paths_from ps ss) (slice_index_or ss k d)
path_is ps [] k d lt h = absurd (omega (arith, lt))
path_is ps (s ∷ ss) zero d lt h =
    let new : List Path = ps ++ path_of ps s ∷ [] in
    let here : length ps + 0 < length new = omega (arith, length-append ps (path_of ps s ∷ [])) in
    let below : s.parent < length ps = omega (arith, h) in
    let none : length ps + 0 ≡ length ps = omega arith in
    stays new ss (length ps + 0) here ∙ rw none (get_or-append_seam ps (path_of ps s) [] [] ∙ ap (λ (p : Path). p ++ s.name ∷ []) (sym (stays ps (s ∷ ss) s.parent below)))
path_is ps (s ∷ ss) (suc k) d lt h =
    let new : List Path = ps ++ path_of ps s ∷ [] in
    let n : length new ≡ length ps + 1 = length-append ps (path_of ps s ∷ []) in
    let at : length ps + suc k ≡ length new + k = omega (arith, n) in
    rw at (path_is new ss k d (omega (arith, lt)) (omega (arith, h, n)))

pub last_name-push : (p : Path) (n : List ℕ) → last_name (p ++ n ∷ []) ≡ n
last_name-push p n =
    let k : length (p ++ n ∷ []) - 1 ≡ length p = omega (arith, length-append p (n ∷ [])) in
    rw k (get_or-append_seam p n [] [])

-- what a scope's number says, where its paths are shown
pub count_is : (ss : List Scope) (now : List Path) (n : ℕ) → paths_of ss ≡ now → n ≡ length ss → n + 1 ≡ length now
count_is ss now n is len = omega (arith, len, length-paths_from ([] ∷ []) ss, ap (λ (ps : List Path). length ps) is)

pub within_is : (ss : List Scope) (now : List Path) (scope len : ℕ) → paths_of ss ≡ now → len ≡ length ss → 0 < scope → scope < length now → scope - 1 < len
within_is ss now scope len is l some lt = omega (arith, l, length-paths_from ([] ∷ []) ss, ap (λ (ps : List Path). length ps) is, some, lt)

shown_path : (ss : List Scope) (now : List Path) (scope : ℕ) (s : Scope) → paths_of ss ≡ now → IsTree ss → 0 < scope → scope < length now → s ≡ slice_index_or ss (scope - 1) s → path_at now scope ≡ path_of now s
shown_path ss now scope s is tree some lt at =
    let k : scope - 1 < length ss = within_is ss now scope (length ss) is refl some lt in
    let n : 1 + (scope - 1) ≡ scope = omega (arith, some) in
    let below : (slice_index_or ss (scope - 1) s).parent < 1 + (scope - 1) = omega (arith, tree (scope - 1) s k) in
    let here : path_at (paths_of ss) (1 + (scope - 1)) ≡ path_of (paths_of ss) (slice_index_or ss (scope - 1) s) = path_is ([] ∷ []) ss (scope - 1) s k below in
    rw (← is, ← n) (here ∙ ap (λ (x : Scope). path_of (paths_of ss) x) (sym at))

pub parent_before : (ss : List Scope) (now : List Path) (scope : ℕ) (s : Scope) → paths_of ss ≡ now → IsTree ss → 0 < scope → scope < length now → s ≡ slice_index_or ss (scope - 1) s → s.parent < scope
parent_before ss now scope s is tree some lt at =
    let k : scope - 1 < length ss = within_is ss now scope (length ss) is refl some lt in
    let below : s.parent ≤ scope - 1 = rw at (tree (scope - 1) s k) in
    omega (arith, below, some)

pub name_is : (ss : List Scope) (now : List Path) (scope : ℕ) (s : Scope) → paths_of ss ≡ now → IsTree ss → 0 < scope → scope < length now → s ≡ slice_index_or ss (scope - 1) s → s.name ≡ last_name (path_at now scope)
name_is ss now scope s is tree some lt at = sym (ap last_name (shown_path ss now scope s is tree some lt at) ∙ last_name-push (path_at now s.parent) s.name)

pub parent_is : (ss : List Scope) (now : List Path) (scope : ℕ) (s : Scope) → paths_of ss ≡ now → IsTree ss → 0 < scope → scope < length now → s ≡ slice_index_or ss (scope - 1) s → path_at now scope ≡ path_at now s.parent ++ last_name (path_at now scope) ∷ []
parent_is ss now scope s is tree some lt at =
    shown_path ss now scope s is tree some lt at ∙ ap (λ (n : List ℕ). path_at now s.parent ++ n ∷ []) (name_is ss now scope s is tree some lt at)

pub outside : (ss : List Scope) (now : List Path) → paths_of ss ≡ now → path_at now 0 ≡ []
outside ss now is = ap (λ (ps : List Path). path_at ps 0) (sym is) ∙ stays ([] ∷ []) ss 0 (omega arith)

-- a scope is entered
pub entered_path : (ss : List Scope) (parent scope : ℕ) (n text : List ℕ) → n ≡ text → parent ≡ scope → paths_of (ss ++ record { parent = parent; name = n } ∷ []) ≡ paths_of ss ++ (path_at (paths_of ss) scope ++ text ∷ []) ∷ []
entered_path ss parent scope n text a b = rw (a, b) (paths_from-push ([] ∷ []) ss (record { parent = scope; name = text }))

pub entered_number : (ss : List Scope) (n len : ℕ) → n ≡ len → len ≡ length ss → n + 1 ≡ length (paths_of ss)
entered_number ss n len a b = omega (arith, a, b, length-paths_from ([] ∷ []) ss)

-- the path of the scope that was entered last
pub open_path-with_scope : (h : Declarations) (n : List ℕ) → open_path (with_scope h n) ≡ open_path h ++ n ∷ []
open_path-with_scope h n =
    let last : length (h.entered ++ length h.scopes ∷ []) - 1 ≡ length h.entered = omega (arith, length-append h.entered (length h.scopes ∷ [])) in
    rw (last, get_or-append_seam h.entered (length h.scopes) [] 0) (get_or-append_seam h.scopes (open_path h ++ n ∷ []) [] [])

pub entered_is : (old new : Declarations) (n : List ℕ) → new ≡ with_scope old n → open_path new ≡ open_path old ++ n ∷ []
entered_is old new n is = ap open_path is ∙ open_path-with_scope old n

pub left_is : (old new : Declarations) → new ≡ left_scope old → Returns old new
left_is old new is = λ outer scope e.
    let one : length old.entered - 1 ≡ length outer.entered = omega (arith, ap (λ (l : List ℕ). length l) e, length-append outer.entered (scope ∷ [])) in
    let here : take (length old.entered - 1) old.entered ≡ outer.entered = rw (one, e) (take-append_seam outer.entered (scope ∷ [])) in
    ap scope_of is ∙ ap (λ (l : List ℕ). slice_index l (length l - 1)) here

pub listed_is : (old new : Declarations) (skipped : Bool) (number width : ℕ) (n : RecordedName) → new ≡ with_variable old skipped number width n → StandsInnermost old new
listed_is old new true number width n is = λ v some. absurd (omega (arith, slice_get_within new.variables (length old.variables) v some, ap (λ (h : Declarations). length h.variables) is))
listed_is old new false number width n is = λ v some.
    let u : Variable = variable (scope_of old) n width in
    let same : v ≡ u = sym (get_or_from_slice_get new.variables (length old.variables) v u some) ∙ ap (λ (h : Declarations). slice_index_or h.variables (length old.variables) u) is ∙ get_or-append_seam old.variables u [] u in
    ap (λ (h : Declarations). path_at h.scopes v.scope) is ∙ ap (λ (x : Variable). path_at old.scopes x.scope) same
