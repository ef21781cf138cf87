-- What scopes, variables and times keep as they grow.
use Rattle.std.proofs.Common.{◌≡◌, ℕ, ◌+◌, ◌-◌, ◌<◌, ◌≤◌, ◌^◌, List, [], ◌∷◌, ◌++◌, Option, length, map, sym, ap, ◌∙◌, arith, All, slice_index, subst, length-append}
use Rattle.std.proofs.lemmas.List.{length-map}
use Rattle.std.proofs.lemmas.List.Elements.{All-push}
use Rattle.recording_changes.specs.Held.{Change, track_of}
use Rattle.recording_reader.specs.Recording.{Path, IsVariable, IsRecording, paths_of}
use Rattle.recording_reader.specs.Trees.{AreDeclared, AreTimes, IsEntered}
use Rattle.recording_reader.specs.declared.variable.Scope.{Scope}
use Rattle.recording_reader.specs.declared.variable.Variable.{Variable}
use Rattle.recording_reader.proofs.Paths.{length-paths_from}

-- a variable more
pub listed : (ss : List Scope) (vs vs' : List Variable) (ns ns' : List ℕ) (now : List Path) (v : Variable) (n : ℕ) → AreDeclared ss vs ns → paths_of ss ≡ now → IsVariable (length now) v → length vs + 1 < 2 ^ 28 → vs' ≡ vs ++ v ∷ [] → ns' ≡ ns ++ n ∷ [] → AreDeclared ss vs' ns'
listed ss vs vs' ns ns' now v n h view new few a b =
    let count : length now ≡ length ss + 1 = omega (arith, length-paths_from ([] ∷ []) ss, ap (λ (ps : List Path). length ps) view) in
    let here : IsVariable (length ss + 1) v = subst (λ (n : ℕ). IsVariable n v) count new in
    let more : length vs' ≡ length vs + 1 = ap (λ (l : List Variable). length l) a ∙ length-append vs (v ∷ []) in
    let numbers : length ns' ≡ length ns + 1 = ap (λ (l : List ℕ). length l) b ∙ length-append ns (n ∷ []) in
    record {
      tree = h.tree;
      listed = subst (λ (l : List Variable). All (IsVariable (length ss + 1)) l) (sym a) (All-push (IsVariable (length ss + 1)) vs v h.listed here);
      numbered = omega (arith, more, numbers, h.numbered);
      scopes_ = h.scopes_;
      variables_ = omega (arith, more, few);
    }

-- a variable in the present scope
pub present : (ss : List Scope) (now : List Path) (entered : List ℕ) (scope : ℕ) → paths_of ss ≡ now → IsEntered ss entered → scope ≡ slice_index entered (length entered - 1) → scope < length now
present ss now [] scope view h is = omega (arith, is, length-paths_from ([] ∷ []) ss, ap (λ (ps : List Path). length ps) view)
present ss now (e ∷ es) scope view h is =
    let last : slice_index (e ∷ es) (length (e ∷ es) - 1) ≤ length ss = h (length (e ∷ es) - 1) 0 (omega arith) in
    omega (arith, is, last, length-paths_from ([] ∷ []) ss, ap (λ (ps : List Path). length ps) view)

-- what is stored is a recording
pub is_recording : (scale : Option (List ℕ)) (ss : List Scope) (vs : List Variable) (ns ts : List ℕ) (tracks : List (List Change)) → AreDeclared ss vs ns → AreTimes ts → IsRecording (record { timescale = scale; scopes = paths_of ss; variables = vs; times = ts; changes = map (track_of tracks) ns })
is_recording scale ss vs ns ts tracks h t =
    let count : length (paths_of ss) ≡ length ss + 1 = omega (arith, length-paths_from ([] ∷ []) ss) in
    record {
      moment = t.some;
      ascending = t.ascending;
      variables = subst (λ (n : ℕ). All (IsVariable n) vs) (sym count) h.listed;
      changes = length-map ns (track_of tracks) ∙ h.numbered;
      few_scopes = omega (arith, count, h.scopes_);
      few_variables = h.variables_;
      few_moments = t.few;
    }
