-- A text's variables stand in the innermost scopes that are open where it declares them.
use Rattle.std.proofs.Common.{◌≡◌, ℕ, zero, suc, ◌+◌, ◌-◌, ◌<◌, ◌≤◌, Bool, true, false, List, [], ◌∷◌, ◌++◌, length, take, Result, Ok, Err, IfOk, All, refl, sym, ap, ◌∙◌, subst, arith, append_assoc, length-append}
use Rattle.std.proofs.Math.ListN.{get_or-append}
use Rattle.std.proofs.Math.Seq.{get_or-append_seam, take-append_seam}
use Rattle.std.proofs.lemmas.Bool.{ltb-true}
use Rattle.std.proofs.lemmas.List.{append-nil, map-append}
use Rattle.std.proofs.lemmas.List.Elements.{All-push}
use Rattle.std.specs.Prelude.{nat_lt, slice_index}
use Rattle.recording_reader.specs.Bytes.{is_skipped}
use Rattle.recording_reader.specs.Changes.{start}
use Rattle.recording_reader.specs.Declarations.{Declarations, RecordedName, left_scope, nothing, scope_of, variable, with_scope, with_variable}
use Rattle.recording_reader.specs.Faults.{Says, beginning}
use Rattle.recording_reader.specs.Kinds.{kind_of}
use Rattle.recording_reader.specs.Machine.{State, declaration_on, run}
use Rattle.recording_reader.specs.Machine.State.{declaring, note, scale, scope_kind, upscope_end, var_kind, definitions_end, body}
use Rattle.recording_reader.specs.Reading.{Answers}
use Rattle.recording_reader.specs.Recording.{Path, Recording, path_at}
use Rattle.recording_reader.specs.Scopes.{Declares, IsOfKind, StandInScopes, VarOf, is_aside, paths_of_variables}
use Rattle.recording_reader.specs.Words.{Word, words_of}
use Rattle.recording_codes.specs.Code.{Code}
use Rattle.recording_reader.specs.declared.kinds.Kind.{Kind}
use Rattle.recording_reader.specs.declared.kinds.Kind.TheVariants as kind
use Rattle.recording_reader.specs.declared.refusal.VcdErr.{VcdErr}
use Rattle.recording_reader.specs.declared.refusal.VcdErr.TheVariants.{Syntax}
use Rattle.recording_reader.specs.declared.variable.Variable.{Variable}
use Rattle.recording_reader.proofs.Changing.{shows_body_of}
use Rattle.recording_reader.proofs.DeclarationWords.{Aside, Varied, ended_by, goes_from, noted, passed, same_state, scaled, scoped, taken, varied, with_codes}

-- The scopes that are entered and not left have these names.

data IsOpen (scopes : List Path) : List ℕ → Path → Type 0 where
  outermost : IsOpen scopes [] []
  within : {entered : List ℕ} {path : Path} (scope : ℕ) (n : List ℕ) → scope < length scopes → path_at scopes scope ≡ path ++ n ∷ [] → IsOpen scopes entered path
      → IsOpen scopes (entered ++ scope ∷ []) (path ++ n ∷ [])

record Holds (h : Declarations) (path : Path) : Type 0 where
  some : 0 < length h.scopes
  outside : path_at h.scopes 0 ≡ []
  entered : IsOpen h.scopes h.entered path
  known : All (λ (v : Variable). v.scope < length h.scopes) h.variables

last_of : (entered : List ℕ) (scope : ℕ) → slice_index (entered ++ scope ∷ []) (length (entered ++ scope ∷ []) - 1) ≡ scope
last_of entered scope =
    let last : length (entered ++ scope ∷ []) - 1 ≡ length entered = omega (arith, length-append entered (scope ∷ [])) in
    rw last (get_or-append_seam entered scope [] 0)

innermost : (scopes : List Path) (entered : List ℕ) (path : Path) → path_at scopes 0 ≡ [] → IsOpen scopes entered path → path_at scopes (slice_index entered (length entered - 1)) ≡ path
innermost scopes _ _ outside outermost = outside
innermost scopes _ _ outside (within {entered = entered} scope n lt is h) = ap (λ (k : ℕ). path_at scopes k) (last_of entered scope) ∙ is

innermost_known : (scopes : List Path) (entered : List ℕ) (path : Path) → 0 < length scopes → IsOpen scopes entered path → slice_index entered (length entered - 1) < length scopes
innermost_known scopes _ _ some outermost = some
innermost_known scopes _ _ some (within {entered = entered} scope n lt is h) = subst (λ (k : ℕ). k < length scopes) (sym (last_of entered scope)) lt

more_open : (scopes : List Path) (p : Path) (entered : List ℕ) (path : Path) → IsOpen scopes entered path → IsOpen (scopes ++ p ∷ []) entered path
more_open scopes p _ _ outermost = outermost
more_open scopes p _ _ (within {entered = entered} {path = path} scope n lt is h) =
    within scope n (omega (arith, lt, length-append scopes (p ∷ []))) (get_or-append scopes (p ∷ []) [] scope lt ∙ is) (more_open scopes p entered path h)

same_paths : (scopes : List Path) (p : Path) (vs : List Variable) → All (λ (v : Variable). v.scope < length scopes) vs → paths_of_variables (scopes ++ p ∷ []) vs ≡ paths_of_variables scopes vs
same_paths scopes p [] known = refl
same_paths scopes p (v ∷ vs) known =
    let here : path_at (scopes ++ p ∷ []) v.scope ≡ path_at scopes v.scope = get_or-append scopes (p ∷ []) [] v.scope (known 0 v (omega arith)) in
    let rest = same_paths scopes p vs (λ k d lt. known (suc k) d (omega (arith, lt))) in
    rw (here, rest) refl

-- What is left declares variables in these scopes.

record Found (h : Declarations) (path : Path) (ts : List Word) (r : Recording) : Type 0 where
  paths : List Path
  told : Declares path ts paths
  shown : paths_of_variables r.scopes r.variables ≡ paths_of_variables h.scopes h.variables ++ paths

abbrev Finds : ℕ → Type 0
Finds n = (ts : List Word) (h : Declarations) (path : Path) (stop : ℕ) (r : Recording) → length ts ≤ n → Holds h path → run (declaring h) ts stop ≡ Ok r → Found h path ts r

holds_scope : (h : Declarations) (path : Path) (n : List ℕ) → Holds h path → Holds (with_scope h n) (path ++ n ∷ [])
holds_scope h path n holds =
    let p : Path = path_at h.scopes (scope_of h) ++ n ∷ [] in
    let more : length (h.scopes ++ p ∷ []) ≡ length h.scopes + 1 = length-append h.scopes (p ∷ []) in
    let new : path_at (h.scopes ++ p ∷ []) (length h.scopes) ≡ path ++ n ∷ [] =
    get_or-append_seam h.scopes p [] [] ∙ ap (λ (q : Path). q ++ n ∷ []) (innermost h.scopes h.entered path holds.outside holds.entered) in
    record {
      some = omega (arith, more);
      outside = get_or-append h.scopes (p ∷ []) [] 0 holds.some ∙ holds.outside;
      entered = within (length h.scopes) n (omega (arith, more)) new (more_open h.scopes p h.entered path holds.entered);
      known = λ k d lt. let old = holds.known k d lt in omega (arith, old, more);
    }

scope_found : (n : ℕ) → Finds n → (word : Word) (ts : List Word) (h : Declarations) (path : Path) (stop : ℕ) (r : Recording) → IsOfKind word kind.Scope → length ts ≤ n → Holds h path → run (scope_kind h) ts stop ≡ Ok r → Found h path (word ∷ ts) r
scope_found n finds word ts h path stop r is le holds e =
    let s = scoped h ts stop r e in
    let few : length s.rest ≤ n = omega (arith, le, ap (λ (l : List Word). length l) s.split) in
    let text : List ℕ = s.name_word.text in
    let f = finds s.rest (with_scope h text) (path ++ text ∷ []) stop r few (holds_scope h path text holds) s.goes in
    record {
      paths = f.paths;
      told = subst (λ (ws : List Word). Declares path (word ∷ ws) f.paths) (sym s.split) (Declares.scope is s.ended f.told);
      shown = f.shown ∙ ap (λ (l : List Path). l ++ f.paths) (same_paths h.scopes (path_at h.scopes (scope_of h) ++ text ∷ []) h.variables holds.known);
    }

-- The innermost scope is left.
record Leaves (h : Declarations) (path : Path) : Type 0 where
  outer : Path
  n : List ℕ
  is : path ≡ outer ++ n ∷ []
  holds : Holds (left_scope h) outer

left_of_open : (scopes : List Path) (entered : List ℕ) (path : Path) → 0 < length entered → IsOpen scopes entered path → (outer : Path) × (n : List ℕ) × (path ≡ outer ++ n ∷ []) × IsOpen scopes (take (length entered - 1) entered) outer
left_of_open scopes _ _ some outermost = absurd (omega (arith, some))
left_of_open scopes _ _ some (within {entered = entered} {path = path} scope n lt is h) =
    let one : length (entered ++ scope ∷ []) - 1 ≡ length entered = omega (arith, length-append entered (scope ∷ [])) in
    let same : take (length (entered ++ scope ∷ []) - 1) (entered ++ scope ∷ []) ≡ entered = rw one (take-append_seam entered (scope ∷ [])) in
    (path, n, refl, subst (λ (l : List ℕ). IsOpen scopes l path) (sym same) h)

leaves : (h : Declarations) (path : Path) → nat_lt 0 (length h.entered) ≡ true → Holds h path → Leaves h path
leaves h path some holds =
    let o = left_of_open h.scopes h.entered path (ltb-true 0 (length h.entered) some) holds.entered in
    record { outer = o.0; n = o.1; is = o.2; holds = record { some = holds.some; outside = holds.outside; entered = o.3; known = holds.known } }

upscope_found : (n : ℕ) → Finds n → (word : Word) (ts : List Word) (next : State) (h : Declarations) (path : Path) (stop : ℕ) (r : Recording) → IsOfKind word kind.Upscope → length ts ≤ n → Holds h path → declaration_on kind.Upscope h word.at ≡ Ok next → run next ts stop ≡ Ok r → Found h path (word ∷ ts) r
upscope_found n finds word ts next h path stop r is le holds on e =
    let some = passed (nat_lt 0 (length h.entered)) (Syntax word.at) (upscope_end (left_scope h)) next on in
    let out = leaves h path some.0 holds in
    let s : State = upscope_end (left_scope h) in
    let a = ended_by s (declaring (left_scope h)) ts stop r refl (λ t. refl) (goes_from s next ts stop r some.1 e) in
    let few : length a.rest ≤ n = omega (arith, le, ap (λ (l : List Word). length l) a.split) in
    let f = finds a.rest (left_scope h) out.outer stop r few out.holds a.goes in
    let told : Declares (out.outer ++ out.n ∷ []) (word ∷ a.end ∷ a.rest) f.paths = Declares.upscope out.n is a.ended f.told in
    record {
      paths = f.paths;
      told = subst (λ (ws : List Word). Declares path (word ∷ ws) f.paths) (sym a.split) (subst (λ (p : Path). Declares p (word ∷ a.end ∷ a.rest) f.paths) (sym out.is) told);
      shown = f.shown;
    }

-- A variable is listed or skipped.
holds_codes : (h : Declarations) (path : Path) (cs : List Code) → Holds h path → Holds (with_codes h cs) path
holds_codes h path cs holds = record { some = holds.some; outside = holds.outside; entered = holds.entered; known = holds.known }

holds_listed : (h : Declarations) (path : Path) (number width : ℕ) (n : RecordedName) → Holds h path → Holds (with_variable h false number width n) path
holds_listed h path number width n holds = record {
  some = holds.some;
  outside = holds.outside;
  entered = holds.entered;
  known = All-push (λ (v : Variable). v.scope < length h.scopes) h.variables (variable (scope_of h) n width) holds.known (innermost_known h.scopes h.entered path holds.some holds.entered);
}

listed_paths : (h : Declarations) (path : Path) (v : Variable) (shown paths : List Path) → v.scope ≡ scope_of h → Holds h path → shown ≡ paths_of_variables h.scopes (h.variables ++ v ∷ []) ++ paths → shown ≡ paths_of_variables h.scopes h.variables ++ (path ∷ paths)
listed_paths h path v shown paths in_scope holds is =
    let here : path_at h.scopes v.scope ≡ path = ap (λ (k : ℕ). path_at h.scopes k) in_scope ∙ innermost h.scopes h.entered path holds.outside holds.entered in
    is ∙ rw (map-append (λ (v : Variable). path_at h.scopes v.scope) h.variables (v ∷ []), append_assoc, here) refl

var_found_on : (b : Bool) (n : ℕ) → Finds n → (word : Word) (ts : List Word) (h : Declarations) (path : Path) (stop : ℕ) (r : Recording) → IsOfKind word kind.Var → length ts ≤ n → Holds h path → (v : Varied h ts stop r) → is_skipped v.kind_word.text ≡ b → Found h path (word ∷ ts) r
var_found_on true n finds word ts h path stop r is le holds v skipped =
    let under : Declarations = with_codes h v.codes_ in
    let few : length v.named_.rest ≤ n = omega (arith, le, v.named_.shorter, ap (λ (l : List Word). length l) v.split) in
    let same : with_variable under (is_skipped v.kind_word.text) v.number v.width v.named_.called ≡ under = ap (λ (b : Bool). with_variable under b v.number v.width v.named_.called) skipped in
    let f = finds v.named_.rest under path stop r few (holds_codes h path v.codes_ holds) (goes_from (declaring under) (declaring (with_variable under (is_skipped v.kind_word.text) v.number v.width v.named_.called)) v.named_.rest stop r (ap (λ (h : Declarations). declaring h) (sym same)) v.named_.goes) in
    record {
      paths = f.paths;
      told = subst (λ (ws : List Word). Declares path (word ∷ ws) f.paths) (sym v.split) (Declares.skipped (VarOf.var is v.named_.ended) skipped f.told);
      shown = f.shown;
    }
var_found_on false n finds word ts h path stop r is le holds v skipped =
    let under : Declarations = with_codes h v.codes_ in
    let few : length v.named_.rest ≤ n = omega (arith, le, v.named_.shorter, ap (λ (l : List Word). length l) v.split) in
    let new : Declarations = with_variable under false v.number v.width v.named_.called in
    let same : with_variable under (is_skipped v.kind_word.text) v.number v.width v.named_.called ≡ new = ap (λ (b : Bool). with_variable under b v.number v.width v.named_.called) skipped in
    let holds_new = holds_listed under path v.number v.width v.named_.called (holds_codes h path v.codes_ holds) in
    let f = finds v.named_.rest new path stop r few holds_new (goes_from (declaring new) (declaring (with_variable under (is_skipped v.kind_word.text) v.number v.width v.named_.called)) v.named_.rest stop r (ap (λ (h : Declarations). declaring h) (sym same)) v.named_.goes) in
    record {
      paths = path ∷ f.paths;
      told = subst (λ (ws : List Word). Declares path (word ∷ ws) (path ∷ f.paths)) (sym v.split) (Declares.listed (VarOf.var is v.named_.ended) skipped f.told);
      shown = listed_paths h path (variable (scope_of h) v.named_.called v.width) (paths_of_variables r.scopes r.variables) f.paths refl holds f.shown;
    }

aside_found : (n : ℕ) → Finds n → (word : Word) (ts : List Word) (h : Declarations) (path : Path) (stop : ℕ) (r : Recording) → is_aside (kind_of word.text) ≡ true → length ts ≤ n → Holds h path → Aside h ts stop r → Found h path (word ∷ ts) r
aside_found n finds word ts h path stop r is le holds a =
    let f = finds a.rest (record h { timescale = a.scale_ }) path stop r (omega (arith, le, a.shorter)) (record { some = holds.some; outside = holds.outside; entered = holds.entered; known = holds.known }) a.goes in
    record { paths = f.paths; told = Declares.aside is a.until f.told; shown = f.shown }

definitions_found : (word : Word) (ts : List Word) (h : Declarations) (path : Path) (stop : ℕ) (r : Recording) → IsOfKind word kind.Definitions → run (definitions_end h) ts stop ≡ Ok r → Found h path (word ∷ ts) r
definitions_found word ts h path stop r is e =
    let a = ended_by (definitions_end h) (body (start h) false) ts stop r refl (λ t. refl) e in
    let s = shows_body_of (start h) a.rest stop r a.goes in
    let none : paths_of_variables h.scopes h.variables ++ [] ≡ paths_of_variables h.scopes h.variables = append-nil _ in
    record { paths = []; told = Declares.definitions is; shown = rw (s.scopes, s.variables, none) refl }

pub aside_kind : (word : Word) (k : Kind) → kind_of word.text ≡ k → is_aside k ≡ true → is_aside (kind_of word.text) ≡ true
aside_kind word k is e = ap is_aside is ∙ e

found_on : (n : ℕ) → Finds n → (k : Kind) (word : Word) (ts : List Word) (next : State) (h : Declarations) (path : Path) (stop : ℕ) (r : Recording) → kind_of word.text ≡ k → length ts ≤ n → Holds h path → declaration_on k h word.at ≡ Ok next → run next ts stop ≡ Ok r → Found h path (word ∷ ts) r
found_on n finds kind.Scope word ts next h path stop r is le holds on e = scope_found n finds word ts h path stop r is le holds (goes_from (scope_kind h) next ts stop r (same_state (scope_kind h) next on) e)
found_on n finds kind.Upscope word ts next h path stop r is le holds on e = upscope_found n finds word ts next h path stop r is le holds on e
found_on n finds kind.Var word ts next h path stop r is le holds on e =
    let v = varied h word.at ts stop r (goes_from (var_kind h word.at) next ts stop r (same_state (var_kind h word.at) next on) e) in
    var_found_on (is_skipped v.kind_word.text) n finds word ts h path stop r is le holds v refl
found_on n finds kind.Timescale word ts next h path stop r is le holds on e =
    aside_found n finds word ts h path stop r (aside_kind word kind.Timescale is refl) le holds (scaled h ts stop r (goes_from (scale h) next ts stop r (same_state (scale h) next on) e))
found_on n finds kind.Note word ts next h path stop r is le holds on e =
    aside_found n finds word ts h path stop r (aside_kind word kind.Note is refl) le holds (noted h ts stop r (goes_from (note h) next ts stop r (same_state (note h) next on) e))
found_on n finds kind.Comment word ts next h path stop r is le holds on e =
    aside_found n finds word ts h path stop r (aside_kind word kind.Comment is refl) le holds (noted h ts stop r (goes_from (note h) next ts stop r (same_state (note h) next on) e))
found_on n finds kind.Definitions word ts next h path stop r is le holds on e =
    definitions_found word ts h path stop r is (goes_from (definitions_end h) next ts stop r (same_state (definitions_end h) next on) e)
found_on n finds kind.Scalar word ts next h path stop r is le holds on e = cc
found_on n finds kind.Vector word ts next h path stop r is le holds on e = cc
found_on n finds kind.Real word ts next h path stop r is le holds on e = cc
found_on n finds kind.Time word ts next h path stop r is le holds on e = cc
found_on n finds kind.End word ts next h path stop r is le holds on e = cc
found_on n finds kind.Dump word ts next h path stop r is le holds on e = cc
found_on n finds kind.Off word ts next h path stop r is le holds on e = cc
found_on n finds kind.Other word ts next h path stop r is le holds on e = cc

finds_all : (n : ℕ) → Finds n
finds_all zero ts h path stop r le holds e =
    let a = taken (declaring h) ts stop r refl e in
    absurd (omega (arith, le, ap (λ (l : List Word). length l) a.split))
finds_all (suc n) ts h path stop r le holds e =
    let a = taken (declaring h) ts stop r refl e in
    let few : length a.rest ≤ n = omega (arith, le, ap (λ (l : List Word). length l) a.split) in
    subst (λ (ws : List Word). Found h path ws r) (sym a.split) (found_on n (finds_all n) (kind_of a.word.text) a.word a.rest a.next h path stop r refl few holds a.stepped a.goes)

pub stand_in_scopes : (text : List ℕ) (r : Recording) → Says text r → StandInScopes text r
stand_in_scopes text r says =
    let holds : Holds nothing [] = record { some = omega arith; outside = refl; entered = outermost; known = λ k d lt. absurd (omega (arith, lt)) } in
    let f = finds_all (length (words_of text)) (words_of text) nothing [] (length text) r (omega arith) holds says in
    subst (λ (ps : List Path). Declares [] (words_of text) ps) (sym f.shown) f.told

pub read_in_scopes : (text : List ℕ) (result : Result Recording VcdErr) → Answers result (run beginning (words_of text) (0 + length text)) → IfOk result (StandInScopes text)
read_in_scopes text (Ok r) h = let zero : length text ≡ 0 + length text = omega arith in stand_in_scopes text r (ap (λ n. run beginning (words_of text) n) zero ∙ h)
read_in_scopes text (Err e) h = tt
