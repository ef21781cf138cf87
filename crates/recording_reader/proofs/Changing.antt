-- Changes leave the declarations as they are.
use Rattle.std.proofs.Common.{◌≡◌, ℕ, Bool, true, false, cond, List, [], ◌∷◌, length, Option, Some, None, Result, Ok, Err, refl, sym, ap, ◌∙◌, subst}
use Rattle.std.specs.Prelude.{◌==◌, nat_le, nat_lt}
use Rattle.recording_reader.specs.Bytes.{is_end, are_values, rest_of, front_of, time_of}
use Rattle.recording_reader.specs.Changes.{Body, changed, last_time, real_in, real_on, recording_of, scalar_in, scalar_on, time_on, vector_in, vector_on, with_time}
use Rattle.recording_reader.specs.Declarations.{Declarations}
use Rattle.recording_reader.specs.Kinds.{kind_of}
use Rattle.recording_reader.specs.Machine.{State, Next, body_on, finish, run, step, then_run, to_body}
use Rattle.recording_reader.specs.Machine.State.{declaring, note, scale, scale_unit, scale_end, scope_kind, scope_name, scope_end, upscope_end, var_kind, var_width, var_code, var_reference, var_range, var_end, definitions_end, body, body_note, vector, real}
use Rattle.recording_reader.specs.Recording.{Recording}
use Rattle.recording_reader.specs.Words.{Word}
use Rattle.recording_codes.specs.Code.{find}
use Rattle.recording_codes.specs.declared.codes.Found.{Found}
use Rattle.recording_reader.specs.declared.kinds.Kind.{Kind}
use Rattle.recording_reader.specs.declared.kinds.Kind.TheVariants as kind
use Rattle.recording_reader.specs.declared.refusal.VcdErr.{VcdErr}
use Rattle.recording_reader.specs.declared.refusal.VcdErr.TheVariants.{Syntax, TimeBack, Width}

-- after the declarations these are declared
abbrev Has : Declarations → State → Type 0
Has h (body b dump) = b.declared ≡ h
Has h (body_note b) = b.declared ≡ h
Has h (vector b dump at digits) = b.declared ≡ h
Has h (real b dump at) = b.declared ≡ h
Has h _ = ⊥

abbrev HasNext : Declarations → Next → Type 0
HasNext h (Ok s) = Has h s
HasNext h (Err e) = Unit {0}

abbrev HasBody : Declarations → Result Body VcdErr → Type 0
HasBody h (Ok b) = b.declared ≡ h
HasBody h (Err e) = Unit {0}

body_cond : (t : Bool) (h : Declarations) (x y : Result Body VcdErr) → HasBody h x → HasBody h y → HasBody h (cond t x y)
body_cond true h x y a b = a
body_cond false h x y a b = b

next_cond : (t : Bool) (h : Declarations) (x y : Next) → HasNext h x → HasNext h y → HasNext h (cond t x y)
next_cond true h x y a b = a
next_cond false h x y a b = b

has_time : (time : Option ℕ) (b : Body) (at : ℕ) → HasBody b.declared (time_on time b at)
has_time None b at = tt
has_time (Some time) b at =
    body_cond (length b.times == 0) b.declared (Ok (with_time b time)) _ refl
    (body_cond (nat_lt time (last_time b)) b.declared (Err (TimeBack at)) _ tt
    (body_cond (time == last_time b) b.declared (Ok b) (Ok (with_time b time)) refl refl))

has_scalar : (f : Option Found) (b : Body) (t : Word) → HasBody b.declared (scalar_on f b t)
has_scalar None b t = tt
has_scalar (Some found) b t = body_cond found.listed b.declared (Ok (changed b found.number (front_of t.text))) (Ok b) refl refl

has_vector : (f : Option Found) (b : Body) (at : ℕ) (digits : List ℕ) (t : Word) → HasBody b.declared (vector_on f b at digits t)
has_vector None b at digits t = tt
has_vector (Some found) b at digits t =
    body_cond found.skipped b.declared (Err (Syntax at)) _ tt
    (body_cond (nat_le (length digits) found.width) b.declared (Ok (changed b found.number digits)) (Err (Width at)) refl tt)

has_real : (f : Option Found) (b : Body) (at : ℕ) (t : Word) → HasBody b.declared (real_on f b at t)
has_real None b at t = tt
has_real (Some found) b at t = body_cond found.skipped b.declared (Ok b) (Err (Syntax at)) refl tt

has_body : (dump : Bool) (h : Declarations) (r : Result Body VcdErr) → HasBody h r → HasNext h (to_body dump r)
has_body dump h (Ok b) is = is
has_body dump h (Err e) is = tt

has_change : (k : Kind) (b : Body) (dump : Bool) (t : Word) → HasNext b.declared (body_on k b dump t)
has_change kind.Scalar b dump t = has_body dump b.declared (scalar_in b t) (has_scalar (find b.declared.codes (rest_of t.text)) b t)
has_change kind.Vector b dump t = next_cond (are_values (rest_of t.text)) b.declared (Ok (vector b dump t.at (rest_of t.text))) (Err (Syntax t.at)) refl tt
has_change kind.Real b dump t = refl
has_change kind.Time b dump t =
    next_cond dump b.declared (Err (Syntax t.at)) (to_body dump (time_on (time_of (rest_of t.text)) b t.at)) tt
    (has_body dump b.declared (time_on (time_of (rest_of t.text)) b t.at) (has_time (time_of (rest_of t.text)) b t.at))
has_change kind.Comment b dump t = next_cond dump b.declared (Err (Syntax t.at)) (Ok (body_note b)) tt refl
has_change kind.Dump b dump t = next_cond dump b.declared (Err (Syntax t.at)) (Ok (body b true)) tt refl
has_change kind.End b dump t = next_cond dump b.declared (Ok (body b false)) (Err (Syntax t.at)) refl tt
has_change kind.Off b dump t = tt
has_change kind.Var b dump t = tt
has_change kind.Scope b dump t = tt
has_change kind.Upscope b dump t = tt
has_change kind.Timescale b dump t = tt
has_change kind.Note b dump t = tt
has_change kind.Definitions b dump t = tt
has_change kind.Other b dump t = tt

has_note : (t : Bool) (b : Body) → Has b.declared (cond t (body b false) (body_note b))
has_note true b = refl
has_note false b = refl

along : (a h : Declarations) (n : Next) → a ≡ h → HasNext a n → HasNext h n
along a h n e is = subst (λ (d : Declarations). HasNext d n) e is

has_step : (s : State) (t : Word) (h : Declarations) → Has h s → HasNext h (step s t)
has_step (body b dump) t h is = along b.declared h (body_on (kind_of t.text) b dump t) is (has_change (kind_of t.text) b dump t)
has_step (body_note b) t h is = along b.declared h (step (body_note b) t) is (has_note (is_end t.text) b)
has_step (vector b dump at digits) t h is =
    along b.declared h (to_body dump (vector_in b at digits t)) is (has_body dump b.declared (vector_in b at digits t) (has_vector (find b.declared.codes t.text) b at digits t))
has_step (real b dump at) t h is =
    along b.declared h (to_body dump (real_in b at t)) is (has_body dump b.declared (real_in b at t) (has_real (find b.declared.codes t.text) b at t))
has_step (declaring d) t h is = absurd is
has_step (note d) t h is = absurd is
has_step (scale d) t h is = absurd is
has_step (scale_unit d power) t h is = absurd is
has_step (scale_end d text) t h is = absurd is
has_step (scope_kind d) t h is = absurd is
has_step (scope_name d) t h is = absurd is
has_step (scope_end d name) t h is = absurd is
has_step (upscope_end d) t h is = absurd is
has_step (var_kind d var) t h is = absurd is
has_step (var_width d var skipped) t h is = absurd is
has_step (var_code d var skipped width) t h is = absurd is
has_step (var_reference d skipped number width) t h is = absurd is
has_step (var_range d skipped number width reference) t h is = absurd is
has_step (var_end d skipped number width reference range) t h is = absurd is
has_step (definitions_end d) t h is = absurd is

-- The recording has the scopes and variables that are declared.
pub record Shows (h : Declarations) (r : Recording) : Type 0 where
  pub scopes : r.scopes ≡ h.scopes
  pub variables : r.variables ≡ h.variables

shows_body : (dump : Bool) (b : Body) (h : Declarations) (stop : ℕ) (r : Recording) → b.declared ≡ h → finish (body b dump) stop ≡ Ok r → Shows h r
shows_body false b h stop r is e =
    let same : recording_of b ≡ r = cc in
    record { scopes = ap (λ (x : Recording). x.scopes) (sym same) ∙ ap (λ (d : Declarations). d.scopes) is; variables = ap (λ (x : Recording). x.variables) (sym same) ∙ ap (λ (d : Declarations). d.variables) is }
shows_body true b h stop r is e = cc

shows_end : (s : State) (h : Declarations) (stop : ℕ) (r : Recording) → Has h s → finish s stop ≡ Ok r → Shows h r
shows_end (body b dump) h stop r is e = shows_body dump b h stop r is e
shows_end (body_note b) h stop r is e = cc
shows_end (vector b dump at digits) h stop r is e = cc
shows_end (real b dump at) h stop r is e = cc
shows_end (declaring d) h stop r is e = absurd is
shows_end (note d) h stop r is e = absurd is
shows_end (scale d) h stop r is e = absurd is
shows_end (scale_unit d power) h stop r is e = absurd is
shows_end (scale_end d text) h stop r is e = absurd is
shows_end (scope_kind d) h stop r is e = absurd is
shows_end (scope_name d) h stop r is e = absurd is
shows_end (scope_end d name) h stop r is e = absurd is
shows_end (upscope_end d) h stop r is e = absurd is
shows_end (var_kind d var) h stop r is e = absurd is
shows_end (var_width d var skipped) h stop r is e = absurd is
shows_end (var_code d var skipped width) h stop r is e = absurd is
shows_end (var_reference d skipped number width) h stop r is e = absurd is
shows_end (var_range d skipped number width reference) h stop r is e = absurd is
shows_end (var_end d skipped number width reference range) h stop r is e = absurd is
shows_end (definitions_end d) h stop r is e = absurd is

pub shows : (s : State) (ts : List Word) (h : Declarations) (stop : ℕ) (r : Recording) → Has h s → run s ts stop ≡ Ok r → Shows h r
shows s [] h stop r is e = shows_end s h stop r is e
shows s (t ∷ ts) h stop r is e =
    let by : (n : Next) → HasNext h n → then_run n (λ next. run next ts stop) ≡ Ok r → Shows h r =
    λ n. elim n as (λ n. HasNext h n → then_run n (λ next. run next ts stop) ≡ Ok r → Shows h r) [
      | Ok next ↦ λ is e. shows next ts h stop r is e
      | Err x ↦ λ is e. cc
    ] in
    by (step s t) (has_step s t h is) e

pub shows_body_of : (b : Body) (ts : List Word) (stop : ℕ) (r : Recording) → run (body b false) ts stop ≡ Ok r → Shows b.declared r
shows_body_of b ts stop r e = shows (body b false) ts b.declared stop r refl e
