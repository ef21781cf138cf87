-- What stands after the declarations, where the machine of recording_reader reads it to the end.
use Rattle.std.proofs.Common.{◌≡◌, ℕ, ◌<◌, ◌==◌, Bool, true, false, cond, List, [], ◌∷◌, ◌++◌, length, nat_le, nat_lt, Option, Some, None, Ok, Err, refl, sym, ◌∙◌, subst, arith}
use Rattle.std.proofs.lemmas.Bool.{eqb-true}
use Rattle.std.proofs.lemmas.Bool.Decides.{nat_tests}
use Rattle.std.proofs.lemmas.Grind.{common_steps}
use Rattle.recording_reader.specs.Bytes.{are_values, front_of, is_end, rest_of, time_of}
use Rattle.recording_reader.specs.Changes.{Body, changed, last_time, real_on, recording_of, scalar_on, time_on, vector_on, with_time}
use Rattle.recording_reader.specs.Declarations.{Declarations}
use Rattle.recording_reader.specs.Kinds.{kind_of}
use Rattle.recording_reader.specs.Machine.{State, Next, body_on, finish, run, step, then_run, to_body}
use Rattle.recording_reader.specs.Machine.State.{declaring, note, scale, scale_unit, scale_end, scope_kind, scope_name, scope_end, upscope_end, var_kind, var_width, var_code, var_reference, var_range, var_end, definitions_end, body, body_note, vector, real}
use Rattle.recording_reader.specs.Recording.{Recording}
use Rattle.recording_reader.specs.Scopes.{IsOfKind, UntilEnd}
use Rattle.recording_reader.specs.Words.{Word}
use Rattle.recording_codes.specs.Code.{find}
use Rattle.recording_codes.specs.declared.codes.Found.{Found}
use Rattle.recording_reader.specs.declared.kinds.Kind.{Kind}
use Rattle.recording_reader.specs.declared.kinds.Kind.TheVariants as kind
use Rattle.recording_reader.specs.declared.refusal.VcdErr.TheVariants.{Syntax, TimeBack, Width}
use Rattle.recording_laws.specs.Body.{BodyItem, BodyItems, ChangeOf, DumpOf}
use Rattle.recording_laws.specs.Codes.{CodedVariable, has_code}
use Rattle.recording_laws.proofs.Applying.{Applies, applies_more}
use Rattle.recording_laws.proofs.Coding.{IsFoundAt}
use Rattle.recording_laws.proofs.Tied.{AllFacts, Facts}

-- The items of the words, and what they lead to.
pub record HasItems (vs : List CodedVariable) (r : Recording) (b : Body) (ts : List Word) : Type 0 where
  pub items : List BodyItem
  pub read : BodyItems vs ts items
  pub to : Body
  pub applies : Applies b items to
  pub is : recording_of to ≡ r

module _ (h : Declarations) (vs : List CodedVariable) (facts : AllFacts h.codes vs) (stop : ℕ) (r : Recording) where
  -- what may still come, from each state: items, or a dump and then items
  abbrev FItems : Body → List Word → Type 0
  FItems b ts = HasItems vs r b ts

  record FDump (b : Body) (ts : List Word) : Type 0 where
    these : List BodyItem
    rest : List Word
    dumped : DumpOf vs ts rest these
    mid : Body
    applied : Applies b these mid
    after : FItems mid rest

  abbrev FIn : Bool → Body → List Word → Type 0
  FIn true b ts = FDump b ts
  FIn false b ts = FItems b ts

  record FNote (b : Body) (ts : List Word) : Type 0 where
    rest : List Word
    until : UntilEnd ts rest
    after : FItems b rest

  data FVector (dump : Bool) (b : Body) (digits : List ℕ) : List Word → Type 0 where
    coded : {code : Word} {ts : List Word} {number : ℕ} → IsFoundAt h.codes code.text number → FIn dump (changed b number digits) ts → FVector dump b digits (code ∷ ts)

  data FReal (dump : Bool) (b : Body) : List Word → Type 0 where
    coded_real : {code : Word} {ts : List Word} → FIn dump b ts → FReal dump b (code ∷ ts)

  -- The declarations are these.
  abbrev Of : Body → Type 0
  Of b = b.declared ≡ h

  abbrev From : State → List Word → Type 0
  From (body b dump) ts = Of b → FIn dump b ts
  From (body_note b) ts = Of b → FNote b ts
  From (vector b dump at digits) ts = Of b → FVector dump b digits ts
  From (real b dump at) ts = Of b → FReal dump b ts
  From _ ts = Unit {0}

  abbrev FromNext : Next → List Word → Type 0
  FromNext (Ok s) ts = From s ts
  FromNext (Err e) ts = ⊥

  -- ---- changes

  -- A change, in a dump or not, and what comes after it.
  changed_in : {b mid : Body} {ts rest : List Word} {these : List BodyItem} (dump : Bool) → ChangeOf vs ts rest these → Applies b these mid → FIn dump mid rest → FIn dump b ts
  changed_in true change applied f = record { these = _; rest = f.rest; dumped = DumpOf.more change f.dumped; mid = f.mid; applied = applies_more applied f.applied; after = f.after }
  changed_in false change applied f = record { items = _; read = BodyItems.change change f.read; to = f.to; applies = applies_more applied f.applies; is = f.is }

  -- a code of the declarations
  found_here : (b : Body) (code : List ℕ) (f : Found) → Of b → find b.declared.codes code ≡ Some f → IsFoundAt h.codes code f.number
  found_here b code f of is = record { found_ = f; is = subst (λ (d : Declarations). find d.codes code ≡ Some f) of is; at = refl }

  there : (b : Body) (code : List ℕ) (number : ℕ) → Of b → IsFoundAt h.codes code number → IsFoundAt b.declared.codes code number
  there b code number of is = subst (λ (d : Declarations). IsFoundAt d.codes code number) (sym of) is

  has_of : (code : List ℕ) (f : Found) (listed : Bool) → find h.codes code ≡ Some f → f.listed ≡ listed → has_code vs code ≡ listed
  has_of code f listed is as_listed =
      let fact : f.listed ≡ has_code vs code = subst (λ (o : Option Found). Facts o (has_code vs code)) is (facts code) in
      sym fact ∙ as_listed

  scalar_from : (b : Body) (dump : Bool) (t : Word) (ts : List Word) (o : Option Found) → Of b → IsOfKind t kind.Scalar → find b.declared.codes (rest_of t.text) ≡ o → FromNext (to_body dump (scalar_on o b t)) ts → FIn dump b (t ∷ ts)
  scalar_from b dump t ts None of is found h' = absurd h'
  scalar_from b dump t ts (Some f) of is found h' = by f.listed refl h'
    where
      is_found : find h.codes (rest_of t.text) ≡ Some f
      is_found = subst (λ (d : Declarations). find d.codes (rest_of t.text) ≡ Some f) of found

      here : IsFoundAt h.codes (rest_of t.text) f.number
      here = found_here b (rest_of t.text) f of found

      by : (listed : Bool) → f.listed ≡ listed → FromNext (to_body dump (cond listed (Ok (changed b f.number (front_of t.text))) (Ok b))) ts → FIn dump b (t ∷ ts)
      by true listed from = changed_in dump (ChangeOf.scalar is (has_of (rest_of t.text) f true is_found listed)) (Applies.change (there b (rest_of t.text) f.number of here) Applies.none) (from of)
      by false listed from = changed_in dump (ChangeOf.event is (has_of (rest_of t.text) f false is_found listed)) Applies.none (from of)

  vector_from : (b : Body) (dump : Bool) (at : ℕ) (digits : List ℕ) (t : Word) (ts : List Word) (o : Option Found) → Of b → find b.declared.codes t.text ≡ o → FromNext (to_body dump (vector_on o b at digits t)) ts → FVector dump b digits (t ∷ ts)
  vector_from b dump at digits t ts None of found h' = absurd h'
  vector_from b dump at digits t ts (Some f) of found h' = by f.skipped (nat_le (length digits) f.width) h'
    where
      by : (skipped fits : Bool) → FromNext (to_body dump (cond skipped (Err (Syntax at)) (cond fits (Ok (changed b f.number digits)) (Err (Width at))))) ts → FVector dump b digits (t ∷ ts)
      by true fits from = absurd from
      by false true from = FVector.coded (found_here b t.text f of found) (from of)
      by false false from = absurd from

  real_from : (b : Body) (dump : Bool) (at : ℕ) (t : Word) (ts : List Word) (o : Option Found) → Of b → FromNext (to_body dump (real_on o b at t)) ts → FReal dump b (t ∷ ts)
  real_from b dump at t ts None of h' = absurd h'
  real_from b dump at t ts (Some f) of h' = by f.skipped h'
    where
      by : (skipped : Bool) → FromNext (to_body dump (cond skipped (Ok b) (Err (Syntax at)))) ts → FReal dump b (t ∷ ts)
      by true from = FReal.coded_real (from of)
      by false from = absurd from

  vector_back : (b : Body) (dump : Bool) (t : Word) (ts : List Word) → Of b → IsOfKind t kind.Vector → FVector dump b (rest_of t.text) ts → FIn dump b (t ∷ ts)
  vector_back b dump t _ of is (FVector.coded {code = code} {number = number} found f) =
      changed_in dump (ChangeOf.vector is) (Applies.change (there b code.text number of found) Applies.none) f

  real_back : (b : Body) (dump : Bool) (t : Word) (ts : List Word) → IsOfKind t kind.Real → FReal dump b ts → FIn dump b (t ∷ ts)
  real_back b dump t _ is (FReal.coded_real f) = changed_in dump (ChangeOf.real is) Applies.none f

  -- ---- times

  time_item : {b to : Body} (t : Word) (ts : List Word) (time : ℕ) → IsOfKind t kind.Time → time_of (rest_of t.text) ≡ Some time → ((items : List BodyItem) (last : Body) → Applies to items last → Applies b (BodyItem.at time ∷ items) last) → FItems to ts → FItems b (t ∷ ts)
  time_item t ts time is reads applies f = record { items = BodyItem.at time ∷ f.items; read = BodyItems.time is reads f.read; to = f.to; applies = applies f.items f.to f.applies; is = f.is }

  later_time : (last time : ℕ) → nat_lt time last ≡ false → (time == last) ≡ false → last < time
  later_time last time low other = grind (arith, nat_tests, common_steps)

  some_times : (n : ℕ) → (n == 0) ≡ false → 0 < n
  some_times n other = grind (arith, nat_tests, common_steps)

  timed : (b : Body) (t : Word) (ts : List Word) (time at : ℕ) → Of b → IsOfKind t kind.Time → time_of (rest_of t.text) ≡ Some time → FromNext (to_body false (time_on (Some time) b at)) ts → FItems b (t ∷ ts)
  timed b t ts time at of is reads h' = by (length b.times == 0) (nat_lt time (last_time b)) (time == last_time b) refl refl refl h'
    where
      by : (none low same : Bool) → (length b.times == 0) ≡ none → nat_lt time (last_time b) ≡ low → (time == last_time b) ≡ same → FromNext (to_body false (cond none (Ok (with_time b time)) (cond low (Err (TimeBack at)) (cond same (Ok b) (Ok (with_time b time)))))) ts → FItems b (t ∷ ts)
      by true low same x y z from = time_item t ts time is reads (λ items last a. Applies.first (eqb-true (length b.times) 0 x) a) (from of)
      by false true same x y z from = absurd from
      by false false true x y z from = time_item t ts time is reads (λ items last a. Applies.same (some_times (length b.times) x) (eqb-true time (last_time b) z) a) (from of)
      by false false false x y z from = time_item t ts time is reads (λ items last a. Applies.later (some_times (length b.times) x) (later_time (last_time b) time y z) a) (from of)

  time_from : (b : Body) (t : Word) (ts : List Word) (o : Option ℕ) (at : ℕ) → Of b → IsOfKind t kind.Time → time_of (rest_of t.text) ≡ o → FromNext (to_body false (time_on o b at)) ts → FItems b (t ∷ ts)
  time_from b t ts None at of is reads h' = absurd h'
  time_from b t ts (Some time) at of is reads h' = timed b t ts time at of is reads h'

  -- ---- steps

  needs_from : (G : Type 0) (test : Bool) (t : Word) (s : State) (ts : List Word) → (From s ts → G) → FromNext (cond test (Ok s) (Err (Syntax t.at))) ts → G
  needs_from G true t s ts leads h' = leads h'
  needs_from G false t s ts leads h' = absurd h'

  note_back : (b : Body) (t : Word) (ts : List Word) → IsOfKind t kind.Comment → FNote b ts → FItems b (t ∷ ts)
  note_back b t ts is f = let a = f.after in record { items = a.items; read = BodyItems.note is f.until a.read; to = a.to; applies = a.applies; is = a.is }

  dump_back : (b : Body) (t : Word) (ts : List Word) → IsOfKind t kind.Dump → FDump b ts → FItems b (t ∷ ts)
  dump_back b t ts is f = let a = f.after in record { items = f.these ++ a.items; read = BodyItems.dump is f.dumped a.read; to = a.to; applies = applies_more f.applied a.applies; is = a.is }

  end_back : (b : Body) (t : Word) (ts : List Word) → IsOfKind t kind.End → FItems b ts → FDump b (t ∷ ts)
  end_back b t ts is f = record { these = []; rest = ts; dumped = DumpOf.end is; mid = b; applied = Applies.none; after = f }

  body_from : (k : Kind) (b : Body) (dump : Bool) (t : Word) (ts : List Word) → Of b → kind_of t.text ≡ k → FromNext (body_on k b dump t) ts → FIn dump b (t ∷ ts)
  body_from kind.Scalar b dump t ts of is h' = scalar_from b dump t ts (find b.declared.codes (rest_of t.text)) of is refl h'
  body_from kind.Vector b dump t ts of is h' = needs_from (FIn dump b (t ∷ ts)) (are_values (rest_of t.text)) t (vector b dump t.at (rest_of t.text)) ts (λ from. vector_back b dump t ts of is (from of)) h'
  body_from kind.Real b dump t ts of is h' = real_back b dump t ts is (h' of)
  body_from kind.Time b true t ts of is h' = absurd h'
  body_from kind.Time b false t ts of is h' = time_from b t ts (time_of (rest_of t.text)) t.at of is refl h'
  body_from kind.Comment b true t ts of is h' = absurd h'
  body_from kind.Comment b false t ts of is h' = note_back b t ts is (h' of)
  body_from kind.Dump b true t ts of is h' = absurd h'
  body_from kind.Dump b false t ts of is h' = dump_back b t ts is (h' of)
  body_from kind.End b true t ts of is h' = end_back b t ts is (h' of)
  body_from kind.End b false t ts of is h' = absurd h'
  body_from kind.Off b dump t ts of is h' = absurd h'
  body_from kind.Var b dump t ts of is h' = absurd h'
  body_from kind.Scope b dump t ts of is h' = absurd h'
  body_from kind.Upscope b dump t ts of is h' = absurd h'
  body_from kind.Timescale b dump t ts of is h' = absurd h'
  body_from kind.Note b dump t ts of is h' = absurd h'
  body_from kind.Definitions b dump t ts of is h' = absurd h'
  body_from kind.Other b dump t ts of is h' = absurd h'

  noted_from : (b : Body) (t : Word) (ts : List Word) (ends : Bool) → Of b → is_end t.text ≡ ends → From (cond ends (body b false) (body_note b)) ts → FNote b (t ∷ ts)
  noted_from b t ts true of is h' = record { rest = ts; until = UntilEnd.here is; after = h' of }
  noted_from b t ts false of is h' = (let f = h' of in record { rest = f.rest; until = UntilEnd.further is f.until; after = f.after })

  back : (s : State) (t : Word) (ts : List Word) → FromNext (step s t) ts → From s (t ∷ ts)
  back (body b dump) t ts h' = λ of. body_from (kind_of t.text) b dump t ts of refl h'
  back (body_note b) t ts h' = λ of. noted_from b t ts (is_end t.text) of refl h'
  back (vector b dump at digits) t ts h' = λ of. vector_from b dump at digits t ts (find b.declared.codes t.text) of refl h'
  back (real b dump at) t ts h' = λ of. real_from b dump at t ts (find b.declared.codes t.text) of h'
  back (declaring d) t ts h' = tt
  back (note d) t ts h' = tt
  back (scale d) t ts h' = tt
  back (scale_unit d power) t ts h' = tt
  back (scale_end d text) t ts h' = tt
  back (scope_kind d) t ts h' = tt
  back (scope_name d) t ts h' = tt
  back (scope_end d name) t ts h' = tt
  back (upscope_end d) t ts h' = tt
  back (var_kind d var) t ts h' = tt
  back (var_width d var skipped) t ts h' = tt
  back (var_code d var skipped width) t ts h' = tt
  back (var_reference d skipped number width) t ts h' = tt
  back (var_range d skipped number width reference) t ts h' = tt
  back (var_end d skipped number width reference range) t ts h' = tt
  back (definitions_end d) t ts h' = tt

  ended_in : (b : Body) (dump : Bool) → finish (body b dump) stop ≡ Ok r → FIn dump b []
  ended_in b true e = absurd cc
  ended_in b false e = record { items = []; read = BodyItems.none; to = b; applies = Applies.none; is = cc }

  ended : (s : State) → finish s stop ≡ Ok r → From s []
  ended (body b dump) e = λ of. ended_in b dump e
  ended (body_note b) e = absurd cc
  ended (vector b dump at digits) e = absurd cc
  ended (real b dump at) e = absurd cc
  ended _ e = tt

  itemed : (s : State) (ts : List Word) → run s ts stop ≡ Ok r → From s ts
  itemed s [] e = ended s e
  itemed s (t ∷ ts) e = back s t ts (by (λ (next : State). itemed next ts) (step s t) e)
    where
      by : ((next : State) → run next ts stop ≡ Ok r → From next ts) → (n : Next) → then_run n (λ (next : State). run next ts stop) ≡ Ok r → FromNext n ts
      by others (Ok next) e = others next e
      by others (Err x) e = absurd cc

-- What stands after declarations are items.
pub has_items : (h : Declarations) (vs : List CodedVariable) (b : Body) (ts : List Word) (stop : ℕ) (r : Recording) → AllFacts h.codes vs → b.declared ≡ h → run (body b false) ts stop ≡ Ok r → HasItems vs r b ts
has_items h vs b ts stop r facts of e = itemed h vs facts stop r (body b false) ts e of
