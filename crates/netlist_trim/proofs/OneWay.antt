-- A text with a top comes to one outcome.
use Rattle.std.proofs.Common.{◌≡◌, ℕ, List, [], ◌∷◌, ◌++◌, Option, Some, None, Result, Ok, Err, refl, sym, ap, subst, ◌∙◌}
use Rattle.netlist_tokens.specs.declared.token.LexErr.{LexErr}
use Rattle.netlist_tokens.proofs.Told.{left_follows}
use Rattle.netlist_trim.specs.Shown.{IsStream, Shown, Stream, stream_of}
use Rattle.netlist_trim.specs.Definition.{Defined, Defines, Unclosed, closes, definition_of, from_first, opens, up_to_first}
use Rattle.netlist_trim.specs.Needed.{first_named}
use Rattle.std.specs.Prelude.{Vec, IfErr, IfOk}
use Rattle.std.specs.declared.alloc.Global.{Global}
use Rattle.netlist_trim.specs.declared.fault.TrimErr.{TrimErr}
use Rattle.netlist_trim.specs.declared.fault.TrimErr.TheVariants.{Refused, Memory}
use Rattle.netlist_trim.specs.Trims.{AnswersTrim, IfTrimRefused, IsDefined, IsTrimmed, Keeps, TrimComes, copy_of}
use Rattle.netlist_trim.specs.declared.fault.TrimFault.{TrimFault}
use Rattle.netlist_trim.specs.declared.fault.TrimFault.TheVariants.{Token, Open, NoTop}

pub one_stream : (text : List ℕ) (a b : Stream) → IsStream text a → IsStream text b → a ≡ b
one_stream text a b first second =
    first.shown ∙ ap (stream_of text) (sym (left_follows first.told) ∙ left_follows second.told) ∙ sym second.shown

pub same_head : {A : Type 0} (x y : A) (xs ys : List A) → x ∷ xs ≡ y ∷ ys → x ≡ y
same_head x y xs ys h = cc

pub same_tail : {A : Type 0} (x y : A) (xs ys : List A) → x ∷ xs ≡ y ∷ ys → xs ≡ ys
same_tail x y xs ys h = cc

-- ---- definitions

-- The first definition of some tokens, with what is left.
pub record First (ts : List Shown) (o n c : Shown) (within rest : List Shown) : Type 0 where
  pub at : from_first opens ts ≡ o ∷ n ∷ within
  pub close : from_first (closes o) within ≡ c ∷ rest

pub record SameFirst (o o2 n n2 c c2 : Shown) (w w2 r r2 : List Shown) : Type 0 where
  pub opening : o ≡ o2
  pub name : n ≡ n2
  pub within : w ≡ w2
  pub close : c ≡ c2
  pub rest : r ≡ r2

pub same_first : (ts : List Shown) (o o2 n n2 c c2 : Shown) (w w2 r r2 : List Shown) → First ts o n c w r → First ts o2 n2 c2 w2 r2
    → SameFirst o o2 n n2 c c2 w w2 r r2
same_first ts o o2 n n2 c c2 w w2 r r2 a b =
    let all = sym a.at ∙ b.at in
    let tail = same_tail o o2 (n ∷ w) (n2 ∷ w2) all in
    let opening = same_head o o2 (n ∷ w) (n2 ∷ w2) all in
    let within = same_tail n n2 w w2 tail in
    let closes_same : from_first (closes o) w ≡ from_first (closes o2) w2 = ap (λ (x : Shown). from_first (closes x) w) opening ∙ ap (from_first (closes o2)) within in
    let last = sym a.close ∙ closes_same ∙ b.close in
    record { opening = opening; name = same_head n n2 w w2 tail; within = within; close = same_head c c2 r r2 last; rest = same_tail c c2 r r2 last }

same_definition : (o o2 n n2 c c2 : Shown) (w w2 r r2 : List Shown) → SameFirst o o2 n n2 c c2 w w2 r r2
    → definition_of o n (up_to_first (closes o) w) c ≡ definition_of o2 n2 (up_to_first (closes o2) w2) c2
same_definition o o2 n n2 c c2 w w2 r r2 s =
    ap (λ (x : Shown). definition_of x n (up_to_first (closes x) w) c) s.opening ∙ ap (λ (x : Shown). definition_of o2 x (up_to_first (closes o2) w) c) s.name
    ∙ ap (λ (x : List Shown). definition_of o2 n2 (up_to_first (closes o2) x) c) s.within ∙ ap (λ (x : Shown). definition_of o2 n2 (up_to_first (closes o2) w2) x) s.close

-- none, and one
pub none_or_one : {A : Type 0} (l : List A) (x : A) (xs : List A) → l ≡ [] → l ≡ x ∷ xs → ⊥
none_or_one l x xs none one = (let e : [] ≡ x ∷ xs = sym none ∙ one in absurd cc)

one_defined : (ts : List Shown) (a b : List Defined) → Defines ts a → Defines ts b → a ≡ b
one_defined ts a b (Defines.none none) (Defines.none other) = refl
one_defined ts a b (Defines.none none) (Defines.next at close rest) = absurd (none_or_one _ _ _ none at)
one_defined ts a b (Defines.next at close rest) (Defines.none none) = absurd (none_or_one _ _ _ none at)
one_defined ts a b (Defines.next {opening = o} {name = n} {close = c} {within = w} {rest = r} {ds = ds} at close rest)
    (Defines.next {opening = o2} {name = n2} {close = c2} {within = w2} {rest = r2} {ds = ds2} at2 close2 rest2) =
    let s = same_first ts o o2 n n2 c c2 w w2 r r2 (record { at = at; close = close }) (record { at = at2; close = close2 }) in
    ap (λ (d : Defined). d ∷ ds) (same_definition o o2 n n2 c c2 w w2 r r2 s)
    ∙ ap (λ (l : List Defined). definition_of o2 n2 (up_to_first (closes o2) w2) c2 ∷ l)
    (one_defined r ds ds2 rest (subst (λ (l : List Shown). Defines l ds2) (sym s.rest) rest2))

-- one token, and two
pub one_or_two : {A : Type 0} (l : List A) (x y z : A) (xs : List A) → l ≡ x ∷ [] → l ≡ y ∷ z ∷ xs → ⊥
one_or_two l x y z xs one two = none_or_one [] z xs refl (same_tail x y [] (z ∷ xs) (sym one ∙ two))

pub never_closed : (ts : List Shown) (o n o2 n2 c2 : Shown) (w w2 r2 : List Shown) → from_first opens ts ≡ o ∷ n ∷ w → from_first (closes o) w ≡ []
    → First ts o2 n2 c2 w2 r2 → ⊥
never_closed ts o n o2 n2 c2 w w2 r2 at none f =
    let all = sym at ∙ f.at in
    let opening = same_head o o2 (n ∷ w) (n2 ∷ w2) all in
    let within = same_tail n n2 w w2 (same_tail o o2 (n ∷ w) (n2 ∷ w2) all) in
    none_or_one (from_first (closes o) w) c2 r2 none (ap (λ (x : Shown). from_first (closes x) w) opening ∙ ap (from_first (closes o2)) within ∙ f.close)

defined_closed : (ts : List Shown) (ds : List Defined) (at : ℕ) → Defines ts ds → Unclosed ts at → ⊥
defined_closed ts ds at (Defines.none none) (Unclosed.unnamed one) = none_or_one _ _ _ none one
defined_closed ts ds at (Defines.none none) (Unclosed.unended one stays) = none_or_one _ _ _ none one
defined_closed ts ds at (Defines.none none) (Unclosed.later one close rest) = none_or_one _ _ _ none one
defined_closed ts ds at (Defines.next here close rest) (Unclosed.unnamed one) = one_or_two _ _ _ _ _ one here
defined_closed ts ds at (Defines.next {opening = o2} {name = n2} {close = c2} {within = w2} {rest = r2} here close rest)
    (Unclosed.unended {opening = o} {name = n} {within = w} one stays) =
    never_closed ts o n o2 n2 c2 w w2 r2 one stays (record { at = here; close = close })
defined_closed ts ds at (Defines.next {opening = o} {name = n} {close = c} {within = w} {rest = r} {ds = more} here close rest)
    (Unclosed.later {opening = o2} {name = n2} {close = c2} {within = w2} {rest = r2} here2 close2 rest2) =
    let s = same_first ts o o2 n n2 c c2 w w2 r r2 (record { at = here; close = close }) (record { at = here2; close = close2 }) in
    defined_closed r more at rest (subst (λ (l : List Shown). Unclosed l at) (sym s.rest) rest2)

one_unclosed : (ts : List Shown) (a b : ℕ) → Unclosed ts a → Unclosed ts b → a ≡ b
one_unclosed ts a b (Unclosed.unnamed {opening = o} one) (Unclosed.unnamed {opening = o2} other) =
    ap (λ (t : Shown). t.token.start) (same_head o o2 [] [] (sym one ∙ other))
one_unclosed ts a b (Unclosed.unnamed one) (Unclosed.unended other stays) = absurd (one_or_two _ _ _ _ _ one other)
one_unclosed ts a b (Unclosed.unnamed one) (Unclosed.later other close rest) = absurd (one_or_two _ _ _ _ _ one other)
one_unclosed ts a b (Unclosed.unended one stays) (Unclosed.unnamed other) = absurd (one_or_two _ _ _ _ _ other one)
one_unclosed ts a b (Unclosed.unended {opening = o} {name = n} {within = w} one stays) (Unclosed.unended {opening = o2} {name = n2} {within = w2} other more) =
    ap (λ (t : Shown). t.token.start) (same_head o o2 (n ∷ w) (n2 ∷ w2) (sym one ∙ other))
one_unclosed ts a b (Unclosed.unended {opening = o} {name = n} {within = w} one stays)
    (Unclosed.later {opening = o2} {name = n2} {close = c2} {within = w2} {rest = r2} here close rest) =
    absurd (never_closed ts o n o2 n2 c2 w w2 r2 one stays (record { at = here; close = close }))
one_unclosed ts a b (Unclosed.later here close rest) (Unclosed.unnamed one) = absurd (one_or_two _ _ _ _ _ one here)
one_unclosed ts a b (Unclosed.later {opening = o2} {name = n2} {close = c2} {within = w2} {rest = r2} here close rest)
    (Unclosed.unended {opening = o} {name = n} {within = w} one stays) =
    absurd (never_closed ts o n o2 n2 c2 w w2 r2 one stays (record { at = here; close = close }))
one_unclosed ts a b (Unclosed.later {opening = o} {name = n} {close = c} {within = w} {rest = r} here close rest)
    (Unclosed.later {opening = o2} {name = n2} {close = c2} {within = w2} {rest = r2} here2 close2 rest2) =
    let s = same_first ts o o2 n n2 c c2 w w2 r r2 (record { at = here; close = close }) (record { at = here2; close = close2 }) in
    one_unclosed r a b rest (subst (λ (l : List Shown). Unclosed l b) (sym s.rest) rest2)

-- ---- what is kept

one_kept : (text : List ℕ) (all : List Defined) (top : List ℕ) (ds : List Defined) (a b : List ℕ) → Keeps text all top ds a → Keeps text all top ds b → a ≡ b
one_kept text all top [] a b Keeps.none Keeps.none = refl
one_kept text all top (d ∷ ds) a b (Keeps.kept {out = out} needed rest) (Keeps.kept {out = out2} needed2 rest2) =
    ap (λ (l : List ℕ). copy_of text d ++ l) (one_kept text all top ds out out2 rest rest2)
one_kept text all top (d ∷ ds) a b (Keeps.kept needed rest) (Keeps.dropped not_needed rest2) = absurd (not_needed needed)
one_kept text all top (d ∷ ds) a b (Keeps.dropped not_needed rest) (Keeps.kept needed rest2) = absurd (not_needed needed)
one_kept text all top (d ∷ ds) a b (Keeps.dropped not_needed rest) (Keeps.dropped not_needed2 rest2) = one_kept text all top ds a b rest rest2

-- ---- outcomes

pub some_or_none : {A : Type 0} (o : Option A) (x : A) → o ≡ None → o ≡ Some x → ⊥
some_or_none o x none some = (let e : None ≡ Some x = sym none ∙ some in absurd cc)

one_some : {A : Type 0} (x y : A) → Some x ≡ Some y → x ≡ y
one_some x y h = cc

faulty : (text : List ℕ) (s : Stream) (e : LexErr) (ds : List Defined) → IsStream text s → s.fault ≡ Some e → IsDefined text ds → ⊥
faulty text s e ds told fault d =
    some_or_none s.fault e (ap (λ (x : Stream). x.fault) (one_stream text s d.stream told d.told) ∙ d.whole) fault

unclosed : (text : List ℕ) (s : Stream) (at : ℕ) (ds : List Defined) → IsStream text s → Unclosed s.tokens at → IsDefined text ds → ⊥
unclosed text s at ds told stays d =
    defined_closed d.stream.tokens ds at d.defined
    (subst (λ (x : Stream). Unclosed x.tokens at) (one_stream text s d.stream told d.told) stays)

one_library : (text : List ℕ) (a b : List Defined) → IsDefined text a → IsDefined text b → a ≡ b
one_library text a b first second =
    one_defined first.stream.tokens a b first.defined
    (subst (λ (x : Stream). Defines x.tokens b) (one_stream text second.stream first.stream second.told first.told) second.defined)

no_top_there : (text top : List ℕ) (ds : List Defined) (out : List ℕ) → IsDefined text ds → first_named ds top ≡ None → IsTrimmed text top out → ⊥
no_top_there text top ds out is none t =
    some_or_none (first_named ds top) t.number none (ap (λ (l : List Defined). first_named l top) (one_library text ds t.definitions is t.are) ∙ t.there)

pub one_outcome : (text top : List ℕ) (a b : Result (List ℕ) TrimFault) → TrimComes text top a → TrimComes text top b → a ≡ b
one_outcome text top (Ok a) (Ok b) first second =
    let same = one_library text second.definitions first.definitions second.are first.are in
    ap (λ (l : List ℕ). Ok l) (one_kept text first.definitions top first.definitions a b first.kept
    (subst (λ (l : List Defined). Keeps text l top l b) same second.kept))
one_outcome text top (Ok a) (Err (Token f)) first second = absurd (faulty text second.0 f first.definitions second.1 second.2 first.are)
one_outcome text top (Ok a) (Err (Open at)) first second = absurd (unclosed text second.0 at first.definitions second.1 second.3 first.are)
one_outcome text top (Ok a) (Err (NoTop name)) first second = absurd (no_top_there text top second.0 a second.1 second.2 first)
one_outcome text top (Err (Token f)) (Ok b) first second = absurd (faulty text first.0 f second.definitions first.1 first.2 second.are)
one_outcome text top (Err (Token f)) (Err (Token g)) first second =
    ap (λ (e : LexErr). Err (Token e)) (one_some f g (sym first.2 ∙ ap (λ (s : Stream). s.fault) (one_stream text first.0 second.0 first.1 second.1) ∙ second.2))
one_outcome text top (Err (Token f)) (Err (Open at)) first second =
    absurd (some_or_none first.0.fault f (ap (λ (s : Stream). s.fault) (one_stream text first.0 second.0 first.1 second.1) ∙ second.2) first.2)
one_outcome text top (Err (Token f)) (Err (NoTop name)) first second = absurd (faulty text first.0 f second.0 first.1 first.2 second.1)
one_outcome text top (Err (Open at)) (Ok b) first second = absurd (unclosed text first.0 at second.definitions first.1 first.3 second.are)
one_outcome text top (Err (Open at)) (Err (Token g)) first second =
    absurd (some_or_none second.0.fault g (ap (λ (s : Stream). s.fault) (one_stream text second.0 first.0 second.1 first.1) ∙ first.2) second.2)
one_outcome text top (Err (Open at)) (Err (Open other)) first second =
    ap (λ (k : ℕ). Err (Open k)) (one_unclosed first.0.tokens at other first.3
    (subst (λ (s : Stream). Unclosed s.tokens other) (one_stream text second.0 first.0 second.1 first.1) second.3))
one_outcome text top (Err (Open at)) (Err (NoTop name)) first second = absurd (unclosed text first.0 at second.0 first.1 first.3 second.1)
one_outcome text top (Err (NoTop name)) (Ok b) first second = absurd (no_top_there text top first.0 b first.1 first.2 second)
one_outcome text top (Err (NoTop name)) (Err (Token g)) first second = absurd (faulty text second.0 g first.0 second.1 second.2 first.1)
one_outcome text top (Err (NoTop name)) (Err (Open at)) first second = absurd (unclosed text second.0 at first.0 second.1 second.3 first.1)
one_outcome text top (Err (NoTop name)) (Err (NoTop other)) first second = ap (λ (n : List ℕ). Err (NoTop n)) (first.3 ∙ sym second.3)

-- What is answered is the outcome.
pub answers_it : (text top : List ℕ) (r : Result (Vec ℕ Global) TrimErr) → IfOk r (λ out. TrimComes text top (Ok out.items))
    → IfErr r (IfTrimRefused (λ fault. TrimComes text top (Err fault))) → (outcome : Result (List ℕ) TrimFault)
    → TrimComes text top outcome → AnswersTrim r outcome
answers_it text top (Ok out) ok err outcome comes = one_outcome text top (Ok out.items) outcome ok comes
answers_it text top (Err (Refused fault)) ok err outcome comes = one_outcome text top (Err fault) outcome err comes
answers_it text top (Err Memory) ok err outcome comes = tt
