-- A text with names and supplies comes to one outcome.
use Rattle.std.proofs.Common.{◌≡◌, ℕ, List, [], ◌∷◌, Result, Ok, Err, refl, sym, ap, subst, ◌∙◌}
use Rattle.netlist_trim.specs.Shown.{Shown, Stream}
use Rattle.netlist_trim.specs.Definition.{Unclosed, closes, up_to_first}
use Rattle.netlist_trim.specs.Trims.{IsUndefined, TrimComes}
use Rattle.netlist_trim.specs.declared.fault.TrimFault.{TrimFault}
use Rattle.netlist_trim.specs.declared.fault.TrimFault.TheVariants.{Token, Open, NoTop}
use Rattle.netlist_trim.proofs.OneWay.{SameFirst, never_closed, none_or_one, one_or_two, one_outcome, one_stream, same_first, some_or_none}
use Rattle.netlist_stub_read.specs.Modules.{Holds, IsHeld, Module, module_of}
use Rattle.std.specs.Prelude.{IfErr, IfOk, Vec}
use Rattle.std.specs.declared.alloc.Global.{Global}
use Rattle.netlist_stub.specs.Stubs.{Answers, IfStubRefused, IsStubbed, IsUnheld, StubComes, missing, text_of}
use Rattle.netlist_stub.specs.declared.fault.StubErr.{StubErr}
use Rattle.netlist_stub.specs.declared.fault.StubErr.TheVariants.{Refused, Memory}
use Rattle.netlist_stub.specs.declared.fault.StubFault.{StubFault}
use Rattle.netlist_stub.specs.declared.fault.StubFault.TheVariants.{Text, Unexpected, Range, Supply, Undirected}

-- ---- definitions

same_module : (o o2 n n2 c c2 : Shown) (w w2 r r2 : List Shown) → SameFirst o o2 n n2 c c2 w w2 r r2
    → module_of o n (up_to_first (closes o) w) c ≡ module_of o2 n2 (up_to_first (closes o2) w2) c2
same_module o o2 n n2 c c2 w w2 r r2 s =
    ap (λ (x : Shown). module_of x n (up_to_first (closes x) w) c) s.opening ∙ ap (λ (x : Shown). module_of o2 x (up_to_first (closes o2) w) c) s.name
    ∙ ap (λ (x : List Shown). module_of o2 n2 (up_to_first (closes o2) x) c) s.within ∙ ap (λ (x : Shown). module_of o2 n2 (up_to_first (closes o2) w2) x) s.close

one_held : (ts : List Shown) (a b : List Module) → Holds ts a → Holds ts b → a ≡ b
one_held ts a b (Holds.none none) (Holds.none other) = refl
one_held ts a b (Holds.none none) (Holds.next at close rest) = absurd (none_or_one _ _ _ none at)
one_held ts a b (Holds.next at close rest) (Holds.none none) = absurd (none_or_one _ _ _ none at)
one_held ts a b (Holds.next {opening = o} {name = n} {close = c} {within = w} {rest = r} {ms = ms} at close rest)
    (Holds.next {opening = o2} {name = n2} {close = c2} {within = w2} {rest = r2} {ms = ms2} at2 close2 rest2) =
    let s = same_first ts o o2 n n2 c c2 w w2 r r2 (record { at = at; close = close }) (record { at = at2; close = close2 }) in
    ap (λ (m : Module). m ∷ ms) (same_module o o2 n n2 c c2 w w2 r r2 s)
    ∙ ap (λ (l : List Module). module_of o2 n2 (up_to_first (closes o2) w2) c2 ∷ l)
    (one_held r ms ms2 rest (subst (λ (l : List Shown). Holds l ms2) (sym s.rest) rest2))

held_closed : (ts : List Shown) (ms : List Module) (at : ℕ) → Holds ts ms → Unclosed ts at → ⊥
held_closed ts ms at (Holds.none none) (Unclosed.unnamed one) = none_or_one _ _ _ none one
held_closed ts ms at (Holds.none none) (Unclosed.unended one stays) = none_or_one _ _ _ none one
held_closed ts ms at (Holds.none none) (Unclosed.later one close rest) = none_or_one _ _ _ none one
held_closed ts ms at (Holds.next here close rest) (Unclosed.unnamed one) = one_or_two _ _ _ _ _ one here
held_closed ts ms at (Holds.next {opening = o2} {name = n2} {close = c2} {within = w2} {rest = r2} here close rest)
    (Unclosed.unended {opening = o} {name = n} {within = w} one stays) =
    never_closed ts o n o2 n2 c2 w w2 r2 one stays (record { at = here; close = close })
held_closed ts ms at (Holds.next {opening = o} {name = n} {close = c} {within = w} {rest = r} {ms = more} here close rest)
    (Unclosed.later {opening = o2} {name = n2} {close = c2} {within = w2} {rest = r2} here2 close2 rest2) =
    let s = same_first ts o o2 n n2 c c2 w w2 r r2 (record { at = here; close = close }) (record { at = here2; close = close2 }) in
    held_closed r more at rest (subst (λ (l : List Shown). Unclosed l at) (sym s.rest) rest2)

-- ---- outcomes

one_modules : (text : List ℕ) (a b : List Module) → IsHeld text a → IsHeld text b → a ≡ b
one_modules text a b first second =
    one_held first.stream.tokens a b first.held
    (subst (λ (x : Stream). Holds x.tokens b) (one_stream text second.stream first.stream second.told first.told) second.held)

-- A text that defines nothing has no modules.
held_or_not : (text : List ℕ) (fault : TrimFault) (ms : List Module) → IsUndefined text fault → IsHeld text ms → ⊥
held_or_not text (Token f) ms (s, told, is) m =
    some_or_none s.fault f (ap (λ (x : Stream). x.fault) (one_stream text s m.stream told m.told) ∙ m.whole) is
held_or_not text (Open at) ms (s, told, whole, stays) m =
    held_closed m.stream.tokens ms at m.held
    (subst (λ (x : Stream). Unclosed x.tokens at) (one_stream text s m.stream told m.told) stays)
held_or_not text (NoTop name) ms none m = absurd none

untrimmed : (text : List ℕ) (fault : TrimFault) → IsUndefined text fault → TrimComes text [] (Err fault)
untrimmed text (Token f) is = is
untrimmed text (Open at) is = is
untrimmed text (NoTop name) is = absurd is

err_same : (f g : TrimFault) → ◌≡◌ {A = Result (List ℕ) TrimFault} (Err f) (Err g) → f ≡ g
err_same f g h = cc

one_undefined : (text : List ℕ) (f g : TrimFault) → IsUndefined text f → IsUndefined text g → f ≡ g
one_undefined text f g a b = err_same f g (one_outcome text [] (Err f) (Err g) (untrimmed text f a) (untrimmed text g b))

-- ---- one outcome

module _ (text : List ℕ) (names supplies : List (List ℕ)) where
  held_one : (a b : Result (List ℕ) StubFault) → IsStubbed text names supplies a → IsStubbed text names supplies b → a ≡ b
  held_one a b x y =
      sym x.comes
      ∙ ap (λ (ms : List Module). text_of text names supplies ms (missing ms names)) (one_modules text x.modules y.modules x.are y.are)
      ∙ y.comes

  pub one_stubbed : (a b : Result (List ℕ) StubFault) → StubComes text names supplies a → StubComes text names supplies b → a ≡ b
  one_stubbed a b (StubComes.undefined {fault = f} x) (StubComes.undefined {fault = g} y) =
      ap (λ (e : TrimFault). Err (Text e)) (one_undefined text f g x y)
  one_stubbed a b (StubComes.undefined {fault = f} x) (StubComes.held y) = absurd (held_or_not text f y.modules x y.are)
  one_stubbed a b (StubComes.held x) (StubComes.undefined {fault = g} y) = absurd (held_or_not text g x.modules y x.are)
  one_stubbed a b (StubComes.held x) (StubComes.held y) = held_one a b x y

  -- ---- what is answered

  pub unheld_refused : (e : StubErr) → IfStubRefused (IsUnheld text) e → IfStubRefused (λ fault. StubComes text names supplies (Err fault)) e
  unheld_refused (Refused (Text f)) is = StubComes.undefined is
  unheld_refused (Refused (Unexpected at)) is = absurd is
  unheld_refused (Refused (Range at)) is = absurd is
  unheld_refused (Refused (Supply at)) is = absurd is
  unheld_refused (Refused (Undirected at)) is = absurd is
  unheld_refused Memory is = tt

  pub held_stubbed : (ms : List Module) (r : Result (Vec ℕ Global) StubErr) → IsHeld text ms
      → Answers (text_of text names supplies ms (missing ms names)) r → IfOk r (λ out. StubComes text names supplies (Ok out.items))
  held_stubbed ms (Ok out) are is = StubComes.held (record { modules = ms; are = are; comes = is })
  held_stubbed ms (Err e) are is = tt

  pub held_refused : (ms : List Module) (r : Result (Vec ℕ Global) StubErr) → IsHeld text ms
      → Answers (text_of text names supplies ms (missing ms names)) r
      → IfErr r (IfStubRefused (λ fault. StubComes text names supplies (Err fault)))
  held_refused ms (Ok out) are is = tt
  held_refused ms (Err (Refused f)) are is = StubComes.held (record { modules = ms; are = are; comes = is })
  held_refused ms (Err Memory) are is = tt
