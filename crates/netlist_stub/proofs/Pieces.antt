-- A text with stubs, piece by piece.
use Rattle.std.proofs.Common.{◌≡◌, ℕ, ◌-◌, ◌<◌, Bool, true, false, ◌||◌, if◌then◌else◌, List, [], ◌∷◌, ◌++◌, append_assoc, bytes_eq, drop, get_or, length, take, take_all, Result, Ok, Err, refl, sym, ap, ◌∙◌, arith}
use Rattle.std.specs.Borrow.{Bor}
use Rattle.std.specs.List.{list_any}
use Rattle.netlist_stub.specs.Known.{is_among, texts_of}
use Rattle.netlist_stub_read.specs.Modules.{Module}
use Rattle.netlist_stub.specs.Stubs.{followed_by, is_stubbed, piece_of, stubbed, with_front}
use Rattle.netlist_stub.specs.declared.fault.StubFault.{StubFault}

pub among_texts : (names : List (Bor (List ℕ))) (name : List ℕ)
    → list_any (λ (other : Bor (List ℕ)). bytes_eq other.now name) names ≡ is_among (texts_of names) name
among_texts [] name = refl
among_texts (n ∷ ns) name = ap (λ (b : Bool). bytes_eq n.now name || b) (among_texts ns name)

-- A list of which the first is taken.
pub parts_of : {X : Type 0} (xs : List X) (x : X) → x ≡ get_or xs 0 x → 0 < length xs
    → xs ≡ x ∷ take (length xs - 1) (drop 1 xs)
parts_of [] x is some = absurd (omega (arith, some))
parts_of (y ∷ ys) x is some =
    ap (λ z. z ∷ ys) (sym is) ∙ ap (λ zs. x ∷ zs) (sym (take_all (length (y ∷ ys) - 1) ys (omega arith)))

abbrev pub Outcome : Type 0
Outcome = Result (List ℕ) StubFault

pub front_none : (r : Outcome) → with_front [] r ≡ r
front_none (Ok x) = refl
front_none (Err f) = refl

front_more : (a b : List ℕ) (r : Outcome) → with_front (a ++ b) r ≡ with_front a (with_front b r)
front_more a b (Ok x) = ap (λ (l : List ℕ). Ok l) (append_assoc a b x)
front_more a b (Err f) = refl

same_piece : (b : Bool) (piece rest skipped : Outcome) (bytes : List ℕ) → b ≡ true → piece ≡ Ok bytes
    → (if b then followed_by piece rest else skipped) ≡ with_front bytes rest
same_piece b piece rest skipped bytes is gives = rw (is, gives) refl

module _ (text : List ℕ) (names supplies : List (List ℕ)) (at : ℕ) (m : Module) (ms : List Module) (old : List ℕ)
    (all : Outcome) where
  pub piece_more : (bytes new : List ℕ) → is_stubbed names m ≡ true → piece_of text supplies at m ≡ Ok bytes
      → new ≡ old ++ bytes → with_front old (stubbed text names supplies at (m ∷ ms)) ≡ all
      → with_front new (stubbed text names supplies m.«end» ms) ≡ all
  piece_more bytes new is gives grown so_far =
      let rest = stubbed text names supplies m.«end» ms in
      let step : stubbed text names supplies at (m ∷ ms) ≡ with_front bytes rest =
      same_piece (is_stubbed names m) (piece_of text supplies at m) rest (stubbed text names supplies at ms) bytes is gives in
      ap (λ (l : List ℕ). with_front l rest) grown ∙ front_more old bytes rest ∙ ap (with_front old) (sym step) ∙ so_far

  pub piece_skipped : is_stubbed names m ≡ false → with_front old (stubbed text names supplies at (m ∷ ms)) ≡ all
      → with_front old (stubbed text names supplies at ms) ≡ all
  piece_skipped is so_far =
      let step : stubbed text names supplies at (m ∷ ms) ≡ stubbed text names supplies at ms = rw is refl in
      ap (with_front old) (sym step) ∙ so_far

  pub piece_refused : (f : StubFault) → is_stubbed names m ≡ true → piece_of text supplies at m ≡ Err f
      → with_front old (stubbed text names supplies at (m ∷ ms)) ≡ all → all ≡ Err f
  piece_refused f is gives so_far =
      let step : stubbed text names supplies at (m ∷ ms) ≡ Err f = rw (is, gives) refl in
      sym so_far ∙ ap (with_front old) step

pub pieces_end : (text : List ℕ) (names supplies : List (List ℕ)) (at : ℕ) (old new : List ℕ) (all : Outcome)
    → new ≡ old ++ drop at text → with_front old (stubbed text names supplies at []) ≡ all → all ≡ Ok new
pieces_end text names supplies at old new all grown so_far = sym so_far ∙ ap (λ (l : List ℕ). Ok l) (sym grown)
