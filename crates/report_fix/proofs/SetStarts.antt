-- Pieces that are set one by one.
use Rattle.std.proofs.Common.{◌≡◌, ℕ, zero, suc, ◌+◌, ◌<◌, Bool, true, false, not, Option, None, Some, List, [], ◌∷◌, ◌++◌, length, take, get_or, refl, sym, ap, ◌∙◌, subst, arith, add-one, ⊎_elim, if◌then◌else◌, slice_set}
use Rattle.std.specs.Prelude.{Err, IfErr, IfSome, Ok, Result}
use Rattle.std.specs.Result.{IsErrAnd}
use Rattle.std.proofs.Math.ListN.{length-set}
use Rattle.std.proofs.lemmas.Bool.{cases_eq}
use Rattle.std.proofs.lemmas.List.{map_more}
use Rattle.design_cell.specs.declared.value.Value.{Value}
use Rattle.design_cell.specs.Value.{bit_value}
use Rattle.design_circuit.specs.declared.design.Design.{Design}
use Rattle.elab_names.specs.Sets.{has}
use Rattle.report_fix.specs.Registers.{register_named}
use Rattle.report_fix.specs.Started.{AreFine, IsFirstFault, Piece, fault_at, fault_by, names_of, piece_at, started_below, with_start}
use Rattle.report_fix.specs.Fault.{fault_in}
use Rattle.report_fix.specs.declared.refusal.FixErr.{FixErr}
use Rattle.report_fix.specs.declared.refusal.FixErr.TheVariants.{Refused}
use Rattle.report_fix.specs.declared.refusal.StartFault.{StartFault}

-- What is in hand at a piece: the names of the pieces before it, and whether its own is another.
pub record IsInHand (design : Design) (pieces : List Piece) (n : ℕ) (seen : List (List ℕ)) (new : Bool)
    (net : Option ℕ) : Type 0 where
  pub within : n < length pieces
  pub names : seen ≡ names_of (take n pieces)
  pub fresh : new ≡ not (has seen (piece_at pieces n).0)
  pub found : net ≡ register_named design.nets (piece_at pieces n).0

-- What stands at a piece's number is the piece.
pub piece_is : (pieces : List Piece) (n : ℕ) (piece : Piece) → n < length pieces → get_or pieces n piece ≡ piece_at pieces n
piece_is [] n piece less = absurd (omega arith)
piece_is (p ∷ pieces) zero piece less = refl
piece_is (p ∷ pieces) (suc n) piece less = piece_is pieces n piece (omega (arith, less))

not_not : (b c : Bool) → b ≡ not c → not b ≡ c
not_not b true is = ap not is
not_not b false is = ap not is

-- A fault is that of the piece.
fault_is : (design : Design) (starts : List Value) (pieces : List Piece) (n : ℕ) (names : List (List ℕ)) (fresh : Bool)
    (found : Option ℕ) → IsInHand design pieces n names fresh found
    → fault_by found (not fresh) starts (n + 1) ≡ fault_at design starts pieces n
fault_is design starts pieces n names fresh found is =
    let name = (piece_at pieces n).0 in
    let twice : not fresh ≡ has (names_of (take n pieces)) name =
    not_not fresh (has names name) is.fresh ∙ ap (λ (l : List (List ℕ)). has l name) is.names in
    ap (λ (b : Bool). fault_by found b starts (n + 1)) twice
    ∙ ap (λ (o : Option ℕ). fault_by o (has (names_of (take n pieces)) name) starts (n + 1)) is.found

pub first_fault : (design : Design) (starts : List Value) (pieces : List Piece) (n : ℕ) (names : List (List ℕ))
    (fresh : Bool) (found : Option ℕ) (fault : StartFault) → IsInHand design pieces n names fresh found
    → AreFine design starts pieces n → fault_by found (not fresh) starts (n + 1) ≡ Some fault
    → IsFirstFault design starts pieces fault
first_fault design starts pieces n names fresh found fault is fine at_fault = record {
  at = n;
  within = is.within;
  is = sym (fault_is design starts pieces n names fresh found is) ∙ at_fault;
  before = fine;
}

fine_more : (design : Design) (starts : List Value) (pieces : List Piece) (n : ℕ) → AreFine design starts pieces n
    → fault_at design starts pieces n ≡ None → AreFine design starts pieces (n + 1)
fine_more design starts pieces n before fine k less = ⊎_elim
    (λ (same : n ≡ k). subst (λ i. fault_at design starts pieces i ≡ None) same fine)
    (λ (other : n ≡ k → ⊥). before k (omega (arith, less, other))) (cases_eq n k)

started_more : (design : Design) (starts : List Value) (pieces : List Piece) (n net : ℕ) (now : List Value)
    → now ≡ started_below design starts pieces n → register_named design.nets (piece_at pieces n).0 ≡ Some net
    → slice_set now net (bit_value (piece_at pieces n).1) ≡ started_below design starts pieces (n + 1)
started_more design starts pieces n net now is named =
    ap (λ (vs : List Value). with_start vs (Some net) (piece_at pieces n).1) is
    ∙ ap (λ o. with_start (started_below design starts pieces n) o (piece_at pieces n).1) (sym named)
    ∙ ap (started_below design starts pieces) (sym (add-one n))

fresh_of : (found : Option ℕ) (net : ℕ) (fresh : Bool) (starts : List Value) (index : ℕ) → found ≡ Some net
    → fault_by found (not fresh) starts index ≡ None → fresh ≡ true
fresh_of None net fresh starts index is fine = absurd cc
fresh_of (Some other) net true starts index is fine = refl
fresh_of (Some other) net false starts index is fine = absurd cc

-- What holds when the piece is set.
pub record IsSetTo (design : Design) (old : List Value) (pieces : List Piece) (n : ℕ) (seen : List (List ℕ))
    (now : List Value) : Type 0 where
  pub names : seen ≡ names_of (take n pieces)
  pub fine : AreFine design old pieces n
  pub starts : now ≡ started_below design old pieces n
  pub long : length now ≡ length old

pub piece_set : (design : Design) (starts : List Value) (pieces : List Piece) (n : ℕ) (names more : List (List ℕ))
    (fresh : Bool) (found : Option ℕ) (net : ℕ) (now : List Value) → IsInHand design pieces n names fresh found
    → IsSetTo design starts pieces n names now → found ≡ Some net → fault_by found (not fresh) starts (n + 1) ≡ None
    → more ≡ (if fresh then names ++ (piece_at pieces n).0 ∷ [] else names)
    → IsSetTo design starts pieces (n + 1) more (slice_set now net (bit_value (piece_at pieces n).1))
piece_set design starts pieces n names more fresh found net now hand before is fine grown =
    let name = (piece_at pieces n).0 in
    let new : fresh ≡ true = fresh_of found net fresh starts (n + 1) is fine in
    let added : more ≡ names ++ name ∷ [] =
    grown ∙ ap (λ (b : Bool). if b then names ++ name ∷ [] else names) new in
    record {
      names = added ∙ ap (λ (l : List (List ℕ)). l ++ name ∷ []) hand.names
          ∙ sym (map_more (λ (piece : Piece). piece.0) pieces n ([], false) hand.within);
      fine = fine_more design starts pieces n before.fine
          (sym (fault_is design starts pieces n names fresh found hand) ∙ fine);
      starts = started_more design starts pieces n net now before.starts (sym hand.found ∙ is);
      long = length-set now net (bit_value (piece_at pieces n).1) ∙ before.long;
    }

-- So is the error that is answered for it.
pub refused_by : {A : Type 0} {design : Design} {starts : List Value} {pieces : List Piece} (result : Result A FixErr)
    (fault : StartFault) → IsErrAnd result (λ e. e ≡ Refused fault) → IsFirstFault design starts pieces fault
    → IfErr result (λ e. IfSome (fault_in e) (IsFirstFault design starts pieces))
refused_by (Ok a) fault is first = tt
refused_by {A} {design} {starts} {pieces} (Err e) fault is first =
    subst (λ (x : FixErr). IfSome (fault_in x) (IsFirstFault design starts pieces)) (sym is) first
