-- Bits that are told behind others.
use Rattle.std.proofs.Common.{◌≡◌, ◌*◌, ◌<◌, Bool, true, false, cond, List, [], ◌∷◌, ◌++◌, sym, ap, ◌∙◌, subst, append_assoc, append-nil, All}
use Rattle.std.proofs.lemmas.List.Elements.{All-cons, All-nil}
use Rattle.std.specs.List.{filter}
use Rattle.design_circuit.specs.Filling.{IsPlace}
use Rattle.recording_binding.specs.declared.binding.Bound.{Bound}
use Rattle.recording_binding.specs.declared.bound_bits.BoundBit.{BoundBit}
use Rattle.wave_proved.specs.Contents.{Contents, job}
use Rattle.report_blame.specs.Blamed.{AddsBit, AddsIf, AreBlamed, IsBlamed, is_unknown_bit, unknown_bits}
use Rattle.report_blame.specs.declared.bits.Blamed.{Blamed}

-- Some are told, and the others of all unknown bits are among those that are left.
pub record AreToldBefore (c : Contents) (bound : List Bound) (told : List Blamed) (left : List BoundBit) : Type 0 where
  pub bits : List BoundBit
  pub are : AreBlamed c bits told
  pub whole : bits ++ filter (is_unknown_bit c) left ≡ unknown_bits c bound

one_added : (c : Contents) (bits : List BoundBit) (told : List Blamed) (bit : BoundBit) (blamed : Blamed)
    → AreBlamed c bits told → IsBlamed c bit blamed → AreBlamed c (bits ++ bit ∷ []) (told ++ blamed ∷ [])
one_added c [] [] bit blamed are is = (is, tt)
one_added c [] (b ∷ told) bit blamed are is = absurd are
one_added c (b ∷ bits) [] bit blamed are is = absurd are
one_added c (b ∷ bits) (t ∷ told) bit blamed are is = (are.0, one_added c bits told bit blamed are.1 is)

pub told_more : (c : Contents) (bound : List Bound) (told new : List Blamed) (bit : BoundBit) (left rest : List BoundBit)
    → left ≡ bit ∷ rest → AreToldBefore c bound told left → AddsBit c bit told new → AreToldBefore c bound new rest
told_more c bound told new bit left rest is before adds =
    by (is_unknown_bit c bit) adds (rw is at before.whole)
  where
    by : (b : Bool) → AddsIf b c bit told new
        → before.bits ++ cond b (bit ∷ filter (is_unknown_bit c) rest) (filter (is_unknown_bit c) rest)
        ≡ unknown_bits c bound → AreToldBefore c bound new rest
    by true more whole = record {
      bits = before.bits ++ bit ∷ [];
      are = subst (λ (l : List Blamed). AreBlamed c (before.bits ++ bit ∷ []) l) (sym more.new_is)
          (one_added c before.bits told bit more.blamed before.are more.is);
      whole = append_assoc before.bits (bit ∷ []) (filter (is_unknown_bit c) rest) ∙ whole;
    }
    by false same whole = record {
      bits = before.bits;
      are = subst (λ (l : List Blamed). AreBlamed c before.bits l) (sym same) before.are;
      whole = whole;
    }

pub told_all : (c : Contents) (bound : List Bound) (told : List Blamed) (left : List BoundBit) → left ≡ []
    → AreToldBefore c bound told left → AreBlamed c (unknown_bits c bound) told
told_all c bound told left none before =
    subst (λ (bits : List BoundBit). AreBlamed c bits told)
    (sym (append-nil before.bits) ∙ ap (λ (l : List BoundBit). before.bits ++ filter (is_unknown_bit c) l) (sym none)
    ∙ before.whole) before.are

-- The sources of bits that are told are places.
pub told_sources : (c : Contents) (bits : List BoundBit) (told : List Blamed) → AreBlamed c bits told
    → All (λ (b : Blamed). IsPlace (job c) b.source) told
told_sources c [] [] are = All-nil (λ (b : Blamed). IsPlace (job c) b.source)
told_sources c [] (b ∷ told) are = absurd are
told_sources c (bit ∷ bits) [] are = absurd are
told_sources c (bit ∷ bits) (b ∷ told) are =
    All-cons (λ (x : Blamed). IsPlace (job c) x.source) b told are.0.cause.within (told_sources c bits told are.1)
