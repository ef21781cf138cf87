-- A text whose tokens end with a fault has it before its end.
use Rattle.std.proofs.Common.{◌≡◌, ℕ, ◌+◌, ◌<◌, Option, None, Some, List, length, refl, subst, arith}
use Rattle.netlist_tokens.specs.Left.{Left, place_of}
use Rattle.netlist_tokens.specs.Tokens.{RefusesToken, Tokens}
use Rattle.netlist_tokens.specs.declared.token.LexErr.{LexErr}
use Rattle.netlist_tokens.proofs.Sizes.{reads_goes, skips_goes}
use Rattle.replay_code.specs.Says.{stop_of}

refused_within : {at : ℕ} {bs : List ℕ} {fault : LexErr} → RefusesToken at bs fault → place_of fault < at + length bs
refused_within (RefusesToken.bad_byte a b) = omega arith
refused_within (RefusesToken.open_comment a) = omega arith
refused_within (RefusesToken.open_text a) = omega arith
refused_within (RefusesToken.no_wire a b) = omega arith
refused_within (RefusesToken.unknown a b) = omega arith

fault_within : {at : ℕ} {bs : List ℕ} {left : Left} (fault : LexErr) → Tokens at bs left → left.fault ≡ Some fault → place_of fault < at + length bs
fault_within fault Tokens.ends is = absurd cc
fault_within fault (Tokens.skips skips tokens) is =
    let goes = (skips_goes skips).fits in
    let low = fault_within fault tokens is in
    omega (arith, goes, low)
fault_within fault (Tokens.reads reads tokens) is =
    let goes = (reads_goes reads).1.fits in
    let low = fault_within fault tokens is in
    omega (arith, goes, low)
fault_within fault (Tokens.refuses {at = at} {bs = bs} {e = e} refuses) is = (let same : e ≡ fault = cc in subst (λ (f : LexErr). place_of f < at + length bs) same (refused_within refuses))

-- Where the tokens end is the end of the text, there is no fault.
pub no_fault : (text : List ℕ) (left : Left) → Tokens 0 text left → stop_of text left.fault ≡ length text → left.fault ≡ None
no_fault text left tokens is = by left.fault refl is
  where
    by : (fault : Option LexErr) → left.fault ≡ fault → stop_of text fault ≡ length text → left.fault ≡ None
    by None none ends = none
    by (Some fault) some ends = (let low = fault_within fault tokens some in absurd (omega (arith, ends, low)))
