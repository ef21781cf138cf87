-- The FILEs of words, which stand last.
use Rattle.std.proofs.Common.{◌≡◌, ◌∙◌, ℕ, ◌+◌, ◌-◌, ◌≤◌, List, ◌++◌, drop, length, map, sym, ap, arith}
use Rattle.std.proofs.lemmas.List.{drop-map, length-append, length-map}
use Rattle.std.proofs.Math.Seq.{drop-append_seam}
use Rattle.base_line.specs.Line.{Text}

module _ {X : Type 0} (text_of : X → Text) (words : List X) (before files : List Text) (is : map text_of words ≡ before ++ files) where
  many : length words ≡ length before + length files
  many = sym (length-map words text_of) ∙ ap (λ (l : List Text). length l) is ∙ length-append before files

  pub fewer : length files ≤ length words
  fewer = let n = many in omega (arith, n)

  pub last_files : (count : ℕ) → count ≡ length files → map text_of (drop (length words - count) words) ≡ files
  last_files count same =
      let n = many in
      let place : length words - count ≡ length before = omega (arith, n, same) in
      rw (place, ← drop-map text_of (length before) words, is) (drop-append_seam before files)
