-- One file more is joined; what is left when all are read.
use Rattle.std.proofs.Common.{rules, ◌≡◌, ◌<◌, ℕ, List, Err, length, map, take, get_or, refl, sym, ◌∙◌, subst, arith, min}
use Rattle.std.specs.Prelude.{Contains, IsSome, IsTrue, string_bytes}
use Rattle.std.proofs.lemmas.List.{length-map, length-take, get_or-map}
use Rattle.std.proofs.lemmas.List.Elements.{Contains-get_or}
use Rattle.base_shelf.specs.Shelf.{Files, held}
use Rattle.base_run.specs.Inputs.{IsTextWithin}
use Rattle.base_run.specs.Phases.{joined}
use Rattle.base_run.proofs.Joins.{joined_more, closed_next, held_same, held_more, as_many, there_next}
use Rattle.base_run.proofs.Steps.{later_twice, same_twice, unread_after}
use Rattle.base_run.proofs.input.read_inputs.Goals as goal

pub files-preserved : goal.files-preserved
files-preserved g c =
    let inv = c.files.invariant in
    let step = c.read_file.ensures in
    let old = g.S.Shelf.view c.args.shelf.now in
    let mid = g.S.Shelf.view c.files.shelf in
    let new = g.S.Shelf.view c.read_file.new.shelf in
    let names = c.args.names.now in
    let i = c.files.position in
    let item = c.index-names-position.result in
    let within : i < length names = search rules in
    let before : List (List ℕ) = map (held old) (map string_bytes (take i names)) in
    let long : length (take i names) ≡ min i (length names) = length-take i names in
    let many : length before ≡ i = as_many old string_bytes (take i names) ∙ long ∙ omega (arith, within) in
    let name : c.deref.result.now ≡ string_bytes (get_or names i item) = search rules in (
      later_twice old mid new inv.0 step.later,
      step.files ∙ inv.1,
      λ told. (
          let part : IsTextWithin c.args.limit c.in_ok-part.part (held old (string_bytes (get_or names i item))) = rw (← name, ← held_same old mid c.deref.result.now inv.1) (search rules) in
          let kept = c.in_ok-text.ensures.joined before (joined before) (held old (string_bytes (get_or names i item))) many (λ z. rw z refl) (inv.2 told) part in
          rw (held_more old string_bytes names i item within, joined_more before (held old (string_bytes (get_or names i item)))) kept),
      c.in_ok-text.ensures.fits,
      same_twice old mid new inv.4 c.in_ok-part.ensures.kept,
      closed_next c.in_ok-text.text c.in_ok-part.part new.hand _ c.in_ok-text.ensures.both c.in_ok-part.ensures.closed,
      there_next g.S.Shelf.told old.files string_bytes names i item c.files.text c.in_ok-text.text c.in_ok-part.part within c.in_ok-text.ensures.first c.in_ok-text.ensures.both inv.6
          (subst (λ (n : List ℕ). IsSome c.in_ok-part.part → IsTrue g.S.Shelf.told → IsSome (old.files n)) name (subst (λ (f : Files). IsSome c.in_ok-part.part → IsTrue g.S.Shelf.told → IsSome (f c.deref.result.now)) inv.1 c.in_ok-part.ensures.there)),
      step.written ∙ inv.7,
    )

pub returns-in_err-part : goal.returns-in_err-part
returns-in_err-part g c =
    let inv = c.files.invariant in
    let step = c.read_file.ensures in
    let old = g.S.Shelf.view c.args.shelf.now in
    let mid = g.S.Shelf.view c.files.shelf in
    let new = g.S.Shelf.view c.read_file.new.shelf in
    let names = c.args.names.now in
    let i = c.files.position in
    let item = c.index-names-position.result in
    let within : i < length names = search rules in
    let name : c.deref.result.now ≡ string_bytes (get_or names i item) = search rules in
    let long : length (map string_bytes names) ≡ length names = length-map names string_bytes in
    let here : get_or (map string_bytes names) i (string_bytes item) ≡ string_bytes (get_or names i item) = get_or-map string_bytes names i item (string_bytes item) within in
    let named : Contains (map string_bytes names) c.deref.result.now =
    subst (λ (n : List ℕ). Contains (map string_bytes names) n) (here ∙ sym name) (Contains-get_or (map string_bytes names) i (string_bytes item) (omega (arith, long, within))) in
    let e = c.in_err-part.field-0.0 in
    let is : c.from_residual.result ≡ Err e = search rules in
    rw is record {
      later = later_twice old mid new inv.0 step.later;
      files = step.files ∙ inv.1;
      written = step.written ∙ inv.7;
      text = tt;
      kept = tt;
      closed = tt;
      refused = unread_after g.S.Shelf.told (map string_bytes names) c.deref.result.now c.args.limit c.args.long old mid new e inv.0 inv.4 named c.in_err-part.ensures.refused;
    }
