-- The held bytes grow, or stay where there was no memory.
use Rattle.std.proofs.Common.{◌∙◌, ◌++◌, ap, rules, List, ℕ, Option, None, map}
use Rattle.base_shelf.specs.Shelf.{bytes_of}
use Rattle.base_shelf.specs.NamedFiles.{File, files_of, file_of, SameFiles}
use Rattle.base_shelf.proofs.Lookups.{Stored, finds, keeps, grows, sets_as, on_any_err}
use Rattle.base_shelf.proofs.named_files.NamedFiles.append.Goals as goal

pub returns-in_err-extend_from_slice-in-Some-clause-err :
    goal.returns-in_err-extend_from_slice-in-Some-clause-err
returns-in_err-extend_from_slice-in-Some-clause-err c =
    let after = c.extend_from_slice.new.self in
    on_any_err _ _ (keeps _ c.self.inside.files (c.get_mut.follows.lender after) c.args.name.now c.in-Some.held.now after c.self.view_is c.in-Some.ensures.value ((c.get_mut.follows.holds after).3 (search rules)) c.in_err-extend_from_slice-in-Some.ensures.items)

pub returns-in_err-first-in-None-clause-err : goal.returns-in_err-first-in-None-clause-err
returns-in_err-first-in-None-clause-err c =
    let kept = ap (λ (m : Stored). map file_of m.entries) c.get_mut.follows.holds-at-none ∙ c.self.view_is in
    let same : SameFiles (files_of c.args.self.now) (files_of (map file_of c.get_mut.follows.lender-at-none.entries)) = λ name. ap (λ (l : List File). files_of l name) kept in
    on_any_err _ _ same

pub returns-in_ok-extend_from_slice-in-Some-clause-ok :
    goal.returns-in_ok-extend_from_slice-in-Some-clause-ok
returns-in_ok-extend_from_slice-in-Some-clause-ok c =
    let after = c.extend_from_slice.new.self in
    grows _ c.self.inside.files (c.get_mut.follows.lender after) c.args.name.now c.args.bytes.now c.in-Some.held.now after c.self.view_is c.in-Some.ensures.value ((c.get_mut.follows.holds after).3 (search rules)) c.in_ok-extend_from_slice-in-Some.ensures.items

pub returns-in_ok-first-in-None-clause-ok : goal.returns-in_ok-first-in-None-clause-ok
returns-in_ok-first-in-None-clause-ok c =
    let none = finds _ c.self.inside.files c.args.name.now None c.self.view_is c.in-None.ensures.value in
    let wanted = c.in_ok-first-in-None.ensures.items ∙ ap (λ (o : Option (List ℕ)). bytes_of o ++ c.args.bytes.now) none in
    let kept = ap (λ (m : Stored). map file_of m.entries) c.get_mut.follows.holds-at-none ∙ c.self.view_is in
    sets_as c.set.result _ _ _ _ _ _ wanted (ap files_of kept) c.set.ensures.ok
