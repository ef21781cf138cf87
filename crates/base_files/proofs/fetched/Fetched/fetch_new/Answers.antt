-- The texts stay what was given: the name that was read had none.
use Rattle.std.proofs.Common.{sym, subst, List}
use Rattle.base_shelf.specs.NamedFiles.{File, files_of}
use Rattle.base_files.specs.Fetched.{AreGiven, IsGiven}
use Rattle.base_files.proofs.Fetching.{among_set, contains_itself, given_others, given_set}
use Rattle.base_files.proofs.fetched.Fetched.fetch_new.Goals as goal

pub returns-in_err-text-clause-fetched : goal.returns-in_err-text-clause-fetched
returns-in_err-text-clause-fetched g c = given_others _ _ _ _ _ _ _ c.requires.given c.requires.absent c.read_file.ensures.others c.read_file.ensures.others_ended

pub returns-in-None-clause-fetched : goal.returns-in-None-clause-fetched
returns-in-None-clause-fetched g c = given_others _ _ _ _ _ _ _ c.requires.given c.requires.absent c.read_file.ensures.others c.read_file.ensures.others_ended

pub returns-in_err-set-in-Some-clause-fetched : goal.returns-in_err-set-in-Some-clause-fetched
returns-in_err-set-in-Some-clause-fetched g c =
    subst (λ (texts : List File). AreGiven c.args.self.now.limit c.read_file.new.gave.entries c.read_file.new.ended.entries (files_of texts)) (sym c.in_err-set-in-Some.ensures.err)
    (given_others _ _ _ _ _ _ _ c.requires.given c.requires.absent c.read_file.ensures.others c.read_file.ensures.others_ended)

pub returns-in_ok-set-in-Some-clause-fetched : goal.returns-in_ok-set-in-Some-clause-fetched
returns-in_ok-set-in-Some-clause-fetched g c =
    let given : IsGiven c.args.self.now.limit c.read_file.new.gave.entries c.read_file.new.ended.entries c.args.name.now c.in-Some.text.items = rw c.in-Some.is at c.in_ok-text.ensures.given in
    given_set _ _ _ _ _ _ _ _ _ c.requires.given c.read_file.ensures.others c.read_file.ensures.others_ended given c.in_ok-set-in-Some.ensures.ok

pub returns-in_ok-set-in-Some-clause-among : goal.returns-in_ok-set-in-Some-clause-among
returns-in_ok-set-in-Some-clause-among g c = λ all within among. among_set all _ _ _ _ (within c.args.name.now (contains_itself c.args.name.now)) c.in_ok-set-in-Some.ensures.ok among
