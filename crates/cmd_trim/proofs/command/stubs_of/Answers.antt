-- What the stubs come to is answered, or why there are none.
use Rattle.std.proofs.Common.{◌≡◌, ◌∙◌, ℕ, List, Ok, Err, ap, refl}
use Rattle.std.specs.Borrow.{Bor}
use Rattle.netlist_stub.specs.Known.{texts_of}
use Rattle.cmd_trim.proofs.Stubbing.{come_from}
use Rattle.cmd_trim.proofs.command.stubs_of.Goals as goal

pub returns-in-Ok : goal.returns-in-Ok
returns-in-Ok c =
    let names = ap (λ (l : List (Bor (List ℕ))). texts_of l) c.as_slice.ensures.value ∙ c.in_ok-names.ensures in
    let supplies = ap (λ (l : List (Bor (List ℕ))). texts_of l) c.as_slice-2.ensures.value ∙ c.in_ok-supplies.ensures in
    record {
      found = come_from c.args.words.now.stubs c.args.words.now.supplies (texts_of c.as_slice.result.now) (texts_of c.as_slice-2.result.now)
          c.args.text.now (Ok c.in-Ok.out.items) c.requires names supplies c.in-Ok.ensures.stubbed;
      refused = tt;
    }

pub returns-in-Err-Refused : goal.returns-in-Err-Refused
returns-in-Err-Refused c =
    let names = ap (λ (l : List (Bor (List ℕ))). texts_of l) c.as_slice.ensures.value ∙ c.in_ok-names.ensures in
    let supplies = ap (λ (l : List (Bor (List ℕ))). texts_of l) c.as_slice-2.ensures.value ∙ c.in_ok-supplies.ensures in
    let fault = c.in-Err-Refused.fault in
    let refused = rw c.in-Err-Refused.field-0-is at c.in-Err-Refused.ensures.refused in
    record {
      found = tt;
      refused = (
        fault,
        come_from c.args.words.now.stubs c.args.words.now.supplies (texts_of c.as_slice.result.now) (texts_of c.as_slice-2.result.now)
            c.args.text.now (Err fault) c.requires names supplies refused,
        refl,
      );
    }
