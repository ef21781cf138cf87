-- A place is left, and no line, or all is done.
use Rattle.std.proofs.Common.{[], subst, sym}
use Rattle.cert_check.specs.Walk.{IsCertFault, due_line, no_line}
use Rattle.cert_check.specs.Standing.{IsDone}
use Rattle.cert_check.proofs.Going.{finish_less, finished_all}
use Rattle.cert_check.proofs.Standing.{done_between, short_between}
use Rattle.cert_check.proofs.walk.end.Goals as goal

pub returns-then-count-count_places-clause-err : goal.returns-then-count-count_places-clause-err
returns-then-count-count_places-clause-err c form start done stands =
    short_between form start done c.args.wave c.args.conditions.items c.missing.result
    (subst (IsCertFault c.args.wave (due_line done) []) (sym c.missing.ensures)
    (no_line (finish_less c.args.wave c.count.result c.count_places.result _ c.count.ensures.count
    c.count_places.ensures
    c.circuit.ensures.job c.requires c.if-count-count_places.true))) stands

pub returns-clause-ok : goal.returns-clause-ok
returns-clause-ok c form start done stands =
    subst (IsDone form start done c.args.wave) (sym c.from_vec.ensures)
    (done_between form start done c.args.wave c.args.conditions.items
    (finished_all c.args.wave c.count.result c.count_places.result _ stands.wave c.count.ensures.count
    c.count_places.ensures
    c.circuit.ensures.job c.if-count-count_places.false) stands)
