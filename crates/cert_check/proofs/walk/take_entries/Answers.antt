-- The lines, one by one.
use Rattle.std.proofs.Common.{◌+◌, [], ◌∷◌, ap, arith, length, length-append, subst, sym}
use Rattle.std.proofs.lemmas.Result.{IfErr-weaker, IfOk-weaker}
use Rattle.cert_check.specs.Standing.{Finishes, IsDone, Lacks}
use Rattle.cert_check.specs.Walk.{IsFirstCertFault}
use Rattle.cert_check.proofs.AllLines.{line_left, none_left}
use Rattle.cert_check.proofs.walk.take_entries.Goals as goal

pub entries-preserved : goal.entries-preserved
entries-preserved c =
    let long = length-append c.entries.yielded (c.in-Some.entry ∷ []) in
    let number = c.entries.invariant.number in
    record {
      stands = λ start begun. c.in-Ok.ensures.ok start c.entries.yielded (c.entries.invariant.stands start begun);
      waits = c.in-Ok.ensures.waits;
      number = omega (arith, long, number);
    }

pub returns-in-Err-clause-stops : goal.returns-in-Err-clause-stops
returns-in-Err-clause-stops c start begun =
    subst (λ es. IsFirstCertFault c.args.form start es c.in-Err.refusal)
    (sym (line_left c.args.entries.items c.into_iter-entry-iterator.result c.entries.entry-iterator c.next.new.self
    c.entries.yielded
    c.in-Some.entry c.into_iter-entry-iterator.ensures.into_iter_gives.0 c.entries.yielded_by c.in-Some.ensures.steps))
    (c.in-Err.ensures.err start c.entries.yielded _ (c.entries.invariant.stands start begun) c.entries.invariant.number)

pub returns-clause-done : goal.returns-clause-done
returns-clause-done c =
    IfOk-weaker c.finish.result (λ checked. Finishes c.entries.walked checked.wave checked.conditions) _
    (λ checked finishes start begun.
    subst (λ es. IsDone c.args.form start es checked.wave checked.conditions)
    (sym (none_left c.args.entries.items c.into_iter-entry-iterator.result c.entries.entry-iterator c.next.new.self
    c.entries.yielded
    c.into_iter-entry-iterator.ensures.into_iter_gives.0 c.entries.yielded_by c.in-None.ensures.steps))
    (finishes c.args.form start c.entries.yielded (c.entries.invariant.stands start begun)))
    c.finish.ensures.ok

pub returns-clause-stops : goal.returns-clause-stops
returns-clause-stops c =
    let all = none_left c.args.entries.items c.into_iter-entry-iterator.result c.entries.entry-iterator c.next.new.self
    c.entries.yielded
    c.into_iter-entry-iterator.ensures.into_iter_gives.0 c.entries.yielded_by c.in-None.ensures.steps in
    let long = ap length all in
    let same = ap length c.as_slice.ensures.value in
    IfErr-weaker c.finish.result (Lacks (length c.as_slice.result.now + 3) c.entries.walked) _
    (λ e lacks start begun.
    subst (λ es. IsFirstCertFault c.args.form start es e) (sym all)
    (lacks c.args.form start c.entries.yielded (c.entries.invariant.stands start begun) (omega (arith, long, same))))
    c.finish.ensures.err
