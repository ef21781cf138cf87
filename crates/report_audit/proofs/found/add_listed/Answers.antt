-- A listed place is told.
use Rattle.std.proofs.Common.{◌≡◌, ◌∙◌, true, List, [], ◌∷◌, refl, sym, ap, subst}
use Rattle.report_audit.specs.Found.{Adds}
use Rattle.report_audit.specs.Listed.{is_listed}
use Rattle.report_audit.specs.declared.found.Found.{Found}
use Rattle.design_circuit.specs.Waveform.{certain_by}
use Rattle.report_audit.proofs.AddedPlaces.{listed_added, one_added}
use Rattle.report_audit.proofs.Audited.{is_written}
use Rattle.report_audit.proofs.found.add_listed.Goals as goal

pub mark-requires : goal.mark-requires
mark-requires c = is_written c.args.wave.now c.args.replayed.now c.recall.ensures c.requires.audit c.args.place c.requires.step c.requires.net

pub value-requires : goal.value-requires
value-requires c = is_written c.args.wave.now c.args.replayed.now c.recall.ensures c.requires.audit c.args.place c.requires.step c.requires.net

pub pair_of-requires : goal.pair_of-requires
pair_of-requires c = is_written c.args.wave.now c.args.replayed.now c.recall.ensures c.requires.audit c.args.place c.requires.step c.requires.net

pub returns : goal.returns
returns c =
    let wave = c.args.wave.now in
    let replay = c.args.replayed.now in
    let old = c.args.listed.now.items in
    let listed : is_listed wave replay c.args.place ≡ true = sym c.is_listed.ensures ∙ c.if-not-is_listed.false in
    listed_added wave replay (is_listed wave replay c.args.place) c.args.place old c.push.new.self.items listed
    (subst (λ (l : List Found). Adds wave replay old (c.args.place ∷ []) l) (sym c.in_ok-push.ensures.items)
    (one_added wave replay old c.args.place _ (record {
      place_is = refl;
      replayed_is = c.shown.ensures;
      found_is = c.certain_value.ensures ∙ ap (λ m. certain_by m c.value.result) c.mark.ensures ∙ ap (certain_by _) c.value.ensures;
      has_pair = c.in_ok-pair_of.ensures.unknown;
      pair = c.in_ok-pair_of.ensures.both;
      origin = c.is_origin-origin.ensures;
      row = c.row_if.ensures;
    })))
