-- The clauses and the literals fit the variables.
use Rattle.std.proofs.Common.{rules, length, ◌≡◌, ◌++◌, ◌∷◌, [], List, arith, ap, ◌∙◌, drop, map, refl, subst, sym}
use Rattle.std.specs.Prelude.{ℤ}
use Rattle.std.specs.Vec.{vec_len}
use Rattle.std.proofs.lemmas.Int.{to_z-of_z}
use mir.Syntax.{w32}
use Rattle.sat_proof.specs.Log.{Fit}
use Rattle.cert_condition.proofs.AssembledQueries.{assembled_fit}
use Rattle.cert_condition.proofs.assemble.assemble.Goals as goal

pub invariant_of-query : goal.invariant_of-query
invariant_of-query c =
    let made : c.from_vec.result ≡ (c.args.clauses.items ++ map (λ l. l ∷ []) (drop 1 c.args.units.now))
    ++ (c.args.denial ∷ []) ∷ [] =
    c.from_vec.ensures ∙ c.in_ok-push.ensures.items
    ∙ ap (λ (d : List ℤ). c.add_units.new.clauses.items ++ d ∷ []) c.in_ok-unit_clause.ensures
    ∙ ap (λ z. c.add_units.new.clauses.items ++ (z ∷ []) ∷ []) (to_z-of_z w32 c.args.denial c.ranges.denial)
    ∙ ap (λ cs. cs ++ (c.args.denial ∷ []) ∷ []) (c.in_ok-add_units.ensures
    ∙ ap (λ us. c.args.clauses.items ++ map (λ l. l ∷ []) us) c.without_first.ensures) in
    record {
      few = (let few = c.requires.few in omega (arith, few));
      fit = subst (Fit c.args.vars) (sym made) (assembled_fit c.args.vars c.args.clauses.items c.args.units.now
          c.args.denial c.requires.fit c.requires.units c.requires.denial);
    }

pub returns : goal.returns
returns c =
    let long : vec_len c.args.clauses ≡ length c.args.clauses.items = search rules in
    let made : c.from_vec.result ≡ (c.args.clauses.items ++ map (λ l. l ∷ []) (drop 1 c.args.units.now))
    ++ (c.args.denial ∷ []) ∷ [] =
    c.from_vec.ensures ∙ c.in_ok-push.ensures.items
    ∙ ap (λ (d : List ℤ). c.add_units.new.clauses.items ++ d ∷ []) c.in_ok-unit_clause.ensures
    ∙ ap (λ z. c.add_units.new.clauses.items ++ (z ∷ []) ∷ []) (to_z-of_z w32 c.args.denial c.ranges.denial)
    ∙ ap (λ cs. cs ++ (c.args.denial ∷ []) ∷ []) (c.in_ok-add_units.ensures
    ∙ ap (λ us. c.args.clauses.items ++ map (λ l. l ∷ []) us) c.without_first.ensures) in
    record {
      vars_are = refl;
      cone = c.len-cone.ensures ∙ long;
      made = made;
      away = c.in_ok-away.ensures;
    }
