-- The literals of nodes, one node after another.
use Rattle.std.proofs.Common.{◌≡◌, ◌≢◌, ℕ, suc, ◌+◌, ◌<◌, ◌≤◌, ◌^◌, Bool, true, false, cond, List, [], ◌∷◌, ◌++◌, filter, length, take, not, refl, sym, ap, ◌∙◌, arith, subst, ⊎_elim, length-append}
use Rattle.std.specs.Prelude.{ℤ, pos}
use Rattle.std.proofs.Math.ListN.{get_or-append}
use Rattle.std.proofs.Math.Seq.{get_or-append_seam, take-length}
use Rattle.std.proofs.lemmas.Bool.{cases_eq}
use Rattle.std.proofs.lemmas.List.{get_or-take, length-take-le, take-append-le, take_more}
use Rattle.decide_nodes.specs.declared.node.Node.{Node}
use Rattle.decide_nodes.specs.declared.node.NodeBody.{NodeBody as Body}
use Rattle.decide_nodes.specs.declared.node.NodeBody.TheVariants.{Carried, Rule}
use Rattle.decide_nodes.specs.Nodes.{AreNodes, StandsAt, no_node, node_at}
use Rattle.decide_cnf.specs.Literals.{AreLiterals, IsLiteral, is_ruled_body, is_ruled_node, literal_at, literal_by, says, variables_of, variables_with}

pub ruled_few : (nodes : List Node) → variables_of nodes ≤ length nodes
ruled_few [] = omega arith
ruled_few (n ∷ ns) = step (is_ruled_node n) (ruled_few ns)
  where
    step : (b : Bool) → variables_of ns ≤ length ns → length (cond b (n ∷ filter is_ruled_node ns)
        (filter is_ruled_node ns)) ≤ suc (length ns)
    step true ih = omega (arith, ih)
    step false ih = omega (arith, ih)

-- There are fewer variables before a node than there may be nodes.
pub few_before : (nodes : List Node) (i variables : ℕ) → AreNodes nodes → i < length nodes
    → variables ≡ variables_of (take i nodes) → variables < 2 ^ 27
few_before nodes i variables are less same =
    let few = ruled_few (take i nodes) in
    let short = length-take-le i nodes (omega (arith, less)) in
    let all = are.few in
    omega (arith, same, few, short, all, less)

body_more : (before : ℕ) (body : Body) → before + cond (is_ruled_body body) 1 0 ≡ variables_with before body
body_more before (Carried node inverted) = omega arith
body_more before (Rule arguments values) = refl

variables_push : (front : List Node) (node : Node)
    → variables_of (front ++ node ∷ []) ≡ variables_with (variables_of front) node.body
variables_push front node = pushed front ∙ body_more (variables_of front) node.body
  where
    last : (b : Bool) → length (cond b (node ∷ []) []) ≡ cond b 1 0
    last true = refl
    last false = refl

    pushed : (xs : List Node) → variables_of (xs ++ node ∷ []) ≡ variables_of xs + cond (is_ruled_node node) 1 0
    pushed [] = last (is_ruled_node node) ∙ omega arith
    pushed (x ∷ xs) = step (is_ruled_node x) (pushed xs)
      where
        step : (b : Bool) → variables_of (xs ++ node ∷ []) ≡ variables_of xs + cond (is_ruled_node node) 1 0
            → length (cond b (x ∷ filter is_ruled_node (xs ++ node ∷ [])) (filter is_ruled_node (xs ++ node ∷ [])))
            ≡ length (cond b (x ∷ filter is_ruled_node xs) (filter is_ruled_node xs)) + cond (is_ruled_node node) 1 0
        step true ih = omega (arith, ih)
        step false ih = ih

with_more : (before : ℕ) (body : Body) → before ≤ variables_with before body
with_more before (Carried node inverted) = omega arith
with_more before (Rule arguments values) = omega arith

-- A literal behind them changes none before it.
by_push : (literals : List ℤ) (l : ℤ) (position before : ℕ) (body : Body) → StandsAt position body
    → position ≤ length literals → literal_by (literals ++ l ∷ []) before body ≡ literal_by literals before body
by_push literals l position before (Carried node inverted) stands within =
    ap (λ m. says m (not inverted)) (get_or-append literals (l ∷ []) (pos 0) node (omega (arith, stands, within)))
by_push literals l position before (Rule arguments values) stands within = refl

pub record IsNext (front : List Node) (node : Node) (literals : List ℤ) (l : ℤ) : Type 0 where
  pub are : AreLiterals front literals
  pub stand : (p : ℕ) → p < length front + 1 → StandsAt p (node_at (front ++ node ∷ []) p).body
  pub literal_is : l ≡ literal_by literals (variables_of front) node.body
  pub fits : IsLiteral (variables_with (variables_of front) node.body) l

module _ (front : List Node) (node : Node) (literals : List ℤ) (l : ℤ) (is : IsNext front node literals l) where
  size : length (front ++ node ∷ []) ≡ length front + 1
  size = length-append front (node ∷ [])

  at_front : (p : ℕ) → p < length front → literal_at (literals ++ l ∷ []) p ≡ literal_at literals p
  at_front p low = get_or-append literals (l ∷ []) (pos 0) p (let long = is.are.long in omega (arith, low, long))

  at_last : literal_at (literals ++ l ∷ []) (length front) ≡ l
  at_last = ap (literal_at (literals ++ l ∷ [])) (sym is.are.long) ∙ get_or-append_seam literals l [] (pos 0)

  each : (p : ℕ) → p < length (front ++ node ∷ []) → literal_at (literals ++ l ∷ []) p
      ≡ literal_by (literals ++ l ∷ []) (variables_of (take p (front ++ node ∷ []))) (node_at
      (front ++ node ∷ []) p).body
  each p less = ⊎_elim (λ (last : p ≡ length front). subst (λ i. literal_at (literals ++ l ∷ []) i
      ≡ literal_by (literals ++ l ∷ []) (variables_of (take i (front ++ node ∷ []))) (node_at
      (front ++ node ∷ []) i).body)
      (sym last) own) (λ (other : p ≢ length front). (let long = size in early (omega (arith, less, long, other))))
      (cases_eq p (length front))
    where
      own_node : node_at (front ++ node ∷ []) (length front) ≡ node
      own_node = get_or-append_seam front node [] no_node

      own_front : take (length front) (front ++ node ∷ []) ≡ front
      own_front = take-append-le (length front) front (node ∷ []) (omega arith) ∙ take-length front

      own : literal_at (literals ++ l ∷ []) (length front)
          ≡ literal_by (literals ++ l ∷ []) (variables_of (take (length front) (front ++ node ∷ [])))
          (node_at (front ++ node ∷ []) (length front)).body
      own = at_last ∙ is.literal_is
          ∙ sym (by_push literals l (length front) (variables_of front) node.body
          (subst (λ n. StandsAt (length front) n.body) own_node (is.stand (length front) (omega arith)))
          (let long = is.are.long in omega (arith, long)))
          ∙ ap (λ xs. literal_by (literals ++ l ∷ []) (variables_of xs) node.body) (sym own_front)
          ∙ ap (λ n. literal_by (literals ++ l ∷ []) (variables_of (take (length front) (front ++ node ∷ []))) n.body)
          (sym own_node)

      early : p < length front → literal_at (literals ++ l ∷ []) p
          ≡ literal_by (literals ++ l ∷ []) (variables_of (take p (front ++ node ∷ []))) (node_at
          (front ++ node ∷ []) p).body
      early low =
          let same : node_at (front ++ node ∷ []) p ≡ node_at front p = get_or-append front (node ∷ []) no_node p low in
          at_front p low ∙ is.are.each p low
          ∙ sym (by_push literals l p (variables_of (take p front)) (node_at front p).body
          (subst (λ n. StandsAt p n.body) same (is.stand p (omega (arith, low))))
          (let long = is.are.long in omega (arith, long, low)))
          ∙ ap (λ xs. literal_by (literals ++ l ∷ []) (variables_of xs) (node_at front p).body)
          (sym (take-append-le p front (node ∷ []) (omega (arith, low))))
          ∙ ap (λ n. literal_by (literals ++ l ∷ []) (variables_of (take p (front ++ node ∷ []))) n.body) (sym same)

  fit : (p : ℕ) → p < length (front ++ node ∷ [])
      → IsLiteral (variables_of (front ++ node ∷ [])) (literal_at (literals ++ l ∷ []) p)
  fit p less = ⊎_elim (λ (last : p ≡ length front). subst (λ i. IsLiteral (variables_of (front ++ node ∷ []))
      (literal_at (literals ++ l ∷ []) i)) (sym last)
      (subst (IsLiteral (variables_of (front ++ node ∷ []))) (sym at_last)
      (subst (λ v. IsLiteral v l) (sym (variables_push front node)) is.fits)))
      (λ (other : p ≢ length front). (let long = size in early (omega (arith, less, long, other))))
      (cases_eq p (length front))
    where
      early : p < length front → IsLiteral (variables_of (front ++ node ∷ [])) (literal_at (literals ++ l ∷ []) p)
      early low =
          let before = is.are.fit p low in
          subst (IsLiteral (variables_of (front ++ node ∷ []))) (sym (at_front p low)) (record {
            some = before.some;
            few = (let few = before.few in let more = with_more (variables_of front) node.body in
                let same = variables_push front node in omega (arith, few, more, same));
          })

  pub literals_more : AreLiterals (front ++ node ∷ []) (literals ++ l ∷ [])
  literals_more = record {
    long = length-append literals (l ∷ []) ∙ (let long = is.are.long in let all = size in omega (arith, long, all));
    each = each;
    fit = fit;
  }

-- The same at a step over nodes.
pub nodes_more : (nodes : List Node) (i : ℕ) (literals : List ℤ) (l : ℤ) (variables next : ℕ) → AreNodes nodes
    → i < length nodes → AreLiterals (take i nodes) literals → variables ≡ variables_of (take i nodes)
    → l ≡ literal_by literals variables (node_at nodes i).body
    → IsLiteral (variables_with variables (node_at nodes i).body) l
    → next ≡ variables_with variables (node_at nodes i).body
    → AreLiterals (take (i + 1) nodes) (literals ++ l ∷ []) × (next ≡ variables_of (take (i + 1) nodes))
nodes_more nodes i literals l variables next all less are before literal_is fits next_is = (
  subst (λ front. AreLiterals front (literals ++ l ∷ [])) (sym seam)
      (literals_more (take i nodes) (node_at nodes i) literals l (record {
        are = are;
        stand = stand;
        literal_is = literal_is ∙ ap (λ v. literal_by literals v (node_at nodes i).body) before;
        fits = subst (λ v. IsLiteral (variables_with v (node_at nodes i).body) l) before fits;
      })),
  next_is ∙ ap (λ v. variables_with v (node_at nodes i).body) before
      ∙ sym (variables_push (take i nodes) (node_at nodes i)) ∙ ap variables_of (sym seam),
)
  where
    seam : take (i + 1) nodes ≡ take i nodes ++ node_at nodes i ∷ []
    seam = take_more nodes i no_node less

    stand : (p : ℕ) → p < length (take i nodes) + 1 → StandsAt p (node_at (take i nodes ++ node_at nodes i ∷ []) p).body
    stand p low =
        let short = length-take-le i nodes (omega (arith, less)) in
        subst (λ n. StandsAt p n.body) (sym (get_or-take (i + 1) nodes p no_node (omega (arith, low, short)))
        ∙ ap (λ xs. node_at xs p) seam) (all.each p (omega (arith, low, short, less)))

-- The variables before the next node.
pub variables_more : (nodes : List Node) (i variables next : ℕ) → i < length nodes
    → variables ≡ variables_of (take i nodes) → next ≡ variables_with variables (node_at nodes i).body
    → next ≡ variables_of (take (i + 1) nodes)
variables_more nodes i variables next less before next_is =
    next_is ∙ ap (λ v. variables_with v (node_at nodes i).body) before
    ∙ sym (variables_push (take i nodes) (node_at nodes i)) ∙ ap variables_of (sym (take_more nodes i no_node less))
