-- A statement as it is written is read as its event.
use Rattle.std.proofs.Common.{◌≡◌, ℕ, ◌+◌, ◌*◌, ◌<◌, Bool, true, false, Option, None, Some, List, [], ◌∷◌, ◌++◌, codes, length, refl, sym, ap, ◌∙◌, subst, arith, bytes_eq, append_assoc, inl, inr, ◌⊎◌}
use Rattle.design_cell.specs.declared.value.Value.{Value}
use Rattle.design_cell.specs.declared.value.Value.TheVariants.{Zero, One, X, Z}
use Rattle.design_cell.specs.Value.{letter_of}
use Rattle.design_circuit.specs.Design.{FitsDesign, name_in}
use Rattle.design_circuit.specs.declared.force.Event.{Event}
use Rattle.recording_binding.specs.Naming.{Texts, index_of, texts_of}
use Rattle.netlist_tokens.specs.Left.{token}
use Rattle.netlist_tokens.specs.declared.token.Kind.TheVariants.{Number, Mark}
use Rattle.replay_code.specs.Lookup.{net_below}
use Rattle.replay_code.specs.Machine.{Progress, bit_by, net_named, next, on, refused, release_by, step, target_by, with_event}
use Rattle.replay_code.specs.Names.{are_writable, code_name}
use Rattle.replay_code.specs.Statements.{forced_now}
use Rattle.replay_code.specs.Words.{bit_of, is_mark, spelled}
use Rattle.replay_code.specs.Written.{event_line, value_end}
use Rattle.replay_code.specs.declared.state.State.{State}
use Rattle.replay_code.specs.declared.state.State.TheVariants.{Body, Bit, StatementEnd}
use Rattle.replay_code.proofs.Leading.{Leads, token_leads, white}
use Rattle.replay_code.proofs.Lookups.{own_net}
use Rattle.replay_code.proofs.Paths.{IsWhole, indexed, path_leads}
use Rattle.replay_code.proofs.Scoped.{below_own}
use Rattle.replay_code.proofs.Spelling.{mark_token, number_token}
use Rattle.replay_code.proofs.Stepping.{after_mark, begun_by, force_begins, release_begins}

-- A net is named by the scope's names and its own.
own_named : (p : Progress) (at net : ℕ) → FitsDesign p.code.design → net < length p.code.design.nets → net_named (indexed p at (p.code.scope ++ texts_of p.code.design net) (index_of p.code.design net)) ≡ Some net
own_named p at net fits within =
    ap (λ texts. net_below p.code.design texts (index_of p.code.design net)) (below_own p.code.scope (texts_of p.code.design net))
    ∙ own_net p.code.design net fits within

-- The bytes of a value.
abbrev bit_word : Value → List ℕ
bit_word value = codes "1'b" ++ letter_of value ∷ []

bit_leads : (p : Progress) (moment net : ℕ) (value : Value) (rest : List ℕ) (events : List Event) → p.moment ≡ Some moment → Leads p.code.text Body (with_event p moment net (Some value)) rest events → Leads p.code.text (Bit net) p (bit_word value ++ 59 ∷ 10 ∷ rest) events
bit_leads p moment net value rest events at_moment leads = by value
    (after_mark StatementEnd Body (with_event p moment net (Some value)) 59 (10 ∷ rest) events refl (λ t. refl) (white p.code.text Body (with_event p moment net (Some value)) 10 rest events refl leads))
  where
    by : (value : Value) → Leads p.code.text StatementEnd (with_event p moment net (Some value)) (59 ∷ 10 ∷ rest) events → Leads p.code.text (Bit net) p (bit_word value ++ 59 ∷ 10 ∷ rest) events
    by Zero leads = token_leads p.code.text (Bit net) p Number (codes "1'b0") (59 ∷ 10 ∷ rest) events (omega arith) (number_token (codes "1'b0") (59 ∷ 10 ∷ rest) refl refl) (λ start last sp.
        record { to = StatementEnd; progress = with_event p moment net (Some Zero); stepped = ap (λ l. bit_by p (token Number start last) net p.moment (bit_of l)) sp ∙ ap (λ m. bit_by p (token Number start last) net m (Some Zero)) at_moment; leads = leads })
    by One leads = token_leads p.code.text (Bit net) p Number (codes "1'b1") (59 ∷ 10 ∷ rest) events (omega arith) (number_token (codes "1'b1") (59 ∷ 10 ∷ rest) refl refl) (λ start last sp.
        record { to = StatementEnd; progress = with_event p moment net (Some One); stepped = ap (λ l. bit_by p (token Number start last) net p.moment (bit_of l)) sp ∙ ap (λ m. bit_by p (token Number start last) net m (Some One)) at_moment; leads = leads })
    by X leads = token_leads p.code.text (Bit net) p Number (codes "1'bx") (59 ∷ 10 ∷ rest) events (omega arith) (number_token (codes "1'bx") (59 ∷ 10 ∷ rest) refl refl) (λ start last sp.
        record { to = StatementEnd; progress = with_event p moment net (Some X); stepped = ap (λ l. bit_by p (token Number start last) net p.moment (bit_of l)) sp ∙ ap (λ m. bit_by p (token Number start last) net m (Some X)) at_moment; leads = leads })
    by Z leads = token_leads p.code.text (Bit net) p Number (codes "1'bz") (59 ∷ 10 ∷ rest) events (omega arith) (number_token (codes "1'bz") (59 ∷ 10 ∷ rest) refl refl) (λ start last sp.
        record { to = StatementEnd; progress = with_event p moment net (Some Z); stepped = ap (λ l. bit_by p (token Number start last) net p.moment (bit_of l)) sp ∙ ap (λ m. bit_by p (token Number start last) net m (Some Z)) at_moment; leads = leads })

-- A path that is whole, of a net of the design, in a moment.
record IsTarget (p : Progress) (state : State) (moment net : ℕ) : Type 0 where
  whole : IsWhole state
  at_moment : p.moment ≡ Some moment
  named : net_named p ≡ Some net

at_target : (p : Progress) (state : State) (moment net b start last : ℕ) → IsTarget p state moment net → (b ≡ 59) ⊎ (b ≡ 61) → spelled p.code.text (token Mark start last) ≡ b ∷ [] → step state p (token Mark start last) ≡ target_by p (token Mark start last) (Some moment) (Some net)
at_target p state moment net b start last is which sp =
    is.whole p b start last which sp
    ∙ (ap (λ m. target_by p (token Mark start last) m (net_named p)) is.at_moment ∙ ap (λ n. target_by p (token Mark start last) (Some moment) n) is.named)

-- The end of a force.
value_leads : (p : Progress) (state : State) (moment net : ℕ) (value : Value) (rest : List ℕ) (events : List Event) → IsTarget p state moment net → p.forces ≡ true → Leads p.code.text Body (with_event p moment net (Some value)) rest events → Leads p.code.text state p (value_end value ++ rest) events
value_leads p state moment net value rest events is forces leads =
    white p.code.text state p 32 (61 ∷ 32 ∷ (bit_word value ++ 59 ∷ 10 ∷ rest)) events refl
    (token_leads p.code.text state p Mark (codes "=") (32 ∷ (bit_word value ++ 59 ∷ 10 ∷ rest)) events (omega arith) (mark_token 61 (32 ∷ (bit_word value ++ 59 ∷ 10 ∷ rest)) refl) (λ start last sp.
    record {
      to = Bit net;
      progress = p;
      stepped = at_target p state moment net 61 start last is (inr refl) sp
          ∙ (ap (λ b. on b (on (is_mark p.code.text (token Mark start last) (codes "=")) (next (Bit net) p) (refused (token Mark start last))) (release_by p (token Mark start last) moment net (forced_now p.events net))) forces
          ∙ ap (λ l. on (bytes_eq l (codes "=")) (next (Bit net) p) (refused (token Mark start last))) sp);
      leads = white p.code.text (Bit net) p 32 (bit_word value ++ 59 ∷ 10 ∷ rest) events refl (bit_leads p moment net value rest events is.at_moment leads);
    }))

-- The end of a release.
release_leads : (p : Progress) (state : State) (moment net : ℕ) (value : Value) (rest : List ℕ) (events : List Event) → IsTarget p state moment net → p.forces ≡ false → forced_now p.events net ≡ Some value → Leads p.code.text Body (with_event p moment net None) rest events → Leads p.code.text state p (59 ∷ 10 ∷ rest) events
release_leads p state moment net value rest events is forces forced leads =
    token_leads p.code.text state p Mark (codes ";") (10 ∷ rest) events (omega arith) (mark_token 59 (10 ∷ rest) refl) (λ start last sp.
    record {
      to = Body;
      progress = with_event p moment net None;
      stepped = at_target p state moment net 59 start last is (inl refl) sp
          ∙ (ap (λ b. on b (on (is_mark p.code.text (token Mark start last) (codes "=")) (next (Bit net) p) (refused (token Mark start last))) (release_by p (token Mark start last) moment net (forced_now p.events net))) forces
          ∙ (ap (release_by p (token Mark start last) moment net) forced
          ∙ ap (λ l. on (bytes_eq l (codes ";")) (next Body (with_event p moment net None)) (refused (token Mark start last))) sp));
      leads = white p.code.text Body (with_event p moment net None) 10 rest events refl leads;
    })

-- The progress with other events, whatever statement was read last.
abbrev pub told : Progress → Bool → ℕ → Texts → Option ℕ → List Event → Progress
told p forces at texts index events = record p { forces = forces; at = at; texts = texts; index = index; events = events }

abbrev pub LeadsTold : Progress → List Event → List ℕ → List Event → Type 0
LeadsTold p done rest events = (forces : Bool) (at : ℕ) (texts : Texts) (index : Option ℕ) → Leads p.code.text Body (told p forces at texts index done) rest events

-- Whatever a release releases is forced.
abbrev pub ReleasesForced : List Event → Event → Type 0
ReleasesForced done event = event.value ≡ None → (value : Value) × (forced_now done event.net ≡ Some value)

four : (p : Progress) (bs : List ℕ) (events : List Event) → Leads p.code.text Body p bs events → Leads p.code.text Body p (32 ∷ 32 ∷ 32 ∷ 32 ∷ bs) events
four p bs events leads =
    white p.code.text Body p 32 (32 ∷ 32 ∷ 32 ∷ bs) events refl
    (white p.code.text Body p 32 (32 ∷ 32 ∷ bs) events refl
    (white p.code.text Body p 32 (32 ∷ bs) events refl (white p.code.text Body p 32 bs events refl leads)))

-- The line of an event leads on by that event.
pub event_leads : (p : Progress) (moment : ℕ) (event : Event) (rest : List ℕ) (events : List Event) → are_writable p.code.scope ≡ true → FitsDesign p.code.design → event.net < length p.code.design.nets → p.moment ≡ Some moment → moment * p.code.stim.rounds + p.round ≡ event.step → ReleasesForced p.events event → LeadsTold p (p.events ++ event ∷ []) rest events → Leads p.code.text Body p (event_line (code_name p.code.design p.code.scope event.net) event.value ++ rest) events
event_leads p moment event rest events writable fits within at_moment at_step forced leads = by event.value forced leads
  where
    name : List ℕ
    name = code_name p.code.design p.code.scope event.net

    of : Option Value → Event
    of value = record { step = event.step; net = event.net; value = value }

    target_is : (forces : Bool) (first at : ℕ) (state : State) → IsWhole state → IsTarget (indexed (begun_by p forces first) at (p.code.scope ++ texts_of p.code.design event.net) (index_of p.code.design event.net)) state moment event.net
    target_is forces first at state whole = record { whole = whole; at_moment = at_moment; named = own_named (begun_by p forces first) at event.net fits within }

    more : (value : Option Value) → p.events ++ of value ∷ [] ≡ p.events ++ record { step = moment * p.code.stim.rounds + p.round; net = event.net; value = value } ∷ []
    more value = ap (λ s. p.events ++ record { step = s; net = event.net; value = value } ∷ []) (sym at_step)

    by : (value : Option Value) → ReleasesForced p.events (of value) → LeadsTold p (p.events ++ of value ∷ []) rest events → Leads p.code.text Body p (event_line name value ++ rest) events
    by None forced leads =
        let was = forced refl in
        subst (λ (l : List ℕ). Leads p.code.text Body p l events) (ap (λ (l : List ℕ). codes "    release " ++ l) (sym (append_assoc name (codes ";\n") rest)))
        (four p (codes "release " ++ (name ++ 59 ∷ 10 ∷ rest)) events (release_begins p moment (name ++ 59 ∷ 10 ∷ rest) events at_moment (λ first.
        path_leads (begun_by p false first) p.code.scope (name_in p.code.design event.net) (59 ∷ 10 ∷ rest) events writable (fits.names event.net within) refl refl refl (λ state at whole.
        release_leads (indexed (begun_by p false first) at (p.code.scope ++ texts_of p.code.design event.net) (index_of p.code.design event.net)) state moment event.net was.0 rest events (target_is false first at state whole) refl was.1
        (subst (λ (done : List Event). Leads p.code.text Body (told p false at (p.code.scope ++ texts_of p.code.design event.net) (index_of p.code.design event.net) done) rest events) (more None) (leads _ _ _ _))))))
    by (Some value) forced leads =
        subst (λ (l : List ℕ). Leads p.code.text Body p l events) (ap (λ (l : List ℕ). codes "    force " ++ l) (sym (append_assoc name (value_end value) rest)))
        (four p (codes "force " ++ (name ++ (value_end value ++ rest))) events (force_begins p moment (name ++ (value_end value ++ rest)) events at_moment (λ first.
        path_leads (begun_by p true first) p.code.scope (name_in p.code.design event.net) (value_end value ++ rest) events writable (fits.names event.net within) refl refl refl (λ state at whole.
        value_leads (indexed (begun_by p true first) at (p.code.scope ++ texts_of p.code.design event.net) (index_of p.code.design event.net)) state moment event.net value rest events (target_is true first at state whole) refl
        (subst (λ (done : List Event). Leads p.code.text Body (told p true at (p.code.scope ++ texts_of p.code.design event.net) (index_of p.code.design event.net) done) rest events) (more (Some value)) (leads _ _ _ _))))))
