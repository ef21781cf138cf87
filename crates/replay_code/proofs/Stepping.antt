-- Words, marks and numbers of code lead from state to state.
use Rattle.std.proofs.Common.{◌≡◌, ℕ, ◌<◌, ◌^◌, Bool, true, false, Option, None, Some, List, [], ◌∷◌, ◌++◌, codes, length, refl, sym, ap, ◌∙◌, subst, arith, bytes_eq, decimal, if◌then◌else◌}
use Rattle.std.proofs.lemmas.Fmt.{decimal_nonempty}
use Rattle.std.proofs.lemmas.Slice.Eq.{bytes_eq-Decides}
use Rattle.design_circuit.specs.declared.force.Event.{Event}
use Rattle.netlist_tokens.specs.Byte.{begins, is_name_byte, is_number_byte}
use Rattle.netlist_tokens.specs.Left.{token}
use Rattle.netlist_tokens.specs.declared.token.Kind.TheVariants.{Name, Number, Mark}
use Rattle.netlist_tokens.specs.declared.token.Token.{Token}
use Rattle.replay_code.specs.Machine.{Progress, body, next, on, refused, statement_by, step, wait_by, waited}
use Rattle.replay_code.specs.Names.{is_plain}
use Rattle.replay_code.specs.Words.{is_mark, is_word, spelled}
use Rattle.base_scan.specs.Bytes.{all_digits}
use Rattle.base_scan.specs.Numbers.{number_from}
use Rattle.replay_code.specs.declared.state.State.{State}
use Rattle.replay_code.specs.declared.state.State.TheVariants.{Body, Wait, WaitEnd, NameNext, Tail}
use Rattle.replay_code.specs.Written.{wait_line}
use Rattle.base_scan.proofs.Digits.{all_digits_decimal, number_of_decimal}
use Rattle.replay_code.proofs.Leading.{Leads, token_leads, white}
use Rattle.replay_code.proofs.Spelling.{digits_token, is_plain_mark, mark_token, name_token}

pub bytes_same : (word : List ℕ) → bytes_eq word word ≡ true
bytes_same word = (bytes_eq-Decides word word).1 refl

-- The word that a state asks for leads on.
pub after_word : (state to : State) (p : Progress) (word rest : List ℕ) (events : List Event) → is_plain word ≡ true → 0 < length word → begins is_name_byte rest ≡ false → ((t : Token) → step state p t ≡ on (is_word p.code.text t word) (next to p) (refused t)) → Leads p.code.text to p rest events → Leads p.code.text state p (word ++ rest) events
after_word state to p word rest events plain some stops is leads =
    token_leads p.code.text state p Name word rest events some (name_token word rest plain stops) (λ start last sp.
    record {
      to = to;
      progress = p;
      stepped = is (token Name start last) ∙ (ap (λ l. on (bytes_eq l word) (next to p) (refused (token Name start last))) sp ∙ ap (λ b. on b (next to p) (refused (token Name start last))) (bytes_same word));
      leads = leads;
    })

-- So does the mark.
pub after_mark : (state to : State) (p : Progress) (b : ℕ) (rest : List ℕ) (events : List Event) → is_plain_mark b ≡ true → ((t : Token) → step state p t ≡ on (is_mark p.code.text t (b ∷ [])) (next to p) (refused t)) → Leads p.code.text to p rest events → Leads p.code.text state p (b ∷ rest) events
after_mark state to p b rest events plain is leads =
    token_leads p.code.text state p Mark (b ∷ []) rest events (omega arith) (mark_token b rest plain) (λ start last sp.
    record {
      to = to;
      progress = p;
      stepped = is (token Mark start last) ∙ (ap (λ l. on (bytes_eq l (b ∷ [])) (next to p) (refused (token Mark start last))) sp ∙ ap (λ x. on x (next to p) (refused (token Mark start last))) (bytes_same (b ∷ [])));
      leads = leads;
    })

-- What a body makes of a name, and of a mark.
body_name : (p : Progress) (start last : ℕ) (word : List ℕ) → spelled p.code.text (token Name start last) ≡ word → body p (token Name start last) ≡ on (bytes_eq word (codes "force")) (statement_by p true start p.moment) (on (bytes_eq word (codes "release")) (statement_by p false start p.moment) (on (bytes_eq word (codes "end")) (next Tail p) (refused (token Name start last))))
body_name p start last word sp = ap (λ l. on (bytes_eq l (codes "force")) (statement_by p true start p.moment) (on (bytes_eq l (codes "release")) (statement_by p false start p.moment) (on (bytes_eq l (codes "end")) (next Tail p) (refused (token Name start last))))) sp

body_mark : (p : Progress) (start last : ℕ) (word : List ℕ) → spelled p.code.text (token Mark start last) ≡ word → body p (token Mark start last) ≡ on (bytes_eq word (codes "#")) (next (Wait start) p) (refused (token Mark start last))
body_mark p start last word sp = ap (λ l. on (bytes_eq l (codes "#")) (next (Wait start) p) (refused (token Mark start last))) sp

-- The block ends.
pub body_ends : (p : Progress) (rest : List ℕ) (events : List Event) → begins is_name_byte rest ≡ false → Leads p.code.text Tail p rest events → Leads p.code.text Body p (codes "end" ++ rest) events
body_ends p rest events stops leads =
    token_leads p.code.text Body p Name (codes "end") rest events (omega arith) (name_token (codes "end") rest refl stops) (λ start last sp.
    record { to = Tail; progress = p; stepped = body_name p start last (codes "end") sp; leads = leads })

-- A statement begins: its names are none so far.
abbrev pub begun_by : Progress → Bool → ℕ → Progress
begun_by p forces at = record p { forces = forces; at = at; texts = []; index = None }

pub force_begins : (p : Progress) (moment : ℕ) (rest : List ℕ) (events : List Event) → p.moment ≡ Some moment → ((at : ℕ) → Leads p.code.text NameNext (begun_by p true at) rest events) → Leads p.code.text Body p (codes "force " ++ rest) events
force_begins p moment rest events at_moment leads =
    token_leads p.code.text Body p Name (codes "force") (32 ∷ rest) events (omega arith) (name_token (codes "force") (32 ∷ rest) refl refl) (λ start last sp.
    record {
      to = NameNext;
      progress = begun_by p true start;
      stepped = body_name p start last (codes "force") sp ∙ ap (statement_by p true start) at_moment;
      leads = white p.code.text NameNext (begun_by p true start) 32 rest events refl (leads start);
    })

pub release_begins : (p : Progress) (moment : ℕ) (rest : List ℕ) (events : List Event) → p.moment ≡ Some moment → ((at : ℕ) → Leads p.code.text NameNext (begun_by p false at) rest events) → Leads p.code.text Body p (codes "release " ++ rest) events
release_begins p moment rest events at_moment leads =
    token_leads p.code.text Body p Name (codes "release") (32 ∷ rest) events (omega arith) (name_token (codes "release") (32 ∷ rest) refl refl) (λ start last sp.
    record {
      to = NameNext;
      progress = begun_by p false start;
      stepped = body_name p start last (codes "release") sp ∙ ap (statement_by p false start) at_moment;
      leads = white p.code.text NameNext (begun_by p false start) 32 rest events refl (leads start);
    })

-- The progress at another time, moment and round.
abbrev pub moved : Progress → ℕ → Option ℕ → ℕ → Progress
moved p time moment round = record p { time = time; moment = moment; round = round }

wait_number : (p : Progress) (at d time : ℕ) (moment : Option ℕ) (round : ℕ) (rest : List ℕ) (events : List Event) → d < 2 ^ 64 → begins is_number_byte rest ≡ false → waited p at d ≡ next WaitEnd (moved p time moment round) → Leads p.code.text WaitEnd (moved p time moment round) rest events → Leads p.code.text (Wait at) p (decimal d ++ rest) events
wait_number p at d time moment round rest events small stops goes leads =
    token_leads p.code.text (Wait at) p Number (decimal d) rest events (decimal_nonempty d small) (digits_token d rest small (decimal_nonempty d small) stops) (λ start last sp.
    record {
      to = WaitEnd;
      progress = moved p time moment round;
      stepped = ap (λ l. wait_by p at (token Number start last) (if all_digits l then Some (number_from 0 l) else None)) sp
          ∙ (ap (λ b. wait_by p at (token Number start last) (if b then Some (number_from 0 (decimal d)) else None)) (all_digits_decimal d small)
          ∙ (ap (λ n. waited p at n) (number_of_decimal d small) ∙ goes));
      leads = leads;
    })

-- The bytes of a wait.
wait_shape : (d : ℕ) (rest : List ℕ) → wait_line d ++ rest ≡ 32 ∷ 32 ∷ 32 ∷ 32 ∷ 35 ∷ (decimal d ++ 59 ∷ 10 ∷ rest)
wait_shape d rest = ap (λ (l : List ℕ). 32 ∷ 32 ∷ 32 ∷ 32 ∷ 35 ∷ l) (three (decimal d))
  where
    three : (ds : List ℕ) → ((ds ++ codes ";") ++ 10 ∷ []) ++ rest ≡ ds ++ 59 ∷ 10 ∷ rest
    three [] = refl
    three (c ∷ cs) = ap (λ (l : List ℕ). c ∷ l) (three cs)

-- A wait leads to where it moves on.
pub wait_leads : (p : Progress) (d time : ℕ) (moment : Option ℕ) (round : ℕ) (rest : List ℕ) (events : List Event) → d < 2 ^ 64 → ((at : ℕ) → waited p at d ≡ next WaitEnd (moved p time moment round)) → Leads p.code.text Body (moved p time moment round) rest events → Leads p.code.text Body p (wait_line d ++ rest) events
wait_leads p d time moment round rest events small goes leads =
    subst (λ (l : List ℕ). Leads p.code.text Body p l events) (sym (wait_shape d rest)) (blank (blank (blank (blank hash))))
  where
    blank : {bs : List ℕ} → Leads p.code.text Body p bs events → Leads p.code.text Body p (32 ∷ bs) events
    blank {bs} leads = white p.code.text Body p 32 bs events refl leads

    ended : Leads p.code.text WaitEnd (moved p time moment round) (59 ∷ 10 ∷ rest) events
    ended = after_mark WaitEnd Body (moved p time moment round) 59 (10 ∷ rest) events refl (λ t. refl) (white p.code.text Body (moved p time moment round) 10 rest events refl leads)

    hash : Leads p.code.text Body p (35 ∷ (decimal d ++ 59 ∷ 10 ∷ rest)) events
    hash = token_leads p.code.text Body p Mark (codes "#") (decimal d ++ 59 ∷ 10 ∷ rest) events (omega arith) (mark_token 35 (decimal d ++ 59 ∷ 10 ∷ rest) refl) (λ start last sp.
        record {
          to = Wait start;
          progress = p;
          stepped = body_mark p start last (codes "#") sp;
          leads = wait_number p start d time moment round (59 ∷ 10 ∷ rest) events small refl (goes start) ended;
        })
