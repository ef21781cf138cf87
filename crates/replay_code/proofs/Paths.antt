-- The path of a net in a scope, as it is written, is read as its names and its index.
use Rattle.std.proofs.Common.{◌≡◌, ℕ, ◌<◌, ◌^◌, Bool, true, false, not, Option, None, Some, List, [], ◌∷◌, ◌++◌, codes, length, map, nat_lt, refl, sym, ap, ◌∙◌, subst, arith, bytes_eq, decimal, append_assoc, append-nil, if◌then◌else◌, ◌⊎◌, inl, inr}
use Rattle.std.specs.List.{list_all}
use Rattle.std.proofs.lemmas.Bool.{lt-ltb, cond-true}
use Rattle.std.proofs.lemmas.Fmt.{decimal_nonempty}
use Rattle.design_circuit.specs.Design.{FitsIndex, FitsName, has_parts, is_part}
use Rattle.design_circuit.specs.Name.{written_index, written_name, written_part, written_parts}
use Rattle.design_circuit.specs.declared.force.Event.{Event}
use Rattle.design_circuit.specs.declared.name.Name.{Name as NetName}
use Rattle.design_circuit.specs.declared.name.NamePart.{NamePart}
use Rattle.recording_binding.specs.Naming.{Texts}
use Rattle.netlist_tokens.specs.Byte.{begins, is_letter, is_name_byte}
use Rattle.netlist_tokens.specs.Left.{token}
use Rattle.netlist_tokens.specs.declared.token.Kind.TheVariants.{Name, Escaped, Number, Mark}
use Rattle.replay_code.specs.Machine.{Progress, capped, index_by, name_by, next, on, step, target, with_name}
use Rattle.replay_code.specs.Names.{are_writable, is_plain, is_writable, scope_name, scope_part, scope_prefix}
use Rattle.replay_code.specs.Words.{behind_first, spelled}
use Rattle.base_scan.specs.Bytes.{all_digits}
use Rattle.base_scan.specs.Numbers.{number_from}
use Rattle.replay_code.specs.declared.state.State.{State}
use Rattle.replay_code.specs.declared.state.State.TheVariants.{NameNext, AfterName, Index, IndexEnd, PathEnd}
use Rattle.base_scan.proofs.Digits.{all_digits_decimal, number_of_decimal}
use Rattle.replay_code.proofs.Leading.{Leads, token_leads, white}
use Rattle.replay_code.proofs.Spelling.{digits_token, escaped_token, mark_token, name_token}
use Rattle.base_scan.proofs.Fronts.{both}
use Rattle.replay_code.proofs.Stepping.{after_mark}

-- The progress with other names.
abbrev pub named : Progress → ℕ → Texts → Progress
named p at texts = record p { at = at; texts = texts }

-- Wherever the first name stands, the rest leads on.
abbrev pub LeadsNamed : State → Progress → Texts → List ℕ → List Event → Type 0
LeadsNamed state p texts rest events = (at : ℕ) → Leads p.code.text state (named p at texts) rest events

plain_leads : (p : Progress) (word rest : List ℕ) (events : List Event) → is_plain word ≡ true → 0 < length word → begins is_name_byte rest ≡ false → LeadsNamed AfterName p (p.texts ++ word ∷ []) rest events → Leads p.code.text NameNext p (word ++ rest) events
plain_leads p word rest events plain some stops leads =
    token_leads p.code.text NameNext p Name word rest events some (name_token word rest plain stops) (λ start last sp.
    record {
      to = AfterName;
      progress = with_name p (token Name start last) word;
      stepped = ap (λ l. name_by p (token Name start last) (Some l)) sp;
      leads = leads _;
    })

escaped_leads : (p : Progress) (word rest : List ℕ) (events : List Event) → is_writable word ≡ true → LeadsNamed AfterName p (p.texts ++ word ∷ []) rest events → Leads p.code.text NameNext p (92 ∷ word ++ 32 ∷ rest) events
escaped_leads p word rest events writable leads =
    token_leads p.code.text NameNext p Escaped (92 ∷ word) (32 ∷ rest) events (omega arith) (escaped_token word (32 ∷ rest) writable refl) (λ start last sp.
    record {
      to = AfterName;
      progress = with_name p (token Escaped start last) word;
      stepped = ap (λ l. name_by p (token Escaped start last) (Some (behind_first l))) sp;
      leads = white p.code.text AfterName (with_name p (token Escaped start last) word) 32 rest events refl (leads _);
    })

some_byte : (p : ℕ → Bool) (word : List ℕ) → begins p word ≡ true → 0 < length word
some_byte p [] is = absurd cc
some_byte p (b ∷ bs) is = omega arith

-- A part is read as its text.
part_leads : (p : Progress) (part : NamePart) (rest : List ℕ) (events : List Event) → is_part part ≡ true → begins is_name_byte rest ≡ false → LeadsNamed AfterName p (p.texts ++ part.text ∷ []) rest events → Leads p.code.text NameNext p (written_part part ++ rest) events
part_leads p part rest events fits stops leads = by part.escaped fits
  where
    behind_part : (word : List ℕ) → 92 ∷ word ++ 32 ∷ rest ≡ (codes "\\" ++ word ++ codes " ") ++ rest
    behind_part word = ap (λ (l : List ℕ). 92 ∷ l) (sym (append_assoc word (codes " ") rest))

    by : (escaped : Bool) → is_part (record { text = part.text; escaped = escaped }) ≡ true → Leads p.code.text NameNext p (written_part (record { text = part.text; escaped = escaped }) ++ rest) events
    by true fits = subst (λ (l : List ℕ). Leads p.code.text NameNext p l events) (behind_part part.text) (escaped_leads p part.text rest events fits leads)
    by false fits = plain_leads p part.text rest events fits (some_byte is_letter part.text (both _ _ fits).0) stops leads

-- Behind a dot the next name stands.
dot_leads : (p : Progress) (rest : List ℕ) (events : List Event) → Leads p.code.text NameNext p rest events → Leads p.code.text AfterName p (46 ∷ rest) events
dot_leads p rest events leads =
    token_leads p.code.text AfterName p Mark (codes ".") rest events (omega arith) (mark_token 46 rest refl) (λ start last sp.
    record {
      to = NameNext;
      progress = p;
      stepped = ap (λ l. on (bytes_eq l (codes ".")) (next NameNext p) (on (bytes_eq l (codes "[")) (next Index p) (target p (token Mark start last)))) sp;
      leads = leads;
    })

abbrev text_in : NamePart → List ℕ
text_in part = part.text

-- names behind others
one_name_more : (texts : Texts) (text : List ℕ) (more : Texts) → (texts ++ text ∷ []) ++ more ≡ texts ++ text ∷ more
one_name_more texts text more = append_assoc texts (text ∷ []) more

-- The parts of a net's name are read as their texts.
parts_lead : (p : Progress) (part : NamePart) (parts : List NamePart) (rest : List ℕ) (events : List Event) → list_all is_part (part ∷ parts) ≡ true → begins is_name_byte rest ≡ false → LeadsNamed AfterName p (p.texts ++ map text_in (part ∷ parts)) rest events → Leads p.code.text NameNext p (written_parts (part ∷ parts) ++ rest) events
parts_lead p part [] rest events fit stops leads =
    subst (λ (l : List ℕ). Leads p.code.text NameNext p l events) (ap (λ (l : List ℕ). l ++ rest) (sym (append-nil (written_part part))))
    (part_leads p part rest events (both _ _ fit).0 stops leads)
parts_lead p part (second ∷ parts) rest events fit stops leads =
    let fits = both (is_part part) (list_all is_part (second ∷ parts)) fit in
    subst (λ (l : List ℕ). Leads p.code.text NameNext p l events) (sym (append_assoc (written_part part) (46 ∷ written_parts (second ∷ parts)) rest))
    (part_leads p part (46 ∷ (written_parts (second ∷ parts) ++ rest)) events fits.0 refl (λ at.
    dot_leads (named p at (p.texts ++ part.text ∷ [])) (written_parts (second ∷ parts) ++ rest) events
    (parts_lead (named p at (p.texts ++ part.text ∷ [])) second parts rest events fits.1 stops
    (subst (λ (l : Texts). LeadsNamed AfterName p l rest events) (sym (one_name_more p.texts part.text (map text_in (second ∷ parts)))) leads))))

-- A name that can be written is a part as it is written.
writable_part : (text : List ℕ) → is_writable text ≡ true → is_part (scope_part text) ≡ true
writable_part text writable = by (is_plain text) refl
  where
    by : (plain : Bool) → is_plain text ≡ plain → is_part (record { text = text; escaped = not plain }) ≡ true
    by true is = is
    by false is = writable

-- The names of a scope are read as they are.
scope_leads : (p : Progress) (scope : Texts) (rest : List ℕ) (events : List Event) → are_writable scope ≡ true → LeadsNamed NameNext p (p.texts ++ scope) rest events → Leads p.code.text NameNext p (scope_prefix scope ++ rest) events
scope_leads p [] rest events writable leads = subst (λ (l : Texts). Leads p.code.text NameNext (named p p.at l) rest events) (append-nil p.texts) (leads p.at)
scope_leads p (text ∷ scope) rest events writable leads =
    let fits = both (is_writable text) (are_writable scope) writable in
    subst (λ (l : List ℕ). Leads p.code.text NameNext p l events) (sym (append_assoc (scope_name text ++ codes ".") (scope_prefix scope) rest ∙ append_assoc (scope_name text) (codes ".") (scope_prefix scope ++ rest)))
    (part_leads p (scope_part text) (46 ∷ (scope_prefix scope ++ rest)) events (writable_part text fits.0) refl (λ at.
    dot_leads (named p at (p.texts ++ text ∷ [])) (scope_prefix scope ++ rest) events
    (scope_leads (named p at (p.texts ++ text ∷ [])) scope rest events fits.1
    (subst (λ (l : Texts). LeadsNamed NameNext p l rest events) (sym (one_name_more p.texts text scope)) leads))))

-- Where a path is whole, a `=` or `;` is that of its statement.
abbrev pub IsWhole : State → Type 0
IsWhole state = (p : Progress) (b start last : ℕ) → ((b ≡ 59) ⊎ (b ≡ 61)) → spelled p.code.text (token Mark start last) ≡ b ∷ [] → step state p (token Mark start last) ≡ target p (token Mark start last)

whole_name : IsWhole AfterName
whole_name p b start last (inl is) sp = ap (λ l. on (bytes_eq l (codes ".")) (next NameNext p) (on (bytes_eq l (codes "[")) (next Index p) (target p (token Mark start last)))) (sp ∙ ap (λ c. c ∷ []) is)
whole_name p b start last (inr is) sp = ap (λ l. on (bytes_eq l (codes ".")) (next NameNext p) (on (bytes_eq l (codes "[")) (next Index p) (target p (token Mark start last)))) (sp ∙ ap (λ c. c ∷ []) is)

-- The progress with another index.
abbrev pub indexed : Progress → ℕ → Texts → Option ℕ → Progress
indexed p at texts index = record p { at = at; texts = texts; index = index }

capped_is : (index : ℕ) → index < 2 ^ 31 → capped (number_from 0 (decimal index)) ≡ index
capped_is index small = ap capped (number_of_decimal index (omega (arith, small))) ∙ cond-true (nat_lt index (2 ^ 31)) index (2 ^ 31) (lt-ltb index (2 ^ 31) small)

-- Behind the names the index, or none, ends the path.
index_leads : (p : Progress) (at : ℕ) (texts : Texts) (index : Option ℕ) (rest : List ℕ) (events : List Event) → FitsIndex index → p.index ≡ None → ((state : State) → IsWhole state → Leads p.code.text state (indexed p at texts index) rest events) → Leads p.code.text AfterName (named p at texts) (written_index index ++ rest) events
index_leads p at texts None rest events fits none leads = subst (λ (i : Option ℕ). Leads p.code.text AfterName (indexed p at texts i) rest events) (sym none) (leads AfterName whole_name)
index_leads p at texts (Some index) rest events fits none leads =
    subst (λ (l : List ℕ). Leads p.code.text AfterName q l events) (ap (λ (l : List ℕ). 91 ∷ l) (sym (append_assoc (decimal index) (codes "]") rest)))
    (token_leads p.code.text AfterName q Mark (codes "[") (decimal index ++ 93 ∷ rest) events (omega arith) (mark_token 91 (decimal index ++ 93 ∷ rest) refl) (λ start last sp.
    record {
      to = Index;
      progress = q;
      stepped = ap (λ l. on (bytes_eq l (codes ".")) (next NameNext q) (on (bytes_eq l (codes "[")) (next Index q) (target q (token Mark start last)))) sp;
      leads = number;
    }))
  where
    q : Progress
    q = named p at texts

    small : index < 2 ^ 64
    small = (let low : index < 2 ^ 31 = fits in omega (arith, low))

    ended : Leads p.code.text IndexEnd (indexed p at texts (Some index)) (93 ∷ rest) events
    ended = after_mark IndexEnd PathEnd (indexed p at texts (Some index)) 93 rest events refl (λ t. refl) (leads PathEnd (λ p b start last is sp. refl))

    number : Leads p.code.text Index q (decimal index ++ 93 ∷ rest) events
    number = token_leads p.code.text Index q Number (decimal index) (93 ∷ rest) events (decimal_nonempty index small) (digits_token index (93 ∷ rest) small (decimal_nonempty index small) refl) (λ start last sp.
        record {
          to = IndexEnd;
          progress = indexed p at texts (Some index);
          stepped = ap (λ l. index_by q (token Number start last) (if all_digits l then Some (number_from 0 l) else None)) sp
              ∙ (ap (λ b. index_by q (token Number start last) (if b then Some (number_from 0 (decimal index)) else None)) (all_digits_decimal index small)
              ∙ ap (λ n. next IndexEnd (indexed p at texts (Some n))) (capped_is index fits));
          leads = ended;
        })

index_stops : (index : Option ℕ) (rest : List ℕ) → begins is_name_byte rest ≡ false → begins is_name_byte (written_index index ++ rest) ≡ false
index_stops None rest stops = stops
index_stops (Some index) rest stops = refl

-- A path is read as the scope's names with the net's own, and its index.
pub path_leads : (p : Progress) (scope : Texts) (name : NetName) (rest : List ℕ) (events : List Event) → are_writable scope ≡ true → FitsName name → p.texts ≡ [] → p.index ≡ None → begins is_name_byte rest ≡ false → ((state : State) (at : ℕ) → IsWhole state → Leads p.code.text state (indexed p at (scope ++ map text_in name.parts) name.bit) rest events) → Leads p.code.text NameNext p ((scope_prefix scope ++ written_name name) ++ rest) events
path_leads p scope name rest events writable fits first none stops leads =
    subst (λ (l : List ℕ). Leads p.code.text NameNext p l events) (sym shape) (scope_leads p scope (written_parts name.parts ++ behind) events writable (λ at. own (named p at (p.texts ++ scope)) at name.parts fits.some_part fits.parts (λ later. index_leads p later ((p.texts ++ scope) ++ map text_in name.parts) name.bit rest events fits.index none (λ state whole. subst (λ (l : Texts). Leads p.code.text state (indexed p later l name.bit) rest events) texts (leads state later whole)))))
  where
    behind : List ℕ
    behind = written_index name.bit ++ rest

    shape : (scope_prefix scope ++ written_name name) ++ rest ≡ scope_prefix scope ++ (written_parts name.parts ++ behind)
    shape = append_assoc (scope_prefix scope) (written_name name) rest ∙ ap (λ (l : List ℕ). scope_prefix scope ++ l) (append_assoc (written_parts name.parts) (written_index name.bit) rest)

    texts : scope ++ map text_in name.parts ≡ (p.texts ++ scope) ++ map text_in name.parts
    texts = ap (λ (l : Texts). (l ++ scope) ++ map text_in name.parts) (sym first)

    own : (q : Progress) (at : ℕ) (parts : List NamePart) → has_parts parts ≡ true → list_all is_part parts ≡ true → LeadsNamed AfterName q (q.texts ++ map text_in parts) behind events → Leads q.code.text NameNext q (written_parts parts ++ behind) events
    own q at [] some fit leads = absurd cc
    own q at (part ∷ parts) some fit leads = parts_lead q part parts behind events fit (index_stops name.bit rest stops) leads
