-- A text stands for one tree or one recording, or has one refusal.
use Rattle.std.proofs.Common.{◌≡◌, ℕ, List, [], ◌∷◌, ◌++◌, length, Option, Some, None, Result, Ok, Err, refl, sym, ap, subst, ◌∙◌, ◌==◌, ◌⊎◌, inl, inr, ⊎_elim}
use Rattle.std.specs.Prelude.{if◌then◌else◌}
use Rattle.std.proofs.lemmas.List.{append_assoc, append-nil}
use Rattle.netlist_tokens.specs.Left.{Left}
use Rattle.netlist_tokens.specs.Tokens.{Tokens}
use Rattle.netlist_tokens.specs.declared.token.LexErr.{LexErr}
use Rattle.netlist_tokens.proofs.Told.{left_follows}
use Rattle.netlist_grammar.specs.Lexemes.{TokenAt, ending, head_of, stop_of, tokens_of}
use Rattle.netlist_grammar.specs.Machine.{State as at, run}
use Rattle.netlist_grammar.specs.Refusal.{IsFault, IsLeftOut, IsViable, MayNotFollow, RefusesFirst}
use Rattle.netlist_grammar.specs.Text.{Text}
use Rattle.netlist_grammar.specs.declared.refusal.ParseErr.{ParseErr}
use Rattle.netlist_grammar.specs.declared.tree.Source.{Source}
use Rattle.netlist_grammar.specs.Trees.{nothing}
use Rattle.netlist_grammar.proofs.Follows.{is_read}
use Rattle.recording_reader.specs.declared.refusal.VcdErr.{VcdErr}
use Rattle.recording_reader.specs.Words.{Word, words_of as recorded_words}
use Rattle.recording_reader.specs.Machine.{State, Next, step, then_run, run as run_recording}
use Rattle.recording_reader.specs.Faults.{Says, FirstFault, beginning, reach, reach_on, stops}
use Rattle.recording_reader.specs.Recording.{Recording as Said}
use Rattle.netlist_grammar.specs.Source.{IsTree, IsRefused}
use Rattle.netlist_grammar.specs.Fault.{fault_in, refusal_of}
use Rattle.netlist_grammar.specs.declared.fault.NetlistFault.{NetlistFault}
use Rattle.netlist_grammar.specs.declared.fault.NetlistFault.TheVariants as fault
use Rattle.netlist_grammar.specs.declared.refusal.ParseErr.TheVariants as refusal
use Rattle.netlist_tokens.specs.declared.token.LexErr.TheVariants as lex
use Rattle.std.proofs.lemmas.Bool.{cases_eq}

-- ---- netlists

one_left : (text : List ℕ) (a b : Left) → Tokens 0 text a → Tokens 0 text b → a ≡ b
one_left text a b first second = sym (left_follows first) ∙ left_follows second

ends : (size : ℕ) (fault : Option LexErr) → fault ≡ None → (stop_of size fault).what ≡ ending
ends size None none = refl
ends size (Some fault) none = absurd cc

stuck_nowhere : (tokens : List TokenAt) (stop : TokenAt) (tree : Source) → Text tokens tree → stop.what ≡ ending
    → (front rest : List TokenAt) → tokens ≡ front ++ rest → MayNotFollow front rest stop → ⊥
stuck_nowhere tokens stop tree parsed ended front [] split stuck =
    stuck ended tree (subst (λ (ts : List TokenAt). Text ts tree) (split ∙ append-nil front) parsed)
stuck_nowhere tokens stop tree parsed ended front (t ∷ ts) split stuck =
    stuck (record { more = ts; tree = tree; parsed = subst (λ (l : List TokenAt). Text l tree) (split ∙ sym (append_assoc front (t ∷ []) ts)) parsed })

-- A text of the grammar isn't refused.
pub tree_unrefused : (text : List ℕ) (tree : Source) (fault : NetlistFault) → IsTree text tree → IsRefused text fault → ⊥
tree_unrefused text tree fault is refused =
    let same : refused.left ≡ is.left = one_left text refused.left is.left refused.told is.told in
    let first : RefusesFirst (tokens_of text is.left).tokens (tokens_of text is.left).stop (refusal_of fault) =
    subst (λ (l : Left). RefusesFirst (tokens_of text l).tokens (tokens_of text l).stop (refusal_of fault))
    same refused.first in
    stuck_nowhere (tokens_of text is.left).tokens (tokens_of text is.left).stop tree is.parsed
    (ends (length text) is.left.fault is.whole) first.front first.rest first.split first.stuck

same_tree : (a b : Source) (read : Result Source ParseErr) → read ≡ Ok a → read ≡ Ok b → a ≡ b
same_tree a b read first second = cc

pub one_tree : (text : List ℕ) (a b : Source) → IsTree text a → IsTree text b → a ≡ b
one_tree text a b first second =
    let same : second.left ≡ first.left = one_left text second.left first.left second.told first.told in
    let stop = (tokens_of text first.left).stop in
    let ended = ends (length text) first.left.fault first.whole in
    let parsed : Text (tokens_of text first.left).tokens b = subst (λ (l : Left). Text (tokens_of text l).tokens b) same second.parsed in
    same_tree a b (run (at.top nothing) (tokens_of text first.left).tokens stop) (is_read stop ended first.parsed) (is_read stop ended parsed)

-- ---- the refusal of a netlist

-- Words before viable ones are viable.
viable_before : (front more : List TokenAt) → IsViable (front ++ more) → IsViable front
viable_before front more viable =
    record { more = more ++ viable.more; tree = viable.tree; parsed = subst (λ (l : List TokenAt). Text l viable.tree) (append_assoc front more viable.more) viable.parsed }

-- Where a token may not follow, no viable tokens go on with it.
no_further : (front rest : List TokenAt) (stop : TokenAt) (more others : List TokenAt) → MayNotFollow front rest stop
    → IsViable (front ++ more) → rest ≡ more ++ others → more ≡ []
no_further front rest stop [] others stuck viable split = refl
no_further front [] stop (m ∷ more) others stuck viable split = absurd (let bad : [] ≡ m ∷ (more ++ others) = split in cc)
no_further front (t ∷ ts) stop (m ∷ more) others stuck viable split =
    let same : t ≡ m = cc in
    let joined : front ++ m ∷ more ≡ (front ++ m ∷ []) ++ more = sym (append_assoc front (m ∷ []) more) in
    let here = viable_before (front ++ m ∷ []) more (subst IsViable joined viable) in
    absurd (stuck (subst (λ (w : TokenAt). IsViable (front ++ w ∷ [])) (sym same) here))

-- Two splits of tokens: one front goes on after the other.
pub record GoOn (a b c d : List TokenAt) : Type 0 where
  pub more : List TokenAt
  pub is : b ≡ a ++ more
  pub rest : c ≡ more ++ d

tail_of : (x y : TokenAt) (xs ys : List TokenAt) → x ∷ xs ≡ y ∷ ys → xs ≡ ys
tail_of x y xs ys same = cc

go_on_more : (x y : TokenAt) (a b c d : List TokenAt) → x ≡ y → GoOn a b c d → GoOn (x ∷ a) (y ∷ b) c d
go_on_more x y a b c d same on = record { more = on.more; is = (let is = on.is in cc); rest = on.rest }

go_on : (a b c d : List TokenAt) → a ++ c ≡ b ++ d → GoOn a b c d ⊎ GoOn b a d c
go_on [] b c d same = inl (record { more = b; is = refl; rest = same })
go_on (x ∷ a) [] c d same = inr (record { more = x ∷ a; is = refl; rest = sym same })
go_on (x ∷ a) (y ∷ b) c d same =
    let first : x ≡ y = cc in
    elim (go_on a b c d (tail_of x y (a ++ c) (b ++ d) same)) as (λ _. GoOn (x ∷ a) (y ∷ b) c d ⊎ GoOn (y ∷ b) (x ∷ a) d c) [
      | inl on ↦ inl (go_on_more x y a b c d first on)
      | inr on ↦ inr (go_on_more y x b a d c (sym first) on)
    ]

-- The refusals as numbers, which tell them apart.
abbrev tag_of : ParseErr → ℕ
tag_of (refusal.Lex (lex.BadByte at)) = 0
tag_of (refusal.Lex (lex.OpenComment at)) = 1
tag_of (refusal.Lex (lex.OpenText at)) = 2
tag_of (refusal.Lex (lex.Directive at)) = 3
tag_of (refusal.Unexpected at) = 4
tag_of (refusal.OutOfProfile at) = 5
tag_of refusal.Memory = 6

abbrev byte_of : ParseErr → ℕ
byte_of (refusal.Lex (lex.BadByte at)) = at
byte_of (refusal.Lex (lex.OpenComment at)) = at
byte_of (refusal.Lex (lex.OpenText at)) = at
byte_of (refusal.Lex (lex.Directive at)) = at
byte_of (refusal.Unexpected at) = at
byte_of (refusal.OutOfProfile at) = at
byte_of refusal.Memory = 0

abbrev from_numbers : ℕ → ℕ → ParseErr
from_numbers tag at =
    if tag == 0 then refusal.Lex (lex.BadByte at)
    else if tag == 1 then refusal.Lex (lex.OpenComment at)
    else if tag == 2 then refusal.Lex (lex.OpenText at)
    else if tag == 3 then refusal.Lex (lex.Directive at)
    else if tag == 4 then refusal.Unexpected at
    else if tag == 5 then refusal.OutOfProfile at
    else refusal.Memory

back : (e : ParseErr) → from_numbers (tag_of e) (byte_of e) ≡ e
back (refusal.Lex (lex.BadByte at)) = refl
back (refusal.Lex (lex.OpenComment at)) = refl
back (refusal.Lex (lex.OpenText at)) = refl
back (refusal.Lex (lex.Directive at)) = refl
back (refusal.Unexpected at) = refl
back (refusal.OutOfProfile at) = refl
back refusal.Memory = refl

-- Refusals that can't differ are the same.
not_other : (e f : ParseErr) → ((e ≡ f → ⊥) → ⊥) → e ≡ f
not_other e f never =
    let tag : tag_of e ≡ tag_of f = ⊎_elim (λ same. same) (λ other. absurd (never (λ same. other (ap tag_of same)))) (cases_eq (tag_of e) (tag_of f)) in
    let byte : byte_of e ≡ byte_of f = ⊎_elim (λ same. same) (λ other. absurd (never (λ same. other (ap byte_of same)))) (cases_eq (byte_of e) (byte_of f)) in
    sym (back e) ∙ (ap (λ (n : ℕ). from_numbers n (byte_of e)) tag ∙ (ap (λ (n : ℕ). from_numbers (tag_of f) n) byte ∙ back f))

-- A token has one fault.
one_token : (front : List TokenAt) (t : TokenAt) (e f : ParseErr) → IsFault front t e → IsFault front t f → e ≡ f
one_token front t e f first second =
    not_other e f (λ differ.
    let kept : IsLeftOut front t → ⊥ = λ out. differ (first.left_out out ∙ sym (second.left_out out)) in
    differ (first.other kept ∙ sym (second.other kept)))

one_refusal : (tokens : List TokenAt) (stop : TokenAt) (e f : ParseErr) → RefusesFirst tokens stop e → RefusesFirst tokens stop f → e ≡ f
one_refusal tokens stop e f first second =
    elim (go_on first.front second.front first.rest second.rest (sym first.split ∙ second.split)) as (λ _. e ≡ f) [
      | inl on ↦ (let none = no_further first.front first.rest stop on.more second.rest first.stuck (subst IsViable on.is second.viable) on.rest in
          let front : second.front ≡ first.front = on.is ∙ (ap (λ (m : List TokenAt). first.front ++ m) none ∙ append-nil first.front) in
          let rest : first.rest ≡ second.rest = on.rest ∙ ap (λ (m : List TokenAt). m ++ second.rest) none in
          one_token first.front (head_of first.rest stop) e f first.is
          (subst (λ (l : List TokenAt). IsFault l (head_of first.rest stop) f) front
          (subst (λ (l : List TokenAt). IsFault second.front (head_of l stop) f) (sym rest) second.is)))
      | inr on ↦ (let none = no_further second.front second.rest stop on.more first.rest second.stuck (subst IsViable on.is first.viable) on.rest in
          let front : first.front ≡ second.front = on.is ∙ (ap (λ (m : List TokenAt). second.front ++ m) none ∙ append-nil second.front) in
          let rest : second.rest ≡ first.rest = on.rest ∙ ap (λ (m : List TokenAt). m ++ first.rest) none in
          one_token second.front (head_of second.rest stop) e f
          (subst (λ (l : List TokenAt). IsFault l (head_of second.rest stop) e) front
          (subst (λ (l : List TokenAt). IsFault first.front (head_of l stop) e) (sym rest) first.is)) second.is)
    ]

told_fault : (fault : NetlistFault) → fault_in (refusal_of fault) ≡ Some fault
told_fault (fault.Lex e) = refl
told_fault (fault.Unexpected at) = refl
told_fault (fault.OutOfProfile at) = refl

same_fault : (a b : NetlistFault) → Some a ≡ Some b → a ≡ b
same_fault a b same = cc

-- A text has one refusal.
pub one_netlist_fault : (text : List ℕ) (a b : NetlistFault) → IsRefused text a → IsRefused text b → a ≡ b
one_netlist_fault text a b first second =
    let same : second.left ≡ first.left = one_left text second.left first.left second.told first.told in
    let there : RefusesFirst (tokens_of text first.left).tokens (tokens_of text first.left).stop (refusal_of b) =
    subst (λ (l : Left). RefusesFirst (tokens_of text l).tokens (tokens_of text l).stop (refusal_of b))
    same second.first in
    let one = one_refusal (tokens_of text first.left).tokens (tokens_of text first.left).stop (refusal_of a) (refusal_of b) first.first there in
    same_fault a b (sym (told_fault a) ∙ (ap fault_in one ∙ told_fault b))

-- ---- recordings

same_state : (a b : State) (to : Next) → to ≡ Ok a → to ≡ Ok b → a ≡ b
same_state a b to first second = cc

runs_on : (from : State) (front rest : List Word) (stop : ℕ) (to : State) → reach from front ≡ Ok to
    → run_recording from (front ++ rest) stop ≡ run_recording to rest stop
runs_on from [] rest stop to reached = ap (λ (s : State). run_recording s rest stop) (same_state from to (reach from []) refl reached)
runs_on from (t ∷ ts) rest stop to reached =
    let by : (n : Next) → reach_on n (λ next. reach next ts) ≡ Ok to → then_run n (λ next. run_recording next (ts ++ rest) stop) ≡ run_recording to rest stop =
    λ n. elim n as (λ n. reach_on n (λ next. reach next ts) ≡ Ok to → then_run n (λ next. run_recording next (ts ++ rest) stop) ≡ run_recording to rest stop) [
      | Ok next ↦ λ reached. runs_on next ts rest stop to reached
      | Err e ↦ λ reached. absurd cc
    ] in
    by (step from t) reached

stopped_run : (s : State) (rest : List Word) (stop : ℕ) (e : VcdErr) → stops s rest stop e → run_recording s rest stop ≡ Err e
stopped_run s [] stop e stopped = stopped
stopped_run s (t ∷ ts) stop e stopped = ap (λ (n : Next). then_run n (λ next. run_recording next ts stop)) stopped

not_both : (read : Result Said VcdErr) (said : Said) (e : VcdErr) → read ≡ Ok said → read ≡ Err e → ⊥
not_both read said e ok err = absurd cc

refused_run : (text : List ℕ) (e : VcdErr) → FirstFault text e → run_recording beginning (recorded_words text) (length text) ≡ Err e
refused_run text e fault =
    ap (λ (ts : List Word). run_recording beginning ts (length text)) fault.split
    ∙ runs_on beginning fault.front fault.rest (length text) fault.state fault.reached
    ∙ stopped_run fault.state fault.rest (length text) e fault.stopped

same_error : (e f : VcdErr) (read : Result Said VcdErr) → read ≡ Err e → read ≡ Err f → e ≡ f
same_error e f read first second = cc

-- A text that says a recording has no fault.
pub said_without_fault : (text : List ℕ) (said : Said) (e : VcdErr) → Says text said → FirstFault text e → ⊥
said_without_fault text said e says fault = not_both (run_recording beginning (recorded_words text) (length text)) said e says (refused_run text e fault)

same_said : (a b : Said) (read : Result Said VcdErr) → read ≡ Ok a → read ≡ Ok b → a ≡ b
same_said a b read first second = cc

-- A text says one recording.
pub one_said : (text : List ℕ) (a b : Said) → Says text a → Says text b → a ≡ b
one_said text a b first second = same_said a b (run_recording beginning (recorded_words text) (length text)) first second

-- A text has one first fault.
pub one_fault : (text : List ℕ) (e f : VcdErr) → FirstFault text e → FirstFault text f → e ≡ f
one_fault text e f first second =
    same_error e f (run_recording beginning (recorded_words text) (length text)) (refused_run text e first) (refused_run text f second)
