-- What a reader ensures whose answer is that of the run.
use Rattle.std.proofs.Common.{◌≡◌, ◌≢◌, ℕ, List, false, Option, Some, None, Result, Ok, Err, refl}
use Rattle.std.specs.Prelude.{length, IfOk, IfErr, IfSome, MatchResult}
use Rattle.netlist_tokens.specs.Left.{Left}
use Rattle.netlist_tokens.specs.Tokens.{Tokens}
use Rattle.netlist_tokens.specs.declared.token.LexErr.{LexErr}
use Rattle.netlist_grammar.specs.Lexemes.{ending, tokens_of, stop_of, is_left_out}
use Rattle.netlist_grammar.specs.Machine.{Answers, parse_of}
use Rattle.netlist_grammar.specs.Text.{Text}
use Rattle.netlist_grammar.specs.Refusal.{RefusesFirst}
use Rattle.netlist_grammar.specs.Fault.{fault_in}
use Rattle.netlist_grammar.specs.Source.{IsTree, IsRefused}
use Rattle.netlist_grammar.specs.Whole.{IsWhole}
use Rattle.netlist_grammar.specs.declared.refusal.ParseErr.{ParseErr}
use Rattle.netlist_grammar.specs.declared.refusal.ParseErr.TheVariants.{Lex, Unexpected, OutOfProfile, Memory}
use Rattle.netlist_grammar.specs.declared.tree.Source.{Source}
use Rattle.netlist_grammar.proofs.Follows.{is_read}
use Rattle.netlist_grammar.proofs.Accepts.{is_in_grammar}
use Rattle.netlist_grammar.proofs.Viable.{is_refused}
use Rattle.netlist_grammar.proofs.WholeTrees.{tree_is_whole}

no_fault : (size : ℕ) (fault : Option LexErr) → (stop_of size fault).what ≡ ending → fault ≡ None
no_fault size None h = refl
no_fault size (Some e) h = absurd cc

ends : (size : ℕ) (fault : Option LexErr) → fault ≡ None → (stop_of size fault).what ≡ ending
ends size None h = refl
ends size (Some e) h = absurd cc

is_no_item : (size : ℕ) (fault : Option LexErr) → is_left_out (stop_of size fault).what ≡ false
is_no_item size None = refl
is_no_item size (Some e) = refl

-- A reader of a text answers as the run over its tokens does.
module _ (bytes : List ℕ) (told : (left : Left) × Tokens 0 bytes left) (r : Result Source ParseErr) (answers : (left : Left) → Tokens 0 bytes left → Answers r (tokens_of bytes left)) where
  found_in : (left : Left) → Tokens 0 bytes left → (tree : Source) → Answers (Ok tree) (tokens_of bytes left) → IsTree bytes tree
  found_in left tokens tree h =
      let a = is_in_grammar (tokens_of bytes left).tokens (tokens_of bytes left).stop tree h in
      record { left = left; told = tokens; parsed = a.0; whole = no_fault (length bytes) left.fault a.1 }

  pub found_is : IfOk r (IsTree bytes)
  found_is = elim r as (λ r. Answers r (tokens_of bytes told.0) → IfOk r (IsTree bytes)) [ Ok tree ↦ λ h. found_in told.0 told.1 tree h | Err e ↦ λ h. tt ] (answers told.0 told.1)

  pub whole_is : IfOk r IsWhole
  whole_is = elim r as (λ r. Answers r (tokens_of bytes told.0) → IfOk r IsWhole) [ Ok tree ↦ λ h. tree_is_whole bytes tree (found_in told.0 told.1 tree h) | Err e ↦ λ h. tt ] (answers told.0 told.1)

  only_in : (left : Left) (r : Result Source ParseErr) → Answers r (tokens_of bytes left) → (tree : Source)
      → Text (tokens_of bytes left).tokens tree → left.fault ≡ None
      → MatchResult r (λ found. found ≡ tree) (λ e. e ≡ Memory)
  only_in left (Ok found) h tree d q =
      let k : parse_of (tokens_of bytes left) ≡ Ok tree = is_read (tokens_of bytes left).stop (ends (length bytes) left.fault q) d in
      cc
  only_in left (Err Memory) h tree d q = refl
  only_in left (Err (Lex e)) h tree d q =
      let k : parse_of (tokens_of bytes left) ≡ Ok tree = is_read (tokens_of bytes left).stop (ends (length bytes) left.fault q) d in
      let l = h (λ q. cc) in absurd cc
  only_in left (Err (Unexpected e)) h tree d q =
      let k : parse_of (tokens_of bytes left) ≡ Ok tree = is_read (tokens_of bytes left).stop (ends (length bytes) left.fault q) d in
      let l = h (λ q. cc) in absurd cc
  only_in left (Err (OutOfProfile e)) h tree d q =
      let k : parse_of (tokens_of bytes left) ≡ Ok tree = is_read (tokens_of bytes left).stop (ends (length bytes) left.fault q) d in
      let l = h (λ q. cc) in absurd cc

  pub only_is : (tree : Source) → IsTree bytes tree → MatchResult r (λ found. found ≡ tree) (λ e. e ≡ Memory)
  only_is tree is = only_in is.left r (answers is.left is.told) tree is.parsed is.whole

  refused_in : (e : ParseErr) → Answers (Err e) (tokens_of bytes told.0) → e ≢ Memory
      → RefusesFirst (tokens_of bytes told.0).tokens (tokens_of bytes told.0).stop e
  refused_in e h ne = is_refused (tokens_of bytes told.0).tokens (tokens_of bytes told.0).stop e (is_no_item (length bytes) told.0.fault) (h ne)

  first_in : (r : Result Source ParseErr) → Answers r (tokens_of bytes told.0) → IfErr r (λ e. IfSome (fault_in e) (IsRefused bytes))
  first_in (Ok tree) h = tt
  first_in (Err (Lex e)) h = record { left = told.0; told = told.1; first = refused_in (Lex e) h (λ q. cc) }
  first_in (Err (Unexpected at)) h = record { left = told.0; told = told.1; first = refused_in (Unexpected at) h (λ q. cc) }
  first_in (Err (OutOfProfile at)) h = record { left = told.0; told = told.1; first = refused_in (OutOfProfile at) h (λ q. cc) }
  first_in (Err Memory) h = tt

  pub first_is : IfErr r (λ e. IfSome (fault_in e) (IsRefused bytes))
  first_is = first_in r (answers told.0 told.1)
