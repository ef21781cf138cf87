-- Files of one line more.
use Rattle.std.proofs.Common.{◌≡◌, ◌∙◌, ℕ, ◌+◌, ◌<◌, List, [], ◌∷◌, ◌++◌, length, take, get_or, Option, Result, Ok, Err, codes, refl, sym, ap, ap₂, subst, arith}
use Rattle.std.specs.Prelude.{ℤ, OnOk}
use Rattle.std.proofs.lemmas.List.{append_assoc, length-take-le, take_more}
use Rattle.law_model.specs.declared.line.Line.{Line as ALine}
use Rattle.base_run.specs.Outputs.{File}
use Rattle.wave_proved.specs.Contents.{Contents, job}
use Rattle.base_lists.specs.declared.memory.Memory.{Memory}
use Rattle.decide_cnf.specs.Query.{IsQueryOf}
use Rattle.design_circuit.specs.Job.{number_of}
use Rattle.sat_dimacs.specs.Text.{cnf_text}
use Rattle.sat_proof.specs.declared.clause.Cnf.{Cnf}
use Rattle.cert_export.specs.Adding.{Adds}
use Rattle.cert_export.specs.Export.{AreFiles, AreFilesOf, file, line_name, log_files, log_of}

append_nil : (fs : List File) → fs ++ [] ≡ fs
append_nil [] = refl
append_nil (f ∷ fs) = ap (λ (l : List File). f ∷ l) (append_nil fs)

module _ (c : Contents) (prefix : List ℕ) where
  one_more : (number : ℕ) (lines : List ALine) (line : ALine) (files own : List File) → AreFiles c prefix number lines files
      → AreFilesOf c prefix (number + length lines) line own → AreFiles c prefix number (lines ++ line ∷ []) (files ++ own)
  one_more number [] line files own none are =
      let first = subst (λ (n : ℕ). AreFilesOf c prefix n line own) (let same : number + 0 ≡ number = omega arith in same) are in
      (own, [], first, refl, ap (λ (l : List File). l ++ own) none ∙ sym (append_nil own))
  one_more number (l ∷ ls) line files own (first, rest, is, more, split) are =
      let last = subst (λ (n : ℕ). AreFilesOf c prefix n line own) (let same : number + length {A = ALine} (l ∷ ls) ≡ number + 1 + length ls = omega arith in same) are in
      (first, rest ++ own, is, one_more (number + 1) ls line rest own more last, ap (λ (l : List File). l ++ own) split ∙ append_assoc first rest own)

  -- So with those of a first line.
  added : (lines : List ALine) (line : ALine) (old mid new : List File) → Adds (AreFiles c prefix 1 lines) old mid
      → Adds (AreFilesOf c prefix (length lines + 1) line) mid new → Adds (AreFiles c prefix 1 (lines ++ line ∷ [])) old new
  added lines line old mid new first second =
      let here = subst (λ (n : ℕ). AreFilesOf c prefix n line second.own) (let same : length lines + 1 ≡ 1 + length lines = omega arith in same) second.are in record {
        own = first.own ++ second.own;
        are = one_more 1 lines line first.own second.own first.are here;
        is = second.is ∙ ap (λ (l : List File). l ++ second.own) first.is ∙ append_assoc old first.own second.own;
      }

  -- The next line of some.
  pub next_added : (lines : List ALine) (i : ℕ) (line : ALine) (old mid new : List File) → i < length lines → line ≡ get_or lines i line
      → Adds (AreFiles c prefix 1 (take i lines)) old mid → Adds (AreFilesOf c prefix (i + 1) line) mid new
      → Adds (AreFiles c prefix 1 (take (i + 1) lines)) old new
  next_added lines i line old mid new within is first second =
      let long : length (take i lines) ≡ i = length-take-le i lines (omega (arith, within)) in
      let more : take (i + 1) lines ≡ take i lines ++ line ∷ [] = take_more lines i line within ∙ ap (λ (l : ALine). take i lines ++ l ∷ []) (sym is) in
      let here = subst (λ (n : ℕ). Adds (AreFilesOf c prefix n line) mid new) (ap (λ (n : ℕ). n + 1) (sym long)) second in
      subst (λ (ls : List ALine). Adds (AreFiles c prefix 1 ls) old new) (sym more) (added (take i lines) line old mid new first here)

  pub none_added : (old : List File) → Adds (AreFiles c prefix 1 []) old old
  none_added old = record { own = []; are = refl; is = sym (append_nil old) }

  -- The files of one line.
  pub line_added : (number : ℕ) (line : ALine) (query : Cnf) (old mid new : List File) (name bytes : List ℕ) (log : Option (List (List ℤ)))
      → IsQueryOf c (number_of (job c) line.place) query → name ≡ line_name prefix number (codes ".cnf") → bytes ≡ cnf_text query.vars query.clauses
      → log ≡ log_of line.body → mid ≡ old ++ file name bytes ∷ [] → new ≡ mid ++ log_files prefix number log
      → Adds (AreFilesOf c prefix number line) old new
  line_added number line query old mid new name bytes log is named written logged first second =
      let own : File = file (line_name prefix number (codes ".cnf")) (cnf_text query.vars query.clauses) in
      let same : file name bytes ≡ own = ap₂ file named written in record {
        own = own ∷ log_files prefix number (log_of line.body);
        are = record { query = query; is_query = is; are = refl };
        is = second ∙ ap₂ (λ (l m : List File). l ++ m) (first ∙ ap (λ (f : File). old ++ f ∷ []) same) (ap (log_files prefix number) logged)
            ∙ append_assoc old (own ∷ []) (log_files prefix number (log_of line.body));
      }

pub on_ok : {X : Type 0} (r : Result X Memory) (P Q : Type 0) → (P → Q) → OnOk r P → OnOk r Q
on_ok (Ok x) P Q go is = go is
on_ok (Err e) P Q go is = tt
