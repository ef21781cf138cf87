-- Files written, then put, then given up where that failed.
use Rattle.std.proofs.Common.{◌≡◌, ◌∙◌, ℕ, ◌+◌, List, length, Bool, Some, IsTrue, Result, Ok, Err, inl, inr, refl, sym, ap, subst, Option}
use Rattle.std.specs.Prelude.{◌⊎◌}
use Rattle.base_shelf.specs.Shelf.{DiscardStep, Files, View, bytes_of, gathered}
use Rattle.base_run.specs.Outputs.{DeliveredTo, File, FilesDelivered, FilesPut, FilesWritten, IsClosed, IsWhole, LeavesUpTo, StandsOrStays, StandsWritten, WrittenTo}
use Rattle.base_run.specs.declared.undelivered.Undelivered.{Undelivered}
use Rattle.base_run.proofs.Steps.{later_twice, same_twice, unwritten_after, unwritten_before}

-- What was written of a file is its bytes.
gathered_bytes : (file : File) (old : View) → old.written file.name ≡ Some file.bytes → Some (gathered old file.name) ≡ Some file.bytes
gathered_bytes file old is = ap (λ (o : Option (List ℕ)). Some (bytes_of o)) is

pub put_whole : (told : Bool) (file : File) (start old new : View) → old.written ≡ start.written → IsWhole told start.written file → StandsWritten told file old new
    → IsWhole told new.files file
put_whole told file start old new same whole stands = λ t. stands t ∙ gathered_bytes file old (ap (λ (f : Files). f file.name) same ∙ whole t)

pub put_part : (told : Bool) (file : File) (start old new : View) → old.written ≡ start.written → IsWhole told start.written file → StandsOrStays told file old new
    → IsTrue told → (new.files file.name ≡ old.files file.name) ⊎ (new.files file.name ≡ Some file.bytes)
put_part told file start old new same whole part t = by (part t)
  where
    by : (new.files file.name ≡ old.files file.name) ⊎ (new.files file.name ≡ Some (gathered old file.name)) → (new.files file.name ≡ old.files file.name) ⊎ (new.files file.name ≡ Some file.bytes)
    by (inl stays) = inl stays
    by (inr stands) = inr (stands ∙ gathered_bytes file old (ap (λ (f : Files). f file.name) same ∙ whole t))

closed_twice : (a b c : View) → IsClosed a b → IsClosed b c → IsClosed a c
closed_twice a b c first (inl none) = inl none
closed_twice a b c (inl none) (inr same) = inl (same ∙ none)
closed_twice a b c (inr kept) (inr same) = inr (same ∙ kept)

module _ (told : Bool) (files : List File) where
  -- The same views in other words.
  pub delivered_same : (k : ℕ) (a b c d : View) → DeliveredTo told k files a c → a.written ≡ b.written → a.files ≡ b.files → c.written ≡ d.written → c.files ≡ d.files
      → DeliveredTo told k files b d
  delivered_same k a b c d all written put written_new put_new = record {
    written = subst (λ (f : Files). WrittenTo told (length files) files b.written f) written_new
        (subst (λ (f : Files). WrittenTo told (length files) files f c.written) written all.written);
    put = subst (λ (f : Files). WrittenTo told k files b.files f) put_new (subst (λ (f : Files). WrittenTo told k files f c.files) put all.put);
  }

  pub left_same : (i : ℕ) (a b c d : View) → LeavesUpTo told files i a c → a.written ≡ b.written → a.files ≡ b.files → c.written ≡ d.written → c.files ≡ d.files
      → LeavesUpTo told files i b d
  left_same i a b c d (inl same) written put written_new put_new = inl (sym put_new ∙ same ∙ put)
  left_same i a b c d (inr (k, up, all)) written put written_new put_new = inr (k, up, delivered_same k a b c d all written put written_new put_new)

  pub unwritten : (old new : View) (e : Undelivered) → FilesWritten told files old new (Err e) → FilesDelivered told files old new (Err e)
  unwritten old new e step = record {
    later = step.later;
    ends = (step.ends.0, record { at = step.ends.1; left = inl step.same });
  }

  pub written_put : (old mid new : View) (result : Result Unit Undelivered) → FilesWritten told files old mid (Ok tt) → FilesPut told files mid new result
      → FilesDelivered told files old new result
  written_put old mid new (Ok _) step put = record {
    later = later_twice old mid new step.later put.later;
    ends = (
      record {
        written = subst (λ (f : Files). WrittenTo told (length files) files old.written f) (sym put.written) step.ends.0;
        put = subst (λ (f : Files). WrittenTo told (length files) files f new.files) step.same put.ends.0;
      },
      same_twice old mid new step.ends.1 put.ends.1,
      closed_twice old mid new step.ends.2 put.ends.2,
    );
  }
  written_put old mid new (Err e) step (put) =
      let i = put.ends.0 in
      let at = put.ends.1 in
      let left = put.ends.2 in
      record {
        later = later_twice old mid new step.later put.later;
        ends = (
          i,
          record {
            at = record { file = at.file; is = at.is; cause = unwritten_after at.file old mid new e step.later step.ends.1 at.cause };
            left = inr (
              left.0,
              left.1,
              record {
                written = subst (λ (f : Files). WrittenTo told (length files) files old.written f) (sym put.written) step.ends.0;
                put = subst (λ (f : Files). WrittenTo told left.0 files f new.files) step.same left.2;
              },
            );
          },
        );
      }

  pub discarded : (old mid new : View) (e : Undelivered) → FilesDelivered told files old mid (Err e) → DiscardStep mid new → FilesDelivered told files old new (Err e)
  discarded old mid new e all step =
      let i = all.ends.0 in
      let at = all.ends.1.at in
      record {
        later = later_twice old mid new all.later step.later;
        ends = (
          i,
          record {
            at = record { file = at.file; is = at.is; cause = unwritten_before at.file old mid new e at.cause step.later step.counts };
            left = left_same i old old mid new all.ends.1.left refl refl (sym step.written) (sym step.files);
          },
        );
      }
