-- What a read of the opened file does to what is seen of a shelf.
use Rattle.std.proofs.Common.{◌≡◌, ◌∙◌, ap, sym, ℕ, ◌<◌, ◌≤◌, List, [], ◌++◌, drop, take, length, true, string_bytes, refl, arith, Ok}
use Rattle.base_shelf.specs.Shelf.{Files, Opened as OpenedFile, ReadStep, bytes_of}
use Rattle.base_shelf.specs.NamedFiles.{File, files_of}
use Rattle.base_files.specs.Stage.{files_in, hand_of, unread_in, written_in}
use Rattle.base_files.specs.Seen.{shelf_seen}
use Rattle.base_files.specs.declared.stage.Opened.{Opened}
use Rattle.base_files.specs.declared.stage.Stage.{Stage}
use Rattle.base_files.specs.declared.stage.Stage.TheVariants.{Reading}

hand_in : (stage : Stage) (opened : Opened) → stage ≡ Reading opened → hand_of stage ≡ OpenedFile (string_bytes opened.name)
hand_in stage opened is = ap hand_of is

text_in : (stage : Stage) (opened : Opened) (texts : Files) (text : List ℕ) → stage ≡ Reading opened
    → text ≡ bytes_of (texts (string_bytes opened.name)) → unread_in stage texts ≡ drop opened.done text
text_in stage opened texts text is text_is = ap (λ (s : Stage). unread_in s texts) is ∙ ap (λ (l : List ℕ). drop opened.done l) (sym text_is)

-- The text is that of the opened file, and its next bytes were given.
pub read_step : (before after : Stage) (opened left : Opened) (texts : List File) (reads writes n : ℕ) (name text buffer : List ℕ)
    → before ≡ Reading opened → after ≡ Reading left → left.name ≡ opened.name
    → name ≡ string_bytes opened.name → text ≡ bytes_of (files_of texts name)
    → n ≤ length buffer → drop opened.done text ≡ take n buffer ++ drop left.done text → (n ≡ 0 → 0 < length buffer → drop opened.done text ≡ [])
    → ReadStep true (shelf_seen before texts reads writes) (shelf_seen after texts reads writes) buffer (Ok n)
read_step before after opened left texts reads writes n name text buffer was is same_name name_is text_is bound bytes end =
    let here : text ≡ bytes_of (files_of texts (string_bytes opened.name)) = text_is ∙ ap (λ (l : List ℕ). bytes_of (files_of texts l)) name_is in
    let there : text ≡ bytes_of (files_of texts (string_bytes left.name)) = here ∙ ap (λ s. bytes_of (files_of texts (string_bytes s))) (sym same_name) in
    let old : unread_in before (files_of texts) ≡ drop opened.done text = text_in before opened (files_of texts) text was here in
    let new : unread_in after (files_of texts) ≡ drop left.done text = text_in after left (files_of texts) text is there in
    record {
      later = record { reads = λ _. omega arith; writes = λ _. omega arith; begun = refl };
      counts = record { reads = λ _. refl; writes = λ _. refl };
      files = ap (λ (s : Stage). files_in s (files_of texts)) is ∙ sym (ap (λ (s : Stage). files_in s (files_of texts)) was);
      written = ap written_in is ∙ sym (ap written_in was);
      hand = hand_in after left is ∙ ap (λ s. OpenedFile (string_bytes s)) same_name ∙ sym (hand_in before opened was);
      bound = bound;
      bytes = λ _ _ _. old ∙ bytes ∙ ap (λ (l : List ℕ). take n buffer ++ l) (sym new);
      end = λ _ _ none room _. old ∙ end none room;
      idle = λ none. absurd (none _ (hand_in before opened was));
      err = tt;
      fault = λ h. absurd (cc);
    }
