-- What a name holds in the list of files is what its text finds in the map of the code.
use Rattle.std.proofs.Common.{◌≡◌, ◌∙◌, ap, sym, ℕ, List, [], ◌∷◌, map, refl, Option, Some, Bool, true, false, cond, String, Vec, string_bytes, option_map, bytes_eq, Result, Ok, Err, OnErr, OnOk, ◌++◌}
use Rattle.std.specs.Map.{lookup}
use Rattle.std.specs.BTreeMap.{BTreeMap, is_at, get_by_text, UpdatesBy}
use Rattle.std.specs.String.{string_cmp}
use Rattle.std.specs.declared.alloc.Global.{Global}
use Rattle.std.proofs.lemmas.Bool.{false_from_ne_true}
use Rattle.std.proofs.lemmas.Slice.Eq.{bytes_eq-Decides}
use Rattle.std.proofs.lemmas.Map.Text.{is_eq-slice_cmp, text_cmp, btree_map_updates_text}
use Rattle.base_shelf.specs.Shelf.{Files, bytes_of}
use Rattle.base_shelf.specs.NamedFiles.{File, files_of, file_of, SetsFile, SameFiles}

abbrev pub Stored : Type 0
Stored = BTreeMap (String Global) (Vec ℕ Global)

abbrev pub items_of : Option (Vec ℕ Global) → Option (List ℕ)
items_of found = option_map (λ v. v.items) found

picked : (b : Bool) (bytes : Vec ℕ Global) (here : Option (List ℕ)) (there : Option (Vec ℕ Global)) → here ≡ items_of there → cond b (Some bytes.items) here ≡ items_of (cond b (Some bytes) there)
picked true bytes here there same = refl
picked false bytes here there same = same

-- The list finds what the map finds.
pub files_of-map : (entries : List (String Global × Vec ℕ Global)) (name : List ℕ) → files_of (map file_of entries) name ≡ items_of (lookup (is_at (text_cmp name)) entries)
files_of-map [] name = refl
files_of-map (entry ∷ rest) name =
    ap (λ (b : Bool). cond b (Some entry.1.items) (files_of (map file_of rest) name)) (sym (is_eq-slice_cmp name (string_bytes entry.0)))
    ∙ picked (is_at (text_cmp name) entry.0) entry.1 (files_of (map file_of rest) name) (lookup (is_at (text_cmp name)) rest) (files_of-map rest name)

-- What a look-up in the map gives is what the name holds.
pub finds : (files : List File) (m : Stored) (name : List ℕ) (found : Option (Vec ℕ Global)) → map file_of m.entries ≡ files → found ≡ get_by_text m name → items_of found ≡ files_of files name
finds files m name found view is = ap items_of is ∙ sym (files_of-map m.entries name) ∙ ap (λ (l : List File). files_of l name) view

differs : (name other : List ℕ) → (other ≡ name → ⊥) → bytes_eq name other ≡ false
differs name other not = false_from_ne_true (bytes_eq name other) (λ same. not (sym ((bytes_eq-Decides name other).0 same)))

-- A map set at a name is the list of files set there.
pub sets : (files : List File) (m n : Stored) (name : List ℕ) (bytes : Vec ℕ Global) → map file_of m.entries ≡ files → UpdatesBy string_cmp (text_cmp name) m n (Some bytes) → SetsFile name bytes.items (files_of files) (files_of (map file_of n.entries))
sets files m n name bytes view updates = record {
  here = files_of-map n.entries name ∙ ap items_of updates.1;
  others = λ other not.
      let after = btree_map_updates_text name m n (Some bytes) updates other in
      files_of-map n.entries other
      ∙ ap items_of (after ∙ ap (λ (b : Bool). cond b (Some bytes) (get_by_text m other)) (differs name other not))
      ∙ sym (files_of-map m.entries other)
      ∙ ap (λ (l : List File). files_of l other) view;
}

-- A name set to what it held changes nothing.
pub sets_same : (name bytes : List ℕ) (old new : Files) → SetsFile name bytes old new → old name ≡ Some bytes → SameFiles old new
sets_same name bytes old new set held other = at_test (bytes_eq name other) (bytes_eq-Decides name other)
  where
    at_test : (b : Bool) → (b ≡ true → name ≡ other) × (name ≡ other → b ≡ true) → new other ≡ old other
    at_test true test = let is = test.0 refl in ap new (sym is) ∙ set.here ∙ sym held ∙ ap old is
    at_test false test = set.others other (λ is. let same : false ≡ true = test.1 (sym is) in cc)

-- What holds anyway holds on an error too.
pub on_any_err : {T E : Type 0} (r : Result T E) (P : Type 0) → P → OnErr r P
on_any_err (Ok x) P holds = tt
on_any_err (Err e) P holds = holds

-- A value that kept its bytes leaves every name as it was.
pub keeps : (files : List File) (m n : Stored) (name : List ℕ) (held after : Vec ℕ Global) → map file_of m.entries ≡ files → Some held ≡ get_by_text m name → UpdatesBy string_cmp (text_cmp name) m n (Some after) → after.items ≡ held.items → SameFiles (files_of files) (files_of (map file_of n.entries))
keeps files m n name held after view is updates same =
    let was = finds files m name (Some held) view is in
    sets_same name after.items (files_of files) (files_of (map file_of n.entries)) (sets files m n name after view updates) (sym was ∙ ap (λ (l : List ℕ). Some l) (sym same))

-- A value that grew is the file with more bytes after it.
pub grows : (files : List File) (m n : Stored) (name more : List ℕ) (held after : Vec ℕ Global) → map file_of m.entries ≡ files → Some held ≡ get_by_text m name → UpdatesBy string_cmp (text_cmp name) m n (Some after) → after.items ≡ held.items ++ more → SetsFile name (bytes_of (files_of files name) ++ more) (files_of files) (files_of (map file_of n.entries))
grows files m n name more held after view is updates grown =
    let set = sets files m n name after view updates in
    let was = finds files m name (Some held) view is in
    record {
      here = set.here ∙ ap (λ (l : List ℕ). Some l) (grown ∙ ap (λ (o : Option (List ℕ)). bytes_of o ++ more) was);
      others = set.others;
    }

-- A file set on success, once its bytes and the files before are written otherwise.
pub sets_as : {E : Type 0} (r : Result (Unit {0}) E) (name bytes wanted : List ℕ) (old before new : Files) → bytes ≡ wanted → before ≡ old → OnOk r (SetsFile name bytes before new) → OnOk r (SetsFile name wanted old new)
sets_as (Err e) name bytes wanted old before new same files set = tt
sets_as (Ok x) name bytes wanted old before new same files set = record {
  here = set.here ∙ ap (λ (l : List ℕ). Some l) same;
  others = λ other not. set.others other not ∙ ap (λ (f : Files). f other) files;
}
