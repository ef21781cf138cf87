-- A value that the words after a command give is one that its option takes.
use Rattle.std.proofs.Common.{◌≡◌, ◌∙◌, List, [], ◌∷◌, map, Option, Some, None, Bool, true, false, cond, codes, refl, sym, ap, subst}
use Rattle.std.specs.Prelude.{option_map}
use Rattle.std.specs.List.{AllByRecursion}
use Rattle.std.specs.Str.{bytes_eq}
use Rattle.base_line.specs.declared.option.Opt.{Opt}
use Rattle.base_line.specs.Line.{Fits, IsKnown, Item, Text, given, name_in, named, value_in}
use Rattle.base_line.specs.Read.{options_by}
use Rattle.base_line.specs.Tables.{Plain, PlainKind, plain, plain_kind}
use Rattle.base_line.proofs.Alike.{FitsPlain, to_plain}
use Rattle.base_line.proofs.Rows.{same_text}
use Rattle.cmd_set.specs.Command.{Command, IsLineOf}

-- The option of a name, as a table has it.
abbrev pub plain_named : List Plain → Text → Option Plain
plain_named [] name = None
plain_named (p ∷ ps) name = cond (bytes_eq p.name name) (Some p) (plain_named ps name)

plain_of : (os : List Opt) (name : Text) → plain_named (map plain os) name ≡ option_map plain (named os name)
plain_of [] name = refl
plain_of (o ∷ os) name = go (plain_of os name) (bytes_eq o.name.now name) refl
  where
    go : plain_named (map plain os) name ≡ option_map plain (named os name) → (t : Bool) → bytes_eq o.name.now name ≡ t → cond (bytes_eq o.name.now name) (Some (plain o)) (plain_named (map plain os) name)
        ≡ option_map plain (cond (bytes_eq o.name.now name) (Some o) (named os name))
    go later true is = rw is refl
    go later false is = rw is later

record IsTaken (options : List Opt) (name value : Text) : Type 0 where
  option : Opt
  is : named options name ≡ Some option
  fits : Fits option.kind value

taken : (options : List Opt) (items : List Item) → AllByRecursion (IsKnown options) items → (name value : Text) → given items name ≡ Some value → IsTaken options name value
taken options [] known name value is = absurd (let bad : None ≡ Some value = is in cc)
taken options (item ∷ items) known name value is = go (taken options items known.1 name value) (bytes_eq (name_in item) name) refl is
  where
    go : (given items name ≡ Some value → IsTaken options name value) → (t : Bool) → bytes_eq (name_in item) name ≡ t → cond t (Some (value_in item)) (given items name) ≡ Some value → IsTaken options name value
    go later true same found =
        let here : name_in item ≡ name = same_text (name_in item) name same in
        let is_value : value_in item ≡ value = (let both : Some (value_in item) ≡ Some value = found in cc) in
        record {
          option = known.0.option;
          is = sym (ap (named options) here) ∙ known.0.is;
          fits = subst (λ (v : Text). Fits known.0.option.kind v) is_value known.0.fits;
        }
    go later false same found = later found

some_plain : (a b : Plain) → Some a ≡ Some b → a ≡ b
some_plain a b same = cc

shown : (b : Bool) (o : Option Text) (value : Text) → cond b None o ≡ Some value → o ≡ Some value
shown true o value is = absurd (let bad : None ≡ Some value = is in cc)
shown false o value is = is

module _ {C : Type 0} (c : Command C) (rest : List Text) (v : c.Values) (l : IsLineOf c rest v) (name value : Text) (has : options_by (given l.items) name ≡ Some value)
    (p : Plain) (is : plain_named c.table name ≡ Some p) where
  its : IsTaken l.options name value
  its = taken l.options l.items l.line.known name value (shown (bytes_eq name (codes "FILE")) (given l.items name) value has)

  kind_is : plain_kind its.option.kind ≡ p.values
  kind_is =
      let found : Some (plain its.option) ≡ Some p =
      sym (ap (λ (o : Option Opt). option_map plain o) its.is) ∙ sym (plain_of l.options name)
      ∙ ap (λ (ps : List Plain). plain_named ps name) l.table ∙ is in
      ap (λ (q : Plain). q.values) (some_plain (plain its.option) p found)

  pub value_fits : FitsPlain p.values value
  value_fits = subst (λ (k : PlainKind). FitsPlain k value) kind_is (to_plain its.option.kind value its.fits)
