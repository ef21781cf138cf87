-- A list of options, as a table to read.
use Rattle.std.specs.Prelude.{ℕ, Bool, true, false, List, map}
use Rattle.base_line.specs.declared.option.Kind.{Kind}
use Rattle.base_line.specs.declared.option.Kind.TheVariants as kind
use Rattle.base_line.specs.declared.option.Opt.{Opt}
use Rattle.base_line.specs.Line.{Text}

-- What the value of an option is, without where its words lie in memory
pub data PlainKind : Type 0 where
  Reads : PlainKind
  Writes : PlainKind
  Prefix : PlainKind
  Module : PlainKind
  Scope : PlainKind
  Number : ℕ → ℕ → PlainKind
  Word : List Text → PlainKind
  Either : Text → Text → PlainKind
  Sets : PlainKind

abbrev pub plain_kind : Kind → PlainKind
plain_kind kind.Reads = Reads
plain_kind kind.Writes = Writes
plain_kind kind.Prefix = Prefix
plain_kind kind.Name = Module
plain_kind kind.Scope = Scope
plain_kind (kind.Number least most) = Number least most
plain_kind (kind.Word words) = Word (map (λ w. w.now) words.now)
plain_kind (kind.Either one other) = Either one.now other.now
plain_kind kind.Sets = Sets

pub record Plain : Type 0 where
  pub name : Text
  pub required : Bool
  pub values : PlainKind

abbrev pub plain : Opt → Plain
plain o = record { name = o.name.now; required = o.required; values = plain_kind o.kind }

abbrev pub needs : Text → PlainKind → Plain
needs name values = record { name = name; required = true; values = values }

abbrev pub takes : Text → PlainKind → Plain
takes name values = record { name = name; required = false; values = values }
