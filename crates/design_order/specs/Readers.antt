-- The readers of each net: for each a chain of links through one table. No contract of a public call names it.
use Rattle.std.specs.Prelude.{◌≡◌, ℕ, ◌<◌, Option, Some, None, List, length, slice_index_or, Contains}
use Rattle.design_circuit.specs.Order.{arguments_of_driver}
use Rattle.design_circuit.specs.declared.design.Driver.{Driver}
use Rattle.design_order.specs.declared.readers.Link.{Link}
use Rattle.design_order.specs.declared.readers.Readers.{Readers}

abbrev pub no_link : Link
no_link = record { reader = 0; next = None }

abbrev pub link_at : List Link → ℕ → Link
link_at links e = slice_index_or links e no_link

abbrev pub head_at : List (Option ℕ) → ℕ → Option ℕ
head_at heads net = slice_index_or heads net None

-- A reader stands in the chain that begins at a link.
pub data InChain (links : List Link) : Option ℕ → ℕ → Type 0 where
  here : (e : ℕ) → e < length links → InChain links (Some e) (link_at links e).reader
  there : (e net : ℕ) → e < length links → InChain links (link_at links e).next net → InChain links (Some e) net

-- Links lead back, and each has a net as reader.
pub record IsReaderLinks (width : ℕ) (heads : List (Option ℕ)) (links : List Link) : Type 0 where
  pub long : length heads ≡ width
  pub head : (net e : ℕ) → head_at heads net ≡ Some e → e < length links
  pub back : (e f : ℕ) → e < length links → (link_at links e).next ≡ Some f → f < e
  pub reader : (e : ℕ) → e < length links → (link_at links e).reader < width

abbrev pub IsTableOf : ℕ → Readers → Type 0
IsTableOf width readers = IsReaderLinks width readers.heads.items readers.links.items

-- Each of the first nets stands among the readers of each of its arguments.
abbrev pub AreReaders : (ℕ → Driver) → ℕ → Readers → Type 0
AreReaders driver end readers =
    (net argument : ℕ) → net < end → Contains (arguments_of_driver (driver net)) argument
    → InChain readers.links.items (head_at readers.heads.items argument) net

-- A net is a reader of some nets more, and who read before reads still.
pub record Adds (heads : List (Option ℕ)) (links : List Link) (new_heads : List (Option ℕ)) (new_links : List Link)
    (arguments : List ℕ) (net : ℕ) : Type 0 where
  pub table : IsReaderLinks (length heads) new_heads new_links
  pub keeps : (argument reader : ℕ) → InChain links (head_at heads argument) reader
      → InChain new_links (head_at new_heads argument) reader
  pub added : (argument : ℕ) → Contains arguments argument → InChain new_links (head_at new_heads argument) net

abbrev pub AddsTo : Readers → Readers → List ℕ → ℕ → Type 0
AddsTo old new arguments net = Adds old.heads.items old.links.items new.heads.items new.links.items arguments net
