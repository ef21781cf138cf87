-- Choices by numbers: bit k of `care` says whether argument k is chosen, bit k of `bits` which bit it has.
use Rattle.std.specs.Prelude.{◌≡◌, ◌≢◌, ℕ, ◌<◌, ◌≤◌, ◌/◌, ◌%◌, ◌^◌, ◌==◌, Bool, true, List, length}
use Rattle.std.specs.List.{All, AllPairs, Contains}
use Rattle.design_cell.specs.declared.value.Value.{Value}
use Rattle.law_model.specs.Node.{upto, table_of}
use Rattle.law_model.specs.Query.{Forces, IsChoice}
use Rattle.decide_choices.specs.declared.choice.Choice.{Choice}

-- Bit k of a number, the lowest being bit 0.
abbrev pub bit_in : ℕ → ℕ → Bool
bit_in number k = number / 2 ^ k % 2 == 1

-- Whether an argument is chosen, and its bit.
abbrev pub chosen_in : Choice → ℕ → Bool
chosen_in choice = bit_in choice.care

abbrev pub bits_in : Choice → ℕ → Bool
bits_in choice = bit_in choice.bits

-- A table of values over at most 13 arguments: value i is that of the bits of the number i.
pub record IsValueTable (count : ℕ) (values : List Value) : Type 0 where
  pub few : count ≤ 13
  pub long : length values ≡ 2 ^ count

abbrev pub HasTable : List Value → Type 0
HasTable values = (count : ℕ) × IsValueTable count values

-- A choice of some of the first arguments. What isn't chosen has 0.
pub record IsAmong (count : ℕ) (choice : Choice) : Type 0 where
  pub care : choice.care < 2 ^ count
  pub bits : choice.bits < 2 ^ count
  pub no_other : (k : ℕ) → bits_in choice k ≡ true → chosen_in choice k ≡ true

-- It forces a bit in a table,
abbrev pub ForcesIn : List Value → ℕ → Bool → Choice → Type 0
ForcesIn values count bit choice = Forces (table_of values count) (chosen_in choice) (bits_in choice) bit

-- and is a minimal choice that does.
abbrev pub IsMinimalIn : List Value → ℕ → Bool → Choice → Type 0
IsMinimalIn values count bit choice =
    IsChoice (upto count) (table_of values count) (chosen_in choice) (bits_in choice) bit

-- Nothing is chosen.
abbrev pub nothing_chosen : Choice
nothing_chosen = record { care = 0; bits = 0 }

-- It is the choice of given bits for what is chosen.
pub record StandsFor (choice : Choice) (chosen bits : ℕ → Bool) : Type 0 where
  pub is_chosen : (k : ℕ) → chosen_in choice k ≡ chosen k
  pub has_bits : (k : ℕ) → chosen k ≡ true → bits_in choice k ≡ bits k

pub record IsFoundChoice (choices : List Choice) (chosen bits : ℕ → Bool) : Type 0 where
  pub choice : Choice
  pub inside : Contains choices choice
  pub stands : StandsFor choice chosen bits

-- No choice stands twice.
abbrev pub StandOnce : List Choice → Type 0
StandOnce choices = AllPairs (λ a b. a ≢ b) choices

-- The minimal choices of a table that force a bit: these, all of them, each once.
pub record AreChoices (values : List Value) (count : ℕ) (bit : Bool) (choices : List Choice) : Type 0 where
  pub among : All (IsAmong count) choices
  pub each : All (IsMinimalIn values count bit) choices
  pub all : (chosen bits : ℕ → Bool) → IsChoice (upto count) (table_of values count) chosen bits bit
      → IsFoundChoice choices chosen bits
  pub once : StandOnce choices

abbrev pub AreMinimalChoices : List Value → Bool → List Choice → Type 0
AreMinimalChoices values bit choices = (count : ℕ) → length values ≡ 2 ^ count → AreChoices values count bit choices
