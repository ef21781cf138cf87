-- Places as they are printed.
use Rattle.std.specs.Prelude.{ℕ, ◌/◌, ◌%◌, List, ◌++◌, codes, decimal, slice_index}
use Rattle.design_circuit.specs.Design.{name_in}
use Rattle.design_circuit.specs.Name.{written_name}
use Rattle.design_circuit.specs.declared.place.Place.{Place}
use Rattle.wave_proved.specs.Contents.{Contents}

-- The time of the moment of a step.
abbrev pub time_of : Contents → ℕ → ℕ
time_of c step = slice_index c.stim.times (step / c.stim.rounds)

-- The written name of a place's net.
abbrev pub name_at : Contents → Place → List ℕ
name_at c place = written_name (name_in c.design place.net)

-- `#T NAME`
abbrev pub bit_text : Contents → Place → List ℕ
bit_text c place = codes "#" ++ decimal (time_of c place.step) ++ codes " " ++ name_at c place

-- `NAME #T round J`
abbrev pub place_text : Contents → Place → List ℕ
place_text c place =
    name_at c place ++ codes " #" ++ decimal (time_of c place.step) ++ codes " round "
    ++ decimal (place.step % c.stim.rounds)

-- `#T round J NAME`
unfoldable pub timed_text : Contents → Place → List ℕ
timed_text c place =
    codes "#" ++ decimal (time_of c place.step) ++ codes " round " ++ decimal (place.step % c.stim.rounds) ++ codes " "
    ++ name_at c place

-- A place of a filling: a space, its step, a space and the number of its net.
abbrev pub listed_text : Place → List ℕ
listed_text place = codes " " ++ decimal place.step ++ codes " " ++ decimal place.net
