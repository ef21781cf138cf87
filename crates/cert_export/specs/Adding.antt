-- How the files come together, and where a line stands in a wave.
use Rattle.std.specs.Prelude.{◌≡◌, List, ◌++◌}
use Rattle.design_circuit.specs.Job.{number_of}
use Rattle.design_circuit.specs.declared.place.Place.{Place}
use Rattle.law_model.specs.declared.class.ClassByNumber.TheVariants as class
use Rattle.base_run.specs.Outputs.{File}
use Rattle.wave_proved.specs.Contents.{Contents, IsReached, class_in, job}

-- Files of which this holds come after others.
pub record Adds (Are : List File → Type 0) (old new : List File) : Type 0 where
  pub own : List File
  pub are : Are own
  pub is : new ≡ old ++ own

-- A place is written, or the next one, and its class is Line.
pub record IsLineIn (c : Contents) (place : Place) : Type 0 where
  pub reached : IsReached c place
  pub line : class_in c (number_of (job c) place) ≡ class.Line
