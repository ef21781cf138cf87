-- The words of a refusal.
use Rattle.std.specs.Prelude.{ℕ, List, ◌++◌, codes, decimal}
use Rattle.recording_binding.specs.declared.refusal.BindErr.{BindErr}
use Rattle.recording_binding.specs.declared.refusal.BindErr.TheVariants.{NoScope, RangeDiffers, MissingInput, TooLarge}
use Rattle.recording_binding.specs.declared.refusal.BindErr.TheVariants.{Memory}

abbrev pub text_of : BindErr → List ℕ
text_of NoScope = codes "no scope"
text_of (RangeDiffers variable) = codes "range differs"
text_of (MissingInput net) = codes "missing input"
text_of (TooLarge places) = codes "too large places " ++ decimal places
text_of Memory = codes "memory"
