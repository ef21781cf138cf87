-- A code that is found is declared.
use Rattle.std.proofs.Common.{◌<◌, Option, IfSome, length, refl, sym, subst}
use Rattle.recording_reader.specs.Declarations.{Declarations}
use Rattle.recording_codes.specs.declared.codes.Found.{Found}
use Rattle.recording_reader.proofs.Found.{found_within}
use Rattle.recording_reader.proofs.declarations.Declarations.find.Goals as goal

pub returns-clause-within : goal.returns-clause-within
returns-clause-within c =
    let P : Option Found → Type 0 = λ r. IfSome r (λ (found : Found). found.number < length c.self.inside.codes) in
    let Q : Declarations → Type 0 = λ h. IfSome c.find.result (λ (found : Found). found.number < length h.codes) in
    subst Q c.self.view_is (subst P (sym c.find.ensures) (found_within c.self.inside.codes c.args.text.now (length c.self.inside.codes) refl))
