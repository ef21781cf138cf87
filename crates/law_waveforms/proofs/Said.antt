-- What is said of the next place of a sound waveform is so.
use Rattle.std.proofs.Common.{◌≡◌, ℕ, ◌<◌, Bool, true, false, List, [], ◌∷◌, ◌++◌, length, refl, sym, ap, ◌∙◌, arith, subst, Some, Option, ◌==◌, if◌then◌else◌}
use Rattle.design_cell.specs.declared.value.Value.{Value}
use Rattle.design_circuit.specs.declared.waveform.Written.{Written}
use Rattle.design_circuit.specs.Job.{Job, number_of, places_of}
use Rattle.design_circuit.specs.Fits.{Fits}
use Rattle.design_circuit.specs.Waveform.{certain, written_at}
use Rattle.design_circuit.proofs.Numbers.{number_of_place_at}
use Rattle.law_model.specs.Class.{class_of}
use Rattle.law_model.specs.Growth.{IsLineOf, NextLines, NextSaid}
use Rattle.law_model.specs.Sound.{Sound, SoundBy}
use Rattle.law_model.specs.Stated.{body_at}
use Rattle.law_model.specs.Yields.{written_by}
use Rattle.law_model.specs.declared.class.ClassByNumber.{ClassByNumber}
use Rattle.law_model.specs.declared.class.ClassByNumber.TheVariants.{Local, Free, Carried, Line}
use Rattle.law_model.specs.declared.line.Body.{Body}
use Rattle.law_model.specs.declared.line.Line.{Line as ALine}
use Rattle.law_model.proofs.LinesByPlace.{NoLine, body_back, body_front, body_none, body_one, no_line_yet}
use Rattle.law_model.proofs.NextPlace.{LineHeld, SameBefore, next_exact}
use Rattle.law_model.specs.declared.limits.Limits.{Limits}
use Rattle.law_waveforms.specs.Objection.{SaidLaw}

module _ (j : Job) (limits : Limits) (fits : Fits j) (waveform : List Written) (new : List ALine)
    (within : length waveform < places_of j) where
  number_next : (is : IsLineOf j limits waveform new) → number_of j is.line.place ≡ length waveform
  number_next is = ap (number_of j) is.place ∙ number_of_place_at j (length waveform) fits.ordering fits.all within

  -- New lines are of the next place.
  new_later : (class : ClassByNumber) → NextLines j limits waveform new class → (k : ℕ) → k < length waveform
      → NoLine j new k
  new_later (Local bit) is k less = subst (λ ls. NoLine j ls k) (sym is) tt
  new_later Free is k less = subst (λ ls. NoLine j ls k) (sym is) tt
  new_later (Carried from inverted) is k less = subst (λ ls. NoLine j ls k) (sym is) tt
  new_later Line is k less = subst (λ ls. NoLine j ls k) (sym is.one)
      (λ e. (let place = number_next is in omega (arith, place, e, less)), tt)

  -- The line of a Line place.
  new_body : (is : IsLineOf j limits waveform new) → body_at j new (length waveform) ≡ Some is.line.body
  new_body is = ap (λ ls. body_at j ls (length waveform)) is.one
      ∙ body_one j is.line (length waveform) (number_next is)

  -- Lines whose line of the next place is the new one.
  held : (more : List ALine) (class : ClassByNumber)
      → ((body : Body) → body_at j new (length waveform) ≡ Some body → body_at j more (length waveform) ≡ Some body)
      → NextLines j limits waveform new class → LineHeld j limits waveform more class
  held more (Local bit) there is = tt
  held more Free there is = tt
  held more (Carried from inverted) there is = tt
  held more Line there is = (is.line.body, there is.line.body (new_body is), is.holds)

  said_by : (e : ℕ → Written) (s : Value) (more : List ALine) (class : ClassByNumber)
      → ((body : Body) → body_at j new (length waveform) ≡ Some body → body_at j more (length waveform) ≡ Some body)
      → NextLines j limits waveform new class
      → written_by e class (body_at j new (length waveform)) s ≡ written_by e class (body_at j more (length waveform)) s
  said_by e s more (Local bit) there is = refl
  said_by e s more Free there is = refl
  said_by e s more (Carried from inverted) there is = refl
  said_by e s more Line there is = ap (λ body. written_by e Line body s)
      (new_body is ∙ sym (there is.line.body (new_body is)))

-- Over any lines that are the same before the place and have the new one there.
said_over : (j : Job) (limits : Limits) → Fits j → (shown : ℕ → Value) (waveform : List Written) (lines more : List ALine)
    → (found : Written) (new : List ALine) → Sound j limits shown waveform lines
    → NextSaid j limits shown waveform found new → SameBefore j waveform lines more
    → ((body : Body) → body_at j new (length waveform) ≡ Some body → body_at j more (length waveform) ≡ Some body)
    → SoundBy j limits waveform more (length waveform) found.mark found.value
said_over j limits fits shown waveform lines more found new sound said same there =
    let n = length waveform in
    let class = class_of j (certain waveform) n in
    let exact = next_exact j limits fits shown waveform lines more sound said.within same class refl
    (held j limits fits waveform new said.within more class there said.lines) (shown n) in
    subst (λ (w : Written). SoundBy j limits waveform more n w.mark w.value)
    (sym (said.as_said ∙ said_by j limits fits waveform new said.within (written_at waveform) (shown n) more class there
    said.lines)) exact

first_body : (b : Bool) (here : Body) (y z : Option Body) (body : Body) → (y ≡ Some body → z ≡ Some body)
    → (if b then Some here else y) ≡ Some body → (if b then Some here else z) ≡ Some body
first_body true here y z body rest at = at
first_body false here y z body rest at = rest at

front_body : (j : Job) (new lines : List ALine) (place : ℕ) (body : Body) → body_at j new place ≡ Some body
    → body_at j (new ++ lines) place ≡ Some body
front_body j [] lines place body at = cc
front_body j (line ∷ new) lines place body at = first_body (number_of j line.place == place) line.body
    (body_at j new place) (body_at j (new ++ lines) place) body (λ later. front_body j new lines place body later) at

-- Where the waveform is sound, lines or not.
pub said_sound : (j : Job) (limits : Limits) → Fits j → (shown : ℕ → Value) (waveform : List Written) (lines : List ALine)
    → (found : Written) (new : List ALine) → Sound j limits shown waveform lines
    → NextSaid j limits shown waveform found new
    → SoundBy j limits waveform (new ++ lines) (length waveform) found.mark found.value
said_sound j limits fits shown waveform lines found new sound said =
    said_over j limits fits shown waveform lines (new ++ lines) found new sound said
    (λ k less. body_back j new lines k (new_later j limits fits waveform new said.within
    (class_of j (certain waveform) (length waveform)) said.lines k less))
    (λ body at. front_body j new lines (length waveform) body at)

pub said_law : SaidLaw
said_law j limits shown waveform lines found new fits holds said =
    let n = length waveform in
    let none = no_line_yet j fits (certain waveform) n lines (let low = said.within in omega (arith, low))
    holds.yields.places in
    said_over j limits fits shown waveform lines (lines ++ new) found new holds.sound said
    (λ k less. body_front j lines new k (body_none j new k (new_later j limits fits waveform new said.within
    (class_of j (certain waveform) n) said.lines k less))) (λ body at. body_back j lines new n none ∙ at)
