-- What a decision says of the next place: a line holds there, an enumeration or a pair with the least ones.
use Rattle.std.specs.Prelude.{◌≡◌, Bool, List}
use Rattle.law_model.specs.declared.line.Body.TheVariants.{Enumerated}
use Rattle.law_model.specs.declared.line.Line.{Line as ALine}
use Rattle.wave_proved.specs.Contents.{Contents}
use Rattle.wave_proved.specs.Token.{LineHolds}
use Rattle.decide_nodes.specs.declared.node.Node.{Node}
use Rattle.decide_pair.specs.Found.{IsLeastPair}

pub data IsDecision (c : Contents) (nodes : List Node) (line : ALine) : Type 0 where
  one_bit : (bit : Bool) → LineHolds c line → line.body ≡ Enumerated bit → IsDecision c nodes line
  both_bits : LineHolds c line → IsLeastPair nodes line.body → IsDecision c nodes line
