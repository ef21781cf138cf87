-- The file in hand of a shelf in memory.
use Rattle.std.specs.Prelude.{ℕ, List, [], string_bytes}
use Rattle.base_shelf.specs.Shelf.{Hand, Nothing, Opened, Created}
use Rattle.base_shelf.specs.declared.in_hand.InHand.{InHand}
use Rattle.base_shelf.specs.declared.in_hand.InHand.TheVariants.{Nothing as Empty, Opened as Open, Created as New}

abbrev pub hand_of : InHand → Hand
hand_of Empty = Nothing
hand_of (Open name unread) = Opened (string_bytes name)
hand_of (New name) = Created (string_bytes name)

-- What isn't read of an opened file.
abbrev pub unread_of : InHand → List ℕ
unread_of Empty = []
unread_of (Open name unread) = unread
unread_of (New name) = []
