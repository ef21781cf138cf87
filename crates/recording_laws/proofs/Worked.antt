-- Small texts, worked out by hand.
use Rattle.std.proofs.Common.{◌≡◌, List, [], ◌∷◌, codes, refl}
use Rattle.design_cell.specs.declared.value.Value.TheVariants.{Zero, One, X}
use Rattle.recording_reader.specs.Scopes.{RangeEnd, UntilEnd}
use Rattle.recording_reader.specs.Words.{words_of}
use Rattle.recording_changes.specs.Held.{bit_value, change, extended}
use Rattle.recording_laws.specs.Body.{BodyItem, BodyItems, ChangeOf, DumpOf}
use Rattle.recording_laws.specs.Body.BodyItem.{at, takes}
use Rattle.recording_laws.specs.Codes.{CodedVariable, DeclaresCodes, coded}
use Rattle.recording_laws.specs.Moments.{changes_by_time, times_said}

-- ---- digits on the left

ones_by_zero : extended 4 (codes "10") ≡ codes "0010"
ones_by_zero = refl

zero_by_zero : extended 4 (codes "0x") ≡ codes "000x"
zero_by_zero = refl

x_by_x : extended 4 (codes "x1") ≡ codes "xxx1"
x_by_x = refl

z_by_z : extended 4 (codes "z") ≡ codes "zzzz"
z_by_z = refl

-- ---- declarations

abbrev variables : List CodedVariable
variables = coded (codes "!") 1 ∷ coded (codes "@") 4 ∷ []

declarations : DeclaresCodes (words_of (codes "$timescale 1 ns $end $scope module tb $end $var wire 1 ! a $end $var real 64 r t $end $upscope $end $var reg 4 @ v [3:0] $end $enddefinitions $end")) variables []
declarations =
    DeclaresCodes.aside refl (UntilEnd.further refl (UntilEnd.further refl (UntilEnd.here refl)))
    (DeclaresCodes.scope refl refl
    (DeclaresCodes.listed refl refl (RangeEnd.none refl)
    (DeclaresCodes.skipped refl refl (RangeEnd.none refl)
    (DeclaresCodes.upscope refl refl
    (DeclaresCodes.listed refl refl (RangeEnd.some refl refl)
    (DeclaresCodes.definitions refl refl))))))

-- ---- times and changes

-- a change before the first time; a time without changes; two changes of a code in one moment; a time twice
abbrev items : List BodyItem
items = takes (codes "!") (codes "1") ∷ at 3 ∷ at 5 ∷ takes (codes "!") (codes "0") ∷ takes (codes "!") (codes "1") ∷ at 5 ∷ takes (codes "@") (codes "10") ∷ []

words_read : BodyItems variables (words_of (codes "$dumpvars 1! $end #3 r0.5 r #5 0! 1! $comment none $end #5 b10 @")) items
words_read =
    BodyItems.dump refl (DumpOf.more (ChangeOf.scalar refl refl) (DumpOf.end refl))
    (BodyItems.time refl refl
    (BodyItems.change (ChangeOf.real refl)
    (BodyItems.time refl refl
    (BodyItems.change (ChangeOf.scalar refl refl)
    (BodyItems.change (ChangeOf.scalar refl refl)
    (BodyItems.note refl (UntilEnd.further refl (UntilEnd.here refl))
    (BodyItems.time refl refl
    (BodyItems.change (ChangeOf.vector refl)
    BodyItems.none))))))))

times : times_said items ≡ 0 ∷ 3 ∷ 5 ∷ 5 ∷ []
times = refl

no_time : times_said [] ≡ 0 ∷ []
no_time = refl

time_first : times_said (at 3 ∷ takes (codes "!") (codes "1") ∷ []) ≡ 3 ∷ []
time_first = refl

changes : changes_by_time (codes "!") items ≡ change 0 (codes "1") ∷ change 5 (codes "0") ∷ change 5 (codes "1") ∷ []
changes = refl

-- the last change of a moment counts, and before any change a bit is x
last_counts : bit_value (changes_by_time (codes "!") items) 1 0 5 ≡ One
last_counts = refl

before_any : bit_value (changes_by_time (codes "@") items) 4 2 3 ≡ X
before_any = refl

extended_there : bit_value (changes_by_time (codes "@") items) 4 0 5 ≡ Zero
extended_there = refl

bit_there : bit_value (changes_by_time (codes "@") items) 4 2 5 ≡ One
bit_there = refl
