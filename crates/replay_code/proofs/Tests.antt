-- What a test of a token says: a word is no mark, and a token is one word or one mark alone.
use Rattle.std.proofs.Common.{◌≡◌, ◌&&◌, ℕ, Bool, true, false, List, refl, ap, ◌∙◌, bytes_eq}
use Rattle.std.proofs.lemmas.Slice.Eq.{bytes_eq-Decides}
use Rattle.netlist_tokens.specs.declared.token.Kind.{Kind}
use Rattle.netlist_tokens.specs.declared.token.Kind.TheVariants.{Name, Escaped, Number, Text, Mark}
use Rattle.netlist_tokens.specs.declared.token.Token.{Token}
use Rattle.replay_code.specs.Words.{is_mark, is_mark_kind, is_name_kind, is_word, spelled}
use Rattle.base_scan.proofs.Fronts.{both}

-- what a word spells, and a mark
word_spelled : (text word : List ℕ) (t : Token) → is_word text t word ≡ true → spelled text t ≡ word
word_spelled text word t is = (bytes_eq-Decides (spelled text t) word).0 (both (is_name_kind t.kind) (bytes_eq (spelled text t) word) is).1

mark_spelled : (text mark : List ℕ) (t : Token) → is_mark text t mark ≡ true → spelled text t ≡ mark
mark_spelled text mark t is = (bytes_eq-Decides (spelled text t) mark).0 (both (is_mark_kind t.kind) (bytes_eq (spelled text t) mark) is).1

-- A word is no mark.
name_unmarked : (kind : Kind) → is_name_kind kind ≡ true → is_mark_kind kind ≡ false
name_unmarked Name is = refl
name_unmarked Escaped is = refl
name_unmarked Number is = refl
name_unmarked Text is = refl
name_unmarked Mark is = absurd cc

pub word_unmarked : (text word mark : List ℕ) (t : Token) → is_word text t word ≡ true → is_mark text t mark ≡ false
word_unmarked text word mark t is =
    ap (λ b. b && bytes_eq (spelled text t) mark) (name_unmarked t.kind (both (is_name_kind t.kind) (bytes_eq (spelled text t) word) is).0)

-- It is no other word, and a mark is no other one.
not_both : (a b : Bool) → b ≡ false → (a && b) ≡ false
not_both true b is = is
not_both false b is = refl

pub other_word : (text word other : List ℕ) (t : Token) → is_word text t word ≡ true → bytes_eq word other ≡ false → is_word text t other ≡ false
other_word text word other t is differ =
    not_both (is_name_kind t.kind) (bytes_eq (spelled text t) other) (ap (λ (l : List ℕ). bytes_eq l other) (word_spelled text word t is) ∙ differ)

pub other_mark : (text mark other : List ℕ) (t : Token) → is_mark text t mark ≡ true → bytes_eq mark other ≡ false → is_mark text t other ≡ false
other_mark text mark other t is differ =
    not_both (is_mark_kind t.kind) (bytes_eq (spelled text t) other) (ap (λ (l : List ℕ). bytes_eq l other) (mark_spelled text mark t is) ∙ differ)
