-- Texts stored one after the other make the line. Assumes nothing.
use mathlib.Core.Path.{◌≡◌, sym, ap, ◌∙◌}
use Prim.Native.Nat.{ℕ, ◌+◌, ◌≤◌}
use native.Mathlib.Omega.{arith}
use mathlib.Core.List.{List, [], ◌∷◌, ◌++◌}
use lib.ListN.{length, set, length-append}
use Rattle.buf.specs.Bytes.{splice, u64_at}
use Rattle.buf.proofs.Laws.{splice_append}
use Rattle.text.specs.Digits.{digits, width}
use Rattle.text.specs.Line.{space, newline, number_text, word_text, line_of}
use Rattle.text.proofs.DigitLaws.{length_digits, splice_last}

-- digits, and a byte after them
digits_and : (s s₁ : List ℕ) (at base k n after : ℕ) → s₁ ≡ splice s at (digits base k n) → set s₁ (at + k) after ≡ splice s at (digits base k n ++ (after ∷ []))
digits_and s s₁ at base k n after e =
    let l = length_digits base k n in
    ap (λ (t : List ℕ). set t (at + k) after) e ∙ splice_last s at (digits base k n) after (at + k) (omega arith)

length_number : (n after : ℕ) → length (number_text n after) ≡ width n + 1
unfolding number_text
length_number n after = rw (length-append, length_digits 10 (width n) n)

pub length_word : (n : ℕ) → length (word_text n) ≡ 17
unfolding word_text
length_word n = rw (length-append, length_digits 16 16 n)

pub number_put : (s s₁ : List ℕ) (at n after k : ℕ) → k ≡ width n → k ≤ 20 → s₁ ≡ splice s at (digits 10 k n)
    → (set s₁ (at + k) after ≡ splice s at (number_text n after)) × (at + k + 1 ≡ at + length (number_text n after)) × (at + k + 1 ≤ at + 21)
unfolding number_text
number_put s s₁ at n after k ek most e =
    let l = length_number n after in
    (digits_and s s₁ at 10 k n after e ∙ ap (λ (j : ℕ). splice s at (digits 10 j n ++ (after ∷ []))) ek, omega arith, omega arith)

pub word_put : (s s₁ : List ℕ) (at n : ℕ) → s₁ ≡ splice s at (digits 16 16 n) → set s₁ (at + 16) space ≡ splice s at (word_text n)
unfolding word_text
word_put s s₁ at n e = digits_and s s₁ at 16 16 n space e

-- the first of two texts is stored, and the second is left
then : (s s₁ u v : List ℕ) (at end : ℕ) → s₁ ≡ splice s at u → end ≡ at + length u → splice s at (u ++ v) ≡ splice s₁ end v
then s s₁ u v at end e f = splice_append u v s at ∙ ap (λ (l : List ℕ). splice l (at + length u) v) (sym e) ∙ ap (λ (i : ℕ). splice s₁ i v) (sym f)

pub line_put : (s s₁ s₂ s₃ s₄ s₅ s₆ r : List ℕ) (kind a b c d e end status first second third evaluations : ℕ)
    → status ≡ u64_at r 16 → first ≡ u64_at r 24 → second ≡ u64_at r 32 → third ≡ u64_at r 40 → evaluations ≡ u64_at r 48
    → (s₁ ≡ splice s 0 (number_text kind space)) × (a ≡ 0 + length (number_text kind space)) × (a ≤ 0 + 21)
    → (s₂ ≡ splice s₁ a (number_text status space)) × (b ≡ a + length (number_text status space)) × (b ≤ a + 21)
    → (s₃ ≡ splice s₂ b (word_text first)) × (c ≡ b + 17)
    → (s₄ ≡ splice s₃ c (word_text second)) × (d ≡ c + 17)
    → (s₅ ≡ splice s₄ d (word_text third)) × (e ≡ d + 17)
    → (s₆ ≡ splice s₅ e (number_text evaluations newline)) × (end ≡ e + length (number_text evaluations newline)) × (end ≤ e + 21)
    → (s₆ ≡ splice s 0 (line_of kind r)) × (end ≡ length (line_of kind r)) × (end ≤ 114)
unfolding line_of
line_put s s₁ s₂ s₃ s₄ s₅ s₆ r kind a b c d e end status first second third evaluations es e₁ e₂ e₃ ee p q u v w z =
    rw (← es, ← e₁, ← e₂, ← e₃, ← ee) (
      z.0 ∙ sym (then s s₁ _ _ 0 a p.0 p.1 ∙ then s₁ s₂ _ _ a b q.0 q.1 ∙ word s₂ s₃ first _ b c u.0 u.1 ∙ word s₃ s₄ second _ c d v.0 v.1 ∙ word s₄ s₅ third _ d e w.0 w.1),
      rw (length-append, length-append, length-append, length-append, length-append) (omega (arith, length_word first, length_word second, length_word third)),
      omega arith,
    )
  where
    word : (s s₁ : List ℕ) (n : ℕ) (v : List ℕ) (at end : ℕ) → s₁ ≡ splice s at (word_text n) → end ≡ at + 17 → splice s at (word_text n ++ v) ≡ splice s₁ end v
    word s s₁ n v at end e f = then s s₁ (word_text n) v at end e (f ∙ ap (λ (l : ℕ). at + l) (sym (length_word n)))
