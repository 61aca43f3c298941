-- Texts stored one after the other make a line. Assumes nothing.
use Rattle.std.proofs.Common.{◌≡◌, ℕ, ◌+◌, ◌≤◌, [], ◌∷◌, ◌++◌, length, set, sym, refl, ap, ◌∙◌, arith, length-append}
use lib.Ieee.{Float, binary64, to_bits}
use Rattle.buf.specs.Bytes.{splice, num_at, u64_at}
use Rattle.buf.proofs.Laws.{splice_append}
use Rattle.board_spec.specs.Run.{Bytes}
use Rattle.text.specs.Digits.{digits}
use Rattle.text.specs.Line.{space, newline, number_text}
use Rattle.text.proofs.DigitLaws.{length_digits, splice_last}
use Rattle.call_lines.specs.Lines.{written_word, nothing_line, looked_word, written_line, looked_line, Line}

-- v is stored over s from index at, and ends at `end`
abbrev pub Put : (s : Bytes) (at : ℕ) (v s' : Bytes) (end : ℕ) → Type 0
Put s at v s' end = (s' ≡ splice s at v) × (end ≡ at + length v)

then : (s s₁ s₂ u v : Bytes) (at mid end : ℕ) → Put s at u s₁ mid → Put s₁ mid v s₂ end → Put s at (u ++ v) s₂ end
then s s₁ s₂ u v at mid end p q = (
  q.0 ∙ ap (λ (i : ℕ). splice s₁ i v) p.1 ∙ ap (λ (l : Bytes). splice l (at + length u) v) p.0 ∙ sym (splice_append u v s at),
  rw length-append (omega (arith, p.1, q.1)),
)

-- a text from the start, of at most 80 bytes
line : (s v s' : Bytes) (end : ℕ) → Put s 0 v s' end → end ≤ 80 → Line s v s' end
line s v s' end p h = record { bytes = p.0; size = omega (arith, p.1); short = h }

pub named_put : (s s₁ s₂ w : Bytes) (number end : ℕ) → s₁ ≡ splice s 0 w → length w ≤ 16
    → (s₂ ≡ splice s₁ (length w) (number_text number newline)) × (end ≡ length w + length (number_text number newline)) × (end ≤ length w + 21)
    → Line s (w ++ number_text number newline) s₂ end
named_put s s₁ s₂ w number end e h p =
    let k : end ≤ length w + 21 = p.2 in
    line s _ s₂ end (then s s₁ s₂ w (number_text number newline) 0 (length w) end (e, omega arith) (p.0, p.1)) (omega arith)

pub nothing_put : (s s₁ : Bytes) → s₁ ≡ splice s 0 nothing_line → Line s nothing_line s₁ 9
unfolding nothing_line
nothing_put s s₁ e = record { bytes = e; size = refl; short = omega arith }

pub written_put : (s s₁ s₂ s₃ s₄ r : Bytes) (ticket kind queue a b end : ℕ) → ticket ≡ u64_at r 0 → kind ≡ num_at 1 r 8 → queue ≡ num_at 1 r 9 → s₁ ≡ splice s 0 written_word
    → (s₂ ≡ splice s₁ 9 (number_text ticket space)) × (a ≡ 9 + length (number_text ticket space)) × (a ≤ 9 + 21)
    → (s₃ ≡ splice s₂ a (number_text kind space)) × (b ≡ a + length (number_text kind space)) × (b ≤ a + 21)
    → (s₄ ≡ splice s₃ b (number_text queue newline)) × (end ≡ b + length (number_text queue newline)) × (end ≤ b + 21)
    → Line s (written_line r) s₄ end
unfolding written_line written_word
written_put s s₁ s₂ s₃ s₄ r ticket kind queue a b end et ek eq e p q u =
    let p₂ : a ≤ 9 + 21 = p.2 in
    let q₂ : b ≤ a + 21 = q.2 in
    let u₂ : end ≤ b + 21 = u.2 in
    let last = then s₂ s₃ s₄ _ _ a b end (q.0, q.1) (u.0, u.1) in
    let all = then s₁ s₂ s₄ _ _ 9 a end (p.0, p.1) last in
    rw (← et, ← ek, ← eq) (line s _ s₄ end (then s s₁ s₄ _ _ 0 9 end (e, refl) all) (omega arith))

pub looked_put : (s s₁ s₂ s₃ : Bytes) (evaluations a bits : ℕ) (density : Float) → bits ≡ to_bits binary64 density → s₁ ≡ splice s 0 looked_word
    → (s₂ ≡ splice s₁ 7 (number_text evaluations space)) × (a ≡ 7 + length (number_text evaluations space)) × (a ≤ 7 + 21)
    → s₃ ≡ splice s₂ a (digits 16 16 bits) → Line s (looked_line evaluations density) (set s₃ (a + 16) newline) (a + 16 + 1)
unfolding looked_line looked_word
looked_put s s₁ s₂ s₃ evaluations a bits density eb e p f =
    let p₂ : a ≤ 7 + 21 = p.2 in
    let l : length (digits 16 16 bits) ≡ 16 = length_digits 16 16 bits in
    let w : set s₃ (a + 16) newline ≡ splice s₂ a (digits 16 16 bits ++ (newline ∷ [])) = ap (λ (t : Bytes). set t (a + 16) newline) f ∙ splice_last s₂ a (digits 16 16 bits) newline (a + 16) (omega arith) in
    let z : a + 16 + 1 ≡ a + length (digits 16 16 bits ++ (newline ∷ [])) = rw length-append (omega arith) in
    let all = then s₁ s₂ _ _ _ 7 a (a + 16 + 1) (p.0, p.1) (w, z) in
    rw (← eb) (line s _ _ _ (then s s₁ _ _ _ 0 7 (a + 16 + 1) (e, refl) all) (omega arith))
