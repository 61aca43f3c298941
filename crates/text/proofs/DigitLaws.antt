-- Digits stored from the last to the first, and the count of them. Assumes nothing.
use mathlib.Core.Path.{◌≡◌, refl, sym, ap, ◌∙◌}
use Prim.Native.Nat.{ℕ, zero, suc, ◌+◌, ◌-◌, ◌/◌, ◌%◌, ◌≤◌, ◌<◌}
use native.Mathlib.Omega.{arith}
use mathlib.Core.List.{List, [], ◌∷◌, ◌++◌}
use lib.ListN.{length, set, length-append}
use lib.Seq.{set_comm}
use borrow.Author.Tests.{lt-ltb, le-ltb}
use Rattle.buf.specs.Bytes.{splice}
use Rattle.buf.proofs.Laws.{splice_append}
use Rattle.text.specs.Digits.{glyph, digits, width_in}

pub length_digits : (base k n : ℕ) → length (digits base k n) ≡ k
unfolding digits
length_digits base zero n = refl
length_digits base (suc k) n = rw (length-append, length_digits base k (n / base)) (omega arith)

-- an element stored beyond a part
set_splice : (s : List ℕ) (j x : ℕ) (u : List ℕ) (at : ℕ) → at + length u ≤ j → splice (set s j x) at u ≡ set (splice s at u) j x
unfolding splice
set_splice s j x [] at h = refl
set_splice s j x (y ∷ u) at h =
    ap (λ (l : List ℕ). splice l (suc at) u) (set_comm s j at x y (λ e. let z : j ≡ at = e in omega arith)) ∙ set_splice (set s at y) j x u (suc at) (omega arith)

-- one element after a part
pub splice_last : (s : List ℕ) (at : ℕ) (u : List ℕ) (x j : ℕ) → at + length u ≡ j → set (splice s at u) j x ≡ splice s at (u ++ (x ∷ []))
unfolding splice
splice_last s at u x j e = ap (λ (i : ℕ). set (splice s at u) i x) (sym e) ∙ sym (splice_append u (x ∷ []) s at)

digit_step : (s : List ℕ) (at base k n : ℕ) → splice (set s (at + k) (glyph (n % base))) at (digits base k (n / base)) ≡ splice s at (digits base (suc k) n)
unfolding digits
digit_step s at base k n =
    let l = length_digits base k (n / base) in
    set_splice s (at + k) (glyph (n % base)) (digits base k (n / base)) at (omega arith) ∙ splice_last s at (digits base k (n / base)) (glyph (n % base)) (at + k) (omega arith)

-- a turn of the loop, from `left` digits to one less
pub digit_turn : (s w : List ℕ) (at base left n x : ℕ) → 0 < left → x ≡ glyph (n % base) → splice s at (digits base left n) ≡ w
    → splice (set s (at + (left - 1)) x) at (digits base (left - 1) (n / base)) ≡ w
digit_turn s w at base left n x h ex e =
    let m : left ≡ suc (left - 1) = omega arith in
    ap (λ (y : ℕ). splice (set s (at + (left - 1)) y) at (digits base (left - 1) (n / base))) ex
    ∙ digit_step s at base (left - 1) n
    ∙ ap (λ (k : ℕ). splice s at (digits base k n)) (sym m)
    ∙ e

pub digits_done : (s w : List ℕ) (at base left n : ℕ) → left ≤ 0 → splice s at (digits base left n) ≡ w → s ≡ w
unfolding digits splice
digits_done s w at base left n h e = let z : left ≡ 0 = omega arith in rw z at e

-- ---- the count, k − 1 digits being passed
pub width_ends : (k rest w : ℕ) → 1 ≤ k → k < 20 → rest < 10 → k - 1 + width_in (20 - k) rest ≡ w → k ≡ w
unfolding width_in
width_ends k rest w a b h e =
    let m : 20 - k ≡ suc (19 - k) = omega arith in
    let q : k - 1 + width_in (suc (19 - k)) rest ≡ w = rw m at e in
    let r : k - 1 + 1 ≡ w = rw (lt-ltb _ _ h) at q in
    omega arith

pub width_again : (k rest w : ℕ) → 1 ≤ k → k < 20 → 10 ≤ rest → k - 1 + width_in (20 - k) rest ≡ w → k + 1 - 1 + width_in (20 - (k + 1)) (rest / 10) ≡ w
unfolding width_in
width_again k rest w a b h e =
    let m : 20 - k ≡ suc (19 - k) = omega arith in
    let p : 20 - (k + 1) ≡ 19 - k = omega arith in
    let q : k - 1 + width_in (suc (19 - k)) rest ≡ w = rw m at e in
    let r : k - 1 + suc (width_in (19 - k) (rest / 10)) ≡ w = rw (le-ltb _ _ h) at q in
    rw p (omega arith)

pub width_full : (k rest w : ℕ) → 20 ≤ k → k ≤ 20 → k - 1 + width_in (20 - k) rest ≡ w → k ≡ w
unfolding width_in
width_full k rest w a b e = let z : k ≡ 20 = omega arith in let q : 20 - 1 + width_in (20 - 20) rest ≡ w = rw z at e in omega arith
