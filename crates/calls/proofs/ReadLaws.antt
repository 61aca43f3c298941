-- Each way in which a call is read, or not. Assumes nothing.
use mathlib.Core.Path.{◌≡◌, refl}
use Prim.Native.Nat.{ℕ, ◌+◌, ◌-◌, ◌≤◌, ◌<◌}
use mathlib.Core.Bool.{true}
use mathlib.Core.List.{List}
use Rattle.std.specs.Prelude.{Option, None, Some}
use native.Mathlib.Omega.{arith}
use lib.ListN.{length}
use borrow.Author.Tests.{le-leb, lt-leb}
use Rattle.buf.specs.Bytes.{u64_at}
use Rattle.calls.specs.declared.types.Call as code_call
use Rattle.calls.specs.Calls.{Placed, submit_at, turn_at, look_at, call_with, found_of, call_fits, found_fits}

abbrev pub Found : Type 0
Found = Option (code_call.Call × ℕ)

-- r stands for what is placed there, and fits
abbrev pub Finds : List ℕ → Found → Option Placed → Type 0
Finds s r o = (found_of s r ≡ o) × (found_fits (length s) r ≡ true)

module _ (s : List ℕ) (at l : ℕ) (el : l ≡ u64_at s (at + 32)) where
  pub submit_cut : at + 40 ≤ length s → length s - (at + 40) < l → Finds s None (submit_at s at)
  unfolding found_of found_fits submit_at
  submit_cut h k = let g : length s < at + 40 + l = omega arith in (rw (← el, lt-leb _ _ g), refl)

  pub submit_read : (queue kind n : ℕ) → queue ≡ u64_at s (at + 8) → kind ≡ u64_at s (at + 16) → n ≡ u64_at s (at + 24) → at + 40 ≤ length s → l ≤ length s - (at + 40)
      → Finds s (Some (code_call.TheVariants.Submit queue kind n (at + 40) l, at + 40 + l)) (submit_at s at)
  unfolding found_of found_fits submit_at call_with call_fits
  submit_read queue kind n eq ek en h k =
      let g : at + 40 + l ≤ length s = omega arith in
      (rw (← el, ← eq, ← ek, ← en, le-leb _ _ g), le-leb _ _ g)

  pub turn_long : 256 < l → Finds s None (turn_at s at)
  unfolding found_of found_fits turn_at
  turn_long h = (rw (← el, lt-leb _ _ h), refl)

  pub turn_read : l ≤ 256 → Finds s (Some (code_call.TheVariants.Turn l, at + 40)) (turn_at s at)
  unfolding found_of found_fits turn_at call_with call_fits
  turn_read h = (rw (← el, le-leb _ _ h), le-leb _ _ h)

pub look_read : (s : List ℕ) (at queue : ℕ) → queue ≡ u64_at s (at + 8) → Finds s (Some (code_call.TheVariants.Look queue, at + 40)) (look_at s at)
unfolding found_of found_fits look_at call_with call_fits
look_read s at queue e = (rw (← e), refl)
