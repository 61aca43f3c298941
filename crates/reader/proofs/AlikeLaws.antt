-- The three forms of `specs/Alike.antt`: the same bytes where read are the same numbers, and these the same job. Assumes nothing.
use mathlib.Core.Path.{◌≡◌, refl, sym, ap, ◌∙◌}
use Prim.Native.Nat.{ℕ}
use mathlib.Core.Bool.{Bool, true, false}
use mathlib.Core.List.{List}
use lib.ListN.{length}
use Rattle.block.specs.declared.types.Numbers.{Numbers}
use Rattle.block.specs.Pairs.{pairs_fit}
use Rattle.block.specs.Numbers.{numbers_of}
use Rattle.block.specs.SameBytes.{SameRead, SameBytes}
use Rattle.block.proofs.SameBytes.{pairs_same, numbers_same}
use Rattle.reader.specs.declared.types.Refusal.{Refusal}
use Rattle.std.specs.Prelude.{Err}
use Rattle.reader.specs.declared.types.Job.{Job}
use Rattle.reader.specs.View.{check, ready_job, last_checks, checked, view}
use Rattle.reader.specs.Alike.{Stage, both_refused, both_pass, SameConditions, SameData, SameNumbers, Alike}
use Rattle.reader.proofs.ViewLaws.{view_refused}

-- ---- 1 implies 2

-- a check that both pass or both are refused by
stage : {A : Type 0} (fits : A → Bool) (a b : A) {Same Next : Type 0} → fits a ≡ fits b → (fits a ≡ true → Same) → (fits a ≡ true → Next) → Stage fits a b Same Next
stage {A} fits a b {Same} {Next} e same next = go (fits a) refl
  where
    go : (x : Bool) → fits a ≡ x → Stage fits a b Same Next
    go true q = both_pass q (sym e ∙ q) (same q) (next q)
    go false q = both_refused q (sym e ∙ q)

-- the same numbers, whatever they are
pub same_data : (kind n : ℕ) (d e : Numbers) → d ≡ e → SameData kind n d e
unfolding SameData
same_data kind n d e q =
    stage _ _ _ (rw q) (λ _. rw q)
    (λ _. stage _ _ _ (rw q) (λ _. rw q)
    (λ _. stage _ _ _ (rw q) (λ _. tt)
    (λ _. stage _ _ _ (rw q) (λ _. rw q)
    (λ _. stage _ _ _ (rw q) (λ _. record { in_temperature = rw q; in_pressure = rw q; in_start = rw q })
    (λ _. stage _ _ _ (rw q) (λ _. rw q) (λ _. tt))))))

pub bytes_numbers : (kind n : ℕ) (s t : List ℕ) → SameBytes kind n s t → SameNumbers kind n s t
bytes_numbers kind n s t a = record {
  in_length = a.in_length;
  in_data = stage (pairs_fit n) s t (pairs_same n s t a.in_pairs) (λ _. tt) (λ q. same_data kind n _ _ (numbers_same kind n s t (a.in_parts q)));
}

-- ---- 2 implies 3

stage_same : {A : Type 0} {fits : A → Bool} {a b : A} {Same Next : Type 0} (refusal : Refusal) (x y : Job) → Stage fits a b Same Next → (Same → Next → x ≡ y)
    → check (fits a) refusal x ≡ check (fits b) refusal y
stage_same refusal x y (both_refused p q) h = rw (p, q)
stage_same refusal x y (both_pass p q same next) h = rw (p, q) (h same next)

all_same : (d e : Numbers) → d.coefficients ≡ e.coefficients → d.interactions ≡ e.interactions → d.fractions ≡ e.fractions
    → SameConditions d.conditions e.conditions → d.conditions.choice ≡ e.conditions.choice → d ≡ e
all_same d e c i x s q =
    λ j. record {
      coefficients = c j;
      interactions = i j;
      fractions = x j;
      conditions = record { choice = q j; temperature = s.in_temperature j; pressure = s.in_pressure j; start = s.in_start j };
    }

pub data_alike : (kind n : ℕ) (d e : Numbers) → SameData kind n d e → checked kind n d ≡ checked kind n e
unfolding SameData checked last_checks
data_alike kind n d e a =
    stage_same Refusal.Components _ _ a
    (λ ec a₁. stage_same Refusal.Interactions _ _ a₁
    (λ ei a₂. stage_same Refusal.Fractions _ _ a₂
    (λ _ a₃. stage_same Refusal.FractionSum _ _ a₃
    (λ ex a₄. stage_same Refusal.Conditions _ _ a₄
    (λ es a₅. stage_same Refusal.Choice _ _ a₅
    (λ eq _. ap (ready_job kind n) (all_same d e ec ei ex es eq)))))))

pub numbers_alike : (kind n : ℕ) (s t : List ℕ) → SameNumbers kind n s t → Alike kind n s t
unfolding view
numbers_alike kind n s t a =
    let checks = stage_same Refusal.Pairs _ _ a.in_data (λ _ d. data_alike kind n (numbers_of kind n s) (numbers_of kind n t) d) in
    rw (checks, a.in_length)

pub bytes_alike : (kind n : ℕ) (s t : List ℕ) → SameBytes kind n s t → Alike kind n s t
bytes_alike kind n s t a = numbers_alike kind n s t (bytes_numbers kind n s t a)

-- ---- blocks that are alike though their bytes are not

-- Blocks refused by the same check, whatever they hold: by 17, for one, with other fractions and other components.
pub refused_alike : (kind n : ℕ) (s t : List ℕ) (refusal : Refusal) → Err refusal ≡ (view kind n s).task → Err refusal ≡ (view kind n t).task → Alike kind n s t
refused_alike kind n s t refusal e f = sym (view_refused kind n s refusal e) ∙ view_refused kind n t refusal f

-- Blocks whose pairs do not fit, whatever else they hold: "11 pairs" comes first.
pub unfit_pairs : (kind n : ℕ) (s t : List ℕ) → length s ≡ 640 → length t ≡ 640 → pairs_fit n s ≡ false → pairs_fit n t ≡ false → SameNumbers kind n s t
unfit_pairs kind n s t l m p q = record { in_length = l ∙ sym m; in_data = both_refused p q }

-- The same parts at other offsets, with anything in between.
pub moved_parts : (kind n : ℕ) (s t : List ℕ) → length s ≡ 640 → length t ≡ 640 → pairs_fit n s ≡ true → pairs_fit n t ≡ true → SameRead kind n s t → SameNumbers kind n s t
moved_parts kind n s t l m p q r = record { in_length = l ∙ sym m; in_data = both_pass p q tt (same_data kind n _ _ (numbers_same kind n s t r)) }
