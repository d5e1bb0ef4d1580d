-- A refusal has a number, no two of them the same, and none has 0.
use Prim.Native.Nat.{ℕ}
use mathlib.Core.List.{[], ◌∷◌}
use mathlib.Core.Path.{◌≡◌, refl, sym, ap, ◌∙◌}
use lib.ListN.{get_or}
use Rattle.std.proofs.Common.{Option, Some, None, Err, ok_or}
use native.Mathlib.Omega.{arith}
use Rattle.refusals.specs.declared.Refusal.{Refusal}
use Rattle.refusals.specs.declared.Refusal.TheVariants.{BadJob, ShortTable, NotInside, BadPiece, FullJob, NotAsked, AlienTable, ShortBuffer, NotFramed, SumDiffers, JobOutOfRange, NodesBroken, ValueDiffers}
use Rattle.refusals.specs.Refusals.{number}

pub never_zero : (refusal : Refusal) → number refusal ≡ 0 → ⊥
never_zero BadJob e = omega arith
never_zero ShortTable e = omega arith
never_zero NotInside e = omega arith
never_zero BadPiece e = omega arith
never_zero FullJob e = omega arith
never_zero NotAsked e = omega arith
never_zero AlienTable e = omega arith
never_zero ShortBuffer e = omega arith
never_zero NotFramed e = omega arith
never_zero SumDiffers e = omega arith
never_zero JobOutOfRange e = omega arith
never_zero NodesBroken e = omega arith
never_zero ValueDiffers e = omega arith

-- The refusal that has a number.
abbrev with_number : ℕ → Refusal
with_number n =
    get_or (BadJob ∷ BadJob ∷ ShortTable ∷ NotInside ∷ BadPiece ∷ FullJob ∷ NotAsked ∷ AlienTable ∷ ShortBuffer ∷ NotFramed ∷ SumDiffers ∷ JobOutOfRange ∷ NodesBroken ∷ ValueDiffers ∷ []) n BadJob

with_number_of : (refusal : Refusal) → with_number (number refusal) ≡ refusal
with_number_of BadJob = refl
with_number_of ShortTable = refl
with_number_of NotInside = refl
with_number_of BadPiece = refl
with_number_of FullJob = refl
with_number_of NotAsked = refl
with_number_of AlienTable = refl
with_number_of ShortBuffer = refl
with_number_of NotFramed = refl
with_number_of SumDiffers = refl
with_number_of JobOutOfRange = refl
with_number_of NodesBroken = refl
with_number_of ValueDiffers = refl

pub number_only : (a b : Refusal) → number a ≡ number b → a ≡ b
number_only a b e = sym (with_number_of a) ∙ (ap with_number e ∙ with_number_of b)

-- What is refused where `ok_or` finds nothing and `?` hands the refusal on: `refused_with _ c.in_err-x.ensures.value`.
pub refused_with : {A : Type 0} (o : Option A) {e f : Refusal} → Err e ≡ ok_or o f → e ≡ f
refused_with None h = grind arith
refused_with (Some x) h = grind arith
