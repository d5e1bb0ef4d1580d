-- A longer input is no block, whatever comes after: the program need not read it to its end.
use Prim.Native.Nat.{ℕ, ◌≤◌}
use mathlib.Core.Path.{◌≡◌, sym, ap, ◌∙◌}
use mathlib.Core.Logic.{⊎_elim}
use mathlib.Core.List.{List}
use native.Mathlib.Omega.{arith}
use lib.ListN.{length, take, length-take}
use lib.Seq.{take_all}
use Rattle.laws.proofs.Order.{le_or_lt}
use Rattle.refusals.specs.Refusals.{bad_job}
use Rattle.listing.specs.Line.{refused_text}
use Rattle.program.specs.Sizes.{input_most}
use Rattle.program.specs.Program.{program_text}
use Rattle.program.proofs.Best.{program_shapeless}

long_refused : (s : List ℕ) → input_most ≤ length s → program_text s ≡ refused_text bad_job
long_refused s h = program_shapeless s (λ k. omega (arith, k.most, k.whole))

pub input_enough : (input : List ℕ) → program_text (take input_most input) ≡ program_text input
input_enough input =
    ⊎_elim (λ h. long_refused (take input_most input) (omega (arith, length-take input_most input)) ∙ sym (long_refused input h))
    (λ h. ap program_text (take_all input_most input (omega arith)))
    (le_or_lt input_most (length input))
