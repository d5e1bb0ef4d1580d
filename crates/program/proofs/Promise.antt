-- The promise determines length and bytes, and the first of them are the text; what is printed with room keeps it.
use Prim.Native.Nat.{ℕ, ◌+◌}
use mathlib.Core.Path.{◌≡◌, sym, ap, ap₂, ◌∙◌}
use mathlib.Core.List.{List, []}
use native.Mathlib.Omega.{arith}
use lib.ListN.{length, take}
use Rattle.laws.proofs.Put.{put_front}
use Rattle.laws.specs.Put.{put}
use Rattle.printing.specs.declared.Text.{Text}
use Rattle.printing.specs.Inner.{Writes}
use Rattle.printing.proofs.Printed.{printed_put, writes_both, writes_as}
use Rattle.listing.specs.Line.{refused_text}
use Rattle.program.specs.Sizes.{text_most}
use Rattle.program.specs.Program.{program_text}
use Rattle.program.specs.Promise.{ProgramPromise}
use Rattle.program.proofs.Fits.{text_fits}

-- Two answers that keep the promise are equal (rule 11.2): length and all bytes.
pub program_unique : (block o : List ℕ) {r s : ℕ} {p q : List ℕ} → ProgramPromise block o r p → ProgramPromise block o s q → (r ≡ s) × (p ≡ q)
program_unique block o f g = (f.0 ∙ sym g.0, f.1 ∙ sym g.1)

-- The first r bytes are the text.
module _ (block o : List ℕ) {p : List ℕ} {r : ℕ} (f : ProgramPromise block o r p) where
  pub program_prints : take r p ≡ program_text block
  program_prints =
      let end : r ≡ 0 + length (program_text block) = omega (arith, f.0) in
      ap₂ take end f.1 ∙ put_front o 0 (program_text block) (omega arith)

  pub program_within : r ≡ length (take r p)
  program_within = f.0 ∙ sym (ap length program_prints)

-- What was printed from a row's start, with room for every text.
pub kept : (block : List ℕ) {o : List ℕ} {t u : Text} → t.row.now ≡ o → t.at ≡ 0 → length o ≡ text_most → Writes t (program_text block) u
    → ProgramPromise block o u.at u.row.now
kept block {t = t} row start h w =
    let k = printed_put (omega (arith, start, ap length row, text_fits block)) w.printed in
    (omega (arith, k.0, start), k.1 ∙ ap₂ (λ (l : List ℕ) (n : ℕ). put l n (program_text block)) row start)

-- A refusal's line, where nothing was printed before.
pub refused_after : {text : List ℕ} {t u v : Text} {n k : ℕ} → (text ≡ refused_text k) × Writes t [] u → n ≡ k → Writes u (refused_text n) v
    → Writes t text v
refused_after e f w = writes_as (ap refused_text f ∙ sym e.0) (writes_both [] (refused_text _) e.1 w)
