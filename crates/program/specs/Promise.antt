-- The promise of the program's work, for all input: r is the length of its text, and o' is what the text buffer o holds then.
use Rattle.std.specs.Prelude.{ℕ, List, ◌≡◌, length}
use Rattle.laws.specs.Put.{put}
use Rattle.program.specs.Program.{program_text}

abbrev pub ProgramPromise : List ℕ → List ℕ → ℕ → List ℕ → Type 0
ProgramPromise block o r o' = (r ≡ length (program_text block)) × (o' ≡ put o 0 (program_text block))
