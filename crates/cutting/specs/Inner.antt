-- What only proofs need; nobody has to believe it. `best_value` computes the best value of a sheet (`best_value_best`).
use Rattle.std.specs.Prelude.{ℕ, suc, ◌+◌, ◌-◌, max, ◌/◌, List, cond, ◌&&◌, eqb, length, get_or}
use Rattle.laws.specs.Inner.{best_below, deep}
use Rattle.cutting.specs.Piece.{Piece, no_piece}
use Rattle.cutting.specs.Dissection.{rest}

-- The best value by trying every line: an executable definition, slow and plain. It is proved to be the best value.

-- What a piece earns on exactly this rectangle: its value where the size is right, else 0.
unfoldable pub exactly : Piece → ℕ → ℕ → ℕ
exactly piece x y = cond (eqb piece.width x && eqb piece.height y) piece.value 0

-- The largest value of a piece of exactly this size, and 0 where there is none.
unfoldable pub exact_value : List Piece → ℕ → ℕ → ℕ
exact_value pieces x y = best_below (λ i. exactly (get_or pieces i no_piece) x y) (length pieces)

-- The lines up to half of a side are those at 1 to this (`half_says`).
abbrev pub half_of : ℕ → ℕ
half_of u = u / 2

-- The most over the lines at 1, …, x − 1 through a side x, where a line's two parts earn `part c + part (x − c)`.
abbrev pub every_line : (ℕ → ℕ) → ℕ → ℕ
every_line part x = best_below (λ i. part (suc i) + part (rest x (suc i))) (x - 1)

-- A piece of exactly this size, or a line and the numbers of its two parts. `best_value_own` gives the equation.
unfoldable pub best_by : List Piece → (ℕ → ℕ → ℕ) → ℕ → ℕ → ℕ
best_by pieces part x y = max (exact_value pieces x y) (max (every_line (λ c. part c y) x) (every_line (λ d. part x d) y))

-- Each line shortens a side by 1 at least.
unfoldable pub best_value : List Piece → ℕ → ℕ → ℕ
best_value pieces x y = deep (λ (s : ℕ × ℕ). s.0 + s.1) 0 (λ part s. best_by pieces (λ u w. part (u, w)) s.0 s.1) (x, y)
