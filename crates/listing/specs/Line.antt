-- The lines that are printed, byte by byte (rules 9.4 to 9.6).
use Rattle.std.specs.Prelude.{ℕ, List, [], ◌∷◌, ◌++◌}
use Rattle.printing.specs.Decimal.{decimal}
use Rattle.listing.specs.declared.Kind.{Kind}

-- A number and a space; a number and the line feed.
unfoldable pub spaced : ℕ → List ℕ
spaced n = decimal n ++ (32 ∷ [])

unfoldable pub ended : ℕ → List ℕ
ended n = decimal n ++ (10 ∷ [])

-- `VERTICAL`, `HORIZONTAL`, `PIECE`, `SCRAP` (rule 9.5), each with its space.
unfoldable pub word_of : Kind → List ℕ
word_of Kind.Vertical = 86 ∷ 69 ∷ 82 ∷ 84 ∷ 73 ∷ 67 ∷ 65 ∷ 76 ∷ 32 ∷ []
word_of Kind.Horizontal = 72 ∷ 79 ∷ 82 ∷ 73 ∷ 90 ∷ 79 ∷ 78 ∷ 84 ∷ 65 ∷ 76 ∷ 32 ∷ []
word_of Kind.Piece = 80 ∷ 73 ∷ 69 ∷ 67 ∷ 69 ∷ 32 ∷ []
word_of Kind.Scrap = 83 ∷ 67 ∷ 82 ∷ 65 ∷ 80 ∷ 32 ∷ []

-- The line of a node (rule 9.5).
unfoldable pub line_text : ℕ → ℕ → ℕ → ℕ → Kind → ℕ → List ℕ
line_text level width height earning kind number = spaced level ++ (spaced width ++ (spaced height ++ (spaced earning ++ (word_of kind ++ ended number))))

-- `value`, `worked` (rule 9.5), `refused` (rule 9.4), each with its space.
abbrev pub value_word : List ℕ
value_word = 118 ∷ 97 ∷ 108 ∷ 117 ∷ 101 ∷ 32 ∷ []

abbrev pub worked_word : List ℕ
worked_word = 119 ∷ 111 ∷ 114 ∷ 107 ∷ 101 ∷ 100 ∷ 32 ∷ []

abbrev pub refused_word : List ℕ
refused_word = 114 ∷ 101 ∷ 102 ∷ 117 ∷ 115 ∷ 101 ∷ 100 ∷ 32 ∷ []

-- The first line of an answer (rule 9.5).
unfoldable pub head_text : ℕ → ℕ → List ℕ
head_text value worked = value_word ++ (spaced value ++ (worked_word ++ ended worked))

-- The line of a refusal (rule 9.4).
unfoldable pub refused_text : ℕ → List ℕ
refused_text number = refused_word ++ ended number
