-- What the check program prints, as bytes: count and width, then one line for each row, in decimal with one space between; or none, or
-- the refusal's number.
use Rattle.std.specs.Prelude.{ℕ, zero, suc, ◌+◌, ◌*◌, ◌/◌, ◌%◌, ◌≤◌, ◌≡◌, cond, List, [], ◌∷◌, ◌++◌, length, take, drop, replicate, ltb}
use Rattle.model.specs.Lists.{concat_map, below}
use Rattle.model.specs.Pattern.{most_variables}
use Rattle.model.specs.Chain.{chain_row_words, chain}
use Rattle.model.specs.declared.answer.Answer.{Answer}
use Rattle.model.specs.declared.answer.Answer.TheVariants.{Rows, None, Built, Yes, No, Refused}
use Rattle.model.specs.declared.answer.Answer.TheVariants.{Plan as PlanAnswer}

-- the most digits of a 64-bit number
abbrev pub most_digits : ℕ
most_digits = 20

-- of at most k digits: those of the tenth, where there is one, and then the last
unfoldable pub decimal_within : ℕ → ℕ → List ℕ
decimal_within zero n = []
decimal_within (suc k) n = cond (ltb n 10) ((48 + n) ∷ []) (decimal_within k (n / 10) ++ (48 + n % 10) ∷ [])

unfoldable pub decimal : ℕ → List ℕ
decimal n = decimal_within most_digits n

-- numbers with one space between
unfoldable pub spaced : List ℕ → List ℕ
spaced [] = []
spaced (x ∷ []) = decimal x
spaced (x ∷ y ∷ ys) = decimal x ++ 32 ∷ spaced (y ∷ ys)

-- a row's line; that of a row of width 0 is empty
unfoldable pub row_line : List ℕ → List ℕ
row_line row = spaced row ++ 10 ∷ []

-- "rows ", " width ", "none" and "refused "
abbrev pub rows_text : List ℕ
rows_text = 114 ∷ 111 ∷ 119 ∷ 115 ∷ 32 ∷ []

abbrev pub width_text : List ℕ
width_text = 32 ∷ 119 ∷ 105 ∷ 100 ∷ 116 ∷ 104 ∷ 32 ∷ []

abbrev pub none_text : List ℕ
none_text = 110 ∷ 111 ∷ 110 ∷ 101 ∷ []

abbrev pub refused_text : List ℕ
refused_text = 114 ∷ 101 ∷ 102 ∷ 117 ∷ 115 ∷ 101 ∷ 100 ∷ 32 ∷ []

-- the first line; build, plan and whether have none, since the chain ends in what a run answers or in a refusal
unfoldable pub first_line : Answer → List ℕ
first_line (Rows count width) = rows_text ++ (decimal count ++ (width_text ++ (decimal width ++ 10 ∷ [])))
first_line None = none_text ++ 10 ∷ []
first_line (Built words) = []
first_line PlanAnswer = []
first_line Yes = []
first_line No = []
first_line (Refused n) = refused_text ++ (decimal n ++ 10 ∷ [])

-- the lines of the rows at the front of some words
unfoldable pub row_lines : Answer → List ℕ → List ℕ
row_lines (Rows count width) words = concat_map (λ i. row_line (take width (drop (i * width) words))) (below count)
row_lines None words = []
row_lines (Built used) words = []
row_lines PlanAnswer words = []
row_lines Yes words = []
row_lines No words = []
row_lines (Refused n) words = []

-- all that is printed of an answer and the words lent for its rows
unfoldable pub printed : Answer → List ℕ → List ℕ
printed answer words = first_line answer ++ row_lines answer words

-- the rows that an answer tells of stand in the words; of width 0 there is at most one
abbrev pub RowsFit : Answer → List ℕ → Type 0
RowsFit (Rows count width) words = (count * width ≤ length words) × (width ≤ most_variables) × (width ≡ 0 → count ≤ 1)
RowsFit None words = Unit {0}
RowsFit (Built used) words = Unit {0}
RowsFit PlanAnswer words = Unit {0}
RowsFit Yes words = Unit {0}
RowsFit No words = Unit {0}
RowsFit (Refused n) words = Unit {0}

-- all that the check program prints of a site's file and a check's; the words lent for the rows are 0
unfoldable pub screen : List ℕ → List ℕ → List ℕ
screen file check = let o = chain file check (replicate chain_row_words 0) in printed o.answer o.memory
