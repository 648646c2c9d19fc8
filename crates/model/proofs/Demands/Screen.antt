-- The screen: all that the check program prints of a site's file and a check's.
use Prim.Native.Nat.{ℕ, ◌+◌, ◌*◌, ◌/◌, ◌%◌, ◌≤◌, ◌<◌}
use native.Mathlib.Omega.{arith}
use mathlib.Core.Path.{◌≡◌}
use mathlib.Core.Bool.{true}
use mathlib.Core.List.{List, [], ◌∷◌, ◌++◌}
use lib.ListN.{length}
use Rattle.model.specs.Lists.{concat_map}
use Rattle.model.specs.Reader.{gives}
use Rattle.model.specs.Numbers.{are_bytes}
use Rattle.model.specs.Site.{Site}
use Rattle.model.specs.SiteFile.{read_site}
use Rattle.model.specs.Store.{layout}
use Rattle.model.specs.Pattern.{Pattern, width}
use Rattle.model.specs.PatternFile.{read_pattern}
use Rattle.model.specs.Solutions.{IsSolution, solutions}
use Rattle.model.specs.Chain.{chain_threshold, chain_store_words, NoMatch}
use Rattle.model.specs.Text.{row_line, rows_text, width_text, none_text, refused_text, decimal, first_line, printed, screen}
use Rattle.model.specs.declared.answer.Answer.{Answer}
use Rattle.model.specs.declared.answer.Answer.TheVariants.{Rows, None, Refused}
use Rattle.model.proofs.Decimals.{decimal_digit, decimal-more}
use Rattle.model.proofs.Screen.{none_told, rows_told, refusal_told, screen_none, screen_no_match, screen-rows, screen_too_many, screen_absent, screen_absent_check}

-- ==== The rule before the demands, for whoever reads the screen. 'none' may be said only of a site that was read whole and only where
-- the whole site holds no match.

-- where the screen begins with 'none', the bytes taken of site.dat are what is written for a site, and that whole site holds no match
abbrev pub ScreenNoneIsWhole : Type 0
ScreenNoneIsWhole = (file check more : List ℕ) → are_bytes file ≡ true → screen file check ≡ none_text ++ more → NoMatch file check

pub screen_none_is_whole : ScreenNoneIsWhole
screen_none_is_whole = screen_none

-- an absent file counts as empty, and so does one of which a read failed: then `refused 2` is printed, or `refused 11` for the check, and
-- never 'none'
abbrev pub AbsentIsRefused : Type 0
AbsentIsRefused =
    ((check : List ℕ) → screen [] check ≡ refused_text ++ (decimal 2 ++ 10 ∷ []))
    × ((file : List ℕ) (site : Site) → read_site file ≡ gives site → length (layout chain_threshold site) ≤ chain_store_words
    → screen file [] ≡ refused_text ++ (decimal 11 ++ 10 ∷ []))

pub absent_is_refused : AbsentIsRefused
unfolding first_line
absent_is_refused = (screen_absent, screen_absent_check)

-- of a site that was read and fits and a check that is accepted: `none` where it holds no match; count and width, then one line per row,
-- where the rows fit; else `refused 21`
abbrev pub ScreenShowsSolutions : Type 0
ScreenShowsSolutions =
    (file check : List ℕ) (site : Site) (pattern : Pattern)
    → read_site file ≡ gives site → length (layout chain_threshold site) ≤ chain_store_words → read_pattern site check ≡ gives pattern
    → (((row : List ℕ) → IsSolution site pattern row → ⊥) → screen file check ≡ none_text ++ 10 ∷ [])
    × (1 ≤ length (solutions site pattern) → length (solutions site pattern) * width pattern ≤ 4096
    → screen file check
    ≡ (rows_text ++ (decimal (length (solutions site pattern)) ++ (width_text ++ (decimal (width pattern) ++ 10 ∷ [])))) ++ concat_map row_line (solutions site pattern))
    × (4096 < length (solutions site pattern) * width pattern → screen file check ≡ refused_text ++ (decimal 21 ++ 10 ∷ []))

pub screen_shows_solutions : ScreenShowsSolutions
unfolding first_line
screen_shows_solutions file check site pattern whole fits read = (
  screen_no_match file check site pattern whole fits read,
  screen-rows file check site pattern whole fits read,
  screen_too_many file check site pattern whole fits read,
)

-- in decimal: below ten one digit, from ten on the digits of the tenth and then the last; of every 64-bit number
abbrev pub DecimalIsExact : Type 0
DecimalIsExact =
    ((n : ℕ) → n < 10 → decimal n ≡ (48 + n) ∷ [])
    × ((n : ℕ) → 10 ≤ n → n < 18446744073709551616 → decimal n ≡ decimal (n / 10) ++ (48 + n % 10) ∷ [])

pub decimal_is_exact : DecimalIsExact
decimal_is_exact = (decimal_digit, λ n more small. decimal-more n more (omega (arith, small)))

-- the three kinds of output differ: what is printed tells which answer it is
abbrev pub ScreenTellsAnswer : Type 0
ScreenTellsAnswer =
    (answer : Answer) (words more : List ℕ)
    → (printed answer words ≡ none_text ++ more → answer ≡ None)
    × (printed answer words ≡ rows_text ++ more → (count : ℕ) × (v : ℕ) × (answer ≡ Rows count v))
    × (printed answer words ≡ refused_text ++ more → (n : ℕ) × (answer ≡ Refused n))

pub screen_tells_answer : ScreenTellsAnswer
screen_tells_answer answer words more = (none_told words more answer, rows_told words more answer, refusal_told words more answer)
