-- What stands on the check program's screen, and which answer it tells.
use Prim.Native.Nat.{ℕ, suc, ◌*◌, ◌≤◌, ◌<◌}
use native.Mathlib.Omega.{arith}
use mathlib.Core.Path.{◌≡◌, refl, ap, ◌∙◌}
use mathlib.Core.Bool.{true}
use mathlib.Core.List.Memᴰ
use mathlib.Core.List.{List, [], ◌∷◌, ◌++◌, append-nil, append_assoc}
use lib.ListN.{length, get_or, take, drop, replicate, length-append, length-replicate}
use lib.Seq.{take_at, drop_at}
use borrow.Author.Tests.{le-leb, lt-leb}
use Rattle.model.specs.Lists.{◌∈◌, concat_map, count_up}
use Rattle.model.specs.Reader.{gives, after, whole_file}
use Rattle.model.specs.Numbers.{are_bytes, number_within, number_in_under, number_under}
use Rattle.model.specs.Site.{Site}
use Rattle.model.specs.SiteFile.{site_file_under, read_site_under, read_site}
use Rattle.model.specs.Store.{layout}
use Rattle.model.specs.Pattern.{Pattern, width}
use Rattle.model.specs.PatternFile.{pattern_file_under, read_pattern_under, read_pattern}
use Rattle.model.specs.Solutions.{IsSolution, solutions}
use Rattle.model.specs.Calls.{Outcome, either, over, build_under, rows_outcome}
use Rattle.model.specs.Chain.{chain_threshold, chain_store_words, chain_row_words, is_refused, chain, NoMatch}
use Rattle.model.specs.Text.{row_line, rows_text, none_text, refused_text, first_line, row_lines, printed, screen}
use Rattle.model.specs.declared.answer.Answer.{Answer}
use Rattle.model.specs.declared.answer.Answer.TheVariants.{Rows, None, Built, Yes, No, Refused}
use Rattle.model.specs.declared.answer.Answer.TheVariants.{Plan as PlanAnswer}
use Rattle.model.proofs.Solutions.{solutions_sound}
use Rattle.model.proofs.ChainRows.{chain-solutions, chain_plan_refused}
use Rattle.model.proofs.Answers.{chain_none}

-- the words lent for the rows
abbrev lent : List ℕ
lent = replicate chain_row_words 0

-- ---- which answer is told

-- equal texts have equal bytes
byte : (i : ℕ) {a b : List ℕ} → a ≡ b → get_or a i 0 ≡ get_or b i 0
byte i h = ap (λ (bytes : List ℕ). get_or bytes i 0) h

-- by the first two bytes of what is printed
module _ (words more : List ℕ) where
  pub none_told : (answer : Answer) → printed answer words ≡ none_text ++ more → answer ≡ None
  unfolding printed first_line row_lines
  none_told (Rows count v) h = absurd (omega (arith, byte 0 h))
  none_told None h = refl
  none_told (Built used) h = absurd (omega (arith, byte 0 h))
  none_told PlanAnswer h = absurd (omega (arith, byte 0 h))
  none_told Yes h = absurd (omega (arith, byte 0 h))
  none_told No h = absurd (omega (arith, byte 0 h))
  none_told (Refused n) h = absurd (omega (arith, byte 0 h))

  pub rows_told : (answer : Answer) → printed answer words ≡ rows_text ++ more → (count : ℕ) × (v : ℕ) × (answer ≡ Rows count v)
  unfolding printed first_line row_lines
  rows_told (Rows count v) h = (count, v, refl)
  rows_told None h = absurd (omega (arith, byte 0 h))
  rows_told (Built used) h = absurd (omega (arith, byte 0 h))
  rows_told PlanAnswer h = absurd (omega (arith, byte 0 h))
  rows_told Yes h = absurd (omega (arith, byte 0 h))
  rows_told No h = absurd (omega (arith, byte 0 h))
  rows_told (Refused n) h = absurd (omega (arith, byte 1 h))

  pub refusal_told : (answer : Answer) → printed answer words ≡ refused_text ++ more → (n : ℕ) × (answer ≡ Refused n)
  unfolding printed first_line row_lines
  refusal_told (Rows count v) h = absurd (omega (arith, byte 1 h))
  refusal_told None h = absurd (omega (arith, byte 0 h))
  refusal_told (Built used) h = absurd (omega (arith, byte 0 h))
  refusal_told PlanAnswer h = absurd (omega (arith, byte 0 h))
  refusal_told Yes h = absurd (omega (arith, byte 0 h))
  refusal_told No h = absurd (omega (arith, byte 0 h))
  refusal_told (Refused n) h = (n, refl)

pub screen_none : (file check more : List ℕ) → are_bytes file ≡ true → screen file check ≡ none_text ++ more → NoMatch file check
unfolding screen
screen_none file check more bytes h =
    chain_none file check lent bytes (none_told (chain file check lent).memory more (chain file check lent).answer h)

-- ---- the lines of rows

-- rows of v words stand one behind the other, behind k rows
lines_from : (v : ℕ) (words front rest : List ℕ) (k : ℕ) (rows : List (List ℕ)) → words ≡ front ++ (concat_map (λ row. row) rows ++ rest)
    → length front ≡ k * v → ((row : List ℕ) → row ∈ rows → length row ≡ v)
    → concat_map (λ i. row_line (take v (drop (i * v) words))) (count_up k (length rows)) ≡ concat_map row_line rows
lines_from v words front rest k [] e before sized = refl
lines_from v words front rest k (row ∷ rows) e before sized =
    let size = sized row (Memᴰ.head refl) in
    let split : words ≡ front ++ (row ++ (concat_map (λ r. r) rows ++ rest)) = e ∙ rw append_assoc refl in
    let here : take v (drop (k * v) words) ≡ row = rw (split, drop_at front _ (k * v) before) (take_at row _ v size) in
    let next = lines_from v words (front ++ row) rest (suc k) rows (split ∙ rw append_assoc refl) (rw length-append (omega arith)) (λ r m. sized r (Memᴰ.tail m)) in
    rw (here, next) refl

pub rows-shown : (v : ℕ) (rows : List (List ℕ)) (memory : List ℕ) → ((row : List ℕ) → row ∈ rows → length row ≡ v)
    → row_lines (Rows (length rows) v) (over (concat_map (λ row. row) rows) memory) ≡ concat_map row_line rows
unfolding row_lines
rows-shown v rows memory sized = lines_from v _ [] _ 0 rows refl (omega arith) sized

-- ---- the screen of solutions

-- all that is printed of an outcome
abbrev shown : Outcome → List ℕ
shown o = printed o.answer o.memory

module _ (v : ℕ) (memory : List ℕ) where
  pub rows-printed : (rows : List (List ℕ)) → 1 ≤ length rows → length rows * v ≤ length memory → ((row : List ℕ) → row ∈ rows → length row ≡ v)
      → shown (rows_outcome v rows memory) ≡ first_line (Rows (length rows) v) ++ concat_map row_line rows
  unfolding rows_outcome either printed
  rows-printed [] some room sized = absurd (omega arith)
  rows-printed (r ∷ rs) some room sized =
      rw (le-leb (length (r ∷ rs) * v) (length memory) room) (ap (λ (lines : List ℕ). first_line (Rows (length (r ∷ rs)) v) ++ lines) (rows-shown v (r ∷ rs) memory sized))

  pub refusal_printed : (rows : List (List ℕ)) → length memory < length rows * v → shown (rows_outcome v rows memory) ≡ first_line (Refused 21)
  unfolding rows_outcome either printed row_lines
  refusal_printed [] many = absurd (omega arith)
  refusal_printed (r ∷ rs) many = rw (lt-leb (length (r ∷ rs) * v) (length memory) many) (append-nil (first_line (Refused 21)))

module _ (file check : List ℕ) (site : Site) (pattern : Pattern) (whole : read_site file ≡ gives site)
    (fits : length (layout chain_threshold site) ≤ chain_store_words) (read : read_pattern site check ≡ gives pattern) where
  by_solutions : screen file check ≡ shown (rows_outcome (width pattern) (solutions site pattern) lent)
  unfolding screen
  by_solutions = ap shown (chain-solutions file check lent site whole fits pattern read)

  pub screen_no_match : ((row : List ℕ) → IsSolution site pattern row → ⊥) → screen file check ≡ first_line None
  unfolding rows_outcome printed first_line row_lines
  screen_no_match none = by_solutions ∙ rw (empty (solutions site pattern) (λ row m. none row (solutions_sound site pattern row m))) refl
    where
      empty : (rows : List (List ℕ)) → ((row : List ℕ) → row ∈ rows → ⊥) → rows ≡ []
      empty [] h = refl
      empty (r ∷ rs) h = absurd (h r (Memᴰ.head refl))

  pub screen-rows : 1 ≤ length (solutions site pattern) → length (solutions site pattern) * width pattern ≤ chain_row_words
      → screen file check ≡ first_line (Rows (length (solutions site pattern)) (width pattern)) ++ concat_map row_line (solutions site pattern)
  screen-rows some room =
      by_solutions
      ∙ rows-printed (width pattern) lent (solutions site pattern) some (omega (arith, length-replicate {A = ℕ} chain_row_words 0))
      (λ row m. (solutions_sound site pattern row m).one_term_each)

  pub screen_too_many : chain_row_words < length (solutions site pattern) * width pattern → screen file check ≡ first_line (Refused 21)
  screen_too_many many =
      by_solutions ∙ refusal_printed (width pattern) lent (solutions site pattern) (omega (arith, length-replicate {A = ℕ} chain_row_words 0))

-- a site that was not read: no byte is taken of it
pub screen_absent : (check : List ℕ) → screen [] check ≡ first_line (Refused 2)
unfolding screen chain is_refused build_under either read_site_under whole_file site_file_under after number_under number_in_under number_within printed row_lines
screen_absent check = append-nil (first_line (Refused 2))

-- nor of the check
pub screen_absent_check : (file : List ℕ) (site : Site) → read_site file ≡ gives site → length (layout chain_threshold site) ≤ chain_store_words
    → screen file [] ≡ first_line (Refused 11)
unfolding screen read_pattern_under whole_file pattern_file_under after number_under number_in_under number_within printed row_lines
screen_absent_check file site whole fits = ap shown (chain_plan_refused file [] lent site whole fits 11 refl) ∙ append-nil (first_line (Refused 11))
