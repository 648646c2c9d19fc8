-- The files: each is read to its last byte, and is what is written for what was read.
use Prim.Native.Nat.{ℕ, suc, ◌<◌}
use native.Mathlib.Omega.{arith}
use mathlib.Core.Path.{◌≡◌, refl}
use mathlib.Core.Bool.{true}
use mathlib.Core.List.{List, [], ◌∷◌, ◌++◌}
use lib.ListN.{length, take}
use lib.Seq.{take-length}
use lib.IntN.{pos, negsuc}
use borrow.Author.Tests.{eq-eqb, ne_eqb}
use Rattle.model.specs.Reader.{gives}
use Rattle.model.specs.Numbers.{are_bytes}
use Rattle.model.specs.ExactFile.{FileIsExact}
use Rattle.model.specs.Site.{Site, is_site}
use Rattle.model.specs.SiteFile.{read_site, site_bytes}
use Rattle.model.specs.Store.{Store}
use Rattle.model.specs.Pattern.{Pattern, is_accepted}
use Rattle.model.specs.PatternFile.{read_pattern, pattern_bytes}
use Rattle.model.specs.Plan.{is_proper}
use Rattle.model.specs.PlanFile.{read_plan, plan_bytes}
use Rattle.model.specs.Files.{taken_size, taken}
use Rattle.model.specs.Chain.{site_buffer_bytes, check_buffer_bytes}
use Rattle.model.proofs.Patterns.{pattern_limit}
use Rattle.model.proofs.SiteFile.{site_file_lem}
use Rattle.model.proofs.PatternFile.{pattern_accepted, pattern_file_lem}
use Rattle.model.proofs.PlanFile.{plan_file}
use Rattle.model.proofs.Prefixes.{no_site_prefix, no_pattern_prefix}
use Rattle.model.proofs.FileSizes.{site-size, pattern-size}

-- ==== The files: what is read is proper; what is written is bytes, and reading it gives it back; an accepted file is what is written
-- for what was read, so no byte goes unread and no file is refused that should not be

abbrev pub FilesAreExact : Type 0
FilesAreExact =
    FileIsExact read_site site_bytes is_site
    × ((site : Site) → FileIsExact (read_pattern site) pattern_bytes (is_accepted site))
    × ((store : Store) (pattern : Pattern) → is_accepted store.site pattern ≡ true
    → FileIsExact (read_plan store pattern) plan_bytes (is_proper store pattern))

pub files_are_exact : FilesAreExact
files_are_exact = (site_file_lem, pattern_file_lem, λ store pattern accepted. plan_file store pattern (pattern_limit store.site pattern accepted))

-- an accepted site and an accepted check are shorter than the check program's buffers: so a file that is cut there is refused, and one
-- that is accepted was read to its end
abbrev pub FilesAreShort : Type 0
FilesAreShort =
    ((bytes : List ℕ) (site : Site) → are_bytes bytes ≡ true → read_site bytes ≡ gives site → length bytes < site_buffer_bytes)
    × ((site : Site) (bytes : List ℕ) (pattern : Pattern) → are_bytes bytes ≡ true → read_pattern site bytes ≡ gives pattern → length bytes < check_buffer_bytes)

pub files_are_short : FilesAreShort
files_are_short = (
  (λ bytes site e h. rw (site_file_lem.2 bytes site e h) (omega (arith, site-size site (site_file_lem.0 bytes site h)))),
  λ site bytes pattern e h.
      rw ((pattern_file_lem site).2 bytes pattern e h) (omega (arith, pattern-size pattern (pattern_limit site pattern (pattern_accepted site bytes pattern h)))),
)

-- 'none' may be said only of a site that was read whole: no proper prefix of an accepted site or check is accepted, so a short read is
-- never taken for the file
abbrev pub NoPrefixIsAccepted : Type 0
NoPrefixIsAccepted =
    ((front : List ℕ) (b : ℕ) (rest : List ℕ) (site other : Site) → read_site (front ++ b ∷ rest) ≡ gives site → read_site front ≡ gives other → ⊥)
    × ((site : Site) (front : List ℕ) (b : ℕ) (rest : List ℕ) (pattern other : Pattern)
    → read_pattern site (front ++ b ∷ rest) ≡ gives pattern → read_pattern site front ≡ gives other → ⊥)

pub no_prefix_is_accepted : NoPrefixIsAccepted
no_prefix_is_accepted = (no_site_prefix, no_pattern_prefix)

-- a file is taken whole or not at all: of one that has ended, all that was read; where a read failed the file counts as absent, so as empty;
-- where there may be more, nothing, unless the bytes fill the buffer, which cuts the file there
abbrev pub TakenWholeOrNot : Type 0
TakenWholeOrNot =
    (buffer : List ℕ)
    → ((size : ℕ) → taken buffer size (pos 0) ≡ take size buffer)
    × ((size n : ℕ) → taken buffer size (negsuc n) ≡ [])
    × ((size n : ℕ) → size < length buffer → taken buffer size (pos (suc n)) ≡ [])
    × ((n : ℕ) → taken buffer (length buffer) (pos (suc n)) ≡ buffer)

pub taken_whole_or_not : TakenWholeOrNot
unfolding taken_size
taken_whole_or_not buffer = (
  (λ size. refl),
  (λ size n. refl),
  (λ size n short. rw (ne_eqb size (length buffer) (omega arith)) refl),
  λ n. rw (eq-eqb (length buffer) (length buffer) refl) (take-length buffer),
)
