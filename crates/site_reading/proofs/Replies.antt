-- What was read of a site's file, and what the questions of `build` lead to.
use Prim.Native.Nat.{ℕ, ◌≤◌, ◌<◌}
use native.Mathlib.Omega.{arith}
use mathlib.Core.Path.{◌≡◌, refl, sym, ap, ◌∙◌, subst}
use mathlib.Core.List.{List}
use lib.ListN.{length, drop}
use borrow.Author.Tests.{le-leb, lt-leb}
use Rattle.model.specs.Reader.{Reply, refused, gives}
use Rattle.model.specs.Site.{Site}
use Rattle.model.specs.SiteFile.{read_site}
use Rattle.model.specs.Tables.{most_threshold}
use Rattle.model.specs.Store.{layout}
use Rattle.model.specs.Calls.{outcome, over, either, unaltered, filled, build_under, build}
use Rattle.model.specs.declared.answer.Answer.TheVariants.{Built}
use Rattle.model.proofs.SiteFile.{site_file_lem}
use Rattle.site_reading.specs.Image.{SiteReadAs}
use Rattle.tables.specs.SiteWords.{site_in, image_words, ImageOf}
use Rattle.model.specs.declared.refusal.Refusal.{Refusal}
use Rattle.model.proofs.Results.{ok_gives}
use Rattle.site_elements.specs.Reading.{TakenAs}
use Rattle.std.specs.Prelude.{Result, Ok}
use Rattle.tables.proofs.Images.{image_of, stored_start_limit}

-- how far the bytes were taken, and what memory holds then
pub taken_given : {A : Type 0} (Held : A → Type 0) (s : List ℕ) (reply : Reply (A × List ℕ)) {r : Result ℕ Refusal} {next : ℕ} → TakenAs reply Held s r → r ≡ Ok next
    → (x : A) × (reply ≡ gives (x, drop next s)) × Held x
taken_given Held s reply h e =
    let (x, given, (rest, held)) = ok_gives _ reply h e in
    (x.0, given ∙ ap (λ (l : List ℕ). gives (x.0, l)) rest, held)

-- the site that was read is the image's
pub site_read : (bytes image : List ℕ) {r : Result ℕ Refusal} {count : ℕ} → image_words ≤ length image → SiteReadAs (read_site bytes) image r → r ≡ Ok count
    → ImageOf count image × (read_site bytes ≡ gives (site_in count image))
site_read bytes image {count = count} long h e =
    let (site, given, (few, held)) = ok_gives _ (read_site bytes) h e in
    let yes-site = site_file_lem.0 bytes site given in
    let (o, same) = image_of site image yes-site (omega (arith, stored_start_limit site yes-site)) held in
    subst (λ (k : ℕ). ImageOf k image × (read_site bytes ≡ gives (site_in k image))) (sym few) (o, rw same given)

module _ (t : ℕ) (memory : List ℕ) where
  module _ (bytes : List ℕ) where
    pub threshold_refused : most_threshold < t → build t bytes memory ≡ unaltered memory 1
    unfolding build_under either
    threshold_refused h = rw (lt-leb t most_threshold h) refl

    pub file_refused : {n : ℕ} → t ≤ most_threshold → read_site bytes ≡ refused n → build t bytes memory ≡ unaltered memory n
    unfolding build_under either
    file_refused h e = rw (le-leb t most_threshold h, e) refl

    pub file_given : {site : Site} → t ≤ most_threshold → read_site bytes ≡ gives site → build t bytes memory ≡ filled t site memory
    unfolding build_under either
    file_given h e = rw (le-leb t most_threshold h, e) refl

  module _ (site : Site) where
    pub memory_refused : length memory < length (layout t site) → filled t site memory ≡ unaltered memory 9
    unfolding either
    memory_refused h = rw (lt-leb (length (layout t site)) (length memory) h) refl

    pub memory_filled : length (layout t site) ≤ length memory → filled t site memory ≡ outcome (Built (length (layout t site))) (over (layout t site) memory)
    unfolding either
    memory_filled h = rw (le-leb (length (layout t site)) (length memory) h) refl
