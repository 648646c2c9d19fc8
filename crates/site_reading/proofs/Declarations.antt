-- The image of a site: the declarations of its entries, and the site that it holds.
use Prim.Native.Nat.{ℕ, ◌+◌, ◌*◌, ◌<◌, ◌≤◌}
use native.Mathlib.Omega.{arith}
use mathlib.Core.Path.{◌≡◌, refl, sym, ap, ◌∙◌}
use mathlib.Core.Bool.{true, false}
use mathlib.Core.List.{List, [], ◌∷◌, ◌++◌}
use lib.ListN.{length, drop, length-map, drop_of_length-le}
use lib.Seq.{sets, drop-cons, take_at, take-append_seam}
use borrow.Author.Tests.{le-leb}
use Rattle.model.specs.Lists.{sum, is_empty}
use Rattle.model.specs.Reader.{Reply, gives, repeated, all_read}
use Rattle.model.specs.Site.{Site, most_predicates, most_rows, row_total}
use Rattle.model.specs.SiteFile.{Declaration, declaration, tables, read_site, declaration_of, declarations}
use Rattle.model.specs.Store.{rows_start, vp_words, vp_entries}
use Rattle.model.proofs.SiteFile.{sum-map, all_tables_read}
use Rattle.model.proofs.StoreLayout.{length-all}
use Rattle.model.proofs.Blocks.{Block, drop_block}
use Rattle.model.proofs.Setting.{part_sets, sets_block}
use Rattle.tables.specs.SiteWords.{declared_in, declared_rows, image_words, ImageHolds}
use Rattle.tables.proofs.Declared.{length-declared_in}
use Rattle.tables.proofs.Images.{rows_room}
use Rattle.site_elements.specs.Reading.{TakenAs}
use Rattle.site_reading.specs.Image.{DeclaredIn, SiteReadAs}
use Rattle.std.specs.Prelude.{Result, Ok, Err}
use Rattle.model.specs.Numbers.{number}
use Rattle.model.specs.declared.refusal.Refusal.{Refusal}
use Rattle.model.specs.declared.refusal.Refusal.TheVariants.{SiteNotEnded}
use Rattle.model.proofs.Results.{refused_as, gives_as}
use Rattle.site_elements.proofs.Replies.{refusal_passed}
use Rattle.site_reading.proofs.Replies.{taken_given}
use Rattle.site_elements.proofs.DeclarationReading.{length_declared, declarations_good}
use Rattle.site_reading.proofs.Reading.{declarations_read}

-- ---- the declarations of entries

declared_back : (here : ℕ) (ds : List Declaration) (rest : List ℕ) → declared_in (length ds) (vp_entries here ds ++ rest) ≡ ds
declared_back here [] rest = refl
declared_back here (d ∷ ds) rest = ap (λ (more : List Declaration). d ∷ more) (declared_back (here + 2 * d.1) ds rest)

-- the declarations of a site are as many as its tables
site-size : (count : ℕ) (entries : List ℕ) (site : Site) → declarations site ≡ declared_in count entries → length site ≡ count
site-size count entries site same = sym (length-map site declaration_of) ∙ ap length same ∙ length-declared_in count entries

-- ---- an image of count predicates

module _ (count : ℕ) (image : List ℕ) (few : count ≤ most_predicates) (room : image_words ≤ length image) where
  -- the entries of declarations are written
  module _ (ds : List Declaration) (size : length ds ≡ count) (after : List ℕ) (written : after ≡ sets image 3 (vp_entries (rows_start count) ds)) where
    block : Block after 3 (vp_entries (rows_start count) ds)
    block = rw written (sets_block image 3 (vp_entries (rows_start count) ds) (omega (arith, length_declared (rows_start count) ds, rows_room count few)))

    written_declared : declared_in count (drop 3 after) ≡ ds
    written_declared =
        ap (declared_in count) (drop_block block)
        ∙ ap (λ (k : ℕ). declared_in k (vp_entries (rows_start count) ds ++ block.after)) (sym size)
        ∙ declared_back (rows_start count) ds block.after

    written_in : sum (λ d. d.1) ds ≤ most_rows → DeclaredIn count after
    written_in rows = record {
      entries = rw (written_declared, drop_block block) (take_at _ _ (3 * count) (length_declared (rows_start count) ds ∙ ap (λ (k : ℕ). 3 * k) size));
      few = rw written_declared rows;
    }

  -- the rows of a site are written, behind its entries
  module _ (declared : DeclaredIn count image) (site : Site) (same : declarations site ≡ declared_in count (drop 3 image)) where
    site_held : (after : List ℕ) → after ≡ sets image (rows_start count) (vp_words site) → ImageHolds site after
    site_held after e =
        let size = site-size count (drop 3 image) site same in
        let total : row_total site ≡ declared_rows count (drop 3 image) = sym (sum-map declaration_of (λ d. d.1) site) ∙ ap (sum (λ d. d.1)) same in
        let fits : rows_start count + length (vp_words site) ≤ length image = omega (arith, length-all (λ t. t.rows) site, rows_room count few) in
        record {
          entries = rw (e, size)
              (part_sets image (rows_start count) (vp_words site) 3 (3 * count) (omega arith)
              ∙ declared.entries
              ∙ ap (vp_entries (rows_start count)) (sym same));
          rows = rw (e, size, drop_block (sets_block image (rows_start count) (vp_words site) fits)) (take-append_seam _ _);
        }

-- ---- the declarations of a site, as the code has them

module _ (s : List ℕ) (at count : ℕ) (image : List ℕ) (few : count ≤ most_predicates) (room : image_words ≤ length image) (after : List ℕ) where
  abbrev EntriesWritten : List Declaration → Type 0
  EntriesWritten ds = after ≡ sets image 3 (vp_entries (rows_start count) ds)

  module _ {r : Result ℕ Refusal} (taken : TakenAs (repeated declaration count [] (drop at s)) EntriesWritten s r) {next : ℕ} (e : r ≡ Ok next) where
    declared : (ds : List Declaration) × (repeated declaration count [] (drop at s) ≡ gives (ds, drop next s)) × EntriesWritten ds
    declared = taken_given EntriesWritten s (repeated declaration count [] (drop at s)) taken e

    pub declarations_in : DeclaredIn count after
    declarations_in =
        let (ds, read, written) = declared in
        let good = declarations_good count (drop at s) read in
        written_in count image few room ds good.0 after written good.1

    pub declarations-behind : number 2 s ≡ gives (count, drop at s) → read_site s ≡ all_read 8 (tables (declared_in count (drop 3 after)) [] (drop next s))
    declarations-behind p =
        let (ds, read, written) = declared in
        rw (written_declared count image few room ds (declarations_good count (drop at s) read).0 after written) (declarations_read s p (le-leb _ _ few) read)

-- ---- the rest of a site, as the code has it

bytes_left : (s : List ℕ) (at : ℕ) → at < length s → is_empty (drop at s) ≡ false
bytes_left s at h = rw (drop-cons s at 0 h) refl

no_byte_left : (s : List ℕ) (at : ℕ) → length s ≤ at → is_empty (drop at s) ≡ true
no_byte_left s at h = rw (drop_of_length-le s h) refl

module _ (s : List ℕ) (at count : ℕ) (image : List ℕ) where
  abbrev reply : Reply (Site × List ℕ)
  reply = tables (declared_in count (drop 3 image)) [] (drop at s)

  module _ (after : List ℕ) where
    abbrev RowsWritten : Site → Type 0
    RowsWritten site = after ≡ sets image (rows_start count) (vp_words site)

    module _ {r : Result ℕ Refusal} (taken : TakenAs reply RowsWritten s r) where
      pub rest_refused : {e : Refusal} → r ≡ Err e → SiteReadAs (all_read 8 reply) after (Err e)
      rest_refused is = refusal_passed _ _ taken is (λ m h. rw h refl)

      module _ {end : ℕ} (e : r ≡ Ok end) where
        given : (site : Site) × (reply ≡ gives (site, drop end s)) × RowsWritten site
        given = taken_given RowsWritten s reply taken e

        pub rest_longer : end < length s → SiteReadAs (all_read 8 reply) after (Err SiteNotEnded)
        rest_longer h = refused_as _ SiteNotEnded (rw (given.1, bytes_left s end h) refl)

        pub rest_read : count ≤ most_predicates → image_words ≤ length image → DeclaredIn count image → length s ≤ end → SiteReadAs (all_read 8 reply) after (Ok count)
        rest_read few room declared h =
            let (site, read, written) = given in
            let same = (all_tables_read (declared_in count (drop 3 image)) (drop at s) read).0 in
            let whole : all_read 8 reply ≡ gives site = rw (read, no_byte_left s end h) refl in
            gives_as _ whole (sym (site-size count (drop 3 image) site same), site_held count image few room declared site same after written)
