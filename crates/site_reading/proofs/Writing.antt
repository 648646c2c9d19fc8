-- Tables that are written one behind the other.
use Prim.Native.Nat.{ℕ, ◌+◌, ◌*◌}
use mathlib.Core.Path.{◌≡◌, refl}
use mathlib.Core.List.{List, [], ◌∷◌, ◌++◌, append-nil}
use lib.Seq.{sets}
use Rattle.model.specs.Site.{Table, Site, row_total}
use Rattle.model.specs.Store.{table_words, vp_words}
use Rattle.model.proofs.Blocks.{concat_map-append}
use Rattle.model.proofs.StoreLayout.{length-all}
use Rattle.model.proofs.Setting.{sets-append}

-- a table's rows behind those of the tables done
pub table-written : (image₀ image : List ℕ) (start to : ℕ) (done : Site) (t : Table) → image ≡ sets image₀ start (vp_words done) → to ≡ start + 2 * row_total done
    → sets image to (table_words t.rows) ≡ sets image₀ start (vp_words (done ++ t ∷ []))
table-written image₀ image start to done t e h =
    rw (e, h, concat_map-append (λ t. table_words t.rows) done (t ∷ []), append-nil (table_words t.rows), sets-append image₀ start (vp_words done) (table_words t.rows), length-all (λ t. t.rows) done) refl
