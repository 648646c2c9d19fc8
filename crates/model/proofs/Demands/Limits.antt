-- The limits, as the numbers that documents 01 and 02 write.
use mathlib.Core.Path.{◌≡◌, refl}
use Rattle.model.specs.Numbers.{most_number_bytes, most_term, limits_of_01}
use Rattle.model.specs.Site.{most_predicates, most_rows}
use Rattle.model.specs.Tables.{most_threshold}
use Rattle.model.specs.Pattern.{most_triple_patterns, most_variables}
use Rattle.model.specs.Chain.{chain_threshold, site_buffer_bytes, check_buffer_bytes, chain_store_words, chain_row_words}

-- ==== A number is 1 to 4 bytes and a term 0 to 16,777,215, by S-9, where document 01 had 1 to 3 bytes and 0 to 65,535; P is 0 to 16, all
-- counts together at most 1,024; T is 0 to 1,000; N is 1 to 8, a variable 0 to 7, so at most 8 of them; the check program has T 1,000, a
-- store of 8,192 words and 4,096 words for rows, and reads its site into 8,448 bytes, by S-9, and its check into 128

abbrev pub LimitsAre : Type 0
LimitsAre =
    (most_number_bytes ≡ 4)
    × (most_term ≡ 16777215)
    × (most_predicates ≡ 16)
    × (most_rows ≡ 1024)
    × (most_threshold ≡ 1000)
    × (most_triple_patterns ≡ 8)
    × (most_variables ≡ 8)
    × (chain_threshold ≡ 1000)
    × (chain_store_words ≡ 8192)
    × (chain_row_words ≡ 4096)
    × (site_buffer_bytes ≡ 8448)
    × (check_buffer_bytes ≡ 128)
    × (limits_of_01.bytes ≡ 3)
    × (limits_of_01.term ≡ 65535)

pub limits_are : LimitsAre
limits_are = (refl, refl, refl, refl, refl, refl, refl, refl, refl, refl, refl, refl, refl, refl)
