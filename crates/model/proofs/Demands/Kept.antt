-- S-9: files accepted before mean what they meant.
use Prim.Native.Nat.{ℕ, ◌≤◌}
use native.Mathlib.Omega.{arith}
use mathlib.Core.Path.{◌≡◌, refl}
use mathlib.Core.Bool.{true, false}
use mathlib.Core.Option.{some}
use mathlib.Core.List.{List, ◌∷◌, ◌++◌}
use lib.ListN.{length}
use Rattle.model.specs.Reader.{refused, gives}
use Rattle.model.specs.Numbers.{Limits, limits_in_force, limits_of_01}
use Rattle.model.specs.Site.{Site, is_site_under}
use Rattle.model.specs.SiteFile.{read_site_under, read_site}
use Rattle.model.specs.Tables.{most_threshold}
use Rattle.model.specs.Store.{layout, Holds, Store, store_of_under, store_of}
use Rattle.model.specs.Pattern.{Pattern, width}
use Rattle.model.specs.PatternFile.{read_pattern_under, read_pattern}
use Rattle.model.specs.Plan.{Plan}
use Rattle.model.specs.PlanFile.{read_plan_under, read_plan}
use Rattle.model.specs.Solutions.{solutions}
use Rattle.model.specs.Calls.{store_reply, unaltered, build_under, build, no_plan, plan_under, plan, rows_outcome, run_under, run, whether_under, whether}
use Rattle.model.specs.Chain.{chain_threshold, chain_store_words, is_refused, chain}
use Rattle.model.specs.Kept.{NoNarrower, KeptBut, site_asks, pattern_asks, plan_asks}
use Rattle.model.specs.declared.answer.Answer.TheVariants.{Refused}
use Rattle.model.proofs.Membership.{listed}
use Rattle.model.proofs.Stores.{built_holds}
use Rattle.model.proofs.ChainRows.{chain-solutions}
use Rattle.model.proofs.Kept.{gives_still, answer_still, site_kept, pattern_kept, plan_kept}
use Rattle.model.proofs.KeptCalls.{site_still, store_still, build_kept, a_store_kept, words_kept, plan_call_kept, run_kept, whether_kept}

-- ==== Limits that are no narrower keep every reply, refusals too, but for those with the number of a question that asks the limits: a
-- number's form (2, 11, 18) and a term (4, 6, 13, 15)

abbrev pub WiderLimitsKeepFiles : Type 0
WiderLimitsKeepFiles =
    (old new : Limits) → NoNarrower old new
    → ((bytes : List ℕ) → KeptBut site_asks refused (read_site_under old bytes) (read_site_under new bytes))
    × ((site : Site) (bytes : List ℕ) → KeptBut pattern_asks refused (read_pattern_under old site bytes) (read_pattern_under new site bytes))
    × ((store : Store) (pattern : Pattern) (bytes : List ℕ)
    → KeptBut plan_asks refused (read_plan_under old store pattern bytes) (read_plan_under new store pattern bytes))

pub wider_limits_keep_files : WiderLimitsKeepFiles
wider_limits_keep_files old new no-narrower =
    (site_kept _ old new no-narrower refl, pattern_kept _ old new no-narrower refl, plan_kept _ old new no-narrower refl)

-- the same of each call, its lent memory included; words that were a store are the store of the same site and threshold
abbrev pub WiderLimitsKeepCalls : Type 0
WiderLimitsKeepCalls =
    (old new : Limits) → NoNarrower old new
    → ((t : ℕ) (bytes memory : List ℕ) → KeptBut site_asks (unaltered memory) (build_under old t bytes memory) (build_under new t bytes memory))
    × ((words : List ℕ) (store : Store) → store_of_under old words ≡ some store
    → (store_of_under new words ≡ some store)
    × ((bytes : List ℕ) → KeptBut pattern_asks no_plan (plan_under old words bytes) (plan_under new words bytes))
    × ((bytes steps memory : List ℕ)
    → KeptBut (pattern_asks ++ plan_asks) (unaltered memory) (run_under old words bytes steps memory) (run_under new words bytes steps memory))
    × ((bytes steps : List ℕ) → KeptBut (pattern_asks ++ plan_asks) Refused (whether_under old words bytes steps) (whether_under new words bytes steps)))

pub wider_limits_keep_calls : WiderLimitsKeepCalls
wider_limits_keep_calls old new no-narrower = (
  build_kept old new no-narrower _ refl,
  λ words store was. (
    store_still old new no-narrower words was,
    plan_call_kept old new no-narrower _ refl words (a_store_kept old new no-narrower _ words was),
    (λ bytes. run_kept old new no-narrower _ refl words (a_store_kept old new no-narrower _ words was) bytes refl),
    λ bytes. whether_kept old new no-narrower _ refl words (a_store_kept old new no-narrower _ words was) bytes refl,
  ),
)

-- ==== Files accepted before mean what they meant: every file that the limits 3 and 65,535 accept gives the same site, pattern or plan

widened : NoNarrower limits_of_01 limits_in_force
widened = record { longer = omega arith; wider = omega arith }

abbrev pub FilesMeanWhatTheyMeant : Type 0
FilesMeanWhatTheyMeant =
    ((bytes : List ℕ) (site : Site) → read_site_under limits_of_01 bytes ≡ gives site → read_site bytes ≡ gives site)
    × ((site : Site) (bytes : List ℕ) (pattern : Pattern) → read_pattern_under limits_of_01 site bytes ≡ gives pattern → read_pattern site bytes ≡ gives pattern)
    × ((store : Store) (pattern : Pattern) (bytes : List ℕ) (given : Plan)
    → read_plan_under limits_of_01 store pattern bytes ≡ gives given → read_plan store pattern bytes ≡ gives given)

pub files_mean_what_they_meant : FilesMeanWhatTheyMeant
files_mean_what_they_meant =
    let kept = wider_limits_keep_files limits_of_01 limits_in_force widened in
    ((λ bytes site. gives_still (kept.0 bytes)), (λ site bytes pattern. gives_still (kept.1 site bytes)), λ store pattern bytes given. gives_still (kept.2 store pattern bytes))

-- so whatever a call answered, it answers with the same words in the lent memory: Built, a plan, rows or none, yes or no
abbrev pub CallsAnswerAsTheyDid : Type 0
CallsAnswerAsTheyDid =
    ((t : ℕ) (bytes memory : List ℕ) → is_refused (build_under limits_of_01 t bytes memory).answer ≡ false → build t bytes memory ≡ build_under limits_of_01 t bytes memory)
    × ((words bytes : List ℕ) → is_refused (plan_under limits_of_01 words bytes).answer ≡ false → plan words bytes ≡ plan_under limits_of_01 words bytes)
    × ((words bytes steps memory : List ℕ)
    → is_refused (run_under limits_of_01 words bytes steps memory).answer ≡ false → run words bytes steps memory ≡ run_under limits_of_01 words bytes steps memory)
    × ((words bytes steps : List ℕ)
    → is_refused (whether_under limits_of_01 words bytes steps) ≡ false → whether words bytes steps ≡ whether_under limits_of_01 words bytes steps)

-- the numbers of all questions that ask the limits, of words too
abbrev asked : List ℕ
asked = 10 ∷ (pattern_asks ++ plan_asks)

store-reply : (words : List ℕ) → KeptBut asked refused (store_reply (store_of_under limits_of_01 words)) (store_reply (store_of words))
store-reply = words_kept limits_of_01 limits_in_force widened asked (listed 10 asked refl)

pub calls_answer_as_they_did : CallsAnswerAsTheyDid
unfolding is_refused
calls_answer_as_they_did = (
  (λ t bytes memory. answer_still (λ o. is_refused o.answer) (λ n. refl) (build_kept limits_of_01 limits_in_force widened site_asks refl t bytes memory)),
  (λ words bytes. answer_still (λ o. is_refused o.answer) (λ n. refl) (plan_call_kept limits_of_01 limits_in_force widened asked refl words (store-reply words) bytes)),
  (λ words bytes steps memory.
      answer_still (λ o. is_refused o.answer) (λ n. refl) (run_kept limits_of_01 limits_in_force widened asked refl words (store-reply words) bytes refl steps memory)),
  λ words bytes steps. answer_still is_refused (λ n. refl) (whether_kept limits_of_01 limits_in_force widened asked refl words (store-reply words) bytes refl steps),
)

-- the words of a site within the limits of 01, whatever stands past them, are its store, and what is a store under them is one; a store that was
-- kept from before S-14 lists three kinds, and is none (three_kinds_refused, of SharedObjects)
abbrev pub StoresAreStoresStill : Type 0
StoresAreStoresStill =
    ((t : ℕ) (site : Site) (rest : List ℕ) → t ≤ most_threshold → is_site_under limits_of_01 site ≡ true → Holds (layout t site ++ rest) t site)
    × ((words : List ℕ) (store : Store) → store_of_under limits_of_01 words ≡ some store → store_of words ≡ some store)

pub stores_are_stores_still : StoresAreStoresStill
stores_are_stores_still = (
  (λ t site rest threshold was. built_holds t site rest threshold (site_still limits_of_01 limits_in_force widened site was)),
  λ words store. store_still limits_of_01 limits_in_force widened words,
)

-- and the check program shows of a site and a check that were accepted what it did: their solutions
abbrev pub ChainShowsWhatItDid : Type 0
ChainShowsWhatItDid =
    (file check memory : List ℕ) (site : Site) (pattern : Pattern)
    → read_site_under limits_of_01 file ≡ gives site → length (layout chain_threshold site) ≤ chain_store_words → read_pattern_under limits_of_01 site check ≡ gives pattern
    → chain file check memory ≡ rows_outcome (width pattern) (solutions site pattern) memory

pub chain_shows_what_it_did : ChainShowsWhatItDid
chain_shows_what_it_did file check memory site pattern read fits accepted =
    let (sites, patterns, _) = files_mean_what_they_meant in
    chain-solutions file check memory site (sites file site read) fits pattern (patterns site check pattern accepted)
