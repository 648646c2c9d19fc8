-- The ways out of a declaration, and its entry written behind those before it.
use Prim.Native.Nat.{ℕ, ◌+◌, ◌*◌, ◌≤◌}
use native.Mathlib.Omega.{arith}
use mathlib.Core.Path.{◌≡◌, refl, ◌∙◌}
use mathlib.Core.Bool.{Bool, true, false, ◌&&◌}
use mathlib.Core.List.{List, [], ◌∷◌, ◌++◌, map}
use lib.ListN.{length, drop}
use lib.Seq.{sets}
use lib.Dec.{ltb, leb}
use Rattle.model.specs.Lists.{sum, above_last}
use Rattle.model.specs.Reader.{Reply, refused, gives, Reader, ◌>>=◌, ◌>>◌, return, after, ask, repeated}
use Rattle.model.specs.Numbers.{is_term, number}
use Rattle.model.specs.Site.{most_rows}
use Rattle.model.specs.SiteFile.{Declaration, declaration_under, declaration}
use Rattle.model.specs.Store.{vp_entry_at, vp_entries}
use Rattle.model.proofs.Readers.{repeated_read}
use Rattle.model.proofs.SiteFile.{declared_few, declared_grow, declaration_reads}
use Rattle.model.proofs.Setting.{sets-append}
use Rattle.site_elements.specs.Reading.{term}
use Rattle.site_elements.proofs.Terms.{term_then, number_refused, no_term as above_terms}
use Rattle.numbers.specs.NumberAt.{number_at}
use Rattle.numbers.proofs.NumberReplies.{number_bad, number-value}
use Rattle.std.specs.Prelude.{Some, None}
use Rattle.tables.proofs.Declared.{declared_snoc}

-- ---- the ways out

-- two questions under one number, one behind the other
ask_both : {B : Type 0} (n : ℕ) (a b : Bool) (next : Reader B) (bytes : List ℕ)
    → after (ask n (a && b) bytes) (λ _. next) ≡ after (ask n a bytes) (λ _ rest. after (ask n b rest) (λ _. next))
unfolding after ask
ask_both n true b next bytes = refl
ask_both n false b next bytes = refl

module _ (done : List Declaration) (bytes : List ℕ) where
  -- what is read behind the term, and behind the question of the order
  abbrev behind_question : ℕ → Reader Declaration
  behind_question v = do
    w ← number 2
    ask 5 (leb (sum (λ d. d.1) done + w) most_rows)
    return (v, w)

  abbrev behind_term : ℕ → Reader Declaration
  behind_term v = do
    ask 4 (above_last ltb (map (λ d. d.0) done) v)
    behind_question v

  from_term : declaration done bytes ≡ after (term 4 bytes) behind_term
  unfolding declaration_under after
  from_term = go (number 2 bytes) ∙ term_then 4 behind_term bytes
    where
      go : (reply : Reply (ℕ × List ℕ))
          → after reply (λ v rest. after (ask 4 (is_term v && above_last ltb (map (λ d. d.0) done) v) rest) (λ _. behind_question v))
          ≡ after reply (λ v rest. after (ask 4 (is_term v) rest) (λ _. behind_term v))
      go (refused m) = refl
      go (gives x) = ask_both 4 (is_term x.0) _ (behind_question x.0) x.1

  pub term_refused : {m : ℕ} → term 4 bytes ≡ refused m → declaration done bytes ≡ refused m
  unfolding after
  term_refused e = from_term ∙ rw e refl

  module _ {v : ℕ} {middle : List ℕ} (e : term 4 bytes ≡ gives (v, middle)) where
    pub term_below : above_last ltb (map (λ d. d.0) done) v ≡ false → declaration done bytes ≡ refused 4
    unfolding after ask
    term_below a = from_term ∙ rw (e, a) refl

    module _ (a : above_last ltb (map (λ d. d.0) done) v ≡ true) where
      pub count_refused : {m : ℕ} → number 2 middle ≡ refused m → declaration done bytes ≡ refused m
      unfolding after ask
      count_refused f = from_term ∙ rw (e, a, f) refl

      module _ {w : ℕ} {rest : List ℕ} (f : number 2 middle ≡ gives (w, rest)) where
        pub many_rows : leb (sum (λ d. d.1) done + w) most_rows ≡ false → declaration done bytes ≡ refused 5
        unfolding after ask
        many_rows u = from_term ∙ rw (e, a, f, u) refl

        pub declaration_given : leb (sum (λ d. d.1) done + w) most_rows ≡ true → declaration done bytes ≡ gives ((v, w), rest)
        unfolding after ask
        declaration_given u = from_term ∙ rw (e, a, f, u) refl

-- by the number that stands at a place of some bytes
module _ (done : List Declaration) (s : List ℕ) (at : ℕ) where
  pub no_term : number_at s at ≡ None → declaration done (drop at s) ≡ refused 2
  no_term e = term_refused done (drop at s) (number_refused 4 (drop at s) (number_bad 2 s at e))

  pub wide_term : {v middle : ℕ} → number_at s at ≡ Some (v, middle) → is_term v ≡ false → declaration done (drop at s) ≡ refused 4
  wide_term e t = term_refused done (drop at s) (above_terms 4 (drop at s) (number-value 2 s at e) t)

pub declarations_good : (n : ℕ) (bytes : List ℕ) {ds : List Declaration} {rest : List ℕ} → repeated declaration n [] bytes ≡ gives (ds, rest)
    → (length ds ≡ n) × (sum (λ d. d.1) ds ≤ most_rows)
declarations_good n bytes {ds} e =
    let r = repeated_read declaration_reads declared_grow n bytes e in
    (r.0, declared_few ds r.1)

-- ---- entries

pub length_declared : (here : ℕ) (ds : List Declaration) → length (vp_entries here ds) ≡ 3 * length ds
length_declared here [] = refl
length_declared here (d ∷ ds) = let e = length_declared (here + 2 * d.1) ds in omega arith

-- an entry behind those of the declarations done
pub declaration-written : (image₀ image : List ℕ) (here : ℕ) (done : List Declaration) (d : Declaration) {i start : ℕ}
    → length done ≡ i → start ≡ here + 2 * sum (λ d. d.1) done → image ≡ sets image₀ 3 (vp_entries here done)
    → sets image (vp_entry_at i) (d.0 ∷ d.1 ∷ start ∷ []) ≡ sets image₀ 3 (vp_entries here (done ++ d ∷ []))
declaration-written image₀ image here done d many running e =
    rw (e, ← many, running, declared_snoc here done d, sets-append image₀ 3 (vp_entries here done) (d.0 ∷ d.1 ∷ (here + 2 * sum (λ d. d.1) done) ∷ []), length_declared here done) refl
