-- The pattern file: every pattern that is read is accepted, what is written is read back, and what is accepted is what is written.
use Prim.Native.Nat.{ℕ, ◌+◌, ◌*◌, ◌/◌, ◌%◌, ◌<◌}
use native.Mathlib.Omega.{arith}
use mathlib.Core.Path.{◌≡◌, refl, sym}
use mathlib.Core.Bool.{Bool, true, false, cond, ◌&&◌, and-true, and_assoc, false≢true}
use mathlib.Core.List.{List, [], ◌∷◌, ◌++◌, append_assoc}
use lib.ListN.{length}
use lib.Dec.{eqb, ltb, leb}
use borrow.Author.Tests.{ltb-true, leb-true, eqb-true, eqb-false, eq-eqb, ne_eqb}
use Rattle.model.specs.Lists.{concat_map}
use Rattle.model.specs.Reader.{gives, after, ask}
use Rattle.model.specs.Numbers.{are_bytes, most_term, is_term, number_bytes, number_limit}
use Rattle.model.specs.ExactFile.{FileIsExact}
use Rattle.model.specs.Site.{Site, is_declared}
use Rattle.model.specs.Pattern.{Pattern, most_triple_patterns, most_variables, positions, variables, width, is_position, is_predicate, is_triple_pattern, are_triple_patterns, is_pattern_length, is_accepted}
use Rattle.model.specs.PatternFile.{position_of, ask_position_under, ask_position, ask_predicate_under, ask_predicate, triple_pattern_under, triple_pattern, pattern_file_under, pattern_file, read_pattern_under, read_pattern, position_number, position_bytes, triple_pattern_bytes, pattern_bytes}
use Rattle.model.specs.declared.pattern.Position.{Position}
use Rattle.model.specs.declared.pattern.Position.TheVariants.{Term, Var}
use Rattle.model.specs.declared.pattern.TriplePattern.{TriplePattern}
use Rattle.model.proofs.Booleans.{and_cases, and_make}
use Rattle.model.proofs.Growing.{Grows}
use Rattle.model.proofs.Readers.{ask_gives, Asks, asked, passes, Front, front_none, front_then, Reads, returned, repeated_read, repeated-written, file_is_exact}
use Rattle.model.proofs.Numbers.{number-written, number_gives, bytes_both, bytes_concat_map, number_bytes_lem}

-- ---- positions

pub position_number_lem : (n : ℕ) → position_number (position_of n) ≡ n
position_number_lem n = go (eqb (n % 2) 0) refl
  where
    go : (b : Bool) → eqb (n % 2) 0 ≡ b → position_number (cond b (Term (n / 2)) (Var (n / 2))) ≡ n
    go true e = let h = eqb-true (n % 2) 0 e in omega arith
    go false e = let h = eqb-false (n % 2) 0 e in omega arith

pub position_back : (x : Position) → position_of (position_number x) ≡ x
position_back (Term t) =
    let h : 2 * t / 2 ≡ t = omega arith in
    rw (eq-eqb (2 * t % 2) 0 (omega arith), h) refl
position_back (Var v) =
    let h : (2 * v + 1) / 2 ≡ v = omega arith in
    rw (ne_eqb ((2 * v + 1) % 2) 0 (omega arith), h) refl

-- 2t or 2v + 1 is below the limit of numbers
position_fits : (n : ℕ) (x : Position) → is_position n x ≡ true → position_number x < number_limit
position_fits n (Term t) e = let h = leb-true t most_term e in omega arith
position_fits n (Var v) e = let h = ltb-true v most_variables (and_cases (ltb v most_variables) (leb v n) e).0 in omega arith

predicate_fits : (site : Site) (x : Position) → is_predicate site x ≡ true → position_number x < number_limit
predicate_fits site (Term t) e = position_fits 0 (Term t) (and_cases (is_term t) (is_declared site t) e).0
predicate_fits site (Var v) e = absurd (false≢true e)

pub position_asks : (n : ℕ) (x : Position) → Asks (ask_position n x) (is_position n x)
unfolding ask_position_under
position_asks n (Term t) = record { as_ask = λ bytes. (_, refl) }
position_asks n (Var v) = record { as_ask = λ bytes. (_, refl) }

pub predicate_asks : (site : Site) (x : Position) → Asks (ask_predicate site x) (is_predicate site x)
unfolding ask_predicate_under after ask
predicate_asks site (Term t) = record { as_ask = λ bytes. both _ _ bytes (is_term t) (is_declared site t) }
  where
    both : (j k : ℕ) (bytes : List ℕ) (a b : Bool) → (n : ℕ) × (after (ask j a bytes) (λ _. ask k b) ≡ ask n (a && b) bytes)
    both j k bytes true b = (k, refl)
    both j k bytes false b = (j, refl)
predicate_asks site (Var v) = record { as_ask = λ bytes. (_, refl) }

-- ---- one triple pattern

position_front : {bytes rest : List ℕ} (n : ℕ) → Front bytes (number_bytes n) rest → Front bytes (position_bytes (position_of n)) rest
position_front n f = rw position_number_lem f

-- asked of the triple pattern behind those done
abbrev pub triple_test : Site → Pattern → TriplePattern → Bool
triple_test site done q = is_triple_pattern site (width done) q

pub triple_reads : (site : Site) → Reads (triple_pattern site) triple_pattern_bytes (triple_test site)
unfolding triple_pattern_under after
triple_reads site = record {
  read = λ done bytes h.
      let s = number_gives _ bytes _ h in
      let a = asked (position_asks (width done) (position_of s.0)) _ s.3 in
      let p = number_gives _ s.1 _ a.1 in
      let b = asked (predicate_asks site (position_of p.0)) _ p.3 in
      let o = number_gives _ p.1 _ b.1 in
      let c = asked (position_asks (variables (width done) (position_of s.0 ∷ position_of p.0 ∷ [])) (position_of o.0)) _ o.3 in
      let object = front_then (position_front o.0 o.2) front_none in
      returned (triple_test site done) triple_pattern_bytes c.1 (and_make a.0 (and_make b.0 c.0))
      (front_then (position_front s.0 s.2) (front_then (position_front p.0 p.2) object));
  written = λ done q rest t.
      let s = q.subject in
      let p = q.predicate in
      let o = q.object in
      let n = width done in
      let m = variables n (s ∷ p ∷ []) in
      let c = and_cases (is_position n s) (is_predicate site p && is_position m o) t in
      let d = and_cases (is_predicate site p) (is_position m o) c.1 in
      rw (append_assoc, number-written _ (position_number s) _ (position_fits n s c.0), position_back s, passes (position_asks n s) _ c.0)
      (rw (append_assoc, number-written _ (position_number p) _ (predicate_fits site p d.0), position_back p, passes (predicate_asks site p) _ d.0)
      (rw (append_assoc, number-written _ (position_number o) _ (position_fits m o d.1), position_back o, passes (position_asks m o) _ d.1) refl));
}

-- ---- all triple patterns

triples_snoc : (site : Site) (n : ℕ) (done : Pattern) (q : TriplePattern)
    → are_triple_patterns site n (done ++ q ∷ []) ≡ (are_triple_patterns site n done && is_triple_pattern site (variables n (concat_map positions done)) q)
unfolding are_triple_patterns variables
triples_snoc site n [] q = and-true (is_triple_pattern site n q)
triples_snoc site n (p ∷ ps) q =
    let m = variables n (positions p) in
    let last = is_triple_pattern site (variables m (concat_map positions ps)) q in
    rw (triples_snoc site m ps q) (sym (and_assoc (is_triple_pattern site n p) (are_triple_patterns site m ps) last))

triples_grow : (site : Site) → Grows (are_triple_patterns site 0) (triple_test site)
unfolding are_triple_patterns width
triples_grow site = record { start = refl; snoc = triples_snoc site 0 }

-- ---- the file

pub pattern_read : (site : Site) (bytes : List ℕ) {pattern : Pattern} {rest : List ℕ} → pattern_file site bytes ≡ gives (pattern, rest)
    → (is_accepted site pattern ≡ true) × Front bytes (pattern_bytes pattern) rest
unfolding pattern_file_under is_accepted pattern_bytes
pattern_read site bytes {pattern} h =
    let n = number_gives _ bytes _ h in
    let a = ask_gives _ (is_pattern_length n.0) _ n.3 in
    let q = repeated_read (triple_reads site) (triples_grow site) n.0 n.1 a.1 in
    let few : is_pattern_length (length pattern) ≡ true = rw q.0 a.0 in
    (and_make few q.1, rw q.0 (front_then n.2 q.2))

-- what is written is read, whatever stands behind it
pub pattern_back : (site : Site) (pattern : Pattern) (rest : List ℕ) → is_accepted site pattern ≡ true
    → pattern_file site (pattern_bytes pattern ++ rest) ≡ gives (pattern, rest)
unfolding pattern_file_under is_accepted pattern_bytes after ask
pattern_back site pattern rest e =
    let c = and_cases (is_pattern_length (length pattern)) (are_triple_patterns site 0 pattern) e in
    let b = and_cases (leb 1 (length pattern)) (leb (length pattern) most_triple_patterns) c.0 in
    let l = leb-true (length pattern) most_triple_patterns b.1 in
    rw (append_assoc, number-written _ (length pattern) _ (omega arith), c.0)
    (repeated-written (triple_reads site) (triples_grow site) pattern rest c.1)

-- what is written is bytes
pattern_bytes_lem : (pattern : Pattern) → are_bytes (pattern_bytes pattern) ≡ true
unfolding pattern_bytes
pattern_bytes_lem pattern =
    bytes_both (number_bytes (length pattern)) (concat_map triple_pattern_bytes pattern) (number_bytes_lem (length pattern))
    (bytes_concat_map triple_pattern_bytes (λ q. bytes_concat_map position_bytes (λ x. number_bytes_lem (position_number x)) (positions q)) pattern)

pub pattern_file_lem : (site : Site) → FileIsExact (read_pattern site) pattern_bytes (is_accepted site)
unfolding read_pattern_under
pattern_file_lem site =
    file_is_exact _ (record { read = λ _ bytes h. pattern_read site bytes h; written = λ _ pattern rest e. pattern_back site pattern rest e }) pattern_bytes_lem

pub pattern_accepted : (site : Site) (bytes : List ℕ) (pattern : Pattern) → read_pattern site bytes ≡ gives pattern → is_accepted site pattern ≡ true
pattern_accepted site = (pattern_file_lem site).0
