-- The pattern's file as the code reads it: one triple pattern behind the others, what the code holds of them, and each way out of the file.
use Prim.Native.Nat.{ℕ, ◌+◌, ◌<◌, ◌≤◌}
use native.Mathlib.Numerals.{add-one}
use native.Mathlib.Omega.{arith}
use mathlib.Core.Path.{◌≡◌, refl, sym, ap, ◌∙◌}
use mathlib.Core.Bool.{Bool, true, false}
use mathlib.Core.List.{List, [], ◌∷◌, ◌++◌, map, map-append}
use lib.ListN.{length, get_or, take, drop, set, length-set, drop_of_length-le}
use lib.Seq.{drop-cons, take-suc-set, get_or-set_same, get_or-set_other}
use lib.Dec.{eqb}
use borrow.Author.Tests.{eqb-true, eqb-false}
use Rattle.model.specs.Lists.{concat_map}
use Rattle.model.specs.Reader.{Reply, refused, gives, after, ask, repeated, whole_file}
use Rattle.model.specs.Results.{refusal_number}
use Rattle.model.specs.Site.{Site}
use Rattle.model.specs.declared.refusal.Refusal.{Refusal}
use Rattle.std.specs.Prelude.{Some, None, Ok, Err}
use Rattle.model.specs.Pattern.{Pattern, most_triple_patterns, most_variables, positions, variables, width, is_pattern_length}
use Rattle.model.specs.PatternFile.{triple_pattern, pattern_file_under, read_pattern_under, read_pattern}
use Rattle.model.specs.declared.pattern.TriplePattern.{TriplePattern}
use Rattle.model.proofs.Blocks.{concat_map-append}
use Rattle.model.proofs.Readers.{PartRead, none_read, all_read_lem, next_refused, next_read}
use Rattle.model.proofs.Patterns.{variables-append, triple_limit}
use Rattle.model.proofs.PatternFile.{triple_reads}
use Rattle.model.proofs.Results.{err_refused, ok_gives}
use Rattle.numbers.specs.NumberAt.{number_at}
use Rattle.numbers.proofs.NumberReplies.{number_bad, number-value}
use Rattle.positions.specs.Members.{no_member, TableOf, EndsOf, EndsHold, PatternHolds}
use Rattle.patterns.specs.Replies.{MemberHolds, MemberReadOf, PatternReadAs}
use Rattle.positions.specs.declared.pattern.Member.{Member}
use Rattle.positions.specs.declared.pattern.Pattern.{Pattern as Members}
use Rattle.patterns.specs.declared.pattern_reader.ReadMember.{ReadMember}
use Rattle.positions.proofs.MemberLaws.{pattern-length}

-- ---- the triple patterns, read one by one

gives_same : {q q' : TriplePattern} {rest rest' : List ℕ} → q ≡ q' → rest ≡ rest'
    → ◌≡◌ {A = Reply (TriplePattern × List ℕ)} (gives (q, rest)) (gives (q', rest'))
gives_same p e = rw (p, e) refl

-- the first i cells of an array, and their variables
abbrev pub up_to : List Member → ℕ → ℕ → Members
up_to members i met = record { members = members; count = i; width = met }

-- the triple patterns of those cells
abbrev triples_to : List Member → ℕ → Pattern
triples_to members i = map (λ m. m.triple) (take i members)

-- of n triple patterns, i were read, they stand in the array, and they have `met` variables
pub record MembersRead (site : Site) (n : ℕ) (bytes s : List ℕ) (members : List Member) (subjects objects : List ℕ) (met next i : ℕ) : Type 0 where
  pub most : n ≤ most_triple_patterns
  pub size : length members ≡ most_triple_patterns
  pub subject_size : length subjects ≡ most_triple_patterns
  pub object_size : length objects ≡ most_triple_patterns
  pub part : PartRead (triple_pattern site) n bytes (triples_to members i) (drop next s)
  pub holds : PatternHolds site (up_to members i met)
  pub numbers : EndsHold (up_to members i met) subjects objects
  pub few : met ≤ most_variables

-- one triple pattern more
width_snoc : (done : Pattern) (q : TriplePattern) → width (done ++ q ∷ []) ≡ variables (width done) (positions q)
unfolding width
width_snoc done q = ap (variables 0) (concat_map-append positions done (q ∷ [])) ∙ variables-append 0 (concat_map positions done) (positions q)

members_snoc : (members : List Member) (i : ℕ) (m : Member) → i < length members
    → triples_to (set members i m) (i + 1) ≡ triples_to members i ++ m.triple ∷ []
members_snoc members i m h = rw (add-one, take-suc-set members i m h) (map-append (λ (m : Member). m.triple) (take i members) (m ∷ []))

pub no_member_read : {site : Site} {n at : ℕ} {s : List ℕ} {members : List Member} {subjects objects : List ℕ} → n ≤ most_triple_patterns
    → length members ≡ most_triple_patterns → length subjects ≡ most_triple_patterns → length objects ≡ most_triple_patterns
    → MembersRead site n (drop at s) s members subjects objects 0 at 0
unfolding width variables
no_member_read h e es eo = record {
  most = h;
  size = e;
  subject_size = es;
  object_size = eo;
  part = none_read;
  holds = record {
    counted = record { few = omega arith; cells = omega arith };
    tables = λ i k. absurd (omega arith);
    wide = refl;
  };
  numbers = record { ends = λ i k. absurd (omega arith) };
  few = omega arith;
}

module _ {site : Site} {n : ℕ} {bytes s : List ℕ} {members : List Member} {subjects objects : List ℕ} {met next i : ℕ}
    (v : MembersRead site n bytes s members subjects objects met next i) where
  pub every_member : n ≤ i → repeated (triple_pattern site) n [] bytes ≡ gives (triples_to members i, drop next s)
  every_member h = all_read_lem v.part (rw (pattern-length v.holds.counted) h)

  module _ (more : i < n) where
    one_left : length (triples_to members i) < n
    one_left = rw (pattern-length v.holds.counted) more

    pub next_member_refused : (e : Refusal) → MemberReadOf site met next s (Err e) → repeated (triple_pattern site) n [] bytes ≡ refused (refusal_number e)
    next_member_refused e read = next_refused v.part one_left (err_refused (MemberHolds site met s) _ (read _ (sym v.holds.wide)) refl)

    pub next_member_read : (read : ReadMember) → MemberReadOf site met next s (Ok read)
        → MembersRead site n bytes s (set members i read.member) (set subjects i read.subject) (set objects i read.object) read.met read.next (i + 1)
    next_member_read r read =
        let member = r.member in
        let done = triples_to members i in
        let grown = members_snoc members i member (omega (arith, v.most, v.size)) in
        let (x, reply, held) = ok_gives (MemberHolds site met s) _ (read done (sym v.holds.wide)) refl in
        let given : triple_pattern site done (drop next s) ≡ gives (member.triple, drop r.next s) = reply ∙ gives_same (sym held.triple) held.rest in
        let total : r.met ≡ variables met (positions member.triple) = held.counted ∙ ap (λ (q : TriplePattern). variables met (positions q)) (sym held.triple) in
        let passes = ((triple_reads site).read done (drop next s) given).0 in
        record {
          most = v.most;
          size = length-set members i member ∙ v.size;
          subject_size = length-set subjects i r.subject ∙ v.subject_size;
          object_size = length-set objects i r.object ∙ v.object_size;
          part = rw grown (next_read v.part one_left given);
          holds = record {
            counted = record { few = omega (arith, v.most); cells = rw length-set (omega (arith, v.most, v.size)) };
            tables = λ j h. table_go held.table j h (eqb j i) refl;
            wide = rw (grown, width_snoc, ← v.holds.wide) total;
          };
          numbers = record { ends = λ j h. ends_go held.ends j h (eqb j i) refl };
          few = rw total (triple_limit site met member.triple (rw v.holds.wide passes) v.few);
        }
      where
        table_go : TableOf site r.member → (j : ℕ) → j < i + 1 → (b : Bool) → eqb j i ≡ b → TableOf site (get_or (set members i r.member) j no_member)
        table_go table j h true e = rw (eqb-true j i e, get_or-set_same members i r.member no_member (omega (arith, v.most, v.size))) table
        table_go table j h false e =
            let other = eqb-false j i e in
            rw (get_or-set_other members i j r.member no_member other) (v.holds.tables j (omega arith))

        ends_go : EndsOf r.member r.subject r.object → (j : ℕ) → j < i + 1 → (b : Bool) → eqb j i ≡ b
            → EndsOf (get_or (set members i r.member) j no_member) (get_or (set subjects i r.subject) j 0) (get_or (set objects i r.object) j 0)
        ends_go ends j h true e =
            rw (eqb-true j i e, get_or-set_same members i r.member no_member (omega (arith, v.most, v.size)))
            (rw (get_or-set_same subjects i r.subject 0 (omega (arith, v.most, v.subject_size)), get_or-set_same objects i r.object 0 (omega (arith, v.most, v.object_size))) ends)
        ends_go ends j h false e =
            let other = eqb-false j i e in
            rw (get_or-set_other members i j r.member no_member other, get_or-set_other subjects i j r.subject 0 other, get_or-set_other objects i j r.object 0 other)
            (v.numbers.ends j (omega arith))

-- ---- the ways out of the file

module _ (site : Site) (s : List ℕ) where
  pub no_count : number_at s 0 ≡ None → read_pattern site s ≡ refused 11
  unfolding read_pattern_under whole_file pattern_file_under after
  no_count e = rw (number_bad 11 s 0 e) refl

  module _ {n at : ℕ} (e : number_at s 0 ≡ Some (n, at)) where
    pub count_refused : is_pattern_length n ≡ false → read_pattern site s ≡ refused 12
    unfolding read_pattern_under whole_file pattern_file_under after ask
    count_refused t = rw (number-value 11 s 0 e, t) refl

    module _ (t : is_pattern_length n ≡ true) where
      pub triples_refused : {m : ℕ} → repeated (triple_pattern site) n [] (drop at s) ≡ refused m → read_pattern site s ≡ refused m
      unfolding read_pattern_under whole_file pattern_file_under after ask
      triples_refused q = rw (number-value 11 s 0 e, t, q) refl

      module _ {pattern : Pattern} (next : ℕ) (q : repeated (triple_pattern site) n [] (drop at s) ≡ gives (pattern, drop next s)) where
        pub bytes_left : next < length s → read_pattern site s ≡ refused 17
        unfolding read_pattern_under whole_file pattern_file_under after ask
        bytes_left h = rw (number-value 11 s 0 e, t, q, drop-cons s next 0 h) refl

        pub pattern_given : length s ≤ next → read_pattern site s ≡ gives pattern
        unfolding read_pattern_under whole_file pattern_file_under after ask
        pattern_given h = rw (number-value 11 s 0 e, t, q, drop_of_length-le s h) refl

  -- ---- what the code returns

  pub returns_refusal : (e : Refusal) → read_pattern site s ≡ refused (refusal_number e) → PatternReadAs site (read_pattern site s) (Err e)
  returns_refusal e q = rw q (e, refl, refl)

  pub returns_pattern : {n at met next i : ℕ} {members : List Member} {subjects objects : List ℕ} → number_at s 0 ≡ Some (n, at) → is_pattern_length n ≡ true
      → MembersRead site n (drop at s) s members subjects objects met next i → n ≤ i → length s ≤ next
      → PatternReadAs site (read_pattern site s) (Ok (record { pattern = up_to members n met; subjects = subjects; objects = objects }))
  returns_pattern {n = n} {met = met} {i = i} {members = members} {subjects} {objects} e t v h k =
      let all : n ≡ i = omega (arith, v.part.count, pattern-length v.holds.counted) in
      rw (pattern_given e t _ (every_member v h) k)
      (record { pattern = up_to members n met; subjects = subjects; objects = objects }, refl, (rw all v.holds, rw all v.numbers, ap (λ (j : ℕ). triples_to members j) all))
