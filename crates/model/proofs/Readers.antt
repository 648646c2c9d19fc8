-- Laws of readers: how they are taken apart and put together, and how an element's reader is repeated.
use Prim.Native.Nat.{ℕ, zero, suc, ◌+◌, ◌-◌, ◌≤◌, ◌<◌}
use native.Mathlib.Omega.{arith}
use mathlib.Core.Path.{◌≡◌, refl, sym, ap, ◌∙◌, subst}
use mathlib.Core.Bool.{Bool, true, false, cond}
use mathlib.Core.List.{List, [], ◌∷◌, ◌++◌, append-nil, append_assoc}
use lib.ListN.{length, length-append}
use lib.Seq.{append_snoc}
use lib.Dec.{ltb}
use Rattle.model.specs.Lists.{concat_map, is_empty}
use Rattle.model.specs.Reader.{Reply, refused, gives, Reader, after, ask, all_read, whole_file, repeated}
use Rattle.model.specs.Numbers.{are_bytes}
use Rattle.model.specs.ExactFile.{FileIsExact}
use Rattle.model.proofs.Booleans.{and_cases}
use Rattle.model.proofs.Membership.{all_append}
use Rattle.model.proofs.Growing.{Grows, longer, passed_inside}

-- ---- one behind the other

pub refused≢gives : {A X : Type 0} {n : ℕ} {a : A} → refused n ≡ gives a → X
refused≢gives h = let z : ◌≡◌ {A = ℕ} 0 1 = cc in absurd (omega arith)

-- both readers gave something
pub after_gives : {A B : Type 0} (x : Reply (A × List ℕ)) (next : A → Reader B) {y : B × List ℕ} → after x next ≡ gives y
    → (a : A) × (rest : List ℕ) × (x ≡ gives (a, rest)) × (next a rest ≡ gives y)
unfolding after
after_gives (refused n) next h = refused≢gives h
after_gives (gives x) next h = (x.0, x.1, refl, h)

-- the question was passed
pub ask_gives : {B : Type 0} (n : ℕ) (b : Bool) (next : Unit {0} → Reader B) {bytes : List ℕ} {y : B × List ℕ}
    → after (ask n b bytes) next ≡ gives y → (b ≡ true) × (next tt bytes ≡ gives y)
unfolding after ask
ask_gives n true next h = (refl, h)
ask_gives n false next h = refused≢gives h

-- a reader that asks only this, under whatever number
pub record Asks (question : Reader (Unit {0})) (b : Bool) : Type 0 where
  pub as_ask : (bytes : List ℕ) → (n : ℕ) × (question bytes ≡ ask n b bytes)

module _ {question : Reader (Unit {0})} {b : Bool} (asks : Asks question b) where
  pub asked : {B : Type 0} (next : Unit {0} → Reader B) {bytes : List ℕ} {y : B × List ℕ}
      → after (question bytes) next ≡ gives y → (b ≡ true) × (next tt bytes ≡ gives y)
  asked next {bytes} h = let q = asks.as_ask bytes in ask_gives q.0 b next (rw q.1 at h)

  pub passes : (bytes : List ℕ) → b ≡ true → question bytes ≡ gives (tt, bytes)
  unfolding ask
  passes bytes e = (asks.as_ask bytes).1 ∙ rw e refl

-- ---- what stands at the front

-- the rest of bytes is bytes
pub bytes_behind : {bytes : List ℕ} (written rest : List ℕ) → bytes ≡ written ++ rest → are_bytes bytes ≡ true → are_bytes rest ≡ true
bytes_behind written rest p e =
    (and_cases (are_bytes written) (are_bytes rest) (sym (all_append (λ b. ltb b 256) written rest) ∙ sym (ap are_bytes p) ∙ e)).1

-- where these are bytes, they are what is written and then the rest
pub record Front (bytes written rest : List ℕ) : Type 0 where
  pub cut : are_bytes bytes ≡ true → bytes ≡ written ++ rest

pub front_none : {bytes : List ℕ} → Front bytes [] bytes
front_none = record { cut = λ e. refl }

pub front_then : {a u b v c : List ℕ} → Front a u b → Front b v c → Front a (u ++ v) c
front_then {a} {u} {b} {v} {c} f g = record { cut = go }
  where
    go : are_bytes a ≡ true → a ≡ u ++ v ++ c
    go e = let p = f.cut e in p ∙ rw (g.cut (bytes_behind u b p e), append_assoc) refl

front_whole : {bytes written : List ℕ} → Front bytes written [] → are_bytes bytes ≡ true → bytes ≡ written
front_whole {written} f e = f.cut e ∙ append-nil written

-- ---- one element, and many

-- an element that was returned passes the test, and stands at the front
pub returned : {A : Type 0} (test : A → Bool) (write : A → List ℕ) {bytes : List ℕ} {x y : A × List ℕ} → gives x ≡ gives y
    → test x.0 ≡ true → Front bytes (write x.0) x.1 → (test y.0 ≡ true) × Front bytes (write y.0) y.1
returned test write {bytes} {x} {y} h t f =
    let e : x ≡ y = cc in
    subst (λ z. (test z.0 ≡ true) × Front bytes (write z.0) z.1) e (t, f)

-- the reader of an element, with those before it, and its writer: the elements that are read are those that pass the test
pub record Reads {A : Type 0} (one : List A → Reader A) (write : A → List ℕ) (test : List A → A → Bool) : Type 0 where
  pub read : (done : List A) (bytes : List ℕ) {y : A × List ℕ} → one done bytes ≡ gives y
      → (test done y.0 ≡ true) × Front bytes (write y.0) y.1
  pub written : (done : List A) (x : A) (rest : List ℕ) → test done x ≡ true → one done (write x ++ rest) ≡ gives (x, rest)

-- k elements were read behind those done
record Behind {A : Type 0} (write : A → List ℕ) (good : List A → Bool) (k : ℕ) (done : List A) (bytes : List ℕ) (y : List A × List ℕ) : Type 0 where
  elements : List A
  behind : y.0 ≡ done ++ elements
  count : length elements ≡ k
  accepted : good y.0 ≡ true
  front : Front bytes (concat_map write elements) y.1

module _ {A : Type 0} {one : List A → Reader A} {write : A → List ℕ} {good : List A → Bool} {test : List A → A → Bool}
    (reads : Reads one write test) (grows : Grows good test) where
  behind_read : (k : ℕ) (done : List A) (bytes : List ℕ) {y : List A × List ℕ} → good done ≡ true → repeated one k done bytes ≡ gives y
      → Behind write good k done bytes y
  unfolding repeated
  behind_read zero done bytes {y} g h =
      let e : (done, bytes) ≡ y = cc in
      rw (← e) (record { elements = []; behind = sym (append-nil done); count = refl; accepted = g; front = front_none })
  behind_read (suc k) done bytes {y} g h =
      let x = after_gives (one done bytes) _ h in
      let p = reads.read done bytes x.2 in
      let r = behind_read k (done ++ x.0 ∷ []) x.1 (longer grows done x.0 g p.0) x.3 in
      record {
        elements = x.0 ∷ r.elements;
        behind = r.behind ∙ append_snoc done x.0 r.elements;
        count = ap suc r.count;
        accepted = r.accepted;
        front = front_then p.1 r.front;
      }

  pub repeated_read : (k : ℕ) (bytes : List ℕ) {xs : List A} {rest : List ℕ} → repeated one k [] bytes ≡ gives (xs, rest)
      → (length xs ≡ k) × (good xs ≡ true) × Front bytes (concat_map write xs) rest
  repeated_read k bytes h =
      let r = behind_read k [] bytes grows.start h in
      (rw r.behind r.count, r.accepted, rw r.behind r.front)

  behind-written : (more done : List A) (rest : List ℕ) → good (done ++ more) ≡ true
      → repeated one (length more) done (concat_map write more ++ rest) ≡ gives (done ++ more, rest)
  unfolding repeated after
  behind-written [] done rest g = rw append-nil refl
  behind-written (x ∷ more) done rest g =
      let first = reads.written done x (concat_map write more ++ rest) (passed_inside grows done x more g) in
      rw (append_assoc, ← append_snoc, first) (behind-written more (done ++ x ∷ []) rest (rw append_snoc g))

  pub repeated-written : (xs : List A) (rest : List ℕ) → good xs ≡ true → repeated one (length xs) [] (concat_map write xs ++ rest) ≡ gives (xs, rest)
  repeated-written xs rest g = behind-written xs [] rest g

-- ---- a whole file

pub whole_gives : {A : Type 0} (n : ℕ) (reader : Reader A) (bytes : List ℕ) {a : A} → whole_file n reader bytes ≡ gives a → reader bytes ≡ gives (a, [])
unfolding whole_file
whole_gives {A} n reader bytes {a} h = go (reader bytes) h
  where
    ended : (x : A) (rest : List ℕ) → cond (is_empty rest) (gives x) (refused n) ≡ gives a → ◌≡◌ {A = Reply (A × List ℕ)} (gives (x, rest)) (gives (a, []))
    ended x [] e = cc
    ended x (b ∷ bs) e = refused≢gives e

    go : (reply : Reply (A × List ℕ)) → all_read n reply ≡ gives a → reply ≡ gives (a, [])
    go (refused m) e = refused≢gives e
    go (gives x) e = ended x.0 x.1 e

pub file_is_exact : {A : Type 0} {reader : Reader A} {write : A → List ℕ} {good : A → Bool} (n : ℕ) → Reads (λ _. reader) write (λ _. good)
    → ((x : A) → are_bytes (write x) ≡ true) → FileIsExact (whole_file n reader) write good
unfolding whole_file
file_is_exact {A} {reader} {write} n reads bytes-written = (
  (λ bytes x h. (reads.read [] bytes (whole_gives n reader bytes h)).0),
  (λ x g. (bytes-written x, rw (rw append-nil at (reads.written [] x [] g)) refl)),
  λ bytes x e h. front_whole (reads.read [] bytes (whole_gives n reader bytes h)).1 e,
)

-- ---- elements, read one by one

-- of n elements, `done` were read, and `rest` is left of the bytes
pub record PartRead {A : Type 0} (one : List A → Reader A) (n : ℕ) (bytes : List ℕ) (done : List A) (rest : List ℕ) : Type 0 where
  pub left : ℕ
  pub count : length done + left ≡ n
  pub same : repeated one n [] bytes ≡ repeated one left done rest

module _ {A : Type 0} {one : List A → Reader A} {n : ℕ} {bytes : List ℕ} where
  pub none_read : PartRead one n bytes [] bytes
  none_read = record { left = n; count = omega arith; same = refl }

  module _ {done : List A} {rest : List ℕ} (part : PartRead one n bytes done rest) where
    pub all_read_lem : n ≤ length done → repeated one n [] bytes ≡ gives (done, rest)
    unfolding repeated
    all_read_lem h = let none : part.left ≡ 0 = omega arith in part.same ∙ rw none refl

    module _ (more : length done < n) where
      repeated_suc : repeated one n [] bytes ≡ repeated one (suc (part.left - 1)) done rest
      repeated_suc = let e : part.left ≡ suc (part.left - 1) = omega arith in rw e at part.same

      pub next_refused : {m : ℕ} → one done rest ≡ refused m → repeated one n [] bytes ≡ refused m
      unfolding repeated after
      next_refused q = repeated_suc ∙ rw q refl

      pub next_read : {x : A} {rest' : List ℕ} → one done rest ≡ gives (x, rest') → PartRead one n bytes (done ++ x ∷ []) rest'
      unfolding repeated after
      next_read q = record { left = part.left - 1; count = rw length-append (omega arith); same = repeated_suc ∙ rw q refl }
