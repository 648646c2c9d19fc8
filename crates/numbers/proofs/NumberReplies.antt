-- A number at a place of some bytes, as a reader replies it.
use Prim.Native.Nat.{ℕ, ◌+◌}
use mathlib.Core.Path.{◌≡◌, refl, ap}
use mathlib.Core.Option.{Option, none, some}
use mathlib.Core.List.{List}
use lib.ListN.{drop}
use lib.Seq.{drop-drop}
use Rattle.model.specs.Reader.{refused, gives}
use Rattle.model.specs.Numbers.{Sized, number_in, or_refused, number_under, number}
use Rattle.numbers.specs.NumberAt.{placed, number_at}
use Rattle.std.specs.Prelude.{Some, None}

module _ (n : ℕ) (s : List ℕ) (at : ℕ) where
  pub number_bad : number_at s at ≡ None → number n (drop at s) ≡ refused n
  unfolding number_under number_at
  number_bad e = go (number_in (drop at s)) e
    where
      go : (x : Option Sized) → placed at x ≡ None → or_refused n (drop at s) x ≡ refused n
      go none q = refl
      go (some x) q = cc

  pub number-value : {v next : ℕ} → number_at s at ≡ Some (v, next) → number n (drop at s) ≡ gives (v, drop next s)
  unfolding number_under number_at
  number-value {v} {next} e = go (number_in (drop at s)) e
    where
      go : (x : Option Sized) → placed at x ≡ Some (v, next) → or_refused n (drop at s) x ≡ gives (v, drop next s)
      go none q = cc
      go (some x) q =
          let e : ◌≡◌ {A = ℕ × ℕ} (v, next) (x.0, at + x.1) = cc in
          cc (ap (λ (p : ℕ × ℕ). p.0) e, ap (λ (p : ℕ × ℕ). p.1) e, drop-drop x.1 at s)
