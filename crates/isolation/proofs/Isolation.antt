-- What one thing answers depends on its own calls alone. Assumes nothing.
use mathlib.Core.Path.{◌≡◌, refl, sym, ap, ◌∙◌}
use Prim.Native.Nat.{ℕ, ◌<◌}
use mathlib.Core.Bool.{Bool, true, false, cond}
use mathlib.Core.List.{List, [], ◌∷◌}
use lib.Dec.{eqb}
use lib.ListN.{length, get_or, length-set}
use lib.Seq.{get_or-set_same, get_or-set_other, set_out}
use borrow.Author.Tests.{eqb-true, eqb-false}
use Rattle.isolation.specs.Isolation.{Named, of, alone_after, alone, stepped, things_after, answers, Isolation}

module _ {Thing Call Answer : Type 0} (next : Thing → Call → Thing) (answer : Thing → Call → Answer) (none : Thing) where
  stays_within : (n : ℕ) (things : List Thing) (call : Named Call) → n < length things → n < length (stepped next none things call)
  stays_within n things call h = simp length-set h

  -- the thing that is called steps, and another stays
  after_call : (n : ℕ) (things : List Thing) (call : Named Call) → n < length things
      → get_or (stepped next none things call) n none ≡ cond (eqb call.number n) (next (get_or things n none) call.what) (get_or things n none)
  after_call n things call h = go (eqb call.number n) (eqb-true call.number n) (eqb-false call.number n)
    where
      go : (own : Bool) → (own ≡ true → call.number ≡ n) → (own ≡ false → call.number ≡ n → ⊥)
          → get_or (stepped next none things call) n none ≡ cond own (next (get_or things n none) call.what) (get_or things n none)
      go true y z = rw (y refl) (get_or-set_same things n (next (get_or things n none) call.what) none h)
      go false y z = get_or-set_other things call.number n (next (get_or things call.number none) call.what) none (λ e. z refl (sym e))

  answers_alone : (n : ℕ) (things : List Thing) (calls : List (Named Call)) → n < length things
      → of n (answers next answer none things calls) ≡ alone next answer (get_or things n none) (of n calls)
  answers_alone n things [] h = refl
  answers_alone n things (call ∷ calls) h =
      go (eqb call.number n) (eqb-true call.number n) (of n (answers next answer none (stepped next none things call) calls))
      (answers_alone n (stepped next none things call) calls (stays_within n things call h) ∙ ap (λ (thing : Thing). alone next answer thing (of n calls)) (after_call n things call h))
    where
      go : (own : Bool) → (own ≡ true → call.number ≡ n) → (later : List Answer)
          → later ≡ alone next answer (cond own (next (get_or things n none) call.what) (get_or things n none)) (of n calls)
          → cond own (answer (get_or things call.number none) call.what ∷ later) later ≡ alone next answer (get_or things n none) (cond own (call.what ∷ of n calls) (of n calls))
      go true y later e = rw (y refl, e) refl
      go false y later e = e

  steps_alone : (n : ℕ) (things : List Thing) (calls : List (Named Call)) → n < length things
      → get_or (things_after next none things calls) n none ≡ alone_after next (get_or things n none) (of n calls)
  steps_alone n things [] h = refl
  steps_alone n things (call ∷ calls) h =
      steps_alone n (stepped next none things call) calls (stays_within n things call h)
      ∙ ap (λ (thing : Thing). alone_after next thing (of n calls)) (after_call n things call h)
      ∙ go (eqb call.number n)
    where
      go : (own : Bool) → alone_after next (cond own (next (get_or things n none) call.what) (get_or things n none)) (of n calls)
          ≡ alone_after next (get_or things n none) (cond own (call.what ∷ of n calls) (of n calls))
      go true = refl
      go false = refl

pub isolated : Isolation
isolated Thing Call Answer next answer none = record {
  answers_alone = answers_alone next answer none;
  steps_alone = steps_alone next answer none;
  own_calls_decide = λ n things others calls other_calls h k start same.
      answers_alone next answer none n things calls h ∙ rw (start, same) (sym (answers_alone next answer none n others other_calls k));
  names_none = λ things call h. set_out things call.number (next (get_or things call.number none) call.what) h;
}
