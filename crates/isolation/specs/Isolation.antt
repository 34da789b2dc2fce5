-- Document 02, N1: one box does not see another. It is said of things of any kind, which stand in a list and have their places as numbers. Each call
-- names one thing by its number, which answers and steps by the call; the others stay. What one thing answers depends on its own calls alone.
use Rattle.std.specs.Prelude.{◌≡◌, ℕ, ◌<◌, ◌≤◌, eqb, List, [], ◌∷◌, length, get_or, if◌then◌else◌}
use Rattle.std.specs.List.{slice_set as set}

-- something that bears the number of the thing that it is for: a call, or an answer
pub record Named (A : Type 0) : Type 0 where
  pub number : ℕ
  pub what : A

-- what is for the thing n, in order
abbrev pub of : {A : Type 0} → ℕ → List (Named A) → List A
of n [] = []
of n (x ∷ xs) = if eqb x.number n then x.what ∷ of n xs else of n xs

-- ---- one thing alone: `next` is how it steps by a call, and `answer` what it answers to it

abbrev pub alone_after : {Thing Call : Type 0} → (Thing → Call → Thing) → Thing → List Call → Thing
alone_after next thing [] = thing
alone_after next thing (call ∷ calls) = alone_after next (next thing call) calls

abbrev pub alone : {Thing Call Answer : Type 0} → (Thing → Call → Thing) → (Thing → Call → Answer) → Thing → List Call → List Answer
alone next answer thing [] = []
alone next answer thing (call ∷ calls) = answer thing call ∷ alone next answer (next thing call) calls

-- ---- many things: where a number names none of them, `none` is asked, and nothing is stored

abbrev pub stepped : {Thing Call : Type 0} → (Thing → Call → Thing) → Thing → List Thing → Named Call → List Thing
stepped next none things call = set things call.number (next (get_or things call.number none) call.what)

abbrev pub things_after : {Thing Call : Type 0} → (Thing → Call → Thing) → Thing → List Thing → List (Named Call) → List Thing
things_after next none things [] = things
things_after next none things (call ∷ calls) = things_after next none (stepped next none things call) calls

abbrev pub answers : {Thing Call Answer : Type 0} → (Thing → Call → Thing) → (Thing → Call → Answer) → Thing → List Thing → List (Named Call) → List (Named Answer)
answers next answer none things [] = []
answers next answer none things (call ∷ calls) =
    record { number = call.number; what = answer (get_or things call.number none) call.what }
    ∷ answers next answer none (stepped next none things call) calls

-- ---- the claim
pub record Isolated {Thing Call Answer : Type 0} (next : Thing → Call → Thing) (answer : Thing → Call → Answer) (none : Thing) : Type 0 where
  -- What a thing answers among others is what it answers alone to its own calls, and so it stands afterwards.
  pub answers_alone : (n : ℕ) (things : List Thing) (calls : List (Named Call)) → n < length things
      → of n (answers next answer none things calls) ≡ alone next answer (get_or things n none) (of n calls)
  pub steps_alone : (n : ℕ) (things : List Thing) (calls : List (Named Call)) → n < length things
      → get_or (things_after next none things calls) n none ≡ alone_after next (get_or things n none) (of n calls)
  -- So wherever a thing starts alike and gets the same calls, it answers alike, whatever else stands and is called there.
  pub own_calls_decide : (n : ℕ) (things others : List Thing) (calls other_calls : List (Named Call)) → n < length things → n < length others
      → get_or things n none ≡ get_or others n none → of n calls ≡ of n other_calls
      → of n (answers next answer none things calls) ≡ of n (answers next answer none others other_calls)
  -- A call whose number names none of the things changes none of them.
  pub names_none : (things : List Thing) (call : Named Call) → length things ≤ call.number → stepped next none things call ≡ things

abbrev pub Isolation : Type 1
Isolation = (Thing Call Answer : Type 0) (next : Thing → Call → Thing) (answer : Thing → Call → Answer) (none : Thing) → Isolated next answer none
