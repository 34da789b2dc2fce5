-- A dead band over the readings of a night, in the order in which they come, for any kind of reading and any two tests. By the law of the dead band. Assumes nothing.
use mathlib.Core.Path.{◌≡◌, subst}
use mathlib.Core.Logic.{◌↔◌, inl, inr}
use mathlib.Core.List.{List, [], ◌∷◌, ◌++◌, append_assoc, append-nil}
use mathlib.Core.Bool.{Bool}
use lib.Dec.{T}
use Rattle.cdl_recurrences.proofs.DeadBandLaw.{OnSince}
use Rattle.nights.proofs.Histories.{in_order, extended, history_of_parts}

-- `start` passes the test `on`, and it and all since stay
pub record TurnedOn {A : Type 0} (on : A → Bool) (Stays : List A → Type 0) (xs : List A) : Type 0 where
  pub before : List A
  pub start : A
  pub since : List A
  pub parts : xs ≡ before ++ (start ∷ since)
  pub turned_on : T (on start)
  pub stayed : Stays (start ∷ since)

-- `Stays` says of a list that each reading in it passes the test `stay`
module _ {A : Type 0} (on stay : A → Bool) (on_stays : (x : A) → T (on x) → T (stay x)) (Stays : List A → Type 0) (none_stays : Stays [])
    (one_more : (x : A) (xs : List A) → (T (stay x) × Stays xs) ↔ Stays (x ∷ xs)) where
  -- the reading that turned it on stands in h, and those of `since` stayed
  start_found : (h since : List A) → OnSince on stay h → Stays since → TurnedOn on Stays (in_order h ++ since)
  start_found [] since o a = absurd o
  start_found (k ∷ h) since (inl r) a =
      record { before = in_order h; start = k; since = since; parts = append_assoc (in_order h) (k ∷ []) since; turned_on = r; stayed = (one_more k since).0 (on_stays k r, a) }
  start_found (k ∷ h) since (inr o) a = rw append_assoc (start_found h (k ∷ since) o.1 ((one_more k since).0 (o.0, a)))

  stays_on : (h since : List A) → OnSince on stay h → Stays since → OnSince on stay (extended h since)
  stays_on h [] o a = o
  stays_on h (k ∷ since) o a = let l = (one_more k since).1 a in stays_on (k ∷ h) since (inr (l.0, o)) l.1

  pub turned_on_law : (h : List A) → OnSince on stay h ↔ TurnedOn on Stays (in_order h)
  turned_on_law h = (
    λ o. subst (TurnedOn on Stays) (append-nil (in_order h)) (start_found h [] o none_stays),
    λ f. subst (OnSince on stay) (history_of_parts h f.before f.start f.since f.parts)
        (stays_on (f.start ∷ extended [] f.before) f.since (inl f.turned_on) ((one_more f.start f.since).1 f.stayed).1),
  )
