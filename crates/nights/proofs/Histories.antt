-- A night has its oldest tick first. The laws of the dead band and of the true delay speak of histories, with the newest first. Here the one is turned into the other. Assumes nothing.
use mathlib.Core.Path.{◌≡◌, refl, sym, ap, ◌∙◌}
use mathlib.Core.List.{List, [], ◌∷◌, ◌++◌, reverse_aux, reverse_aux-append, append_assoc, append-nil}
use Rattle.air_box.specs.declared.Tick.{Tick}
use Rattle.std.proofs.Common.{None, Float, Some, Option}
use Rattle.nights.specs.Nights.{last_time}

module _ {A : Type 0} where
  -- what a history holds, the oldest first
  abbrev pub in_order : List A → List A
  in_order [] = []
  in_order (k ∷ h) = in_order h ++ (k ∷ [])

  -- the history after h and then the ticks ks
  abbrev pub extended : List A → List A → List A
  extended h ks = reverse_aux ks h

  pub in_order_extended : (h ks : List A) → in_order (extended h ks) ≡ in_order h ++ ks
  in_order_extended h [] = sym (append-nil (in_order h))
  in_order_extended h (k ∷ ks) = in_order_extended (k ∷ h) ks ∙ append_assoc (in_order h) (k ∷ []) ks

  extended_in_order : (h : List A) → extended [] (in_order h) ≡ h
  extended_in_order [] = refl
  extended_in_order (k ∷ h) = reverse_aux-append (in_order h) (k ∷ []) [] ∙ ap (λ (l : List A). k ∷ l) (extended_in_order h)

  -- the history whose ticks in order are `before`, then k, then `since`
  pub history_of_parts : (h before : List A) (k : A) (since : List A) → in_order h ≡ before ++ (k ∷ since) → extended (k ∷ extended [] before) since ≡ h
  history_of_parts h before k since e = sym (reverse_aux-append before (k ∷ since) []) ∙ ap (extended []) (sym e) ∙ extended_in_order h

-- ---- the time of the newest tick
abbrev pub newest_time : List Tick → Option Float
newest_time [] = None
newest_time (k ∷ h) = Some k.t

last_of_appended : (ks : List Tick) (k : Tick) → last_time (ks ++ (k ∷ [])) ≡ Some k.t
last_of_appended [] k = refl
last_of_appended (j ∷ []) k = refl
last_of_appended (i ∷ j ∷ ks) k = last_of_appended (j ∷ ks) k

pub last_in_order : (h : List Tick) → last_time (in_order h) ≡ newest_time h
last_in_order [] = refl
last_in_order (k ∷ h) = last_of_appended (in_order h) k
