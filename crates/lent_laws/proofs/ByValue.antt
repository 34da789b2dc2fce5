-- Functions by value: the contract of one as a relation of the parameters and the result, and a call of it, over the list of its parameters.
--     ByValue           the contract, and ByValue₂ that of two parameters
--     calls_by_value, calls_by_value_last    the call, and one that is the last statement of an arm
--     Stage             such a function of two parameters that returns a struct of two fields
--     Question          such a function of two parameters that returns an enum of two variants, as a Result is
use mathlib.Core.Path.{◌≡◌}
use mathlib.Core.Logic.{◌⊎◌}
use mathlib.Core.List.{[], ◌∷◌, List}
use seplogic.Ra.Ura.{Ura}
use mir.Syntax.{Callee, Place, Opd as Operand, Body as Code, seq, call}
use mir.Val.{Val}
use base.Logic.{SProp, ent, sep, emp, via, mono∗, emp∗, snd∗, ex_e, id⊢}
use base.Fml.{ftrue}
use prog.Wp.{Env, Calls, Loops}
use types.Logic.{Logic, sem}
use contract.Monad.{fact}
use types.Kit as Kit
use types.Kit.{Go, Goal, Item, Soaks, Sq, runs, lands, settles, ‵, raw, ◌⊛◌, some, later, ◌$◌, !, move, drop, use0, use1, split, pick, await}
use types.Run.{Opds}
use sound.WpLaws.{FmC}
use denote.RattleType.{RattleType, Denots, Valss, flat}
use denote.Laws.{Is, Ises, Are, Spells, valss, Makess, owns_make, shows}
use denote.Signature.{Slot, Signature, plain, types_at}
use denote.Steps.{peeks, heard}
use denote.Triple.Statement.{Contract, Triple}
use denote.Triple.Call.{calls_at, calls_at_last}
use denote.Triple.Clauses.{Ended, Clauses, ensured, lasts, closing}
use denote.Triple.End.{all}
use denote.Triple.Spec.{triple_of}
use denote.Exit.{yes}
use denote.Struct.Declared.{Declared}
use denote.Enum.Declared as enum
use Rattle.lent_laws.proofs.PlainTypes.{Shape, row_of, PlainType, row, Data, Two, two_of, two_shape, TwoLaws, Answer, answer_of, answer_shape, AnswerLaws}

-- ---- a list of plain types

abbrev slots : List PlainType → List (Slot 0)
slots [] = []
slots (P ∷ Ps) = plain (λ _. row P) ∷ slots Ps

abbrev rows : List PlainType → List RattleType
rows Ps = types_at (slots Ps) tt

-- their data, a tuple with `tt` at its end, and the machine values of these
abbrev pub Datas : List PlainType → Type 0
Datas Ps = Denots (rows Ps)

abbrev spells : (Ps : List PlainType) → Spells (rows Ps)
spells [] = tt
spells (P ∷ Ps) = ((λ x. P.val x ∷ []), spells Ps)

abbrev values : (Ps : List PlainType) → Datas Ps → Valss (rows Ps)
values Ps = valss (rows Ps) (spells Ps)

-- each of the data is of its type
abbrev pub AreAll : (Ps : List PlainType) → Datas Ps → Type 0
AreAll Ps a = Are (rows Ps) (Ises (rows Ps)) a (values Ps a)

makes_all : {M : Type 1} {𝓤 : Ura M} (𝓛 : Logic 𝓤) → (Ps : List PlainType) → Makess 𝓛 (rows Ps) (Ises (rows Ps))
makes_all 𝓛 [] = tt
makes_all 𝓛 (P ∷ Ps) = (P.makes 𝓛, makes_all 𝓛 Ps)

-- ---- the contract

module _ (Ps : List PlainType) (R : Shape) (φ : Datas Ps → R.X → Type 0) where
  abbrev by_value_signature : Signature
  by_value_signature = record { lifetimes = 0; outlives = []; params = slots Ps; result = plain (λ _. row_of R) }

  abbrev by_value_ended : Ended
  by_value_ended = record { signature = by_value_signature; kept = all yes (slots Ps) }

  abbrev by_value_clauses : {M : Type 1} (𝓤 : Ura M) → Clauses 𝓤 by_value_ended
  by_value_clauses 𝓤 = λ κs a. record { ghost = Unit {0}; requires = λ _. emp 𝓤; ensures = λ g r e. fact 𝓤 (φ a r) }

  abbrev pub ByValue : {M : Type 1} {𝓤 : Ura M} (𝓛 : Logic 𝓤) → Contract 𝓤
  ByValue {𝓤 = 𝓤} 𝓛 = triple_of 𝓛 by_value_signature (closing 𝓛 by_value_ended (by_value_clauses 𝓤))

  module _ {M : Type 1} {𝓤 : Ura M} (𝓛 : Logic 𝓤) (a : Datas Ps) where
    -- what a caller has of the result, and of that the clause alone
    abbrev said : R.X → SProp 𝓤
    said r = ensured 𝓛 by_value_ended (by_value_clauses 𝓤) tt a tt r

    clause_of : (r : R.X) → ent 𝓤 (said r) (fact 𝓤 (φ a r))
    clause_of r = ex_e 𝓤 _ (λ ws. snd∗ 𝓤 (sem 𝓛 (lasts by_value_ended tt a ws)) (fact 𝓤 (φ a r)))

abbrev pub ByValue₂ : (P Q : PlainType) (R : Shape) → (Data P → Data Q → R.X → Type 0) → {M : Type 1} {𝓤 : Ura M} (𝓛 : Logic 𝓤) → Contract 𝓤
ByValue₂ P Q R φ = ByValue (P ∷ Q ∷ []) R (λ a. φ a.0 a.1.0)

-- ---- a call

pub lone_is : (v w : Val) → v ∷ [] ≡ w ∷ [] → v ≡ w
lone_is v w e = cc

-- a call of such a function: what plain parameters own is had for nothing, and the result comes back with what the clause says of it
module _ (Ps : List PlainType) (R : Shape) (φ : Datas Ps → R.X → Type 0) {M : Type 1} {𝓤 : Ura M} (𝓛 : Logic 𝓤) (a : Datas Ps) (are : AreAll Ps a) where
  open 𝓛 use {H}

  abbrev passed : (ByValue Ps R φ 𝓛).Ghost
  passed = ((tt, tt, tt, a, values Ps a), tt)

  abbrev passing : Item 𝓤
  passing = raw ((ByValue Ps R φ 𝓛).pre passed)

  goes_in : ent 𝓤 (emp 𝓤) ((ByValue Ps R φ 𝓛).pre passed)
  goes_in = via 𝓤 (sep 𝓤 (emp 𝓤) (emp 𝓤)) (emp∗ 𝓤 (emp 𝓤)) (mono∗ 𝓤
      (via 𝓤 (sep 𝓤 (emp 𝓤) (emp 𝓤)) (emp∗ 𝓤 (emp 𝓤)) (mono∗ 𝓤 (id⊢ 𝓤 (emp 𝓤)) (owns_make 𝓛 (rows Ps) (Ises (rows Ps)) (makes_all 𝓛 Ps) a (values Ps a) are)))
      (id⊢ 𝓤 (emp 𝓤)))

  -- what came back, with what the clause says of it
  comes_back : {Γ : List (Item 𝓤)} {G : Goal 𝓤 H} → Soaks G → (v : Val) → ((r : R.X) → φ a r → Is (row_of R) r (v ∷ []) → Sq 𝓛 (‵ (R.own r (v ∷ [])) ∷ Γ) G)
      → Sq 𝓛 (raw ((ByValue Ps R φ 𝓛).post passed v) ∷ Γ) G
  comes_back soaks v then =
      use1 𝓛 (later (some (λ (r : R.X). (‵ ftrue ⊛ ‵ (R.own r (v ∷ []))) ⊛ raw (said Ps R φ 𝓛 a r)))) (id⊢ 𝓤 _) $ await ! soaks $ pick ! (λ r.
      split ! $ move ! (1 ∷ []) $ use1 𝓛 (raw (fact 𝓤 (φ a r))) (clause_of Ps R φ 𝓛 a r) $ heard ! (φ a r) (λ e. split ! $ drop ! $
      peeks ! (row_of R) (Is (row_of R)) (shows 𝓛 (row_of R)) r (v ∷ []) (λ is. then r e is)))

  pub calls_by_value : {C : Calls 𝓤 H} {Λ : Loops 𝓤 H} (fm : FmC 𝓤 H 𝓛.laws C) {k : Callee} → Triple 𝓤 (C k) (ByValue Ps R φ 𝓛)
      → {Γ : List (Item 𝓤)} {E : Env 𝓤 H} {q : Kit.Post 𝓤 H} {d : Place} {xs : List Operand} {rest : Code} → Opds (Go {0}) 𝓛 (passing ∷ Γ) E xs (flat (rows Ps) (values Ps a))
      → ((r : R.X) (v : Val) → φ a r → Is (row_of R) r (v ∷ []) → Sq 𝓛 (‵ (R.own r (v ∷ [])) ∷ Γ) (lands C Λ E d v rest q))
      → Sq 𝓛 Γ (runs C Λ E (seq (call k xs d) rest) q)
  calls_by_value fm known os then = use0 𝓛 passing goes_in $ calls_at ! fm (ByValue Ps R φ 𝓛) known passed os (λ v. comes_back tt v (λ r e is. then r v e is))

  pub calls_by_value_last : {C : Calls 𝓤 H} {Λ : Loops 𝓤 H} (fm : FmC 𝓤 H 𝓛.laws C) {k : Callee} → Triple 𝓤 (C k) (ByValue Ps R φ 𝓛)
      → {Γ : List (Item 𝓤)} {E : Env 𝓤 H} {q : Kit.Post 𝓤 H} {d : Place} {xs : List Operand} → Opds (Go {0}) 𝓛 (passing ∷ Γ) E xs (flat (rows Ps) (values Ps a))
      → ((r : R.X) (v : Val) → φ a r → Is (row_of R) r (v ∷ []) → Sq 𝓛 (‵ (R.own r (v ∷ [])) ∷ Γ) (settles E d v q))
      → Sq 𝓛 Γ (runs C Λ E (call k xs d) q)
  calls_by_value_last fm known os then = use0 𝓛 passing goes_in $ calls_at_last ! fm (ByValue Ps R φ 𝓛) known passed os (λ v. comes_back tt v (λ r e is. then r v e is))

-- ---- stages

-- a function by value of two parameters that returns a struct of two fields
pub record Stage (P X Q Y : PlainType) : Type 2 where
  pub gives : Two Q Y
  pub laws : TwoLaws Q Y gives
  pub does : Data P → Data X → gives.X → Type 0
  pub name : Callee

-- by a declared struct T
abbrev pub stage_of : (P X Q Y : PlainType) (T : Declared) (first : T.D → Data Q) (second : T.D → Data Y) → TwoLaws Q Y (two_of Q Y T first second) → (Data P → Data X → T.D → Type 0) → Callee → Stage P X Q Y
stage_of P X Q Y T first second laws does name = record { gives = two_of Q Y T first second; laws = laws; does = does; name = name }

abbrev pub StageMeets : (P X Q Y : PlainType) → Stage P X Q Y → {M : Type 1} {𝓤 : Ura M} (𝓛 : Logic 𝓤) → Contract 𝓤
StageMeets P X Q Y s = ByValue₂ P X (two_shape Q Y s.gives) s.does

-- a function by value of two parameters that returns an enum of two variants with a field each
pub record Question (P X Q Y : PlainType) : Type 2 where
  pub gives : Answer Q Y
  pub laws : AnswerLaws Q Y gives
  pub does : Data P → Data X → gives.X → Type 0
  pub name : Callee

-- by a declared enum T
abbrev pub question_of : (P X Q Y : PlainType) (T : enum.Declared) (holds : T.D → Data Q ⊎ Data Y) → AnswerLaws Q Y (answer_of Q Y T holds) → (Data P → Data X → T.D → Type 0) → Callee → Question P X Q Y
question_of P X Q Y T holds laws does name = record { gives = answer_of Q Y T holds; laws = laws; does = does; name = name }

abbrev pub QuestionMeets : (P X Q Y : PlainType) → Question P X Q Y → {M : Type 1} {𝓤 : Ura M} (𝓛 : Logic 𝓤) → Contract 𝓤
QuestionMeets P X Q Y s = ByValue₂ P X (answer_shape Q Y s.gives) s.does
