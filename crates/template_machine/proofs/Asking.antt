-- Who asked for the nodes of a list.
use Rattle.std.proofs.Common.{◌≡◌, ℕ, zero, suc, ◌<◌, true, List, [], ◌∷◌, length, Option, Some, None, IsSome, refl, ap, sym, subst, ◌∙◌, arith}
use Rattle.std.proofs.lemmas.Bool.{false≢true}
use Rattle.frame_stack.specs.declared.frame.Frame.{Frame}
use Rattle.frame_stack.specs.declared.frame.Frame.TheVariants.{Body, Call, Attributes, Loop, Region, Source, Skip, Pass}
use Rattle.node_stack.specs.Path.{Node}
use Rattle.template_machine.specs.Asking.{AsksAt, HasAsker, IsAsker, IsBodyAsking, WaitsFor, asking}
use Rattle.template_machine.specs.Bodies.{body_in, level_in, pc_in, skipped_in}
use Rattle.template_machine.specs.Contexts.{Station}
use Rattle.template_machine.specs.Programs.{instr_at, link_at}
use Rattle.template_machine.specs.Standing.{Outer, Standing, region_over, source_over}
use Rattle.template_machine.specs.Well.{AreWell, AsksBefore, OnFirst, OnOuter, instr_before}
use Rattle.template_machine.specs.declared.program.Link.{Link}
use Rattle.template_machine.specs.declared.program.Program.{Program}
use Rattle.template_machine.specs.declared.run.Asker.{Asker}
use Rattle.template_machine.specs.declared.run.Asker.TheVariants as asker
use Rattle.template_machine.proofs.Moving.{asked_there, body_is}
use Rattle.template_machine.proofs.Placing.{has_place}

-- the operation before the next one of a body asked
pub pc_asked : (fs : List Frame) (asked : ℕ) → AsksBefore fs asked → (pc_in fs ≡ Some (suc asked)) × IsSome (level_in fs)
pc_asked [] asked a = absurd a
pc_asked (Loop turn ∷ fs) asked a = pc_asked fs asked a
pc_asked (Body template alternative pc locals level spent ∷ fs) asked a = (ap (λ n. Some n) a, refl)
pc_asked (Call procedure pc locals level ∷ fs) asked a = (ap (λ n. Some n) a, refl)
pc_asked (f ∷ fs) asked a = absurd a

placed : (fs : List Frame) → IsSome (level_in fs) → IsSome (body_in fs)
placed fs some = let x = has_place fs some in subst (λ o. IsSome o) (sym x.1) refl

waits_for : (fs : List Frame) (asked : ℕ) → AsksBefore fs asked → WaitsFor asked fs
waits_for fs asked a = let x = pc_asked fs asked a in (placed fs x.1, x.0)

before_some : (p : Program) (pc : ℕ) → IsSome (instr_before p pc) → (asked : ℕ) × ((pc ≡ suc asked) × IsSome (instr_at p.code asked))
before_some p zero some = absurd (false≢true some)
before_some p (suc asked) some = (asked, (refl, some))

some_pc : (fs : List Frame) → IsSome (level_in fs) → (pc : ℕ) × (pc_in fs ≡ Some pc)
some_pc [] some = absurd (false≢true some)
some_pc (Loop turn ∷ fs) some = some_pc fs some
some_pc (Body template alternative pc locals level spent ∷ fs) some = (pc, refl)
some_pc (Call procedure pc locals level ∷ fs) some = (pc, refl)
some_pc (f ∷ fs) some = absurd (false≢true some)

module _ (p : Program) (stations : List Station) where
  -- a body that waits does so for an instruction
  pub body_asked : (fs : List Frame) (s : Standing) → IsSome (level_in fs) → AreWell p stations 0 true fs s → (asked : ℕ) × (WaitsFor asked fs × IsSome (instr_at p.code asked))
  body_asked fs s some w =
      let c = body_is p stations 0 true fs s some w in
      let at = some_pc fs some in
      let there = asked_there p stations 0 fs c.0 s at.0 at.1 c.1 in
      let b = before_some p at.0 there in
      (b.0, ((placed fs some, at.1 ∙ ap (λ n. Some n) b.1.0), b.1.1))

  same_asked : (fs : List Frame) (asked other : ℕ) → WaitsFor asked fs → WaitsFor other fs → IsSome (instr_at p.code asked) → IsSome (instr_at p.code other)
  same_asked fs asked other x y some = subst (λ n. IsSome (instr_at p.code n)) (same_place (sym x.1 ∙ y.1)) some
    where
      same_place : {m n : ℕ} → Some (suc m) ≡ Some (suc n) → m ≡ n
      same_place e = cc

  -- the place at which the instruction of a list asked
  pub list_asked : (fs : List Frame) (s : Standing) (asked : ℕ) → AsksBefore fs asked → AreWell p stations 0 true fs s → WaitsFor asked fs × IsSome (instr_at p.code asked)
  list_asked fs s asked a w =
      let x = pc_asked fs asked a in
      let b = body_asked fs s x.1 w in
      let here = waits_for fs asked a in
      (here, same_asked fs b.0 asked b.1.0 here b.1.1)

-- a body at a place has a level
pub placed_level : (fs : List Frame) (n : ℕ) → body_in fs ≡ Some n → IsSome (level_in fs)
placed_level [] n e = absurd (cc)
placed_level (Loop turn ∷ fs) n e = placed_level fs n e
placed_level (Body template alternative pc locals level spent ∷ fs) n e = refl
placed_level (Call procedure pc locals level ∷ fs) n e = refl
placed_level (f ∷ fs) n e = absurd (cc)

pub no_level : (fs : List Frame) → body_in fs ≡ None → level_in fs ≡ None
no_level [] e = refl
no_level (Loop turn ∷ fs) e = no_level fs e
no_level (Body template alternative pc locals level spent ∷ fs) e = absurd (cc)
no_level (Call procedure pc locals level ∷ fs) e = absurd (cc)
no_level (f ∷ fs) e = refl

-- An asker by the body that waits.
pub asker_from : (p : Program) (a : Asker) (fs gs : List Frame) (asked : ℕ) → IsBodyAsking a gs → asking fs ≡ gs → AsksAt p asked × WaitsFor asked gs → IsAsker p a fs
asker_from p asker.Root fs gs asked b is h = absurd b
asker_from p (asker.Pass base) fs gs asked b is h = absurd b
asker_from p (asker.Instr place body) fs gs asked b is h = record {
  base = subst (AsksAt p) (same_place (sym h.1.1 ∙ b.1)) h.0;
  on = subst (λ l. (body_in l ≡ Some body) × (pc_in l ≡ Some (suc place))) (sym is) b;
}
  where
    same_place : {m n : ℕ} → Some (suc m) ≡ Some (suc n) → m ≡ n
    same_place e = cc

-- Somebody asked for a list that goes on.

-- the instruction of a place leads to a base group that there is
abbrev pub AreBased : Program → Type 0
AreBased p = (asked : ℕ) → IsSome (instr_at p.code asked) → (l : Link) × ((link_at p asked ≡ Some l) × (l.base < length p.sheet.groups))

pub first_on : (xs : List (Option Node)) (P : Node → List (Option Node) → Type 0) (Q : Type 0) → OnFirst xs P → ((x : Node) (others : List (Option Node)) → P x others → Q) → Q
first_on [] P Q h f = absurd h
first_on (None ∷ xs) P Q h f = absurd h
first_on (Some x ∷ xs) P Q h f = f x xs h

pub outer_on : (xs : List Outer) (P : Outer → List Outer → Type 0) (Q : Type 0) → OnOuter xs P → ((o : Outer) (others : List Outer) → P o others → Q) → Q
outer_on [] P Q h f = absurd h
outer_on (o ∷ others) P Q h f = f o others h

based_body : (p : Program) (stations : List Station) (fs : List Frame) (s : Standing) → AreBased p → IsSome (level_in fs) → AreWell p stations 0 true fs s
    → (asked : ℕ) × (AsksAt p asked × WaitsFor asked fs)
based_body p stations fs s based some w = let b = body_asked p stations fs s some w in (b.0, ((b.1.1, based b.0 b.1.1), b.1.0))

-- loops stand on a body
pub loop_level : (p : Program) (stations : List Station) (loops : ℕ) (fs : List Frame) (s : Standing) → AreWell p stations (suc loops) true fs s → IsSome (level_in fs)
loop_level p stations loops [] s w = absurd (never w.0)
  where
    never : suc loops ≡ 0 → ⊥
    never e = omega (arith, e)
loop_level p stations loops (Loop turn ∷ fs) s w = loop_level p stations (suc loops) fs s w
loop_level p stations loops (Body template alternative pc locals level spent ∷ fs) s w = refl
loop_level p stations loops (Call procedure pc locals level ∷ fs) s w = refl
loop_level p stations loops (Region asked level ∷ fs) s w = absurd (omega (arith, w.0))
loop_level p stations loops (Attributes next asked ∷ fs) s w = absurd (omega (arith, w.0))
loop_level p stations loops (Source buffer next asked ∷ fs) s w = absurd (omega (arith, w.0))
loop_level p stations loops (Skip depth ∷ fs) s w = absurd (omega (arith, w.0))
loop_level p stations loops (Pass base level spent ∷ fs) s w = absurd (omega (arith, w.0))

pub has_asker : (p : Program) (stations : List Station) (fs : List Frame) (s : Standing) → AreBased p → 0 < length p.sheet.groups → skipped_in fs ≡ None
    → AreWell p stations 0 true fs s → HasAsker p fs
has_asker p stations [] s based root none w = root
has_asker p stations (Pass base level spent ∷ fs) s based root none w = w.1
has_asker p stations (Region asked level ∷ fs) s based root none w =
    first_on s.aside _ (AsksAt p asked × WaitsFor asked fs) w.3
    (λ x others h. let l = list_asked p stations fs (region_over x others s) asked w.2 h.2 in ((l.1, based asked l.1), l.0))
has_asker p stations (Attributes next asked ∷ fs) s based root none w =
    let l = list_asked p stations fs s asked w.1 w.3 in ((l.1, based asked l.1), l.0)
has_asker p stations (Source buffer next asked ∷ fs) s based root none w =
    outer_on s.around _ (AsksAt p asked × WaitsFor asked fs) w.5
    (λ o others h. let l = list_asked p stations fs (source_over buffer o.source others s) asked w.2 h.1 in ((l.1, based asked l.1), l.0))
has_asker p stations (Skip depth ∷ fs) s based root none w = absurd (cc)
has_asker p stations (Loop turn ∷ fs) s based root none w = based_body p stations (Loop turn ∷ fs) s based (loop_level p stations 0 fs s w) w
has_asker p stations (Body template alternative pc locals level spent ∷ fs) s based root none w =
    based_body p stations (Body template alternative pc locals level spent ∷ fs) s based refl w
has_asker p stations (Call procedure pc locals level ∷ fs) s based root none w = based_body p stations (Call procedure pc locals level ∷ fs) s based refl w
