use Rattle.std.proofs.Common.{◌≡◌, ℕ, false, List, [], Option, Some, None, Ok, Err, inl, reverse, sym, subst, refl}
use Rattle.std.specs.Prelude.{IfSome}
use Rattle.group_scope.specs.declared.rank.Chosen.{Chosen}
use Rattle.template_machine.specs.Working.{IsChosen}
use Rattle.template_machine.specs.Asking.{base_by, place_by}
use Rattle.template_machine.specs.Behind.{StepsFrom, head_taken}
use Rattle.template_machine.specs.Choosing.{ChoosesAs}
use Rattle.template_machine.specs.Entering.{Enters, head_passed}
use Rattle.template_machine.specs.declared.program.Program.{Program}
use Rattle.template_machine.specs.declared.run.Asker.{Asker}
use Rattle.template_machine.specs.declared.run.Run.{Run}
use Rattle.template_machine.proofs.HeadTaken.{takes_entered, takes_memory, takes_passed, takes_stopped}
use Rattle.template_machine.proofs.Saying.{stops_with}
use Rattle.template_machine.proofs.run.Run.take.Goals as goal

pub base_of-base-requires : goal.base_of-base-requires
base_of-base-requires g c = c.requires.asker.base

pub chosen-requires : goal.chosen-requires
chosen-requires g c = c.requires.head.steady

pub place_of-at-requires : goal.place_of-at-requires
place_of-at-requires g c = c.requires.asker.base

pub enter-requires-clause-node : goal.enter-requires-clause-node
enter-requires-clause-node g c = inl (c.requires.head, refl)

pub enter-requires-clause-asker : goal.enter-requires-clause-asker
enter-requires-clause-asker g c = c.requires.asker.on

pub enter-requires-clause-chosen : goal.enter-requires-clause-chosen
enter-requires-clause-chosen g c =
    subst (λ o. IfSome o (λ (x : Chosen). IsChosen c.args.program.now c.args.self.now x.template x.alternative)) c.in-Some.is c.in_ok-chosen.ensures.fits

-- the choice is of the base group of what asked, and no template is active
asked_for : (p : Program) (r : Run) (a : Asker) (base : ℕ) (active : List ℕ) (o now : Option Chosen) → base ≡ base_by p a → active ≡ [] → o ≡ now → ChoosesAs p r base active o → ChoosesAs p r (base_by p a) [] now
asked_for p r a base active o now based none is chooses =
    subst (ChoosesAs p r (base_by p a) []) is (subst (λ l. ChoosesAs p r (base_by p a) l o) none (subst (λ b. ChoosesAs p r b active o) based chooses))

pub returns-in_err-chosen-clause-takes : goal.returns-in_err-chosen-clause-takes
returns-in_err-chosen-clause-takes g c = λ alone fresh.
    let p = c.args.program.now in
    let r = c.args.self.now in
    let e = c.in_err-chosen.field-0.0 in
    subst (λ x. StepsFrom g.S.Sink.output g.S.Sink.told p (λ given left f. head_taken given p r left f) x r c.args.out.now c.args.out.now)
    (sym (stops_with c.from_residual.result e c.from_residual.ensures.1))
    (takes_memory g.S.Sink.output g.S.Sink.told g.met.S.Sink.nothing p (λ given left f. head_taken given p r left f) e r c.args.out.now c.in_err-chosen.ensures.memory)

pub returns-in-Some-clause-takes : goal.returns-in-Some-clause-takes
returns-in-Some-clause-takes g c = λ alone fresh.
    let p = c.args.program.now in
    let r = c.args.self.now in
    let a = c.args.asker in
    let ch = c.in-Some.chosen in
    let chosen = subst (λ o. IfSome o (λ (x : Chosen). IsChosen p r x.template x.alternative)) c.in-Some.is c.in_ok-chosen.ensures.fits in
    let chooses = asked_for p r a c.base_of-base.result c.new-none.result _ (Some ch) c.base_of-base.ensures.value c.new-none.ensures c.in-Some.is c.in_ok-chosen.ensures.chooses in
    takes_entered p r c.enter.new.self a c.requires.head c.requires.asker alone ch chosen chooses g.S.Sink.output g.S.Sink.told g.met.S.Sink.nothing c.args.out.now fresh
    (subst (λ x. Enters p ch.template ch.alternative a false x (Ok tt) r c.enter.new.self) c.place_of-at.ensures c.in_ok-enter-in-Some.ensures.enters)

pub returns-in_err-enter-in-Some-clause-takes : goal.returns-in_err-enter-in-Some-clause-takes
returns-in_err-enter-in-Some-clause-takes g c = λ alone fresh.
    let p = c.args.program.now in
    let r = c.args.self.now in
    let a = c.args.asker in
    let ch = c.in-Some.chosen in
    let e = c.in_err-enter-in-Some.field-0.0 in
    let chosen = subst (λ o. IfSome o (λ (x : Chosen). IsChosen p r x.template x.alternative)) c.in-Some.is c.in_ok-chosen.ensures.fits in
    let chooses = asked_for p r a c.base_of-base.result c.new-none.result _ (Some ch) c.base_of-base.ensures.value c.new-none.ensures c.in-Some.is c.in_ok-chosen.ensures.chooses in
    subst (λ x. StepsFrom g.S.Sink.output g.S.Sink.told p (λ given left f. head_taken given p r left f) x c.enter.new.self c.args.out.now c.args.out.now)
    (sym (stops_with c.from_residual-in_err-enter-in-Some.result e c.from_residual-in_err-enter-in-Some.ensures.1))
    (takes_stopped p r c.enter.new.self a c.requires.head c.requires.asker alone ch chosen chooses g.S.Sink.output g.S.Sink.told g.met.S.Sink.nothing c.args.out.now e
    (subst (λ x. Enters p ch.template ch.alternative a false x (Err e) r c.enter.new.self) c.place_of-at.ensures c.in_err-enter-in-Some.ensures.enters))

pub returns-clause-takes : goal.returns-clause-takes
returns-clause-takes g c = λ alone fresh.
    let p = c.args.program.now in
    let r = c.args.self.now in
    let a = c.args.asker in
    let base = c.base_of-base.result in
    let chooses = asked_for p r a base c.new-none.result _ None c.base_of-base.ensures.value c.new-none.ensures c.in-None.is c.in_ok-chosen.ensures.chooses in
    takes_passed g.S.Sink.output g.S.Sink.told p r c.pass_through.new.self a c.requires.head c.requires.asker alone chooses c.pass_through.result c.args.out.now c.pass_through.new.out
    (subst (λ b. StepsFrom g.S.Sink.output g.S.Sink.told p (λ given left f. head_passed given p (place_by p a) b r left f) c.pass_through.result c.pass_through.new.self c.args.out.now c.pass_through.new.out)
    c.base_of-base.ensures.value (c.pass_through.ensures.passes alone fresh (place_by p a)))
