-- How a run of the main document goes on from step to step.
use Rattle.std.proofs.Common.{◌≡◌, ◌≢◌, ℕ, Bool, true, false, not, ◌||◌, List, [], ◌∷◌, ◌++◌, reverse, Option, Some, None, Result, Ok, Err, refl, ap, sym, subst, ◌∙◌}
use Rattle.std.specs.Prelude.{if◌then◌else◌, MatchResult, OnOk, slice_get, unwrap_or}
use Rattle.std.proofs.lemmas.List.{append-nil}
use Rattle.stx_base.specs.Course.{Halt, Same, says}
use Rattle.stx_base.specs.declared.fault.Place.{Place}
use Rattle.stx_base.specs.declared.fault.RunCode.TheVariants.{UnclosedResult}
use Rattle.stx_base.proofs.Course.{same_equal, same_says, same_then, says_says}
use Rattle.frame_stack.specs.declared.frame.Frame.{Frame}
use Rattle.node_stack.specs.Path.{Node, PathNode, is_attribute}
use Rattle.result_writer.specs.Target.{Left, Target, behind, is_closed}
use Rattle.result_writer.specs.declared.fault.ResultFault.{ResultFault}
use Rattle.sheet_model.specs.declared.sheet.Group.{Group}
use Rattle.sheet_model.specs.declared.sheet.Sheet.{Sheet}
use Rattle.xml_events.specs.Tree.{Future}
use Rattle.template_machine.specs.Bodies.{spent_in, takes_events}
use Rattle.template_machine.specs.Ending.{Done, Note, Open, Put, Said, fault_at}
use Rattle.template_machine.specs.Giving.{Turned}
use Rattle.template_machine.specs.Job.{Given, Here}
use Rattle.template_machine.specs.Lists.{rest_of}
use Rattle.template_machine.specs.Meaning.{ending_of}
use Rattle.template_machine.specs.Onward.{ComesTo, EndsWith, GoesOnTo, StepsOn}
use Rattle.template_machine.specs.Ordinary.{IsAlone}
use Rattle.template_machine.specs.Passing.{group_at, place_of}
use Rattle.template_machine.specs.Programs.{IsProgramOf}
use Rattle.template_machine.specs.Saying.{Proceeds}
use Rattle.template_machine.specs.Sinks.{behind_all}
use Rattle.template_machine.specs.Still as still
use Rattle.template_machine.specs.Still.{Runs}
use Rattle.template_machine.specs.Stepwise.{Flat_does, flat_code}
use Rattle.template_machine.specs.Stops.{fault, turn_of}
use Rattle.template_machine.specs.declared.program.Program.{Program}
use Rattle.template_machine.specs.declared.run.Doing.{Doing}
use Rattle.template_machine.specs.declared.run.Doing.TheVariants as doing
use Rattle.template_machine.specs.declared.run.Run.{Run}
use Rattle.template_machine.specs.declared.run.Step.{Step}
use Rattle.template_machine.specs.declared.run.Step.TheVariants as step
use Rattle.template_machine.specs.declared.source.Ahead.{Ahead}
use Rattle.template_machine.specs.declared.stop.Stop.{Stop}
use Rattle.template_machine.specs.declared.stop.Stop.TheVariants as stop
use Rattle.template_machine.specs.declared.turn.Turn.{Turn}
use Rattle.template_machine.specs.declared.turn.Turn.TheVariants as turn
use Rattle.template_machine.proofs.Turning.{stop_more}

limit_stays : (said : List Said) (t : Target) → (behind_all t said).limit ≡ t.limit
limit_stays [] t = refl
limit_stays (Put part ∷ said) t = limit_stays said (behind t part)
limit_stays (Note text ∷ said) t = limit_stays said t
limit_stays (Open name ∷ said) t = limit_stays said t

-- Where nothing waits a run is over.

module _ (given : Given) (p : Program) where
  nothing_waits : (d : Doing) (h : Ahead) (fs : List Frame) (r : Run) (left : Left) (f : Future) → fs ≡ [] → still.doing_now given p d h fs r left f ≡ Halt (ending_of given left)
  nothing_waits d h [] r left f none = by d
    where
      by_two : (alone : Bool) (n : Node) (above : List PathNode) (g : Future) → is_attribute (Some n) ≡ alone
          → still.goes_on_at given p true n above g (λ f. still.rest given p Runs [] [] (still.scene_by given p h r) f) (still.state_of given p r left) ≡ Halt (ending_of given left)
      by_two true n above g e =
          ap (λ b. if b then Halt (ending_of given left) else Halt (ending_of given left)) e
      by_two false n above g e =
          ap (λ b. if b then Halt (ending_of given left) else Halt (ending_of given left)) e

      by : (d : Doing) → still.doing_now given p d h [] r left f ≡ Halt (ending_of given left)
      by doing.Body = by_two _ (still.first_node (still.scene_by given p h r).nodes) (rest_of (still.scene_by given p h r).nodes) (still.lists_ahead given p h r f) refl
      by doing.List = refl
  nothing_waits d h (x ∷ fs) r left f none = absurd (cc)

  pub still_over : (r : Run) (left : Left) (f : Future) → reverse r.frames.frames ≡ [] → still.still given p r left f ≡ Halt (ending_of given left)
  still_over r left f none = nothing_waits r.doing r.source.ahead (reverse r.frames.frames) r left f none

  -- what was said before is said first
  pub turned_behind : (t : Turn) (x y : Flat_does) (said more : List Said) (follows : Flat_does) → Same (flat_code given) x (says said y) → Turned given t y more follows
      → Turned given t x (said ++ more) follows
  turned_behind turn.More x y said more follows first goes = same_then first (same_then (same_says said goes) (same_equal (flat_code given) (sym (says_says said more _))))
  turned_behind turn.Ended x y said more follows first goes = same_then first (same_then (same_says said goes) (same_equal (flat_code given) (sym (says_says said more _))))
  turned_behind (turn.Stopped f) x y said more follows first goes = same_then first (same_then (same_says said goes) (same_equal (flat_code given) (sym (says_says said more _))))
  turned_behind (turn.Spent at) x y said more follows first goes = same_then first (same_then (same_says said goes) (same_equal (flat_code given) (sym (says_says said more _))))
  turned_behind (turn.WantDocument name) x y said more follows first goes =
      (goes.0, same_then first (same_then (same_says said goes.1) (same_equal (flat_code given) (sym (says_says said more _)))))
  turned_behind turn.Memory x y said more follows first goes =
      (goes.0, same_then first (same_then (same_says said goes.1) (same_equal (flat_code given) (sym (says_says said more _)))))

  pub stops_turned : (s : Stop) (x : Flat_does) (said : List Said) (follows more : Flat_does) → Proceeds given p {A = Step} (Err s) x said follows → Turned given (turn_of s) x said more
  stops_turned (stop.Fault f) x said follows more does = does
  stops_turned (stop.Spent at) x said follows more does = does
  stops_turned stop.Memory x said follows more does = does

-- the limit of elements stays
pub limit_is : {S : Type 0} (output : S → Target) (told : S → S → List Said → Type 0) (leaves : (a b : S) (said : List Said) → told a b said → output b ≡ behind_all (output a) said)
    (given : Given) (a b : S) (said : List Said) → told a b said → (output a).limit ≡ given.limits.elements → (output b).limit ≡ given.limits.elements
limit_is output told leaves given a b said tells limit = ap (λ (t : Target). t.limit) (leaves a b said tells) ∙ limit_stays said (output a) ∙ limit

module _ {S : Type 0} (output : S → Target) (told : S → S → List Said → Type 0) (nothing : (s : S) → told s s [])
    (further : (a b c : S) (first second : List Said) → told a b first → told b c second → told a c (first ++ second))
    (leaves : (a b : S) (said : List Said) → told a b said → output b ≡ behind_all (output a) said) (p : Program) where
  pub comes_first : (r : Run) (out : S) → IsAlone p r → ComesTo output told p r r out out
  comes_first r out alone = record {
    said = [];
    tells = nothing out;
    alone = alone;
    does = λ given new program params limit f. same_equal (flat_code given) refl;
  }

  -- where nothing is to be done yet
  pub goes_first : (r : Run) (out : S) → IsAlone p r → GoesOnTo output told p turn.More r r out out
  goes_first r out alone = record {
    said = [];
    tells = nothing out;
    alone = λ e. alone;
    does = λ given new program params limit f. same_equal (flat_code given) refl;
  }

  -- or any more
  pub goes_last : (t : Turn) (r s : Run) (out last : S) → t ≢ turn.More → reverse r.frames.frames ≡ [] → told out last [] → EndsWith p (output out).left t
      → GoesOnTo output told p t r s out last
  goes_last t r s out last over none tells ends = record {
    said = [];
    tells = tells;
    alone = λ e. absurd (over e);
    does = λ given new program params limit f.
        subst (λ x. Turned given t x [] (still.still given p s (output last).left f)) (sym (still_over given p r (output out).left f none))
        (ends given program (still.still given p s (output last).left f));
  }

  module _ (a b c : Run) (out mid now : S) (comes : ComesTo output told p a b out mid) where
    pub comes_on : StepsOn output told p (Ok step.More) b c mid now → ComesTo output told p a c out now
    comes_on steps = record {
      said = comes.said ++ steps.said;
      tells = further out mid now comes.said steps.said comes.tells steps.tells;
      alone = steps.alone;
      does = λ given new program params limit f.
          same_then (comes.does given new program params limit f)
          (same_then (same_says comes.said (steps.does given new program params (limit_is output told leaves given out mid comes.said comes.tells limit) f))
          (same_equal (flat_code given) (sym (says_says comes.said steps.said (still.still given p c (output now).left f)))));
    }

    -- a step after which it waits
    pub goes_waits : StepsOn output told p (Ok step.Wait) b c mid now → GoesOnTo output told p turn.More a c out now
    goes_waits steps = record {
      said = comes.said ++ steps.said;
      tells = further out mid now comes.said steps.said comes.tells steps.tells;
      alone = λ e. steps.alone;
      does = λ given new program params limit f.
          turned_behind given p turn.More (still.still given p a (output out).left f) (still.still given p b (output mid).left f) comes.said steps.said (still.still given p c (output now).left f)
          (comes.does given new program params limit f) (steps.does given new program params (limit_is output told leaves given out mid comes.said comes.tells limit) f);
    }

    pub goes_wants : (t : Turn) (d : Run) (name : List ℕ) → t ≡ turn.WantDocument name → StepsOn output told p (Ok step.Want) b c mid now → GoesOnTo output told p t a d out now
    goes_wants t d name is steps = record {
      said = comes.said ++ steps.said;
      tells = further out mid now comes.said steps.said comes.tells steps.tells;
      alone = λ e. absurd (let no : turn.WantDocument name ≡ turn.More = sym is ∙ e in cc);
      does = λ given new program params limit f.
          subst (λ u. Turned given u (still.still given p a (output out).left f) (comes.said ++ steps.said) (still.still given p d (output now).left f)) (sym is)
          (turned_behind given p (turn.WantDocument name) (still.still given p a (output out).left f) (still.still given p b (output mid).left f) comes.said steps.said (still.still given p d (output now).left f)
          (comes.does given new program params limit f) (still.still given p c (output now).left f, steps.does given new program params (limit_is output told leaves given out mid comes.said comes.tells limit) f));
    }

    -- one that stops
    pub goes_stops : (t : Turn) (s : Stop) → t ≡ turn_of s → StepsOn output told p (Err s) b c mid now → GoesOnTo output told p t a c out now
    goes_stops t s is steps = record {
      said = comes.said ++ steps.said;
      tells = further out mid now comes.said steps.said comes.tells steps.tells;
      alone = λ e. absurd (stop_more s (sym is ∙ e));
      does = λ given new program params limit f.
          subst (λ u. Turned given u (still.still given p a (output out).left f) (comes.said ++ steps.said) (still.still given p c (output now).left f)) (sym is)
          (turned_behind given p (turn_of s) (still.still given p a (output out).left f) (still.still given p b (output mid).left f) comes.said steps.said (still.still given p c (output now).left f)
          (comes.does given new program params limit f) (stops_turned given p s _ steps.said _ _ (steps.does given new program params (limit_is output told leaves given out mid comes.said comes.tells limit) f)));
    }

    -- and one after which it is over
    pub goes_over : (t : Turn) (d : Run) (last : S) → t ≢ turn.More → StepsOn output told p (Ok step.Over) b c mid now → told now last [] → EndsWith p (output now).left t
        → GoesOnTo output told p t a d out last
    goes_over t d last over steps tells ends = record {
      said = comes.said ++ steps.said;
      tells = further out mid last comes.said steps.said comes.tells (subst (λ l. told mid last l) (append-nil steps.said) (further mid now last steps.said [] steps.tells tells));
      alone = λ e. absurd (over e);
      does = λ given new program params limit f.
          let more = steps.does given new program params (limit_is output told leaves given out mid comes.said comes.tells limit) f in
          turned_behind given p t (still.still given p a (output out).left f) (still.still given p b (output mid).left f) comes.said steps.said (still.still given p d (output last).left f)
          (comes.does given new program params limit f)
          (subst (λ l. Turned given t (still.still given p b (output mid).left f) l (still.still given p d (output last).left f)) (append-nil steps.said)
          (turned_behind given p t (still.still given p b (output mid).left f) (Halt (ending_of given (output now).left)) steps.said [] (still.still given p d (output last).left f)
          (same_then more (same_says steps.said (same_equal (flat_code given) (still_over given p c (output now).left f (steps.over refl))))) (ends given program (still.still given p d (output last).left f))));
    }

-- The end of the output.

pub ends_closed : (p : Program) (left : Left) → is_closed left.elements left.held ≡ true → EndsWith p left turn.Ended
ends_closed p left closed given program follows =
    same_equal (flat_code given) (ap (λ b. Halt (if b then Done else fault_at UnclosedResult (group_at given 0))) closed)

pub ends_unclosed : (p : Program) (left : Left) (at : Place) (g : Group) → is_closed left.elements left.held ≡ false → slice_get p.sheet.groups 0 ≡ Some g → g.at ≡ at
    → EndsWith p left (turn_of (fault UnclosedResult at))
ends_unclosed p left at g unclosed root here given program follows =
    let groups : slice_get given.sheet.groups 0 ≡ Some g = ap (λ (s : Sheet). slice_get s.groups 0) (sym program.sheet_is) ∙ root in
    let place : group_at given 0 ≡ at = ap place_of groups ∙ here in
    same_equal (flat_code given)
    (ap (λ b. Halt (if b then Done else fault_at UnclosedResult (group_at given 0))) unclosed ∙ ap (λ at. Halt (fault_at UnclosedResult at)) place)
