-- The children of a node that is passed through are over.
use Rattle.std.proofs.Common.{◌≡◌, ℕ, Bool, true, false, List, [], ◌∷◌, ◌++◌, reverse, Option, Some, None, Result, Ok, Err, refl, ap, sym, subst, ◌∙◌}
use Rattle.std.specs.Prelude.{if◌then◌else◌, slice_get, unwrap_or}
use Rattle.std.proofs.lemmas.List.{append-nil}
use Rattle.stx_base.specs.Course.{Halt, Ret, Same, Say, says}
use Rattle.stx_base.specs.declared.fault.Place.{Place}
use Rattle.stx_base.specs.declared.node.NodeTest.{NodeTest}
use Rattle.stx_base.specs.declared.part.Part.{Part}
use Rattle.stx_base.specs.declared.part.Part.TheVariants as part
use Rattle.stx_base.proofs.Course.{same_equal, same_says, same_then, unfolds}
use Rattle.frame_stack.specs.declared.frame.Frame.{Frame}
use Rattle.frame_stack.specs.declared.frame.Frame.TheVariants.{Pass}
use Rattle.node_stack.specs.Path.{Element, Node, PathNode, is_attribute}
use Rattle.result_writer.specs.Target.{Left, Target}
use Rattle.sheet_model.specs.Passing.{kinds}
use Rattle.sheet_model.specs.declared.sheet.Group.{Group}
use Rattle.sheet_model.specs.declared.sheet.Sheet.{Sheet}
use Rattle.xml_events.specs.Document.{inner, outer}
use Rattle.xml_events.specs.Tree.{Begun, End, Future}
use Rattle.template_machine.specs.Behind.{MovesFrom, StepsFrom, instr_done, list_done, node_done, node_done_in, scene_now}
use Rattle.template_machine.specs.Bodies.{spent_in, takes_events}
use Rattle.template_machine.specs.Ending.{Faulted, Said, Spent}
use Rattle.template_machine.specs.Job.{Does, Given, Here, State, remains, single}
use Rattle.template_machine.specs.Lists.{rest_of}
use Rattle.template_machine.specs.Outcome.{AreNew}
use Rattle.template_machine.specs.Passing.{group_at, kinds_in, parts_behind, parts_if, pass_of, place_of}
use Rattle.template_machine.specs.Programs.{IsProgramOf}
use Rattle.template_machine.specs.Putting.{puts}
use Rattle.template_machine.specs.Saying.{GoesAs, Proceeds, Puts}
use Rattle.template_machine.specs.Still as still
use Rattle.template_machine.specs.Still.{Lists, Returns, Scene, first_node, nodes_of}
use Rattle.template_machine.specs.Stepwise.{Flat_does, flat_code, lifted}
use Rattle.template_machine.specs.Well.{is_again}
use Rattle.template_machine.specs.declared.program.Program.{Program}
use Rattle.template_machine.specs.declared.run.Run.{Run}
use Rattle.template_machine.specs.declared.run.Step.{Step}
use Rattle.template_machine.specs.declared.run.Step.TheVariants as step
use Rattle.template_machine.specs.declared.source.Ahead.TheVariants as ahead
use Rattle.template_machine.specs.declared.stop.Stop.{Stop}
use Rattle.template_machine.specs.declared.stop.Stop.TheVariants as stop
use Rattle.template_machine.proofs.Behind.{gone_on}

pub lifted_says : (said : List Said) (x : Does) (k : Here → Flat_does) → lifted (says said x) k ≡ says said (lifted x k)
lifted_says [] x k = refl
lifted_says (o ∷ said) x k = ap (Say o) (lifted_says said x k)

module _ (given : Given) (p : Program) where
  -- behind the parts that end the node
  abbrev pub behind : (again : Bool) → List Frame → Scene → Future → State → Flat_does
  behind again gs c f st =
      if again
      then still.rest given p Returns [] gs c (outer f) (still.siblings_of given p (rest_of c.nodes) f st)
      else still.rest given p Lists [] gs (still.node_over c) (outer f) (still.siblings_of given p (rest_of c.nodes) f st)

  abbrev pub ends_with : List Part → Place → State → (State → Flat_does) → Flat_does
  ends_with parts at st k = lifted (puts given at parts st (λ st. Ret (single st))) (λ b. k b.state)

  pub pass_list : (base level : ℕ) (spent : Bool) (gs : List Frame) (c : Scene) (f : Future) (earlier : NodeTest → ℕ) (st : State)
      → Same (flat_code given) (still.rest given p Lists [] (Pass base level spent ∷ gs) c f (remains (record { earlier = earlier; coming = End Begun 0 }) st))
      (ends_with (parts_behind (kinds_in given base) (first_node c.nodes)) (group_at given base) st (behind (is_again level gs) gs c f))
  pass_list base level spent gs c f earlier st = unfolds (flat_code given) _ _ refl

  -- another body goes on with the node, or the node is over
  pub behind_again : (m : Run) (left : Left) (f : Future) → m.source.ahead ≡ ahead.Nothing → spent_in (reverse m.frames.frames) ≡ Some true
      → is_attribute (Some (first_node (scene_now given p m).nodes)) ≡ false
      → behind true (reverse m.frames.frames) (scene_now given p m) f (still.state_of given p m left) ≡ instr_done given p m left f
  behind_again m left f unknown spent node =
      let fs = reverse m.frames.frames in
      let c = scene_now given p m in
      let st = still.state_of given p m left in
      sym
      (ap (λ h. still.goes_on_at given p (unwrap_or (spent_in fs) true) (first_node c.nodes) (rest_of c.nodes) (still.known_before given p h (nodes_of m.source) (still.held_of given p m) f) (λ f. still.rest given p Returns [] fs c f) st) unknown
      ∙ ap (λ o. still.goes_on_at given p (unwrap_or o true) (first_node c.nodes) (rest_of c.nodes) f (λ f. still.rest given p Returns [] fs c f) st) spent
      ∙ gone_on given p true (first_node c.nodes) (rest_of c.nodes) f (λ f. still.rest given p Returns [] fs c f) st node refl)

  pub behind_node : (m : Run) (left : Left) (f : Future) → m.source.ahead ≡ ahead.Nothing → takes_events (reverse m.frames.frames) ≡ true
      → behind false (reverse m.frames.frames) (scene_now given p m) f (still.state_of given p m left) ≡ node_done given p m left f
  behind_node m left f unknown takes =
      let fs = reverse m.frames.frames in
      let c = scene_now given p m in
      let st = still.state_of given p m left in
      ap (λ h. still.rest given p Lists [] fs (still.node_over c) (outer (still.known_before given p h (nodes_of m.source) (still.held_of given p m) f))
      (still.siblings_of given p (rest_of c.nodes) (still.known_before given p h (nodes_of m.source) (still.held_of given p m) f) st)) (sym unknown)
      ∙ ap (λ b. node_done_in given p b fs m left f) (sym takes)

  -- the list of a node that is passed through is over
  pub pass_done : (r m : Run) (base level : ℕ) (spent : Bool) (left : Left) (f : Future) → reverse r.frames.frames ≡ Pass base level spent ∷ reverse m.frames.frames
      → m ≡ record r { frames = m.frames; putting = m.putting }
      → Same (flat_code given) (list_done given p r left f)
      (ends_with (parts_behind (kinds_in given base) (first_node (scene_now given p r).nodes)) (group_at given base) (still.state_of given p r left)
      (behind (is_again level (reverse m.frames.frames)) (reverse m.frames.frames) (scene_now given p m) f))
  pass_done r m base level spent left f before rest =
      let c = scene_now given p r in
      let st = still.state_of given p r left in
      let gs = reverse m.frames.frames in
      same_then
      (same_equal (flat_code given) (ap (λ fs. still.rest given p Lists [] fs c f (remains (record { earlier = still.counts_of c.nodes; coming = End Begun 0 }) st)) before))
      (same_then (pass_list base level spent gs c f (still.counts_of c.nodes) st)
      (same_equal (flat_code given)
      (sym (ap (λ (x : Run). ends_with (parts_behind (kinds_in given base) (first_node c.nodes)) (group_at given base) st (behind (is_again level gs) gs (scene_now given p x) f)) rest))))

-- what was said is said first
pub proceeds_on : (given : Given) (p : Program) (result : Result Step Stop) (x y : Flat_does) (said : List Said) (follows : Flat_does) → Same (flat_code given) x (says said y)
    → Proceeds given p result y [] follows → Proceeds given p result x said follows
proceeds_on given p (Ok done) x y said follows first goes = same_then first (same_says said goes)
proceeds_on given p (Err (stop.Fault fault)) x y said follows first goes = same_then first (same_says said goes)
proceeds_on given p (Err (stop.Spent at)) x y said follows first goes = same_then first (same_says said goes)
proceeds_on given p (Err stop.Memory) x y said follows first goes = (goes.0, same_then first (same_says said goes.1))

module _ {S : Type 0} (output : S → Target) (told : S → S → List Said → Type 0) (p : Program) where
  -- what a method puts, and then what a step does behind it
  pub put_first : (was now : Given → Left → Future → Flat_does) (r m : Run) (parts : Given → List Part) (at : Given → Place) (place : Place) (all : List Part) (result : Result Step Stop) (s : Run)
      (out mid : S) → Puts {A = Unit {0}} output told place all (Ok tt) r.putting m.putting out mid → m ≡ record r { frames = m.frames; putting = m.putting }
      → ((given : Given) → IsProgramOf given.sheet given.limits p → (parts given ≡ all) × (at given ≡ place))
      → (k : Given → Future → State → Flat_does)
      → ((given : Given) → IsProgramOf given.sheet given.limits p → (left : Left) (f : Future) → Same (flat_code given) (was given left f) (ends_with given p (parts given) (at given) (still.state_of given p r left) (k given f)))
      → ((given : Given) → (left : Left) (f : Future) → k given f (still.state_of given p m left) ≡ now given left f)
      → MovesFrom p now result s → StepsFrom output told p was result s out mid
  put_first was now r m parts at place all result s out mid puts_so rest are k first then_so moves = record {
    said = puts_so.said;
    tells = puts_so.tells;
    alone = moves.alone;
    over = moves.over;
    does = λ given new program params limit f.
        let left = (output out).left in
        let left_now = (output mid).left in
        let st = still.state_of given p r left in
        let they = are given program in
        let put = puts_so.does given limit st (λ st. Ret (single st)) in
        let moved : still.state_of given p m left_now ≡ record st { buffers = m.putting.buffers; targets = reverse m.putting.targets; result = left_now } =
        ap (λ (x : Run). still.state_of given p x left_now) rest in
        proceeds_on given p result (was given left f) (now given left_now f) puts_so.said (still.still given p s left_now f)
        (same_then (first given program left f)
        (same_equal (flat_code given)
        (ap (λ ps. ends_with given p ps (at given) st (k given f)) they.0 ∙ ap (λ pl. ends_with given p all pl st (k given f)) they.1
        ∙ ap (λ x. lifted x (λ b. k given f b.state)) put
        ∙ lifted_says puts_so.said (Ret (single (record st { buffers = m.putting.buffers; targets = reverse m.putting.targets; result = left_now }))) (λ b. k given f b.state)
        ∙ ap (λ x. says puts_so.said (k given f x)) (sym moved) ∙ ap (says puts_so.said) (then_so given left_now f))))
        (moves.does given new program left_now f);
  }

  module _ (r m : Run) (base level : ℕ) (spent : Bool) (g : Group) (n : Node) (before : reverse r.frames.frames ≡ Pass base level spent ∷ reverse m.frames.frames)
      (rest : m ≡ record r { frames = m.frames; putting = m.putting }) (unknown : r.source.ahead ≡ ahead.Nothing) (is : slice_get p.sheet.groups base ≡ Some g)
      (first : first_node (nodes_of r.source) ≡ n) (out mid : S) (puts_so : Puts {A = Unit {0}} output told g.at (parts_behind (kinds g.pass) n) (Ok tt) r.putting m.putting out mid) where
    group_is : (given : Given) → IsProgramOf given.sheet given.limits p → slice_get given.sheet.groups base ≡ Some g
    group_is given program = ap (λ (s : Sheet). slice_get s.groups base) (sym program.sheet_is) ∙ is

    node_is : (given : Given) → first_node (scene_now given p r).nodes ≡ n
    node_is given = ap (λ h. first_node (still.path_before given p h (nodes_of r.source))) unknown ∙ first

    parts_are : (given : Given) → IsProgramOf given.sheet given.limits p
        → (parts_behind (kinds_in given base) (first_node (scene_now given p r).nodes) ≡ parts_behind (kinds g.pass) n) × (group_at given base ≡ g.at)
    parts_are given program = (
      ap (λ x. parts_behind (kinds_in given base) x) (node_is given) ∙ ap (λ o. parts_behind (pass_of given o) n) (group_is given program),
      ap place_of (group_is given program),
    )

    pub pass_moves : (now : Given → Left → Future → Flat_does) (result : Result Step Stop) (s : Run)
        → ((given : Given) (left : Left) (f : Future) → behind given p (is_again level (reverse m.frames.frames)) (reverse m.frames.frames) (scene_now given p m) f (still.state_of given p m left) ≡ now given left f)
        → MovesFrom p now result s → StepsFrom output told p (λ given left f. list_done given p r left f) result s out mid
    pass_moves now result s then_so moves =
        put_first (λ given left f. list_done given p r left f) now r m (λ given. parts_behind (kinds_in given base) (first_node (scene_now given p r).nodes)) (λ given. group_at given base) g.at (parts_behind (kinds g.pass) n) result s
        out mid puts_so rest parts_are (λ given f st. behind given p (is_again level (reverse m.frames.frames)) (reverse m.frames.frames) (scene_now given p m) f st)
        (λ given program left f. pass_done given p r m base level spent left f before rest) then_so moves

    pub pass_moves_again : (result : Result Step Stop) (s : Run) → is_again level (reverse m.frames.frames) ≡ true → spent_in (reverse m.frames.frames) ≡ Some true → is_attribute (Some n) ≡ false
        → MovesFrom p (λ given left f. instr_done given p m left f) result s → StepsFrom output told p (λ given left f. list_done given p r left f) result s out mid
    pass_moves_again result s again gone node moves =
        pass_moves (λ given left f. instr_done given p m left f) result s
        (λ given left f.
        ap (λ b. behind given p b (reverse m.frames.frames) (scene_now given p m) f (still.state_of given p m left)) again
        ∙ behind_again given p m left f (ap (λ (x : Run). x.source.ahead) rest ∙ unknown) gone
        (ap (λ (x : Run). is_attribute (Some (first_node (scene_now given p x).nodes))) rest ∙ ap (λ x. is_attribute (Some x)) (node_is given) ∙ node)) moves

    pub pass_moves_node : (result : Result Step Stop) (s : Run) → is_again level (reverse m.frames.frames) ≡ false → takes_events (reverse m.frames.frames) ≡ true
        → MovesFrom p (λ given left f. node_done given p m left f) result s → StepsFrom output told p (λ given left f. list_done given p r left f) result s out mid
    pass_moves_node result s apart takes moves =
        pass_moves (λ given left f. node_done given p m left f) result s
        (λ given left f.
        ap (λ b. behind given p b (reverse m.frames.frames) (scene_now given p m) f (still.state_of given p m left)) apart
        ∙ behind_node given p m left f (ap (λ (x : Run). x.source.ahead) rest ∙ unknown) takes) moves

-- where a part isn't put, or memory is wanting
pub stops_first : (given : Given) (p : Program) (e : Stop) (x : Flat_does) (y : Does) (go : Does) (k : Here → Flat_does) (said : List Said) (follows : Flat_does) → Same (flat_code given) x (lifted y k)
    → GoesAs {A = Unit {0}} (Err e) y said go → Proceeds given p {A = Step} (Err e) x said follows
stops_first given p (stop.Fault fault) x y go k said follows first put =
    same_then first (same_equal (flat_code given) (ap (λ z. lifted z k) put ∙ lifted_says said (Halt (Faulted fault)) k))
stops_first given p (stop.Spent at) x y go k said follows first put =
    same_then first (same_equal (flat_code given) (ap (λ z. lifted z k) put ∙ lifted_says said (Halt (Spent at)) k))
stops_first given p stop.Memory x y go k said follows first put =
    (lifted put.0 k, same_then first (same_equal (flat_code given) (ap (λ z. lifted z k) put.1 ∙ lifted_says said put.0 k)))

module _ {S : Type 0} (output : S → Target) (told : S → S → List Said → Type 0) (p : Program) (r m : Run) (base level : ℕ) (spent : Bool) (g : Group) (n : Node) (before : reverse r.frames.frames ≡ Pass base level spent ∷ reverse m.frames.frames)
    (rest : m ≡ record r { frames = m.frames; putting = m.putting }) (unknown : r.source.ahead ≡ ahead.Nothing) (is : slice_get p.sheet.groups base ≡ Some g) (first : first_node (nodes_of r.source) ≡ n) where
  pub pass_stops : (e : Stop) (out mid : S) → Puts {A = Unit {0}} output told g.at (parts_behind (kinds g.pass) n) (Err e) r.putting m.putting out mid
      → StepsFrom output told p (λ given left f. list_done given p r left f) (Err e) m out mid
  pass_stops e out mid puts_so = record {
    said = puts_so.said;
    tells = puts_so.tells;
    alone = tt;
    over = λ x. absurd (cc);
    does = λ given new program params limit f.
        let st = still.state_of given p r (output out).left in
        let group : slice_get given.sheet.groups base ≡ Some g = ap (λ (s : Sheet). slice_get s.groups base) (sym program.sheet_is) ∙ is in
        let node : first_node (scene_now given p r).nodes ≡ n = ap (λ h. first_node (still.path_before given p h (nodes_of r.source))) unknown ∙ first in
        let k : Here → Flat_does = λ b. behind given p (is_again level (reverse m.frames.frames)) (reverse m.frames.frames) (scene_now given p m) f b.state in
        stops_first given p e (list_done given p r (output out).left f) (puts given g.at (parts_behind (kinds g.pass) n) st (λ st. Ret (single st))) _ k puts_so.said
        (still.still given p m (output mid).left f)
        (same_then (pass_done given p r m base level spent (output out).left f before rest)
        (same_equal (flat_code given)
        (ap (λ x. lifted (puts given (group_at given base) (parts_behind (kinds_in given base) x) st (λ st. Ret (single st))) k) node
        ∙ ap (λ o. lifted (puts given (place_of o) (parts_behind (pass_of given o) n) st (λ st. Ret (single st))) k) group)))
        (puts_so.does given limit st (λ st. Ret (single st)));
  }
