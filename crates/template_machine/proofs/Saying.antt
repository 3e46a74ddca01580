-- What methods that put do, by what they call.
use Rattle.std.proofs.Common.{◌≡◌, ◌≢◌, ℕ, ◌+◌, true, false, List, [], ◌∷◌, ◌++◌, Option, Some, None, Result, Ok, Err, reverse, refl, ap, sym, subst, ◌∙◌}
use Rattle.std.specs.Prelude.{IfErr, IsErrAnd, OnOk}
use Rattle.std.specs.Result.{result_map_both}
use Rattle.stx_base.specs.Course.{Course, Halt, Ret, Say, says}
use Rattle.stx_base.proofs.Course.{says_says}
use Rattle.stx_base.specs.declared.fault.Place.{Place}
use Rattle.stx_base.specs.declared.fault.RunCode.TheVariants as run_code
use Rattle.stx_base.specs.declared.name.Binding.{Binding}
use Rattle.stx_base.specs.declared.name.Name.{Name}
use Rattle.stx_base.specs.declared.part.Part.{Part}
use Rattle.stx_base.specs.declared.part.Part.TheVariants as part
use Rattle.event_buffers.specs.Buffers.{is_written, on_buffer, on_first, refusal_at}
use Rattle.event_buffers.specs.Layer.{with_part}
use Rattle.event_buffers.specs.Layer as layer
use Rattle.event_buffers.specs.declared.fault.BufferFault.{BufferFault}
use Rattle.event_buffers.specs.declared.fault.BufferFault.TheVariants as buffer
use Rattle.frame_stack.specs.Change.{with_pc}
use Rattle.frame_stack.specs.Stack.{FrameStack}
use Rattle.result_writer.specs.Target as writing
use Rattle.result_writer.specs.Target.{Left, Target, next}
use Rattle.result_writer.specs.declared.fault.WriteStop.{WriteStop}
use Rattle.result_writer.specs.declared.fault.WriteStop.TheVariants as write
use Rattle.sheet_model.specs.Parts.{place}
use Rattle.sheet_model.specs.declared.instr.Content.{Content}
use Rattle.sheet_model.specs.declared.instr.Instr.{Instr}
use Rattle.sheet_model.specs.declared.instr.Instr.TheOpen.{Instr-F}
use Rattle.sheet_model.specs.declared.instr.Instr.TheVariants as instr
use Rattle.sheet_model.specs.declared.instr.Instr.TheViews.{out-Instr, roll-Instr, rolls-Attribute, rolls-Chars, rolls-Comment, rolls-EndElement, rolls-LiteralChars, rolls-Message, rolls-StartElement, rolls-ValueOf}
use Rattle.sheet_model.specs.declared.instr.When.{When}
use Rattle.node_stack.specs.Path.{Path}
use Rattle.stxpath_eval.specs.Setting.{Setting}
use Rattle.stxpath_eval.specs.Value.{value}
use Rattle.stxpath_syntax.specs.declared.expr.Avt.{Avt}
use Rattle.stxpath_syntax.specs.declared.expr.Expr.{Expr}
use Rattle.stxpath_values.specs.Outcome as outcome
use Rattle.stxpath_values.specs.Outcome.{IsAnswer}
use Rattle.stxpath_values.specs.declared.fault.EvalFault.{EvalFault}
use Rattle.stxpath_values.specs.declared.fault.EvalStop.{EvalStop}
use Rattle.stxpath_values.specs.declared.fault.EvalStop.TheVariants as eval
use Rattle.template_machine.specs.Acting.{acts, named, put_parts}
use Rattle.template_machine.specs.Alike.{LooksLike, along_path}
use Rattle.template_machine.specs.Bodies.{on_body}
use Rattle.template_machine.specs.Ending.{Ending, Faulted, Note, Put, Said, Spent, fault_at}
use Rattle.template_machine.specs.Job.{Does, Given, Here, Self, State, with_state}
use Rattle.template_machine.specs.Putting.{kept_in, put_in, put_out, put_to, puts, text_parts, unless_fault, unless_refused}
use Rattle.template_machine.specs.Puts.{first_target}
use Rattle.template_machine.specs.Saying.{Acts, Gave, GivesText, GoesAs, Passes, NamesAs, Puts, SeesAs, Yields, attribute_at, comment_at, end_at, message_at, placed, sight, start_at, value_at}
use Rattle.template_machine.specs.Sinks.{Takes, behind_all}
use Rattle.template_machine.specs.Still.{state_of}
use Rattle.template_machine.specs.Stops.{by_buffer, by_expression, by_part}
use Rattle.template_machine.specs.Values.{computed_name, content_text, got, items_text, namespace_text, setting, space, template_text, template_text_or}
use Rattle.template_machine.specs.declared.program.Program.{Program}
use Rattle.template_machine.specs.declared.putting.Putting.{Putting}
use Rattle.template_machine.specs.declared.run.Run.{Run}
use Rattle.template_machine.specs.declared.stop.Stop.{Stop}
use Rattle.template_machine.specs.declared.stop.Stop.TheVariants as stop
use Rattle.template_machine.proofs.Alike.{both_alike, expressions_see_nodes}
use Rattle.template_machine.proofs.Sighted.{texts_see_nodes}
use Rattle.template_machine.proofs.Sighting.{sees_behind}
use Rattle.template_machine.proofs.Spelled.{out_is}

-- the answer b in place of another
abbrev pub answered : {A B E : Type 0} → Result A E → B → Result B E
answered (Ok a) b = Ok b
answered (Err e) b = Err e

-- the error of a `?`
pub stops_with : {A : Type 0} (r : Result A Stop) (e : Stop) → IsErrAnd r (λ s. s ≡ e) → r ≡ Err e
stops_with (Ok a) e h = absurd h
stops_with (Err s) e h = ap Err h

-- nothing else was matched
pub none_there : {A : Type 0} (o : Option A) → ((x : A) → o ≡ Some x → ⊥) → o ≡ None
none_there None none = refl
none_there (Some x) none = absurd (none x refl)

-- one after another
pub goes_further : {Q R A : Type 0} (r : Result A Stop) (x y z : Course Q R Said Ending) (m n : List Said) → x ≡ says m y → GoesAs r y n z → GoesAs r x (m ++ n) z
goes_further (Ok a) x y z m n first then_goes = first ∙ ap (says m) then_goes ∙ sym (says_says m n z)
goes_further (Err (stop.Fault f)) x y z m n first then_goes = first ∙ ap (says m) then_goes ∙ sym (says_says m n (Halt (Faulted f)))
goes_further (Err (stop.Spent at)) x y z m n first then_goes = first ∙ ap (says m) then_goes ∙ sym (says_says m n (Halt (Spent at)))
goes_further (Err stop.Memory) x y z m n first then_goes = (then_goes.0, first ∙ ap (says m) then_goes.1 ∙ sym (says_says m n then_goes.0))

-- a part that goes into a buffer
pub kept_goes : {A : Type 0} (id : ℕ) (at : Place) (p : Part) (old new : Putting) (r : Result A BufferFault)
    → OnOk r (new.buffers ≡ on_buffer (on_first is_written (with_part p)) id old.buffers) → OnOk r (refusal_at old.buffers id p ≡ None)
    → IfErr r (layer.IsCause (refusal_at old.buffers id p)) → new.targets ≡ old.targets
    → (left : Left) (st : State) (go : State → Does)
    → GoesAs (result_map_both (λ done. done) (by_buffer at) r) (put_in id at p (placed old left st) go) [] (go (placed new left st))
kept_goes id at p old new (Ok done) buffers none cause targets left st go =
    let after : State = kept_in id p (placed old left st) in
    ap (λ o. unless_refused o at (go after)) none
    ∙ ap (λ b. go (record st { buffers = b; targets = reverse old.targets; result = left })) (sym buffers)
    ∙ ap (λ t. go (record st { buffers = new.buffers; targets = reverse t; result = left })) (sym targets)
kept_goes id at p old new (Err buffer.Busy) buffers none cause targets left st go =
    ap (λ o. unless_refused o at (go (kept_in id p (placed old left st)))) cause
kept_goes id at p old new (Err buffer.Full) buffers none cause targets left st go =
    ap (λ o. unless_refused o at (go (kept_in id p (placed old left st)))) cause
kept_goes id at p old new (Err (buffer.Result f)) buffers none cause targets left st go =
    ap (λ o. unless_refused o at (go (kept_in id p (placed old left st)))) cause
kept_goes id at p old new (Err buffer.Memory) buffers none cause targets left st go = (put_in id at p (placed old left st) go, refl)

-- a text that isn't empty is one part
pub text_is : (text : List ℕ) → text ≢ [] → text_parts text ≡ part.Chars text ∷ []
text_is [] some = absurd (some refl)
text_is (c ∷ cs) some = refl

-- where parts go

pub to_buffer : (given : Given) (id : ℕ) (l : List ℕ) (at : Place) (p : Part) (st : State) (go : State → Does) → first_target l ≡ Some id
    → put_to given l at p st go ≡ put_in id at p st go
to_buffer given id [] at p st go e = absurd (cc)
to_buffer given id (x ∷ l) at p st go e = let same : x ≡ id = cc in ap (λ n. put_in n at p st go) same

pub to_output : (given : Given) (l : List ℕ) (at : Place) (p : Part) (st : State) (go : State → Does) → first_target l ≡ None
    → put_to given l at p st go ≡ unless_fault (writing.fault given.limits.elements st.result p) at (Say (Put p) (go (put_out p st)))
to_output given [] at p st go e = refl
to_output given (x ∷ l) at p st go e = absurd (cc)

-- What an expression gives.

pub gave_by : {A : Type 0} (at : Place) (r : Result A EvalStop) (v : Result A EvalFault) → IsAnswer r v → Gave at (result_map_both (λ x. x) (by_expression at) r) v
gave_by at (Ok x) v h = h
gave_by at (Err (eval.Fault f)) v h = (f, (h, refl))
gave_by at (Err eval.Memory) v h = tt

pub content_seen : (given : Given) (p : Program) (r : Run) (self : Self) (a : Here) (c : Content) → SeesAs given p r self a
    → content_text c (setting given self a) ≡ content_text c (sight p r)
content_seen given p r self a c sees = ap (content_text c) sees.is ∙ sym (texts_see_nodes.contents c (sight p r) sees.way sees.alike)

pub template_seen : (given : Given) (p : Program) (r : Run) (self : Self) (a : Here) (t : Avt) → SeesAs given p r self a
    → template_text t (setting given self a) ≡ template_text t (sight p r)
template_seen given p r self a t sees = ap (template_text t) sees.is ∙ sym (texts_see_nodes.templates t (sight p r) sees.way sees.alike)

pub namespace_seen : (given : Given) (p : Program) (r : Run) (self : Self) (a : Here) (t : Option Avt) → SeesAs given p r self a
    → namespace_text t (setting given self a) ≡ namespace_text t (sight p r)
namespace_seen given p r self a t sees = ap (namespace_text t) sees.is ∙ sym (texts_see_nodes.namespaces t (sight p r) sees.way sees.alike)

-- it stops where a value wasn't given
pub got_yields : {A : Type 0} (B : Type 0) (e : Stop) (at : Place) (v w : Result A EvalFault) (go : A → Does) (k : B → Does) → v ≡ w → Gave at (Err e) w → Yields (Err e) (got at v go) k
got_yields B (stop.Fault fault) at v w go k same gave = ap (λ x. got at x go) (same ∙ gave.1.0) ∙ ap (λ x. Halt (Faulted x)) (sym gave.1.1)
got_yields B (stop.Spent where_now) at v w go k same gave = absurd gave
got_yields B stop.Memory at v w go k same gave = tt

pub yields_by : {B : Type 0} (r : Result B Stop) (x y : Does) (k : B → Does) → x ≡ y → Yields r y k → Yields r x k
yields_by (Ok b) x y k same h = same ∙ h
yields_by (Err (stop.Fault fault)) x y k same h = same ∙ h
yields_by (Err (stop.Spent at)) x y k same h = same ∙ h
yields_by (Err stop.Memory) x y k same h = tt

pub no_name_yet : (at : Place) (name : Avt) (namespace : Option Avt) (scope : List Binding) (p : Program) (r : Run) (e : Stop) → Gave {A = List ℕ} at (Err e) (template_text name (sight p r))
    → NamesAs at name namespace scope p r (Err e)
no_name_yet at name namespace scope p r e gave = λ given self a sees go.
    got_yields Name e at (template_text name (setting given self a)) (template_text name (sight p r)) _ go (template_seen given p r self a name sees) gave

name_then : (at : Place) (name : Avt) (namespace : Option Avt) (scope : List Binding) (p : Program) (r : Run) (text : List ℕ) (given : Given) (self : Self) (a : Here) (go : Name → Does)
    → SeesAs given p r self a → template_text name (sight p r) ≡ Ok text
    → named given at true name namespace scope self a go
    ≡ got at (namespace_text namespace (setting given self a)) (λ uri. elim (computed_name true scope uri text) [ None ↦ Halt (fault_at run_code.BadName at) | Some n ↦ go n ])
name_then at name namespace scope p r text given self a go sees gave =
    ap (λ v. got at v (λ t. got at (namespace_text namespace (setting given self a)) (λ uri. elim (computed_name true scope uri t) [ None ↦ Halt (fault_at run_code.BadName at) | Some n ↦ go n ])))
    (template_seen given p r self a name sees ∙ gave)

pub no_namespace : (at : Place) (name : Avt) (namespace : Option Avt) (scope : List Binding) (p : Program) (r : Run) (text : List ℕ) (e : Stop) → template_text name (sight p r) ≡ Ok text
    → Gave {A = Option (List ℕ)} at (Err e) (namespace_text namespace (sight p r)) → NamesAs at name namespace scope p r (Err e)
no_namespace at name namespace scope p r text e first gave = λ given self a sees go.
    yields_by (Err e) _ _ go (name_then at name namespace scope p r text given self a go sees first)
    (got_yields Name e at (namespace_text namespace (setting given self a)) (namespace_text namespace (sight p r)) _ go (namespace_seen given p r self a namespace sees) gave)

name_made : (at : Place) (name : Avt) (namespace : Option Avt) (scope : List Binding) (p : Program) (r : Run) (text : List ℕ) (uri : Option (List ℕ)) (made : Option Name) (given : Given) (self : Self) (a : Here) (go : Name → Does)
    → SeesAs given p r self a → template_text name (sight p r) ≡ Ok text → namespace_text namespace (sight p r) ≡ Ok uri → made ≡ computed_name true scope uri text
    → named given at true name namespace scope self a go ≡ elim made [ None ↦ Halt (fault_at run_code.BadName at) | Some n ↦ go n ]
name_made at name namespace scope p r text uri made given self a go sees first second is =
    name_then at name namespace scope p r text given self a go sees first
    ∙ ap (λ v. got at v (λ u. elim (computed_name true scope u text) [ None ↦ Halt (fault_at run_code.BadName at) | Some n ↦ go n ])) (namespace_seen given p r self a namespace sees ∙ second)
    ∙ ap (λ (m : Option Name). elim m [ None ↦ Halt (fault_at run_code.BadName at) | Some n ↦ go n ]) (sym is)

pub names_as : (at : Place) (name : Avt) (namespace : Option Avt) (scope : List Binding) (p : Program) (r : Run) (text : List ℕ) (uri : Option (List ℕ)) (n : Name)
    → template_text name (sight p r) ≡ Ok text → namespace_text namespace (sight p r) ≡ Ok uri → Some n ≡ computed_name true scope uri text → NamesAs at name namespace scope p r (Ok n)
names_as at name namespace scope p r text uri n first second is = λ given self a sees go. name_made at name namespace scope p r text uri (Some n) given self a go sees first second is

pub names_nothing : (at : Place) (name : Avt) (namespace : Option Avt) (scope : List Binding) (p : Program) (r : Run) (text : List ℕ) (uri : Option (List ℕ))
    → template_text name (sight p r) ≡ Ok text → namespace_text namespace (sight p r) ≡ Ok uri → None ≡ computed_name true scope uri text
    → NamesAs at name namespace scope p r (Err (stop.Fault (record { code = run_code.BadName; at = at })))
names_nothing at name namespace scope p r text uri first second is = λ given self a sees go. name_made at name namespace scope p r text uri None given self a go sees first second is

-- the text of a value, its items with a separator between, which is asked for behind them
abbrev pub whole_text : Expr → Option Avt → Setting → Result (List ℕ) EvalFault
whole_text select separator g = outcome.and_then (value select g) (λ items. outcome.and_then (template_text_or space separator g) (λ between. items_text g between items))

got_twice : {A B : Type 0} (at : Place) (v : Result A EvalFault) (f : A → Result B EvalFault) (go : B → Does) → got at v (λ x. got at (f x) go) ≡ got at (outcome.and_then v f) go
got_twice at (Ok x) f go = refl
got_twice at (Err fault) f go = refl

got_alike : {A : Type 0} (at : Place) (v : Result A EvalFault) (f k : A → Does) → ((x : A) → f x ≡ k x) → got at v f ≡ got at v k
got_alike at (Ok x) f k e = e x
got_alike at (Err fault) f k e = refl

value_is : (given : Given) (self : Self) (a : Here) (select : Expr) (separator : Option Avt) (at : Place)
    → acts given (value_at select separator at) self a ≡ got at (whole_text select separator (setting given self a)) (λ t. put_parts given at (text_parts t) a)
value_is given self a select separator at =
    let g = setting given self a in
    let go : List ℕ → Does = λ t. put_parts given at (text_parts t) a in
    got_alike at (value select g) (λ items. got at (template_text_or space separator g) (λ between. got at (items_text g between items) go))
    (λ items. got at (outcome.and_then (template_text_or space separator g) (λ between. items_text g between items)) go)
    (λ items. got_twice at (template_text_or space separator g) (λ between. items_text g between items) go)
    ∙ got_twice at (value select g) (λ items. outcome.and_then (template_text_or space separator g) (λ between. items_text g between items)) go

whole_alike : (g : Setting) (way : Path) (l : LooksLike g way) (select : Expr) (separator : Option Avt) → whole_text select separator g ≡ whole_text select separator (along_path way g)
whole_alike g way l select separator =
    both_alike (value select g) (value select (along_path way g)) _ _ (expressions_see_nodes select g way l)
    (λ items. both_alike (template_text_or space separator g) (template_text_or space separator (along_path way g)) _ _ (or_alike separator) (λ between. texts_see_nodes.items between items g way l))
  where
    or_alike : (t : Option Avt) → template_text_or space t g ≡ template_text_or space t (along_path way g)
    or_alike None = refl
    or_alike (Some t) = texts_see_nodes.templates t g way l

whole_seen : (given : Given) (p : Program) (r : Run) (self : Self) (a : Here) (select : Expr) (separator : Option Avt) → SeesAs given p r self a
    → whole_text select separator (setting given self a) ≡ whole_text select separator (sight p r)
whole_seen given p r self a select separator sees = ap (whole_text select separator) sees.is ∙ sym (whole_alike (sight p r) sees.way sees.alike select separator)

pub yields_stops : {A : Type 0} (B : Type 0) (e : Stop) (x y : Does) (go : A → Does) → Yields (Err e) x go → GoesAs {A = B} (Err e) x [] y
yields_stops B (stop.Fault fault) x y go h = h
yields_stops B (stop.Spent at) x y go h = h
yields_stops B stop.Memory x y go h = (x, refl)

got_stops : {A : Type 0} (B : Type 0) (e : Stop) (at : Place) (v : Result A EvalFault) (go : A → Does) (y : Does) → Gave at (Err e) v → GoesAs {A = B} (Err e) (got at v go) [] y
got_stops B (stop.Fault fault) at v go y gave = ap (λ x. got at x go) gave.1.0 ∙ ap (λ x. Halt (Faulted x)) (sym gave.1.1)
got_stops B (stop.Spent where_now) at v go y gave = absurd gave
got_stops B stop.Memory at v go y gave = (got at v go, refl)

module _ {S : Type 0} (output : S → Target) (told : S → S → List Said → Type 0) where
  -- nothing is put
  pub puts_nothing : {A : Type 0} → ((s : S) → told s s []) → (at : Place) (parts : List Part) (done : A) (p : Putting) (out : S) → parts ≡ []
      → Puts output told at parts (Ok done) p p out out
  puts_nothing nothing at parts done p out none = record {
    said = [];
    tells = nothing out;
    does = λ given limit st go. ap (λ l. puts given at l (placed p (output out).left st) go) none;
  }

  -- memory is wanted before
  pub puts_not : {A : Type 0} → ((s : S) → told s s []) → (at : Place) (parts : List Part) (old new : Putting) (out : S)
      → Puts {A = A} output told at parts (Err stop.Memory) old new out out
  puts_not nothing at parts old new out = record {
    said = [];
    tells = nothing out;
    does = λ given limit st go. (puts given at parts (placed old (output out).left st) go, refl);
  }

  -- a part goes into the innermost buffer that is written
  pub puts_in : {A : Type 0} → ((s : S) → told s s []) → (id : ℕ) (at : Place) (p : Part) (r : Result A Stop) (old new : Putting) (out : S)
      → first_target (reverse old.targets) ≡ Some id
      → ((left : Left) (st : State) (go : State → Does) → GoesAs r (put_in id at p (placed old left st) go) [] (go (placed new left st)))
      → Puts output told at (p ∷ []) r old new out out
  puts_in nothing id at p r old new out there keeps = record {
    said = [];
    tells = nothing out;
    does = λ given limit st go.
        subst (λ x. GoesAs r x [] (go (placed new (output out).left st)))
        (sym (to_buffer given id (reverse old.targets) at p (placed old (output out).left st) go there)) (keeps (output out).left st go);
  }

  -- a part is told to a sink
  pub puts_out : {A : Type 0} → ((a b : S) (said : List Said) → told a b said → output b ≡ behind_all (output a) said) → (at : Place) (p : Part)
      → (r : Result A WriteStop) (putting : Putting) (out out_now : S) → Takes output told p r out out_now → first_target (reverse putting.targets) ≡ None
      → Puts output told at (p ∷ []) (result_map_both (λ done. done) (by_part at) r) putting putting out out_now
  puts_out leaves at p (Ok done) putting out out_now t none = record {
    said = Put p ∷ [];
    tells = t.said;
    does = λ given limit st go.
        let before : State = placed putting (output out).left st in
        let now : next (output out).left p ≡ (output out_now).left = sym (ap (λ (x : Target). x.left) (leaves out out_now (Put p ∷ []) t.said)) in
        to_output given (reverse putting.targets) at p before go none
        ∙ ap (λ n. unless_fault (writing.fault n (output out).left p) at (Say (Put p) (go (put_out p before)))) (sym limit)
        ∙ ap (λ o. unless_fault o at (Say (Put p) (go (put_out p before)))) t.taken
        ∙ ap (λ l. Say (Put p) (go (placed putting l st))) now;
  }
  puts_out leaves at p (Err (write.Fault f)) putting out out_now t none = record {
    said = [];
    tells = t.unsaid;
    does = λ given limit st go.
        let before : State = placed putting (output out).left st in
        to_output given (reverse putting.targets) at p before go none
        ∙ ap (λ n. unless_fault (writing.fault n (output out).left p) at (Say (Put p) (go (put_out p before)))) (sym limit)
        ∙ ap (λ o. unless_fault o at (Say (Put p) (go (put_out p before)))) t.refused;
  }
  puts_out leaves at p (Err write.Memory) putting out out_now t none = record {
    said = [];
    tells = t.unsaid;
    does = λ given limit st go. (puts given at (p ∷ []) (placed putting (output out).left st) go, refl);
  }

  -- what else the putting has may be other then
  pub puts_past : {A : Type 0} (at : Place) (parts : List Part) (r : Result A Stop) (old mid new : Putting) (out out_now : S) → mid.buffers ≡ new.buffers → mid.targets ≡ new.targets
      → Puts output told at parts r old mid out out_now → Puts output told at parts r old new out out_now
  puts_past at parts r old mid new out out_now buffers targets q = record {
    said = q.said;
    tells = q.tells;
    does = λ given limit st go.
        let left : Left = (output out_now).left in
        subst (λ (s : State). GoesAs r (puts given at parts (placed old (output out).left st) go) q.said (go s))
        (ap (λ b. record st { buffers = b; targets = reverse mid.targets; result = left }) buffers ∙ ap (λ t. record st { buffers = new.buffers; targets = reverse t; result = left }) targets)
        (q.does given limit st go);
  }

  -- an instruction that puts parts which it has at hand
  pub acts_by_puts : {A : Type 0} (p : Program) (x : Instr-F Instr When) (at : Place) (parts : List Part) (r : Result A Stop) (old new : Run) (out out_now : S)
      → ((given : Given) (self : Self) (a : Here) → SeesAs given p old self a → acts given x self a ≡ put_parts given at parts a)
      → new ≡ record old { putting = new.putting } → Puts output told at parts r old.putting new.putting out out_now
      → Acts output told p x r old new out out_now
  acts_by_puts p x at parts r old new out out_now is rest q = record {
    said = q.said;
    tells = q.tells;
    does = λ given limit self a sees here.
        let st : State = state_of given p old (output out).left in
        let go : State → Does = λ st. Ret (with_state a st) in
        let left : Left = (output out_now).left in
        let put : GoesAs r (puts given at parts st go) q.said (go (placed new.putting left st)) = q.does given limit st go in
        let now : placed new.putting left st ≡ state_of given p new left = ap (λ n. state_of given p n left) (sym rest) in
        subst (λ y. GoesAs r (acts given x self a) q.said (go y)) now
        (subst (λ y. GoesAs r y q.said (go (placed new.putting left st))) (sym (is given self a sees))
        (subst (λ y. GoesAs r (puts given at parts y go) q.said (go (placed new.putting left st))) (sym here) put));
  }

  -- a comment whose text an expression gives
  pub comment_acts : {A : Type 0} (p : Program) (c : Content) (at : Place) (text : List ℕ) (r : Result A Stop) (old : Run) (now : Putting) (out out_now : S)
      → content_text c (sight p old) ≡ Ok text → Puts output told at (part.Comment text ∷ []) r old.putting now out out_now
      → Acts output told p (Instr-F.Comment c at) r old (record old { putting = now }) out out_now
  comment_acts p c at text r old now out out_now gave q =
      acts_by_puts p (Instr-F.Comment c at) at (part.Comment text ∷ []) r old (record old { putting = now }) out out_now
      (λ given self a sees. ap (λ v. got at v (λ text. put_parts given at (part.Comment text ∷ []) a)) (content_seen given p old self a c sees ∙ gave)) refl q

  -- the run stops for want of it
  pub comment_stops : {A : Type 0} → ((s : S) → told s s []) → (p : Program) (c : Content) (at : Place) (e : Stop) (old : Run) (out : S)
      → Gave {A = List ℕ} at (Err e) (content_text c (sight p old)) → Acts {A = A} output told p (Instr-F.Comment c at) (Err e) old old out out
  comment_stops {A} nothing p c at e old out gave = record {
    said = [];
    tells = nothing out;
    does = λ given limit self a sees here.
        subst (λ v. GoesAs {A = A} (Err e) (got at v (λ text. put_parts given at (part.Comment text ∷ []) a)) [] (Ret (with_state a (state_of given p old (output out).left))))
        (sym (content_seen given p old self a c sees))
        (got_stops A e at (content_text c (sight p old)) (λ text. put_parts given at (part.Comment text ∷ []) a) (Ret (with_state a (state_of given p old (output out).left))) gave);
  }

  -- a message
  pub message_acts : {A : Type 0} → ((a b : S) (said : List Said) → told a b said → output b ≡ behind_all (output a) said) → (p : Program) (c : Content) (at : Place) (text : List ℕ) (done : A) (old : Run) (out out_now : S)
      → content_text c (sight p old) ≡ Ok text → told out out_now (Note text ∷ []) → Acts output told p (message_at c at) (Ok done) old old out out_now
  message_acts leaves p c at text done old out out_now gave told_it = record {
    said = Note text ∷ [];
    tells = told_it;
    does = λ given limit self a sees here.
        ap (λ v. got at v (λ t. Say (Note t) (Ret a))) (content_seen given p old self a c sees ∙ gave)
        ∙ ap (λ (st : State). Say (Note text) (Ret (with_state a st)))
        (here ∙ sym (ap (λ (t : Target). state_of given p old t.left) (leaves out out_now (Note text ∷ []) told_it)));
  }

  pub message_stops : (A : Type 0) → ((s : S) → told s s []) → (p : Program) (c : Content) (at : Place) (e : Stop) (old : Run) (out : S)
      → Gave {A = List ℕ} at (Err e) (content_text c (sight p old)) → Acts {A = A} output told p (message_at c at) (Err e) old old out out
  message_stops A nothing p c at e old out gave = record {
    said = [];
    tells = nothing out;
    does = λ given limit self a sees here.
        yields_stops A e (acts given (message_at c at) self a) (Ret (with_state a (state_of given p old (output out).left))) (λ (t : List ℕ). Say (Note t) (Ret a))
        (got_yields (List ℕ) e at (content_text c (setting given self a)) (content_text c (sight p old)) (λ t. Say (Note t) (Ret a)) (λ t. Say (Note t) (Ret a)) (content_seen given p old self a c sees) gave);
  }

  pub wants_memory : (A : Type 0) (p : Program) (x : Instr-F Instr When) (old new : Run) (out out_now : S) → told out out_now [] → Acts {A = A} output told p x (Err stop.Memory) old new out out_now
  wants_memory A p x old new out out_now unsaid = record { said = []; tells = unsaid; does = λ given limit self a sees here. (acts given x self a, refl) }

  pub messages : {A : Type 0} (p : Program) (i : Instr) (c : Content) (at where_now : Place) (r : Result A Stop) (old new : Run) (out out_now : S)
      → i ≡ instr.Message c at → where_now ≡ place (out-Instr i) → Acts output told p (message_at c where_now) r old new out out_now
      → Acts output told p (out-Instr i) r old new out out_now
  messages p i c at where_now r old new out out_now is here q =
      let same : out-Instr i ≡ Instr-F.Message c at = out_is i _ (Instr-F.Message c at) (rolls-Message c at) is in
      subst (λ y. Acts output told p y r old new out out_now) (sym same)
      (subst (λ k. Acts output told p (message_at c k) r old new out out_now) (here ∙ ap place same) q)

  -- a value
  pub value_acts : {A : Type 0} (p : Program) (select : Expr) (separator : Option Avt) (at : Place) (text : List ℕ) (r : Result A Stop) (old : Run) (now : Putting) (out out_now : S)
      → whole_text select separator (sight p old) ≡ Ok text → Puts output told at (text_parts text) r old.putting now out out_now
      → Acts output told p (value_at select separator at) r old (record old { putting = now }) out out_now
  value_acts p select separator at text r old now out out_now gave q =
      acts_by_puts p (value_at select separator at) at (text_parts text) r old (record old { putting = now }) out out_now
      (λ given self a sees.
      value_is given self a select separator at ∙ ap (λ v. got at v (λ t. put_parts given at (text_parts t) a)) (whole_seen given p old self a select separator sees ∙ gave)) refl q

  pub value_stops : (A : Type 0) → ((s : S) → told s s []) → (p : Program) (select : Expr) (separator : Option Avt) (at : Place) (e : Stop) (old : Run) (out : S)
      → Gave {A = List ℕ} at (Err e) (whole_text select separator (sight p old)) → Acts {A = A} output told p (value_at select separator at) (Err e) old old out out
  value_stops A nothing p select separator at e old out gave = record {
    said = [];
    tells = nothing out;
    does = λ given limit self a sees here.
        yields_stops A e (acts given (value_at select separator at) self a) (Ret (with_state a (state_of given p old (output out).left))) (λ (t : List ℕ). put_parts given at (text_parts t) a)
        (yields_by (Err e) _ _ (λ t. put_parts given at (text_parts t) a) (value_is given self a select separator at)
        (got_yields (List ℕ) e at (whole_text select separator (setting given self a)) (whole_text select separator (sight p old)) (λ t. put_parts given at (text_parts t) a) (λ t. put_parts given at (text_parts t) a)
        (whole_seen given p old self a select separator sees) gave));
  }

  pub values : {A : Type 0} (p : Program) (i : Instr) (select : Expr) (separator : Option Avt) (at where_now : Place) (r : Result A Stop) (old new : Run) (out out_now : S)
      → i ≡ instr.ValueOf select separator at → where_now ≡ place (out-Instr i) → Acts output told p (value_at select separator where_now) r old new out out_now
      → Acts output told p (out-Instr i) r old new out out_now
  values p i select separator at where_now r old new out out_now is here q =
      let same : out-Instr i ≡ Instr-F.ValueOf select separator at = out_is i _ (Instr-F.ValueOf select separator at) (rolls-ValueOf select separator at) is in
      subst (λ y. Acts output told p y r old new out out_now) (sym same)
      (subst (λ k. Acts output told p (value_at select separator k) r old new out out_now) (here ∙ ap place same) q)

  -- an attribute
  module _ (p : Program) (name : Avt) (namespace : Option Avt) (scope : List Binding) (c : Content) (at : Place) (old : Run) where
    abbrev attribute_is : Instr-F Instr When
    attribute_is = attribute_at name namespace scope c at

    abbrev put_one : Given → Here → (content_is : List ℕ) → Option Name → Does
    put_one given a content_is made = elim made [ None ↦ Halt (fault_at run_code.BadName at) | Some n ↦ put_parts given at (part.Attribute n content_is ∷ []) a ]

    behind_name : (given : Given) (self : Self) (a : Here) (text : List ℕ) → SeesAs given p old self a → template_text name (sight p old) ≡ Ok text
        → acts given attribute_is self a
        ≡ got at (namespace_text namespace (setting given self a)) (λ uri. got at (content_text c (setting given self a)) (λ t. put_one given a t (computed_name false scope uri text)))
    behind_name given self a text sees gave =
        ap (λ v. got at v (λ x. got at (namespace_text namespace (setting given self a)) (λ uri. got at (content_text c (setting given self a)) (λ t. put_one given a t (computed_name false scope uri x)))))
        (template_seen given p old self a name sees ∙ gave)

    behind_namespace : (given : Given) (self : Self) (a : Here) (text : List ℕ) (uri : Option (List ℕ)) → SeesAs given p old self a → template_text name (sight p old) ≡ Ok text
        → namespace_text namespace (sight p old) ≡ Ok uri
        → acts given attribute_is self a ≡ got at (content_text c (setting given self a)) (λ t. put_one given a t (computed_name false scope uri text))
    behind_namespace given self a text uri sees gave second =
        behind_name given self a text sees gave
        ∙ ap (λ v. got at v (λ u. got at (content_text c (setting given self a)) (λ t. put_one given a t (computed_name false scope u text)))) (namespace_seen given p old self a namespace sees ∙ second)

    behind_content : (given : Given) (self : Self) (a : Here) (text : List ℕ) (uri : Option (List ℕ)) (t : List ℕ) (made : Option Name) → SeesAs given p old self a
        → template_text name (sight p old) ≡ Ok text → namespace_text namespace (sight p old) ≡ Ok uri → content_text c (sight p old) ≡ Ok t → made ≡ computed_name false scope uri text
        → acts given attribute_is self a ≡ put_one given a t made
    behind_content given self a text uri t made sees gave second third is =
        behind_namespace given self a text uri sees gave second
        ∙ ap (λ v. got at v (λ x. put_one given a x (computed_name false scope uri text))) (content_seen given p old self a c sees ∙ third)
        ∙ ap (put_one given a t) (sym is)

    stops_so : (A : Type 0) → ((s : S) → told s s []) → (e : Stop) (out : S) → ((given : Given) (self : Self) (a : Here) → SeesAs given p old self a → Yields {A = List ℕ} (Err e) (acts given attribute_is self a) (λ t. Ret a))
        → Acts {A = A} output told p attribute_is (Err e) old old out out
    stops_so A nothing e out h = record {
      said = [];
      tells = nothing out;
      does = λ given limit self a sees here. yields_stops A e (acts given attribute_is self a) (Ret (with_state a (state_of given p old (output out).left))) (λ (t : List ℕ). Ret a) (h given self a sees);
    }

    pub attribute_stops_name : (A : Type 0) → ((s : S) → told s s []) → (e : Stop) (out : S) → Gave {A = List ℕ} at (Err e) (template_text name (sight p old))
        → Acts {A = A} output told p attribute_is (Err e) old old out out
    attribute_stops_name A nothing e out gave =
        stops_so A nothing e out
        (λ given self a sees.
        got_yields (List ℕ) e at (template_text name (setting given self a)) (template_text name (sight p old)) _ (λ t. Ret a) (template_seen given p old self a name sees) gave)

    pub attribute_stops_namespace : (A : Type 0) → ((s : S) → told s s []) → (text : List ℕ) (e : Stop) (out : S) → template_text name (sight p old) ≡ Ok text
        → Gave {A = Option (List ℕ)} at (Err e) (namespace_text namespace (sight p old)) → Acts {A = A} output told p attribute_is (Err e) old old out out
    attribute_stops_namespace A nothing text e out first gave =
        stops_so A nothing e out
        (λ given self a sees.
        yields_by (Err e) _ _ (λ t. Ret a) (behind_name given self a text sees first)
        (got_yields (List ℕ) e at (namespace_text namespace (setting given self a)) (namespace_text namespace (sight p old)) _ (λ t. Ret a) (namespace_seen given p old self a namespace sees) gave))

    pub attribute_stops_content : (A : Type 0) → ((s : S) → told s s []) → (text : List ℕ) (uri : Option (List ℕ)) (e : Stop) (out : S) → template_text name (sight p old) ≡ Ok text
        → namespace_text namespace (sight p old) ≡ Ok uri → Gave {A = List ℕ} at (Err e) (content_text c (sight p old)) → Acts {A = A} output told p attribute_is (Err e) old old out out
    attribute_stops_content A nothing text uri e out first second gave =
        stops_so A nothing e out
        (λ given self a sees.
        yields_by (Err e) _ _ (λ t. Ret a) (behind_namespace given self a text uri sees first second)
        (got_yields (List ℕ) e at (content_text c (setting given self a)) (content_text c (sight p old)) _ (λ t. Ret a) (content_seen given p old self a c sees) gave))

    pub attribute_nameless : (A : Type 0) → ((s : S) → told s s []) → (text : List ℕ) (uri : Option (List ℕ)) (t : List ℕ) (out : S) → template_text name (sight p old) ≡ Ok text
        → namespace_text namespace (sight p old) ≡ Ok uri → content_text c (sight p old) ≡ Ok t → None ≡ computed_name false scope uri text
        → Acts {A = A} output told p attribute_is (Err (stop.Fault (record { code = run_code.BadName; at = at }))) old old out out
    attribute_nameless A nothing text uri t out first second third is =
        stops_so A nothing (stop.Fault (record { code = run_code.BadName; at = at })) out (λ given self a sees. behind_content given self a text uri t None sees first second third is)

    pub attribute_acts : {A : Type 0} (text : List ℕ) (uri : Option (List ℕ)) (t : List ℕ) (n : Name) (r : Result A Stop) (now : Putting) (out out_now : S) → template_text name (sight p old) ≡ Ok text
        → namespace_text namespace (sight p old) ≡ Ok uri → content_text c (sight p old) ≡ Ok t → Some n ≡ computed_name false scope uri text
        → Puts output told at (part.Attribute n t ∷ []) r old.putting now out out_now → Acts output told p attribute_is r old (record old { putting = now }) out out_now
    attribute_acts text uri t n r now out out_now first second third is q =
        acts_by_puts p attribute_is at (part.Attribute n t ∷ []) r old (record old { putting = now }) out out_now
        (λ given self a sees. behind_content given self a text uri t (Some n) sees first second third is) refl q

  pub attributes : {A : Type 0} (p : Program) (i : Instr) (name : Avt) (namespace : Option Avt) (scope : List Binding) (c : Content) (at where_now : Place) (r : Result A Stop) (old new : Run) (out out_now : S)
      → i ≡ instr.Attribute name namespace scope c at → where_now ≡ place (out-Instr i) → Acts output told p (attribute_at name namespace scope c where_now) r old new out out_now
      → Acts output told p (out-Instr i) r old new out out_now
  attributes p i name namespace scope c at where_now r old new out out_now is here q =
      let same : out-Instr i ≡ Instr-F.Attribute name namespace scope c at = out_is i _ (Instr-F.Attribute name namespace scope c at) (rolls-Attribute name namespace scope c at) is in
      subst (λ y. Acts output told p y r old new out out_now) (sym same)
      (subst (λ k. Acts output told p (attribute_at name namespace scope c k) r old new out out_now) (here ∙ ap place same) q)

  pub comments : {A : Type 0} (p : Program) (i : Instr) (c : Content) (at where_now : Place) (r : Result A Stop) (old new : Run) (out out_now : S)
      → i ≡ instr.Comment c at → where_now ≡ place (out-Instr i) → Acts output told p (comment_at c where_now) r old new out out_now
      → Acts output told p (out-Instr i) r old new out out_now
  comments p i c at where_now r old new out out_now is here q =
      let same : out-Instr i ≡ Instr-F.Comment c at = out_is i _ (Instr-F.Comment c at) (rolls-Comment c at) is in
      subst (λ y. Acts output told p y r old new out out_now) (sym same)
      (subst (λ k. Acts output told p (comment_at c k) r old new out out_now) (here ∙ ap place same) q)

  -- an instruction that stops for want of a name
  pub name_stops : (A : Type 0) → ((s : S) → told s s []) → (p : Program) (x : Instr-F Instr When) (at : Place) (name : Avt) (namespace : Option Avt) (scope : List Binding) (part_of : Name → Part) (e : Stop) (old : Run) (out : S)
      → ((given : Given) (self : Self) (a : Here) → acts given x self a ≡ named given at true name namespace scope self a (λ n. put_parts given at (part_of n ∷ []) a))
      → NamesAs at name namespace scope p old (Err e) → Acts {A = A} output told p x (Err e) old old out out
  name_stops A nothing p x at name namespace scope part_of e old out is names = record {
    said = [];
    tells = nothing out;
    does = λ given limit self a sees here.
        subst (λ y. GoesAs {A = A} (Err e) y [] (Ret (with_state a (state_of given p old (output out).left)))) (sym (is given self a))
        (yields_stops A e (named given at true name namespace scope self a (λ n. put_parts given at (part_of n ∷ []) a)) _ (λ n. put_parts given at (part_of n ∷ []) a)
        (names given self a sees (λ n. put_parts given at (part_of n ∷ []) a)));
  }

  -- and one that puts a part with it
  pub name_acts : {A : Type 0} (p : Program) (x : Instr-F Instr When) (at : Place) (name : Avt) (namespace : Option Avt) (scope : List Binding) (part_of : Name → Part) (n : Name) (r : Result A Stop) (old : Run) (now : Putting) (out out_now : S)
      → ((given : Given) (self : Self) (a : Here) → acts given x self a ≡ named given at true name namespace scope self a (λ n. put_parts given at (part_of n ∷ []) a))
      → NamesAs at name namespace scope p old (Ok n) → Puts output told at (part_of n ∷ []) r old.putting now out out_now
      → Acts output told p x r old (record old { putting = now }) out out_now
  name_acts p x at name namespace scope part_of n r old now out out_now is names q =
      acts_by_puts p x at (part_of n ∷ []) r old (record old { putting = now }) out out_now
      (λ given self a sees. is given self a ∙ names given self a sees (λ n. put_parts given at (part_of n ∷ []) a)) refl q

  pub starts : {A : Type 0} (p : Program) (i : Instr) (name : Avt) (namespace : Option Avt) (scope : List Binding) (at where_now : Place) (r : Result A Stop) (old new : Run) (out out_now : S)
      → i ≡ instr.StartElement name namespace scope at → where_now ≡ place (out-Instr i) → Acts output told p (start_at name namespace scope where_now) r old new out out_now
      → Acts output told p (out-Instr i) r old new out out_now
  starts p i name namespace scope at where_now r old new out out_now is here q =
      let same : out-Instr i ≡ Instr-F.StartElement name namespace scope at = out_is i _ (Instr-F.StartElement name namespace scope at) (rolls-StartElement name namespace scope at) is in
      subst (λ y. Acts output told p y r old new out out_now) (sym same)
      (subst (λ k. Acts output told p (start_at name namespace scope k) r old new out out_now) (here ∙ ap place same) q)

  pub ends : {A : Type 0} (p : Program) (i : Instr) (name : Avt) (namespace : Option Avt) (scope : List Binding) (at where_now : Place) (r : Result A Stop) (old new : Run) (out out_now : S)
      → i ≡ instr.EndElement name namespace scope at → where_now ≡ place (out-Instr i) → Acts output told p (end_at name namespace scope where_now) r old new out out_now
      → Acts output told p (out-Instr i) r old new out out_now
  ends p i name namespace scope at where_now r old new out out_now is here q =
      let same : out-Instr i ≡ Instr-F.EndElement name namespace scope at = out_is i _ (Instr-F.EndElement name namespace scope at) (rolls-EndElement name namespace scope at) is in
      subst (λ y. Acts output told p y r old new out out_now) (sym same)
      (subst (λ k. Acts output told p (end_at name namespace scope k) r old new out out_now) (here ∙ ap place same) q)

  -- a text that is at hand
  text_acts : {A : Type 0} (p : Program) (i : Instr) (x : Instr-F Instr When) (text : List ℕ) (at where_now : Place) (r : Result A Stop) (old : Run) (now : Putting) (out out_now : S)
      → out-Instr i ≡ x → ((given : Given) (self : Self) (a : Here) → acts given x self a ≡ put_parts given at (text_parts text) a) → place x ≡ at
      → where_now ≡ place (out-Instr i) → Puts output told where_now (text_parts text) r old.putting now out out_now
      → Acts output told p (out-Instr i) r old (record old { putting = now }) out out_now
  text_acts p i x text at where_now r old now out out_now is does there here q =
      subst (λ y. Acts output told p y r old (record old { putting = now }) out out_now) (sym is)
      (acts_by_puts p x at (text_parts text) r old (record old { putting = now }) out out_now (λ given self a sees. does given self a) refl
      (subst (λ k. Puts output told k (text_parts text) r old.putting now out out_now) (here ∙ ap place is ∙ there) q))

  pub chars_acts : {A : Type 0} (p : Program) (i : Instr) (text : List ℕ) (at where_now : Place) (r : Result A Stop) (old : Run) (now : Putting) (out out_now : S)
      → i ≡ instr.Chars text at → where_now ≡ place (out-Instr i) → Puts output told where_now (text_parts text) r old.putting now out out_now
      → Acts output told p (out-Instr i) r old (record old { putting = now }) out out_now
  chars_acts p i text at where_now r old now out out_now is here q =
      text_acts p i (Instr-F.Chars text at) text at where_now r old now out out_now (out_is i _ (Instr-F.Chars text at) (rolls-Chars text at) is) (λ given self a. refl) refl here q

  pub literal_acts : {A : Type 0} (p : Program) (i : Instr) (text : List ℕ) (at where_now : Place) (r : Result A Stop) (old : Run) (now : Putting) (out out_now : S)
      → i ≡ instr.LiteralChars text at → where_now ≡ place (out-Instr i) → Puts output told where_now (text_parts text) r old.putting now out out_now
      → Acts output told p (out-Instr i) r old (record old { putting = now }) out out_now
  literal_acts p i text at where_now r old now out out_now is here q =
      text_acts p i (Instr-F.LiteralChars text at) text at where_now r old now out out_now (out_is i _ (Instr-F.LiteralChars text at) (rolls-LiteralChars text at) is) (λ given self a. refl) refl here q

  -- the place of the body doesn't matter
  pub acts_behind : {A : Type 0} (p : Program) (x : Instr-F Instr When) (r : Result A Stop) (n : ℕ) (old mid new : Run) (out out_now : S)
      → reverse mid.frames.frames ≡ on_body (with_pc n) (reverse old.frames.frames) → mid ≡ record old { frames = mid.frames }
      → Acts output told p x r mid new out out_now → Acts output told p x r old new out out_now
  acts_behind p x r n old mid new out out_now behind rest q = record {
    said = q.said;
    tells = q.tells;
    does = λ given limit self a sees here.
        q.does given limit self a (sees_behind given p old mid n self a behind rest sees) (here ∙ sym (ap (λ n. state_of given p n (output out).left) rest));
  }

  -- another answer where all is well
  pub goes_alike : {Q R A B : Type 0} (r : Result A Stop) (b : B) (x y : Course Q R Said Ending) (said : List Said) → GoesAs r x said y → GoesAs (answered r b) x said y
  goes_alike (Ok done) b x y said h = h
  goes_alike (Err (stop.Fault f)) b x y said h = h
  goes_alike (Err (stop.Spent at)) b x y said h = h
  goes_alike (Err stop.Memory) b x y said h = h

  pub acts_answered : {A B : Type 0} (p : Program) (x : Instr-F Instr When) (r : Result A Stop) (b : B) (old new : Run) (out out_now : S)
      → Acts output told p x r old new out out_now → Acts output told p x (answered r b) old new out out_now
  acts_answered p x r b old new out out_now q = record {
    said = q.said;
    tells = q.tells;
    does = λ given limit self a sees here.
        goes_alike r b (acts given x self a) (Ret (with_state a (state_of given p new (output out_now).left))) q.said (q.does given limit self a sees here);
  }

  pub acts_after : {A B : Type 0} (p : Program) (x : Instr-F Instr When) (r : Result A Stop) (b : B) (n : ℕ) (old mid new : Run) (out out_now : S)
      → reverse mid.frames.frames ≡ on_body (with_pc n) (reverse old.frames.frames) → mid ≡ record old { frames = mid.frames }
      → Acts output told p x r mid new out out_now → Acts output told p x (answered r b) old new out out_now
  acts_after p x r b n old mid new out out_now behind rest q =
      acts_behind p x (answered r b) n old mid new out out_now behind rest (acts_answered p x r b mid new out out_now q)

pub on_ok_all : {A E P : Type 0} (r : Result A E) → P → OnOk r P
on_ok_all (Ok done) h = h
on_ok_all (Err e) h = tt

same_rest : (old new : Run) (frames : FrameStack) (putting : Putting) → new ≡ record old { frames = frames; putting = putting }
    → new ≡ record old { frames = new.frames; store = new.store; putting = new.putting; fuel = new.fuel }
same_rest old new frames putting e = e ∙ sym (ap (λ (n : Run). record old { frames = n.frames; store = n.store; putting = n.putting; fuel = n.fuel }) e)

-- a body that goes on, and then parts that are put
pub passes_by : {A : Type 0} (pc : ℕ) (r : Result A Stop) (old mid new : Run) → reverse mid.frames.frames ≡ on_body (with_pc (pc + 1)) (reverse old.frames.frames)
    → mid ≡ record old { frames = mid.frames } → new ≡ record mid { putting = new.putting } → Passes pc r old new
passes_by pc r old mid new behind rest puts_only = record {
  behind = on_ok_all r (ap (λ (n : Run). reverse n.frames.frames) puts_only ∙ behind);
  rest = same_rest old new mid.frames new.putting (puts_only ∙ ap (λ (n : Run). record n { putting = new.putting }) rest);
}

-- which an instruction of another kind isn't
pub only_texts : {P : Type 0} (i j : Instr) (x : Instr-F Instr When) → roll-Instr x ≡ j → i ≡ j → (GivesText x → ⊥) → GivesText (out-Instr i) → P
only_texts i j x rolls is not_text gives = absurd (not_text (subst GivesText (out_is i j x rolls is) gives))
