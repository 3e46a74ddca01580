-- The body of a template begins.
use Rattle.std.proofs.Common.{◌≡◌, ◌≤◌, ℕ, Bool, true, false, List, [], ◌∷◌, Option, Some, None, refl, ap, sym, subst, ◌∙◌}
use Rattle.std.specs.Prelude.{if◌then◌else◌, slice_get}
use Rattle.stx_base.specs.Course.{Ask, Same}
use Rattle.stx_base.proofs.Course.{same_equal, same_then}
use Rattle.stxpath_values.specs.declared.value.Atom.{Atom}
use Rattle.frame_stack.specs.declared.frame.Frame.{Frame}
use Rattle.frame_stack.specs.declared.frame.Frame.TheVariants.{Body}
use Rattle.frame_stack.specs.declared.locals.Local.{Local}
use Rattle.instr_code.specs.Code.{code_of, sheet_bodies}
use Rattle.instr_code.specs.Running.{At}
use Rattle.sheet_model.specs.declared.sheet.Template.{Template}
use Rattle.var_store.specs.declared.bound.Bound.{Bound}
use Rattle.xml_events.specs.Tree.{Future}
use Rattle.template_machine.specs.Declaring.{ends_scope}
use Rattle.template_machine.specs.Job as job
use Rattle.template_machine.specs.Job.{Given, Here, Self}
use Rattle.template_machine.specs.Outcome.{AreNew}
use Rattle.template_machine.specs.Passing.{finish, returns}
use Rattle.template_machine.specs.Seen.{named_of}
use Rattle.template_machine.specs.Still as still
use Rattle.template_machine.specs.Still.{Lists, Returns, Runs, Scene, aside_of}
use Rattle.template_machine.specs.Stepwise.{Flat_does, Working, begun, flat_code, lifted}
use Rattle.template_machine.specs.Well.{is_again}
use Rattle.template_machine.specs.declared.program.Program.{Program}
use Rattle.template_machine.proofs.RunByCode.{bodies_run}

module _ (given : Given) (p : Program) (new : AreNew given) where
  module _ (template alternative start level : ℕ) (locals : List Local) (fs : List Frame) (c : Scene) (f : Future) (t : Template) (a b : Here) where
    abbrev frame : Frame
    frame = Body template alternative start locals level false

    abbrev whose : Self
    whose = still.self_of given p level frame fs c

    -- what follows the body
    abbrev behind : Here → Flat_does
    behind h = lifted (finish given c.source (record h { locals = a.locals; state = ends_scope given t.new_scope t.group h.state })) (still.rest given p Lists [] fs (still.node_over c) f)

    abbrev at_start : Self → List (List Atom) → List Bound → Working
    at_start self aside own = record { self = self; here = record b { locals = own }; aside = aside; turns = [] }

    -- a body that runs by its instructions comes to the same as its frame
    pub body_enters : (self : Self) → slice_get given.sheet.templates template ≡ Some t → slice_get (sheet_bodies given.sheet) template ≡ Some t.body
        → slice_get (code_of given.sheet).starts template ≡ Some start → is_again level fs ≡ false → a.locals ≡ [] → b.state.fuel ≤ given.limits.fuel → self ≡ whose → aside_of locals ≡ []
        → b.locals ≡ named_of locals
        → Same (flat_code given) (lifted (Ask (job.Body t.body self b) (returns given t a (finish given c.source))) (still.rest given p Lists [] fs (still.node_over c) f))
        (still.rest given p Runs [] (frame ∷ fs) c f b)
    body_enters self there body code apart bare fuel who none own =
        same_then (bodies_run given new template start t.body self b behind body code fuel)
        (same_equal (flat_code given)
        (ap (λ s. Ask (At start (at_start s [] b.locals)) (λ (w : Working). behind w.here)) who
        ∙ ap (λ x. Ask (At start (at_start whose x b.locals)) (λ (w : Working). behind w.here)) (sym none)
        ∙ ap (λ l. Ask (At start (at_start whose (aside_of locals) l)) (λ (w : Working). behind w.here)) own
        ∙ ap (λ (l : List Bound). Ask (At start (at_start whose (aside_of locals) (named_of locals))) (λ (w : Working).
        lifted (finish given c.source (record w.here { locals = l; state = ends_scope given t.new_scope t.group w.here.state })) (still.rest given p Lists [] fs (still.node_over c) f))) bare
        ∙ ap (λ o. Ask (At start (at_start whose (aside_of locals) (named_of locals))) (λ (w : Working).
        lifted (finish given c.source (record w.here { locals = []; state = still.scope_ends given p o w.here.state })) (still.rest given p Lists [] fs (still.node_over c) f))) (sym there)
        ∙ ap (λ again. Ask (At start (at_start whose (aside_of locals) (named_of locals))) (λ (w : Working).
        still.template_over given p template again c (still.rest given p Returns [] fs c f) (still.rest given p Lists [] fs (still.node_over c) f) w.here)) (sym apart)))
