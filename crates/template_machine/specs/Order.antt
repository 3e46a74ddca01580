-- The order of a sheet's templates.
use Rattle.std.specs.Prelude.{◌≡◌, ◌↔◌, ◌<◌, ℕ, true, List, Contains, slice_get}
use Rattle.stx_base.specs.Course.{Ends}
use Rattle.sheet_model.specs.declared.sheet.Template.{Template}
use Rattle.group_scope.specs.Choice.{Candidate, does_fit, visible}
use Rattle.xml_events.specs.Tree.{Forest}
use Rattle.template_machine.specs.Ending.{Ending, Said}
use Rattle.template_machine.specs.Job.{Given, State}
use Rattle.template_machine.specs.Meaning.{code, meaning}
use Rattle.template_machine.specs.Trail.{Trail}
use Rattle.template_machine.specs.Values.{pattern_setting}

-- The same templates in another order: where each stands now, and where it stood before.
pub record Reorders (old new : List Template) : Type 0 where
  pub now : ℕ → ℕ
  pub before : ℕ → ℕ
  pub there : (n : ℕ) → before (now n) ≡ n
  pub back : (n : ℕ) → now (before n) ≡ n
  pub same : (n : ℕ) → slice_get new (now n) ≡ slice_get old n

-- Two alternatives are equals where some base group sees both in one category, they have one priority, and both fit one node: only their
-- places in the sheet decide between them.
pub record AreEquals (given : Given) (x y : Candidate) : Type 0 where
  pub base : ℕ
  pub one : Contains (visible given.sheet base) x
  pub other : Contains (visible given.sheet base) y
  pub category : x.rank.category ≡ y.rank.category
  pub priority : x.rank.priority ≡ y.rank.priority
  pub trail : Trail
  pub state : State
  pub one_fits : does_fit (pattern_setting given trail state) x ≡ true
  pub other_fits : does_fit (pattern_setting given trail state) y ≡ true

-- of equals of two templates, the later one stays the later one
abbrev pub KeepsEquals : Given → (now : ℕ → ℕ) → Type 0
KeepsEquals given now =
    (x y : Candidate) → AreEquals given x y → x.rank.template < y.rank.template → now x.rank.template < now y.rank.template

-- a run of the same sheet with these templates
abbrev pub with_templates : Given → List Template → Given
with_templates given templates = record given { sheet = record given.sheet { templates = templates } }

-- The order of templates matters only among equals: where these keep theirs, the sheet means the same.
abbrev pub OrderMattersAmongEquals : Type 0
OrderMattersAmongEquals =
    (given : Given) (templates : List Template) (order : Reorders given.sheet.templates templates) → KeepsEquals given order.now
    → (tree : Forest) (os : List Said) (e : Ending)
    → let other = with_templates given templates in Ends (code given) (meaning given tree) os e ↔ Ends (code other) (meaning other tree) os e
