-- A body is entered, and left.
use Rattle.std.proofs.Common.{◌≡◌, ℕ, Bool, true, false, List, [], ◌∷◌, map, Some, IsSome, refl, ap, sym, subst, ◌∙◌, append-nil}
use Rattle.std.specs.List.{slice_get}
use Rattle.std.specs.Prelude.{◌&&◌, not, if◌then◌else◌, MatchBool}
use Rattle.frame_stack.specs.declared.frame.Frame.{Frame}
use Rattle.frame_stack.specs.declared.frame.Frame.TheVariants.{Body, Call}
use Rattle.frame_stack.specs.declared.locals.Local.{Local}
use Rattle.node_stack.specs.Path.{can_have_children, is_attribute}
use Rattle.instr_code.specs.declared.code.Op.TheVariants as op
use Rattle.sheet_model.specs.declared.sheet.Template.{Template}
use Rattle.std.proofs.lemmas.Bool.{false≢true}
use Rattle.template_machine.specs.Bodies.{level_in, spent_in}
use Rattle.template_machine.specs.Contexts.{Goes, HasStations, Named, Station, begun}
use Rattle.template_machine.specs.Standing.{Front, Known, Standing, Unknown, node_over, scope_over, writing_over}
use Rattle.template_machine.specs.Ways.{Way, here, left, number_of}
use Rattle.template_machine.specs.Well.{AreOf, AreWell, BodyGoesOn, CanTake, CanTakeOff, HeadFront, HeadIsThere, IsFrontFor, IsOpen, IsSettled, IsTemplate, PassesBy, buffers_of, is_again, over}
use Rattle.template_machine.specs.declared.program.Program.{Program}
use Rattle.template_machine.proofs.Ways.{leaf_left}

-- a choice that is decided
pub over_head : (level : ℕ) (fs : List Frame) (s : Standing) → is_again level fs ≡ false → over level fs s ≡ node_over s
over_head level fs s e = ap (λ b. if b then s else node_over s) e

pub over_again : (level : ℕ) (fs : List Frame) (s : Standing) → is_again level fs ≡ true → over level fs s ≡ s
over_again level fs s e = ap (λ b. if b then s else node_over s) e

-- where nothing is known behind a node without a list, nothing is known around it
pub known_leaf : (w : Way) (n : ℕ) (front : Front) → can_have_children (here w) ≡ false → IsOpen w n front → IsFrontFor (left w) n front
known_leaf w n front none o =
    let same : IsFrontFor (left w) n Unknown = leaf_left w none ∙ o.1 in subst (IsFrontFor (left w) n) (sym o.0) same

pub known_open : (b : Bool) (w : Way) (n : ℕ) (front : Front) → (b ≡ false → can_have_children (here w) ≡ false) → IsOpen w n front
    → MatchBool b (IsOpen w n front) (IsFrontFor (left w) n front)
known_open true w n front leaf o = o
known_open false w n front leaf o = known_leaf w n front (leaf refl) o

-- a head's body goes on
head_by : (x b : Bool) (A : Type 0) (w : Way) (n : ℕ) (front : Front) → (b ≡ false → can_have_children (here w) ≡ false) → MatchBool x A (IsOpen w n front)
    → MatchBool x A (MatchBool b (IsOpen w n front) (IsFrontFor (left w) n front))
head_by true b A w n front leaf h = h
head_by false b A w n front leaf h = known_open b w n front leaf h

unspent_leaf : (b spent : Bool) → spent ≡ false → (b && not spent) ≡ false → b ≡ false
unspent_leaf true true none e = absurd (false≢true (sym none))
unspent_leaf true false none e = absurd (false≢true (sym e))
unspent_leaf false spent none e = refl

pub fits_head :
    (number alternative pc level : ℕ) (spent : Bool) (locals : List Local) (fs : List Frame) (w : Way) (n : ℕ) (front : Front) → spent ≡ false → is_again level fs ≡ false
    → HeadFront fs w n front → IsSettled (Body number alternative pc locals level spent ∷ fs) w n front
fits_head number alternative pc level spent locals fs w n front unspent e h =
    let a : Type 0 = IsSettled fs w n front in
    let b : Type 0 = IsSettled fs (left w) n front in
    let c : Type 0 = MatchBool (can_have_children (here w) && not spent) (IsOpen w n front) (IsFrontFor (left w) n front) in
    subst (λ x. MatchBool x a (MatchBool (is_attribute (here w)) b c)) (sym e)
    (head_by (is_attribute (here w)) (can_have_children (here w) && not spent) b w n front (unspent_leaf (can_have_children (here w)) spent unspent) h)

module _ (p : Program) (stations : List Station) where
  -- the body of a template at its beginning, with its parameters: a new scope may have been laid over the groups
  pub enters :
      (fs : List Frame) (s t : Standing) (number alternative pc level : ℕ) (spent : Bool) (locals : List Local) (template : Template) (known : Known)
      → HeadIsThere p stations fs s known
      → spent ≡ false
      → slice_get p.sheet.templates number ≡ Some template
      → PassesBy p template alternative (here s.source.way)
      → Goes stations pc (begun number template.params)
      → AreOf locals (map (λ v. Named v.name) template.params)
      → level ≡ number_of s.source.way
      → t.source ≡ s.source
      → scope_over template.new_scope template.group t ≡ s
      → (template.new_scope ≡ true → CanTakeOff template.group t)
      → BodyGoesOn p stations (Body number alternative pc locals level spent ∷ fs) t known
  enters fs s t number alternative pc level spent locals template known h unspent is passes there are own same scope takes =
      let apart : is_again level fs ≡ false = ap (λ n. is_again n fs) own ∙ h.apart in
      record {
        body = refl;
        well = (
          begun number template.params,
          (
            template,
            (
              record {
                there = there;
                own = refl;
                in_loops = refl;
                locals_fit = (locals, ([], (sym (append-nil locals), refl, are)));
                asked = λ e. absurd (false≢true e);
                level_is = own ∙ ap (λ x. number_of x.way) (sym same);
                writes = (t.targets, refl);
              },
              record { template_is = is; passes_by = subst (PassesBy p template alternative) (ap (λ x. here x.way) (sym same)) passes; own_copies = takes },
              (λ e. subst (λ x. CanTake fs x.way) (sym same) h.take),
              (λ e. absurd (false≢true (sym apart ∙ e))),
              subst (AreWell p stations 0 true fs) (sym (over_head level fs (scope_over template.new_scope template.group t) apart ∙ ap node_over scope)) h.well,
            ),
          ),
        );
        fits =
            subst (λ x. IsSettled (Body number alternative pc locals level spent ∷ fs) x.way known.begun known.front) (sym same)
            (fits_head number alternative pc level spent locals fs s.source.way known.begun known.front unspent apart h.fits);
      }

  -- A procedure's body is over.
  pub procedure_over : (fs : List Frame) (s : Standing) (number pc level : ℕ) (locals : List Local) → HasStations p.code stations p.sheet
      → slice_get p.code.ops pc ≡ Some op.Return → AreWell p stations 0 false (Call number pc locals level ∷ fs) s
      → AreWell p stations 0 false fs s × IsSome (level_in fs)
  procedure_over fs s number pc level locals stand is w =
      let g = w.1.1.0.there in
      let l = stand.leads pc op.Return w.0 g.0 is g.1 in (
        subst (λ ws. AreWell p stations 0 false fs (writing_over (buffers_of p ws) s)) l.1 w.1.1.3,
        subst (λ o. IsSome o) (sym w.1.1.2) refl,
      )

  -- A template's body is over: its copies are taken off, and its node is over or goes on.
  pub template_over : (fs : List Frame) (s : Standing) (number alternative pc level : ℕ) (spent : Bool) (locals : List Local) → HasStations p.code stations p.sheet
      → slice_get p.code.ops pc ≡ Some op.Return → AreWell p stations 0 false (Body number alternative pc locals level spent ∷ fs) s
      → (t : Template) × ((slice_get p.sheet.templates number ≡ Some t) × (t.new_scope ≡ true → CanTakeOff t.group s) × (level ≡ number_of s.source.way)
      × (is_again level fs ≡ false → CanTake fs s.source.way) × (is_again level fs ≡ true → spent_in fs ≡ Some spent) × AreWell p stations 0 true fs (over level fs (scope_over t.new_scope t.group s)))
  template_over fs s number alternative pc level spent locals stand is w =
      let g = w.1.1.0.there in
      let l = stand.leads pc op.Return w.0 g.0 is g.1 in
      let t = w.1.0 in
      let i : IsTemplate p number alternative t s = subst (λ ws. IsTemplate p number alternative t (writing_over (buffers_of p ws) s)) l.1 w.1.1.1 in (
        t,
        (
          i.template_is,
          i.own_copies,
          w.1.1.0.level_is,
          (λ e. subst (λ ws. CanTake fs (writing_over (buffers_of p ws) s).source.way) l.1 (w.1.1.2 e)),
          w.1.1.3,
          subst (λ ws. AreWell p stations 0 true fs (over level fs (scope_over t.new_scope t.group (writing_over (buffers_of p ws) s)))) l.1 w.1.1.4,
        ),
      )
